use Rattle.std.proofs.Common.{arith}
use Rattle.session_book.proofs.Rows.{length-flat}
use Rattle.session_book.proofs.refusals.first_refusal.Goals as goal

pub first_refused_row-requires-clause-few : goal.first_refused_row-requires-clause-few
first_refused_row-requires-clause-few g c = omega (arith, length-flat c.args.rows.now)
