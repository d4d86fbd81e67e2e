use Rattle.sample_rows.proofs.Totals.{cut_there}
use Rattle.sample_rows.proofs.summary.cut.Goals as goal

pub returns-in-Some : goal.returns-in-Some
returns-in-Some c = cut_there c.args.replies.now c.in-Some.end c.place_of.result c.place_of.ensures c.in-Some.is
