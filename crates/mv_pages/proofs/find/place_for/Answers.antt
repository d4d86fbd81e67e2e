use Rattle.std.proofs.Common.{sym}
use Rattle.mv_pages.proofs.Found.{insert_found, insert_none}
use Rattle.mv_pages.proofs.find.place_for.Goals as goal

pub returns-in-Some-clause-place : goal.returns-in-Some-clause-place
returns-in-Some-clause-place c = insert_found c.args.entries.now c.args.low c.in-Some.index (sym c.in-Some.ensures)

pub returns-in-None-clause-place : goal.returns-in-None-clause-place
returns-in-None-clause-place c = insert_none c.args.entries.now c.args.low (sym c.in-None.ensures)
