use Rattle.redo_journal.proofs.ReplayLemmas.{last_is}
use Rattle.settled_pages.proofs.heads.last_home.Goals as goal

pub returns-in-Some : goal.returns-in-Some
returns-in-Some c = last_is c.args.last c.in-Some.home.now c.args.homes.now c.in-Some.ensures.value
