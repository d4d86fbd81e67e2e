use Rattle.page_warehouse.proofs.EventNumbers.{made_numbers, numbers_make}
use Rattle.page_warehouse.proofs.numbering.make_history.Goals as goal

pub returns : goal.returns
returns c = (λ yes. numbers_make c.args.last c.args.events.now (c.are_numbered.ensures.0 yes), λ made. c.are_numbered.ensures.1 (made_numbers c.args.last c.args.events.now made.0 made.1 made.2))
