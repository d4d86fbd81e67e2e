-- What a state tells of its id.
use Rattle.session_book.specs.declared.seen.Life.{Life}
use Rattle.session_book.specs.declared.seen.Life.TheVariants as life
use Rattle.warehouse.specs.declared.life.State.{State}
use Rattle.warehouse.specs.declared.life.State.TheVariants.{Never, Live, Withdrawn}

abbrev pub life_of_state : State → Life
life_of_state Never = life.Never
life_of_state (Live place) = life.Live
life_of_state Withdrawn = life.Withdrawn
