-- What the states tell is what the history says.
use Rattle.std.proofs.Common.{◌≡◌, ℕ, List, refl}
use Rattle.bw_types.specs.History.{History, changes}
use Rattle.bw_types.specs.declared.change.Change.{Change}
use Rattle.session_book.specs.Told.{life_in, IsToldOf}
use Rattle.warehouse.specs.Kept.{IsLedger, IsTold, state_in}
use Rattle.warehouse.specs.Standing.{IsStanding, history_in}
use Rattle.warehouse.specs.Told.{life_of_state}
use Rattle.warehouse.specs.declared.life.Life.{Life}
use Rattle.warehouse.specs.declared.life.State.{State}
use Rattle.warehouse.specs.declared.life.State.TheVariants.{Never, Live, Withdrawn}
use Rattle.warehouse.specs.declared.list_house.ListHouse.TheInside.{Inside}
use Rattle.warehouse.proofs.Ledger.{not_live, live_then}

told_life : (h : History) (cs : List Change) (w : ℕ) (lives : List Life) (states : ℕ → State) → IsLedger h cs w lives states
    → (id : ℕ) (s : State) → states id ≡ s → IsTold s id cs lives → life_of_state s ≡ life_in cs id
told_life h cs w lives states ledger id Never e told =
    let quiet = not_live h cs w lives states ledger id (λ place f. cc) in rw (quiet, told) refl
told_life h cs w lives states ledger id (Live place) e told =
    let live = live_then h cs w lives states ledger id place e in rw live refl
told_life h cs w lives states ledger id Withdrawn e told =
    let quiet = not_live h cs w lives states ledger id (λ place f. cc) in rw (quiet, told) refl

pub is_told_of : (a : Inside) → IsStanding a → IsToldOf a.params (λ id. life_of_state (state_in a.states id)) a.events a.mass (history_in a)
is_told_of a stands = record {
  lives = λ id small. told_life (history_in a) (changes (history_in a)) _ a.lives.items (state_in a.states) stands.ledger id (state_in a.states id) refl (stands.ledger.told id);
  all_events = stands.events;
  all_mass = stands.mass;
}
