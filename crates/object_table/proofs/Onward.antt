-- How a walk gets on, whatever the pages hold.
use Rattle.std.proofs.Common.{◌≡◌, ℕ, suc, ◌+◌, ◌-◌, ◌<◌, ◌≤◌, List, length, get_or, drop, sym, subst, arith, drop-cons}
use Rattle.std.specs.List.{All}
use Rattle.page_layout.specs.declared.life_node.LifeEntry.{LifeEntry}
use Rattle.object_table.specs.declared.path.Step.{Step}
use Rattle.object_table.specs.Keys.{low_key}
use Rattle.object_table.specs.Steps.{IsCut, IsStepTo}
use Rattle.object_table.proofs.Searching.{All-head}

abbrev no_entry : LifeEntry
no_entry = record { low_id = 0; low_life = 0; child = 0 }

-- The step leads no lower than the node begins.
pub step_from : (entries told : List LifeEntry) (k low sought high : ℕ) (step : Step) → entries ≡ told → All (λ e. low ≤ low_key e) told → IsCut entries k sought → 1 ≤ k
    → ((d : LifeEntry) → IsStepTo step (get_or entries (k - 1) d) (drop (k - 1 + 1) entries) high sought) → low ≤ step.place.low
step_from entries told k low sought high step same begin cut some leads =
    let here : low ≤ low_key (get_or entries (k - 1) no_entry) =
    subst (λ (es : List LifeEntry). All (λ (e : LifeEntry). low ≤ low_key e) es) (sym same) begin (k - 1) no_entry (omega (arith, some, cut.bound)) in
    omega (arith, here, (leads no_entry).place.low)

-- The entry after those that have begun begins above the key sought.
pub past_above : (entries : List LifeEntry) (k sought high : ℕ) (next : Step) → IsCut entries k sought → k < length entries
    → ((d : LifeEntry) → IsStepTo next (get_or entries k d) (drop (k + 1) entries) high (low_key (get_or entries k d))) → sought < next.place.low
past_above entries k sought high next cut more leads =
    let here : sought < low_key (get_or entries k no_entry) =
    All-head (λ (e : LifeEntry). sought < low_key e) (get_or entries k no_entry) (drop (suc k) entries)
    (subst (λ (es : List LifeEntry). All (λ (e : LifeEntry). sought < low_key e) es) (drop-cons entries k no_entry more) cut.later) in
    omega (arith, here, (leads no_entry).place.low)
