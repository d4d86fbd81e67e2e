-- One event back.
use Rattle.std.proofs.Common.{◌≡◌, ℕ, suc, ◌+◌, ◌-◌, ◌≤◌, ◌<◌, List, [], ◌∷◌, ◌++◌, length, get_or, map, take, drop, sym, ◌∙◌, ap, subst, arith, drop-cons}
use Rattle.std.proofs.lemmas.List.{take_more, map-append}
use Rattle.std.specs.BTreeMap.{BTreeMap}
use Rattle.bw_types.specs.Lives.{Numbered}
use Rattle.bw_types.specs.declared.dated.Dated.{Dated}
use Rattle.page_warehouse.specs.Events.{numbered_in}
use Rattle.page_warehouse.specs.declared.event.Event.{Event}
use Rattle.image_check.specs.Rebuilding.{GoesBack, Stands}

pub back_step : (events : List Event) (left : ℕ) (d : Event) (counts counts_before : BTreeMap ℕ ℕ) (ends ends_before : BTreeMap ℕ (ℕ × ℕ)) (lives lives_before : List Dated) → 1 ≤ left → left ≤ length events
    → GoesBack counts ends lives (numbered_in (get_or events (left - 1) d)) counts_before ends_before lives_before
    → Stands counts ends lives (map numbered_in (take left events)) (map numbered_in (drop left events))
    → Stands counts_before ends_before lives_before (map numbered_in (take (left - 1) events)) (map numbered_in (drop (left - 1) events))
back_step events left d counts counts_before ends ends_before lives lives_before some within back stands =
    let k : ℕ = left - 1 in
    let e : Event = get_or events k d in
    let lt : k < length events = omega (arith, some, within) in
    let next : k + 1 ≡ left = omega (arith, some) in
    let after : suc k ≡ left = omega (arith, some) in
    let front : map numbered_in (take left events) ≡ map numbered_in (take k events) ++ numbered_in e ∷ [] =
    ap (λ (n : ℕ). map numbered_in (take n events)) (sym next) ∙ (ap (map numbered_in) (take_more events k d lt) ∙ map-append numbered_in (take k events) (e ∷ [])) in
    let rest : numbered_in e ∷ map numbered_in (drop left events) ≡ map numbered_in (drop k events) =
    ap (λ (n : ℕ). numbered_in e ∷ map numbered_in (drop n events)) (sym after) ∙ sym (ap (map numbered_in) (drop-cons events k d lt)) in
    let now = back (map numbered_in (take k events)) (map numbered_in (drop left events)) (subst (λ (ns : List Numbered). Stands counts ends lives ns (map numbered_in (drop left events))) front stands) in
    subst (λ (ns : List Numbered). Stands counts_before ends_before lives_before (map numbered_in (take k events)) ns) rest now
