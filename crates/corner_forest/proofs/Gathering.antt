-- The points of a batch gathered one by one, and the powers of its boxes.
use Rattle.std.proofs.Common.{◌≡◌, ℕ, suc, ◌+◌, ◌-◌, ◌<◌, ◌≤◌, false, pos, inl, inr, IsSome, List, [], ◌∷◌, ◌++◌, length, get_or, drop, sym, ap, ◌∙◌, subst, arith, append_assoc, length-append}
use Rattle.std.proofs.Math.Seq.{drop-cons}
use Rattle.std.proofs.lemmas.Bool.{cases_lt}
use Rattle.std.proofs.lemmas.List.{append-nil, drop_all, get_or-append_right, get_or_append_left, get_or_default}
use Rattle.bw_types.specs.declared.params.Params.{Params}
use Rattle.bw_types.specs.declared.point.Point.{Point}
use Rattle.corner_weights.specs.PlaneSums.{Entered}
use Rattle.corner_weights.specs.Powers.{ArePowersOf}
use Rattle.corner_weights.specs.declared.powers.BoxPowers.{BoxPowers}
use Rattle.corner_forest.specs.BatchPowers.{ArePowersOfFirst}
use Rattle.corner_forest.specs.Enters.{all_entered_at, entered_at}
use Rattle.corner_forest.specs.Entries.{added_points, batch_points, entry_point, points_below}
use Rattle.corner_forest.specs.declared.entry.Entry.{Entry}

-- what stands at a place outside of a batch
abbrev pub none_entered : Entry
none_entered = record { object = record { id = 0; low = []; high = []; weight = pos 0; coeffs = [] }; minus = false; event = 0 }

-- one corner's point more
pub point_put : (params : Params) (e : Entered) (root n i : ℕ) (items more whole : List Point) (p : Point) → i < n → p ≡ entry_point params e root (n - 1 - i)
    → more ≡ items ++ p ∷ [] → items ++ points_below params e root (n - i) ≡ whole → more ++ points_below params e root (n - (i + 1)) ≡ whole
point_put params e root n i items more whole p lt is_p is_more h =
    let later : List Point = points_below params e root (n - (i + 1)) in
    let step : n - i ≡ suc (n - (i + 1)) = omega (arith, lt) in
    let corner : n - 1 - i ≡ n - (i + 1) = omega (arith, lt) in
    ap (λ (l : List Point). l ++ later) is_more ∙ append_assoc items (p ∷ []) later
    ∙ ap (λ (q : Point). items ++ q ∷ later) (is_p ∙ ap (λ (k : ℕ). entry_point params e root k) corner)
    ∙ sym (ap (λ (k : ℕ). items ++ points_below params e root k) step) ∙ h

pub points_start : (params : Params) (e : Entered) (root n c : ℕ) (items : List Point) → n ≡ c → items ++ points_below params e root (n - 0) ≡ items ++ points_below params e root c
points_start params e root n c items is =
    let same : n - 0 ≡ c = omega (arith, is) in
    ap (λ (k : ℕ). items ++ points_below params e root k) same

pub points_end : (params : Params) (e : Entered) (root n i : ℕ) (items whole : List Point) → n ≤ i → items ++ points_below params e root (n - i) ≡ whole → items ≡ whole
points_end params e root n i items whole le h =
    let none : n - i ≡ 0 = omega (arith, le) in
    sym (append-nil items) ∙ sym (ap (λ (k : ℕ). items ++ points_below params e root k) none) ∙ h

-- the entry that comes next
pub entry_next : (batch : List Entry) (i : ℕ) (d : Entry) → i < length batch → drop i batch ≡ get_or batch i d ∷ drop (i + 1) batch
entry_next batch i d lt =
    let more : suc i ≡ i + 1 = omega arith in
    drop-cons batch i d lt ∙ ap (λ (m : ℕ). get_or batch i d ∷ drop m batch) more

-- one entry's points more
pub batch_put : (params : Params) (version root i : ℕ) (d : Entry) (batch : List Entry) (items more whole : List Point) → i < length batch
    → more ≡ items ++ added_points params root (entered_at version (get_or batch i d))
    → items ++ batch_points params root (all_entered_at version (drop i batch)) ≡ whole → more ++ batch_points params root (all_entered_at version (drop (i + 1) batch)) ≡ whole
batch_put params version root i d batch items more whole lt is h =
    let own : List Point = added_points params root (entered_at version (get_or batch i d)) in
    let later : List Point = batch_points params root (all_entered_at version (drop (i + 1) batch)) in
    ap (λ (l : List Point). l ++ later) is ∙ append_assoc items own later
    ∙ sym (ap (λ (l : List Entry). items ++ batch_points params root (all_entered_at version l)) (entry_next batch i d lt)) ∙ h

pub batch_end : (params : Params) (version root i : ℕ) (batch : List Entry) (items whole : List Point) → length batch ≤ i
    → items ++ batch_points params root (all_entered_at version (drop i batch)) ≡ whole → items ≡ whole
batch_end params version root i batch items whole le h =
    sym (append-nil items) ∙ sym (ap (λ (l : List Entry). items ++ batch_points params root (all_entered_at version l)) (drop_all i batch le)) ∙ h

pub length_put : (items more : List BoxPowers) (next : BoxPowers) (i : ℕ) → length items ≡ i → more ≡ items ++ next ∷ [] → length more ≡ i + 1
length_put items more next i len is =
    let whole = ap length is ∙ length-append items (next ∷ []) in
    omega (arith, whole, len)

-- one box's powers more
pub powers_put : (params : Params) (batch : List Entry) (i : ℕ) (items more : List BoxPowers) (next : BoxPowers) (d : Entry) → i < length batch → length items ≡ i
    → more ≡ items ++ next ∷ [] → (IsSome params.degree → ArePowersOf params (get_or batch i d).object next) → ArePowersOfFirst params batch i items
    → ArePowersOfFirst params batch (i + 1) more
powers_put params batch i items more next d lt len is here before = λ j e p within some. elim (cases_lt j i) [
  | inl less ↦
      let at : get_or more j p ≡ get_or items j p = ap (λ (l : List BoxPowers). get_or l j p) is ∙ get_or_append_left items (next ∷ []) p j (omega (arith, less, len)) in
      subst (λ (q : BoxPowers). ArePowersOf params (get_or batch j e).object q) (sym at) (before j e p less some)
  | inr last ↦
      let same : i ≡ j = omega (arith, within, last) in
      let first : i - i ≡ 0 = omega arith in
      let at : get_or more i p ≡ next = ap (λ (l : List BoxPowers). get_or l i p) is ∙ get_or-append_right items (next ∷ []) i i p len (omega arith) ∙ ap (λ (k : ℕ). get_or (next ∷ []) k p) first in
      let own : get_or batch i d ≡ get_or batch i e = get_or_default batch i d e lt in
      subst (λ (k : ℕ). ArePowersOf params (get_or batch k e).object (get_or more k p)) same
      (subst (λ (q : BoxPowers). ArePowersOf params (get_or batch i e).object q) (sym at)
      (subst (λ (f : Entry). ArePowersOf params f.object next) own (here some)))
]
