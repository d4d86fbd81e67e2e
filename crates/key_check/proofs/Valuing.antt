-- The steps of a tree that stands tell its values.
use Rattle.std.proofs.Common.{◌≡◌, ℕ, Bool, zero, suc, ◌+◌, ◌%◌, ◌^◌, ◌<◌, ◌≤◌, List, [], ◌∷◌, ◌++◌, length, nat_le, cond, refl, sym, ◌∙◌, ap, add-zero, zero-add, lit<, true, arith, inl, inr}
use Rattle.std.specs.List.{All}
use Rattle.std.proofs.lemmas.Bool.{cases_lt, le-leb, lt-leb}
use Rattle.std.proofs.lemmas.List.Sums.{sum_by-cons}
use Rattle.std.proofs.lemmas.List.Elements.{All-cons}
use Rattle.ports.specs.Pages.{PageMap}
use Rattle.page_layout.specs.declared.sb_node.SbEntry.{SbEntry}
use Rattle.sb_tree.specs.Stands.{EachStands, RootStands, StandsBelow, first_low}
use Rattle.sb_tree.specs.Steps.{begun_value, child_at, child_from, entries_on, total_below}
use Rattle.sb_tree.proofs.Order.{Ascends, ascends}
use Rattle.key_check.specs.declared.step.Step.{Step}
use Rattle.key_check.specs.Steps.{AscendFrom, entries_steps, leaf_steps, more, step_value, steps_below}
use Rattle.key_check.proofs.Ascending.{each_ascends, is_some, not_yet, steps_ascend, value-append}
use Rattle.key_check.proofs.Walking.{ChildStands, child_steps}

begun-cons : (e : SbEntry) (es : List SbEntry) (v : ℕ) → begun_value (e ∷ es) v ≡ cond (nat_le e.low v) e.value 0 + begun_value es v
begun-cons e es v = sum_by-cons (λ (x : SbEntry). cond (nat_le x.low v) x.value 0) e es

-- entries that begin later tell nothing
none_begun : (es : List SbEntry) (v : ℕ) → All (λ e. v < e.low) es → begun_value es v ≡ 0
none_begun [] v all = refl
none_begun (e ∷ es) v all =
    let first : v < e.low = all 0 e (omega arith) in
    let rest : begun_value es v ≡ 0 = none_begun es v (λ k d h. all (suc k) d (omega (arith, h))) in
    begun-cons e es v ∙ ap (λ (b : Bool). cond b e.value 0 + begun_value es v) (lt-leb e.low v first) ∙ ap (λ (n : ℕ). 0 + n) rest

leaf_not_yet : (es : List SbEntry) (before value v : ℕ) → All (λ e. v < e.low) es → step_value before (entries_steps leaf_steps value es) v ≡ before
leaf_not_yet [] before value v all = refl
leaf_not_yet (e ∷ es) before value v all =
    ap (λ (b : Bool). step_value (cond b (more value e) before) (entries_steps leaf_steps (more value e) es) v) (lt-leb e.low v (all 0 e (omega arith)))
    ∙ leaf_not_yet es before (more value e) v (λ k d h. all (suc k) d (omega (arith, h)))

added_on : (before value rest whole : ℕ) → whole ≡ value + rest → ((before + value) % 2 ^ 128 + rest) % 2 ^ 128 ≡ (before + whole) % 2 ^ 128
added_on before value rest whole e = omega arith

begun-first : (e : SbEntry) (es : List SbEntry) (v : ℕ) → e.low ≤ v → begun_value (e ∷ es) v ≡ e.value + begun_value es v
begun-first e es v h = begun-cons e es v ∙ ap (λ (b : Bool). cond b e.value 0 + begun_value es v) (le-leb e.low v h)

all_later : (e : SbEntry) (es : List SbEntry) (v : ℕ) → Ascends (e ∷ es) → v < e.low → All (λ x. v < x.low) (e ∷ es)
all_later e es v up later = All-cons (λ (x : SbEntry). v < x.low) e es later (λ k d h. omega (arith, up.0 k d h))

nothing_more : (before more : ℕ) → before < 2 ^ 128 → more ≡ 0 → before ≡ (before + more) % 2 ^ 128
nothing_more before more small e = omega arith

-- The steps of entries of a leaf that ascend.
leaf_value : (es : List SbEntry) (before v : ℕ) → before < 2 ^ 128 → Ascends es → step_value before (entries_steps leaf_steps before es) v ≡ (before + begun_value es v) % 2 ^ 128
leaf_value [] before v small up = nothing_more before 0 small refl
leaf_value (e ∷ es) before v small up = elim (cases_lt v e.low) [
  | inl later ↦
      leaf_not_yet (e ∷ es) before before v (all_later e es v up later)
      ∙ nothing_more before (begun_value (e ∷ es) v) small (none_begun (e ∷ es) v (all_later e es v up later))
  | inr begun ↦
      ap (λ (b : Bool). step_value (cond b (more before e) before) (entries_steps leaf_steps (more before e) es) v) (le-leb e.low v begun)
      ∙ leaf_value es (more before e) v (omega arith) up.1
      ∙ added_on before e.value (begun_value es v) (begun_value (e ∷ es) v) (begun-first e es v begun)
]

-- Of children that stand, those whose entries begin later tell nothing.
each_later : (level : ℕ) (m : PageMap) (es : List SbEntry) (high v : ℕ) → EachStands (ChildStands level m) es high → v < first_low es high → All (λ e. v < e.low) es
each_later level m [] high v each later = λ k d h. absurd (omega (arith, h))
each_later level m (e ∷ es) high v each later =
    let some : e.low < first_low es high = is_some level m e.child e.low (first_low es high) 32 each.0 in
    All-cons (λ (x : SbEntry). v < x.low) e es later (each_later level m es high v each.1 (omega arith))

child_stays : (es : List SbEntry) (before v : ℕ) → All (λ e. v < e.low) es → child_from before es v ≡ before
child_stays [] before v all = refl
child_stays (e ∷ es) before v all =
    ap (λ (b : Bool). child_from (cond b e.child before) es v) (lt-leb e.low v (all 0 e (omega arith)))
    ∙ child_stays es before v (λ k d h. all (suc k) d (omega (arith, h)))

child_moves : (e : SbEntry) (es : List SbEntry) (before v : ℕ) → e.low ≤ v → child_from before (e ∷ es) v ≡ child_from e.child es v
child_moves e es before v h = ap (λ (b : Bool). child_from (cond b e.child before) es v) (le-leb e.low v h)

-- The values of the steps of a page and of those below it, whatever came before them.
abbrev TellsBelow : ℕ → PageMap → Type 0
TellsBelow level m = (child low high before past v : ℕ) → before < 2 ^ 128 → ChildStands level m child low high → low ≤ v → v < high
    → step_value past (steps_below level m child before) v ≡ (before + total_below level m child v) % 2 ^ 128

last_child : (before value begun total one whole : ℕ) → begun ≡ value → total ≡ one → whole ≡ ((before + value) % 2 ^ 128 + one) % 2 ^ 128 → whole ≡ (before + (begun + total)) % 2 ^ 128
last_child before value begun total one whole b t w = omega arith

further : (before value rest begun whole : ℕ) → begun ≡ value + rest → (total : ℕ) → whole ≡ ((before + value) % 2 ^ 128 + (rest + total)) % 2 ^ 128 → whole ≡ (before + (begun + total)) % 2 ^ 128
further before value rest begun whole b total w = omega arith

-- Where the first entry has begun, it does not count what came before it.
any_before : (es : List SbEntry) (before v high : ℕ) → first_low es high ≤ v → v < high → child_from before es v ≡ child_at es v
any_before [] before v high from below = absurd (omega (arith, from, below))
any_before (e ∷ es) before v high from below = child_moves e es before v from ∙ sym (child_moves e es 0 v from)

some_left : (es : List SbEntry) (v high : ℕ) → first_low es high ≤ v → v < high → 1 ≤ length es
some_left [] v high from below = absurd (omega (arith, from, below))
some_left (e ∷ es) v high from below = omega arith

index_value : (level : ℕ) (m : PageMap) → TellsBelow level m → (es : List SbEntry) (high before past v : ℕ) → before < 2 ^ 128
    → EachStands (ChildStands level m) es high → 1 ≤ length es → first_low es high ≤ v → v < high
    → step_value past (entries_steps (child_steps level m) before es) v ≡ (before + (begun_value es v + total_below level m (child_at es v) v)) % 2 ^ 128
index_value level m own [] high before past v small each some from below = absurd (omega (arith, some))
index_value level m own (e ∷ es) high before past v small each some from below =
    let own_steps : List Step = child_steps level m e (more before e) in
    let rest : List Step = entries_steps (child_steps level m) (more before e) es in
    let parts : step_value past (own_steps ++ rest) v ≡ step_value (step_value past own_steps v) rest v = value-append past v own_steps rest in
    let whole : ℕ = step_value past (own_steps ++ rest) v in
    elim (cases_lt v (first_low es high)) [
      | inl here ↦
          let later : All (λ x. v < x.low) es = each_later level m es high v each.1 here in
          let ups : AscendFrom (first_low es high) rest high = each_ascends level m (λ child low to value stands. steps_ascend level m child low to 32 value stands) es high (more before e) each.1 in
          let b : begun_value (e ∷ es) v ≡ e.value = begun-first e es v from ∙ omega (arith, none_begun es v later) in
          let t : total_below level m (child_at (e ∷ es) v) v ≡ total_below level m e.child v = ap (λ (n : ℕ). total_below level m n v) (child_moves e es 0 v from ∙ child_stays es e.child v later) in
          last_child before e.value (begun_value (e ∷ es) v) (total_below level m (child_at (e ∷ es) v) v) (total_below level m e.child v) whole b t
          (parts ∙ not_yet (first_low es high) high (step_value past own_steps v) v rest here ups ∙ own e.child e.low (first_low es high) (more before e) past v (omega arith) each.0 from here)
      | inr on ↦
          let b : begun_value (e ∷ es) v ≡ e.value + begun_value es v = begun-first e es v from in
          let t : child_at (e ∷ es) v ≡ child_at es v = child_moves e es 0 v from ∙ any_before es e.child v high on below in
          further before e.value (begun_value es v) (begun_value (e ∷ es) v) whole b (total_below level m (child_at (e ∷ es) v) v)
          (parts ∙ index_value level m own es high (more before e) (step_value past own_steps v) v (omega arith) each.1 (some_left es v high on below) on below
          ∙ ap (λ (n : ℕ). (more before e + (begun_value es v + total_below level m n v)) % 2 ^ 128) (sym t))
    ]

leaf_any : (es : List SbEntry) (past before high v : ℕ) → first_low es high ≤ v → v < high
    → step_value past (entries_steps leaf_steps before es) v ≡ step_value before (entries_steps leaf_steps before es) v
leaf_any [] past before high v from below = absurd (omega (arith, from, below))
leaf_any (e ∷ es) past before high v from below =
    let begun : nat_le e.low v ≡ true = le-leb e.low v from in
    ap (λ (b : Bool). step_value (cond b (more before e) past) (entries_steps leaf_steps (more before e) es) v) begun
    ∙ sym (ap (λ (b : Bool). step_value (cond b (more before e) before) (entries_steps leaf_steps (more before e) es) v) begun)

pub tells_below : (level : ℕ) (m : PageMap) (page low high least before past v : ℕ) → before < 2 ^ 128 → StandsBelow level m page low high least → low ≤ v → v < high
    → step_value past (steps_below level m page before) v ≡ (before + total_below level m page v) % 2 ^ 128
tells_below zero m page low high least before past v small s from below = absurd s
tells_below (suc zero) m page low high least before past v small s from below =
    leaf_any (entries_on m page) past before high v (omega (arith, s.begins)) below
    ∙ leaf_value (entries_on m page) before v small (ascends (entries_on m page) s.rules.entries.order)
    ∙ ap (λ (n : ℕ). (before + n) % 2 ^ 128) (sym (add-zero (begun_value (entries_on m page) v)))
tells_below (suc (suc level)) m page low high least before past v small s from below =
    index_value (suc level) m (λ child from_low to value past_value w fits stands a b. tells_below (suc level) m child from_low to 32 value past_value w fits stands a b)
    (entries_on m page) high before past v small s.1 s.0.rules.some (omega (arith, s.0.begins)) below

-- The steps from the root on tell the tree's value at each version.
pub tells_tree : (levels : ℕ) (m : PageMap) (root v : ℕ) → RootStands levels m root → v < 2 ^ 32 → step_value 0 (steps_below levels m root 0) v ≡ total_below levels m root v % 2 ^ 128
tells_tree zero m root v s below = refl
tells_tree (suc level) m root v s below =
    tells_below (suc level) m root 0 (2 ^ 32) 1 0 0 v (lit< tt) s (omega arith) below ∙ ap (λ (n : ℕ). n % 2 ^ 128) (zero-add (total_below (suc level) m root v))

pub tree_ascends : (levels : ℕ) (m : PageMap) (root : ℕ) → RootStands levels m root → AscendFrom 0 (steps_below levels m root 0) (2 ^ 32)
tree_ascends zero m root s = tt
tree_ascends (suc level) m root s = steps_ascend (suc level) m root 0 (2 ^ 32) 1 0 s
