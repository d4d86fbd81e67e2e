-- The steps of a tree that stands ascend.
use Rattle.std.proofs.Common.{◌≡◌, ℕ, Bool, zero, suc, ◌+◌, ◌<◌, ◌≤◌, List, [], ◌∷◌, ◌++◌, length, nat_le, cond, refl, ◌∙◌, ap, subst, arith}
use Rattle.std.specs.List.{All}
use Rattle.std.proofs.lemmas.Bool.{lt-leb}
use Rattle.ports.specs.Pages.{PageMap}
use Rattle.page_layout.specs.declared.sb_node.SbEntry.{SbEntry}
use Rattle.sb_tree.specs.Stands.{EachStands, StandsBelow, first_low}
use Rattle.sb_tree.specs.Steps.{entries_on}
use Rattle.sb_tree.proofs.Order.{Ascends, all_from, ascends}
use Rattle.key_check.specs.declared.step.Step.{Step}
use Rattle.key_check.specs.Steps.{AscendFrom, entries_steps, leaf_steps, more, step_value, steps_below}
use Rattle.key_check.proofs.Walking.{ChildStands, child_steps, node_part}

pub ascend_later : (low from high : ℕ) (steps : List Step) → low ≤ from → AscendFrom from steps high → AscendFrom low steps high
ascend_later low from high [] h a = tt
ascend_later low from high (s ∷ steps) h a = (omega (arith, a.0), a.1, a.2)

pub ascend_wider : (low high far : ℕ) (steps : List Step) → high ≤ far → AscendFrom low steps high → AscendFrom low steps far
ascend_wider low high far [] h a = tt
ascend_wider low high far (s ∷ steps) h a = (a.0, omega (arith, a.1), ascend_wider (s.version + 1) high far steps h a.2)

-- Two runs of steps, the second from where the first ends.
pub ascend-append : (low middle high : ℕ) (xs ys : List Step) → low ≤ middle → middle ≤ high → AscendFrom low xs middle → AscendFrom middle ys high → AscendFrom low (xs ++ ys) high
ascend-append low middle high [] ys h k a b = ascend_later low middle high ys h b
ascend-append low middle high (s ∷ xs) ys h k a b = (a.0, omega (arith, a.1), ascend-append (s.version + 1) middle high xs ys (omega (arith, a.1)) k a.2 b)

-- Before they begin, steps change nothing.
pub not_yet : (low high before version : ℕ) (steps : List Step) → version < low → AscendFrom low steps high → step_value before steps version ≡ before
not_yet low high before version [] h a = refl
not_yet low high before version (s ∷ steps) h a =
    ap (λ (b : Bool). step_value (cond b s.value before) steps version) (lt-leb s.version version (omega (arith, a.0)))
    ∙ not_yet (s.version + 1) high before version steps (omega (arith, a.0)) a.2

pub value-append : (before version : ℕ) (xs ys : List Step) → step_value before (xs ++ ys) version ≡ step_value (step_value before xs version) ys version
value-append before version [] ys = refl
value-append before version (x ∷ xs) ys = value-append (cond (nat_le x.version version) x.value before) version xs ys

first_is_low : (es : List SbEntry) (low high : ℕ) → 1 ≤ length es → first_low es high ≡ low → All (λ e. e.low < high) es → low < high
first_is_low [] low high some first all = absurd (omega (arith, some))
first_is_low (e ∷ es) low high some first all = let h : e.low < high = all 0 e (omega arith) in omega (arith, first)

-- What stands for versions stands for some.
pub is_some : (level : ℕ) (m : PageMap) (page low high least : ℕ) → StandsBelow level m page low high least → low < high
is_some level m page low high least s =
    let n = node_part level m page low high least s in
    first_is_low (entries_on m page) low high n.rules.some n.begins n.ends

pub each_is_some : (level : ℕ) (m : PageMap) (es : List SbEntry) (high : ℕ) → EachStands (ChildStands level m) es high → first_low es high ≤ high
each_is_some level m [] high each = omega arith
each_is_some level m (e ∷ es) high each =
    let first = is_some level m e.child e.low (first_low es high) 32 each.0 in
    let rest = each_is_some level m es high each.1 in
    omega (arith, first, rest)

leaf_ascends : (es : List SbEntry) (low high before : ℕ) → Ascends es → All (λ e. low ≤ e.low) es → All (λ e. e.low < high) es → AscendFrom low (entries_steps leaf_steps before es) high
leaf_ascends [] low high before up from below = tt
leaf_ascends (e ∷ es) low high before up from below = (
  from 0 e (omega arith),
  below 0 e (omega arith),
  leaf_ascends es (e.low + 1) high (more before e) up.1 (λ k d h. let f : e.low < _ = up.0 k d h in omega (arith, f)) (λ k d h. below (suc k) d (omega (arith, h))),
)

pub each_ascends : (level : ℕ) (m : PageMap) → ((child low high before : ℕ) → ChildStands level m child low high → AscendFrom low (steps_below level m child before) high)
    → (es : List SbEntry) (high before : ℕ) → EachStands (ChildStands level m) es high → AscendFrom (first_low es high) (entries_steps (child_steps level m) before es) high
each_ascends level m own [] high before each = tt
each_ascends level m own (e ∷ es) high before each =
    let first : e.low < first_low es high = is_some level m e.child e.low (first_low es high) 32 each.0 in
    ascend-append e.low (first_low es high) high (child_steps level m e (more before e)) (entries_steps (child_steps level m) (more before e) es)
    (omega (arith, first)) (each_is_some level m es high each.1) (own e.child e.low (first_low es high) (more before e) each.0) (each_ascends level m own es high (more before e) each.1)

pub steps_ascend : (level : ℕ) (m : PageMap) (page low high least before : ℕ) → StandsBelow level m page low high least → AscendFrom low (steps_below level m page before) high
steps_ascend zero m page low high least before s = absurd s
steps_ascend (suc zero) m page low high least before s =
    let up = ascends (entries_on m page) s.rules.entries.order in
    leaf_ascends (entries_on m page) low high before up (all_from (entries_on m page) low high up s.begins) s.ends
steps_ascend (suc (suc level)) m page low high least before s =
    subst (λ (n : ℕ). AscendFrom n (steps_below (suc (suc level)) m page before) high) s.0.begins
    (each_ascends (suc level) m (λ child from to value stands. steps_ascend (suc level) m child from to 32 value stands) (entries_on m page) high before s.1)
