-- How many page numbers the trees of spans take.
use Rattle.std.proofs.Common.{◌≡◌, ℕ, zero, suc, ◌+◌, ◌*◌, ◌<◌, ◌≤◌, inl, inr, sym, subst, arith}
use Rattle.std.proofs.Math.Nat.{mul-le-mul_right}
use Rattle.std.proofs.lemmas.Bool.{cases_Bool, cases_eq, eq-eqb, ne_eqb}
use Rattle.bw_types.specs.Depths.{added_pages}
use Rattle.bw_types.specs.DepthLaws.{adding_grows}
use Rattle.bw_types.specs.Empty.{empty_tree}
use Rattle.bw_types.specs.declared.tree.Tree.{Tree}
use Rattle.dom_index.specs.Growth.{stays_one_page, step_growth, sum_below, tree_growth}

some_pages : (dims n : ℕ) → 1 ≤ added_pages dims n
some_pages zero n = omega arith
some_pages (suc zero) n = omega arith
some_pages (suc (suc d)) n = omega arith

-- an addition takes no more than one to the whole tree
step_most : (dims earlier n : ℕ) → earlier ≤ n → step_growth dims empty_tree earlier ≤ added_pages dims n
step_most dims earlier n le =
    let some = some_pages dims n in
    let grows : added_pages dims (0 + earlier) ≤ added_pages dims n = adding_grows dims (0 + earlier) n (omega (arith, le)) in
    elim (cases_Bool (stays_one_page dims empty_tree earlier)) [
      | inl stays ↦ rw stays (elim (cases_eq earlier 0) [
        | inl none ↦ rw (eq-eqb earlier 0 none) (omega (arith, some))
        | inr more ↦ rw (ne_eqb earlier 0 more) (omega arith)
      ])
      | inr full ↦ rw full grows
    ]

steps_most : (dims n m : ℕ) → m ≤ n → sum_below m (step_growth dims empty_tree) ≤ m * added_pages dims n
steps_most dims n zero le = omega arith
steps_most dims n (suc m) le =
    let before = steps_most dims n m (omega (arith, le)) in
    let here = step_most dims m n (omega (arith, le)) in
    let ring : suc m * added_pages dims n ≡ m * added_pages dims n + added_pages dims n = omega arith in
    omega (arith, before, here, ring)

-- what so many additions to an empty tree take
pub tree_most : (dims n many : ℕ) (tree : Tree) → tree ≡ empty_tree → many ≡ n → tree_growth dims tree many ≤ n * added_pages dims n
tree_most dims n many tree is is_n =
    subst (λ (t : Tree). tree_growth dims t many ≤ n * added_pages dims n) (sym is)
    (subst (λ (m : ℕ). tree_growth dims empty_tree m ≤ n * added_pages dims n) (sym is_n) (steps_most dims n n (omega arith)))

ring : (k each : ℕ) → (k + 1) * each ≡ k * each + each
ring k each = let more : k + 1 ≡ suc k = omega arith in rw more (omega arith)

-- one tree more
pub trees_next : (k each part : ℕ) → part ≤ each → k * each + part ≤ (k + 1) * each
trees_next k each part le = let whole = ring k each in omega (arith, le, whole)

-- so far they are no more than those of all trees
pub trees_within : (k n each part : ℕ) → part ≤ each → k < n → k * each + part ≤ n * each
trees_within k n each part le lt =
    let next = trees_next k each part le in
    let most : (k + 1) * each ≤ n * each = mul-le-mul_right each (omega (arith, lt)) in
    omega (arith, next, most)
