-- The page numbers of a batch, tree by tree and entry by entry.
use Rattle.std.proofs.Common.{◌≡◌, ℕ, zero, suc, ◌+◌, ◌*◌, ◌<◌, ◌≤◌, inl, inr, refl, sym, ap, ◌∙◌, subst, arith}
use Rattle.std.proofs.lemmas.Bool.{cases_Bool, cases_eq, eq-eqb, ne_eqb}
use Rattle.bw_types.specs.Depths.{added_pages}
use Rattle.bw_types.specs.DepthLaws.{adding_grows}
use Rattle.bw_types.specs.declared.params.Params.{Params}
use Rattle.bw_types.specs.declared.tree.Tree.{Tree}
use Rattle.dom_index.specs.Growth.{stays_one_page, step_growth, sum_below, tree_growth}
use Rattle.corner_forest.specs.Enters.{batch_growth, root_growth}
use Rattle.corner_forest.specs.Entries.{point_count, root_count}

-- those of a batch in one tree, entry by entry
abbrev pub batch_at : Params → ℕ → ℕ → ℕ → ℕ
batch_at params entries n root = sum_below n (λ k. root_growth params (entries + k) root)

some_pages : (dims n : ℕ) → 1 ≤ added_pages dims n
some_pages zero n = omega arith
some_pages (suc zero) n = omega arith
some_pages (suc (suc d)) n = omega arith

-- an addition gives out no more than the count allows
step_most : (dims : ℕ) (tree : Tree) (earlier : ℕ) → step_growth dims tree earlier ≤ added_pages dims (tree.count + earlier)
step_most dims tree earlier =
    let some = some_pages dims (tree.count + earlier) in
    elim (cases_Bool (stays_one_page dims tree earlier)) [
      | inl stays ↦ rw stays (elim (cases_eq earlier 0) [
        | inl none ↦ rw (eq-eqb earlier 0 none) (omega (arith, some))
        | inr more ↦ rw (ne_eqb earlier 0 more) (omega arith)
      ])
      | inr grows ↦ rw grows (omega arith)
    ]

-- additions one after another, none of which gives out more than this
steps_most : (f : ℕ → ℕ) (m i most : ℕ) → ((j : ℕ) → j < m + i → f j ≤ most) → sum_below (m + i) f ≤ sum_below m f + i * most
steps_most f m zero most each =
    let same : m + 0 ≡ m = omega arith in
    subst (λ (k : ℕ). sum_below k f ≤ sum_below m f + 0 * most) (sym same) (omega arith)
steps_most f m (suc i) most each =
    let next : m + suc i ≡ suc (m + i) = omega arith in
    let before = steps_most f m i most (λ j lt. each j (omega (arith, lt))) in
    let here = each (m + i) (omega arith) in
    let ring : suc i * most ≡ i * most + most = omega arith in
    subst (λ (k : ℕ). sum_below k f ≤ sum_below m f + suc i * most) (sym next) (omega (arith, before, here, ring))

-- the additions of a batch to a tree, entry by entry
pub tree_most : (params : Params) (entries n root : ℕ) (tree : Tree) → tree.count ≡ entries * point_count params root
    → tree_growth params.dims tree (n * point_count params root) ≤ batch_at params entries n root
tree_most params entries zero root tree count =
    let none : 0 * point_count params root ≡ 0 = omega arith in
    subst (λ (k : ℕ). tree_growth params.dims tree k ≤ 0) (sym none) (omega arith)
tree_most params entries (suc n) root tree count =
    let c = point_count params root in
    let f = step_growth params.dims tree in
    let most = added_pages params.dims ((entries + n + 1) * c) in
    let next : suc n * c ≡ n * c + c = omega arith in
    let ring : (entries + n + 1) * c ≡ entries * c + n * c + c = grind arith in
    let before = tree_most params entries n root tree count in
    let each : (j : ℕ) → j < n * c + c → f j ≤ most = λ j lt.
    let here = step_most params.dims tree j in
    let grows : added_pages params.dims (tree.count + j) ≤ most = adding_grows params.dims (tree.count + j) ((entries + n + 1) * c) (omega (arith, count, ring, lt)) in
    omega (arith, here, grows) in
    let all = steps_most f (n * c) c most each in
    subst (λ (k : ℕ). tree_growth params.dims tree k ≤ batch_at params entries (suc n) root) (sym next) (omega (arith, before, all))

sum_none : (m : ℕ) → sum_below m (λ r. 0) ≡ 0
sum_none zero = refl
sum_none (suc m) = let rest = sum_none m in omega (arith, rest)

sum_plus : (m : ℕ) (f h : ℕ → ℕ) → sum_below m (λ r. f r + h r) ≡ sum_below m f + sum_below m h
sum_plus zero f h = refl
sum_plus (suc m) f h = let rest = sum_plus m f h in omega (arith, rest)

-- a sum of sums, in either order
sum_swap : (n m : ℕ) (f : ℕ → ℕ → ℕ) → sum_below m (λ r. sum_below n (λ k. f k r)) ≡ sum_below n (λ k. sum_below m (f k))
sum_swap zero m f = sum_none m
sum_swap (suc n) m f = sum_plus m (λ r. sum_below n (λ k. f k r)) (f n) ∙ ap (λ (x : ℕ). x + sum_below m (f n)) (sum_swap n m f)

-- tree by tree as many as entry by entry
pub batch_by_trees : (params : Params) (entries n : ℕ) → sum_below (root_count params) (batch_at params entries n) ≡ batch_growth params entries n
batch_by_trees params entries n = sum_swap n (root_count params) (λ k r. root_growth params (entries + k) r)
