-- The trees done and those to come.
use Rattle.std.proofs.Common.{◌≡◌, ℕ, zero, suc, ◌+◌, ◌-◌, ◌<◌, ◌≤◌, inl, inr, List, [], ◌∷◌, ◌++◌, length, get_or, drop, refl, sym, ap, ◌∙◌, arith, append_assoc, drop-cons}
use Rattle.std.specs.List.{All}
use Rattle.std.proofs.lemmas.Bool.{cases_lt}
use Rattle.std.proofs.lemmas.List.{append-nil, drop_all}
use Rattle.bw_types.specs.Empty.{empty_tree}
use Rattle.bw_types.specs.declared.tree.Tree.{Tree}
use Rattle.dom_index.specs.Growth.{sum_below}
use Rattle.corner_forest.specs.Enters.{first_page}

pub list_next : (items old : List Tree) (k : ℕ) (d : Tree) → k < length old → items ++ drop k old ≡ items ++ (get_or old k d ∷ drop (k + 1) old)
list_next items old k d lt =
    let more : suc k ≡ k + 1 = omega arith in
    ap (λ (l : List Tree). items ++ l) (drop-cons old k d lt ∙ ap (λ (m : ℕ). get_or old k d ∷ drop m old) more)

pub list_push : (items pushed rest : List Tree) (u : Tree) → pushed ≡ items ++ u ∷ [] → items ++ u ∷ rest ≡ pushed ++ rest
list_push items pushed rest u e = sym (append_assoc items (u ∷ []) rest) ∙ ap (λ (l : List Tree). l ++ rest) (sym e)

pub list_start : (items old : List Tree) → items ≡ [] → old ≡ items ++ drop 0 old
list_start items old e = ap (λ (l : List Tree). l ++ drop 0 old) (sym e)

pub list_end : (items old : List Tree) (k : ℕ) → length old ≤ k → items ++ drop k old ≡ items
list_end items old k le = ap (λ (l : List Tree). items ++ l) (drop_all k old le) ∙ append-nil items

pub sum_next : (f : ℕ → ℕ) (k : ℕ) → sum_below (k + 1) f ≡ sum_below k f + f k
sum_next f k = let more : k + 1 ≡ suc k = omega arith in ap (λ (n : ℕ). sum_below n f) more

pub sum_grows : (f : ℕ → ℕ) (k m : ℕ) → k < m → sum_below k f + f k ≤ sum_below m f
sum_grows f k zero lt = absurd (omega (arith, lt))
sum_grows f k (suc m) lt = elim (cases_lt k m) [
  | inl less ↦ let before = sum_grows f k m less in omega (arith, before)
  | inr more ↦ let same : k ≡ m = omega (arith, lt, more) in rw same (omega arith)
]

one_at_most : (levels : ℕ) → 1 - levels ≤ 1
one_at_most levels = omega arith

none_more : (levels : ℕ) → levels ≡ 1 → 1 - levels ≡ 0
none_more levels is = omega (arith, is)

-- each tree takes one first page at most
pub few_first_pages : (roots : List Tree) (n : ℕ) → sum_below n (first_page roots) ≤ n
few_first_pages roots zero = omega arith
few_first_pages roots (suc n) =
    let rest = few_first_pages roots n in
    let here : first_page roots n ≤ 1 = one_at_most (get_or roots n empty_tree).levels in
    omega (arith, rest, here)

-- trees that have a page take no first one
pub no_first_pages : (roots : List Tree) (n : ℕ) → n ≤ length roots → All (λ (t : Tree). t.levels ≡ 1) roots → sum_below n (first_page roots) ≡ 0
no_first_pages roots zero le all = refl
no_first_pages roots (suc n) le all =
    let rest = no_first_pages roots n (omega (arith, le)) all in
    let here : first_page roots n ≡ 0 = none_more (get_or roots n empty_tree).levels (all n empty_tree (omega (arith, le))) in
    omega (arith, rest, here)
