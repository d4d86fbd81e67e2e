-- The trees of a forest, one after the other.
use Rattle.std.proofs.Common.{◌≡◌, ◌↔◌, ℕ, suc, ◌+◌, ◌<◌, ◌≤◌, ◌++◌, ◌∷◌, List, length, drop, get_or, sym, ap, ◌∙◌, subst, arith, append_assoc, drop-cons, add-one, IsPermutation}
use Rattle.std.specs.List.{All}
use Rattle.std.proofs.lemmas.List.{append-nil, drop_all}
use Rattle.std.proofs.lemmas.List.Elements.{All-cons, All-nil}
use Rattle.std.proofs.lemmas.List.Sorted.{IsPermutation-append_left, IsPermutation-trans}
use Rattle.bw_types.specs.declared.point.Point.{Point}
use Rattle.bw_types.specs.declared.tree.Tree.{Tree}
use Rattle.corner_forest.specs.Trees.{EachStands, trees_pages}

-- what is left begins with the next tree
tree_next : (roots : List Tree) (k : ℕ) (d : Tree) → k < length roots → drop k roots ≡ get_or roots k d ∷ drop (k + 1) roots
tree_next roots k d h = drop-cons roots k d h ∙ ap (λ (n : ℕ). get_or roots k d ∷ drop n roots) (sym (add-one k))

module _ (S : Tree → List Point → Type 0) (B : Tree → Type 0) (P : ℕ → List Point) where
  -- Each tree stands for the points of its place, the first one being at the place `from`, and is balanced.
  abbrev StandInBalance : ℕ → List Tree → Type 0
  StandInBalance from trees = EachStands S P from trees × All B trees

  all_tail : (t : Tree) (ts : List Tree) → All B (t ∷ ts) → All B ts
  all_tail t ts all = λ k d h. all (suc k) d (omega (arith, h))

  all_head : (t : Tree) (ts : List Tree) → All B (t ∷ ts) → B t
  all_head t ts all = all 0 t (omega arith)

  module _ (roots : List Tree) (k : ℕ) (d : Tree) (h : k < length roots) where
    next_first : StandInBalance k (drop k roots) → (S (get_or roots k d) (P k) × B (get_or roots k d)) × StandInBalance (k + 1) (drop (k + 1) roots)
    next_first both =
        let t = get_or roots k d in
        let ts = drop (k + 1) roots in
        let split = subst (λ (l : List Tree). StandInBalance k l) (tree_next roots k d h) both in
        let rest : EachStands S P (k + 1) ts = subst (λ (n : ℕ). EachStands S P n ts) (sym (add-one k)) split.0.1 in
        ((split.0.0, all_head t ts split.1), (rest, all_tail t ts split.1))

    with_next : S (get_or roots k d) (P k) × B (get_or roots k d) → StandInBalance (k + 1) (drop (k + 1) roots) → StandInBalance k (drop k roots)
    with_next here both =
        let t = get_or roots k d in
        let ts = drop (k + 1) roots in
        let rest : EachStands S P (suc k) ts = subst (λ (n : ℕ). EachStands S P n ts) (add-one k) both.0 in
        subst (λ (l : List Tree). StandInBalance k l) (sym (tree_next roots k d h)) ((here.0, rest), All-cons B t ts here.1 both.1)

    pub goes_on : StandInBalance 0 roots ↔ StandInBalance k (drop k roots) → S (get_or roots k d) (P k) × B (get_or roots k d)
        → StandInBalance 0 roots ↔ StandInBalance (k + 1) (drop (k + 1) roots)
    goes_on so here = (λ whole. (next_first (so.0 whole)).1, λ rest. so.1 (with_next here rest))

    pub fails : StandInBalance 0 roots ↔ StandInBalance k (drop k roots) → (S (get_or roots k d) (P k) × B (get_or roots k d) → ⊥) → StandInBalance 0 roots → ⊥
    fails so fault whole = fault (next_first (so.0 whole)).0

  pub ends : (roots : List Tree) (k : ℕ) → length roots ≤ k → StandInBalance 0 roots ↔ StandInBalance k (drop k roots) → StandInBalance 0 roots
  ends roots k past so =
      so.1 (subst (λ (l : List Tree). StandInBalance k l) (sym (drop_all k roots past)) (tt, All-nil B))

module _ (pages : Tree → List ℕ) (roots : List Tree) (k : ℕ) (old now : List ℕ) where
  pub named_more : (new : List ℕ) (d : Tree) → k < length roots
      → IsPermutation (old ++ trees_pages pages roots) (now ++ trees_pages pages (drop k roots)) → IsPermutation (now ++ pages (get_or roots k d)) new
      → IsPermutation (old ++ trees_pages pages roots) (new ++ trees_pages pages (drop (k + 1) roots))
  named_more new d h so more =
      let own = pages (get_or roots k d) in
      let rest = trees_pages pages (drop (k + 1) roots) in
      let same : now ++ trees_pages pages (drop k roots) ≡ (now ++ own) ++ rest =
      ap (λ (l : List Tree). now ++ trees_pages pages l) (tree_next roots k d h) ∙ sym (append_assoc now own rest) in
      IsPermutation-trans (old ++ trees_pages pages roots) ((now ++ own) ++ rest) (new ++ rest)
      (subst (λ (l : List ℕ). IsPermutation (old ++ trees_pages pages roots) l) same so)
      (IsPermutation-append_left rest (now ++ own) new more)

  pub named_all : length roots ≤ k → IsPermutation (old ++ trees_pages pages roots) (now ++ trees_pages pages (drop k roots))
      → IsPermutation (old ++ trees_pages pages roots) now
  named_all past so =
      subst (λ (l : List ℕ). IsPermutation (old ++ trees_pages pages roots) l)
      (ap (λ (l : List Tree). now ++ trees_pages pages l) (drop_all k roots past) ∙ append-nil now) so
