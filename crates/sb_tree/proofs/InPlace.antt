-- The entries of a node that is read in place, one after another.
use Rattle.sb_tree.proofs.Common.{◌≡◌, ℕ, suc, ◌+◌, ◌-◌, ◌<◌, ◌≤◌, inl, inr, ◌≢◌, List, [], ◌∷◌, ◌++◌, length, get_or, take, sym, ap, ◌∙◌, arith, length-drop, All, AllAdjacentBelow, take-suc, get_or-drop, All-push, IsNonDecreasingBy-from_all_adjacent, SbNode, SbEntry, Place, HaveBegun, IsCut, IsInPlace, first_low}

-- the entries ascend
abbrev pub InOrder : List SbEntry → Type 0
InOrder es = AllAdjacentBelow (λ (e next : SbEntry). e.low < next.low) es (length es)

rising : (es : List SbEntry) → InOrder es → (i j : ℕ) (d : SbEntry) → i ≤ j → j < length es → (get_or es i d).low ≤ (get_or es j d).low
rising es order = IsNonDecreasingBy-from_all_adjacent (λ e. e.low) es (λ k d h. omega (arith, order k d h))

-- one more entry has begun
pub one_begun : (es : List SbEntry) (i v : ℕ) (e : SbEntry) → i < length es → ((d : SbEntry) → e ≡ get_or es i d) → HaveBegun v (take i es) → e.low ≤ v
    → HaveBegun v (take (i + 1) es)
one_begun es i v e lt is_e begun here =
    let next : i + 1 ≡ suc i = omega arith in
    let one : take (i + 1) es ≡ take i es ++ e ∷ [] = ap (λ n. take n es) next ∙ take-suc es i e lt ∙ ap (λ x. take i es ++ x ∷ []) (sym (is_e e)) in
    rw one (All-push (λ (x : SbEntry). x.low ≤ v) (take i es) e begun here)

-- the entries are cut before the first that has not begun
pub cut_here : (es : List SbEntry) (i v : ℕ) (e : SbEntry) → InOrder es → i < length es → ((d : SbEntry) → e ≡ get_or es i d) → HaveBegun v (take i es) → v < e.low → IsCut es i v
cut_here es i v e order lt is_e begun here = grind (arith, get_or-drop, rising, length-drop)

-- where the first entry begins and the last one begins
module _ (node : SbNode) (place : Place) (level : ℕ) (first last : SbEntry) (order : InOrder node.entries.items) (some : 1 ≤ length node.entries.items)
    (is_first : (d : SbEntry) → first ≡ get_or node.entries.items 0 d) (is_last : (d : SbEntry) → last ≡ get_or node.entries.items (length node.entries.items - 1) d) where
  first_low-is : (es : List SbEntry) (high : ℕ) → 1 ≤ length es → ((d : SbEntry) → first ≡ get_or es 0 d) → first_low es high ≡ first.low
  first_low-is [] high has is_it = absurd (omega arith)
  first_low-is (e ∷ es) high has is_it = ap (λ x. x.low) (sym (is_it e))

  pub begins_within : place.low ≤ first.low → All (λ e. place.low ≤ e.low) node.entries.items
  begins_within h = λ k d lt. omega (arith, h, ap (λ x. x.low) (is_first d), rising node.entries.items order 0 k d (omega arith) lt)

  pub ends_within : last.low < place.high → All (λ e. e.low < place.high) node.entries.items
  ends_within h = λ k d lt. omega (arith, h, ap (λ x. x.low) (is_last d), rising node.entries.items order k (length node.entries.items - 1) d (omega arith) (omega arith))

  pub begins_there : IsInPlace level place node → place.low ≤ first.low
  begins_there p = omega (arith, p.from 0 first (omega arith), ap (λ x. x.low) (is_first first))

  pub ends_there : IsInPlace level place node → last.low < place.high
  ends_there p = omega (arith, p.below (length node.entries.items - 1) last (omega arith), ap (λ x. x.low) (is_last last))

  pub leads_there : IsInPlace level place node → level ≢ 1 → first.low ≤ place.sought
  leads_there p index = elim p.leads [
    | inl leaf ↦ absurd (index leaf)
    | inr leads ↦ omega (arith, leads, first_low-is node.entries.items place.high some is_first)
  ]

  pub leaf_in_place : place.low ≤ first.low → last.low < place.high → level ≡ 1 → IsInPlace level place node
  leaf_in_place low high leaf = record { from = begins_within low; below = ends_within high; leads = inl leaf }

  pub index_in_place : place.low ≤ first.low → last.low < place.high → first.low ≤ place.sought → IsInPlace level place node
  index_in_place low high leads = record { from = begins_within low; below = ends_within high; leads = inr (omega (arith, leads, first_low-is node.entries.items place.high some is_first)) }
