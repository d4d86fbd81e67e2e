-- What is damaged on the way of keys, from what is on the way behind.
use Rattle.std.proofs.Common.{◌≡◌, ℕ, zero, suc, ◌-◌, ◌<◌, ◌≤◌, List, [], ◌∷◌, length, slice_index, inl, inr, sym, subst, arith}
use Rattle.bw_types.specs.Without.{keys_without}
use Rattle.bw_types.specs.declared.point.Point.{Point}
use Rattle.bw_types.specs.declared.tree.Tree.{Tree}
use Rattle.ports.specs.Pages.{PageMap}
use Rattle.page_layout.specs.declared.cut_page.CutNode.{CutNode}
use Rattle.page_layout.specs.declared.cut_page.CutNode.TheVariants.{Entry, Cut}
use Rattle.cut_parts.specs.Damage.{BeforeCut, BeforePage, BeforePart, IsDamagedOnWay, IsDamagedWithin, IsSoundCut, Spot, after_parts}
use Rattle.cut_parts.specs.Spelling.{HoldsCuts, HoldsLeaf, is_cuts, nodes_in}
use Rattle.cut_parts.specs.declared.border_tree.BorderTree.{Ghosts}
use Rattle.cut_parts.proofs.PartNodes.{holds_one}

module _ {B : Type 0} (g : Ghosts B) (m : PageMap) (keys : List ℕ) (version damaged : ℕ) where
  abbrev Damaged : ℕ → Spot → Type 0
  Damaged n spot = IsDamagedOnWay g m n spot keys version damaged

  -- no leaf of as many points is there
  pub no_leaf : (n page : ℕ) → n ≤ 64 → damaged ≡ page → ((points : List Point) → HoldsLeaf m page points → length points ≡ n → ⊥) → Damaged n (BeforePage page)
  no_leaf n page few here none = (1, inl (few, here, none))

  -- no cuts are there
  pub no_cuts : (n page : ℕ) → 64 < n → damaged ≡ page → ((nodes : List CutNode) → HoldsCuts m page nodes → ⊥) → Damaged n (BeforePage page)
  no_cuts n page many here none = (1, inr (inl (many, here, none)))

  -- a page of cuts
  pub on_page : (n page : ℕ) (nodes : List CutNode) → 64 < n → HoldsCuts m page nodes → Damaged n (BeforeCut page nodes) → Damaged n (BeforePage page)
  on_page n page nodes many held way = (suc way.0, inr (inr (many, (nodes, held, way.1))))

  -- a part that begins a page, and one that does not
  pub at_entry : (n page child : ℕ) (nodes rest : List CutNode) → nodes ≡ Entry child ∷ rest → Damaged n (BeforePage child) → Damaged n (BeforePart page nodes)
  at_entry n page child nodes rest is way = subst (λ (ns : List CutNode). Damaged n (BeforePart page ns)) (sym is) (suc way.0, way.1)

  pub at_cut : (n page dimension key low : ℕ) (border : Tree) (nodes rest : List CutNode) → nodes ≡ Cut dimension key low border ∷ rest
      → Damaged n (BeforeCut page nodes) → Damaged n (BeforePart page nodes)
  at_cut n page dimension key low border nodes rest is way =
      subst (λ (ns : List CutNode). Damaged n (BeforeCut page ns) → Damaged n (BeforePart page ns)) (sym is) (λ w. (suc w.0, w.1)) way

  -- no nodes are left, or an entry stands where a cut has to
  pub no_part : (n page : ℕ) (nodes : List CutNode) → nodes ≡ [] → damaged ≡ page → Damaged n (BeforePart page nodes)
  no_part n page nodes is here = subst (λ (ns : List CutNode). Damaged n (BeforePart page ns)) (sym is) (1, here)

  pub no_node : (n page : ℕ) (nodes : List CutNode) → nodes ≡ [] → damaged ≡ page → Damaged n (BeforeCut page nodes)
  no_node n page nodes is here = subst (λ (ns : List CutNode). Damaged n (BeforeCut page ns)) (sym is) (1, here)

  pub no_cut : (n page child : ℕ) (nodes rest : List CutNode) → nodes ≡ Entry child ∷ rest → damaged ≡ page → Damaged n (BeforeCut page nodes)
  no_cut n page child nodes rest is here = subst (λ (ns : List CutNode). Damaged n (BeforeCut page ns)) (sym is) (1, here)

  module _ (n page dimension key low : ℕ) (border : Tree) (nodes rest : List CutNode) (is : nodes ≡ Cut dimension key low border ∷ rest) where
    abbrev OfCut : List CutNode → Type 0
    OfCut ns = Damaged n (BeforeCut page ns)

    pub not_sound : damaged ≡ page → (IsSoundCut (suc g.DIMS) n dimension low border → ⊥) → Damaged n (BeforeCut page nodes)
    not_sound here unsound = subst OfCut (sym is) (1, inl (here, unsound))

    module _ (sound : IsSoundCut (suc g.DIMS) n dimension low border) where
      pub below_it : slice_index keys dimension < key → Damaged low (BeforePart page rest) → Damaged n (BeforeCut page nodes)
      below_it below way = subst OfCut (sym is) (suc way.0, inr (sound, inl (below, way.1)))

      pub in_leaf : key ≤ slice_index keys dimension → low ≤ 64 → Damaged low (BeforePart page rest) → Damaged n (BeforeCut page nodes)
      in_leaf from few way = subst OfCut (sym is) (suc way.0, inr (sound, inr (from, inl (few, way.1))))

      pub in_border : key ≤ slice_index keys dimension → 64 < low → g.damaged_for_sum m border (keys_without dimension keys) version damaged → Damaged n (BeforeCut page nodes)
      in_border from many why = subst OfCut (sym is) (1, inr (sound, inr (from, inr (inl (many, why)))))

      pub above_it : (high : List CutNode) → high ≡ after_parts 1 rest → key ≤ slice_index keys dimension → Damaged (n - low) (BeforePart page high) → Damaged n (BeforeCut page nodes)
      above_it high after from way =
          let inner : Damaged (n - low) (BeforePart page (after_parts 1 rest)) = subst (λ (ns : List CutNode). Damaged (n - low) (BeforePart page ns)) after way in
          subst OfCut (sym is) (suc inner.0, inr (sound, inr (from, inr (inr inner.1))))

      -- the other way: where nothing behind is damaged, nothing before is
      below_steps : slice_index keys dimension < key → (Damaged low (BeforePart page rest) → ⊥) → (steps : ℕ)
          → IsDamagedWithin g steps m n (BeforeCut page (Cut dimension key low border ∷ rest)) keys version damaged → ⊥
      below_steps below none zero way = way
      below_steps below none (suc steps) (inl not) = not.1 sound
      below_steps below none (suc steps) (inr (_, inl side)) = none (steps, side.1)
      below_steps below none (suc steps) (inr (_, inr side)) = omega (arith, below, side.0)

      pub whole_below : slice_index keys dimension < key → (Damaged low (BeforePart page rest) → ⊥) → Damaged n (BeforeCut page nodes) → ⊥
      whole_below below none way = let way_is : OfCut (Cut dimension key low border ∷ rest) = subst OfCut is way in below_steps below none way_is.0 way_is.1

      from_steps : key ≤ slice_index keys dimension → (low ≤ 64 → Damaged low (BeforePart page rest) → ⊥)
          → (64 < low → g.damaged_for_sum m border (keys_without dimension keys) version damaged → ⊥)
          → (Damaged (n - low) (BeforePart page (after_parts 1 rest)) → ⊥) → (steps : ℕ)
          → IsDamagedWithin g steps m n (BeforeCut page (Cut dimension key low border ∷ rest)) keys version damaged → ⊥
      from_steps from leaf edge high zero way = way
      from_steps from leaf edge high (suc steps) (inl not) = not.1 sound
      from_steps from leaf edge high (suc steps) (inr (_, inl side)) = omega (arith, from, side.0)
      from_steps from leaf edge high (suc steps) (inr (_, inr (_, inl side))) = leaf side.0 (steps, side.1)
      from_steps from leaf edge high (suc steps) (inr (_, inr (_, inr (inl side)))) = edge side.0 side.1
      from_steps from leaf edge high (suc steps) (inr (_, inr (_, inr (inr side)))) = high (steps, side)

      pub whole_from : (behind : List CutNode) → behind ≡ after_parts 1 rest → key ≤ slice_index keys dimension → (low ≤ 64 → Damaged low (BeforePart page rest) → ⊥)
          → (64 < low → g.damaged_for_sum m border (keys_without dimension keys) version damaged → ⊥)
          → (Damaged (n - low) (BeforePart page behind) → ⊥) → Damaged n (BeforeCut page nodes) → ⊥
      whole_from behind after from leaf edge high way =
          let way_is : OfCut (Cut dimension key low border ∷ rest) = subst OfCut is way in
          from_steps from leaf edge (subst (λ (ns : List CutNode). Damaged (n - low) (BeforePart page ns) → ⊥) after high) way_is.0 way_is.1

  leaf_steps : (n page : ℕ) (points : List Point) → n ≤ 64 → HoldsLeaf m page points → length points ≡ n → (steps : ℕ)
      → IsDamagedWithin g steps m n (BeforePage page) keys version damaged → ⊥
  leaf_steps n page points few held counted zero way = way
  leaf_steps n page points few held counted (suc steps) (inl not) = not.2 points held counted
  leaf_steps n page points few held counted (suc steps) (inr (inl side)) = omega (arith, few, side.0)
  leaf_steps n page points few held counted (suc steps) (inr (inr side)) = omega (arith, few, side.0)

  pub whole_leaf : (n page : ℕ) (points : List Point) → n ≤ 64 → HoldsLeaf m page points → length points ≡ n → Damaged n (BeforePage page) → ⊥
  whole_leaf n page points few held counted way = leaf_steps n page points few held counted way.0 way.1

  page_steps : (n page : ℕ) (nodes : List CutNode) → 64 < n → HoldsCuts m page nodes → (Damaged n (BeforeCut page nodes) → ⊥) → (steps : ℕ)
      → IsDamagedWithin g steps m n (BeforePage page) keys version damaged → ⊥
  page_steps n page nodes many held none zero way = way
  page_steps n page nodes many held none (suc steps) (inl side) = omega (arith, many, side.0)
  page_steps n page nodes many held none (suc steps) (inr (inl not)) = not.2 nodes held
  page_steps n page nodes many held none (suc steps) (inr (inr (_, (others, there, inner)))) =
      let same : others ≡ nodes = holds_one is_cuts nodes_in m page others nodes there held in
      none (steps, subst (λ (ns : List CutNode). IsDamagedWithin g steps m n (BeforeCut page ns) keys version damaged) same inner)

  pub whole_page : (n page : ℕ) (nodes : List CutNode) → 64 < n → HoldsCuts m page nodes → (Damaged n (BeforeCut page nodes) → ⊥) → Damaged n (BeforePage page) → ⊥
  whole_page n page nodes many held none way = page_steps n page nodes many held none way.0 way.1

  entry_steps : (n page child : ℕ) (rest : List CutNode) → (Damaged n (BeforePage child) → ⊥) → (steps : ℕ)
      → IsDamagedWithin g steps m n (BeforePart page (Entry child ∷ rest)) keys version damaged → ⊥
  entry_steps n page child rest none zero way = way
  entry_steps n page child rest none (suc steps) way = none (steps, way)

  pub whole_entry : (n page child : ℕ) (nodes rest : List CutNode) → nodes ≡ Entry child ∷ rest → (Damaged n (BeforePage child) → ⊥) → Damaged n (BeforePart page nodes) → ⊥
  whole_entry n page child nodes rest is none way =
      let way_is : Damaged n (BeforePart page (Entry child ∷ rest)) = subst (λ (ns : List CutNode). Damaged n (BeforePart page ns)) is way in
      entry_steps n page child rest none way_is.0 way_is.1

  part_steps : (n page dimension key low : ℕ) (border : Tree) (rest : List CutNode) → (Damaged n (BeforeCut page (Cut dimension key low border ∷ rest)) → ⊥) → (steps : ℕ)
      → IsDamagedWithin g steps m n (BeforePart page (Cut dimension key low border ∷ rest)) keys version damaged → ⊥
  part_steps n page dimension key low border rest none zero way = way
  part_steps n page dimension key low border rest none (suc steps) way = none (steps, way)

  pub whole_part : (n page dimension key low : ℕ) (border : Tree) (nodes rest : List CutNode) → nodes ≡ Cut dimension key low border ∷ rest
      → (Damaged n (BeforeCut page nodes) → ⊥) → Damaged n (BeforePart page nodes) → ⊥
  whole_part n page dimension key low border nodes rest is none way =
      let whole : List CutNode = Cut dimension key low border ∷ rest in
      let way_is : Damaged n (BeforePart page whole) = subst (λ (ns : List CutNode). Damaged n (BeforePart page ns)) is way in
      part_steps n page dimension key low border rest (subst (λ (ns : List CutNode). Damaged n (BeforeCut page ns) → ⊥) is none) way_is.0 way_is.1
