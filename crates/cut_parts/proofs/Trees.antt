-- A tree of cuts depends on its own pages alone, which are in the map.
use Rattle.std.proofs.Common.{◌≡◌, ℕ, suc, ◌*◌, ◌≤◌, ◌==◌, false, Some, None, List, [], ◌∷◌, length, inl, inr, refl, sym, ap, ◌∙◌, subst, arith, append-nil}
use Rattle.std.specs.Prelude.{IsPermutation}
use Rattle.std.proofs.lemmas.Bool.{cases_lt, eq-eqb, ne_eqb}
use Rattle.std.proofs.lemmas.List.Sorted.{IsPermutation-trans, length_permutation}
use Rattle.bw_types.specs.Empty.{empty_tree}
use Rattle.bw_types.specs.declared.point.Point.{Point}
use Rattle.bw_types.specs.declared.tree.Tree.{Tree}
use Rattle.ports.specs.Frame.{AgreeOn, AreInMap}
use Rattle.ports.specs.Pages.{PageMap}
use Rattle.page_layout.specs.Footprint.{NamesNoneTwice}
use Rattle.page_layout.specs.declared.cut_page.CutNode.{CutNode}
use Rattle.page_layout.specs.declared.cut_page.CutNode.TheVariants.{Entry}
use Rattle.bw_types.specs.DepthLaws.{cost_above, growths_never_fall, shares_never_fall}
use Rattle.cut_parts.specs.Borders.{HoldForTrees}
use Rattle.cut_parts.specs.Parts.{Part, Leaf, Split, points_of}
use Rattle.cut_parts.specs.Spelling.{first_page, nodes_of, part_in}
use Rattle.cut_parts.specs.Standing.{CutsBalanced, CutsStand, HaveLaws, IsPartOf, PartBalanced, cuts_cost, cuts_growth, cuts_share, levels_of, part_pages, tree_pages, tree_part}
use Rattle.cut_parts.specs.declared.border_tree.BorderTree.{Ghosts}
use Rattle.cut_parts.proofs.Frames.{part_balance, part_same, part_there}
use Rattle.cut_parts.proofs.Orders.{may_in_any_order}
use Rattle.cut_parts.proofs.Telling.{told_part}

-- a part that begins with a page is its entry in the page above
pub entry_nodes : (part : Part) (page : ℕ) → first_page part ≡ Some page → nodes_of part ≡ Entry page ∷ []
entry_nodes (Leaf first points) page begins = let same : first ≡ page = cc in ap (λ (p : ℕ). Entry p ∷ []) same
entry_nodes (Split None dimension key low border low_side high_side) page begins = absurd cc
entry_nodes (Split (Some first) dimension key low border low_side high_side) page begins = let same : first ≡ page = cc in ap (λ (p : ℕ). Entry p ∷ []) same

module _ {B : Type 0} (g : Ghosts B) where
  -- the pages tell the part
  pub tree_is : (a : PageMap) (tree : Tree) (points : List Point) (part : Part) → IsPartOf g a tree points part → tree_part a tree ≡ part
  tree_is a tree points part is =
      let steps : ℕ = 2 * tree.count in
      ap (λ (ns : List CutNode). (part_in a steps tree.count ns).0) (sym (entry_nodes part tree.root is.begins) ∙ sym (append-nil (nodes_of part)))
      ∙ ap (λ (x : Part × List CutNode). x.0) (told_part a steps tree.count part [] (omega arith) is.stood.shape is.stood.spelled)

  pub own_pages : (a : PageMap) (tree : Tree) (points : List Point) (part : Part) → 1 ≤ tree.count → IsPartOf g a tree points part
      → tree_pages g a tree ≡ part_pages g a part
  own_pages a tree points part some is =
      let other : (tree.count == 0) ≡ false = ne_eqb tree.count 0 (λ e. omega (arith, e, some)) in
      rw other (ap (λ (p : Part). part_pages g a p) (tree_is a tree points part is))

  pub no_pages : (a : PageMap) (tree : Tree) → tree.count ≡ 0 → tree_pages g a tree ≡ []
  no_pages a tree none = rw (eq-eqb tree.count 0 none) refl

  module _ (laws : HaveLaws g) where
    pub tree_same : (a b : PageMap) (tree : Tree) (points : List Point) → CutsStand g a tree points → AgreeOn (tree_pages g a tree) a b
        → CutsStand g b tree points × (tree_pages g b tree ≡ tree_pages g a tree)
    tree_same a b tree points s agree = elim (cases_lt 0 (length points)) [
      | inl some ↦
          let k = s.part some in
          let counted : 1 ≤ tree.count = omega (arith, s.count, some) in
          let here = own_pages a tree points k.0 counted k.1 in
          let same = part_same g laws a b tree.count k.0 k.1.stood (subst (λ (ps : List ℕ). AgreeOn ps a b) here agree) in
          let is : IsPartOf g b tree points k.0 = record { stood = same.0; begins = k.1.begins; kept = k.1.kept } in
          let pages_are : tree_pages g b tree ≡ tree_pages g a tree = own_pages b tree points k.0 counted is ∙ same.1 ∙ sym here in (
            record {
              count = s.count;
              may_be = s.may_be;
              levels = s.levels;
              changes = s.changes;
              last = s.last;
              none = s.none;
              part = λ _. (k.0, is);
              once = subst NamesNoneTwice (sym pages_are) s.once;
            },
            pages_are,
          )
      | inr few ↦
          let counted : tree.count ≡ 0 = omega (arith, s.count, few) in
          let pages_are : tree_pages g b tree ≡ tree_pages g a tree = no_pages b tree counted ∙ sym (no_pages a tree counted) in (
            record {
              count = s.count;
              may_be = s.may_be;
              levels = s.levels;
              changes = s.changes;
              last = s.last;
              none = s.none;
              part = λ some. absurd (omega (arith, some, few));
              once = subst NamesNoneTwice (sym pages_are) s.once;
            },
            pages_are,
          )
    ]

    pub tree_balance : (a b : PageMap) (tree : Tree) (points : List Point) → CutsStand g a tree points → AgreeOn (tree_pages g a tree) a b
        → CutsBalanced g a tree → CutsBalanced g b tree
    tree_balance a b tree points s agree balanced = λ counted.
        let k = s.part (omega (arith, s.count, counted)) in
        let here = own_pages a tree points k.0 counted k.1 in
        let on_part = subst (λ (ps : List ℕ). AgreeOn ps a b) here agree in
        let same = part_same g laws a b tree.count k.0 k.1.stood on_part in
        let is : IsPartOf g b tree points k.0 = record { stood = same.0; begins = k.1.begins; kept = k.1.kept } in
        subst (λ (p : Part). PartBalanced g b p) (sym (tree_is b tree points k.0 is))
        (part_balance g laws a b tree.count k.0 k.1.stood on_part (subst (λ (p : Part). PartBalanced g a p) (tree_is a tree points k.0 k.1) (balanced counted)))

    pub tree_there : (a : PageMap) (tree : Tree) (points : List Point) → CutsStand g a tree points → AreInMap a (tree_pages g a tree)
    tree_there a tree points s = elim (cases_lt 0 (length points)) [
      | inl some ↦
          let k = s.part some in
          subst (λ (ps : List ℕ). AreInMap a ps) (sym (own_pages a tree points k.0 (omega (arith, s.count, some)) k.1)) (part_there g laws a tree.count k.0 k.1.stood)
      | inr few ↦ subst (λ (ps : List ℕ). AreInMap a ps) (sym (no_pages a tree (omega (arith, s.count, few)))) (λ p named. cc)
    ]

    tree_reordered : (a : PageMap) (tree : Tree) (points others : List Point) → CutsStand g a tree points → IsPermutation points others → CutsStand g a tree others
    tree_reordered a tree points others s same =
        let long = length_permutation points others same in
        record {
          count = omega (arith, s.count, long);
          may_be = may_in_any_order (suc g.DIMS) points others same s.may_be;
          levels = s.levels ∙ ap levels_of (sym long);
          changes = s.changes;
          last = s.last;
          none = λ none. s.none (omega (arith, none, long));
          part = λ some.
              let k = s.part (omega (arith, some, long)) in (
                k.0,
                record { stood = k.1.stood; begins = k.1.begins; kept = IsPermutation-trans (points_of k.0) points others k.1.kept same },
              );
          once = s.once;
        }

    empty_stands : (a : PageMap) → CutsStand g a empty_tree []
    empty_stands a = record {
      count = refl;
      may_be = record {
        few = omega arith;
        apart = λ i j d less lt. absurd (omega (arith, lt));
        keys = λ k d lt. absurd (omega (arith, lt));
        versions = λ k d lt. absurd (omega (arith, lt));
        three = λ k d lt. absurd (omega (arith, lt));
      };
      levels = refl;
      changes = refl;
      last = refl;
      none = λ none. refl;
      part = λ some. absurd (omega (arith, some));
      once = tt;
    }

    pub trees_hold : HoldForTrees (CutsStand g) (tree_pages g) (CutsBalanced g) (cuts_cost g) (cuts_growth g) (cuts_share g)
    trees_hold = record {
      by_its_pages = tree_same;
      balance = tree_balance;
      in_map = tree_there;
      once = λ a tree points s. s.once;
      any_order = tree_reordered;
      empty = λ a. (empty_stands a, refl, (λ some. absurd (omega (arith, some))));
      counted = λ a tree points s. s.count;
      is_cost = cost_above g.cost laws.is_cost;
      growth_rises = λ m n le. let inner = growths_never_fall g.growth g.share laws.growth_rises laws.share_rises m n le in omega (arith, inner);
      share_rises = shares_never_fall g.share laws.share_rises;
    }
