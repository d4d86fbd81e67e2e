-- A tree whose part got a point.
use Rattle.std.proofs.Common.{◌≡◌, ℕ, suc, ◌+◌, ◌≤◌, ◌==◌, false, nat_le, if◌then◌else◌, Some, List, [], ◌∷◌, length, refl, sym, ap, ◌∙◌, subst, arith, append-nil}
use Rattle.std.specs.Prelude.{IsPermutation, IsTrue}
use Rattle.std.proofs.lemmas.Bool.{ne_eqb}
use Rattle.std.proofs.lemmas.List.Sorted.{All-permutation, IsPermutation-append_right, IsPermutation-refl, IsPermutation-sym, IsPermutation-trans, length_permutation}
use Rattle.bw_types.specs.declared.point.Point.{Point}
use Rattle.bw_types.specs.declared.tree.Tree.{Tree}
use Rattle.ports.specs.Frame.{Replaces}
use Rattle.ports.specs.Pages.{PageMap}
use Rattle.page_layout.specs.Footprint.{NamesNoneTwice}
use Rattle.page_layout.specs.declared.cut_page.CutNode.TheVariants.{Entry}
use Rattle.dom_index.specs.Points.{IsNewPoint, keys_differ}
use Rattle.cut_parts.specs.Borders.{MayBeBuilt, TakesPoint}
use Rattle.cut_parts.specs.Parts.{Part, Leaf, points_of}
use Rattle.cut_parts.specs.Spelling.{HoldsLeaf, first_page, nodes_of}
use Rattle.cut_parts.specs.Standing.{CutsBalanced, CutsStand, IsPartOf, PartBalanced, levels_of, part_pages, tree_pages}
use Rattle.cut_parts.specs.declared.border_tree.BorderTree.{Ghosts}
use Rattle.cut_parts.proofs.PartNodes.{entry_of}
use Rattle.cut_parts.proofs.Orders.{may_in_any_order}
use Rattle.cut_parts.proofs.Trees.{no_pages, own_pages, tree_is}
use Rattle.ba_tree.specs.Additions.{IsAddedAs, MayTake}

-- the level byte where there are points
abbrev some_levels : ℕ → ℕ
some_levels n = if nat_le n 64 then 1 else 2

levels_are : (n : ℕ) → 1 ≤ n → levels_of n ≡ some_levels n
levels_are n some =
    let other : (n == 0) ≡ false = ne_eqb n 0 (λ e. omega (arith, e, some)) in
    rw other refl

-- the value of a tree of so many points with this root
abbrev pub tree_at : ℕ → ℕ → Tree
tree_at root count = record { root = root; levels = some_levels count; count = count; changes = 0; last = 0 }

new_in_any_order : (dims : ℕ) (points others : List Point) (p : Point) → IsPermutation points others → IsNewPoint dims points p → IsNewPoint dims others p
new_in_any_order dims points others p same new = record {
  apart = All-permutation (λ (q : Point). IsTrue (keys_differ dims q p)) points others same new.apart;
  last = All-permutation (λ (q : Point). q.version ≤ p.version) points others same new.last;
  few = omega (arith, new.few, length_permutation points others same);
}

none_of : (points : List Point) → length points ≡ 0 → points ≡ []
none_of [] none = refl
none_of (p ∷ points) none = absurd (omega (arith, none))

module _ {B : Type 0} (g : Ghosts B) where
  -- the part that is all of a tree may take the point
  pub tree_takes : (m : PageMap) (tree : Tree) (points : List Point) (part : Part) (p : Point) → 1 ≤ tree.count → CutsStand g m tree points → IsPartOf g m tree points part
      → IsNewPoint (suc g.DIMS) points p → length p.keys ≡ 3 → MayTake g m tree.count part p
  tree_takes m tree points part p some s is new three =
      let back : IsPermutation points (points_of part) = IsPermutation-sym (points_of part) points is.kept in
      record {
        stood = is.stood;
        once = subst NamesNoneTwice (own_pages g m tree points part some is) s.once;
        new = new_in_any_order (suc g.DIMS) points (points_of part) p back new;
        may_be = may_in_any_order (suc g.DIMS) points (points_of part) back s.may_be;
        three = three;
      }

  pub tree_balanced : (m : PageMap) (tree : Tree) (points : List Point) (part : Part) → 1 ≤ tree.count → IsPartOf g m tree points part → CutsBalanced g m tree
      → PartBalanced g m part
  tree_balanced m tree points part some is balanced = subst (λ (q : Part). PartBalanced g m q) (tree_is g m tree points part is) (balanced some)

  -- a tree of so many points, with a part that keeps them
  tree_stands : (m : PageMap) (root k : ℕ) (points : List Point) (p : Point) (part : Part) → k ≡ length (p ∷ points) → IsPartOf g m (tree_at root k) (p ∷ points) part
      → MayBeBuilt (suc g.DIMS) (p ∷ points) → NamesNoneTwice (part_pages g m part)
      → CutsStand g m (tree_at root k) (p ∷ points) × (tree_pages g m (tree_at root k) ≡ part_pages g m part)
  tree_stands m root k points p part counted is may once =
      let pages_are : tree_pages g m (tree_at root k) ≡ part_pages g m part = own_pages g m (tree_at root k) (p ∷ points) part (omega (arith, counted)) is in (
        record {
          count = counted;
          may_be = may;
          levels = ap (λ (n : ℕ). some_levels n) counted ∙ sym (levels_are (length (p ∷ points)) (omega arith));
          changes = refl;
          last = refl;
          none = λ none. absurd (omega (arith, none));
          part = λ some. (part, is);
          once = subst NamesNoneTwice (sym pages_are) once;
        },
        pages_are,
      )

  -- a tree of some points took one more
  pub tree_took : (m0 m1 : PageMap) (tree grown : Tree) (points : List Point) (part : Part) (p : Point) (first : ℕ) → 1 ≤ tree.count → CutsStand g m0 tree points
      → IsPartOf g m0 tree points part → MayBeBuilt (suc g.DIMS) (p ∷ points) → IsAddedAs g m0 m1 tree.count part p (Entry first ∷ [])
      → grown ≡ tree_at first (tree.count + 1) → TakesPoint (CutsStand g) (tree_pages g) (CutsBalanced g) m0 m1 tree grown points p
  tree_took m0 m1 tree grown points part p first some s is may got grown_is =
      let k : ℕ = tree.count + 1 in
      let root : Tree = tree_at first k in
      let begins : first_page got.grown ≡ Some first = (entry_of got.grown first [] [] (sym (append-nil (nodes_of got.grown) ∙ got.nodes_are))).0 in
      let now : IsPartOf g m1 root (p ∷ points) got.grown = record {
        stood = got.added.stood;
        begins = begins;
        kept = IsPermutation-trans (points_of got.grown) (p ∷ points_of part) (p ∷ points) got.added.points (IsPermutation-append_right (p ∷ []) (points_of part) points is.kept);
      } in
      let t = tree_stands m1 first k points p got.grown (omega (arith, s.count)) now may got.added.once in
      let pages0 : tree_pages g m0 tree ≡ part_pages g m0 part = own_pages g m0 tree points part some is in
      subst (λ (after : Tree). TakesPoint (CutsStand g) (tree_pages g) (CutsBalanced g) m0 m1 tree after points p) (sym grown_is) (record {
        stood = t.0;
        change = subst (λ (ps : List ℕ). Replaces ps (tree_pages g m1 root) m0 m1) (sym pages0)
            (subst (λ (ps : List ℕ). Replaces (part_pages g m0 part) ps m0 m1) (sym t.1) got.added.change);
        balance = λ before more.
            subst (λ (q : Part). PartBalanced g m1 q) (sym (tree_is g m1 root (p ∷ points) got.grown now))
            (got.added.balance (tree_balanced m0 tree points part some is before));
      })

  -- a tree of no points took the first
  pub tree_began : (m0 m1 : PageMap) (tree grown : Tree) (points : List Point) (p : Point) → tree.count ≡ 0 → CutsStand g m0 tree points
      → MayBeBuilt (suc g.DIMS) (p ∷ points) → HoldsLeaf m1 grown.root (p ∷ []) → Replaces [] (grown.root ∷ []) m0 m1
      → grown ≡ tree_at grown.root 1 → TakesPoint (CutsStand g) (tree_pages g) (CutsBalanced g) m0 m1 tree grown points p
  tree_began m0 m1 tree grown points p none s may holds made grown_is =
      let first : ℕ = grown.root in
      let empty : points ≡ [] = none_of points (omega (arith, s.count, none)) in
      let may_one : MayBeBuilt (suc g.DIMS) (p ∷ []) = subst (λ (ps : List Point). MayBeBuilt (suc g.DIMS) (p ∷ ps)) empty may in
      let root : Tree = tree_at first 1 in
      let now : IsPartOf g m1 root (p ∷ []) (Leaf first (p ∷ [])) = record {
        stood = record { shape = (refl, omega arith, omega arith); parted = may_one.three; borders = tt; spelled = holds };
        begins = refl;
        kept = IsPermutation-refl (p ∷ []);
      } in
      let t = tree_stands m1 first 1 [] p (Leaf first (p ∷ [])) refl now may_one (refl, tt) in
      let took : TakesPoint (CutsStand g) (tree_pages g) (CutsBalanced g) m0 m1 tree root [] p = record {
        stood = t.0;
        change = subst (λ (ps : List ℕ). Replaces ps (tree_pages g m1 root) m0 m1) (sym (no_pages g m0 tree none))
            (subst (λ (ps : List ℕ). Replaces [] ps m0 m1) (sym t.1) made);
        balance = λ before more. subst (λ (q : Part). PartBalanced g m1 q) (sym (tree_is g m1 root (p ∷ []) (Leaf first (p ∷ [])) now)) tt;
      } in
      subst (λ (after : Tree). TakesPoint (CutsStand g) (tree_pages g) (CutsBalanced g) m0 m1 tree after points p) (sym grown_is)
      (subst (λ (ps : List Point). TakesPoint (CutsStand g) (tree_pages g) (CutsBalanced g) m0 m1 tree root ps p) (sym empty) took)
