-- A part that is made anew.
use Rattle.std.proofs.Common.{◌≡◌, ℕ, suc, ◌+◌, ◌*◌, ◌-◌, ◌^◌, ◌<◌, List, [], ◌∷◌, ◌++◌, length, take, drop, sym, ap, ◌∙◌, subst, arith, length-append}
use Rattle.std.specs.Prelude.{IsPermutation}
use Rattle.std.proofs.lemmas.List.Sorted.{IsPermutation-sym, IsPermutation-to_front, IsPermutation-trans, length_permutation}
use Rattle.bw_types.specs.declared.point.Point.{Point}
use Rattle.ports.specs.Frame.{Replaces}
use Rattle.ports.specs.FrameLaws.{Replaces-then}
use Rattle.ports.specs.Pages.{PageMap}
use Rattle.page_layout.specs.declared.cut_page.CutNode.{CutNode}
use Rattle.page_layout.specs.declared.cut_page.CutNode.TheVariants.{Entry}
use Rattle.dom_index.specs.Points.{AreKeysBelow, IsNewPoint}
use Rattle.cut_parts.specs.Borders.{MayBeBuilt}
use Rattle.cut_parts.specs.Damage.{after_parts}
use Rattle.cut_parts.specs.Parts.{Part, HasShape, points_of}
use Rattle.cut_parts.specs.Spelling.{nodes_of}
use Rattle.cut_parts.specs.Standing.{PartStands, cuts_share, part_pages}
use Rattle.cut_parts.specs.declared.border_tree.BorderTree.{Ghosts}
use Rattle.cut_parts.proofs.Depths.{parts_are_counted}
use Rattle.cut_parts.proofs.Orders.{may_in_any_order}
use Rattle.cut_parts.proofs.Trees.{entry_nodes}
use Rattle.cut_parts.proofs.Places.{after_part}
use Rattle.ba_tree.specs.Built.{IsBuiltAt}
use Rattle.ba_tree.specs.Additions.{IsGrownIn, MayTake}
use Rattle.ba_tree.proofs.NewPoints.{with_new}
use Rattle.ba_tree.proofs.Places.{drop_all_front, take_front}

pub built_in_any_order : {B : Type 0} (g : Ghosts B) (m0 m1 : PageMap) (page : ℕ) (points fitted few : List Point) → IsPermutation points fitted → IsPermutation points few
    → IsBuiltAt g fitted m0 m1 page → IsBuiltAt g few m0 m1 page
built_in_any_order g m0 m1 page points fitted few first second built =
    let long : length fitted ≡ length few = omega (arith, length_permutation points fitted first, length_permutation points few second) in
    record {
      part = built.part;
      is = record {
        stood = subst (λ (n : ℕ). PartStands g m1 n built.part) long built.is.stood;
        balance = built.is.balance;
        kept = IsPermutation-trans (points_of built.part) fitted few built.is.kept (IsPermutation-trans fitted points few (IsPermutation-sym points fitted first) second);
        change = built.is.change;
        once = built.is.once;
      };
      begins = built.begins;
    }

pub made_anew : {B : Type 0} (g : Ghosts B) (m0 m1 m2 : PageMap) (part : Part) (nodes grown front rest : List CutNode) (place n child : ℕ) (p : Point)
    → nodes ≡ front ++ (nodes_of part ++ rest) → place ≡ length front → MayTake g m0 n part p
    → Replaces (part_pages g m0 part) [] m0 m1 → IsBuiltAt g (p ∷ points_of part) m1 m2 child
    → grown ≡ take place nodes ++ (Entry child ∷ after_parts 1 (drop place nodes))
    → IsGrownIn g m0 m2 n part p grown front rest
made_anew g m0 m1 m2 part nodes grown front rest place n child p is at take_p freed built set =
    let counted = parts_are_counted part n take_p.stood.shape in
    let many : length (p ∷ points_of part) ≡ n + 1 = omega (arith, counted) in
    let before : take place nodes ≡ front = ap (λ (ns : List CutNode). take place ns) is ∙ take_front front (nodes_of part ++ rest) place at in
    let behind : after_parts 1 (drop place nodes) ≡ rest =
    ap (λ (ns : List CutNode). after_parts 1 (drop place ns)) is ∙ ap (λ (ns : List CutNode). after_parts 1 ns) (drop_all_front front (nodes_of part ++ rest) place at) ∙ after_part part 0 rest in
    record {
      grown = built.part;
      added = record {
        stood = subst (λ (k : ℕ). PartStands g m2 k built.part) many built.is.stood;
        points = built.is.kept;
        change = Replaces-then (part_pages g m0 part) [] (part_pages g m2 built.part) m0 m1 m2 freed built.is.change;
        once = built.is.once;
        balance = λ _. built.is.balance;
      };
      nodes_are = set ∙ ap (λ (ns : List CutNode). ns ++ (Entry child ∷ after_parts 1 (drop place nodes))) before
          ∙ ap (λ (ns : List CutNode). front ++ (Entry child ∷ ns)) behind
          ∙ ap (λ (ns : List CutNode). front ++ (ns ++ rest)) (sym (entry_nodes built.part child built.begins));
    }

-- the points of a part and a new one may be built, in whatever order they come
pub again_may : (d : ℕ) (part : Part) (p : Point) (all : List Point) → MayBeBuilt (suc d) (points_of part) → IsNewPoint (suc d) (points_of part) p → AreKeysBelow (suc d) p.keys
    → p.version < 2 ^ 32 - 1 → length p.keys ≡ 3 → all ≡ points_of part ++ (p ∷ []) → MayBeBuilt (suc d) all
again_may d part p all may new below version three is =
    subst (λ (ps : List Point). MayBeBuilt (suc d) ps) (sym is)
    (may_in_any_order (suc d) (p ∷ points_of part) (points_of part ++ (p ∷ [])) (IsPermutation-sym (points_of part ++ (p ∷ [])) (p ∷ points_of part) (IsPermutation-to_front (points_of part) p))
    (with_new (suc d) (points_of part) p may new below version three))

pub share_of : {B : Type 0} (g : Ghosts B) (part : Part) (n : ℕ) (p : Point) (all : List Point) → HasShape n part → all ≡ points_of part ++ (p ∷ [])
    → length all * cuts_share g (length all) ≡ (n + 1) * cuts_share g (n + 1)
share_of g part n p all shape is =
    let counted = parts_are_counted part n shape in
    let long : length all ≡ n + 1 = omega (arith, ap (λ (ps : List Point). length ps) is, length-append (points_of part) (p ∷ []), counted) in
    ap (λ (k : ℕ). k * cuts_share g k) long
