-- The part that is all of a tree, and when the tree stands.
use Rattle.std.proofs.Common.{◌≡◌, ℕ, suc, ◌≤◌, Some, List, [], ◌∷◌, ◌++◌, length, refl, sym, ap, ◌∙◌, subst, append-nil, arith}
use Rattle.std.specs.Prelude.{◌↔◌, Bool, true, false, IsTrue, IfOk, Result, Ok, Err, IsPermutation}
use Rattle.std.proofs.lemmas.Bool.{false≢true}
use Rattle.std.proofs.lemmas.List.Sorted.{IsPermutation-append_right, IsPermutation-sym}
use Rattle.bw_types.specs.declared.point.Point.{Point}
use Rattle.bw_types.specs.declared.tree.Tree.{Tree}
use Rattle.ports.specs.Pages.{PageMap}
use Rattle.page_layout.specs.Footprint.{NamesNoneTwice}
use Rattle.page_layout.specs.FootprintLaws.{once_permuted}
use Rattle.page_layout.specs.declared.cut_page.CutNode.TheVariants.{Entry}
use Rattle.cut_parts.specs.Borders.{MayBeBuilt}
use Rattle.cut_parts.specs.Parts.{Part, points_of}
use Rattle.cut_parts.specs.Spelling.{first_page, nodes_of}
use Rattle.cut_parts.specs.Standing.{CutsBalanced, CutsStand, PartBalanced, part_pages, tree_pages}
use Rattle.cut_parts.specs.declared.border_tree.BorderTree.{Ghosts}
use Rattle.cut_parts.proofs.PartNodes.{entry_of}
use Rattle.cut_parts.proofs.Trees.{entry_nodes, own_pages, tree_is}
use Rattle.page_checks.specs.declared.fault.CheckFault.{CheckFault}
use Rattle.image_check.specs.Numbers.{HasNumbers}
use Rattle.image_check.specs.Walked.{BeginWalked, BeginWithNone}
use Rattle.image_check.specs.Whole.{HasWhole, IsWhole}
use Rattle.image_check.proofs.Cuts.{same_part}

module _ {B : Type 0} (g : Ghosts B) (m : PageMap) (tree : Tree) (points : List Point) where
  -- a part that begins with the root, by its nodes
  root_nodes : (part : Part) → first_page part ≡ Some tree.root → Entry tree.root ∷ [] ≡ nodes_of part ++ []
  root_nodes part begins = sym (entry_nodes part tree.root begins) ∙ sym (append-nil (nodes_of part))

  -- where no part is walked, none is whole
  pub none_whole : BeginWithNone g m tree.count (Entry tree.root ∷ []) → (part : Part) → IsWhole g m tree points part → ⊥
  none_whole none part is = none part [] (root_nodes part is.of_tree.begins) is.of_tree.stood is.balance

  module _ (found : List Point) (own : List ℕ) (walked : BeginWalked g m tree.count (Entry tree.root ∷ []) [] found [] own) where
    -- a whole part is the one that was walked
    pub is_walked : (part : Part) → IsWhole g m tree points part → walked.part ≡ part
    is_walked part is = same_part g m tree.count (Entry tree.root ∷ []) walked.part part walked.rest [] walked.nodes_are (root_nodes part is.of_tree.begins) walked.is.stands is.of_tree.stood

    -- its points are those that were found
    pub points_found : (part : Part) → IsWhole g m tree points part → IsPermutation found points
    points_found part is =
        subst (λ (ps : List Point). IsPermutation ps points) (ap points_of (sym (is_walked part is)) ∙ sym walked.is.points) is.of_tree.kept

    -- its pages are those that were named
    pub named_once : (part : Part) → IsWhole g m tree points part → NamesNoneTwice own
    named_once part is =
        once_permuted (part_pages g m walked.part) own walked.is.names (subst (λ (p : Part). NamesNoneTwice (part_pages g m p)) (sym (is_walked part is)) is.once)

    pub whole : (before after : List ℕ) → IsPermutation found points → NamesNoneTwice own → after ≡ before ++ own → HasWhole g m tree points before after
    whole before after same once named =
        let pages : IsPermutation (part_pages g m walked.part) own = walked.is.names in
        record {
          part = walked.part;
          is = record {
            of_tree = record {
              stood = walked.is.stands;
              begins = (entry_of walked.part tree.root [] walked.rest walked.nodes_are).0;
              kept = subst (λ (ps : List Point). IsPermutation ps points) walked.is.points same;
            };
            balance = walked.is.balance;
            once = once_permuted own (part_pages g m walked.part) (IsPermutation-sym (part_pages g m walked.part) own pages) once;
          };
          names = subst (λ (ps : List ℕ). IsPermutation (before ++ part_pages g m walked.part) ps) (sym named)
              (IsPermutation-append_right before (part_pages g m walked.part) own pages);
        }

  -- a tree with points
  pub part_stands : HasNumbers tree (length points) → MayBeBuilt (suc g.DIMS) points → 1 ≤ tree.count → (part : Part) → IsWhole g m tree points part
      → CutsStand g m tree points × CutsBalanced g m tree × (tree_pages g m tree ≡ part_pages g m part)
  part_stands n may some part is =
      let pages : tree_pages g m tree ≡ part_pages g m part = own_pages g m tree points part some is.of_tree in (
        record {
          count = n.count;
          may_be = may;
          levels = n.levels;
          changes = n.changes;
          last = n.last;
          none = λ none. let counted = n.count in absurd (omega (arith, some, none, counted));
          part = λ more. (part, is.of_tree);
          once = subst NamesNoneTwice (sym pages) is.once;
        },
        λ more. subst (λ (p : Part). PartBalanced g m p) (sym (tree_is g m tree points part is.of_tree)) is.balance,
        pages,
      )

  -- a tree that stands, is balanced and has points has a whole part
  pub standing_part : 1 ≤ tree.count → CutsStand g m tree points → CutsBalanced g m tree → (part : Part) × IsWhole g m tree points part
  standing_part some s balance =
      let count = s.count in
      let k = s.part (omega (arith, some, count)) in (
        k.0,
        record {
          of_tree = k.1;
          balance = subst (λ (p : Part). PartBalanced g m p) (tree_is g m tree points k.0 k.1) (balance some);
          once = subst NamesNoneTwice (own_pages g m tree points k.0 some k.1) s.once;
        },
      )

-- An answer decides what its yes shows and its no refutes.
pub decided : (result : Result Bool CheckFault) (Told Stands : Type 0) → (result ≡ Ok true → Told → Stands) → (result ≡ Ok false → Told → Stands → ⊥)
    → IfOk result (λ stands. Told → IsTrue stands ↔ Stands)
decided (Ok true) Told Stands shown wrong = λ told. (λ e. shown refl told, λ s. refl)
decided (Ok false) Told Stands shown wrong = λ told. (λ e. absurd (false≢true e), λ s. absurd (wrong refl told s))
decided (Err fault) Told Stands shown wrong = tt
