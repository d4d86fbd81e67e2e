-- Forests stand for lives in any order.
use Rattle.std.proofs.Common.{ℕ, suc, ◌*◌, ◌≤◌, ◌^◌, List, [], ◌∷◌, subst, sym, IsPermutation}
use Rattle.std.proofs.lemmas.List.Sorted.{All-permutation, length_permutation}
use Rattle.bw_types.specs.declared.dated.Dated.{Dated}
use Rattle.bw_types.specs.declared.params.Params.{Params}
use Rattle.bw_types.specs.declared.point.Point.{Point}
use Rattle.bw_types.specs.declared.tree.Tree.{Tree}
use Rattle.ports.specs.Pages.{PageMap}
use Rattle.corner_weights.specs.PlaneSums.{Entered, EnteredFits}
use Rattle.dom_index.specs.declared.index.DomIndex.{Ghosts}
use Rattle.history_laws.specs.Entries.{entries_of, life_entries}
use Rattle.page_warehouse.proofs.Rejoined.{rejoined}
use Rattle.corner_forest.specs.Entries.{corner_count, entry_points, root_points}
use Rattle.corner_forest.specs.Stands.{ForestStands, HasSmallWeight}
use Rattle.corner_forest.specs.Trees.{EachStands}

module _ {X : Type 0} (g : Ghosts X)
    (any : (pages : PageMap) (dims : ℕ) (tree : Tree) (points others : List Point) → g.stands pages dims tree points → IsPermutation points others → g.stands pages dims tree others) where
  each_in_any_order : (pages : PageMap) (dims : ℕ) (P Q : ℕ → List Point) (from : ℕ) (ts : List Tree) → ((j : ℕ) → IsPermutation (P j) (Q j))
      → EachStands (g.stands pages dims) P from ts → EachStands (g.stands pages dims) Q from ts
  each_in_any_order pages dims P Q from [] moved s = tt
  each_in_any_order pages dims P Q from (t ∷ ts) moved s = (any pages dims t (P from) (Q from) s.0 (moved from), each_in_any_order pages dims P Q (suc from) ts moved s.1)

  entries_in_any_order : (pages : PageMap) (params : Params) (roots : List Tree) (entries others : List Entered) → IsPermutation entries others
      → ForestStands g pages params roots entries → ForestStands g pages params roots others
  entries_in_any_order pages params roots entries others p s = record {
    count = s.count;
    fits = All-permutation (EnteredFits params) entries others p s.fits;
    weights = All-permutation HasSmallWeight entries others p s.weights;
    few = subst (λ (n : ℕ). n * corner_count params ≤ 2 ^ 31) (sym (length_permutation entries others p)) s.few;
    trees = each_in_any_order pages params.dims (root_points params entries) (root_points params others) 0 roots (λ root. rejoined (entry_points params root) entries others p) s.trees;
  }

  pub forest_in_any_order : (pages : PageMap) (params : Params) (roots : List Tree) (found others : List Dated) → IsPermutation found others
      → ForestStands g pages params roots (entries_of found) → ForestStands g pages params roots (entries_of others)
  forest_in_any_order pages params roots found others p s =
      entries_in_any_order pages params roots (entries_of found) (entries_of others) (rejoined life_entries found others p) s
