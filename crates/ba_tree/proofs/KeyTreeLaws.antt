-- What holds of every multiversion tree, as a border.
use Rattle.std.proofs.Common.{◌+◌, ◌≤◌, refl, arith, lit≤}
use Rattle.bw_types.specs.Digits.{digit_count}
use Rattle.bw_types.specs.DigitLaws.{digits_grow, powers_have_digits}
use Rattle.mvsb_tree.specs.Laws as over_keys
use Rattle.mvsb_tree.specs.Stands.{IsBalanced, IsEmptyTree, MvStands}
use Rattle.mvsb_tree.specs.Steps.{tree_pages}
use Rattle.bw_types.specs.Empty.{empty_tree}
use Rattle.cut_parts.specs.Borders.{HoldForTrees}
use Rattle.bw_types.specs.Depths.{IsCost}

cost_of : IsCost (λ n. digit_count 32 n + digit_count 24 n)
cost_of = record {
  grows = λ m n le.
      let roots : digit_count 32 m ≤ digit_count 32 n = digits_grow 32 m n (lit≤ tt) le in
      let nodes : digit_count 24 m ≤ digit_count 24 n = digits_grow 24 m n (lit≤ tt) le in
      omega (arith, roots, nodes);
  some = λ n some.
      let digit : 0 + 1 ≤ digit_count 32 n = powers_have_digits 32 0 n (lit≤ tt) some in
      omega (arith, digit);
}

without_pages : IsEmptyTree empty_tree
without_pages = (refl, refl, refl, refl, refl)

module _ (by_pages : over_keys.StandsByItsPages) (there : over_keys.PagesAreThere) (in_order : over_keys.StandsInAnyOrder) (none : over_keys.EmptyTreeStands)
    (balance : over_keys.BalanceByItsPages) (low : over_keys.EmptyTreeIsBalanced) where
  pub holds_for_trees : HoldForTrees (λ pages tree points. MvStands pages tree points) (λ pages tree. tree_pages pages tree) (λ pages tree. IsBalanced pages tree)
      (λ n. digit_count 32 n + digit_count 24 n) (λ n. 24) (λ n. 24)
  holds_for_trees = record {
    by_its_pages = λ a b tree points s h. by_pages a b tree points s h;
    balance = λ a b tree points s h is_low. balance a b tree points s h is_low;
    in_map = λ a tree points s. there a tree points s;
    once = λ a tree points s. s.once;
    any_order = λ a tree points others s moved. in_order a tree points others s moved;
    empty = λ a. (none a empty_tree without_pages, refl, low a empty_tree without_pages);
    counted = λ a tree points s. s.count;
    is_cost = cost_of;
    growth_rises = λ m n le. omega arith;
    share_rises = λ m n le. omega arith;
  }
