use Rattle.std.proofs.lemmas.List.Sorted.{IsNonDecreasingBy-from_sort, IsPermutation-sym}
use Rattle.page_layout.specs.FootprintLaws.{once_permuted}
use Rattle.page_checks.proofs.named.name_none_twice.Goals as goal

pub differ_in_order-requires : goal.differ_in_order-requires
differ_in_order-requires c = IsNonDecreasingBy-from_sort (λ x. x) _ c.sort_unstable.ensures.sorted

pub returns : goal.returns
returns c =
    let p = c.sort_unstable.ensures.permutation in
    record {
      once = (λ yes. once_permuted _ _ (IsPermutation-sym _ _ p) (c.differ_in_order.ensures.0 yes), λ once. c.differ_in_order.ensures.1 (once_permuted _ _ p once));
      same = p;
    }
