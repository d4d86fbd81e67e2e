use Rattle.std.proofs.Common.{rules}
use Rattle.std.proofs.lemmas.List.Sorted.{IsNonDecreasingBy-from_sort_by_key}
use Rattle.tests_keys.proofs.building.build_of.Goals as goal

pub mv_build-requires-clause-in_order : goal.mv_build-requires-clause-in_order
mv_build-requires-clause-in_order c =
    IsNonDecreasingBy-from_sort_by_key (λ p. p.version) _ c.sort_unstable_by_key.ensures.sorted (λ a r q k. search rules)
