use Rattle.std.proofs.Common.{◌≡◌, ℕ, List, get_or, rules, subst}
use Rattle.std.specs.List.Sorted.{IsNonDecreasingBy}
use Rattle.std.proofs.lemmas.List.Sorted.{IsNonDecreasingBy-from_sort_by_key}
use Rattle.bw_types.specs.declared.point.Point.{Point}
use Rattle.cut_parts.specs.Medians.{key_of}
use Rattle.cut_parts.proofs.Ordering.{keys_differ}
use Rattle.cut_parts.proofs.Apart.{differ_where_rising, rising_where_differ}
use Rattle.cut_parts.proofs.fitting.do_differ.Goals as goal

pub returns-clause-differ : goal.returns-clause-differ
returns-clause-differ c = λ yes. differ_where_rising c.args.dimension c.sort_unstable_by_key.new.self (c.do_rise.ensures.0 yes)

pub returns-clause-only : goal.returns-clause-only
returns-clause-only c = λ differ.
    let new : List Point = c.sort_unstable_by_key.new.self in
    let by : c.from-by.result ≡ c.args.dimension = c.from-by.ensures in
    let sorted : IsNonDecreasingBy (λ p. get_or p.keys c.from-by.result 0) new =
    IsNonDecreasingBy-from_sort_by_key (λ p. get_or p.keys c.from-by.result 0) _ c.sort_unstable_by_key.ensures.sorted (λ a r q k. search rules) in
    let up : IsNonDecreasingBy (key_of c.args.dimension) new = subst (λ (n : ℕ). IsNonDecreasingBy (λ (p : Point). get_or p.keys n 0) new) by sorted in
    c.do_rise.ensures.1 (rising_where_differ c.args.dimension new (keys_differ c.args.dimension c.args.points.now new c.sort_unstable_by_key.ensures.permutation differ) up)
