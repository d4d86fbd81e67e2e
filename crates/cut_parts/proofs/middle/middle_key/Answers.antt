use Rattle.std.proofs.Common.{◌≡◌, ℕ, ◌/◌, ◌<◌, List, [], length, get_or, rules, arith, ap, ◌∙◌, subst}
use Rattle.std.specs.List.Sorted.{IsNonDecreasingBy}
use Rattle.std.proofs.lemmas.List.{get_or_default}
use Rattle.std.proofs.lemmas.List.Sorted.{IsNonDecreasingBy-from_sort_by_key}
use Rattle.bw_types.specs.declared.point.Point.{Point}
use Rattle.cut_parts.specs.Medians.{key_of}
use Rattle.cut_parts.proofs.Ordering.{keys_differ, ascending, median}
use Rattle.cut_parts.proofs.middle.middle_key.Goals as goal

none : Point
none = record { keys = []; version = 0; weight = 0 }

pub returns-clause-ascending : goal.returns-clause-ascending
returns-clause-ascending c =
    let new : List Point = c.sort_unstable_by_key.new.self in
    let by : c.from-by.result ≡ c.args.dimension = c.from-by.ensures in
    let sorted : IsNonDecreasingBy (λ p. get_or p.keys c.from-by.result 0) new =
    IsNonDecreasingBy-from_sort_by_key (λ p. get_or p.keys c.from-by.result 0) _ c.sort_unstable_by_key.ensures.sorted (λ a r q k. search rules) in
    let up : IsNonDecreasingBy (key_of c.args.dimension) new = subst (λ (n : ℕ). IsNonDecreasingBy (λ (p : Point). get_or p.keys n 0) new) by sorted in
    ascending c.args.dimension new (keys_differ c.args.dimension c.args.points.now new c.sort_unstable_by_key.ensures.permutation c.requires.keys) up

pub returns-clause-median : goal.returns-clause-median
unfolding none
returns-clause-median c =
    let new : List Point = c.sort_unstable_by_key.new.self in
    let by : c.from-by.result ≡ c.args.dimension = c.from-by.ensures in
    let some = c.requires.some in
    let len = c.sort_unstable_by_key.ensures.len in
    let half : length new / 2 < length new = omega arith in
    median c.args.dimension (length new / 2) (get_or (get_or new (length new / 2) none).keys c.from-by.result 0) new (returns-clause-ascending c) half
    (λ d. ap (λ (n : ℕ). get_or (get_or new (length new / 2) none).keys n 0) by ∙ ap (key_of c.args.dimension) (get_or_default new (length new / 2) none d half))
