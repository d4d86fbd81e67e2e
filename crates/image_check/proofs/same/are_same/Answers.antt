use Rattle.std.proofs.Common.{◌≡◌, ◌++◌, List, get_or, ap, sym, ◌∙◌, subst, rules}
use Rattle.std.specs.Prelude.{IsPermutation}
use Rattle.std.specs.Bool.{Decides}
use Rattle.std.specs.List.Sorted.{IsNonDecreasingBy}
use Rattle.std.proofs.lemmas.List.Sorted.{IsNonDecreasingBy-from_sort_by_key}
use Rattle.bw_types.specs.declared.point.Point.{Point}
use Rattle.image_check.proofs.InOrder.{same_decided}
use Rattle.image_check.proofs.same.are_same.Goals as goal

pub returns : goal.returns
returns c = λ dims some may.
    let sorted : List Point = c.sort_unstable_by_key-2.new.self in
    let own : List Point = c.sort_unstable_by_key.new.self.items in
    let copied : c.extend_from_slice.new.self.items ≡ c.args.points.now =
    c.in_ok-extend_from_slice.ensures.items ∙ ap (λ (ps : List Point). ps ++ c.args.points.now) c.new-sorted.ensures.items in
    let up : IsNonDecreasingBy (λ (p : Point). get_or p.keys 0 0) sorted =
    IsNonDecreasingBy-from_sort_by_key (λ (p : Point). get_or p.keys 0 0) sorted c.sort_unstable_by_key-2.ensures.sorted (λ a r q k. search rules) in
    let ups : IsNonDecreasingBy (λ (p : Point). get_or p.keys 0 0) own =
    IsNonDecreasingBy-from_sort_by_key (λ (p : Point). get_or p.keys 0 0) own c.sort_unstable_by_key.ensures.sorted (λ a r q k. search rules) in
    let put : IsPermutation c.args.points.now own = subst (λ (ps : List Point). IsPermutation ps own) copied c.sort_unstable_by_key.ensures.permutation in
    let decided : Decides c.are_equal.result (sorted ≡ own) = (
      λ yes. c.are_equal.ensures.0 yes ∙ c.as_slice.ensures.value,
      λ same. c.are_equal.ensures.1 (same ∙ sym c.as_slice.ensures.value),
    ) in
    same_decided dims c.args.points.now c.args.found.now sorted own c.are_equal.result some may c.sort_unstable_by_key-2.ensures.permutation put up ups decided
