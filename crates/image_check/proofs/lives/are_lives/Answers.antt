use Rattle.std.proofs.Common.{◌≡◌, ◌++◌, List, [], true, false, IsPermutation, rules, sym, ◌∙◌, ap, subst}
use Rattle.std.proofs.lemmas.List.Sorted.{IsNonDecreasingBy-from_sort_by_key}
use Rattle.bw_types.specs.Lives.{Numbered, lives, lives_after}
use Rattle.bw_types.specs.declared.dated.Dated.{Dated}
use Rattle.page_warehouse.proofs.InOrderOfAdding.{in_order_of_adding}
use Rattle.image_check.proofs.lives.are_lives.Goals as goal

pub returns-clause-yes : goal.returns-clause-yes
returns-clause-yes c = λ e h are.
    let copied : c.extend_from_slice.new.self.items ≡ c.args.lives.now = c.in_ok-extend_from_slice.ensures.items ∙ ap (λ (ds : List Dated). ds ++ c.args.lives.now) c.new-sorted.ensures.items in
    let yes : c.are_same.result ≡ true = cc in
    let same = c.are_same.ensures.0 (sym (sym yes)) in
    let all : c.sort_unstable_by_key.new.self.items ≡ lives h = sym c.as_slice.ensures.value ∙ (same ∙ (c.as_slice-2.ensures.value ∙ (c.in_ok-rebuilt.ensures ∙ ap (λ (ns : List Numbered). lives_after [] ns) are))) in
    subst (λ (ds : List Dated). IsPermutation ds (lives h)) copied (subst (λ (ds : List Dated). IsPermutation c.extend_from_slice.new.self.items ds) all c.sort_unstable_by_key.ensures.permutation)

pub returns-clause-no : goal.returns-clause-no
returns-clause-no c = λ e h are all.
    let copied : c.extend_from_slice.new.self.items ≡ c.args.lives.now = c.in_ok-extend_from_slice.ensures.items ∙ ap (λ (ds : List Dated). ds ++ c.args.lives.now) c.new-sorted.ensures.items in
    let sorted = in_order_of_adding h c.args.lives.now c.extend_from_slice.new.self.items c.sort_unstable_by_key.new.self.items all copied c.sort_unstable_by_key.ensures.permutation
    (IsNonDecreasingBy-from_sort_by_key (λ (d : Dated). d.add_event) c.sort_unstable_by_key.new.self.items c.sort_unstable_by_key.ensures.sorted (λ a r q k. search rules)) in
    let built : c.in_ok-rebuilt.rebuilt.items ≡ lives h = c.in_ok-rebuilt.ensures ∙ ap (λ (ns : List Numbered). lives_after [] ns) are in
    let no : c.are_same.result ≡ false = cc in
    let yes : c.are_same.result ≡ true = c.are_same.ensures.1 (c.as_slice.ensures.value ∙ (sorted ∙ (sym built ∙ sym c.as_slice-2.ensures.value))) in
    absurd cc
