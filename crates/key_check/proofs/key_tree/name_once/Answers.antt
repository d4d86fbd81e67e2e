use Rattle.std.proofs.Common.{rules, ◌≡◌, length, ◌++◌, List, ℕ, IsPermutation, ap, sym, ◌∙◌, subst}
use Rattle.std.proofs.lemmas.List.Sorted.{IsPermutation-append_right, length_permutation}
use Rattle.key_check.proofs.Moving.{written}
use Rattle.key_check.proofs.key_tree.name_once.Goals as goal

pub returns-clause-named : goal.returns-clause-named
returns-clause-named c = λ _.
    let before : c.as_mut_slice.result.now ≡ c.args.found.now.items ++ c.args.nodes.now = c.as_mut_slice.ensures.value ∙ c.in_ok-extend_from_slice.ensures.items in
    let after : c.as_slice.result.now ≡ c.name_none_twice.new.pages =
    c.as_slice.ensures.value ∙ written c.extend_from_slice.new.self.len c.extend_from_slice.new.self.items c.name_none_twice.new.pages (search rules)
    (length_permutation c.as_mut_slice.result.now c.name_none_twice.new.pages c.name_none_twice.ensures.same ∙ ap length c.as_mut_slice.ensures.value) in
    let named : c.extend_from_slice-2.new.self.items ≡ c.args.named.now.items ++ c.as_slice.result.now = c.in_ok-extend_from_slice-2.ensures.items in
    let same : IsPermutation (c.args.found.now.items ++ c.args.nodes.now) c.as_slice.result.now =
    subst (λ (xs : List ℕ). IsPermutation xs c.as_slice.result.now) before (subst (IsPermutation c.as_mut_slice.result.now) (sym after) c.name_none_twice.ensures.same) in
    subst (IsPermutation (c.args.named.now.items ++ (c.args.found.now.items ++ c.args.nodes.now))) (sym named)
    (IsPermutation-append_right c.args.named.now.items (c.args.found.now.items ++ c.args.nodes.now) c.as_slice.result.now same)
