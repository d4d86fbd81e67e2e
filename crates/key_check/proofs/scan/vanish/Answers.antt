use Rattle.std.proofs.Common.{rules, ap, sym, ◌∙◌, ◌≡◌, List, ℕ, ◌%◌, ◌^◌}
use Rattle.std.specs.List.Sorted.{IsPermutation}
use Rattle.key_check.specs.declared.corner.Corner.{Corner}
use Rattle.std.proofs.lemmas.List.Sorted.{IsNonDecreasingBy-from_sort_by_key, sum_by-IsPermutation}
use Rattle.key_check.specs.Sums.{corner_sum, rank, weight_at}
use Rattle.key_check.proofs.scan.vanish.Goals as goal

pub vanish_in_order-requires : goal.vanish_in_order-requires
vanish_in_order-requires c = IsNonDecreasingBy-from_sort_by_key rank _ c.sort_unstable_by_key.ensures.sorted (λ a r q k. search rules)

same_sum : (a b : List Corner) → IsPermutation a b → (key version : ℕ) → corner_sum b key version ≡ corner_sum a key version
same_sum a b p key version = ap (λ (n : ℕ). n % 2 ^ 128) (sum_by-IsPermutation (weight_at key version) a b p)

pub returns : goal.returns
returns c =
    let p = c.sort_unstable_by_key.ensures.permutation in (
      λ yes key version k v. sym (same_sum _ _ p key version) ∙ c.vanish_in_order.ensures.0 yes key version k v,
      λ all. c.vanish_in_order.ensures.1 (λ key version k v. same_sum _ _ p key version ∙ all key version k v),
    )
