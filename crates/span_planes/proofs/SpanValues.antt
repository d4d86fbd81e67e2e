-- A span, read from the residues of two sums.
use Rattle.std.proofs.Common.{◌≡◌, ◌≢◌, ℕ, zero, suc, ◌+◌, ◌-◌, ◌*◌, ◌%◌, ◌^◌, ◌<◌, ◌≤◌, length, ℤ, pos, neg_ℤ, ◌+ℤ◌, ◌-ℤ◌, ◌≤ℤ◌, ◌<ℤ◌, nat_abs, refl, sym, ap, ◌∙◌, arith}
use Rattle.std.specs.List.{All}
use Rattle.std.proofs.Math.Nat.{mul-le-mul_right}
use Rattle.std.proofs.lemmas.Int.{ints}
use Rattle.bw_types.specs.History.{History, changes, event_count}
use Rattle.bw_types.specs.ResidueLaws.{residue_of_opposite, residue_of_sum, signed_of_residue}
use Rattle.bw_types.specs.Residues.{opposite_residue, residue, signed_of}
use Rattle.bw_types.specs.declared.params.Params.{Params}
use Rattle.bw_types.specs.declared.query.Query.{Query}
use Rattle.history_laws.specs.Bounds.{HasSmallWeight}
use Rattle.span_planes.specs.Laws.{SpanIsDifference, SpansAreBounded}
use Rattle.span_planes.specs.SpanSums.{span_sum, sum_before, sum_up_to}

-- 32 bits of versions, 28 bits of changes and 63 bits of each weight
within : (span : ℤ) (last changes : ℕ) → last < 2 ^ 32 → changes ≤ 2 ^ 28 → nat_abs span ≤ (last + 1) * (changes * 2 ^ 63) → (neg_ℤ (pos (2 ^ 127)) ≤ℤ span) × (span <ℤ pos (2 ^ 127))
within span last changes late few bound =
    let more : (last + 1) * (changes * 2 ^ 63) ≤ 2 ^ 32 * (changes * 2 ^ 63) = mul-le-mul_right (changes * 2 ^ 63) (omega (arith, late)) in
    let most : nat_abs span ≤ 2 ^ 123 = omega (arith, bound, more, few) in
    (omega (arith, ints, most), omega (arith, ints, most))

module _ (params : Params) (h : History) (first last : ℕ) (q : Query) (le : first ≤ last) where
  -- A span is read from its residue.
  pub span_read : SpansAreBounded → All HasSmallWeight (changes h) → last < 2 ^ 32 → event_count h ≤ 2 ^ 28 → (total : ℕ) (value : ℤ) → total ≡ residue (span_sum params h first last q) → value ≡ signed_of total
      → value ≡ span_sum params h first last q
  span_read law small late few total value is_total is_value =
      let fits = within (span_sum params h first last q) last (length (changes h)) late (omega (arith, few)) (law params h first last q small le) in
      is_value ∙ ap signed_of is_total ∙ signed_of_residue (span_sum params h first last q) fits.0 fits.1

  module _ (law : SpanIsDifference) where
    -- From version 0 on it is the sum up to its last version.
    pub span_from_zero : first ≡ 0 → span_sum params h first last q ≡ sum_up_to params h last q
    span_from_zero none =
        law params h first last q le ∙ ap (λ (n : ℕ). sum_up_to params h last q -ℤ sum_before params h n q) none ∙ all_of (sum_up_to params h last q)
      where
        all_of : (x : ℤ) → x -ℤ pos 0 ≡ x
        all_of x = omega (arith, ints)

    before_first : (n : ℕ) → n ≢ 0 → sum_before params h n q ≡ sum_up_to params h (n - 1) q
    before_first zero some = absurd (some refl)
    before_first (suc n) some = let same : n ≡ suc n - 1 = omega arith in ap (λ (k : ℕ). sum_up_to params h k q) same

    -- Else its residue is what that of the sum before its first version leaves of that one's.
    pub span_left : first ≢ 0 → (whole before less total : ℕ) → whole ≡ residue (sum_up_to params h last q) → before ≡ residue (sum_up_to params h (first - 1) q)
        → less ≡ opposite_residue before → total ≡ (whole + less) % 2 ^ 128 → total ≡ residue (span_sum params h first last q)
    span_left some whole before less total is_whole is_before is_less is_total =
        let x : ℤ = sum_up_to params h last q in
        let y : ℤ = sum_up_to params h (first - 1) q in
        let opposite : less ≡ residue (neg_ℤ y) = is_less ∙ ap opposite_residue is_before ∙ sym (residue_of_opposite y) in
        let span : span_sum params h first last q ≡ x -ℤ y = law params h first last q le ∙ ap (λ (z : ℤ). x -ℤ z) (before_first first some) in
        is_total ∙ ap (λ (n : ℕ). (n + less) % 2 ^ 128) is_whole ∙ ap (λ (n : ℕ). (residue x + n) % 2 ^ 128) opposite
        ∙ sym (residue_of_sum x (neg_ℤ y)) ∙ ap residue (difference x y ∙ sym span)
      where
        difference : (a b : ℤ) → a +ℤ neg_ℤ b ≡ a -ℤ b
        difference a b = omega (arith, ints)
