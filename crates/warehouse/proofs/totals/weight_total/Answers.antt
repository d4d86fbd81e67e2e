use Rattle.std.proofs.Common.{rules, ◌≡◌, ◌+◌, ◌*◌, ◌<◌, ◌≤◌, ◌^◌, ◌∙◌, ap, arith, sym, length, ℕ, ℤ, ◌+ℤ◌, nat_abs, to_z, of_z, FitsSigned}
use Rattle.std.proofs.lemmas.Int.{ints, to_z-of_z}
use Rattle.std.specs.Int.{w64, w128}
use Rattle.bw_types.specs.Meets.{meets}
use Rattle.warehouse.specs.Kept.{objects_at}
use Rattle.warehouse.specs.Parts.{part_at, part_if}
use Rattle.warehouse.proofs.Sizes.{abs-add, fits_from_abs}
use Rattle.warehouse.proofs.Sums.{total_step, total_end, int_sum_by-filter, int_sum_by-objects_at}
use Rattle.warehouse.proofs.totals.weight_total.Goals as goal

-- a sum of so many weights and one more fits
sum_fits : (a b : ℤ) (i n : ℕ) → n < 2 ^ 64 → i < n → nat_abs a ≤ i * 2 ^ 63 → nat_abs b ≤ 2 ^ 63 → (nat_abs (a +ℤ b) ≤ (i + 1) * 2 ^ 63) × FitsSigned w128 (a +ℤ b)
sum_fits a b i n few at ha hb =
    let e = abs-add a b in
    (omega arith, fits_from_abs (a +ℤ b) (omega arith))

weight_small : (z : ℤ) → FitsSigned w64 z → nat_abs z ≤ 2 ^ 63
weight_small z f = omega (arith, ints)

-- what the code's sum comes to
sum_is : (s b read : ℤ) → FitsSigned w128 read → FitsSigned w64 b → read ≡ to_z w64 (of_z w64 b) → FitsSigned w128 (s +ℤ b) → to_z w128 (of_z w128 (s +ℤ to_z w128 (of_z w128 read))) ≡ s +ℤ b
sum_is s b read f g e fits =
    let same : to_z w128 (of_z w128 read) ≡ b = to_z-of_z w128 read f ∙ e ∙ to_z-of_z w64 b g in
    ap (λ z. to_z w128 (of_z w128 (s +ℤ z))) same ∙ to_z-of_z w128 (s +ℤ b) fits

pub loop-life-preserved : goal.loop-life-preserved
loop-life-preserved c =
    let s : ℤ = to_z w128 c.loop-life.total-bits in
    let b : ℤ = c.weight_part.result in
    let read : FitsSigned w128 c.from-total.result = search rules in
    let weight : FitsSigned w64 b = search rules in
    let fits = sum_fits s b c.loop-life.life-index (length c.args.lives.now) (omega arith) (omega arith) c.loop-life.invariant.small (weight_small b weight) in
    let is = sum_is s b c.from-total.result read weight c.from-total.ensures fits.1 in
    record {
      is = total_step (part_at (part_if (meets c.args.dims c.args.query.now) (λ o. o.weight)) c.args.version) c.args.lives.now c.loop-life.life-index _ s b _ (omega arith) c.loop-life.invariant.is c.weight_part.ensures is;
      small = rw is fits.0;
    }

pub returns : goal.returns
returns c =
    c.loop-life.invariant.is
    ∙ total_end _ c.args.lives.now c.loop-life.life-index (omega arith)
    ∙ sym (int_sum_by-objects_at (part_if (meets c.args.dims c.args.query.now) (λ o. o.weight)) c.args.version c.args.lives.now)
    ∙ sym (int_sum_by-filter (meets c.args.dims c.args.query.now) (λ o. o.weight) (objects_at c.args.version c.args.lives.now))
