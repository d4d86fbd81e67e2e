use Rattle.std.proofs.Common.{◌<◌, ◌⊎◌, inl, inr, sym, subst, ℕ, arith, ◌&&◌, nat_le, slice_index}
use Rattle.bw_types.specs.Fits.{greatest_number}
use Rattle.bw_types.proofs.Below.{each_below-false, ordered-false}
use Rattle.bw_types.proofs.fits.ends_fit.Goals as goal
use Rattle.bw_types.proofs.fits.ends_fit.Goals.{then-low-i-via-then-low-i, then-low-i-via-else-low-i+then-high-i}

pub returns-then-low-i : goal.returns-then-low-i
returns-then-low-i c =
    let at = c.loop-i.i in
    let greatest = c.greatest_number-greatest.ensures in
    let Over : ℕ → Type 0 = λ g. g < slice_index c.args.high.now at in
    let bad : (slice_index c.args.high.now at < slice_index c.args.low.now at) ⊎ (greatest_number c.args.params.now < slice_index c.args.high.now at) =
    elim c.then-low-i.branch [
      | then-low-i-via-then-low-i w ↦ inl w.if-low-i.true
      | then-low-i-via-else-low-i+then-high-i w ↦ inr (subst Over greatest w.if-high-i.true)
    ] in
    sym (each_below-false c.args.params.now.dims at (λ i. nat_le (slice_index c.args.low.now i) (slice_index c.args.high.now i) && nat_le (slice_index c.args.high.now i) (greatest_number c.args.params.now)) (omega arith) (ordered-false _ _ _ bad))
