use Rattle.std.proofs.Common.{◌≡◌, ◌∙◌, Bool, cond, slice_index, ap, sym, arith}
use Rattle.bw_types.specs.Residues.{opposite_residue}
use Rattle.key_check.proofs.Opposites.{opposite_is}
use Rattle.key_check.proofs.points.opposite_of.Goals as goal
use Rattle.key_check.proofs.points.opposite_of.Goals.{then-keyed, else-keyed}

pub returns : goal.returns
returns c =
    let k : c.if-keyed.result ≡ cond c.args.keyed (slice_index c.args.point.now.keys 0) 0 = elim c.if-keyed.branch [
      | then-keyed w ↦ w.result-is ∙ sym (ap (λ (b : Bool). cond b (slice_index c.args.point.now.keys 0) 0) w.if-keyed.true)
      | else-keyed w ↦ w.result-is ∙ sym (ap (λ (b : Bool). cond b (slice_index c.args.point.now.keys 0) 0) w.if-keyed.false)
    ] in
    let w : c.wrapping_neg.result ≡ opposite_residue c.args.point.now.weight = opposite_is _ _ (omega arith) (omega arith) c.wrapping_neg.ensures in
    record {
      value = λ i. record { version = c.args.point.now.version; key = k i; weight = w i };
      typed = omega arith;
    }
