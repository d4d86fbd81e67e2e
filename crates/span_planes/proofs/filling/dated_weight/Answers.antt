use Rattle.std.proofs.Common.{◌≡◌, ℕ, pos, ◌*ℤ◌, not, rules, ap, ◌∙◌}
use Rattle.bw_types.specs.Residues.{residue}
use Rattle.corner_forest.specs.Entries.{entered_residue}
use Rattle.span_planes.proofs.FillWeights.{dated_residue}
use Rattle.span_planes.proofs.filling.dated_weight.Goals as goal

pub returns : goal.returns
returns c =
    let event = c.args.event.now in
    let is : c.res_mul.result ≡ residue (pos event.version *ℤ event.object.weight) =
    dated_residue c.res_mul.result c.from-2.result c.res_of-weight.result event.version event.object.weight c.res_mul.ensures (search rules) (search rules) (search rules) in
    c.signed.ensures ∙ ap (λ (r : ℕ). entered_residue (not event.add) r) is
