use Rattle.std.proofs.Common.{rules, ◌∙◌, ap, pos, FitsSigned}
use Rattle.std.proofs.lemmas.Int.{to_z-of_z}
use Rattle.std.specs.Int.{int_wrapping_neg, w128}
use Rattle.sample_rows.specs.Summary.{number_in}
use Rattle.sample_rows.proofs.Wrapped.{wrapped_opposite}
use Rattle.sample_rows.proofs.summary.opposite_at.Goals as goal

pub returns : goal.returns
returns c =
    let small : FitsSigned w128 c.number_at.result = search rules in
    let fits : FitsSigned w128 c.wrapping_neg.result = search rules in
    to_z-of_z w128 c.wrapping_neg.result fits ∙ c.wrapping_neg.ensures ∙ ap (int_wrapping_neg w128) (to_z-of_z w128 c.number_at.result small ∙ c.number_at.ensures)
    ∙ wrapped_opposite (pos (number_in c.args.digits.now))
