-- The weight of a corner in a plane, from the sum that a call gave.
use Rattle.std.proofs.Common.{◌≡◌, ℕ, List, [], Some, pos, sym, ap, ◌∙◌}
use Rattle.std.specs.List.{slice_index_or}
use Rattle.std.specs.Option.{option_map_or}
use Rattle.bw_types.specs.Residues.{residue}
use Rattle.bw_types.specs.declared.params.Params.{Params}
use Rattle.bw_types.specs.declared.object.Object.{Object}
use Rattle.corner_weights.specs.Corners.{object_corner}
use Rattle.corner_weights.specs.Subsets.{signed_by, residue_signed_by}
use Rattle.corner_weights.specs.SumLaws.{residue_keeps_sign}
use Rattle.corner_weights.specs.Planes.{corner_sum, corner_weight, plane_exponents, plane_weight}

pub plane_weight_is : (params : Params) (o : Object) (g subset plane : ℕ) (corner : List ℕ) (number sum result : ℕ) → params.degree ≡ Some g → corner ≡ object_corner o subset → number ≡ plane
    → sum ≡ residue (corner_sum params o g corner (slice_index_or (plane_exponents params.dims g) number [])) → result ≡ residue_signed_by subset sum
    → result ≡ residue (plane_weight params o subset plane)
plane_weight_is params o g subset plane corner number sum result has there same is_sum now =
    now ∙ ap (residue_signed_by subset) is_sum ∙ sym (residue_keeps_sign subset (corner_sum params o g corner (slice_index_or (plane_exponents params.dims g) number [])))
    ∙ ap (λ c. residue (signed_by subset (corner_sum params o g c (slice_index_or (plane_exponents params.dims g) number [])))) there
    ∙ ap (λ n. residue (corner_weight params o g subset (slice_index_or (plane_exponents params.dims g) n []))) same
    ∙ ap (λ d. residue (option_map_or (λ g. corner_weight params o g subset (slice_index_or (plane_exponents params.dims g) plane [])) d (pos 0))) (sym has)
