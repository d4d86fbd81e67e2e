-- A house that stays as before, call by call.
use Rattle.std.proofs.Common.{ℕ, Bool, sym, ◌∙◌, subst}
use Rattle.bw_types.specs.History.{History}
use Rattle.bw_types.specs.declared.params.Params.{Params}
use Rattle.warehouse.specs.Left.{IsAsBefore}

pub still_before : {H D I M : Type 0} (params_of : H → Params) (device_of : H → D) (stands_for : Bool → D → Params → History → Type 0) (has_new_form : D → Type 0)
    (tells_of : D → Bool) (image_of : D → I) (moments_of : D → M) (charge_of : D → ℕ) (a b c : H)
    → IsAsBefore params_of device_of stands_for has_new_form tells_of image_of moments_of charge_of a b
    → IsAsBefore params_of device_of stands_for has_new_form tells_of image_of moments_of charge_of b c
    → IsAsBefore params_of device_of stands_for has_new_form tells_of image_of moments_of charge_of a c
still_before params_of device_of stands_for has_new_form tells_of image_of moments_of charge_of a b c first second = record {
  params = second.params ∙ first.params;
  stands = λ whole h held.
      subst (λ (p : Params). stands_for whole (device_of c) p h) first.params
      (second.stands whole h (subst (λ (p : Params). stands_for whole (device_of b) p h) (sym first.params) (first.stands whole h held)));
  current = λ has. second.current (first.current has);
  tells = second.tells ∙ first.tells;
  image = second.image ∙ first.image;
  moments = second.moments ∙ first.moments;
  charge = second.charge ∙ first.charge;
}
