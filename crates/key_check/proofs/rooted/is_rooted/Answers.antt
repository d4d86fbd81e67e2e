use Rattle.std.proofs.Common.{ℕ, ◌^◌, ◌<◌, ◌↔◌, nat_le, false, Bool, IsTrue, Option, ap, sym, ◌∙◌, subst, arith}
use Rattle.std.specs.Option.{option_map_or}
use Rattle.key_check.specs.KeyTrees.{IsRooted}
use Rattle.key_check.proofs.Rooting.{rooted_is}
use Rattle.key_check.proofs.rooted.is_rooted.Goals as goal

pub returns-in-Some : goal.returns-in-Some
returns-in-Some c = λ a.
    let fits : c.in-Some.first < 2 ^ 32 = omega arith in
    subst (λ (b : Bool). IsTrue b ↔ IsRooted c.args.steps.now c.args.points.now) (sym c.is_never_zero.ensures)
    (rooted_is c.in-Some.first c.args.steps.now c.args.points.now fits a
    (λ v. c.first_version.ensures v ∙ ap (λ (o : Option ℕ). option_map_or (λ f. nat_le f v) o false) c.in-Some.is))
