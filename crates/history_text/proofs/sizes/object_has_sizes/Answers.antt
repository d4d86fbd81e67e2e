-- Each coefficient is read.
use Rattle.std.proofs.Common.{◌≡◌, ◌≤◌, get_or, length, pos, subst, ℤ, List, rules, arith, w64, Fits, FitsSigned}
use Rattle.std.proofs.lemmas.List.{take_all}
use Rattle.std.proofs.lemmas.List.Elements.{All-more}
use Rattle.std.specs.List.{All}
use Rattle.history_text.proofs.ChangeSizes.{bits_of_all, bits_of}
use Rattle.history_text.proofs.sizes.object_has_sizes.Goals as goal

pub loop-coefficient-preserved : goal.loop-coefficient-preserved
loop-coefficient-preserved c =
    let fits : FitsSigned w64 (get_or c.args.object.now.coeffs c.loop-coefficient.coefficient-index (pos 0)) = search rules in
    let count : length c.args.object.now.coeffs ≡ 27 = search rules in
    All-more (FitsSigned w64) c.args.object.now.coeffs c.loop-coefficient.coefficient-index (pos 0) (omega (arith, count, c.loop-coefficient-test.true)) c.loop-coefficient.invariant fits

pub returns : goal.returns
returns c =
    let coeffs = c.args.object.now.coeffs in
    let id : Fits w64 c.args.object.now.id = search rules in
    let weight : FitsSigned w64 c.args.object.now.weight = search rules in
    let low : length c.args.object.now.low ≡ 3 = search rules in
    let high : length c.args.object.now.high ≡ 3 = search rules in
    let count : length coeffs ≡ 27 = search rules in
    let all : length coeffs ≤ c.loop-coefficient.coefficient-index = omega (arith, count, c.loop-coefficient-test.false) in
    record {
      id = id.fits;
      low = low;
      high = high;
      weight = bits_of c.args.object.now.weight weight;
      coeffs = count;
      each = bits_of_all coeffs (subst (λ (zs : List ℤ). All (FitsSigned w64) zs) (take_all c.loop-coefficient.coefficient-index coeffs all) c.loop-coefficient.invariant);
    }
