-- What the half from the median on has.
use Rattle.std.proofs.Common.{◌≡◌, ℕ, ◌+◌, ◌<◌, ◌≤◌, inl, inr, List, length, get_or, drop, slice_index, sym, ap, ◌∙◌, subst, arith}
use Rattle.std.specs.List.{All}
use Rattle.std.proofs.lemmas.Bool.{cases_eq}
use Rattle.std.proofs.lemmas.List.{get_or-drop, length-drop}
use Rattle.bw_types.specs.declared.point.Point.{Point}
use Rattle.cut_parts.specs.Medians.{IsMedian, key_of}

pub high_half : (dimension half key : ℕ) (points : List Point) → IsMedian dimension points half key → All (λ p. key ≤ slice_index p.keys dimension) (drop half points)
high_half dimension half key points median = λ k none lt.
    let few : half + k < length points = omega (arith, lt, length-drop half points) in
    let there : key ≤ key_of dimension (get_or points (half + k) none) = elim (cases_eq k 0) [
      | inl first ↦
          let here : key ≡ key_of dimension (get_or points (half + k) none) = median.here none ∙ ap (λ (n : ℕ). key_of dimension (get_or points n none)) (omega (arith, first)) in
          omega (arith, here)
      | inr later ↦ let after = median.after (half + k) none (omega (arith, later)) few in omega (arith, after)
    ] in
    subst (λ (p : Point). key ≤ slice_index p.keys dimension) (sym (get_or-drop half points k none)) there
