-- Dominance sums at a cut. Totals are taken without a bound first, and their modulus at the end.
use Rattle.std.proofs.Common.{◌≡◌, ℕ, zero, suc, ◌+◌, ◌%◌, ◌^◌, ◌<◌, ◌≤◌, Bool, false, ◌&&◌, if◌then◌else◌, nat_le, List, [], ◌∷◌, ◌++◌, take, length, slice_index, refl, sym, ap, ◌∙◌, arith}
use Rattle.std.proofs.Math.Seq.{take-nil}
use Rattle.std.proofs.Math.Nat.{add-mod}
use Rattle.std.proofs.lemmas.Bool.{and_right, and_left, le-leb, lt-leb}
use Rattle.std.proofs.lemmas.List.Sums.{sum_by-cons, sum_by-append}
use Rattle.std.specs.List.{All}
use Rattle.bw_types.specs.Without.{keys_without, without_dimension}
use Rattle.bw_types.specs.Dominance.{keys_at_most, is_dominated, dominated_weight, dominance_sum}
use Rattle.bw_types.specs.declared.point.Point.{Point}
use Rattle.cut_parts.specs.Parts.{border_points}
use Rattle.cut_parts.specs.Laws.{HighSideIsBeyond, LowSideGoesWithout, SumBelowCut, SumFromCut, SumByParts}

-- a further 0 behind the keys
padded : (d : ℕ) (ks qs : List ℕ) → d ≤ length qs → keys_at_most (take d (ks ++ (0 ∷ []))) (take d (qs ++ (0 ∷ []))) ≡ keys_at_most (take d ks) (take d qs)
padded zero ks qs l = refl
padded (suc d) ks [] l = absurd (omega arith)
padded (suc d) [] (q ∷ qs) l = rw (take-nil {A = ℕ} d, le-leb 0 q (omega arith)) refl
padded (suc d) (k ∷ ks) (q ∷ qs) l = ap (λ (rest : Bool). nat_le k q && rest) (padded d ks qs (omega arith))

-- a key above the bound beside it
above : (i d : ℕ) (ks qs : List ℕ) → i < d → d ≤ length qs → d ≤ length ks → slice_index qs i < slice_index ks i → keys_at_most (take d ks) (take d qs) ≡ false
above i zero ks qs lt l m h = absurd (omega arith)
above i (suc d) [] qs lt l m h = absurd (omega arith)
above i (suc d) (k ∷ ks) [] lt l m h = absurd (omega arith)
above zero (suc d) (k ∷ ks) (q ∷ qs) lt l m h = and_left _ _ (lt-leb k q h)
above (suc i) (suc d) (k ∷ ks) (q ∷ qs) lt l m h = and_right _ _ (above i d ks qs (omega arith) (omega arith) (omega arith) h)

-- a key at most the bound beside it may be left out
without_key : (i d : ℕ) (ks qs : List ℕ) → i < suc d → suc d ≤ length qs → suc d ≤ length ks → slice_index ks i ≤ slice_index qs i
    → keys_at_most (take (suc d) ks) (take (suc d) qs) ≡ keys_at_most (take d (keys_without i ks)) (take d (keys_without i qs))
without_key i d [] qs lt l m h = absurd (omega arith)
without_key i d (k ∷ ks) [] lt l m h = absurd (omega arith)
without_key zero d (k ∷ ks) (q ∷ qs) lt l m h = rw (le-leb k q h) (sym (padded d ks qs (omega arith)))
without_key (suc i) zero (k ∷ ks) (q ∷ qs) lt l m h = absurd (omega arith)
without_key (suc i) (suc d) (k ∷ ks) (q ∷ qs) lt l m h = ap (λ (rest : Bool). nat_le k q && rest) (without_key i d ks qs (omega arith) (omega arith) (omega arith) h)

pub high_side_is_beyond : HighSideIsBeyond
high_side_is_beyond dims dimension key version keys p lt l m below from =
    and_right _ _ (above dimension dims p.keys keys lt l m (omega arith))

pub low_side_goes_without : LowSideGoesWithout
low_side_goes_without dims dimension key version keys p lt l m from below =
    ap (λ (rest : Bool). nat_le p.version version && rest) (without_key dimension dims p.keys keys lt l m (omega arith))

abbrev weight_at : ℕ → List ℕ → ℕ → Point → ℕ
weight_at dims keys version p = if is_dominated dims keys version p then p.weight else 0

pub weight_by_parts : (dims version : ℕ) (keys : List ℕ) (low high : List Point)
    → dominated_weight dims (low ++ high) keys version ≡ dominated_weight dims low keys version + dominated_weight dims high keys version
weight_by_parts dims version keys low high = sum_by-append (weight_at dims keys version) low high

no_weight : (dims dimension key version : ℕ) (keys : List ℕ) (points : List Point) → dimension < dims → dims ≤ length keys
    → All (λ p. dims ≤ length p.keys) points → All (λ p. key ≤ slice_index p.keys dimension) points → slice_index keys dimension < key
    → dominated_weight dims points keys version ≡ 0
no_weight dims dimension key version keys [] lt l all from below = refl
no_weight dims dimension key version keys (p ∷ points) lt l all from below =
    let first : is_dominated dims keys version p ≡ false = high_side_is_beyond dims dimension key version keys p lt l (all 0 p (omega arith)) below (from 0 p (omega arith)) in
    let rest = no_weight dims dimension key version keys points lt l (λ k d h. all (suc k) d (omega arith)) (λ k d h. from (suc k) d (omega arith)) below in
    sum_by-cons (weight_at dims keys version) p points ∙ rw (first, rest) refl

same_weight : (dims dimension key version : ℕ) (keys : List ℕ) (points : List Point) → dimension < suc dims → suc dims ≤ length keys
    → All (λ p. suc dims ≤ length p.keys) points → All (λ p. slice_index p.keys dimension < key) points → key ≤ slice_index keys dimension
    → dominated_weight (suc dims) points keys version ≡ dominated_weight dims (border_points dimension points) (keys_without dimension keys) version
same_weight dims dimension key version keys [] lt l all below from = refl
same_weight dims dimension key version keys (p ∷ points) lt l all below from =
    let first : is_dominated (suc dims) keys version p ≡ is_dominated dims (keys_without dimension keys) version (without_dimension dimension p) =
    low_side_goes_without dims dimension key version keys p lt l (all 0 p (omega arith)) from (below 0 p (omega arith)) in
    let rest = same_weight dims dimension key version keys points lt l (λ k d h. all (suc k) d (omega arith)) (λ k d h. below (suc k) d (omega arith)) from in
    sum_by-cons (weight_at (suc dims) keys version) p points
    ∙ rw (first, rest) refl
    ∙ sym (sum_by-cons (weight_at dims (keys_without dimension keys) version) (without_dimension dimension p) (border_points dimension points))

pub sum_by_parts : SumByParts
sum_by_parts dims version keys low high =
    ap (λ (w : ℕ). w % 2 ^ 128) (weight_by_parts dims version keys low high)
    ∙ add-mod (dominated_weight dims low keys version) (dominated_weight dims high keys version) (2 ^ 128)

pub sum_below_cut : SumBelowCut
sum_below_cut dims dimension key version keys low high lt l all from below =
    let none = no_weight dims dimension key version keys high lt l all from below in
    let whole = weight_by_parts dims version keys low high in
    ap (λ (w : ℕ). w % 2 ^ 128) (omega (arith, none, whole))

pub sum_from_cut : SumFromCut
sum_from_cut dims dimension key version keys low high lt l all below from =
    let same = same_weight dims dimension key version keys low lt l all below from in
    sum_by_parts (suc dims) version keys low high
    ∙ ap (λ (w : ℕ). (w % 2 ^ 128 + dominance_sum (suc dims) high keys version) % 2 ^ 128) same
