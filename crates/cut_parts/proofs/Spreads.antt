-- The greatest and the least key of one point more.
use Rattle.std.proofs.Common.{◌≡◌, ℕ, suc, ◌+◌, ◌<◌, List, [], ◌∷◌, ◌++◌, length, take, get_or, refl, sym, ap, ◌∙◌, arith, add-one}
use Rattle.std.proofs.Math.Seq.{take-suc}
use Rattle.std.specs.Prelude.{max, min}
use Rattle.bw_types.specs.declared.point.Point.{Point}
use Rattle.cut_parts.specs.Medians.{key_of}
use Rattle.cut_parts.specs.Widest.{greatest_key, least_key}

greatest_of_more : (dimension : ℕ) (points : List Point) (point : Point)
    → greatest_key dimension (points ++ (point ∷ [])) ≡ max (greatest_key dimension points) (key_of dimension point)
greatest_of_more dimension [] point = omega arith
greatest_of_more dimension (p ∷ points) point = omega (arith, greatest_of_more dimension points point)

least_of_more : (dimension : ℕ) (first : Point) (points : List Point) (point : Point)
    → least_key dimension (first ∷ (points ++ (point ∷ []))) ≡ min (least_key dimension (first ∷ points)) (key_of dimension point)
least_of_more dimension first [] point = refl
least_of_more dimension first (p ∷ points) point = omega (arith, least_of_more dimension p points point)

-- a function of the points so far, one point on
next : (F : List Point → ℕ) (i : ℕ) (first d : Point) (points rest : List Point) → points ≡ first ∷ rest → i < length rest
    → F (take (suc (i + 1)) points) ≡ F (first ∷ (take i rest ++ (get_or rest i d ∷ [])))
next F i first d points rest e lt =
    ap (λ (ps : List Point). F (take (suc (i + 1)) ps)) e
    ∙ ap (λ (n : ℕ). F (first ∷ take n rest)) (add-one i)
    ∙ ap (λ (ps : List Point). F (first ∷ ps)) (take-suc rest i d lt)

pub greatest_next : (dimension i greatest key : ℕ) (first d : Point) (points rest : List Point) → points ≡ first ∷ rest → i < length rest
    → key ≡ key_of dimension (get_or rest i d) → greatest ≡ greatest_key dimension (take (suc i) points)
    → max greatest key ≡ greatest_key dimension (take (suc (i + 1)) points)
greatest_next dimension i greatest key first d points rest e lt is was =
    let before = was ∙ ap (λ (ps : List Point). greatest_key dimension (take (suc i) ps)) e in
    let after = next (greatest_key dimension) i first d points rest e lt in
    omega (arith, is, before, after, greatest_of_more dimension (first ∷ take i rest) (get_or rest i d))

pub least_next : (dimension i least key : ℕ) (first d : Point) (points rest : List Point) → points ≡ first ∷ rest → i < length rest
    → key ≡ key_of dimension (get_or rest i d) → least ≡ least_key dimension (take (suc i) points)
    → min least key ≡ least_key dimension (take (suc (i + 1)) points)
least_next dimension i least key first d points rest e lt is was =
    let before = was ∙ ap (λ (ps : List Point). least_key dimension (take (suc i) ps)) e in
    let after = next (least_key dimension) i first d points rest e lt in
    omega (arith, is, before, after, least_of_more dimension first (take i rest) (get_or rest i d))

-- the keys of the first point alone
pub greatest_first : (dimension : ℕ) (first : Point) (points rest : List Point) → points ≡ first ∷ rest → key_of dimension first ≡ greatest_key dimension (take 1 points)
greatest_first dimension first points rest e = omega (arith, ap (λ (ps : List Point). greatest_key dimension (take 1 ps)) e)

pub least_first : (dimension : ℕ) (first : Point) (points rest : List Point) → points ≡ first ∷ rest → key_of dimension first ≡ least_key dimension (take 1 points)
least_first dimension first points rest e = sym (ap (λ (ps : List Point). least_key dimension (take 1 ps)) e)
