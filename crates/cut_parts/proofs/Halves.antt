-- What holds of all points of a cut holds of those of its sides.
use Rattle.std.proofs.Common.{◌≡◌, ℕ, suc, ◌≤◌, List, [], ◌∷◌, ◌++◌, length, map, refl, ap, arith}
use Rattle.std.proofs.lemmas.List.Elements.{All-cons}
use Rattle.std.specs.List.{All}
use Rattle.bw_types.specs.declared.point.Point.{Point}
use Rattle.cut_parts.specs.Parts.{Part, Leaf, Split, HasShape}

pub all_left : {X : Type 0} (P : X → Type 0) (xs ys : List X) → All P (xs ++ ys) → All P xs
all_left P [] ys all = λ k d lt. absurd (omega (arith, lt))
all_left P (x ∷ xs) ys all = All-cons P x xs (all 0 x (omega arith)) (all_left P xs ys (λ k d lt. all (suc k) d (omega (arith, lt))))

pub all_right : {X : Type 0} (P : X → Type 0) (xs ys : List X) → All P (xs ++ ys) → All P ys
all_right P [] ys all = all
all_right P (x ∷ xs) ys all = all_right P xs ys (λ k d lt. all (suc k) d (omega (arith, lt)))

-- a part has a point
pub some_points : (part : Part) (n : ℕ) → HasShape n part → 1 ≤ n
some_points (Leaf page points) n shape = shape.1
some_points (Split home dimension key low border low_side high_side) n shape = let many = shape.0.many in omega (arith, many)

pub length_mapped : (f : Point → Point) (ps : List Point) → length (map f ps) ≡ length ps
length_mapped f [] = refl
length_mapped f (p ∷ ps) = ap suc (length_mapped f ps)
