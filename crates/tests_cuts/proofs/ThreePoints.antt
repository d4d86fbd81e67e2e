-- Three points of which a border may be built.
use Rattle.std.proofs.Common.{◌≡◌, ◌<◌, ◌-◌, ◌^◌, ℕ, IsTrue, List, [], ◌∷◌, length, arith}
use Rattle.std.specs.Prelude.{AllPairs}
use Rattle.std.specs.List.{All}
use Rattle.std.proofs.lemmas.List.Elements.{All-cons, All-nil}
use Rattle.std.proofs.lemmas.List.Kept.{AllPairs-cons}
use Rattle.bw_types.specs.declared.point.Point.{Point}
use Rattle.cut_parts.specs.Borders.{MayBeBuilt}
use Rattle.dom_index.specs.Points.{AreKeysBelow, keys_differ}

-- what is asked of each point by itself
pub record MayTakePart (p : Point) : Type 0 where
  pub key : AreKeysBelow 1 p.keys
  pub version : p.version < 2 ^ 32 - 1
  pub three : length p.keys ≡ 3

pub first_key_below : (key : ℕ) (others : List ℕ) → key < 2 ^ 64 - 2 ^ 32 → AreKeysBelow 1 (key ∷ others)
first_key_below key others below = All-cons (λ (k : ℕ). k < 2 ^ 64 - 2 ^ 32) key [] below (All-nil _)

all_of_three : (P : Point → Type 0) (p q r : Point) → P p → P q → P r → All P (p ∷ q ∷ r ∷ [])
all_of_three P p q r x y z = All-cons P p (q ∷ r ∷ []) x (All-cons P q (r ∷ []) y (All-cons P r [] z (All-nil P)))

none_paired : (R : Point → Point → Type 0) → AllPairs R []
none_paired R i j d lt within = absurd (omega (arith, within))

pairs_of_three : (R : Point → Point → Type 0) (p q r : Point) → R p q → R p r → R q r → AllPairs R (p ∷ q ∷ r ∷ [])
pairs_of_three R p q r x y z =
    AllPairs-cons R p (q ∷ r ∷ []) (All-cons (R p) q (r ∷ []) x (All-cons (R p) r [] y (All-nil (R p))))
    (AllPairs-cons R q (r ∷ []) (All-cons (R q) r [] z (All-nil (R q))) (AllPairs-cons R r [] (All-nil (R r)) (none_paired R)))

pub three_may_be_built : (p q r : Point) → IsTrue (keys_differ 1 p q) → IsTrue (keys_differ 1 p r) → IsTrue (keys_differ 1 q r)
    → MayTakePart p → MayTakePart q → MayTakePart r → MayBeBuilt 1 (p ∷ q ∷ r ∷ [])
three_may_be_built p q r x y z first second third = record {
  few = omega arith;
  apart = pairs_of_three (λ a b. IsTrue (keys_differ 1 a b)) p q r x y z;
  keys = all_of_three (λ a. AreKeysBelow 1 a.keys) p q r first.key second.key third.key;
  versions = all_of_three (λ a. a.version < 2 ^ 32 - 1) p q r first.version second.version third.version;
  three = all_of_three (λ a. length a.keys ≡ 3) p q r first.three second.three third.three;
}
