-- A point that is new to the points of a cut.
use Rattle.std.proofs.Common.{◌≡◌, ℕ, ◌-◌, ◌^◌, ◌<◌, ◌≤◌, IsTrue, List, ◌∷◌, ◌++◌, length, get_or, ◌∙◌, arith, length-append}
use Rattle.std.proofs.lemmas.List.Elements.{All-cons, All-map}
use Rattle.std.proofs.lemmas.List.Kept.{AllPairs-cons}
use Rattle.bw_types.specs.Without.{without_dimension}
use Rattle.bw_types.specs.declared.point.Point.{Point}
use Rattle.dom_index.specs.Points.{AreKeysBelow, IsNewPoint, keys_differ}
use Rattle.cut_parts.specs.Borders.{MayBeBuilt}
use Rattle.cut_parts.specs.Parts.{border_points}
use Rattle.cut_parts.proofs.Differing.{still_differ}
use Rattle.cut_parts.proofs.Halves.{all_left, all_right, length_mapped}
use Rattle.cut_parts.proofs.Orders.{differ_flips}

pub new_low : (dims : ℕ) (lows highs : List Point) (p : Point) → IsNewPoint dims (lows ++ highs) p → IsNewPoint dims lows p
new_low dims lows highs p new = record {
  apart = all_left (λ (q : Point). IsTrue (keys_differ dims q p)) lows highs new.apart;
  last = all_left (λ (q : Point). q.version ≤ p.version) lows highs new.last;
  few = omega (arith, new.few, length-append lows highs);
}

pub new_high : (dims : ℕ) (lows highs : List Point) (p : Point) → IsNewPoint dims (lows ++ highs) p → IsNewPoint dims highs p
new_high dims lows highs p new = record {
  apart = all_right (λ (q : Point). IsTrue (keys_differ dims q p)) lows highs new.apart;
  last = all_right (λ (q : Point). q.version ≤ p.version) lows highs new.last;
  few = omega (arith, new.few, length-append lows highs);
}

pub new_border : (dims dimension : ℕ) (points : List Point) (p : Point) → dimension < dims → IsNewPoint dims points p
    → IsNewPoint (dims - 1) (border_points dimension points) (without_dimension dimension p)
new_border dims dimension points p lt new = record {
  apart = All-map (λ (q : Point). IsTrue (keys_differ (dims - 1) q (without_dimension dimension p))) (without_dimension dimension) points
      (λ k d less. still_differ dims dimension (get_or points k d) p lt (new.apart k d less));
  last = All-map (λ (q : Point). q.version ≤ p.version) (without_dimension dimension) points new.last;
  few = omega (arith, new.few, length_mapped (without_dimension dimension) points);
}

-- the points with a new one may be built
pub with_new : (dims : ℕ) (points : List Point) (p : Point) → MayBeBuilt dims points → IsNewPoint dims points p → AreKeysBelow dims p.keys
    → p.version < 2 ^ 32 - 1 → length p.keys ≡ 3 → MayBeBuilt dims (p ∷ points)
with_new dims points p may new below version three = record {
  few = omega (arith, new.few);
  apart = AllPairs-cons (λ (a b : Point). IsTrue (keys_differ dims a b)) p points
      (λ k d lt. differ_flips dims p (get_or points k d) ∙ new.apart k d lt) may.apart;
  keys = All-cons (λ (q : Point). AreKeysBelow dims q.keys) p points below may.keys;
  versions = All-cons (λ (q : Point). q.version < 2 ^ 32 - 1) p points version may.versions;
  three = All-cons (λ (q : Point). length q.keys ≡ 3) p points three may.three;
}
