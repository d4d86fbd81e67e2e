-- The regions of a part's cuts and leaves: the proof.
use Rattle.std.proofs.Common.{◌≡◌, ℕ, ◌-◌, ◌<◌, ◌≤◌, List, [], length, get_or, set, slice_index, inl, inr, ap, ◌∙◌, arith}
use Rattle.std.proofs.lemmas.Bool.{cases_eq}
use Rattle.std.proofs.lemmas.List.{get_or-set_other, get_or-set_same, length-set}
use Rattle.bw_types.specs.Regions.{Holds}
use Rattle.bw_types.specs.declared.point.Point.{Point}
use Rattle.bw_types.specs.declared.region.Region.{Region}
use Rattle.bw_types.specs.Regions.{above_cut, below_cut}
use Rattle.cut_parts.specs.Parts.{Leaf, Split, points_of}
use Rattle.cut_parts.proofs.Depths.{parts_are_counted}
use Rattle.cut_parts.specs.Regions.{RegionsFollow}
use Rattle.cut_parts.proofs.Halves.{all_left, all_right}
use Rattle.cut_parts.proofs.Halves.{some_points}

-- some point, for a default
no_point : Point
no_point = record { keys = []; version = 0; weight = 0 }

-- The part of a region on the keys' side of a cut holds the keys where the region does.
pub below_holds : (dims : ℕ) (region : Region) (dimension key : ℕ) (keys : List ℕ) → dimension < dims → dims ≤ length region.high → Holds dims region keys
    → slice_index keys dimension < key → Holds dims (below_cut region dimension key) keys
below_holds dims region dimension key keys lt long h below = record {
  from_low = h.from_low;
  before_high = λ i less. elim (cases_eq i dimension) [
    | inl same ↦
        let here : slice_index (set region.high dimension key) i ≡ key = ap (λ (k : ℕ). slice_index (set region.high dimension key) k) same ∙ get_or-set_same region.high dimension key 0 (omega arith) in
        let mine : slice_index keys i ≡ slice_index keys dimension = ap (λ (k : ℕ). slice_index keys k) same in
        omega (arith, here, mine, below)
    | inr other ↦
        let there : slice_index (set region.high dimension key) i ≡ slice_index region.high i = get_or-set_other region.high dimension i key 0 other in
        let before = h.before_high i less in
        omega (arith, there, before)
  ];
}

pub above_holds : (dims : ℕ) (region : Region) (dimension key : ℕ) (keys : List ℕ) → dimension < dims → dims ≤ length region.low → Holds dims region keys
    → key ≤ slice_index keys dimension → Holds dims (above_cut region dimension key) keys
above_holds dims region dimension key keys lt long h from = record {
  from_low = λ i less. elim (cases_eq i dimension) [
    | inl same ↦
        let here : slice_index (set region.low dimension key) i ≡ key = ap (λ (k : ℕ). slice_index (set region.low dimension key) k) same ∙ get_or-set_same region.low dimension key 0 (omega arith) in
        let mine : slice_index keys i ≡ slice_index keys dimension = ap (λ (k : ℕ). slice_index keys k) same in
        omega (arith, here, mine, from)
    | inr other ↦
        let there : slice_index (set region.low dimension key) i ≡ slice_index region.low i = get_or-set_other region.low dimension i key 0 other in
        let after = h.from_low i less in
        omega (arith, there, after)
  ];
  before_high = h.before_high;
}

pub regions_follow : RegionsFollow
regions_follow dims n (Leaf page points) region shape parted low_long high_long all = all
regions_follow dims n (Split home dimension key low border low_side high_side) region shape parted low_long high_long all =
    let lows : List Point = points_of low_side in
    let highs : List Point = points_of high_side in
    let low_all = all_left (λ (p : Point). Holds dims region p.keys) lows highs all in
    let high_all = all_right (λ (p : Point). Holds dims region p.keys) lows highs all in
    let low_some : 0 < length lows = let a = parts_are_counted low_side low shape.1 in let b = some_points low_side low shape.1 in omega (arith, a, b) in
    let high_some : 0 < length highs = let a = parts_are_counted high_side (n - low) shape.2 in let b = some_points high_side (n - low) shape.2 in omega (arith, a, b) in
    let first = (low_all 0 no_point low_some).from_low dimension parted.0 in
    let first_below = parted.1 0 no_point low_some in
    let last = (high_all 0 no_point high_some).before_high dimension parted.0 in
    let last_from = parted.2 0 no_point high_some in (
      record { after_low = omega (arith, first, first_below); before_high = omega (arith, last, last_from) },
      regions_follow dims low low_side (below_cut region dimension key) shape.1 parted.3 low_long (omega (arith, high_long, length-set region.high dimension key))
          (λ k d less. below_holds dims region dimension key (get_or lows k d).keys parted.0 high_long (low_all k d less) (parted.1 k d less)),
      regions_follow dims (n - low) high_side (above_cut region dimension key) shape.2 parted.4 (omega (arith, low_long, length-set region.low dimension key)) high_long
          (λ k d less. above_holds dims region dimension key (get_or highs k d).keys parted.0 low_long (high_all k d less) (parted.2 k d less)),
    )
