-- The value of a part is the dominance sum of its points.
use Rattle.std.proofs.Common.{◌≡◌, ℕ, suc, ◌-◌, ◌≤◌, List, length, slice_index, inl, inr, refl, sym, ◌∙◌, arith}
use Rattle.std.proofs.lemmas.Bool.{cases_lt, lt-ltb, le-ltb, le-leb, lt-leb}
use Rattle.std.proofs.lemmas.List.Elements.{All-append}
use Rattle.std.specs.List.{All}
use Rattle.bw_types.specs.Without.{keys_without}
use Rattle.bw_types.specs.Dominance.{dominance_sum}
use Rattle.bw_types.specs.declared.point.Point.{Point}
use Rattle.cut_parts.specs.Parts.{Part, Leaf, Split, IsParted, border_points, points_of}
use Rattle.cut_parts.specs.Laws.{ValuesAreSums}
use Rattle.cut_parts.proofs.Sums.{sum_below_cut, sum_from_cut, sum_by_parts}

-- each point has three keys
pub three_keys : (dims : ℕ) (part : Part) → IsParted dims part → All (λ p. length p.keys ≡ 3) (points_of part)
three_keys dims (Leaf page points) h = h
three_keys dims (Split home dimension key low border low_side high_side) h =
    All-append (λ (p : Point). length p.keys ≡ 3) (points_of low_side) (points_of high_side) (three_keys dims low_side h.3) (three_keys dims high_side h.4)

-- so each has at least as many as there are dimensions
pub enough_keys : (dims most : ℕ) (part : Part) → IsParted dims part → most ≤ 3 → All (λ p. most ≤ length p.keys) (points_of part)
enough_keys dims most part h few = λ k d lt. let three = three_keys dims part h k d lt in omega (arith, three)

pub values_are_sums : ValuesAreSums
values_are_sums dims value (Leaf page points) keys version parted tell l few = refl
values_are_sums dims value (Split home dimension key low border low_side high_side) keys version parted tell l few =
    let low_is = values_are_sums dims value low_side keys version parted.3 tell.1 l few in
    let high_is = values_are_sums dims value high_side keys version parted.4 tell.2 l few in
    let lows : List Point = points_of low_side in
    let highs : List Point = points_of high_side in
    elim (cases_lt (slice_index keys dimension) key) [
      | inl below ↦ rw (lt-ltb (slice_index keys dimension) key below)
          (low_is ∙ sym (sum_below_cut (suc dims) dimension key version keys lows highs parted.0 l (enough_keys (suc dims) (suc dims) high_side parted.4 (omega arith)) parted.2 below))
      | inr from ↦ rw (le-ltb (slice_index keys dimension) key from) (elim (cases_lt 64 low) [
        | inl more ↦
            let less : suc dims - 1 ≡ dims = omega arith in
            let told : value border (keys_without dimension keys) version ≡ dominance_sum dims (border_points dimension lows) (keys_without dimension keys) version = rw less at tell.0 more (keys_without dimension keys) version in
            rw (lt-leb low 64 more, told, high_is)
            (sym (sum_from_cut dims dimension key version keys lows highs parted.0 l (enough_keys (suc dims) (suc dims) low_side parted.3 (omega arith)) parted.1 from))
        | inr few_low ↦ rw (le-leb low 64 few_low, low_is, high_is) (sym (sum_by_parts (suc dims) version keys lows highs))
      ])
    ]
