-- Depths, and how many pages are read: the proofs.
use Rattle.std.proofs.Common.{ℕ, zero, suc, ◌-◌, ◌*◌, ◌<◌, ◌≤◌, Option, Some, None, slice_index, max, inl, inr, arith, length-append}
use Rattle.std.proofs.lemmas.Bool.{cases_lt, lt-ltb, le-ltb, le-leb, lt-leb}
use Rattle.bw_types.specs.Without.{keys_without}
use Rattle.bw_types.specs.DepthLaws.{depth_grows, depth_step, reads_some, within_step}
use Rattle.bw_types.specs.Depths.{most_of_side, depth_within, depth}
use Rattle.cut_parts.specs.Parts.{Leaf, Split, cuts_on_path, own_page, points_of}
use Rattle.cut_parts.specs.Laws.{PartsAreCounted, PathsAreShort, GetsAreFew}

pub parts_are_counted : PartsAreCounted
parts_are_counted (Leaf page points) n shape = shape.0
parts_are_counted (Split home dimension key low border low_side high_side) n shape =
    let cut = shape.0 in
    let a = parts_are_counted low_side low shape.1 in
    let b = parts_are_counted high_side (n - low) shape.2 in
    let whole = length-append (points_of low_side) (points_of high_side) in
    omega (arith, cut.some_high, a, b, whole)

-- one step of a depth over the sides of a cut
deeper : (a b n low : ℕ) → 64 < n → 5 * low ≤ 3 * n → 5 * (n - low) ≤ 3 * n → low < n → a ≤ depth low → b ≤ depth (n - low) → suc (max a b) ≤ depth n
deeper a b zero low many ls hs lt ha hb = absurd (omega arith)
deeper a b (suc n) low many ls hs lt ha hb =
    let step = depth_step n (suc n) many in
    let l : depth low ≤ depth_within n (most_of_side (suc n)) = depth_grows low n low (most_of_side (suc n)) (omega arith) (omega arith) in
    let h : depth (suc n - low) ≤ depth_within n (most_of_side (suc n)) = depth_grows (suc n - low) n (suc n - low) (most_of_side (suc n)) (omega arith) (omega arith) in
    omega (arith, step, l, h, ha, hb)

pub paths_are_short : PathsAreShort
paths_are_short (Leaf page points) n shape = omega arith
paths_are_short (Split home dimension key low border low_side high_side) n shape =
    let cut = shape.0 in
    deeper (cuts_on_path low_side) (cuts_on_path high_side) n low cut.many cut.low_share cut.high_share cut.some_high
    (paths_are_short low_side low shape.1) (paths_are_short high_side (n - low) shape.2)

own_page_few : (home : Option ℕ) → own_page home ≤ 1
own_page_few (Some page) = omega arith
own_page_few None = omega arith

pub gets_are_few : GetsAreFew
gets_are_few cost gets (Leaf page points) n keys is shape costs = reads_some cost n n shape.1 shape.1
gets_are_few cost gets (Split home dimension key low border low_side high_side) n keys is shape costs =
    let cut = shape.0 in
    let own = own_page_few home in
    elim (cases_lt (slice_index keys dimension) key) [
      | inl below ↦
          let ih = gets_are_few cost gets low_side low keys is shape.1 costs.1 in
          let step = within_step cost is n low cut.many cut.low_share in
          rw (lt-ltb (slice_index keys dimension) key below) (omega (arith, own, ih, step))
      | inr from ↦
          let ih = gets_are_few cost gets high_side (n - low) keys is shape.2 costs.2 in
          let step = within_step cost is n (n - low) cut.many cut.high_share in
          rw (le-ltb (slice_index keys dimension) key from) (elim (cases_lt 64 low) [
            | inl more ↦
                let mine = costs.0 more (keys_without dimension keys) in
                let grown : cost low ≤ cost (most_of_side n) = is.grows low (most_of_side n) (let s = cut.low_share in omega (arith, s)) in
                rw (lt-leb low 64 more) (omega (arith, own, ih, step, mine, grown))
            | inr few ↦
                let one : 1 ≤ cost (most_of_side n) = is.some (most_of_side n) (let s = cut.many in omega (arith, s)) in
                rw (le-leb low 64 few) (omega (arith, own, ih, step, one))
          ])
    ]
