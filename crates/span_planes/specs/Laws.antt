-- What is so of spans.
use Rattle.std.specs.Prelude.{◌≡◌, ◌≤◌, ◌+◌, ℕ, ◌*◌, ◌^◌, nat_abs, length, ◌-ℤ◌}
use Rattle.std.specs.List.{All}
use Rattle.bw_types.specs.History.{History, changes}
use Rattle.bw_types.specs.declared.params.Params.{Params}
use Rattle.bw_types.specs.declared.query.Query.{Query}
use Rattle.page_disk.specs.Image.{Image, PageList}
use Rattle.redo_journal.specs.Settled.{SettlesTo}
use Rattle.dom_index.specs.declared.index.DomIndex.{Ghosts}
use Rattle.history_laws.specs.Bounds.{HasSmallWeight}
use Rattle.span_planes.specs.SpanHolds.{SpanHolds}
use Rattle.span_planes.specs.SpanSums.{span_sum, sum_before, sum_up_to}

-- A span is the difference of two sums that begin with version 0: that up to its last version, and that before its first.
abbrev pub SpanIsDifference : Type 0
SpanIsDifference = (params : Params) (h : History) (first last : ℕ) (q : Query) → first ≤ last
    → span_sum params h first last q ≡ sum_up_to params h last q -ℤ sum_before params h first q

-- No span is greater than the weights of all changes, once for each of its versions.
abbrev pub SpansAreBounded : Type 0
SpansAreBounded = (params : Params) (h : History) (first last : ℕ) (q : Query) → All HasSmallWeight (changes h) → first ≤ last
    → nat_abs (span_sum params h first last q) ≤ (last + 1) * (length (changes h) * 2 ^ 63)

module _ {X : Type 0} (i : Ghosts X) where
  -- A disk holds spans by the pages that it stands for.
  abbrev pub SpansAreHeldByPages : Type 0
  SpansAreHeldByPages = (x y : Image) (pages : PageList) (params : Params) (h : History) → SettlesTo x pages → SettlesTo y pages
      → SpanHolds i x params h → SpanHolds i y params h
