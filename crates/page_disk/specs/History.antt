-- The moments of an area, from its pages and what happened to them.
use Rattle.std.specs.Prelude.{ℕ, ◌-◌, List, [], ◌∷◌, length, take, reverse, slice_set}
use Rattle.page_disk.specs.declared.entry.Entry.{Entry}
use Rattle.page_disk.specs.declared.entry.Entry.TheVariants.{Still, Synced, Appended, Overwrote}
use Rattle.page_disk.specs.Image.{PageList}
use Rattle.page_disk.specs.Moment.{AreaMoment, Moment, area_settled, area_counted, then_moment}

-- The entries stand the newest first, and `pages` is what they led to. Before the first the area was settled.
abbrev pub history_of : PageList → List Entry → List AreaMoment
history_of pages [] = area_settled pages ∷ []
history_of pages (Still ∷ earlier) = then_moment (λ m. m) (history_of pages earlier)
history_of pages (Synced ∷ earlier) = then_moment (λ _. area_settled pages) (history_of pages earlier)
history_of pages (Appended ∷ earlier) =
    then_moment (area_counted (length pages - 1)) (history_of (take (length pages - 1) pages) earlier)
history_of pages (Overwrote page bytes ∷ earlier) =
    then_moment (area_counted page) (history_of (slice_set pages page bytes.value) earlier)

-- the same where the newest entry stands last
abbrev pub area_moments : PageList → List Entry → List AreaMoment
area_moments pages log = history_of pages (reverse log)

-- the moments of two areas side by side
abbrev pub side_by_side : List AreaMoment → List AreaMoment → List Moment
side_by_side [] ks = []
side_by_side (h ∷ hs) [] = []
side_by_side (h ∷ hs) (k ∷ ks) = record { pages = h; journal = k } ∷ side_by_side hs ks

abbrev pub newest_of : List AreaMoment → AreaMoment
newest_of [] = area_settled []
newest_of (m ∷ earlier) = m

-- the pages with all undone that is pending
abbrev pub undone : PageList → List Entry → PageList
undone pages [] = pages
undone pages (Still ∷ earlier) = undone pages earlier
undone pages (Synced ∷ earlier) = pages
undone pages (Appended ∷ earlier) = undone (take (length pages - 1) pages) earlier
undone pages (Overwrote page bytes ∷ earlier) = undone (slice_set pages page bytes.value) earlier

-- the pages with each pending page replaced, where so many pages are not done with
abbrev pub refilled : ℕ → List ℕ → PageList → List Entry → PageList
refilled n bytes pages [] = pages
refilled n bytes pages (Still ∷ earlier) = refilled n bytes pages earlier
refilled n bytes pages (Synced ∷ earlier) = pages
refilled n bytes pages (Appended ∷ earlier) = refilled (n - 1) bytes (slice_set pages (n - 1) bytes) earlier
refilled n bytes pages (Overwrote page before ∷ earlier) = refilled n bytes (slice_set pages page bytes) earlier
