-- What the undone and the refilled pages are in the words of the newest moment.
use Rattle.std.proofs.Common.{◌≡◌, ℕ, ◌-◌, ◌∙◌, List, [], ◌∷◌, length, take, refl, arith}
use Rattle.std.specs.Prelude.{slice_set}
use Rattle.std.proofs.lemmas.Bool.Decides.{nat_tests}
use Rattle.std.proofs.lemmas.Grind.{elements}
use Rattle.std.proofs.lemmas.List.{length-set, length-take}
use Rattle.ports.specs.FrameLaws.{names_page-append}
use Rattle.page_disk.specs.declared.entry.Entry.{Entry}
use Rattle.page_disk.specs.declared.entry.Entry.TheVariants.{Still, Synced, Appended, Overwrote}
use Rattle.page_disk.specs.declared.torn.Torn.{Torn}
use Rattle.page_disk.specs.Image.{PageList, AreWhole}
use Rattle.page_disk.specs.Moment.{AreaMoment, AreaMayBeLeft, area_settled, area_counted, then_moment}
use Rattle.page_disk.specs.History.{history_of, newest_of, undone, refilled}
use Rattle.page_disk.specs.HistoryLaws.{Fits, history_of-fits}
use Rattle.page_disk.specs.Crash.{IsFilled, AreaLeftBy}

-- the newest moment after one more entry
after : (change : AreaMoment → AreaMoment) (pages : PageList) (log : List Entry)
    → newest_of (then_moment change (history_of pages log)) ≡ change (newest_of (history_of pages log))
after change pages log = let fits = history_of-fits log pages in grind arith

pub undone-is_synced : (log : List Entry) (pages : PageList) → undone pages log ≡ (newest_of (history_of pages log)).synced
undone-is_synced [] pages = refl
undone-is_synced (Still ∷ earlier) pages = grind (arith, after, undone-is_synced earlier)
undone-is_synced (entry ∷ earlier) pages = grind (arith, after, undone-is_synced earlier)

-- One page more is filled.
filled_more : (m : AreaMoment) (page : ℕ) (bytes : List ℕ) (pages left : PageList) → IsFilled bytes m (slice_set pages page bytes) left
    → IsFilled bytes (area_counted page m) pages left
filled_more m page bytes pages left h = record {
  len = h.len ∙ length-set pages page bytes;
  each = λ p within. grind (arith, nat_tests, elements, names_page-append m.written (page ∷ []) p, h.each p);
}

pub refilled-is_filled : (log : List Entry) (n : ℕ) (bytes : List ℕ) (old pages : PageList) → n ≡ length old
    → IsFilled bytes (newest_of (history_of old log)) pages (refilled n bytes pages log)
refilled-is_filled [] n bytes old pages same = record { len = refl; each = λ p within. refl }
refilled-is_filled (Still ∷ earlier) n bytes old pages same = rw (after (λ m. m) old earlier) (refilled-is_filled earlier n bytes old pages same)
refilled-is_filled (Synced ∷ earlier) n bytes old pages same = search (after (λ _. area_settled old) old earlier)
refilled-is_filled (Appended ∷ earlier) n bytes old pages same =
    let later = refilled-is_filled earlier (n - 1) bytes (take (n - 1) old) (slice_set pages (n - 1) bytes) (omega (arith, length-take (n - 1) old)) in
    rw (after (area_counted (length old - 1)) _ earlier, ← same) (filled_more _ (n - 1) bytes pages _ later)
refilled-is_filled (Overwrote page before ∷ earlier) n bytes old pages same =
    let later = refilled-is_filled earlier n bytes (slice_set old page before.value) (slice_set pages page bytes) (omega (arith, length-set old page before.value)) in
    rw (after (area_counted page) _ earlier) (filled_more _ page bytes pages _ later)

-- What is left by one kind of crash may be left.
pub area_may_be_left : (torn : Torn) (m : AreaMoment) (pages left : PageList) → Fits pages m → AreWhole left
    → AreaLeftBy torn m pages left → AreaMayBeLeft m left
area_may_be_left torn m pages left fits whole h = grind (arith, fits, whole)
