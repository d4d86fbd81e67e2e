-- The pages of an area may be left by its newest moment.
use Rattle.std.specs.Prelude.{◌≡◌, ◌≢◌, ℕ, ◌+◌, ◌-◌, ◌<◌, ◌≤◌, ◌==◌, max, min, true, false, List, [], ◌∷◌, length, take, slice_set, reverse, refl}
use Rattle.std.proofs.Common.{sym, ◌∙◌, arith}
use Rattle.std.proofs.lemmas.Bool.{or_parts, eqb-false}
use Rattle.std.proofs.lemmas.List.{length-set, length-take, get_or-set_other, get_or-take}
use Rattle.ports.specs.Frame.{names_page}
use Rattle.ports.specs.FrameLaws.{names_page-append}
use Rattle.page_disk.specs.declared.entry.Entry.{Entry}
use Rattle.page_disk.specs.declared.entry.Entry.TheVariants.{Still, Synced, Appended, Overwrote}
use Rattle.page_disk.specs.Disk.{TellsImage}
use Rattle.page_disk.specs.Image.{PageList, Image, AreWhole, page_at}
use Rattle.page_disk.specs.Moment.{AreaMoment, is_written, area_settled, area_counted, then_moment}
use Rattle.page_disk.specs.History.{history_of, area_moments, side_by_side}

-- as `AreaMayBeLeft`, whatever the pages hold
pub record Fits (pages : PageList) (m : AreaMoment) : Type 0 where
  pub no_shorter : length m.synced ≤ length pages
  pub no_longer : length pages ≤ m.greatest
  pub kept : (page : ℕ) → page < length m.synced → is_written m page ≡ false → page_at pages page ≡ page_at m.synced page

-- The newest of the moments has P.
abbrev pub Newest : (AreaMoment → Type 0) → List AreaMoment → Type 0
Newest P [] = ⊥
Newest P (m ∷ earlier) = P m

pub Newest-then : (P Q : AreaMoment → Type 0) (change : AreaMoment → AreaMoment) (moments : List AreaMoment)
    → ((m : AreaMoment) → P m → Q (change m)) → Newest P moments → Newest Q (then_moment change moments)
Newest-then P Q change [] step h = h
Newest-then P Q change (m ∷ earlier) step h = step m h

-- what a page more that counts as written leaves
still_kept : (pages before : PageList) (page : ℕ) (m : AreaMoment) → Fits before m
    → length before ≤ length pages → length pages ≤ max (length before) (page + 1)
    → ((p : ℕ) → p ≢ page → p < length before → page_at pages p ≡ page_at before p)
    → Fits pages (area_counted page m)
still_kept pages before page m fits longer shorter others = record {
  no_shorter = let a : length m.synced ≤ length before = fits.no_shorter in omega arith;
  no_longer = let a : length before ≤ m.greatest = fits.no_longer in omega arith;
  kept = λ p below unwritten.
      let named : (names_page m.written p ≡ false) × (names_page (page ∷ []) p ≡ false) =
      or_parts _ _ (sym (names_page-append m.written (page ∷ []) p) ∙ unwritten) in
      let other : (page == p) ≡ false = (or_parts (page == p) false named.1).0 in
      let differs : p ≢ page = λ e. eqb-false page p other (sym e) in
      let within : p < length before = let a : length m.synced ≤ length before = fits.no_shorter in omega arith in
      others p differs within ∙ fits.kept p below named.0;
}

pub history_of-fits : (log : List Entry) (pages : PageList) → Newest (Fits pages) (history_of pages log)
history_of-fits [] pages = record { no_shorter = omega arith; no_longer = omega arith; kept = λ page a b. refl }
history_of-fits (Still ∷ earlier) pages =
    Newest-then (Fits pages) (Fits pages) (λ m. m) (history_of pages earlier) (λ m h. h) (history_of-fits earlier pages)
history_of-fits (Synced ∷ earlier) pages =
    Newest-then (Fits pages) (Fits pages) (λ _. area_settled pages) (history_of pages earlier)
    (λ m h. record { no_shorter = omega arith; no_longer = omega arith; kept = λ page a b. refl }) (history_of-fits earlier pages)
history_of-fits (Appended ∷ earlier) pages =
    let before : PageList = take (length pages - 1) pages in
    let short : length before ≡ min (length pages - 1) (length pages) = length-take (length pages - 1) pages in
    Newest-then (Fits before) (Fits pages) (area_counted (length pages - 1)) (history_of before earlier)
    (λ m h. still_kept pages before (length pages - 1) m h (omega arith) (omega arith)
    (λ p differs within. sym (get_or-take (length pages - 1) pages p [] (omega arith))))
    (history_of-fits earlier before)
history_of-fits (Overwrote page bytes ∷ earlier) pages =
    let before : PageList = slice_set pages page bytes.value in
    let same : length before ≡ length pages = length-set pages page bytes.value in
    Newest-then (Fits before) (Fits pages) (area_counted page) (history_of before earlier)
    (λ m h. still_kept pages before page m h (omega arith) (omega arith)
    (λ p differs within. sym (get_or-set_other pages page p bytes.value [] differs)))
    (history_of-fits earlier before)

told_image : (hs ks : List AreaMoment) (x : Image) → AreWhole x.pages → AreWhole x.journal
    → Newest (Fits x.pages) hs → Newest (Fits x.journal) ks → TellsImage true x (side_by_side hs ks)
told_image [] ks x whole_pages whole_journal f g = tt
told_image (h ∷ hs) [] x whole_pages whole_journal f g = tt
told_image (h ∷ hs) (k ∷ ks) x whole_pages whole_journal f g = (
  refl,
  record {
    pages = record { no_shorter = f.no_shorter; no_longer = f.no_longer; kept = f.kept; whole = whole_pages };
    journal = record { no_shorter = g.no_shorter; no_longer = g.no_longer; kept = g.kept; whole = whole_journal };
  },
)

pub halves_tell : (x : Image) (pages_log journal_log : List Entry) → AreWhole x.pages → AreWhole x.journal
    → TellsImage true x (side_by_side (area_moments x.pages pages_log) (area_moments x.journal journal_log))
halves_tell x pages_log journal_log whole_pages whole_journal =
    told_image (area_moments x.pages pages_log) (area_moments x.journal journal_log) x whole_pages whole_journal
    (history_of-fits (reverse pages_log) x.pages) (history_of-fits (reverse journal_log) x.journal)
