-- What a call on a disk leaves: where nothing is pending, once pages are written, and after a sync.
use Rattle.redo_journal.proofs.Common.{◌≡◌, ◌≢◌, ℕ, ◌<◌, ◌≤◌, ◌∙◌, ap, sym, subst, refl, inl, inr, ◌⊎◌, Bool, true, false, List, [], ◌∷◌, ◌++◌, length, arith, IsTrue, IsSome, ◌==◌, slice_index, cases_Bool, common_steps, ext_get_or, get_or_past, PageMap, Pages, Journal, TellsImage, PageList, Image, page_at, AreWhole, area_of, with_area, written_at, AreaMoment, Moment, AreaMayBeLeft, MayBeLeft, is_written, counted_in, then_moment, settled_moment, LeavesNow, LeavesOnly, LeavesOnly-same, LeavesOnly-then, LeavesOnly-moment, left_settled, is_open, AtNewest, LeavesArea, BodyPends, KeepsGate, DiffersInGate, HomesPend, IsInPlacing, MayBeLeftNow, LeavesOnly-weaken, settled_leaves, is_empty, IsEmptyOrCreated}
use Rattle.ports.specs.Pages.{blank_bytes}
use Rattle.ports.specs.Frame.{names_page}
use Rattle.ports.specs.FrameLaws.{names_page-append}
use Rattle.redo_journal.specs.Gates.{gate_bytes}
use Rattle.redo_journal.proofs.GateLemmas.{says, written_gate}
use Rattle.redo_journal.proofs.PlacingLemmas.{length-written, written-at, written-other}

-- a call that leaves the moments or adds one
pub one_call : {P : Image → Type 0} (change : Moment → Moment) {old new : List Moment} → (new ≡ old) ⊎ (new ≡ then_moment change old)
    → ((x : Image) → MayBeLeftNow (then_moment change old) x → P x) → LeavesOnly P old new
one_call {P} change {old} which has = elim which [
  | inl same ↦ subst (LeavesOnly P old) (sym same) (LeavesOnly-same P old)
  | inr more ↦ subst (LeavesOnly P old) (sym more) (LeavesOnly-moment P change old has)
]

-- The moments after a write that failed.
pub either_first : {A B C D : Type 0} → (A × B) ⊎ (C × D) → A ⊎ C
either_first which = elim which [ inl same ↦ inl same.0 | inr more ↦ inr more.0 ]

-- what holds of a told image holds of what a sync leaves
left_synced : (P : Image → Type 0) (t : Bool) (image : Image) (old : List Moment) → TellsImage t image old → (IsTrue t → P image)
    → (x : Image) → MayBeLeftNow (then_moment (λ _. settled_moment image) old) x → P x
left_synced P t image [] told holds x left = absurd left
left_synced P t image (m ∷ earlier) told holds x left = subst P (sym (left_settled image x left)) (holds told.0)

pub one_sync : {P : Image → Type 0} (t : Bool) (image : Image) {old new : List Moment} → TellsImage t image old → (IsTrue t → P image)
    → (new ≡ old) ⊎ (new ≡ then_moment (λ _. settled_moment image) old) → LeavesOnly P old new
one_sync t image {old} told holds which = one_call (λ _. settled_moment image) which (left_synced _ t image old told holds)

-- all phases but the last, and then that one
pub created_stretch : {superblock meta : List ℕ} {first second third : List Moment}
    → LeavesOnly (λ x. is_empty x ≡ true) first second → LeavesOnly (IsEmptyOrCreated superblock meta) second third
    → LeavesOnly (IsEmptyOrCreated superblock meta) first third
created_stretch f h = LeavesOnly-then _ _ _ _ (LeavesOnly-weaken _ _ _ _ (λ x e. inl e) f) h

-- Nothing is pending after a sync.
pub settled_by : {image after : Image} (old : List Moment) {new : List Moment} → new ≡ then_moment (λ _. settled_moment image) old → after ≡ image → LeavesNow new after
settled_by {image} old synced same = rw (synced, same) (settled_leaves image old)

-- A page that is not this one.
other_page : (bytes : List ℕ) → (y : List ℕ) × (length y ≡ 4096) × (y ≢ bytes)
unfolding gate_bytes blank_bytes
other_page bytes = elim (cases_Bool (slice_index bytes 0 == 1)) [
  | inl opened ↦ (gate_bytes false, refl, λ e. cc (says false))
  | inr closed ↦ (gate_bytes true, refl, λ e. cc (says true))
]

-- nothing of the area is pending
pub record AreaRests (m : AreaMoment) (pages : PageList) : Type 0 where
  pub synced : m.synced ≡ pages
  pub longest : m.greatest ≤ length pages
  pub unwritten : (page : ℕ) → page < length pages → is_written m page ≡ false

whole_written : (pages : PageList) (page : ℕ) (bytes : List ℕ) → page ≤ length pages → AreWhole pages → length bytes ≡ 4096 → AreWhole (written_at pages page bytes)
whole_written pages page bytes within whole size = λ p below.
    grind (arith, common_steps, whole p, written-at pages page bytes within, written-other pages page bytes p within, length-written pages page bytes within)

module _ {m : AreaMoment} {pages : PageList} (left : AreaMayBeLeft m pages) (only : LeavesArea m pages) where
  -- No page could hold other bytes.
  firm : (page : ℕ) → page ≤ length pages → page < m.greatest → (page < length m.synced → is_written m page ≡ true) → ⊥
  firm page within below free =
      let y = other_page (page_at pages page) in
      let grown = length-written pages page y.0 within in
      let may : AreaMayBeLeft m (written_at pages page y.0) = record {
        no_shorter = omega arith;
        no_longer = omega arith;
        kept = λ p low unwritten. grind (arith, common_steps, free, written-other pages page y.0 p within, left.kept p);
        whole = whole_written pages page y.0 within left.whole y.1;
      } in
      y.2 (sym (written-at pages page y.0 within) ∙ ap (λ (x : PageList). page_at x page) (only _ may))

  unwritten_at : (page : ℕ) → page < length pages → is_written m page ≡ false
  unwritten_at page within = grind (arith, common_steps, firm page)

  area_rests : AreaRests m pages
  area_rests =
      let high : length pages ≤ length m.synced = grind (arith, firm (length m.synced)) in
      record {
        synced = ext_get_or [] m.synced pages (omega arith) (λ i within. sym (left.kept i within (unwritten_at i (omega arith))));
        longest = grind (arith, firm (length pages));
        unwritten = unwritten_at;
      }

module _ {m : Moment} {image : Image} (left : MayBeLeft m image) (only : (x : Image) → MayBeLeft m x → x ≡ image) where
  only_pages : LeavesArea m.pages image.pages
  only_pages x h = ap (λ (y : Image). y.pages) (only (record { pages = x; journal = image.journal }) (record { pages = h; journal = left.journal }))

  only_journal : LeavesArea m.journal image.journal
  only_journal x h = ap (λ (y : Image). y.journal) (only (record { pages = image.pages; journal = x }) (record { pages = left.pages; journal = h }))

  journal_rests : AreaRests m.journal image.journal
  journal_rests = area_rests left.journal only_journal

-- Before a body is written nothing of it is pending.
pub body_starts : (t : Bool) (image : Image) (moments : List Moment) → TellsImage t image moments → LeavesNow moments image
    → (IsTrue t → 1 ≤ length image.journal) → AtNewest (BodyPends image) moments
body_starts t image [] told only gate = tt
body_starts t image (m ∷ earlier) told only gate =
    let rests = journal_rests told.1 only in
    let some = gate told.0 in
    let same = ap length rests.synced in
    record {
      pages = only_pages told.1 only;
      has_gate = omega arith;
      gate = ap (λ (x : PageList). page_at x 0) rests.synced;
      unwritten = rests.unwritten 0 (omega arith);
    }

-- Before images are written home none of them is pending.
pub homes_start : (images : PageMap) (t : Bool) (image : Image) (moments : List Moment) → TellsImage t image moments → LeavesNow moments image
    → AtNewest (HomesPend images image) moments
homes_start images t image [] told only = tt
homes_start images t image (m ∷ earlier) told only =
    let rests = area_rests told.1.pages (only_pages told.1 only) in
    record {
      journal = only_journal told.1 only;
      synced = rests.synced;
      longest = λ page past below. absurd (omega arith);
      written = λ page within wrote. let no_write = rests.unwritten page within in absurd cc;
    }

-- one more page is counted as written
counted_named : (named : List ℕ) (page p : ℕ) → p ≢ page → names_page (named ++ page ∷ []) p ≡ names_page named p
counted_named named page p apart = grind (arith, common_steps, names_page-append)

-- A step adds at most one moment, and what is pending stays so.
module _ {Q : Moment → Type 0} {P : Image → Type 0} (leaves : (m : Moment) → Q m → (x : Image) → MayBeLeft m x → P x) where
  step_leaves : (change : Moment → Moment) (t : Bool) (image : Image) (old new : List Moment) → TellsImage t image old
      → ((m : Moment) → IsTrue t → MayBeLeft m image → Q m → Q (change m)) → AtNewest Q old
      → (new ≡ old) ⊎ (new ≡ then_moment change old) → LeavesOnly P old new × AtNewest Q new
  step_leaves change t image old new told step at (inl same) = rw same (LeavesOnly-same P old, at)
  step_leaves change t image [] new told step at (inr more) = rw more (LeavesOnly-same P [], tt)
  step_leaves change t image (m ∷ earlier) new told step at (inr more) =
      let q = step m told.0 told.1 at in rw more (LeavesOnly-moment P change (m ∷ earlier) (leaves (change m) q), q)

  -- A sync leaves what the disk reads, which a crash before it might have left.
  sync_leaves : (t : Bool) (image : Image) (old new : List Moment) → TellsImage t image old → AtNewest Q old
      → (new ≡ old) ⊎ (new ≡ then_moment (λ _. settled_moment image) old) → LeavesOnly P old new
  sync_leaves t image [] new told at which = one_call (λ _. settled_moment image) which (λ x left. absurd left)
  sync_leaves t image (m ∷ earlier) new told at which =
      one_call (λ _. settled_moment image) which (λ x left. subst P (sym (left_settled image x left)) (leaves m at image told.1))

  -- A stretch of writes and then a sync.
  pub synced_stretch : (t : Bool) (image : Image) {first second third : List Moment} → TellsImage t image second
      → LeavesOnly P first second × AtNewest Q second
      → (third ≡ second) ⊎ (third ≡ then_moment (λ _. settled_moment image) second) → LeavesOnly P first third
  synced_stretch t image {first} {second} {third} told goes which = LeavesOnly-then P first second third goes.0 (sync_leaves t image second third told goes.1 which)

pub body_leaves : {start : Image} (m : Moment) → BodyPends start m → (x : Image) → MayBeLeft m x → KeepsGate start x
body_leaves m h x left = record {
  pages = h.pages x.pages left.pages;
  has_gate = omega arith;
  gate = ap (λ (bytes : List ℕ). slice_index bytes 0 == 1) (left.journal.kept 0 h.has_gate h.unwritten ∙ h.gate);
}

pub homes_leave : {images : PageMap} {start : Image} (m : Moment) → HomesPend images start m → (x : Image) → MayBeLeft m x → IsInPlacing images start x
homes_leave {images} m h x left =
    let size = ap length h.synced in
    record {
      journal = h.journal x.journal left.journal;
      no_shorter = omega arith;
      no_longer = λ page past within. h.longest page past (omega arith);
      others = λ page within none. grind (arith, common_steps, h.written page within, left.pages.kept page, h.synced);
    }

-- A page that has an image is written.
homes_counted : {images : PageMap} {start : Image} (page : ℕ) → IsSome (images page) → (m : Moment) → page ≤ m.pages.greatest
    → HomesPend images start m → HomesPend images start (counted_in Pages page m)
homes_counted {images} page some m within h = record {
  journal = h.journal;
  synced = h.synced;
  longest = λ p past below. grind (arith, common_steps, h.longest p);
  written = λ p low wrote. grind (arith, common_steps, h.written p low, counted_named m.pages.written page p);
}

-- Pages of the body are written, and images home: what a crash leaves, and what is pending at the end.
abbrev pub BodyGoes : Image → List Moment → List Moment → Type 0
BodyGoes start old new = LeavesOnly (KeepsGate start) old new × AtNewest (BodyPends start) new

abbrev pub HomesGo : PageMap → Image → List Moment → List Moment → Type 0
HomesGo images start old new = LeavesOnly (IsInPlacing images start) old new × AtNewest (HomesPend images start) new

-- A page of the body is written.
pub body_goes : {start : Image} (t : Bool) (image : Image) {page : ℕ} {old new : List Moment} → TellsImage t image old → 1 ≤ page → AtNewest (BodyPends start) old
    → (new ≡ old) ⊎ (new ≡ then_moment (counted_in Journal page) old) → BodyGoes start old new
body_goes t image {page} {old} {new} told behind =
    step_leaves body_leaves (counted_in Journal page) t image old new told
    (λ m tells left h. record {
      pages = h.pages;
      has_gate = h.has_gate;
      gate = h.gate;
      unwritten = counted_named m.journal.written page 0 (λ e. omega arith) ∙ h.unwritten;
    })

-- An image is written home.
pub home_goes : {images : PageMap} {start : Image} (t : Bool) (image : Image) {page : ℕ} {old new : List Moment} → TellsImage t image old
    → (IsTrue t → page ≤ length image.pages) → IsSome (images page) → AtNewest (HomesPend images start) old
    → (new ≡ old) ⊎ (new ≡ then_moment (counted_in Pages page) old) → HomesGo images start old new
home_goes t image {page} {old} {new} told within some =
    step_leaves homes_leave (counted_in Pages page) t image old new told
    (λ m tells left h. homes_counted page some m (omega (arith, within tells)) h)

-- The gate is written.
pub left_at_gate : (t : Bool) (image : Image) (old new : List Moment) → TellsImage t image old → LeavesNow old image → (IsTrue t → 1 ≤ length image.journal)
    → (new ≡ old) ⊎ (new ≡ then_moment (counted_in Journal 0) old) → LeavesOnly (DiffersInGate image) old new
left_at_gate t image [] new told only gate which = one_call (counted_in Journal 0) which (λ x left. absurd left)
left_at_gate t image (m ∷ earlier) new told only gate which =
    let rests = journal_rests told.1 only in
    let some = gate told.0 in
    let same = ap length rests.synced in
    one_call (counted_in Journal 0) which (λ x left. record {
      pages = only_pages told.1 only x.pages left.pages;
      body = record {
        len = omega arith;
        behind = λ page from.
            grind (arith, common_steps, left.journal.kept page, rests.unwritten page, counted_named m.journal.written 0 page, rests.synced, get_or_past);
      };
    })

-- the image once its gate was written
pub gate_written : (before between : Image) {bytes : List ℕ} {opens : Bool} → 1 ≤ length before.journal → bytes ≡ gate_bytes opens
    → between ≡ with_area Journal (written_at (area_of Journal before) 0 bytes) before
    → DiffersInGate before between × (is_open between.journal ≡ opens)
gate_written before between {opens = opens} some gate wrote = rw (wrote, gate) (
  record {
    pages = refl;
    body = record {
      len = omega (arith, length-written before.journal 0 (gate_bytes opens) (omega arith));
      behind = λ page from. written-other before.journal 0 (gate_bytes opens) page (omega arith) (λ e. omega arith);
    };
  },
  (written_gate before.journal opens).1,
)

-- A stretch and then another one.
goes_on : (Q : Moment → Type 0) {P : Image → Type 0} {first second third : List Moment} → LeavesOnly P first second × AtNewest Q second
    → (AtNewest Q second → LeavesOnly P second third × AtNewest Q third) → LeavesOnly P first third × AtNewest Q third
goes_on Q {P} {first} {second} {third} f g = let h = g f.1 in (LeavesOnly-then P first second third f.0 h.0, h.1)

pub body_goes_on : {start : Image} {first second third : List Moment} → BodyGoes start first second
    → (AtNewest (BodyPends start) second → BodyGoes start second third) → BodyGoes start first third
body_goes_on {start} = goes_on (BodyPends start)

pub homes_go_on : {images : PageMap} {start : Image} {first second third : List Moment} → HomesGo images start first second
    → (AtNewest (HomesPend images start) second → HomesGo images start second third) → HomesGo images start first third
homes_go_on {images} {start} = goes_on (HomesPend images start)

-- A call that leaves the moments goes nowhere.
pub homes_still : {images : PageMap} {start : Image} {old new : List Moment} → new ≡ old → AtNewest (HomesPend images start) old → HomesGo images start old new
homes_still {images} {start} {old} same at = rw same (LeavesOnly-same (IsInPlacing images start) old, at)
