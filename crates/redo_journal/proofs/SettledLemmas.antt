-- What a disk stands for, in each phase of a commit.
use Rattle.redo_journal.proofs.Common.{◌≡◌, ◌≤◌, ◌∙◌, ap, sym, subst, inl, inr, ◌⊎◌, true, false, None, length, arith, rules, ◌==◌, slice_index, cases_Bool, common_steps, PageList, Image, is_open, is_blank, is_empty, gate_of, Idle, Armed, KeepsGate, DiffersInGate, IsInPlacing, ImageList, map_of, ArePlaced, HasGate, IsArmed, IsHeld, IsDone, SettlesTo, SettlesToOne}
use Rattle.redo_journal.proofs.PlacingLemmas.{placed-one, placed-again, none_below, reach_ascends}
use Rattle.redo_journal.proofs.GroupLemmas.{OneSpelling, holds_one, holds_same, holds_reach, same_still}

pub idle_has : (x : Image) → gate_of x ≡ Idle → HasGate x false
idle_has x h = search rules

pub armed_has : (x : Image) → gate_of x ≡ Armed → HasGate x true
armed_has x h = search rules

pub has_idle : (x : Image) → HasGate x false → gate_of x ≡ Idle
has_idle x h = grind (arith, common_steps)

-- what makes a Pages area that of a warehouse
pub made_pages : (pages : PageList) → is_blank pages ≡ false → (3 ≤ length pages) × (is_open pages ≡ true)
made_pages pages h = grind (arith, common_steps)

pages_made : (pages : PageList) → 3 ≤ length pages → is_open pages ≡ true → is_blank pages ≡ false
pages_made pages long opened = grind (arith, common_steps)

-- A disk stands for one list of pages.
pub settles_one : OneSpelling → SettlesToOne
settles_one one x pages others a b = elim a.settled [
  | inl closed ↦ elim b.settled [ inl also ↦ closed.1 ∙ sym also.1 | inr opened ↦ absurd cc ]
  | inr opened ↦ elim b.settled [
    | inl closed ↦ absurd cc
    | inr also ↦ placed-one opened.1.placed (rw (holds_one one opened.1.held also.1.held) also.1.placed)
  ]
]

-- The body is written behind a closed gate.
pub body_settles : {start x : Image} → HasGate start false → KeepsGate start x → SettlesTo x start.pages
body_settles h kept = record {
  made = ap is_blank kept.pages ∙ h.made;
  has_gate = kept.has_gate;
  settled = inl (kept.gate ∙ h.gate, sym kept.pages);
}

-- The gate is written before a body that holds these images: it stands open or closed.
pub gate_settles : {start x : Image} {images : ImageList} {pages : PageList} → IsHeld images start → ArePlaced (map_of images) start.pages pages
    → DiffersInGate start x → SettlesTo x start.pages ⊎ SettlesTo x pages
gate_settles {start} {x} {images} {pages} held placed h =
    let size = ap length h.pages in
    let made : is_empty x ≡ false = ap is_blank h.pages ∙ held.made in
    elim (cases_Bool (is_open x.journal)) [
      | inl opened ↦ inr (record {
        made = made;
        has_gate = omega arith;
        settled = inr (
          opened,
          record {
            images = images;
            held = holds_same held.held h.body (omega arith) (omega arith);
            placed = subst (λ p. ArePlaced (map_of images) p pages) (sym h.pages) placed;
          },
        );
      })
      | inr closed ↦ inl (record { made = made; has_gate = omega arith; settled = inl (closed, sym h.pages) })
    ]

-- The gate is written once all images are in their places.
pub closing_settles : {start x : Image} {images : ImageList} → IsDone images start → DiffersInGate start x → SettlesTo x start.pages
closing_settles done only =
    elim (gate_settles (record { made = done.made; has_gate = done.has_gate; held = done.held }) done.placed only) [ inl a ↦ a | inr b ↦ b ]

-- Images are written home behind the open gate.
pub homes_settle : {start x : Image} {images : ImageList} {pages : PageList} → IsArmed images start
    → ArePlaced (map_of images) start.pages pages → IsInPlacing (map_of images) start x → SettlesTo x pages
homes_settle {start} {x} {images} armed placed home =
    let made = made_pages start.pages armed.gate.made in
    let none : map_of images 0 ≡ None = none_below 0 images 0 (reach_ascends _ 0 _ (holds_reach armed.held)) (omega arith) in
    let gate = home.others 0 (omega arith) none in
    let same = same_still home.journal in
    record {
      made = pages_made x.pages (omega arith) (ap (λ b. slice_index b 0 == 1) gate ∙ made.1);
      has_gate = omega arith;
      settled = inr (
        ap is_open home.journal ∙ armed.gate.gate,
        record {
          images = images;
          held = holds_same armed.held same home.no_shorter (omega arith);
          placed = placed-again placed home.no_shorter home.no_longer home.others;
        },
      );
    }
