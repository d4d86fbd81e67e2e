-- A gate that was written.
use Rattle.redo_journal.proofs.Common.{◌≡◌, ℕ, ◌≤◌, Bool, true, false, List, ◌∙◌, ap, refl, length, arith, slice_index, ◌==◌, Pages, Journal, PageList, Image, page_at, area_of, with_area, written_at, is_open, IsCreated, HasIdleJournal, IsShut, IsWritten}
use Rattle.ports.specs.Pages.{blank_bytes}
use Rattle.redo_journal.specs.Gates.{gate_bytes}
use Rattle.redo_journal.proofs.PlacingLemmas.{written-at, length-written, written-other}

pub says : (b : Bool) → (slice_index (gate_bytes b) 0 == 1) ≡ b
unfolding gate_bytes blank_bytes
says true = refl
says false = refl

pub written_gate : (pages : PageList) (b : Bool)
    → (1 ≤ length (written_at pages 0 (gate_bytes b))) × (is_open (written_at pages 0 (gate_bytes b)) ≡ b)
written_gate pages b = (
  omega (arith, length-written pages 0 (gate_bytes b) (omega arith)),
  ap (λ bytes. slice_index bytes 0 == 1) (written-at pages 0 (gate_bytes b) (omega arith)) ∙ says b,
)

-- the gate that was written, once it was synced, to its last byte
pub gate_is : (pages : PageList) {between after : PageList} {bytes : List ℕ} (opens : Bool) → bytes ≡ gate_bytes opens
    → between ≡ written_at pages 0 bytes → after ≡ between → page_at after 0 ≡ gate_bytes opens
gate_is pages opens gate wrote same = rw (same, wrote, gate) (written-at pages 0 (gate_bytes opens) (omega arith))

-- the image after a gate's write and a sync
pub idle_after : (before : Image) {between after : Image} {bytes : List ℕ} → bytes ≡ gate_bytes false
    → between ≡ with_area Journal (written_at (area_of Journal before) 0 bytes) before → after ≡ between → HasIdleJournal after
idle_after before gate wrote same = rw (same, wrote, gate) (written_gate before.journal false)

pub shut_after : (before : Image) {between after : Image} {bytes : List ℕ} → bytes ≡ gate_bytes false
    → between ≡ with_area Pages (written_at (area_of Pages before) 0 bytes) before → after ≡ between → IsShut after
shut_after before gate wrote same = rw (same, wrote, gate) (written_gate before.pages false)

pub created_after : {superblock meta : List ℕ} {before between after : Image} {bytes : List ℕ} → bytes ≡ gate_bytes true
    → IsWritten superblock meta before → HasIdleJournal before
    → between ≡ with_area Pages (written_at (area_of Pages before) 0 bytes) before → after ≡ between → IsCreated superblock meta after
created_after {before = before} gate written idle wrote same =
    let other = λ (page : ℕ) (behind : 1 ≤ page). written-other before.pages 0 (gate_bytes true) page (omega arith) (λ e. omega arith) in
    rw (same, wrote, gate) (record {
      len = omega (arith, length-written before.pages 0 (gate_bytes true) (omega arith));
      opened = (written_gate before.pages true).1;
      superblock_is = other 1 (omega arith) ∙ written.superblock_is;
      meta_is = other 2 (omega arith) ∙ written.meta_is;
      journal_len = idle.0;
      closed = idle.1;
    })
