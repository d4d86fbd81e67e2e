-- The two gates, and what an image says by them.
use Rattle.std.specs.Prelude.{◌≡◌, ℕ, ◌≤◌, nat_lt, ◌==◌, ◌||◌, not, Bool, true, false, if◌then◌else◌, List, length, slice_index, slice_set}
use Rattle.ports.specs.Pages.{blank_bytes}
use Rattle.page_disk.specs.Image.{PageList, Image, page_at}
use Rattle.redo_journal.specs.declared.gate.Gate.{Gate}
use Rattle.redo_journal.specs.declared.gate.Gate.TheVariants.{Blank, NoJournal, Idle, Armed}

-- Page 0 of an area is its gate, which is open exactly where its first byte is 1.
abbrev pub is_open : PageList → Bool
is_open pages = slice_index (page_at pages 0) 0 == 1

-- a Pages area without a warehouse
abbrev pub is_blank : PageList → Bool
is_blank pages = nat_lt (length pages) 3 || not (is_open pages)

-- no warehouse is there
abbrev pub is_empty : Image → Bool
is_empty x = is_blank x.pages

abbrev pub gate_of : Image → Gate
gate_of x = if is_empty x then Blank else if length x.journal == 0 then NoJournal else if is_open x.journal then Armed else Idle

-- the bytes by which a gate is written
unfoldable pub gate_bytes : Bool → List ℕ
gate_bytes opens = slice_set blank_bytes 0 (if opens then 1 else 0)

-- A warehouse that was made with these two pages.
pub record IsCreated (superblock meta : List ℕ) (x : Image) : Type 0 where
  pub len : 3 ≤ length x.pages
  pub opened : is_open x.pages ≡ true
  pub superblock_is : page_at x.pages 1 ≡ superblock
  pub meta_is : page_at x.pages 2 ≡ meta
  pub journal_len : 1 ≤ length x.journal
  pub closed : is_open x.journal ≡ false
