-- The journal's heads.
use Rattle.std.specs.Prelude.{ℕ, ◌<◌, ◌≤◌, ◌^◌, ◌==◌, List, length, slice_index, if◌then◌else◌}
use Rattle.std.specs.List.{All}
use Rattle.page_layout.specs.Numbers.{spelled, number_in}
use Rattle.page_layout.specs.Entries.{AreInOrder}
use Rattle.page_layout.specs.Counted.{counted_page, entries_of}
use Rattle.page_layout.specs.declared.journal_head.JournalHead.{JournalHead}

-- What a head is: 1 to 500 homes, each at least 1, that ascend strictly.
pub record IsHead (head : JournalHead) : Type 0 where
  pub some : 1 ≤ length head.homes.items
  pub few : length head.homes.items ≤ 500
  pub homes : AreInOrder (λ home. 1 ≤ home) (λ home next. home < next) head.homes.items

-- The numbers are those of their types.
abbrev pub IsTyped : JournalHead → Type 0
IsTyped head = All (λ home. home < 2 ^ 64) head.homes.items

-- the page that the head is spelled by
abbrev pub head_page : JournalHead → List ℕ
head_page head = counted_page (spelled 8) 8 (if head.more then 1 else 0) 0 0 head.homes.items

-- the head that a page may spell
abbrev pub head_in : List ℕ → JournalHead
head_in page = record { more = slice_index page 1 == 1; homes = record { items = entries_of (number_in 8) 8 500 page } }
