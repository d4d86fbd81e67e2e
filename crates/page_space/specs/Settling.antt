-- A disk on which the journal is looked after.
use Rattle.std.specs.Prelude.{◌≡◌, ◌⊎◌, ℕ, ◌*◌, length}
use Rattle.page_disk.specs.Image.{Image}
use Rattle.redo_journal.specs.Gates.{gate_of}
use Rattle.redo_journal.specs.declared.gate.Gate.{Gate}
use Rattle.redo_journal.specs.declared.gate.Gate.TheVariants.{Blank, NoJournal, Idle, Armed}
use Rattle.redo_journal.specs.Groups.{BreaksRulesAt}

-- Nothing is replayed: the journal's gate is not open, or its body breaks the rules.
abbrev pub HasNoReplay : Image → Type 0
HasNoReplay x = gate_of x ≡ Armed → (page : ℕ) × BreaksRulesAt x page

-- The journal is bad, first at this page: it has no page, or its gate is open and its body breaks the rules.
abbrev pub IsBadAt : Image → ℕ → Type 0
IsBadAt x page = ((gate_of x ≡ NoJournal) × (page ≡ 0)) ⊎ ((gate_of x ≡ Armed) × BreaksRulesAt x page)

-- how many reads so many pages of a journal may take, by what the gates say
abbrev pub reads_at : Gate → ℕ → ℕ
reads_at Blank pages = 0
reads_at NoJournal pages = 0
reads_at Idle pages = 0
reads_at Armed pages = 2 * pages

-- how many reads a replay of this disk takes at most
abbrev pub replay_reads : Image → ℕ
replay_reads x = reads_at (gate_of x) (length x.journal)
