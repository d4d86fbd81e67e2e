-- What an object table tells of the ids of a history, of which it keeps the lives.
use Rattle.std.specs.Prelude.{◌≡◌, ℕ, ◌==◌, Option, Some, None, List, IsPermutation, if◌then◌else◌}
use Rattle.bw_types.specs.History.{History, changes}
use Rattle.bw_types.specs.Lives.{lives}
use Rattle.bw_types.specs.declared.dated.Dated.{Dated}
use Rattle.bw_types.specs.declared.tree.Tree.{Tree}
use Rattle.ports.specs.Pages.{PageMap}
use Rattle.object_table.specs.Laws.{LastsAreGreatest}
use Rattle.object_table.specs.Lives.{last_life}
use Rattle.object_table.specs.Stands.{TableStands}
use Rattle.object_table.specs.declared.form.Form.{Form}
use Rattle.session_book.specs.Told.{life_in}
use Rattle.session_book.specs.declared.seen.Life.{Life}
use Rattle.session_book.specs.declared.seen.Life.TheVariants.{Never, Live, Withdrawn}

-- what the last life of an id, if it has one, says of the id
abbrev pub life_told : Option Dated → Life
life_told None = Never
life_told (Some d) = if d.withdrawn == 0 then Live else Withdrawn

-- The lives of a history end with the greatest of each id.
abbrev pub LivesEndWithTheGreatest : Type 0
LivesEndWithTheGreatest = (h : History) → LastsAreGreatest (lives h)

-- A table that keeps the lives of a history tells of each id what its changes say.
abbrev pub TableTellsIds : Type 0
TableTellsIds = (form : Form) (pages : PageMap) (table : Tree) (kept : List Dated) (h : History) (id : ℕ)
    → TableStands form pages table kept → IsPermutation kept (lives h) → life_told (last_life id kept) ≡ life_in (changes h) id
