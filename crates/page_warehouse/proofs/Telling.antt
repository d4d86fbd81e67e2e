-- What the table of a disk that holds a history tells.
use Rattle.std.proofs.Common.{ℕ, List, sym, ◌∙◌, ap₂}
use Rattle.bw_types.specs.declared.dated.Dated.{Dated}
use Rattle.page_layout.specs.declared.meta.Meta.{Meta}
use Rattle.ports.specs.Pages.{PageMap}
use Rattle.page_space.specs.Laws.{HoldsOne}
use Rattle.dom_index.specs.declared.index.DomIndex.{Ghosts}
use Rattle.history_laws.specs.Telling.{TableTellsHistory}
use Rattle.history_laws.specs.Told.{told}
use Rattle.page_warehouse.specs.Laws.{HoldsOneHistory, TableTells, told_by}
use Rattle.page_warehouse.proofs.Opened.{unordered}

module _ {X : Type 0} (g : Ghosts X) where
  pub table_told : TableTellsHistory → TableTells g
  table_told tells x params h held =
      ap₂ (λ (kept : List Dated) (n : ℕ). told kept n) held.table.stands.has held.tells.version ∙ tells params h held.table.kept held.lawful held.table.all

  pub one_history : TableTellsHistory → HoldsOne → HoldsOneHistory g
  one_history tells one x params others h k first second =
      let same = one x params others first.meta second.meta first.pages second.pages (unordered x params first.meta first.pages (Unit {0}) first.space) (unordered x others second.meta second.pages (Unit {0}) second.space) in (
        same.0,
        sym (table_told tells x params h first) ∙ ap₂ (λ (m : PageMap) (meta : Meta). told_by m meta) same.2 same.1 ∙ table_told tells x others k second,
      )
