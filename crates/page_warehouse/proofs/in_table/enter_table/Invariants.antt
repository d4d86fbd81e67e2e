use Rattle.std.proofs.Common.{◌≡◌, ◌+◌, length, IsTrue, take}
use Rattle.std.specs.List.{All}
use Rattle.bw_types.specs.History.{History, changes, flat}
use Rattle.bw_types.specs.Lawful.{IsLawful, IsLawfulBatch}
use Rattle.ports.specs.Calls.{WentOn}
use Rattle.page_warehouse.specs.Begun.{next_version}
use Rattle.page_warehouse.specs.Entering.{PagesKeep, RootsFit}
use Rattle.page_warehouse.specs.Waiting.{CanWait}
use Rattle.page_warehouse.proofs.Rows.{ToldSoFar}
use Rattle.page_warehouse.proofs.in_table.enter_table.Given as goal

abbrev pub invariant-loop-row : goal.invariant-loop-row
invariant-loop-row g l = record {
  trees : l.roots.forest ≡ l.fn.roots.forest;
  fits : RootsFit g.X.DomIndex.DIMS l.roots;
  event : l.event ≡ l.fn.event + length (flat (take l.row-index l.rows));
  can : All (CanWait l.fn.roots.forest.params) l.waiting.items;
  many : length l.waiting.items ≡ length (flat (take l.row-index l.rows));
  went : WentOn g.S.Pages (g.S.Pages.allotted l.stage + 1) l.fn.stage l.stage;
  told : IsTrue (g.S.Pages.tells l.fn.stage) → (h : History) → IsLawful l.fn.roots.forest.params h → IsLawfulBatch l.fn.roots.forest.params h (flat l.rows)
      → l.version ≡ next_version h → l.fn.event ≡ length (changes h) → PagesKeep g.X.DomIndex (g.S.Pages.map l.fn.stage) l.fn.roots h
      → ToldSoFar g.S.Pages g.X.DomIndex l.fn.stage l.stage l.roots l.version h (flat (take l.row-index l.rows)) l.waiting.items;
}
