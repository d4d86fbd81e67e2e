use Rattle.std.proofs.Common.{◌≡◌, ◌+◌, ◌*◌, IsTrue, length}
use Rattle.std.specs.List.{All}
use Rattle.bw_types.specs.Depths.{added_pages}
use Rattle.page_layout.specs.TreeValue.{tree_fits}
use Rattle.ports.specs.Calls.{WentOn}
use Rattle.span_planes.specs.Filled.{ComeInTurn, FilledTrees, entries_in}
use Rattle.span_planes.proofs.filling.fill.Given as goal

-- the trees before the place are filled
abbrev pub invariant-loop-place : goal.invariant-loop-place
invariant-loop-place g l =
    let pages = g.S.Pages in
    record {
      len : length l.roots.items ≡ l.place;
      rules : All (λ t. IsTrue (tree_fits t)) l.roots.items;
      went : WentOn pages (pages.allotted l.stage + 1) l.fn.stage l.stage;
      filled : IsTrue (pages.tells l.fn.stage) → ComeInTurn l.fn.events
          → FilledTrees g.X.DomIndex (pages.map l.fn.stage) (pages.map l.stage) l.fn.params (entries_in l.fn.events) l.roots.items;
      growth : IsTrue (pages.tells l.fn.stage) → ComeInTurn l.fn.events
          → WentOn pages (l.place * (length l.fn.events * added_pages l.fn.params.dims (length l.fn.events))) l.fn.stage l.stage;
    }
