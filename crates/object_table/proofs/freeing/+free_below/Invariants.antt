use Rattle.std.proofs.Common.{◌-◌, IsTrue, [], ◌∷◌, take}
use Rattle.std.specs.List.{flat_map}
use Rattle.ports.specs.Calls.{WentOn}
use Rattle.ports.specs.Frame.{AreInMap, Replaces}
use Rattle.object_table.proofs.Clearing.{own_pages}
use Rattle.object_table.proofs.freeing.+free_below.Given as goal

abbrev pub decreases-free_below : goal.decreases-free_below
decreases-free_below g l = l.level

abbrev pub invariant-loop-entry : goal.invariant-loop-entry
invariant-loop-entry g l = record {
  there : IsTrue (g.S.Pages.tells l.fn.stage) → AreInMap (g.S.Pages.map l.fn.stage) (l.page ∷ flat_map (own_pages l.form (l.level - 1) (g.S.Pages.map l.fn.stage)) (take l.entry-index l.entry-items));
  freed : IsTrue (g.S.Pages.tells l.fn.stage)
      → Replaces (l.page ∷ flat_map (own_pages l.form (l.level - 1) (g.S.Pages.map l.fn.stage)) (take l.entry-index l.entry-items)) [] (g.S.Pages.map l.fn.stage) (g.S.Pages.map l.stage);
  went_on : WentOn g.S.Pages 0 l.fn.stage l.stage;
}
