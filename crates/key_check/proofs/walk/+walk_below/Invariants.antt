use Rattle.std.proofs.Common.{◌≡◌, ◌-◌, IsTrue, take}
use Rattle.page_checks.specs.Reads.{AreAsBefore}
use Rattle.key_check.specs.Steps.{after_all}
use Rattle.key_check.proofs.Walking.{Going}
use Rattle.key_check.proofs.walk.+walk_below.Given as goal

abbrev pub decreases-walk_below : goal.decreases-walk_below
decreases-walk_below g l = l.level

abbrev pub invariant-loop-place : goal.invariant-loop-place
invariant-loop-place g l = record {
  before : l.before ≡ after_all l.reached.before (take l.place l.entries);
  going : IsTrue (g.P.Pages.tells l.fn.pages) → Going (l.level - 1) (g.P.Pages.map l.fn.pages) l.reached l.entries l.place l.fn.steps.items l.steps.items l.fn.named.items l.named.items;
  read : AreAsBefore g.P.Pages l.fn.pages l.pages;
}
