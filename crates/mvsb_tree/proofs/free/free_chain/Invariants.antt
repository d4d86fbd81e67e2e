use Rattle.std.proofs.Common.{◌≡◌, ℕ, ◌-◌, ◌<◌, true, IsTrue, []}
use Rattle.ports.specs.Calls.{WentOn}
use Rattle.ports.specs.Frame.{AreInMap, Replaces, names_page}
use Rattle.mvsb_tree.specs.Damage.{IsDamagedInChain}
use Rattle.mvsb_tree.specs.Steps.{chain_from, node_on}
use Rattle.mvsb_tree.proofs.Chains.{back}
use Rattle.mvsb_tree.proofs.free.free_chain.Given as goal

abbrev pub invariant-loop-passed : goal.invariant-loop-passed
invariant-loop-passed g l = record {
  page_is : IsTrue (g.S.Pages.tells l.fn.stage) → l.page ≡ back l.passed (g.S.Pages.map l.fn.stage) l.last;
  there : IsTrue (g.S.Pages.tells l.fn.stage) → AreInMap (g.S.Pages.map l.fn.stage) (chain_from l.passed (g.S.Pages.map l.fn.stage) l.last);
  freed : IsTrue (g.S.Pages.tells l.fn.stage) → Replaces (chain_from l.passed (g.S.Pages.map l.fn.stage) l.last) [] (g.S.Pages.map l.fn.stage) (g.S.Pages.map l.stage);
  above : IsTrue (g.S.Pages.tells l.fn.stage) → (q : ℕ) → names_page (chain_from l.passed (g.S.Pages.map l.fn.stage) l.last) q ≡ true
      → l.places - l.passed < (node_on (g.S.Pages.map l.fn.stage) q).place;
  damage : IsTrue (g.S.Pages.tells l.fn.stage) → (p : ℕ) → IsDamagedInChain (g.S.Pages.map l.fn.stage) (l.places - l.passed) l.page p
      → IsDamagedInChain (g.S.Pages.map l.fn.stage) l.places l.last p;
  whole : IsTrue (g.S.Pages.tells l.fn.stage) → (p : ℕ) → IsDamagedInChain (g.S.Pages.map l.fn.stage) l.places l.last p
      → IsDamagedInChain (g.S.Pages.map l.fn.stage) (l.places - l.passed) l.page p;
  went_on : WentOn g.S.Pages 0 l.fn.stage l.stage;
}
