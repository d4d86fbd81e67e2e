use Rattle.std.proofs.Common.{◌≡◌, ◌≢◌, ◌<◌, ◌≤◌, ℕ, IsTrue, ◌+◌, ◌-◌, ◌%◌, ◌^◌}
use Rattle.bw_types.specs.Dominance.{dominance_sum, dominated_weight}
use Rattle.ports.specs.Calls.{WasRead}
use Rattle.dom_index.specs.Chain.{IsDamagedAlong, IsDamagedOn, chain_points}
use Rattle.dom_index.proofs.chain.sum_along.Given as goal

abbrev pub invariant-loop-page : goal.invariant-loop-page
invariant-loop-page g l =
    let pages = g.P.Pages in
    let map = pages.map l.fn.pages in
    record {
      some : l.left ≤ l.tree.count;
      total : IsTrue (pages.tells l.fn.pages) → (l.total + dominated_weight l.dims (chain_points l.left map l.page) l.keys l.version) % 2 ^ 128
          ≡ dominance_sum l.dims (chain_points l.tree.count map l.tree.root) l.keys l.version;
      way : (damaged : ℕ) → IsTrue (pages.tells l.fn.pages) → l.page ≢ 0 → IsDamagedOn map l.left l.page damaged → IsDamagedAlong map l.tree damaged;
      ahead : (damaged : ℕ) → IsTrue (pages.tells l.fn.pages) → IsDamagedAlong map l.tree damaged
          → (l.page ≢ 0) × IsDamagedOn map l.left l.page damaged;
      fits : l.total < 2 ^ 128;
      went : WasRead pages (l.tree.count - l.left) l.fn.pages l.pages;
    }

abbrev pub decreases-loop-page : goal.decreases-loop-page
decreases-loop-page g l = l.left
