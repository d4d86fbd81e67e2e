use Rattle.std.proofs.Common.{◌≡◌, ℕ, ◌+◌, ◌*◌, ◌<◌, ◌≤◌, IsTrue, List, length}
use Rattle.bw_types.specs.declared.point.Point.{Point}
use Rattle.ports.specs.Calls.{WasRead}
use Rattle.corner_weights.specs.Subsets.{residue_signed_by}
use Rattle.corner_weights.specs.Sums.{residue_sum_below}
use Rattle.corner_forest.specs.Corners.{value_at}
use Rattle.corner_forest.specs.Entries.{corner_count}
use Rattle.corner_forest.specs.Stands.{AreBalanced}
use Rattle.corner_forest.specs.Trees.{EachStands}
use Rattle.corner_forest.proofs.meet.met.Given as goal

abbrev pub invariant-loop-subset : goal.invariant-loop-subset
invariant-loop-subset g l =
    let pages = g.P.Pages in
    let index = g.X.DomIndex in
    let map = pages.map l.fn.pages in
    let dims = l.fn.params.dims in
    record {
      went : WasRead pages (pages.gets l.pages) l.fn.pages l.pages;
      total : IsTrue (pages.tells l.fn.pages) → (points : ℕ → List Point) → EachStands (index.stands map dims) points 0 l.fn.roots
          → l.total ≡ residue_sum_below l.subset (λ subset. residue_signed_by subset (value_at dims l.fn.query l.fn.version (points subset) subset));
      cost : IsTrue (pages.tells l.fn.pages) → (points : ℕ → List Point) (n : ℕ) → EachStands (index.stands map dims) points 0 l.fn.roots
          → AreBalanced index map l.fn.params l.fn.roots
          → ((subset : ℕ) → subset < corner_count l.fn.params → length (points subset) ≡ n)
          → pages.gets l.pages ≤ pages.gets l.fn.pages + l.subset * index.cost dims n;
    }
