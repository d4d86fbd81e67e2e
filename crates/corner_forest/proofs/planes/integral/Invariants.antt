use Rattle.std.proofs.Common.{◌≡◌, ℕ, ◌+◌, ◌*◌, ◌<◌, ◌≤◌, IsTrue, List, length}
use Rattle.bw_types.specs.Residues.{residue}
use Rattle.bw_types.specs.declared.point.Point.{Point}
use Rattle.ports.specs.Calls.{WasRead}
use Rattle.corner_weights.specs.Corners.{integral_corner}
use Rattle.corner_weights.specs.Subsets.{residue_signed_by}
use Rattle.corner_weights.specs.Sums.{residue_sum_below}
use Rattle.corner_weights.specs.Integrals.{query_corner}
use Rattle.corner_weights.specs.Planes.{plane_count, planes_value}
use Rattle.corner_forest.specs.Corners.{planes_at}
use Rattle.corner_forest.specs.Entries.{corner_count}
use Rattle.corner_forest.specs.Stands.{AreBalanced}
use Rattle.corner_forest.specs.Trees.{EachStands}
use Rattle.corner_forest.proofs.planes.integral.Given as goal

abbrev pub invariant-loop-subset : goal.invariant-loop-subset
invariant-loop-subset g l =
    let pages = g.P.Pages in
    let index = g.X.DomIndex in
    let map_then = pages.map l.fn.pages in
    let params = l.fn.forest.params in
    record {
      went : WasRead pages (pages.gets l.pages) l.fn.pages l.pages;
      total : IsTrue (pages.tells l.fn.pages) → (points : ℕ → List Point) → EachStands (index.stands map_then params.dims) points 0 l.fn.forest.roots.items
          → l.total ≡ residue_sum_below l.subset (λ subset. residue_signed_by subset (residue (planes_value params (planes_at params points (integral_corner params.dims l.fn.query subset) l.fn.version) (query_corner l.fn.query subset))));
      cost : IsTrue (pages.tells l.fn.pages) → (points : ℕ → List Point) (n : ℕ) → EachStands (index.stands map_then params.dims) points 0 l.fn.forest.roots.items
          → AreBalanced index map_then params l.fn.forest.roots.items
          → ((plane : ℕ) → plane < plane_count params → length (points (corner_count params + plane)) ≡ n)
          → pages.gets l.pages ≤ pages.gets l.fn.pages + l.subset * (plane_count params * index.cost params.dims n);
    }
