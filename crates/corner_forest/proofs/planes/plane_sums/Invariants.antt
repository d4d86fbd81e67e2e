use Rattle.std.proofs.Common.{◌≡◌, ℕ, ◌+◌, ◌*◌, ◌<◌, ◌≤◌, IsTrue, List, length, map}
use Rattle.std.specs.List.{range_with_len}
use Rattle.bw_types.specs.Dominance.{dominance_sum}
use Rattle.bw_types.specs.declared.point.Point.{Point}
use Rattle.ports.specs.Calls.{WasRead}
use Rattle.corner_weights.specs.Planes.{plane_count}
use Rattle.corner_forest.specs.Entries.{corner_count}
use Rattle.corner_forest.specs.Stands.{AreBalanced}
use Rattle.corner_forest.specs.Trees.{EachStands}
use Rattle.corner_forest.proofs.planes.plane_sums.Given as goal

abbrev pub invariant-loop-plane : goal.invariant-loop-plane
invariant-loop-plane g l =
    let pages = g.P.Pages in
    let index = g.X.DomIndex in
    let map_then = pages.map l.fn.pages in
    let params = l.fn.forest.params in
    record {
      len : length l.sums.items ≡ l.plane;
      went : WasRead pages (pages.gets l.pages) l.fn.pages l.pages;
      sums : IsTrue (pages.tells l.fn.pages) → (points : ℕ → List Point) → EachStands (index.stands map_then params.dims) points 0 l.fn.forest.roots.items
          → l.sums.items ≡ map (λ plane. dominance_sum params.dims (points (corner_count params + plane)) l.fn.keys l.fn.version) (range_with_len 0 l.plane);
      cost : IsTrue (pages.tells l.fn.pages) → (points : ℕ → List Point) (n : ℕ) → EachStands (index.stands map_then params.dims) points 0 l.fn.forest.roots.items
          → AreBalanced index map_then params l.fn.forest.roots.items
          → ((plane : ℕ) → plane < plane_count params → length (points (corner_count params + plane)) ≡ n)
          → pages.gets l.pages ≤ pages.gets l.fn.pages + l.plane * index.cost params.dims n;
    }
