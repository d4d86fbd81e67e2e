-- The spans that a disk holds.
use Rattle.std.specs.Prelude.{◌≡◌, ◌≤◌, List, None, take, drop, length}
use Rattle.std.specs.List.{All}
use Rattle.bw_types.specs.Empty.{empty_tree}
use Rattle.bw_types.specs.Fits.{IsInRange}
use Rattle.bw_types.specs.History.{History, changes, last_version}
use Rattle.bw_types.specs.Lawful.{IsLawful}
use Rattle.bw_types.specs.declared.params.Params.{Params}
use Rattle.bw_types.specs.declared.tree.Tree.{Tree}
use Rattle.ports.specs.Pages.{PageMap}
use Rattle.page_disk.specs.Image.{Image}
use Rattle.page_layout.specs.Footprint.{NamesNoneTwice}
use Rattle.page_layout.specs.declared.meta.Meta.{Meta}
use Rattle.page_space.specs.Space.{HoldsSpace}
use Rattle.dom_index.specs.declared.index.DomIndex.{Ghosts}
use Rattle.corner_forest.specs.Entries.{corner_count}
use Rattle.corner_forest.specs.Trees.{EachStands, trees_pages}
use Rattle.history_laws.specs.Bounds.{HasSmallWeight}
use Rattle.history_laws.specs.Entries.{history_entries}
use Rattle.span_planes.specs.SpanPoints.{dated_weight, plain_weight, span_points, span_roots}

-- the params that a disk of spans has: those of the warehouse without its degree
abbrev pub without_degree : Params → Params
without_degree params = record params { degree = None }

-- The meta page tells of the spans of the history: its last version, its adds and withdrawals, no events and no object table.
pub record TellsSpans (params : Params) (meta : Meta) (h : History) : Type 0 where
  pub version : meta.version ≡ last_version h
  pub events : meta.events ≡ 0
  pub rows : meta.rows ≡ length (changes h)
  pub table : meta.table ≡ empty_tree
  pub roots : length meta.roots.items ≡ span_roots params

module _ {X : Type 0} (g : Ghosts X) where
  -- In these pages the first half of the trees stands for the entries of the history with their weights, and the second half for them with
  -- their weights times their versions. Each tree is as low as the index keeps it. The index has as many dimensions.
  pub record SpansStand (params : Params) (pages : PageMap) (roots : List Tree) (h : History) : Type 0 where
    pub dims : params.dims ≤ g.DIMS
    pub plain : EachStands (g.stands pages params.dims) (span_points params plain_weight (history_entries h)) 0 (take (corner_count params) roots)
    pub dated : EachStands (g.stands pages params.dims) (span_points params dated_weight (history_entries h)) 0 (drop (corner_count params) roots)
    pub balanced : All (g.balanced pages params.dims) roots

  -- The disk holds the spans of a history that is lawful under these params, which are in range, and no page of its trees is named twice. Its
  -- free pages are in order.
  pub record SpanHolds (x : Image) (params : Params) (h : History) : Type 0 where
    pub meta : Meta
    pub pages : PageMap
    pub space : HoldsSpace x (without_degree params) meta pages (Unit {0})
    pub tells : TellsSpans params meta h
    pub range : IsInRange params
    pub lawful : IsLawful params h
    pub weights : All HasSmallWeight (changes h)
    pub trees : SpansStand params pages meta.roots.items h
    pub apart : NamesNoneTwice (trees_pages (g.footprint pages params.dims) meta.roots.items)
