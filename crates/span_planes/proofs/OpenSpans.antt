-- Spans that are open, and the history whose spans their disk holds.
use Rattle.std.proofs.Common.{◌≡◌, ℕ, ◌/◌, ◌≤◌, ◌^◌, ◌∙◌, IsTrue, List, length, take, drop, ap, sym, subst, arith}
use Rattle.bw_types.specs.Fits.{IsInRange}
use Rattle.bw_types.specs.History.{History, event_count}
use Rattle.bw_types.specs.declared.params.Params.{Params}
use Rattle.bw_types.specs.declared.tree.Tree.{Tree}
use Rattle.dom_index.specs.declared.index.DomIndex.{Ghosts as IndexGhosts}
use Rattle.history_laws.specs.Bounds.{LawfulHasRoom}
use Rattle.page_disk.specs.declared.disk.Disk.{Ghosts}
use Rattle.ports.specs.Pages.{PageMap}
use Rattle.page_space.specs.Laws.{HoldsOne}
use Rattle.page_space.specs.Shown.{IsInOrder, map_of}
use Rattle.page_space.specs.Space.{HoldsSpace}
use Rattle.span_planes.specs.Shown.{HoldsSpans, disk_in, meta_in, params_in, space_in}
use Rattle.span_planes.specs.SpanHolds.{SpansStand, without_degree}
use Rattle.span_planes.specs.SpanPoints.{span_roots}
use Rattle.span_planes.specs.declared.spans.Spans.{Spans}
use Rattle.span_planes.proofs.SpanOpened.{same_params, trees_here}
use Rattle.span_planes.proofs.SpanTrees.{AreHalves, cut_in_halves}

module _ {E X : Type 0} {g : Ghosts E} {i : IndexGhosts X} (one : HoldsOne) (spans : Spans E X g i)
    (held : IsTrue (g.tells (disk_in spans)) → HoldsSpace (g.image (disk_in spans)) (params_in spans) (meta_in spans) (map_of (space_in spans)) (IsInOrder (space_in spans)))
    (params : Params) (h : History) (holds : HoldsSpans g i (disk_in spans) params h) where
  -- their params are those of the history without its degree
  pub own_params : params_in spans ≡ without_degree params
  own_params = same_params i one (g.image (disk_in spans)) (params_in spans) (meta_in spans) (map_of (space_in spans)) (IsInOrder (space_in spans)) (held holds.0) params h holds.1

  -- their trees are those of the history
  own_trees : SpansStand i params (map_of (space_in spans)) (meta_in spans).roots.items h
  own_trees = trees_here i one (g.image (disk_in spans)) (params_in spans) (meta_in spans) (map_of (space_in spans)) (IsInOrder (space_in spans)) (held holds.0) params h holds.1

  pub own_range : IsInRange (params_in spans) → IsInRange (without_degree params)
  own_range range = subst (λ (p : Params). IsInRange p) own_params range

  -- the history has few events
  pub few_events : LawfulHasRoom → IsInRange (params_in spans) → event_count h ≤ 2 ^ 28
  few_events rooms range = let most = (rooms params h holds.1.lawful).events in let few = (own_range range).events in omega (arith, most, few)

  -- the parts of their trees are read under their params, in pages that are as they are
  pub own_halves : (now : PageMap) (own : Params) (shown front back : List Tree) (count : ℕ) → now ≡ map_of (space_in spans) → own ≡ params_in spans → shown ≡ spans.roots.items
      → count ≡ length spans.roots.items → front ≡ take (count / 2) shown → back ≡ drop (count / 2) shown → AreHalves i now own params front back h
  own_halves now own shown front back count same is shows counts is_front is_back =
      cut_in_halves own params (is ∙ own_params) i (map_of (space_in spans)) now same (meta_in spans).roots.items shown front back count h own_trees (shows ∙ spans.trees)
      (counts ∙ ap (λ (ts : List Tree). length ts) spans.trees ∙ spans.count ∙ ap (λ (p : Params). span_roots p) (sym is)) is_front is_back
