use Rattle.std.proofs.Common.{◌≡◌, ◌+◌, ◌*◌, ◌<◌, ◌≤◌, Err, IsTrue, List, [], length, map, rules, ap, sym, ◌∙◌, subst, arith}
use Rattle.std.specs.List.{All}
use Rattle.std.proofs.lemmas.Result.{err_from_is_err_and}
use Rattle.std.proofs.lemmas.List.Elements.{All-push}
use Rattle.bw_types.specs.Depths.{added_pages}
use Rattle.bw_types.specs.Empty.{empty_tree}
use Rattle.bw_types.specs.declared.point.Point.{Point}
use Rattle.bw_types.specs.declared.tree.Tree.{Tree}
use Rattle.page_layout.specs.TreeValue.{tree_fits}
use Rattle.ports.specs.declared.page.StageFault.TheVariants.{Damaged}
use Rattle.dom_index.specs.Growth.{tree_growth}
use Rattle.corner_forest.proofs.Exits.{exit_error}
use Rattle.corner_forest.proofs.Stages.{changes_then, refused, went_then}
use Rattle.span_planes.specs.FillPoints.{point_in}
use Rattle.span_planes.specs.Filled.{FilledTrees, entries_in, points_at, span_growth}
use Rattle.span_planes.specs.SpanPoints.{span_roots}
use Rattle.span_planes.proofs.FillGrowth.{tree_most, trees_next, trees_within}
use Rattle.span_planes.proofs.FillTurns.{events_are_new, length_made, points_made}
use Rattle.span_planes.proofs.FilledMore.{IsBare, one_more}
use Rattle.span_planes.proofs.filling.fill.Goals as goal

pub returns-in_err-add_all-clause-sound : goal.returns-in_err-add_all-clause-sound
returns-in_err-add_all-clause-sound g c = λ page tells come order asked.
    let p = err_from_is_err_and c.from_residual-in_err-add_all.result c.from_residual-in_err-add_all.ensures.1 in
    let same = exit_error c.from_residual-in_err-add_all.result c.in_err-add_all.field-0.0 (Damaged page) p asked in
    let params = c.args.params.now in
    let events = c.args.events.now in
    let mid = g.S.Pages.map c.loop-place.stage in
    let tree : Tree = c.default-root.result in
    let is_empty : tree ≡ empty_tree = search rules in
    let bare = subst (IsBare g.X.DomIndex mid params.dims) (sym is_empty) (c.index_laws.ensures.empty mid params.dims c.requires.range.some_dims c.requires.dims) in
    let points : List Point = c.as_slice.result.now in
    let is_points : points ≡ map (point_in params c.loop-place.place) (entries_in events) = ◌∙◌ {c = map (point_in params c.loop-place.place) (entries_in events)} c.as_slice.ensures.value c.in_ok-points.ensures.points in
    let new = events_are_new params c.loop-place.place events points is_points c.requires.range.dims c.requires.events come in
    c.in_err-add_all.ensures.sound [] page (search rules) bare.0 new bare.2 (c.loop-place.invariant.went.free_in_order tells order) (ap Err same)

pub returns-in_err-add_all-clause-growth : goal.returns-in_err-add_all-clause-growth
returns-in_err-add_all-clause-growth g c = λ tells come.
    let p = err_from_is_err_and c.from_residual-in_err-add_all.result c.from_residual-in_err-add_all.ensures.1 in
    let params = c.args.params.now in
    let events = c.args.events.now in
    let k = c.loop-place.place in
    let mid = g.S.Pages.map c.loop-place.stage in
    let tree : Tree = c.default-root.result in
    let is_empty : tree ≡ empty_tree = search rules in
    let bare = subst (IsBare g.X.DomIndex mid params.dims) (sym is_empty) (c.index_laws.ensures.empty mid params.dims c.requires.range.some_dims c.requires.dims) in
    let points : List Point = c.as_slice.result.now in
    let is_points : points ≡ map (point_in params k) (entries_in events) = ◌∙◌ {c = map (point_in params k) (entries_in events)} c.as_slice.ensures.value c.in_ok-points.ensures.points in
    let new = events_are_new params k events points is_points c.requires.range.dims c.requires.events come in
    let n = length events in
    let each = n * added_pages params.dims n in
    let part = tree_growth params.dims tree (length points) in
    let within : part ≤ each = tree_most params.dims n (length points) tree is_empty (length_made params k events points is_points) in
    let lt : k < span_roots params = omega (arith, c.loop-place-test.true, c.root_count-count.ensures.count) in
    let adds = c.in_err-add_all.ensures.growth (search rules) [] bare.0 new bare.2 in
    let so_far = c.loop-place.invariant.growth tells come in
    refused g.S.Pages (span_growth params n) c.args.stage.now c.add_all.new.stage c.from_residual-in_err-add_all.result c.in_err-add_all.field-0.0 p
    (changes_then g.S.Pages (k * each) part (span_growth params n) c.args.stage.now c.loop-place.stage c.add_all.new.stage (Err c.in_err-add_all.field-0.0) so_far adds
    (trees_within k (span_roots params) each part within lt))

pub loop-place-preserved : goal.loop-place-preserved
loop-place-preserved g c =
    let params = c.args.params.now in
    let events = c.args.events.now in
    let k = c.loop-place.place in
    let items = c.loop-place.roots.items in
    let before = g.S.Pages.map c.args.stage.now in
    let mid = g.S.Pages.map c.loop-place.stage in
    let after = g.S.Pages.map c.add_all.new.stage in
    let tree : Tree = c.default-root.result in
    let is_empty : tree ≡ empty_tree = search rules in
    let bare = subst (IsBare g.X.DomIndex mid params.dims) (sym is_empty) (c.index_laws.ensures.empty mid params.dims c.requires.range.some_dims c.requires.dims) in
    let points : List Point = c.as_slice.result.now in
    let is_points : points ≡ map (point_in params k) (entries_in events) = ◌∙◌ {c = map (point_in params k) (entries_in events)} c.as_slice.ensures.value c.in_ok-points.ensures.points in
    record {
      len = search rules;
      rules =
          subst (λ (l : List Tree). All (λ (t : Tree). IsTrue (tree_fits t)) l) (sym c.push.ensures.items)
          (All-push (λ (t : Tree). IsTrue (tree_fits t)) items c.add_all.new.tree c.loop-place.invariant.rules
          (c.in_ok-add_all.ensures.rules (subst (λ (t : Tree). IsTrue (tree_fits t)) (sym is_empty) (search rules))));
      went = search rules;
      filled = λ tells come.
          let new = events_are_new params k events points is_points c.requires.range.dims c.requires.events come in
          let takes = c.in_ok-add_all.ensures.takes (search rules) [] bare.0 new in
          let is : points ≡ points_at params (entries_in events) (length items) =
          is_points ∙ points_made params k (entries_in events) ∙ ap (points_at params (entries_in events)) (sym c.loop-place.invariant.len) in
          subst (λ (l : List Tree). FilledTrees g.X.DomIndex before after params (entries_in events) l) (sym c.push.ensures.items)
          (one_more g.X.DomIndex c.index_laws.ensures.by_its_pages c.index_laws.ensures.balance c.index_laws.ensures.in_map c.index_laws.ensures.once c.index_laws.ensures.any_order
          params before mid after (entries_in events) items tree c.add_all.new.tree points (c.loop-place.invariant.filled tells come) bare is takes);
      growth = λ tells come.
          let new = events_are_new params k events points is_points c.requires.range.dims c.requires.events come in
          let n = length events in
          let each = n * added_pages params.dims n in
          let part = tree_growth params.dims tree (length points) in
          let within : part ≤ each = tree_most params.dims n (length points) tree is_empty (length_made params k events points is_points) in
          let adds = c.in_ok-add_all.ensures.growth (search rules) [] bare.0 new bare.2 in
          let so_far = c.loop-place.invariant.growth tells come in
          let first = so_far.at_most in
          let second = adds.went_on.at_most in
          let whole = trees_next k each part within in
          went_then g.S.Pages (k * each) part ((k + 1) * each) c.args.stage.now c.loop-place.stage c.add_all.new.stage so_far adds.went_on (omega (arith, first, second, whole));
    }
