use Rattle.std.proofs.Common.{◌≡◌, ℕ, suc, inl, inr, ◌+◌, ◌-◌, ◌*◌, ◌<◌, ◌≤◌, Err, IsTrue, List, length, get_or, drop, rules, refl, ap, sym, ◌∙◌, subst, arith}
use Rattle.std.specs.List.{All}
use Rattle.std.proofs.lemmas.Result.{err_from_is_err_and}
use Rattle.std.proofs.lemmas.List.Elements.{All-push}
use Rattle.bw_types.specs.Empty.{empty_tree}
use Rattle.bw_types.specs.declared.point.Point.{Point}
use Rattle.bw_types.specs.declared.tree.Tree.{Tree}
use Rattle.ports.specs.Calls.{WentOn}
use Rattle.ports.specs.declared.page.StageFault.TheVariants.{Damaged}
use Rattle.page_layout.specs.TreeValue.{tree_fits}
use Rattle.dom_index.specs.Adding.{AreNewInTurn, TreeTakes}
use Rattle.dom_index.specs.AddingDamage.{AdditionsMayLeave, IsDamagedForPoints}
use Rattle.dom_index.specs.Growth.{TakesMore, sum_below, tree_growth}
use Rattle.corner_forest.specs.BatchDamage.{TreesMayLeave}
use Rattle.corner_forest.specs.Enters.{IsEntering, all_entered_at, batch_growth, first_page}
use Rattle.corner_forest.specs.Entries.{batch_points, point_count, root_count, root_points}
use Rattle.corner_forest.proofs.Entering.{begins, ends, goes_on, next_tree}
use Rattle.corner_forest.proofs.Exits.{exit_error}
use Rattle.corner_forest.proofs.Growth.{batch_at, batch_by_trees, tree_most}
use Rattle.corner_forest.proofs.Lists.{list_end, list_next, list_push, list_start, sum_grows, sum_next}
use Rattle.corner_forest.proofs.Newness.{length_root}
use Rattle.corner_forest.proofs.Stages.{changes_end, changes_then, no_memory, refused, went_then}
use Rattle.corner_forest.proofs.Turns.{batch_fits, batch_is_new, batch_small, length_batch, some_points}
use Rattle.corner_forest.proofs.batch.enter_all.Goals as goal

pub loop-place-init : goal.loop-place-init
loop-place-init g c = record {
  len = search rules;
  went = search rules;
  enters = λ tells entries may.
      subst (λ (l : List Tree). IsEntering g.X.DomIndex c.args.params.now (g.S.Pages.map c.args.stage.now) (g.S.Pages.map c.args.stage.now) c.args.old.now l entries (all_entered_at c.args.version c.args.batch.now) 0)
      (list_start c.new-roots.result.items c.args.old.now c.new-roots.ensures)
      (begins g.X.DomIndex c.index_laws.ensures.by_its_pages c.index_laws.ensures.balance c.index_laws.ensures.in_map c.index_laws.ensures.once c.args.params.now (g.S.Pages.map c.args.stage.now) c.args.old.now entries (all_entered_at c.args.version c.args.batch.now) may.stands may.once);
  reached = search rules;
  rules = search rules;
  growth = search rules;
  small_growth = search rules;
  one_page = search rules;
}

pub returns-in_err-add_all-clause-sound : goal.returns-in_err-add_all-clause-sound
returns-in_err-add_all-clause-sound g c = λ entries page tells may low order asked.
    let p = err_from_is_err_and c.from_residual-in_err-add_all.result c.from_residual-in_err-add_all.ensures.1 in
    let same = exit_error c.from_residual-in_err-add_all.result c.in_err-add_all.field-0.0 (Damaged page) p asked in
    let params = c.args.params.now in
    let batch = all_entered_at c.args.version c.args.batch.now in
    let old = c.args.old.now in
    let k = c.loop-place.place in
    let items = c.loop-place.roots.items in
    let before = g.S.Pages.map c.args.stage.now in
    let mid = g.S.Pages.map c.loop-place.stage in
    let lt : k < length old = omega (arith, c.loop-place-test.true, c.root_count-count.ensures.count, c.requires.roots) in
    let inside : k < root_count params = omega (arith, lt, c.requires.roots) in
    let points : List Point = c.as_slice.result.now in
    let is_points : points ≡ batch_points params k batch = ◌∙◌ {c = batch_points params k batch} c.as_slice.ensures.value c.in_ok-points.ensures.points in
    let now = subst (λ (l : List Tree). IsEntering g.X.DomIndex params before mid old l entries batch k) (list_next items old k empty_tree lt) (c.loop-place.invariant.enters tells entries may) in
    let tree = next_tree g.X.DomIndex c.index_laws.ensures.by_its_pages c.index_laws.ensures.balance c.index_laws.ensures.in_map c.index_laws.ensures.once params before mid old items (get_or old k empty_tree) (drop (k + 1) old) entries batch k c.loop-place.invariant.len now in
    let new = subst (λ (l : List Point). AreNewInTurn params.dims (root_points params entries k) l) (sym is_points)
    (batch_is_new params k batch entries c.requires.in_range.dims may.stands.fits (batch_fits params c.args.version c.args.batch.now c.requires.batch) may.next) in
    c.in_err-add_all.ensures.sound (root_points params entries k) page (search rules) tree.0 new (tree.1 low) (c.loop-place.invariant.went.free_in_order tells order) (ap Err same)

pub returns-in_err-add_all-clause-damaged : goal.returns-in_err-add_all-clause-damaged
returns-in_err-add_all-clause-damaged g c = λ page asked tells.
    let p = err_from_is_err_and c.from_residual-in_err-add_all.result c.from_residual-in_err-add_all.ensures.1 in
    let same = exit_error c.from_residual-in_err-add_all.result c.in_err-add_all.field-0.0 (Damaged page) p asked in
    let params = c.args.params.now in
    let batch = all_entered_at c.args.version c.args.batch.now in
    let old = c.args.old.now in
    let k = c.loop-place.place in
    let items = c.loop-place.roots.items in
    let before = g.S.Pages.map c.args.stage.now in
    let mid = g.S.Pages.map c.loop-place.stage in
    let lt : k < length old = omega (arith, c.loop-place-test.true, c.root_count-count.ensures.count, c.requires.roots) in
    let inside : k < root_count params = omega (arith, lt, c.requires.roots) in
    let points : List Point = c.as_slice.result.now in
    let is_points : points ≡ batch_points params k batch = ◌∙◌ {c = batch_points params k batch} c.as_slice.ensures.value c.in_ok-points.ensures.points in
    elim (c.in_err-add_all.ensures.damaged page (ap Err same) (search rules)) [
      | inl here ↦ inl (
        k,
        mid,
        inside,
        c.loop-place.invariant.reached tells,
        subst (λ (l : List Point). IsDamagedForPoints g.X.DomIndex params.dims l mid (get_or old k empty_tree) page) is_points here,
      )
      | inr not_so ↦ inr (λ order. not_so (c.loop-place.invariant.went.free_in_order tells order))
    ]

pub returns-in_err-add_all-clause-growth : goal.returns-in_err-add_all-clause-growth
returns-in_err-add_all-clause-growth g c = λ tells entries may low.
    let p = err_from_is_err_and c.from_residual-in_err-add_all.result c.from_residual-in_err-add_all.ensures.1 in
    let params = c.args.params.now in
    let batch = all_entered_at c.args.version c.args.batch.now in
    let old = c.args.old.now in
    let k = c.loop-place.place in
    let items = c.loop-place.roots.items in
    let before = g.S.Pages.map c.args.stage.now in
    let mid = g.S.Pages.map c.loop-place.stage in
    let lt : k < length old = omega (arith, c.loop-place-test.true, c.root_count-count.ensures.count, c.requires.roots) in
    let inside : k < root_count params = omega (arith, lt, c.requires.roots) in
    let points : List Point = c.as_slice.result.now in
    let is_points : points ≡ batch_points params k batch = ◌∙◌ {c = batch_points params k batch} c.as_slice.ensures.value c.in_ok-points.ensures.points in
    let now = subst (λ (l : List Tree). IsEntering g.X.DomIndex params before mid old l entries batch k) (list_next items old k empty_tree lt) (c.loop-place.invariant.enters tells entries may) in
    let tree = next_tree g.X.DomIndex c.index_laws.ensures.by_its_pages c.index_laws.ensures.balance c.index_laws.ensures.in_map c.index_laws.ensures.once params before mid old items (get_or old k empty_tree) (drop (k + 1) old) entries batch k c.loop-place.invariant.len now in
    let new = subst (λ (l : List Point). AreNewInTurn params.dims (root_points params entries k) l) (sym is_points)
    (batch_is_new params k batch entries c.requires.in_range.dims may.stands.fits (batch_fits params c.args.version c.args.batch.now c.requires.batch) may.next) in
    let many : length points ≡ length c.args.batch.now * point_count params k = ap length is_points ∙ length_batch params k c.args.version c.args.batch.now in
    let part = tree_growth params.dims (get_or old k empty_tree) (length points) in
    let f = batch_at params (length entries) (length c.args.batch.now) in
    let counted = (c.index_laws.ensures.counted mid params.dims (get_or old k empty_tree) (root_points params entries k) tree.0).0 ∙ length_root params entries k in
    let within : part ≤ f k = subst (λ (n : ℕ). tree_growth params.dims (get_or old k empty_tree) n ≤ f k) (sym many) (tree_most params (length entries) (length c.args.batch.now) k (get_or old k empty_tree) counted) in
    let adds = c.in_err-add_all.ensures.growth (search rules) (root_points params entries k) tree.0 new (tree.1 low) in
    let so_far = c.loop-place.invariant.growth tells entries may low in
    let most = sum_grows f k (root_count params) inside in
    let all = batch_by_trees params (length entries) (length c.args.batch.now) in
    refused g.S.Pages (batch_growth params (length entries) (length c.args.batch.now)) c.args.stage.now c.add_all.new.stage c.from_residual-in_err-add_all.result c.in_err-add_all.field-0.0 p
    (changes_then g.S.Pages (sum_below k f) part (batch_growth params (length entries) (length c.args.batch.now)) c.args.stage.now c.loop-place.stage c.add_all.new.stage (Err c.in_err-add_all.field-0.0) so_far adds
    (omega (arith, most, within, all)))

pub returns-in_err-add_all-clause-small_growth : goal.returns-in_err-add_all-clause-small_growth
returns-in_err-add_all-clause-small_growth g c = λ tells entries may low two room.
    let p = err_from_is_err_and c.from_residual-in_err-add_all.result c.from_residual-in_err-add_all.ensures.1 in
    let params = c.args.params.now in
    let batch = all_entered_at c.args.version c.args.batch.now in
    let old = c.args.old.now in
    let k = c.loop-place.place in
    let items = c.loop-place.roots.items in
    let before = g.S.Pages.map c.args.stage.now in
    let mid = g.S.Pages.map c.loop-place.stage in
    let lt : k < length old = omega (arith, c.loop-place-test.true, c.root_count-count.ensures.count, c.requires.roots) in
    let inside : k < root_count params = omega (arith, lt, c.requires.roots) in
    let points : List Point = c.as_slice.result.now in
    let is_points : points ≡ batch_points params k batch = ◌∙◌ {c = batch_points params k batch} c.as_slice.ensures.value c.in_ok-points.ensures.points in
    let now = subst (λ (l : List Tree). IsEntering g.X.DomIndex params before mid old l entries batch k) (list_next items old k empty_tree lt) (c.loop-place.invariant.enters tells entries may) in
    let tree = next_tree g.X.DomIndex c.index_laws.ensures.by_its_pages c.index_laws.ensures.balance c.index_laws.ensures.in_map c.index_laws.ensures.once params before mid old items (get_or old k empty_tree) (drop (k + 1) old) entries batch k c.loop-place.invariant.len now in
    let new = subst (λ (l : List Point). AreNewInTurn params.dims (root_points params entries k) l) (sym is_points)
    (batch_is_new params k batch entries c.requires.in_range.dims may.stands.fits (batch_fits params c.args.version c.args.batch.now c.requires.batch) may.next) in
    let many : length points ≡ length c.args.batch.now * point_count params k = ap length is_points ∙ length_batch params k c.args.version c.args.batch.now in
    let takes : TakesMore (length points) (get_or old k empty_tree) = subst (λ (n : ℕ). TakesMore n (get_or old k empty_tree)) (sym many) (room k inside) in
    let adds = c.in_err-add_all.ensures.small_growth (search rules) (root_points params entries k) tree.0 new (tree.1 low) two takes in
    let so_far = c.loop-place.invariant.small_growth tells entries may low two room in
    let f = first_page old in
    let part = 1 - (get_or old k empty_tree).levels in
    let is_part : part ≡ f k = refl in
    let most = sum_grows f k (root_count params) inside in
    refused g.S.Pages (sum_below (root_count params) f) c.args.stage.now c.add_all.new.stage c.from_residual-in_err-add_all.result c.in_err-add_all.field-0.0 p
    (changes_then g.S.Pages (sum_below k f) part (sum_below (root_count params) f) c.args.stage.now c.loop-place.stage c.add_all.new.stage (Err c.in_err-add_all.field-0.0) so_far adds
    (omega (arith, most, is_part)))

pub returns-in_err-points-clause-growth : goal.returns-in_err-points-clause-growth
returns-in_err-points-clause-growth g c = λ tells entries may low.
    let p = err_from_is_err_and c.from_residual.result c.from_residual.ensures.1 in
    let params = c.args.params.now in
    let batch = all_entered_at c.args.version c.args.batch.now in
    let old = c.args.old.now in
    let k = c.loop-place.place in
    let items = c.loop-place.roots.items in
    let before = g.S.Pages.map c.args.stage.now in
    let mid = g.S.Pages.map c.loop-place.stage in
    let lt : k < length old = omega (arith, c.loop-place-test.true, c.root_count-count.ensures.count, c.requires.roots) in
    let inside : k < root_count params = omega (arith, lt, c.requires.roots) in
    let f = batch_at params (length entries) (length c.args.batch.now) in
    let most = sum_grows f k (root_count params) inside in
    let all = batch_by_trees params (length entries) (length c.args.batch.now) in
    no_memory g.S.Pages (sum_below k f) (batch_growth params (length entries) (length c.args.batch.now)) c.args.stage.now c.loop-place.stage c.from_residual.result c.in_err-points.field-0.0 p c.in_err-points.ensures.memory
    (c.loop-place.invariant.growth tells entries may low) (omega (arith, most, all))

pub returns-in_err-points-clause-small_growth : goal.returns-in_err-points-clause-small_growth
returns-in_err-points-clause-small_growth g c = λ tells entries may low two room.
    let p = err_from_is_err_and c.from_residual.result c.from_residual.ensures.1 in
    let params = c.args.params.now in
    let batch = all_entered_at c.args.version c.args.batch.now in
    let old = c.args.old.now in
    let k = c.loop-place.place in
    let items = c.loop-place.roots.items in
    let before = g.S.Pages.map c.args.stage.now in
    let mid = g.S.Pages.map c.loop-place.stage in
    let lt : k < length old = omega (arith, c.loop-place-test.true, c.root_count-count.ensures.count, c.requires.roots) in
    let inside : k < root_count params = omega (arith, lt, c.requires.roots) in
    let f = first_page old in
    let most = sum_grows f k (root_count params) inside in
    no_memory g.S.Pages (sum_below k f) (sum_below (root_count params) f) c.args.stage.now c.loop-place.stage c.from_residual.result c.in_err-points.field-0.0 p c.in_err-points.ensures.memory
    (c.loop-place.invariant.small_growth tells entries may low two room) (omega (arith, most))

pub loop-place-preserved : goal.loop-place-preserved
loop-place-preserved g c =
    let params = c.args.params.now in
    let batch = all_entered_at c.args.version c.args.batch.now in
    let old = c.args.old.now in
    let k = c.loop-place.place in
    let items = c.loop-place.roots.items in
    let before = g.S.Pages.map c.args.stage.now in
    let mid = g.S.Pages.map c.loop-place.stage in
    let lt : k < length old = omega (arith, c.loop-place-test.true, c.root_count-count.ensures.count, c.requires.roots) in
    let inside : k < root_count params = omega (arith, lt, c.requires.roots) in
    let after = g.S.Pages.map c.add_all.new.stage in
    let points : List Point = c.as_slice.result.now in
    let is_points : points ≡ batch_points params k batch = ◌∙◌ {c = batch_points params k batch} c.as_slice.ensures.value c.in_ok-points.ensures.points in
    let many : length points ≡ length c.args.batch.now * point_count params k = ap length is_points ∙ length_batch params k c.args.version c.args.batch.now in
    record {
      len = search rules;
      went = search rules;
      enters = λ tells entries may.
          let now = subst (λ (l : List Tree). IsEntering g.X.DomIndex params before mid old l entries batch k) (list_next items old k empty_tree lt) (c.loop-place.invariant.enters tells entries may) in
          let tree = next_tree g.X.DomIndex c.index_laws.ensures.by_its_pages c.index_laws.ensures.balance c.index_laws.ensures.in_map c.index_laws.ensures.once params before mid old items (get_or old k empty_tree) (drop (k + 1) old) entries batch k c.loop-place.invariant.len now in
          let new = subst (λ (l : List Point). AreNewInTurn params.dims (root_points params entries k) l) (sym is_points)
          (batch_is_new params k batch entries c.requires.in_range.dims may.stands.fits (batch_fits params c.args.version c.args.batch.now c.requires.batch) may.next) in
          let taken = subst (λ (l : List Point). TreeTakes g.X.DomIndex params.dims mid after (get_or old k empty_tree) c.add_all.new.tree l (root_points params entries k)) is_points
          (c.in_ok-add_all.ensures.takes (search rules) (root_points params entries k) tree.0 new) in
          subst (λ (l : List Tree). IsEntering g.X.DomIndex params before after old l entries batch (k + 1)) (list_push items c.push.new.self.items (drop (k + 1) old) c.add_all.new.tree c.push.ensures.items)
          (goes_on g.X.DomIndex c.index_laws.ensures.by_its_pages c.index_laws.ensures.balance c.index_laws.ensures.in_map c.index_laws.ensures.once params before mid after old items (get_or old k empty_tree) c.add_all.new.tree (drop (k + 1) old) entries batch k c.loop-place.invariant.len now taken);
      reached = λ tells.
          let step : k + 1 ≡ suc k = omega arith in
          let left = subst (λ (l : List Point). AdditionsMayLeave g.X.DomIndex params.dims l mid (get_or old k empty_tree) after c.add_all.new.tree) is_points (c.in_ok-add_all.ensures.leaves (search rules)) in
          subst (λ (m : ℕ). TreesMayLeave g.X.DomIndex params batch old m before after) (sym step)
          (mid, c.add_all.new.tree, c.loop-place.invariant.reached tells, left);
      rules = λ all.
          subst (λ (l : List Tree). All (λ (t : Tree). IsTrue (tree_fits t)) l) (sym c.push.ensures.items)
          (All-push (λ (t : Tree). IsTrue (tree_fits t)) items c.add_all.new.tree (c.loop-place.invariant.rules all) (c.in_ok-add_all.ensures.rules (all k empty_tree lt)));
      growth = λ tells entries may low.
          let now = subst (λ (l : List Tree). IsEntering g.X.DomIndex params before mid old l entries batch k) (list_next items old k empty_tree lt) (c.loop-place.invariant.enters tells entries may) in
          let tree = next_tree g.X.DomIndex c.index_laws.ensures.by_its_pages c.index_laws.ensures.balance c.index_laws.ensures.in_map c.index_laws.ensures.once params before mid old items (get_or old k empty_tree) (drop (k + 1) old) entries batch k c.loop-place.invariant.len now in
          let new = subst (λ (l : List Point). AreNewInTurn params.dims (root_points params entries k) l) (sym is_points)
          (batch_is_new params k batch entries c.requires.in_range.dims may.stands.fits (batch_fits params c.args.version c.args.batch.now c.requires.batch) may.next) in
          let part = tree_growth params.dims (get_or old k empty_tree) (length points) in
          let f = batch_at params (length entries) (length c.args.batch.now) in
          let counted = (c.index_laws.ensures.counted mid params.dims (get_or old k empty_tree) (root_points params entries k) tree.0).0 ∙ length_root params entries k in
          let within : part ≤ f k = subst (λ (n : ℕ). tree_growth params.dims (get_or old k empty_tree) n ≤ f k) (sym many) (tree_most params (length entries) (length c.args.batch.now) k (get_or old k empty_tree) counted) in
          let adds = c.in_ok-add_all.ensures.growth (search rules) (root_points params entries k) tree.0 new (tree.1 low) in
          let so_far = c.loop-place.invariant.growth tells entries may low in
          let first = so_far.at_most in
          let second = adds.went_on.at_most in
          let whole = sum_next f k in
          went_then g.S.Pages (sum_below k f) part (sum_below (k + 1) f) c.args.stage.now c.loop-place.stage c.add_all.new.stage so_far adds.went_on (omega (arith, first, second, whole, within));
      small_growth = λ tells entries may low two room.
          let now = subst (λ (l : List Tree). IsEntering g.X.DomIndex params before mid old l entries batch k) (list_next items old k empty_tree lt) (c.loop-place.invariant.enters tells entries may) in
          let tree = next_tree g.X.DomIndex c.index_laws.ensures.by_its_pages c.index_laws.ensures.balance c.index_laws.ensures.in_map c.index_laws.ensures.once params before mid old items (get_or old k empty_tree) (drop (k + 1) old) entries batch k c.loop-place.invariant.len now in
          let new = subst (λ (l : List Point). AreNewInTurn params.dims (root_points params entries k) l) (sym is_points)
          (batch_is_new params k batch entries c.requires.in_range.dims may.stands.fits (batch_fits params c.args.version c.args.batch.now c.requires.batch) may.next) in
          let takes : TakesMore (length points) (get_or old k empty_tree) = subst (λ (n : ℕ). TakesMore n (get_or old k empty_tree)) (sym many) (room k inside) in
          let adds = c.in_ok-add_all.ensures.small_growth (search rules) (root_points params entries k) tree.0 new (tree.1 low) two takes in
          let so_far = c.loop-place.invariant.small_growth tells entries may low two room in
          let f = first_page old in
          let part = 1 - (get_or old k empty_tree).levels in
          let is_part : part ≡ f k = refl in
          let first = so_far.at_most in
          let second = adds.went_on.at_most in
          let whole = sum_next f k in
          went_then g.S.Pages (sum_below k f) part (sum_below (k + 1) f) c.args.stage.now c.loop-place.stage c.add_all.new.stage so_far adds.went_on (omega (arith, first, second, whole, is_part));
      one_page = λ tells entries may two room some.
          let now = subst (λ (l : List Tree). IsEntering g.X.DomIndex params before mid old l entries batch k) (list_next items old k empty_tree lt) (c.loop-place.invariant.enters tells entries may) in
          let tree = next_tree g.X.DomIndex c.index_laws.ensures.by_its_pages c.index_laws.ensures.balance c.index_laws.ensures.in_map c.index_laws.ensures.once params before mid old items (get_or old k empty_tree) (drop (k + 1) old) entries batch k c.loop-place.invariant.len now in
          let new = subst (λ (l : List Point). AreNewInTurn params.dims (root_points params entries k) l) (sym is_points)
          (batch_is_new params k batch entries c.requires.in_range.dims may.stands.fits (batch_fits params c.args.version c.args.batch.now c.requires.batch) may.next) in
          let takes : TakesMore (length points) (get_or old k empty_tree) = subst (λ (n : ℕ). TakesMore n (get_or old k empty_tree)) (sym many) (room k inside) in
          let one = c.in_ok-add_all.ensures.one_page (search rules) (root_points params entries k) tree.0 new two takes (some_points params k (length c.args.batch.now) (length points) many some) in
          subst (λ (l : List Tree). All (λ (t : Tree). t.levels ≡ 1) l) (sym c.push.ensures.items)
          (All-push (λ (t : Tree). t.levels ≡ 1) items c.add_all.new.tree (c.loop-place.invariant.one_page tells entries may two room some) one);
    }

pub returns-clause-enters : goal.returns-clause-enters
returns-clause-enters g c = λ tells entries may.
    let params = c.args.params.now in
    let batch = all_entered_at c.args.version c.args.batch.now in
    let old = c.args.old.now in
    let k = c.loop-place.place in
    let items = c.loop-place.roots.items in
    let before = g.S.Pages.map c.args.stage.now in
    let now = g.S.Pages.map c.loop-place.stage in
    let is_count : k ≡ root_count params = omega (arith, c.loop-place-test.false, c.loop-place.auto.place-end, c.root_count-count.ensures.count) in
    let le : length old ≤ k = omega (arith, is_count, c.requires.roots) in
    ends g.X.DomIndex c.index_laws.ensures.by_its_pages c.index_laws.ensures.balance c.index_laws.ensures.in_map c.index_laws.ensures.once params before now old items entries batch k c.loop-place.invariant.len is_count may.stands
    (batch_fits params c.args.version c.args.batch.now c.requires.batch) (batch_small c.args.version c.args.batch.now c.requires.small) may.next
    (subst (λ (l : List Tree). IsEntering g.X.DomIndex params before now old l entries batch k) (list_end items old k le) (c.loop-place.invariant.enters tells entries may))

pub returns-clause-growth : goal.returns-clause-growth
returns-clause-growth g c = λ tells entries may low.
    let params = c.args.params.now in
    let n = length c.args.batch.now in
    let k = c.loop-place.place in
    let is_count : k ≡ root_count params = omega (arith, c.loop-place-test.false, c.loop-place.auto.place-end, c.root_count-count.ensures.count) in
    let all : sum_below k (batch_at params (length entries) n) ≡ batch_growth params (length entries) n =
    ap (λ (m : ℕ). sum_below m (batch_at params (length entries) n)) is_count ∙ batch_by_trees params (length entries) n in
    changes_end g.S.Pages (batch_growth params (length entries) n) c.args.stage.now c.loop-place.stage _
    (subst (λ (m : ℕ). WentOn g.S.Pages m c.args.stage.now c.loop-place.stage) all (c.loop-place.invariant.growth tells entries may low))
