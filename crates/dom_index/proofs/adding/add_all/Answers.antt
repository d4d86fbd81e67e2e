use Rattle.std.proofs.Common.{◌≡◌, ℕ, ◌+◌, ◌-◌, ◌<◌, ◌≤◌, inl, inr, Err, IsTrue, List, [], ◌∷◌, length, get_or, rules, refl, ap, sym, ◌∙◌, subst, arith}
use Rattle.std.proofs.lemmas.Result.{err_from_is_err_and}
use Rattle.bw_types.specs.declared.point.Point.{Point}
use Rattle.bw_types.specs.declared.tree.Tree.{Tree}
use Rattle.ports.specs.Calls.{Changes, WentOn}
use Rattle.ports.specs.declared.page.StageFault.TheVariants.{Damaged}
use Rattle.dom_index.specs.AddingDamage.{MayLeave}
use Rattle.dom_index.specs.Growth.{step_growth, sum_below, tree_growth}
use Rattle.dom_index.proofs.Additions.{damaged_here, damaged_next, leaves_all, leaves_next, new_next, none_point, small_growth, step_within, sum_grows, sum_next, taken_all, taken_first, taken_next}
use Rattle.dom_index.proofs.Exits.{exit_error}
use Rattle.dom_index.proofs.Stages.{changes_end, changes_then, refused, went_then, went_within}
use Rattle.dom_index.proofs.adding.add_all.Goals as goal

pub loop-point-init : goal.loop-point-init
loop-point-init g c = record {
  went = search rules;
  taken = λ tells kept stands new. taken_first g.X.DomIndex c.index_laws.ensures.counted c.args.dims (g.S.Pages.map c.args.stage.now) c.args.tree.now c.args.points.now kept stands new;
  leaves = λ tells after new rest. rest;
  damaged = λ tells page rest. rest;
  rules = λ fits. fits;
  typed = search rules;
  growth = search rules;
}

pub loop-point-preserved : goal.loop-point-preserved
loop-point-preserved g c =
    let index = g.X.DomIndex in
    let dims = c.args.dims in
    let points = c.args.points.now in
    let i = c.loop-point.point-index in
    let before = g.S.Pages.map c.args.stage.now in
    let mid = g.S.Pages.map c.loop-point.stage in
    let after = g.S.Pages.map c.add.new.stage in
    let tree = c.loop-point.grown in
    let next = c.add.new.tree in
    let lt : i < length points = c.loop-point-test.true in
    record {
      went = search rules;
      taken = λ tells kept stands new.
          let told : IsTrue (g.S.Pages.tells c.loop-point.stage) = search rules in
          taken_next index c.index_laws.ensures.counted dims i before mid after c.args.tree.now tree next points kept lt (c.loop-point.invariant.taken tells kept stands new)
          (λ held s n. record {
            stands = c.in_ok-add.ensures.stands told held s n;
            change = c.in_ok-add.ensures.change told held s n;
            balanced = λ b. c.in_ok-add.ensures.balanced told held s n b;
          })
          (λ held s n two room. c.in_ok-add.ensures.low told held s n two room);
      leaves = λ tells last new rest.
          let told : IsTrue (g.S.Pages.tells c.loop-point.stage) = search rules in
          let one : MayLeave index dims mid tree (get_or points i none_point) after next = record {
            apart = c.in_ok-add.ensures.apart told;
            becomes = c.in_ok-add.ensures.becomes told;
            takes = λ held s n. record {
              stands = c.in_ok-add.ensures.stands told held s n;
              change = c.in_ok-add.ensures.change told held s n;
              balanced = λ b. c.in_ok-add.ensures.balanced told held s n b;
            };
          } in
          c.loop-point.invariant.leaves tells last new (leaves_next index dims i mid after last tree next new points lt one rest);
      damaged = λ tells page rest.
          let told : IsTrue (g.S.Pages.tells c.loop-point.stage) = search rules in
          let one : MayLeave index dims mid tree (get_or points i none_point) after next = record {
            apart = c.in_ok-add.ensures.apart told;
            becomes = c.in_ok-add.ensures.becomes told;
            takes = λ held s n. record {
              stands = c.in_ok-add.ensures.stands told held s n;
              change = c.in_ok-add.ensures.change told held s n;
              balanced = λ b. c.in_ok-add.ensures.balanced told held s n b;
            };
          } in
          c.loop-point.invariant.damaged tells page (damaged_next index dims i mid after tree next page points lt one rest);
      typed = c.add.ensures.typed;
      rules = λ fits. c.in_ok-add.ensures.rules (c.loop-point.invariant.rules fits);
      growth = λ tells kept stands new low.
          let so_far = c.loop-point.invariant.taken tells kept stands new in
          let is_new = new_next index c.index_laws.ensures.counted dims i before mid c.args.tree.now tree points kept lt so_far in
          let part = index.growth dims tree.levels tree.count in
          let within = step_within index dims tree.levels tree.count i c.args.tree.now c.index_laws.ensures.first c.index_laws.ensures.room
          (c.index_laws.ensures.growth dims tree.levels tree.count c.requires.dims.0 c.requires.dims.1) c.requires.dims.1 so_far.count so_far.near in
          let adds = c.in_ok-add.ensures.growth (search rules) so_far.held so_far.stands is_new (so_far.balanced low) in
          let went = c.loop-point.invariant.growth tells kept stands new low in
          let f = step_growth dims c.args.tree.now in
          let first = went.at_most in
          let second = adds.went_on.at_most in
          let whole = sum_next f i in
          went_then g.S.Pages (sum_below i f) part (sum_below (i + 1) f) c.args.stage.now c.loop-point.stage c.add.new.stage went adds.went_on (omega (arith, first, second, within, whole));
    }

pub returns-in_err-add-clause-sound : goal.returns-in_err-add-clause-sound
returns-in_err-add-clause-sound g c = λ kept page tells stands new low order asked.
    let p = err_from_is_err_and c.from_residual.result c.from_residual.ensures.1 in
    let same = exit_error c.from_residual.result c.in_err-add.field-0.0 (Damaged page) p asked in
    let so_far = c.loop-point.invariant.taken tells kept stands new in
    let is_new = new_next g.X.DomIndex c.index_laws.ensures.counted c.args.dims c.loop-point.point-index (g.S.Pages.map c.args.stage.now) (g.S.Pages.map c.loop-point.stage) c.args.tree.now c.loop-point.grown c.args.points.now kept c.loop-point-test.true so_far in
    c.in_err-add.ensures.sound so_far.held page (search rules) so_far.stands is_new (so_far.balanced low) (c.loop-point.invariant.went.free_in_order tells order) (ap Err same)

pub returns-in_err-add-clause-damaged : goal.returns-in_err-add-clause-damaged
returns-in_err-add-clause-damaged g c = λ page asked tells.
    let p = err_from_is_err_and c.from_residual.result c.from_residual.ensures.1 in
    let same = exit_error c.from_residual.result c.in_err-add.field-0.0 (Damaged page) p asked in
    elim (c.in_err-add.ensures.damaged page (ap Err same) (search rules)) [
      | inl here ↦ inl (c.loop-point.invariant.damaged tells page
          (damaged_here g.X.DomIndex c.args.dims c.loop-point.point-index (g.S.Pages.map c.loop-point.stage) c.loop-point.grown page c.args.points.now c.loop-point-test.true here))
      | inr not_so ↦ inr (λ order. not_so (c.loop-point.invariant.went.free_in_order tells order))
    ]

pub returns-in_err-add-clause-growth : goal.returns-in_err-add-clause-growth
returns-in_err-add-clause-growth g c = λ tells kept stands new low.
    let p = err_from_is_err_and c.from_residual.result c.from_residual.ensures.1 in
    let index = g.X.DomIndex in
    let dims = c.args.dims in
    let points = c.args.points.now in
    let i = c.loop-point.point-index in
    let tree = c.loop-point.grown in
    let lt : i < length points = c.loop-point-test.true in
    let so_far = c.loop-point.invariant.taken tells kept stands new in
    let is_new = new_next index c.index_laws.ensures.counted dims i (g.S.Pages.map c.args.stage.now) (g.S.Pages.map c.loop-point.stage) c.args.tree.now tree points kept lt so_far in
    let part = index.growth dims tree.levels tree.count in
    let within = step_within index dims tree.levels tree.count i c.args.tree.now c.index_laws.ensures.first c.index_laws.ensures.room
    (c.index_laws.ensures.growth dims tree.levels tree.count c.requires.dims.0 c.requires.dims.1) c.requires.dims.1 so_far.count so_far.near in
    let adds = c.in_err-add.ensures.growth (search rules) so_far.held so_far.stands is_new (so_far.balanced low) in
    let went = c.loop-point.invariant.growth tells kept stands new low in
    let f = step_growth dims c.args.tree.now in
    let most = sum_grows f i (length points) lt in
    refused g.S.Pages (sum_below (length points) f) c.args.stage.now c.add.new.stage c.from_residual.result c.in_err-add.field-0.0 p
    (changes_then g.S.Pages (sum_below i f) part (sum_below (length points) f) c.args.stage.now c.loop-point.stage c.add.new.stage (Err c.in_err-add.field-0.0) went adds (omega (arith, within, most)))

pub returns-in_err-add-clause-small_growth : goal.returns-in_err-add-clause-small_growth
returns-in_err-add-clause-small_growth g c = λ tells kept stands new low two takes.
    let p = err_from_is_err_and c.from_residual.result c.from_residual.ensures.1 in
    let index = g.X.DomIndex in
    let dims = c.args.dims in
    let points = c.args.points.now in
    let i = c.loop-point.point-index in
    let tree = c.loop-point.grown in
    let lt : i < length points = c.loop-point-test.true in
    let so_far = c.loop-point.invariant.taken tells kept stands new in
    let is_new = new_next index c.index_laws.ensures.counted dims i (g.S.Pages.map c.args.stage.now) (g.S.Pages.map c.loop-point.stage) c.args.tree.now tree points kept lt so_far in
    let part = index.growth dims tree.levels tree.count in
    let within = step_within index dims tree.levels tree.count i c.args.tree.now c.index_laws.ensures.first c.index_laws.ensures.room
    (c.index_laws.ensures.growth dims tree.levels tree.count c.requires.dims.0 c.requires.dims.1) c.requires.dims.1 so_far.count so_far.near in
    let adds = c.in_err-add.ensures.growth (search rules) so_far.held so_far.stands is_new (so_far.balanced low) in
    let went = c.loop-point.invariant.growth tells kept stands new low in
    let f = step_growth dims c.args.tree.now in
    let most = sum_grows f i (length points) lt in
    let small = small_growth dims c.args.tree.now (length points) two takes in
    refused g.S.Pages (1 - c.args.tree.now.levels) c.args.stage.now c.add.new.stage c.from_residual.result c.in_err-add.field-0.0 p
    (changes_then g.S.Pages (sum_below i f) part (1 - c.args.tree.now.levels) c.args.stage.now c.loop-point.stage c.add.new.stage (Err c.in_err-add.field-0.0) went adds (omega (arith, within, most, small)))

pub returns-clause-takes : goal.returns-clause-takes
returns-clause-takes g c = λ tells kept stands new.
    let past : length c.args.points.now ≤ c.loop-point.point-index = omega (arith, c.loop-point-test.false) in
    taken_all g.X.DomIndex c.index_laws.ensures.counted c.args.dims c.loop-point.point-index (g.S.Pages.map c.args.stage.now) (g.S.Pages.map c.loop-point.stage) c.args.tree.now c.loop-point.grown c.args.points.now kept past
    (c.loop-point.invariant.taken tells kept stands new)

pub returns-clause-leaves : goal.returns-clause-leaves
returns-clause-leaves g c = λ tells.
    let past : length c.args.points.now ≤ c.loop-point.point-index = omega (arith, c.loop-point-test.false) in
    let now = g.S.Pages.map c.loop-point.stage in
    c.loop-point.invariant.leaves tells now c.loop-point.grown (leaves_all g.X.DomIndex c.args.dims c.loop-point.point-index now c.loop-point.grown c.args.points.now past)

pub returns-clause-one_page : goal.returns-clause-one_page
returns-clause-one_page g c = λ tells kept stands new two takes some.
    let past : length c.args.points.now ≤ c.loop-point.point-index = omega (arith, c.loop-point-test.false) in
    let end : c.loop-point.point-index ≡ length c.args.points.now = omega (arith, past, c.loop-point.auto.point-index-end) in
    let so_far = c.loop-point.invariant.taken tells kept stands new in
    let room = takes.1 in
    (so_far.near.one two takes.0 (omega (arith, end, room))).1 (omega (arith, end, some))

pub returns-clause-growth : goal.returns-clause-growth
returns-clause-growth g c = λ tells kept stands new low.
    let past : length c.args.points.now ≤ c.loop-point.point-index = omega (arith, c.loop-point-test.false) in
    let end : c.loop-point.point-index ≡ length c.args.points.now = omega (arith, past, c.loop-point.auto.point-index-end) in
    changes_end g.S.Pages (tree_growth c.args.dims c.args.tree.now (length c.args.points.now)) c.args.stage.now c.loop-point.stage _
    (subst (λ (n : ℕ). WentOn g.S.Pages (tree_growth c.args.dims c.args.tree.now n) c.args.stage.now c.loop-point.stage) end (c.loop-point.invariant.growth tells kept stands new low))

pub returns-clause-small_growth : goal.returns-clause-small_growth
returns-clause-small_growth g c = λ tells kept stands new low two takes.
    let past : length c.args.points.now ≤ c.loop-point.point-index = omega (arith, c.loop-point-test.false) in
    let end : c.loop-point.point-index ≡ length c.args.points.now = omega (arith, past, c.loop-point.auto.point-index-end) in
    let all = subst (λ (n : ℕ). WentOn g.S.Pages (tree_growth c.args.dims c.args.tree.now n) c.args.stage.now c.loop-point.stage) end (c.loop-point.invariant.growth tells kept stands new low) in
    changes_end g.S.Pages (1 - c.args.tree.now.levels) c.args.stage.now c.loop-point.stage _
    (went_within g.S.Pages (tree_growth c.args.dims c.args.tree.now (length c.args.points.now)) (1 - c.args.tree.now.levels) c.args.stage.now c.loop-point.stage (small_growth c.args.dims c.args.tree.now (length c.args.points.now) two takes) all)
