use Rattle.std.proofs.Common.{ℕ, ◌*◌, Err, List, get_or, length, refl, rules, arith, ap, take}
use Rattle.std.proofs.lemmas.Result.{err_from_is_err_and}
use Rattle.bw_types.specs.declared.point.Point.{Point}
use Rattle.ports.specs.Pages.{PageMap}
use Rattle.ports.specs.declared.page.StageFault.TheVariants.{Damaged}
use Rattle.mvsb_tree.proofs.Building.{built_more, few_taken, no_point, none_later}
use Rattle.mvsb_tree.proofs.Exits.{exit_error}
use Rattle.mvsb_tree.proofs.Going.{grown_further, told}
use Rattle.mvsb_tree.proofs.build.mv_build.Goals as goal

pub loop-index-preserved : goal.loop-index-preserved
loop-index-preserved g c =
    let m0 : PageMap = g.S.Pages.map c.args.stage.now in
    let m1 : PageMap = g.S.Pages.map c.loop-index.stage in
    let m2 : PageMap = g.S.Pages.map c.mv_add.new.stage in
    let points : List Point = c.args.points.now in
    let i : ℕ = c.loop-index.index in
    let few = few_taken points i c.requires.few c.loop-index-test.true in
    let early = none_later points i no_point c.loop-index-test.true c.requires.in_order in
    record {
      went_on = search rules;
      keeps = search rules;
      count = search rules;
      rules = search rules;
      typed = search rules;
      built = λ tells.
          let so = c.loop-index.invariant.built tells in
          let there = told (g.S.Pages.tells c.loop-index.stage) (g.S.Pages.tells c.args.stage.now) c.loop-index.invariant.went_on.tells tells in
          built_more c.mv_laws.ensures.any_order m0 m1 m2 c.loop-index.tree c.mv_add.new.tree points i c.loop-index-test.true so
          (c.in_ok-mv_add.ensures.stands there (take i points) (get_or points i no_point) so.stands few early refl refl refl)
          (c.in_ok-mv_add.ensures.balanced there (take i points) so.stands few early so.balanced)
          (c.in_ok-mv_add.ensures.change there (take i points) so.stands early);
      few = λ tells.
          let so = c.loop-index.invariant.built tells in
          let there = told (g.S.Pages.tells c.loop-index.stage) (g.S.Pages.tells c.args.stage.now) c.loop-index.invariant.went_on.tells tells in
          let grows = c.in_ok-mv_add.ensures.few (take i points) there so.stands few early so.balanced in
          omega (arith, c.loop-index.invariant.few tells, grows.went_on.at_most);
    }

pub returns-in_err-mv_add-clause-damaged : goal.returns-in_err-mv_add-clause-damaged
returns-in_err-mv_add-clause-damaged g c = λ page e tells ordered.
    let points : List Point = c.args.points.now in
    let i : ℕ = c.loop-index.index in
    let few = few_taken points i c.requires.few c.loop-index-test.true in
    let early = none_later points i no_point c.loop-index-test.true c.requires.in_order in
    let same = exit_error c.from_residual-in_err-mv_add.result c.in_err-mv_add.field-0.0 (Damaged page) (err_from_is_err_and c.from_residual-in_err-mv_add.result c.from_residual-in_err-mv_add.ensures.1) e in
    let so = c.loop-index.invariant.built tells in
    let there = told (g.S.Pages.tells c.loop-index.stage) (g.S.Pages.tells c.args.stage.now) c.loop-index.invariant.went_on.tells tells in
    c.in_err-mv_add.ensures.sound (take i points) page there so.stands few early so.balanced (c.loop-index.invariant.went_on.free_in_order tells ordered) (ap Err same)

pub returns-in_err-mv_add-clause-few : goal.returns-in_err-mv_add-clause-few
returns-in_err-mv_add-clause-few g c = λ tells.
    let points : List Point = c.args.points.now in
    let i : ℕ = c.loop-index.index in
    let few = few_taken points i c.requires.few c.loop-index-test.true in
    let early = none_later points i no_point c.loop-index-test.true c.requires.in_order in
    let told_error = err_from_is_err_and c.from_residual-in_err-mv_add.result c.from_residual-in_err-mv_add.ensures.1 in
    let so = c.loop-index.invariant.built tells in
    let there = told (g.S.Pages.tells c.loop-index.stage) (g.S.Pages.tells c.args.stage.now) c.loop-index.invariant.went_on.tells tells in
    grown_further g.S.Pages _ 24 (length points * 24) c.args.stage.now c.loop-index.stage c.mv_add.new.stage (Err c.in_err-mv_add.field-0.0) c.from_residual-in_err-mv_add.result
    c.loop-index.invariant.went_on c.loop-index.invariant.keeps (c.in_err-mv_add.ensures.few (take i points) there so.stands few early so.balanced)
    (omega (arith, c.loop-index.invariant.few tells, c.loop-index-test.true)) (λ f e. ap Err (exit_error c.from_residual-in_err-mv_add.result c.in_err-mv_add.field-0.0 f told_error e))
