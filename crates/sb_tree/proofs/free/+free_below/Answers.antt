use Rattle.sb_tree.proofs.Common.{◌-◌, Err, rules, arith, ap, take_all, err_from_is_err_and, PageMap}
use Rattle.ports.specs.declared.page.StageFault.TheVariants.{Damaged}
use Rattle.sb_tree.proofs.Exits.{exit_error, read_damaged}
use Rattle.sb_tree.proofs.Freeing.{pages-spelled, free_step, there_step, damaged_child, damaged_itself}
use Rattle.sb_tree.proofs.free.+free_below.Goals as goal

pub returns-in_err-node-clause-damaged : goal.returns-in_err-node-clause-damaged
returns-in_err-node-clause-damaged g t c = search (rules, err_from_is_err_and, read_damaged, damaged_itself)

pub returns-in_err-free_below-clause-damaged : goal.returns-in_err-free_below-clause-damaged
returns-in_err-free_below-clause-damaged g t c = λ damaged e tells.
    let p = err_from_is_err_and c.from_residual-in_err-free_below.result c.from_residual-in_err-free_below.ensures.1 in
    let same = exit_error c.from_residual-in_err-free_below.result c.in_err-free_below.field-0.0 (Damaged damaged) p e in
    damaged_child c.args.level (g.S.Pages.map c.args.stage.now) (g.S.Pages.map c.loop-entry.stage) c.args.page damaged c.in_ok-node.node c.as_slice-entry-items.result.now c.loop-entry.entry-index _
    (omega (arith, c.if-level-eq0.false))
    (c.in_ok-node.ensures.found tells) c.in_ok-node.ensures.fits c.as_slice-entry-items.ensures.value c.loop-entry-test.true
    (c.loop-entry.invariant.freed tells) (c.in_err-free_below.ensures.damaged damaged (ap Err same) (search rules))

pub loop-entry-preserved : goal.loop-entry-preserved
loop-entry-preserved g t c =
    let m : PageMap = g.S.Pages.map c.args.stage.now in
    let entries = c.as_slice-entry-items.result.now in
    record {
      there = λ tells. there_step (c.args.level - 1) c.args.page m (g.S.Pages.map c.loop-entry.stage) entries c.loop-entry.entry-index _
          c.loop-entry-test.true (c.loop-entry.invariant.freed tells) (c.loop-entry.invariant.there tells) (c.in_ok-free_below.ensures.there (search rules));
      freed = search (rules, free_step);
      went_on = search rules;
    }

pub returns-clause-there : goal.returns-clause-there
returns-clause-there g t c = search (rules, pages-spelled, take_all)

pub returns-clause-freed : goal.returns-clause-freed
returns-clause-freed g t c = search (rules, pages-spelled, take_all)
