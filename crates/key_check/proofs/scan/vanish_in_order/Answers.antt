use Rattle.std.proofs.Common.{◌+◌, rules, arith, get_or, sym, subst}
use Rattle.key_check.specs.declared.corner.Corner.{Corner}
use Rattle.key_check.proofs.Scanning.{Scanned, begin, here, step_same, step_on, is_seen, at_end_zero, at_end_some}
use Rattle.key_check.proofs.scan.vanish_in_order.Goals as goal
use Rattle.key_check.proofs.scan.vanish_in_order.Goals.{then-rank_of, else-rank_of+else-last-ne0}

pub loop-corner-init : goal.loop-corner-init
loop-corner-init c = begin _ _ c.default-last.ensures.0 c.default-last.ensures.1.0 c.default-last.ensures.1.1

pub loop-corner-preserved : goal.loop-corner-preserved
loop-corner-preserved c = elim c.if-rank_of.branch [
  | then-rank_of w ↦ subst (λ (l : Corner). Scanned c.args.corners.now (c.loop-corner.corner-index + 1) l) (sym w.last-is)
      (step_same _ c.loop-corner.corner-index c.loop-corner.last (get_or c.args.corners.now c.loop-corner.corner-index (record { version = 0; key = 0; weight = 0 })) c.loop-corner.invariant c.loop-corner-test.true
      (here c.args.corners.now c.loop-corner.corner-index (record { version = 0; key = 0; weight = 0 }) c.loop-corner-test.true) (omega arith) c.rank_of.ensures.typed.1)
  | else-rank_of+else-last-ne0 w ↦ subst (λ (l : Corner). Scanned c.args.corners.now (c.loop-corner.corner-index + 1) l) (sym w.last-is)
      (step_on _ c.loop-corner.corner-index c.loop-corner.last (get_or c.args.corners.now c.loop-corner.corner-index (record { version = 0; key = 0; weight = 0 })) c.requires c.loop-corner.invariant c.loop-corner-test.true
      (here c.args.corners.now c.loop-corner.corner-index (record { version = 0; key = 0; weight = 0 }) c.loop-corner-test.true) (omega arith) c.rank_of.ensures.typed.0 c.rank_of.ensures.typed.1 c.rank_of.ensures.typed.2)
]

pub returns : goal.returns
returns c = (
  λ yes. at_end_zero _ _ _ c.loop-corner.invariant c.loop-corner-test.false (search rules),
  λ all. let e = at_end_some _ _ _ c.loop-corner.invariant c.loop-corner-test.false all in search rules,
)

pub returns-then-last-ne0 : goal.returns-then-last-ne0
returns-then-last-ne0 c = (
  λ never. search rules,
  λ all. absurd (is_seen _ c.loop-corner.corner-index c.loop-corner.last (get_or c.args.corners.now c.loop-corner.corner-index (record { version = 0; key = 0; weight = 0 })) c.requires c.loop-corner.invariant c.loop-corner-test.true
      (here c.args.corners.now c.loop-corner.corner-index (record { version = 0; key = 0; weight = 0 }) c.loop-corner-test.true) (omega arith) (search rules) all),
)
