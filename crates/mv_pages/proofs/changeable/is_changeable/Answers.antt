use Rattle.std.proofs.Common.{sym, ◌∙◌, arith}
use Rattle.std.proofs.lemmas.Bool.{true≢false}
use Rattle.mv_pages.proofs.LowOrder.{changeable_by, not_past}
use Rattle.mv_pages.proofs.changeable.is_changeable.Goals as goal

pub returns-then-version-ge-OPEN : goal.returns-then-version-ge-OPEN
returns-then-version-ge-OPEN c = ((λ h. absurd (true≢false (sym h))), (λ can. absurd (omega (arith, can.last, c.if-version-ge-OPEN.true))))

pub returns-then-not-are_past : goal.returns-then-not-are_past
returns-then-not-are_past c = (
  (λ h. absurd (true≢false (sym h))),
  (λ can. absurd (not_past c.args.version c.args.node.now.entries.items c.as_slice-entries.result.now c.as_slice-entries.ensures.value (sym c.are_past.ensures ∙ c.if-not-are_past.true) can)),
)

pub returns : goal.returns
returns c = changeable_by c.args.node.now.level c.args.version c.args.node.now.entries.items c.as_slice-entries.result.now c.do_ascend.result
    c.as_slice-entries.ensures.value c.requires c.if-version-ge-OPEN.false (sym c.are_past.ensures ∙ c.if-not-are_past.false) c.do_ascend.ensures
