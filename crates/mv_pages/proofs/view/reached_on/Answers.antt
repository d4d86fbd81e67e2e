use Rattle.std.proofs.Common.{◌∙◌, subst}
use Rattle.mv_pages.specs.Edits.{IsPathIndex}
use Rattle.mv_pages.proofs.Begun.{index_fits}
use Rattle.mv_pages.proofs.LedTo.{reached_by, reached_nowhere}
use Rattle.mv_pages.proofs.view.reached_on.Goals as goal

pub entry-e-requires : goal.entry-e-requires
entry-e-requires c =
    index_fits c.args.key c.args.version c.in-Some.index c.args.view.now.entries.items
    (subst (IsPathIndex c.args.view.now.entries.items c.args.key c.args.version) c.in-Some.is (c.last_on.ensures c.args.key c.requires.count))

pub returns-in-Some : goal.returns-in-Some
returns-in-Some c =
    reached_by c.args.view.now c.args.key c.args.version (λ leaf. c.if-level-eq1.false (c.level.ensures ∙ leaf)) c.in-Some.index c.entry-e.result c.entry-e.result c.next_on.result
    (subst (IsPathIndex c.args.view.now.entries.items c.args.key c.args.version) c.in-Some.is (c.last_on.ensures c.args.key c.requires.count)) (c.entry-e.ensures c.entry-e.result) (c.next_on.ensures c.args.key c.requires.count)

pub returns-in-None : goal.returns-in-None
returns-in-None c =
    reached_nowhere c.args.view.now c.args.key c.args.version (λ leaf. c.if-level-eq1.false (c.level.ensures ∙ leaf))
    (subst (IsPathIndex c.args.view.now.entries.items c.args.key c.args.version) c.in-None.is (c.last_on.ensures c.args.key c.requires.count))
