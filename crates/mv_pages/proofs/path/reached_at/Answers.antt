use Rattle.std.proofs.Common.{List, get_or, Some, None, ap, ◌∙◌, subst}
use Rattle.page_layout.specs.declared.mv_node.MvEntry.{MvEntry}
use Rattle.mv_pages.specs.Alive.{next_entry}
use Rattle.mv_pages.specs.Edits.{IsPathIndex}
use Rattle.mv_pages.specs.Lows.{low_of}
use Rattle.mv_pages.proofs.LedTo.{reached_by, reached_nowhere}
use Rattle.mv_pages.proofs.path.reached_at.Goals as goal

none : MvEntry
none = record { low = 0; start = 0; end = 0; value = 0; child = 0 }

pub returns-in-Some : goal.returns-in-Some
unfolding none
returns-in-Some c =
    let is = c.as_slice-entries.ensures.value in
    reached_by c.args.node.now c.args.key c.args.version c.if-node-eq1.false c.in-Some.index (get_or c.as_slice-entries.result.now c.in-Some.index none) none c.next_low.result
    (subst (λ (es : List MvEntry). IsPathIndex es c.args.key c.args.version (Some c.in-Some.index)) is c.in-Some.ensures)
    (ap (λ (es : List MvEntry). get_or es c.in-Some.index none) is) (c.next_low.ensures ∙ ap (λ (es : List MvEntry). low_of (next_entry es c.args.key c.args.version)) is)

pub returns-in-None : goal.returns-in-None
returns-in-None c =
    reached_nowhere c.args.node.now c.args.key c.args.version c.if-node-eq1.false
    (subst (λ (es : List MvEntry). IsPathIndex es c.args.key c.args.version None) c.as_slice-entries.ensures.value c.in-None.ensures)
