use Rattle.std.proofs.Common.{sym, ◌∙◌}
use Rattle.cut_parts.proofs.Held.{leaf_held, no_leaf_held, only_leaf_held}
use Rattle.cut_parts.proofs.reading.view_leaf.Goals as goal
use Rattle.cut_parts.proofs.reading.view_leaf.Goals.{then-next-ne0-via-then-next-ne0, then-next-ne0-via-else-next-ne0+then-len-from}

pub returns-then-next-ne0-clause-damaged : goal.returns-then-next-ne0-clause-damaged
returns-then-next-ne0-clause-damaged g c = λ p is_fault. (
  cc,
  λ tells points held counted.
      let same = only_leaf_held (g.P.Pages.map c.args.pages.now) c.args.page c.in-Ok.view points (c.in-Ok.ensures.only tells) held in
      elim c.then-next-ne0.branch [
        | then-next-ne0-via-then-next-ne0 w ↦ w.if-next-ne0.true (c.next.ensures ∙ same.0)
        | then-next-ne0-via-else-next-ne0+then-len-from w ↦ w.if-len-from.true (w.len.ensures ∙ same.1 ∙ counted ∙ sym w.from.ensures)
      ],
)

pub returns-in-Err-clause-damaged : goal.returns-in-Err-clause-damaged
returns-in-Err-clause-damaged g c = λ p is_fault.
    let told = c.in-Err.ensures.damaged p is_fault in
    (told.0, λ tells points held counted. no_leaf_held (g.P.Pages.map c.args.pages.now) c.args.page points (told.1 tells) held)

pub returns-else-len-from-clause-found : goal.returns-else-len-from-clause-found
returns-else-len-from-clause-found g c = λ tells.
    leaf_held (g.P.Pages.map c.args.pages.now) c.args.page c.in-Ok.view (c.in-Ok.ensures.found tells) c.in-Ok.ensures.spells (sym c.next.ensures ∙ c.if-next-ne0.false)
