use Rattle.std.proofs.Common.{sym, ◌∙◌}
use Rattle.std.proofs.lemmas.Bool.{eqb-true}
use Rattle.page_warehouse.proofs.EventNumbers.{events_count}
use Rattle.page_warehouse.proofs.gathering.are_as_told.Goals as goal

pub returns-then-events-rows : goal.returns-then-events-rows
returns-then-events-rows c = (
  λ yes. let made = c.make_history.ensures.0 yes in (made.0, made.1, made.2, sym (events_count made.0 c.args.events.now made.1) ∙ c.if-events-rows.true),
  λ made. c.make_history.ensures.1 (made.0, made.1, made.2),
)

pub returns-else-events-rows : goal.returns-else-events-rows
returns-else-events-rows c = (
  λ yes. absurd (c.if-events-rows.false (eqb-true _ c.args.rows yes)),
  λ made. absurd (c.if-events-rows.false (events_count made.0 c.args.events.now made.1 ∙ made.3)),
)
