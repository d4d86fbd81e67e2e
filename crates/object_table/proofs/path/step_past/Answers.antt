use Rattle.std.proofs.Common.{◌≡◌, ◌+◌, ℕ, drop, get_or, subst, ap, ◌∙◌}
use Rattle.object_table.specs.Keys.{low_key}
use Rattle.object_table.specs.Nodes.{entries_in}
use Rattle.object_table.specs.Steps.{IsStepTo}
use Rattle.object_table.proofs.path.step_past.Goals as goal

pub returns-clause-step : goal.returns-clause-step
returns-clause-step c = λ d.
    let from : c.low_key.result ≡ low_key (get_or (entries_in c.args.node.now) c.args.index d) = c.low_key.ensures ∙ ap low_key (c.entry.ensures d) in
    subst (λ (n : ℕ). IsStepTo c.step_to.result (get_or (entries_in c.args.node.now) c.args.index d) (drop (c.args.index + 1) (entries_in c.args.node.now)) c.args.place.high n) from (c.step_to.ensures d)
