use Rattle.std.proofs.Common.{◌≡◌, ◌*◌, ◌++◌}
use Rattle.sample_rows.specs.Generator.{after_steps, queries}
use Rattle.sample_rows.proofs.rows.put_queries.Given as goal

-- the queries so far are put, and their draws made
abbrev pub invariant-loop-number : goal.invariant-loop-number
invariant-loop-number l =
    (l.text.items ≡ l.initial.text.items ++ queries l.last l.initial.draws.x l.number)
    × (l.draws.x ≡ after_steps l.initial.draws.x (5 * l.number))
