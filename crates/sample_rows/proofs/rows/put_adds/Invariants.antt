use Rattle.std.proofs.Common.{◌≡◌, ◌*◌, ◌++◌}
use Rattle.sample_rows.specs.Generator.{adds, after_steps}
use Rattle.sample_rows.proofs.rows.put_adds.Given as goal

-- the rows of the objects so far are put, and their draws made
abbrev pub invariant-loop-number : goal.invariant-loop-number
invariant-loop-number l =
    (l.text.items ≡ l.initial.text.items ++ adds l.initial.draws.x l.count l.number)
    × (l.draws.x ≡ after_steps l.initial.draws.x (5 * l.number))
