use Rattle.std.proofs.Common.{◌≡◌, ◌++◌, drop}
use Rattle.sample_rows.specs.Generator.{fields}
use Rattle.sample_rows.proofs.rows.put_fields.Given as goal

-- what is put goes on with the fields that are left
abbrev pub invariant-loop-number : goal.invariant-loop-number
invariant-loop-number l = l.initial.text.items ++ fields l.numbers ≡ l.text.items ++ fields (drop l.number-index l.numbers)
