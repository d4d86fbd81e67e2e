use Rattle.std.proofs.Common.{◌∙◌, sym, arith}
use Rattle.std.proofs.lemmas.Option.{slice_get_past}
use Rattle.csv.specs.Records.{fields_of}
use Rattle.csv_rows.proofs.Contents.{past-first}
use Rattle.csv_rows.proofs.fields.Fields.get.Goals as goal

pub returns-then-place-len : goal.returns-then-place-len
returns-then-place-len c = rw (← c.self.view_is) (c.get.ensures.value ∙ past-first (fields_of c.self.inside.record) c.args.place)

pub returns-else-place-len : goal.returns-else-place-len
returns-else-place-len c = sym (slice_get_past c.args.self.now c.args.place (omega (arith, c.len.ensures)))
