use Rattle.std.proofs.Common.{◌≡◌, ◌∙◌, drop, Some, true, is_some, rules, sym, ap}
use Rattle.csv_rows.specs.Fields.{line_fields}
use Rattle.csv_rows.proofs.Contents.{some-of}
use Rattle.csv_rows.proofs.fields.cut.Goals as goal

pub returns : goal.returns
returns c =
    let found : is_some (line_fields c.args.line.now) ≡ true = search rules in
    let (contents, fields) = some-of (line_fields c.args.line.now) found in
    ap (λ row. Some (drop 1 row)) (c.in_ok-record.ensures contents fields) ∙ sym fields
