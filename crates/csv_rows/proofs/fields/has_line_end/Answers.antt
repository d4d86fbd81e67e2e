use Rattle.std.proofs.Common.{◌≡◌, ◌∙◌, eqb, false, rules, sym}
use Rattle.std.specs.List.{list_any}
use Rattle.csv_rows.proofs.LineEnds.{any-second}
use Rattle.csv_rows.proofs.fields.has_line_end.Goals as goal

pub returns : goal.returns
returns c =
    let none : list_any (λ b. eqb b 10) c.args.line.now ≡ false = search rules in
    let second : c.contains-2.result ≡ list_any (λ b. eqb b 13) c.args.line.now = search rules in
    second ∙ sym (any-second (λ b. eqb b 10) (λ b. eqb b 13) c.args.line.now none)
