use Rattle.std.proofs.Common.{rules, ◌≡◌, List, ℕ, [], ◌∷◌, ◌++◌, ◌∙◌, ap, codes}
use Rattle.std.specs.Fmt.{signed_decimal}
use Rattle.sample_rows.specs.Generator.{fields}
use Rattle.sample_rows.proofs.Steps.{object_same, three_pieces}
use Rattle.sample_rows.proofs.rows.put_object.Goals as goal

pub returns-clause-row : goal.returns-clause-row
returns-clause-row c =
    let old = c.args.text.now.items in
    let numbers = c.args.id ∷ c.interval-low1.result.0 ∷ c.interval-low1.result.1 ∷ c.interval-low2.result.0 ∷ c.interval-low2.result.1 ∷ [] in
    let last : c.put_weight.new.text.items ≡ c.put_fields.new.text.items ++ (signed_decimal c.weight-weight.result ++ codes "\n") = search rules in
    three_pieces old (codes "add,1,") (fields numbers) (signed_decimal c.weight-weight.result ++ codes "\n") c.put.new.text.items c.put_fields.new.text.items c.put_weight.new.text.items
    c.in_ok-put.ensures c.in_ok-put_fields.ensures last
    ∙ ap (λ (u : List ℕ). old ++ u)
    (object_same c.args.draws.now.x c.interval-low1.new.self.x c.interval-low2.new.self.x c.args.id c.interval-low1.result.0 c.interval-low1.result.1 c.interval-low2.result.0 c.interval-low2.result.1 c.weight-weight.result
    c.interval-low1.ensures.low c.interval-low1.ensures.high c.interval-low1.ensures.steps c.interval-low2.ensures.low c.interval-low2.ensures.high c.interval-low2.ensures.steps c.weight-weight.ensures.value)
