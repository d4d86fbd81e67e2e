use Rattle.std.proofs.Common.{List, ℕ, ◌+◌, ◌%◌, [], ◌∷◌, ◌++◌, ◌∙◌, ap, codes}
use Rattle.std.specs.Fmt.{decimal}
use Rattle.sample_rows.specs.Generator.{fields}
use Rattle.sample_rows.proofs.Steps.{query_same, three_pieces}
use Rattle.sample_rows.proofs.rows.put_query.Goals as goal

pub returns-clause-row : goal.returns-clause-row
returns-clause-row c =
    let old = c.args.text.now.items in
    let version = c.draw.result % (c.args.last + 1) in
    let numbers = version ∷ c.interval-low1.result.0 ∷ c.interval-low1.result.1 ∷ c.interval-low2.result.0 ∷ [] in
    three_pieces old (codes "sum,") (fields numbers) (decimal c.interval-low2.result.1 ++ codes "\n") c.put.new.text.items c.put_fields.new.text.items c.put-2.new.text.items
    c.in_ok-put.ensures c.in_ok-put_fields.ensures
    (c.in_ok-put-2.ensures ∙ ap (λ (u : List ℕ). c.put_fields.new.text.items ++ u) (c.as_bytes.ensures.value ∙ c.in_ok-end.ensures.ok))
    ∙ ap (λ (u : List ℕ). old ++ u)
    (query_same c.args.draws.now.x c.draw.new.self.x c.interval-low1.new.self.x c.args.last version c.interval-low1.result.0 c.interval-low1.result.1 c.interval-low2.result.0 c.interval-low2.result.1
    (ap (λ (n : ℕ). n % (c.args.last + 1)) c.draw.ensures.value) c.draw.ensures.step c.interval-low1.ensures.low c.interval-low1.ensures.high c.interval-low1.ensures.steps c.interval-low2.ensures.low c.interval-low2.ensures.high)
