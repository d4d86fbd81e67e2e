use Rattle.std.proofs.Common.{◌≡◌, to_z, of_z, rules, ◌∙◌}
use Rattle.std.specs.Int.{w128}
use Rattle.corner_forest.specs.Answers.{count_of, sum_of}
use Rattle.corner_forest.proofs.Totals.{short_count}
use Rattle.corner_forest.proofs.meet.count.Goals as goal

pub returns-clause-count : goal.returns-clause-count
returns-clause-count g c = λ tells entries stands.
    let params = c.args.forest.now.params in
    let back : to_z w128 (of_z w128 c.count_in.result) ≡ c.count_in.result = search rules in
    let same : to_z w128 (of_z w128 c.in_ok-total.total) ≡ c.in_ok-total.total = search rules in
    let short = short_count params c.args.query.now c.args.version entries c.requires.in_range stands.few in
    back ∙ c.count_in.ensures.count (sum_of params entries c.args.version c.args.query.now) (count_of params entries c.args.version c.args.query.now) short.0 short.1 (same ∙ c.in_ok-total.ensures.total tells entries stands)
