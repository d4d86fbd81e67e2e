use Rattle.std.proofs.Common.{◌*◌, ◌/◌, ◌++◌, ◌∙◌, ap, ap₂}
use Rattle.sample_rows.specs.Generator.{adds, after_steps, commit_where, commits, has_withdrawals, queries, withdrawals}
use Rattle.sample_rows.proofs.Steps.{rows_join}
use Rattle.sample_rows.proofs.rows.sample_text.Goals as goal

pub returns : goal.returns
returns c =
    rows_join c.put_adds.new.text.items c.put_withdrawals.new.text.items c.put_queries.new.text.items
    (adds c.args.start c.args.count c.args.count) (withdrawals (c.args.count / 10)) (commit_where (has_withdrawals c.args.count)) (queries (commits c.args.count) (after_steps c.args.start (5 * c.args.count)) 100)
    (c.in_ok-put_adds.ensures.rows ∙ ap (λ u. u ++ adds c.args.start c.args.count c.args.count) c.new-text.ensures.items)
    c.in_ok-put_withdrawals.ensures
    (c.in_ok-put_queries.ensures ∙ ap (λ u. c.put_withdrawals.new.text.items ++ u) (ap₂ (λ last x. queries last x 100) c.commits.ensures c.in_ok-put_adds.ensures.steps))
