-- One row after the other, and then the commit.
use Rattle.std.proofs.Common.{List, codes, drop, map, ap, sym}
use Rattle.std.proofs.lemmas.List.{take_rest}
use Rattle.page_warehouse.specs.Events.{change_in}
use Rattle.page_warehouse.specs.declared.event.Event.{Event}
use Rattle.history_text.specs.Rows.{batch_text, row_text}
use Rattle.history_text.proofs.FieldSteps.{none_left, texts_first}
use Rattle.history_text.proofs.Gathered.{amid_gives, amid_same, amid_step, amid_stopped, failed_gives}
use Rattle.history_text.proofs.writing.put_batch.Goals as goal

pub returns-in_err-put_row : goal.returns-in_err-put_row
returns-in_err-put_row g c =
    failed_gives c.from_residual.result c.from_residual.ensures.0
    (amid_stopped (batch_text c.args.params.now (map change_in (drop c.first_row-row.result.1 c.loop-later.later.now))) c.loop-later.invariant c.in_err-put_row.ensures
    (texts_first (row_text c.args.params.now) c.first_row-row.result.0 _ _ (codes "commit,1\n") c.first_row-row.ensures.row))

pub loop-later-preserved : goal.loop-later-preserved
loop-later-preserved g c =
    amid_same (ap (λ (es : List Event). batch_text c.args.params.now (map change_in es)) (sym (take_rest c.loop-later.later.now c.first_row-row.result.1)))
    (amid_step (batch_text c.args.params.now (map change_in (drop c.first_row-row.result.1 c.loop-later.later.now))) c.loop-later.invariant c.in_ok-put_row.ensures
    (texts_first (row_text c.args.params.now) c.first_row-row.result.0 _ _ (codes "commit,1\n") c.first_row-row.ensures.row))

pub returns : goal.returns
returns g c =
    amid_gives c.put_piece.result _ (codes "commit,1\n") c.loop-later.invariant
    (ap (λ (es : List Event). batch_text c.args.params.now (map change_in es)) (none_left c.loop-later.later.now (c.loop-later-test.ensures))) c.put_piece.ensures
