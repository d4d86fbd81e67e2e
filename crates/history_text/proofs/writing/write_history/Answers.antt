-- The batches are those of the history whose events these are.
use Rattle.std.proofs.Common.{◌∙◌}
use Rattle.std.proofs.lemmas.List.{append-nil}
use Rattle.history_text.proofs.BatchCuts.{rows_are}
use Rattle.history_text.proofs.Gathered.{on_err, part_of_all, stopped_then, wrote_all}
use Rattle.history_text.proofs.ChangeSizes.{changes_have_sizes}
use Rattle.history_text.proofs.writing.write_history.Goals as goal

pub returns-in_err-put_batches-clause-part : goal.returns-in_err-put_batches-clause-part
returns-in_err-put_batches-clause-part g c = on_err c.from_residual.result (λ h are last told tells.
    part_of_all c.new-room.ensures (rows_are c.args.params.now h c.args.last c.args.events.now are last) c.in_err-put_batches.ensures told tells)

pub returns-in_err-put_gathered-clause-part : goal.returns-in_err-put_gathered-clause-part
returns-in_err-put_gathered-clause-part g c = on_err c.from_residual-in_err-put_gathered.result (λ h are last told tells.
    part_of_all c.new-room.ensures (append-nil _ ∙ rows_are c.args.params.now h c.args.last c.args.events.now are last)
    (stopped_then c.in_ok-put_batches.ensures c.in_err-put_gathered.ensures.gives) told tells)

pub returns-clause-wrote : goal.returns-clause-wrote
returns-clause-wrote g c = λ h are last told.
    wrote_all c.new-room.ensures (c.in_ok-put_gathered.ensures.empty) (rows_are c.args.params.now h c.args.last c.args.events.now are last)
    c.in_ok-put_batches.ensures c.in_ok-put_gathered.ensures.gives told

pub returns-in_err-put_batches-clause-sizes : goal.returns-in_err-put_batches-clause-sizes
returns-in_err-put_batches-clause-sizes g c = λ h are. changes_have_sizes c.args.events.now h c.events_have_sizes.ensures are

pub returns-in_err-put_gathered-clause-sizes : goal.returns-in_err-put_gathered-clause-sizes
returns-in_err-put_gathered-clause-sizes g c = λ h are. changes_have_sizes c.args.events.now h c.events_have_sizes.ensures are

pub returns-clause-sizes : goal.returns-clause-sizes
returns-clause-sizes g c = λ h are. changes_have_sizes c.args.events.now h c.events_have_sizes.ensures are
