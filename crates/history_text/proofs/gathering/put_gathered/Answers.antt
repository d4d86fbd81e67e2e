-- Where the sink fails, a part of what is gathered was put.
use Rattle.std.proofs.Common.{◌∙◌, [], sym}
use Rattle.std.proofs.lemmas.List.{append-nil}
use Rattle.history_text.proofs.Gathered.{failed_gives, stopped_put}
use Rattle.history_text.proofs.gathering.put_gathered.Goals as goal

pub returns-in_err-put-clause-gives : goal.returns-in_err-put-clause-gives
returns-in_err-put-clause-gives g c =
    failed_gives c.from_residual.result c.from_residual.ensures.0
    (stopped_put c.as_slice.result.now [] (c.as_slice.ensures.value ∙ sym (append-nil c.args.room.now.items)) c.in_err-put.ensures.prefix c.in_err-put.ensures.failed_only)
