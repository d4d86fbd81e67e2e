use Rattle.std.proofs.Common.{ℕ, List, subst}
use Rattle.ports.specs.Written.{WritesPart}
use Rattle.row_machine.proofs.Parts.{writes_front}
use Rattle.row_machine.proofs.outbox.Outbox.put.Goals as goal

pub returns-in-Err-clause-part : goal.returns-in-Err-clause-part
returns-in-Err-clause-part g c = λ told still.
    subst (λ (text : List ℕ). WritesPart (g.K.Sink.written c.args.sink.now) (g.K.Sink.written c.put.new.self) text) c.deref.ensures.value
    (writes_front _ _ _ (c.in-Err.ensures.prefix told still))
