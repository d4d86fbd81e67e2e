use Rattle.std.proofs.Common.{rules, ◌≡◌, ℕ, List, ◌∙◌, ap, subst}
use Rattle.ports.specs.Written.{WritesPart}
use Rattle.row_machine.proofs.Parts.{writes_front}
use Rattle.sample_rows.specs.Summary.{summary_with}
use Rattle.boxsum.proofs.sample.put_summary.Goals as goal

pub returns-clause-part : goal.returns-clause-part
returns-clause-part g c = λ told still.
    let made : c.in-Ok.summary.bytes.items ≡ summary_with c.args.count c.answers_in.result = search rules in
    subst (λ (text : List ℕ). WritesPart (g.K.Sink.written c.args.sink.now) (g.K.Sink.written c.put.new.self) text)
    (c.as_bytes.ensures.value ∙ made ∙ ap (summary_with c.args.count) c.answers_in.ensures)
    (writes_front _ _ _ (c.in-Err.ensures.prefix told still))
