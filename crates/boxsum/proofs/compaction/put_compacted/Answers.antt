use Rattle.std.proofs.Common.{◌≡◌, List, ℕ, ◌∙◌, subst}
use Rattle.boxsum.specs.Compacting.{compacted_line}
use Rattle.boxsum.specs.Printing.{PutsLine}
use Rattle.boxsum.proofs.compaction.put_compacted.Goals as goal

pub returns-in-Ok : goal.returns-in-Ok
returns-in-Ok g c =
    let made : c.in-Ok.line.bytes.items ≡ compacted_line c.args.last c.args.rows = c.in-Ok.ensures in
    record {
      puts = subst (λ (text : List ℕ). PutsLine g.K.Sink c.args.sink.now c.put_line.new.sink text c.put_line.result) (c.as_bytes.ensures.value ∙ made) c.put_line.ensures.puts;
    }
