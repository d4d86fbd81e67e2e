use Rattle.std.proofs.Common.{IsTrue, arith}
use Rattle.line_reader.proofs.BufferLemmas.{given-put_mid}
use Rattle.line_reader.proofs.lines.intake.take_at.Goals as goal

pub returns-clause-taken : goal.returns-clause-taken
returns-clause-taken g c =
    given-put_mid _ (IsTrue (g.S.Source.tells c.args.source.now)) _ _ _ _ _ _ (omega arith) c.take.ensures.bound c.take.ensures.taken
