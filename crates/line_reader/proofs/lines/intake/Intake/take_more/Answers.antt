use Rattle.std.proofs.Common.{arith, ap, refl}
use Rattle.line_reader.specs.Intake.{IntakeState}
use Rattle.line_reader.proofs.BufferLemmas.{loses_nothing-more}
use Rattle.line_reader.proofs.lines.intake.Intake.take_more.Goals as goal

pub returns-in-Ok-clause-none_lost : goal.returns-in-Ok-clause-none_lost
returns-in-Ok-clause-none_lost g c =
    λ told tells.
    loses_nothing-more c.args.self.now _ c.self.inside.buffer c.take_at.new.buffer c.self.inside.start c.self.inside.end c.in-Ok.count c.self.inside.taken
    (g.S.Source.left c.args.source.now) (g.S.Source.left c.take_at.new.source)
    (ap (λ (s : IntakeState). s.held) c.self.view_is) (ap (λ (s : IntakeState). s.taken) c.self.view_is) refl refl
    (omega arith) (omega (arith, c.in-Ok.ensures.bound)) c.in-Ok.ensures.front (c.in-Ok.ensures.taken told)
