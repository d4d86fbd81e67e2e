use Rattle.std.proofs.Common.{ap, sym, ◌∙◌}
use Rattle.redo_journal.specs.Gates.{gate_of}
use Rattle.page_space.proofs.space.Space.read.Goals as goal

pub invariant_of-self-clause-agrees : goal.invariant_of-self-clause-agrees
invariant_of-self-clause-agrees g c = λ told. c.get.ensures.agrees (sym c.get.ensures.reads.tells ∙ told)

pub invariant_of-self-clause-idle : goal.invariant_of-self-clause-idle
invariant_of-self-clause-idle g c = λ told. ap gate_of c.get.ensures.reads.image ∙ c.args.self.now.idle (sym c.get.ensures.reads.tells ∙ told)
