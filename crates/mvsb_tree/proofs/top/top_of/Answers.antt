use Rattle.std.proofs.Common.{inl, inr, arith, rules}
use Rattle.mvsb_tree.proofs.top.top_of.Goals as goal

pub returns-clause-damaged : goal.returns-clause-damaged
returns-clause-damaged g c = λ p e tells. elim (c.make_next.ensures.damaged p e tells) [
  | inl last ↦ inl (search rules, inr (omega (arith, c.if-level-ge16.false), last))
  | inr unordered ↦ inr unordered
]
