use Rattle.span_planes.proofs.SpanDifference.{span_bounded, span_difference}
use Rattle.span_planes.proofs.laws.spans_are_differences.Goals as goal

pub returns-clause-difference : goal.returns-clause-difference
returns-clause-difference c = λ params h first last q le. span_difference c.entries_give_answers.ensures.sum params h q first last le

pub returns-clause-bounded : goal.returns-clause-bounded
returns-clause-bounded c = span_bounded c.answers_are_bounded.ensures.sums
