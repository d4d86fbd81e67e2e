use Rattle.std.proofs.Common.{IsPermutation}
use Rattle.cut_parts.proofs.Apart.{DifferInEach}
use Rattle.cut_parts.proofs.fitting.are_apart.Given as goal

abbrev pub invariant-loop-dimension : goal.invariant-loop-dimension
invariant-loop-dimension l = record {
  moved : IsPermutation l.fn.points l.points;
  apart : DifferInEach l.dimension l.points;
}
