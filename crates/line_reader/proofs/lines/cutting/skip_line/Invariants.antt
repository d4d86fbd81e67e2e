use Rattle.std.proofs.Common.{◌≡◌, ◌+◌, ◌-◌, ◌≤◌, IsTrue, [], ◌++◌, length}
use Rattle.line_reader.specs.Reader.{IsCalm}
use Rattle.line_reader.specs.Skip.{SkipsTo}
use Rattle.line_reader.proofs.lines.cutting.skip_line.Given as goal

abbrev pub invariant-loop-intake : goal.invariant-loop-intake
invariant-loop-intake g l = record {
  empty : l.intake.held ≡ [];
  calm : IsCalm (g.S.Source.tells l.fn.source) (g.S.Source.tells l.source) (g.S.Source.faults l.fn.source) (g.S.Source.faults l.source);
  skips : IsTrue (g.S.Source.tells l.fn.source) → SkipsTo 4097 (l.fn.intake.held ++ g.S.Source.left l.fn.source) (g.S.Source.left l.source);
  counts : IsTrue (g.S.Source.tells l.fn.source) → l.intake.taken + length (g.S.Source.left l.source) ≡ l.fn.intake.taken + length (g.S.Source.left l.fn.source);
  later : l.fn.intake.taken ≤ l.intake.taken;
  within_limit : l.intake.taken ≤ l.intake.limit;
  limit : l.intake.limit ≡ l.fn.intake.limit;
}

abbrev pub decreases-loop-intake : goal.decreases-loop-intake
decreases-loop-intake g l = l.intake.limit - l.intake.taken
