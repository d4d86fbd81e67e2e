use Rattle.std.proofs.Common.{◌≡◌, ◌+◌, ◌-◌, ◌≤◌, IsTrue, length, take}
use Rattle.line_reader.specs.Lines.{HasNoLineFeed}
use Rattle.line_reader.specs.Intake.{LosesNothing}
use Rattle.line_reader.specs.Reader.{IsCalm}
use Rattle.line_reader.proofs.lines.cutting.find_line_feed.Given as goal

abbrev pub invariant-loop-at : goal.invariant-loop-at
invariant-loop-at g l = record {
  in_range : l.scanned ≤ length l.intake.held;
  in_line : HasNoLineFeed (take l.scanned l.intake.held);
  calm : IsCalm (g.S.Source.tells l.initial.source) (g.S.Source.tells l.source) (g.S.Source.faults l.initial.source) (g.S.Source.faults l.source);
  none_lost : IsTrue (g.S.Source.tells l.initial.source) → LosesNothing l.initial.intake l.intake (g.S.Source.left l.initial.source) (g.S.Source.left l.source);
  gains : l.intake.taken + length l.initial.intake.held ≡ l.initial.intake.taken + length l.intake.held;
  within_limit : l.intake.taken ≤ l.intake.limit;
  limit : l.intake.limit ≡ l.initial.intake.limit;
}

abbrev pub decreases-loop-at : goal.decreases-loop-at
decreases-loop-at g l = l.intake.limit - l.intake.taken
