use Rattle.std.proofs.Common.{take}
use Rattle.std.specs.List.{All}
use Rattle.key_check.specs.Pieces.{StandsAt}
use Rattle.key_check.proofs.Lasting.{StandsAtTurns}
use Rattle.key_check.proofs.throughout.stands_throughout.Given as goal

abbrev pub invariant-loop-e : goal.invariant-loop-e
invariant-loop-e l = record {
  first : StandsAt l.entries l.piece l.piece.from;
  each : All (StandsAtTurns l.entries l.piece) (take l.e-index l.entries);
}
