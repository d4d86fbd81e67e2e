use Rattle.std.proofs.Common.{◌≤◌, ◌-◌, length, take}
use Rattle.std.specs.Io.KnownBytes.{Appends}
use Rattle.ports.proofs.standard_sink.write_up_to_fault.Given as goal

abbrev pub invariant-loop-written : goal.invariant-loop-written
invariant-loop-written g l = record {
  in_piece : l.written ≤ length l.piece;
  so_far : Appends (g.W.Write.contents l.initial.writer) (g.W.Write.contents l.writer) (take l.written l.piece);
}

abbrev pub decreases-loop-written : goal.decreases-loop-written
decreases-loop-written g l = length l.piece - l.written
