use Rattle.std.proofs.Common.{arith, length-drop}
use Rattle.std.proofs.lemmas.List.{take_rest}
use Rattle.ports.proofs.Known.{Appends-more}
use Rattle.ports.proofs.standard_sink.write_up_to_fault.Goals as goal

pub loop-written-preserved : goal.loop-written-preserved
loop-written-preserved g c = record {
  in_piece = omega (arith, c.write_some-count.ensures.bound, length-drop c.loop-written.written c.args.piece.now);
  so_far =
      Appends-more _ (g.W.Write.contents c.loop-written.writer) _ _ _ _ c.loop-written.invariant.so_far (rw take_rest at c.write_some-count.ensures.bytes);
}
