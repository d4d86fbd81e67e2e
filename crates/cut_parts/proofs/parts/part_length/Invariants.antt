use Rattle.std.proofs.Common.{◌≡◌, ◌+◌, ◌≤◌, drop}
use Rattle.cut_parts.specs.Damage.{after_parts}
use Rattle.cut_parts.proofs.parts.part_length.Given as goal

abbrev pub invariant-loop-i : goal.invariant-loop-i
invariant-loop-i l = record {
  few : l.places ≤ l.i + 1;
  rest : after_parts l.places (drop l.i l.nodes) ≡ after_parts 1 l.nodes;
}
