use Rattle.std.proofs.Common.{◌≡◌, ◌+◌, ◌-◌, ◌≤◌, drop}
use Rattle.cut_parts.specs.Damage.{after_parts}
use Rattle.cut_parts.specs.Places.{IsPlace}
use Rattle.cut_parts.proofs.nodes.behind_part.Given as goal

abbrev pub invariant-loop-parts : goal.invariant-loop-parts
invariant-loop-parts l = record {
  few : l.parts ≤ l.place + 1;
  at : IsPlace l.cuts.nodes.items l.place l.before;
  rest : after_parts l.parts (drop l.place l.cuts.nodes.items) ≡ after_parts 1 (drop l.fn.at.place l.cuts.nodes.items);
}

abbrev pub decreases-loop-parts : goal.decreases-loop-parts
decreases-loop-parts l = l.count - l.place
