use Rattle.std.proofs.Common.{◌≡◌, ◌++◌, drop}
use Rattle.cut_parts.specs.Places.{IsPlace}
use Rattle.cut_parts.proofs.nodes.fill.Given as goal

abbrev pub invariant-loop-place : goal.invariant-loop-place
invariant-loop-place l = record {
  at : IsPlace l.cuts.nodes.items l.place l.before;
  whole : l.page.nodes.items ++ drop l.place l.cuts.nodes.items ≡ l.cuts.nodes.items;
}
