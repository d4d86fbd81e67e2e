use Rattle.std.proofs.Common.{◌≡◌, ◌≤◌, ◌-◌, ◌++◌, length, take}
use Rattle.page_layout.specs.Numbers.{zeros}
use Rattle.page_layout.proofs.front.finish.Given as goal

abbrev pub invariant-loop-at : goal.invariant-loop-at
invariant-loop-at l = record {
  long : length l.page ≡ 4096;
  from : l.place ≤ l.at;
  to : l.at ≤ 4096;
  filled : take l.at l.page ≡ take l.place l.initial.page ++ zeros (l.at - l.place);
}
