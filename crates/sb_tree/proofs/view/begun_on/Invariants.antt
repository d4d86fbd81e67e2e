use Rattle.sb_tree.proofs.Common.{◌≡◌, ◌%◌, ◌^◌, take, sum_by, HaveBegun}
use Rattle.sb_tree.proofs.view.begun_on.Given as goal

abbrev pub invariant-loop-place : goal.invariant-loop-place
invariant-loop-place l = record {
  begun : HaveBegun l.version (take l.place l.view.entries.items);
  total : l.total ≡ sum_by (λ e. e.value) (take l.place l.view.entries.items) % 2 ^ 128;
}
