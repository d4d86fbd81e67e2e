use Rattle.std.proofs.Common.{◌≡◌, ◌+◌, ◌*◌, ◌++◌, take}
use Rattle.std.specs.List.{flat_map}
use Rattle.page_layout.specs.CutPage.{node_bytes}
use Rattle.page_layout.proofs.cut_page.put_nodes.Given as goal

abbrev pub invariant-loop-node : goal.invariant-loop-node
invariant-loop-node l = record {
  place : l.next ≡ l.place + l.node-index * 16;
  items : take l.next l.page ≡ take l.place l.initial.page ++ flat_map node_bytes (take l.node-index l.nodes);
}
