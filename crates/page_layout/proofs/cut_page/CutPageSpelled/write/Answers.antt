use Rattle.std.proofs.Common.{arith}
use Rattle.page_layout.specs.CutPageLaws.{has_room}
use Rattle.page_layout.proofs.Parting.{written}
use Rattle.page_layout.proofs.cut_page.CutPageSpelled.write.Goals as goal

pub put_borders-end-requires : goal.put_borders-end-requires
put_borders-end-requires c = rw c.as_slice-nodes.ensures.value (has_room c.args.self.now c.requires)

pub finish-requires : goal.finish-requires
finish-requires c =
    let end = rw c.as_slice-nodes.ensures.value at c.put_borders-end.ensures.end in
    omega (arith, end, has_room c.args.self.now c.requires)

pub returns : goal.returns
returns c =
    written _ c.args.self.now.nodes.items c.as_slice-nodes.ensures.value c.requires.filled _ _ _ _ _
    c.start.ensures c.put_nodes.ensures c.put_borders-end.ensures.end c.put_borders-end.ensures.bytes c.finish.ensures
