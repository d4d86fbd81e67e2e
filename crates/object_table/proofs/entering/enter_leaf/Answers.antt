use Rattle.std.proofs.Common.{refl}
use Rattle.object_table.specs.Keys.{key}
use Rattle.object_table.proofs.InLeaf.{put_rules}
use Rattle.object_table.proofs.Ordered.{asc_adjacent}
use Rattle.object_table.proofs.Rules.{leaf_proper}
use Rattle.object_table.proofs.entering.enter_leaf.Goals as goal

pub take_in-requires-clause-order : goal.take_in-requires-clause-order
take_in-requires-clause-order g c = asc_adjacent key c.args.objects.items (leaf_proper 14 c.args.objects.items c.requires.leaf c.requires.typed.0).asc

pub store_leaf-requires-clause-rules : goal.store_leaf-requires-clause-rules
store_leaf-requires-clause-rules g c =
    put_rules c.args.objects.items c.take_in.new.objects.items c.args.dated.now c.requires.leaf c.requires.typed.0 c.requires.typed.1 c.requires.rules (c.if-not-take_in.ensures.taken refl)
