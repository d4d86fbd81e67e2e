use Rattle.std.proofs.Common.{refl, arith}
use Rattle.object_table.proofs.Withdrawals.{marked_rules}
use Rattle.object_table.proofs.marking.mark_leaf.Goals as goal

pub put_page-requires-clause-rules : goal.put_page-requires-clause-rules
put_page-requires-clause-rules g c =
    marked_rules c.args.objects.items c.withdraw_last.new.objects.items c.args.id c.args.version c.args.event c.requires.leaf c.requires.typed (c.if-not-withdraw_last.ensures.marked refl)
    (omega (arith, c.ranges.version.fits)) (omega (arith, c.ranges.event.fits))
