use Rattle.std.proofs.Common.{◌≡◌, ◌+◌, ◌++◌, drop, map, sym, ◌∙◌, ap, subst}
use Rattle.bw_types.specs.declared.change.Change.TheVariants.{Add}
use Rattle.history_laws.specs.Living.{objects_at}
use Rattle.page_warehouse.specs.Events.{change_in}
use Rattle.compact_store.proofs.LiveAdds.{adds_all, adds_on, adds_stay}
use Rattle.compact_store.proofs.keeping.adds_at.Goals.{then-is_live_at+in_ok-push, else-is_live_at}
use Rattle.compact_store.proofs.keeping.adds_at.Goals as goal

pub loop-dated-preserved : goal.loop-dated-preserved
loop-dated-preserved c =
    let whole = map Add (objects_at c.args.version c.args.lives.now) in
    elim c.if-is_live_at.branch [
      | then-is_live_at+in_ok-push w ↦
          adds_on c.args.version c.args.lives.now c.loop-dated.dated-index _ c.loop-dated.adds.items whole c.loop-dated-test.true c.loop-dated.invariant c.if-is_live_at.adds.items
          (sym c.is_live_at.ensures ∙ w.if-is_live_at.true) (ap (λ v. v.items) w.adds-is ∙ w.in_ok-push.ensures.items)
      | else-is_live_at w ↦
          subst (λ v. map change_in v.items ++ map Add (objects_at c.args.version (drop (c.loop-dated.dated-index + 1) c.args.lives.now)) ≡ whole) (sym w.adds-is)
          (adds_stay c.args.version c.args.lives.now c.loop-dated.dated-index _ c.loop-dated.adds.items whole c.loop-dated-test.true c.loop-dated.invariant
          (sym c.is_live_at.ensures ∙ w.if-is_live_at.false))
    ]

pub returns : goal.returns
returns c =
    adds_all c.args.version c.args.lives.now c.loop-dated.dated-index c.loop-dated.adds.items (map Add (objects_at c.args.version c.args.lives.now)) c.loop-dated-test.false c.loop-dated.invariant
