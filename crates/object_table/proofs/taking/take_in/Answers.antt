use Rattle.std.proofs.Common.{ℕ, ◌<◌, ◌≤◌, arith, subst, sym, ◌∙◌, take, drop}
use Rattle.std.specs.List.{All}
use Rattle.bw_types.specs.declared.dated.Dated.{Dated}
use Rattle.object_table.specs.Keys.{key}
use Rattle.object_table.proofs.Halving.{put_new, put_beside}
use Rattle.object_table.proofs.taking.take_in.Goals.{else-begun-gt0-via-then-begun-gt0+else-key-sought, else-begun-gt0-via-else-begun-gt0}
use Rattle.object_table.proofs.taking.take_in.Goals as goal

pub returns-clause-taken : goal.returns-clause-taken
returns-clause-taken c = λ yes.
    let k : ℕ = c.begun_objects-begun.result in
    let begun = subst (λ (v : ℕ). All (λ (e : Dated). key e ≤ v) (take k c.as_slice.result.now)) c.key-sought.ensures c.begun_objects-begun.ensures.begun in
    let later = subst (λ (v : ℕ). All (λ (e : Dated). v < key e) (drop k c.as_slice.result.now)) c.key-sought.ensures c.begun_objects-begun.ensures.later in
    elim c.else-begun-gt0.branch [
      | else-begun-gt0-via-then-begun-gt0+else-key-sought w ↦
          put_beside c.args.objects.now.items c.insert.new.self.items c.as_slice.result.now w.as_slice-then-begun-gt0.result.now k w.key.result c.args.dated.now _ c.as_slice.ensures.value w.as_slice-then-begun-gt0.ensures.value
          c.requires.order c.begun_objects-begun.ensures.bound begun later w.key.ensures (λ e. w.if-key-sought.false (e ∙ sym c.key-sought.ensures)) c.insert.ensures.items
      | else-begun-gt0-via-else-begun-gt0 w ↦
          put_new c.args.objects.now.items c.insert.new.self.items c.as_slice.result.now k c.args.dated.now c.args.dated.now c.as_slice.ensures.value c.requires.order
          c.begun_objects-begun.ensures.bound begun later (λ some. absurd (omega (arith, some, w.if-begun-gt0.false))) c.insert.ensures.items
    ]
