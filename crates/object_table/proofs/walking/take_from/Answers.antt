use Rattle.std.proofs.Common.{◌<◌, ◌≤◌, ◌+◌, length, get_or, sym, ap, ◌∙◌, subst, IsTrue, arith}
use Rattle.std.proofs.lemmas.Bool.{eqb-false}
use Rattle.arrayvec.specs.ArrayVec.{ArrayVec}
use Rattle.bw_types.specs.declared.dated.Dated.{Dated}
use Rattle.page_layout.specs.Dated.{by_life_fits}
use Rattle.object_table.specs.Keys.{key}
use Rattle.object_table.specs.Lives.{AreNext}
use Rattle.object_table.specs.Nodes.{objects_in}
use Rattle.object_table.proofs.Nexts.{all_next, below_more, next_among, next_from, one_more, some_next}
use Rattle.object_table.proofs.Views.{any_of}
use Rattle.object_table.proofs.walking.take_from.Given
use Rattle.object_table.proofs.walking.take_from.Goals.{then-object_key-sought+else-is_full, else-object_key-sought}
use Rattle.object_table.proofs.walking.take_from.Goals as goal

pub loop-index-preserved : goal.loop-index-preserved
loop-index-preserved g c =
    let ds = objects_in c.args.node.now in
    let lt : c.loop-index.index < length ds = omega (arith, c.loop-index-test.true, c.object_count-index-end.ensures) in
    let e = any_of ds c.loop-index.index lt in
    elim c.if-object_key-sought.branch [
      | then-object_key-sought+else-is_full w ↦
          let from : c.args.sought ≤ key (get_or ds c.loop-index.index e) = omega (arith, c.object_key.ensures e, w.if-object_key-sought.true) in
          record {
            so_far = ap (λ (v : ArrayVec Dated). v.items) w.found-is ∙ one_more c.args.sought ds c.loop-index.index e c.loop-index.found.items w.object.result w.push.new.self.items lt from
                (w.object.ensures e) c.loop-index.invariant.so_far w.push.ensures.items;
            room = subst (λ (v : ArrayVec Dated). length v.items < g.row.N) (sym w.found-is)
                (omega (arith, w.is_full.ensures.fits, eqb-false _ _ (sym w.is_full.ensures.value ∙ w.if-is_full.false)));
          }
      | else-object_key-sought w ↦
          let below : key (get_or ds c.loop-index.index e) < c.args.sought = omega (arith, c.object_key.ensures e, w.if-object_key-sought.false) in
          record {
            so_far = ap (λ (v : ArrayVec Dated). v.items) w.found-is ∙ c.loop-index.invariant.so_far ∙ sym (below_more c.args.sought ds c.loop-index.index e lt below);
            room = subst (λ (v : ArrayVec Dated). length v.items < g.row.N) (sym w.found-is) c.loop-index.invariant.room;
          }
    ]

-- the objects up to this one
taken : (g : Given.Over) (c : goal.Then-is_full g) → AreNext c.push.new.self.items c.args.sought (objects_in c.args.node.now)
taken g c =
    let ds = objects_in c.args.node.now in
    let lt : c.loop-index.index < length ds = omega (arith, c.loop-index-test.true, c.object_count-index-end.ensures) in
    let d = c.object.result in
    let from : c.args.sought ≤ key (get_or ds c.loop-index.index d) = omega (arith, c.object_key.ensures d, c.if-object_key-sought.true) in
    some_next c.args.sought ds c.push.new.self.items (c.loop-index.index + 1)
    (one_more c.args.sought ds c.loop-index.index d c.loop-index.found.items d c.push.new.self.items lt from (c.object.ensures d) c.loop-index.invariant.so_far c.push.ensures.items)
    (omega (arith, c.push.ensures.len))

pub returns-then-is_full-clause-next : goal.returns-then-is_full-clause-next
returns-then-is_full-clause-next g c = taken g c

pub returns-then-is_full-clause-above : goal.returns-then-is_full-clause-above
returns-then-is_full-clause-above g c = next_from c.args.sought (objects_in c.args.node.now) c.push.new.self.items (taken g c)

pub returns-then-is_full-clause-fits : goal.returns-then-is_full-clause-fits
returns-then-is_full-clause-fits g c = next_among (λ (d : Dated). IsTrue (by_life_fits d)) c.args.sought (objects_in c.args.node.now) c.push.new.self.items (taken g c) c.requires.keep

-- all of them
whole : (g : Given.Over) (c : goal.After-loop-index g) → AreNext c.loop-index.found.items c.args.sought (objects_in c.args.node.now)
whole g c =
    all_next c.args.sought (objects_in c.args.node.now) c.loop-index.found.items c.loop-index.index c.loop-index.invariant.so_far (omega (arith, c.loop-index-test.false, c.object_count-index-end.ensures))

pub returns-clause-next : goal.returns-clause-next
returns-clause-next g c = whole g c

pub returns-clause-above : goal.returns-clause-above
returns-clause-above g c = next_from c.args.sought (objects_in c.args.node.now) c.loop-index.found.items (whole g c)

pub returns-clause-fits : goal.returns-clause-fits
returns-clause-fits g c = next_among (λ (d : Dated). IsTrue (by_life_fits d)) c.args.sought (objects_in c.args.node.now) c.loop-index.found.items (whole g c) c.requires.keep
