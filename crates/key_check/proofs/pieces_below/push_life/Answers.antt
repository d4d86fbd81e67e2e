use Rattle.std.proofs.Common.{rules, arith, subst}
use Rattle.std.proofs.Common.{Option, IsTrue}
use Rattle.mvsb_tree.specs.Stands.{ends_after}
use Rattle.key_check.proofs.Descending.{all_stretches, more_stretch}
use Rattle.key_check.proofs.Pushing.{whole_one}
use Rattle.key_check.proofs.pieces_below.push_life.Goals as goal

pub loop-from-preserved : goal.loop-from-preserved
loop-from-preserved c =
    let i = c.loop-from.invariant in
    let next = c.next_of-next.result in
    let same = c.next_of-next.ensures.same in
    let until = c.next_of-next.ensures.until in
    let b = i.begun in
    let u = until.0 in
    let v = until.1 in
    let r = c.requires.versions in
    record {
      begun = omega (arith, b, u);
      most = search rules;
      pushes = λ m nodes. more_stretch c.args.level m nodes c.args.life c.args.rest.now c.loop-from.from next.until next.high same b u
          c.args.below.now.items c.loop-from.below.items c.push_leveled.new.pieces.items (i.pushes m nodes) c.in_ok-push_leveled.ensures.items;
      whole = λ w. whole_one c.args.level c.loop-from.below.items c.push_leveled.new.pieces.items _ c.in_ok-push_leveled.ensures.items (i.whole w) (record {
        below = omega arith;
        some = u;
        most = omega (arith, v, r);
        keys = subst (λ (h : Option _). IsTrue (ends_after h c.args.life.low)) (same c.loop-from.from (omega arith) u) (c.requires.keys c.loop-from.from b c.loop-from-test.true);
        fits = c.in_ok-push_leveled.ensures.fits;
      });
    }

pub returns-clause-pushes : goal.returns-clause-pushes
returns-clause-pushes c = λ m nodes. all_stretches c.args.level m nodes c.args.life c.args.rest.now c.loop-from.from c.args.life.to c.args.below.now.items c.loop-from.below.items
    c.loop-from.invariant.most c.loop-from-test.false (c.loop-from.invariant.pushes m nodes)
