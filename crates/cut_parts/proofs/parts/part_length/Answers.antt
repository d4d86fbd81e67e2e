use Rattle.std.proofs.Common.{◌≡◌, ℕ, length, drop, ap, ◌∙◌, arith}
use Rattle.cut_parts.proofs.Walking.{all_walked, at_end, walk_cut, walk_entry}
use Rattle.cut_parts.proofs.parts.part_length.Goals as goal
use Rattle.cut_parts.proofs.parts.part_length.Goals.{in-Entry, in-Cut}

pub returns-then-places-eq0-clause-rest : goal.returns-then-places-eq0-clause-rest
returns-then-places-eq0-clause-rest c = at_end c.args.nodes.now _ c.loop-i.i _ c.if-places-eq0.true c.loop-i.invariant.rest

pub returns-clause-rest : goal.returns-clause-rest
returns-clause-rest c =
    let end : length c.args.nodes.now ≡ c.loop-i.i = omega (arith, c.loop-i-test.false, c.loop-i.auto.i-end) in
    ap (λ (n : ℕ). drop n c.args.nodes.now) end ∙ all_walked c.args.nodes.now _ c.loop-i.i _ c.loop-i-test.false c.loop-i.invariant.rest

pub loop-i-preserved : goal.loop-i-preserved
loop-i-preserved c =
    let rest = c.loop-i.invariant.rest in
    elim c.match-node.branch [
      | in-Entry w ↦ record {
        few = omega (arith, w.places-is, c.loop-i.invariant.few);
        rest = rw w.places-is (walk_entry _ _ _ _ _ _ c.loop-i-test.true c.if-places-eq0.false w.in-Entry.is rest);
      }
      | in-Cut w ↦ record {
        few = omega (arith, w.places-is, c.loop-i.invariant.few);
        rest = rw w.places-is (walk_cut _ _ _ _ _ _ _ _ _ c.loop-i-test.true c.if-places-eq0.false w.in-Cut.is rest);
      }
    ]
