use Rattle.std.proofs.Common.{◌≡◌, ◌<◌, ◌≤◌, length, take, subst, refl, arith}
use Rattle.std.specs.List.{All}
use Rattle.std.proofs.lemmas.List.{take_all}
use Rattle.bw_types.specs.declared.dated.Dated.{Dated}
use Rattle.object_table.specs.Keys.{key}
use Rattle.object_table.specs.Nodes.{objects_in}
use Rattle.object_table.proofs.Views.{any_of, all_more}
use Rattle.object_table.proofs.placed.have_keys_within.Goals as goal

pub returns-then-key-place : goal.returns-then-key-place
returns-then-key-place c =
    let lt : c.loop-index.index < length (objects_in c.args.node.now) = omega (arith, c.loop-index-test.true, c.object_count-index-end.ensures) in
    let d = any_of (objects_in c.args.node.now) c.loop-index.index lt in
    (λ t. absurd cc, λ p. absurd (omega (arith, c.if-key-place.true, c.object_key-key.ensures d, p.0 c.loop-index.index d lt)))

pub returns-then-key-place-2 : goal.returns-then-key-place-2
returns-then-key-place-2 c =
    let lt : c.loop-index.index < length (objects_in c.args.node.now) = omega (arith, c.loop-index-test.true, c.object_count-index-end.ensures) in
    let d = any_of (objects_in c.args.node.now) c.loop-index.index lt in
    (λ t. absurd cc, λ p. absurd (omega (arith, c.if-key-place-2.true, c.object_key-key.ensures d, p.1 c.loop-index.index d lt)))

pub loop-index-preserved : goal.loop-index-preserved
loop-index-preserved c =
    let ds = objects_in c.args.node.now in
    let lt : c.loop-index.index < length ds = omega (arith, c.loop-index-test.true, c.object_count-index-end.ensures) in
    let d = any_of ds c.loop-index.index lt in
    record {
      from = all_more (λ (x : Dated). c.args.place.low ≤ key x) ds c.loop-index.index d lt c.loop-index.invariant.from (omega (arith, c.if-key-place.false, c.object_key-key.ensures d));
      ends = all_more (λ (x : Dated). key x < c.args.place.high) ds c.loop-index.index d lt c.loop-index.invariant.ends (omega (arith, c.if-key-place-2.false, c.object_key-key.ensures d));
    }

pub returns : goal.returns
returns c =
    let ds = objects_in c.args.node.now in
    let whole : take c.loop-index.index ds ≡ ds = take_all c.loop-index.index ds (omega (arith, c.loop-index-test.false, c.object_count-index-end.ensures)) in (
      λ t. (subst (All (λ (x : Dated). c.args.place.low ≤ key x)) whole c.loop-index.invariant.from, subst (All (λ (x : Dated). key x < c.args.place.high)) whole c.loop-index.invariant.ends),
      λ p. refl,
    )
