use Rattle.std.proofs.Common.{◌≡◌, ◌+◌, ◌-◌, ◌/◌, ◌<◌, ◌≤◌, ℕ, length, drop, subst, arith}
use Rattle.std.specs.List.{All}
use Rattle.object_table.specs.Keys.{low_key}
use Rattle.object_table.specs.Nodes.{entries_in}
use Rattle.object_table.proofs.Views.{begun_to, later_from}
use Rattle.object_table.proofs.path.begun_count.Goals as goal

pub loop-begun-preserved-then-low_key-sought : goal.loop-begun-preserved-then-low_key-sought
loop-begun-preserved-then-low_key-sought c =
    let es = entries_in c.args.node.now in
    let middle : ℕ = c.loop-begun.begun + (c.loop-begun.end - c.loop-begun.begun) / 2 in
    let less : middle < c.loop-begun.end = omega (arith, c.loop-begun-test.true) in
    let lt : middle < length es = omega (arith, less, c.loop-begun.invariant.within) in
    let here : low_key c.entry.result ≤ c.args.sought = omega (arith, c.low_key.ensures, c.if-low_key-sought.true) in
    record {
      ordered = omega (arith, less);
      within = c.loop-begun.invariant.within;
      begun = begun_to es middle c.args.sought c.entry.result c.is_in_order.ensures.order lt c.entry.ensures here;
      later = c.loop-begun.invariant.later;
    }

pub loop-begun-preserved : goal.loop-begun-preserved
loop-begun-preserved c =
    let es = entries_in c.args.node.now in
    let middle : ℕ = c.loop-begun.begun + (c.loop-begun.end - c.loop-begun.begun) / 2 in
    let less : middle < c.loop-begun.end = omega (arith, c.loop-begun-test.true) in
    let lt : middle < length es = omega (arith, less, c.loop-begun.invariant.within) in
    let here : c.args.sought < low_key c.entry.result = omega (arith, c.low_key.ensures, c.if-low_key-sought.false) in
    record {
      ordered = omega arith;
      within = omega (arith, lt);
      begun = c.loop-begun.invariant.begun;
      later = later_from es middle c.args.sought c.entry.result c.is_in_order.ensures.order lt c.entry.ensures here;
    }

pub returns : goal.returns
returns c =
    let es = entries_in c.args.node.now in
    let same : c.loop-begun.end ≡ c.loop-begun.begun = omega (arith, c.loop-begun-test.false, c.loop-begun.invariant.ordered) in
    record {
      bound = omega (arith, same, c.loop-begun.invariant.within);
      begun = c.loop-begun.invariant.begun;
      later = subst (λ (n : ℕ). All (λ e. c.args.sought < low_key e) (drop n es)) same c.loop-begun.invariant.later;
    }
