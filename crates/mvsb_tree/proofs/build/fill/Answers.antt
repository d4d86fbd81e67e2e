use Rattle.std.proofs.Common.{◌≡◌, ◌<◌, ◌≤◌, ℕ, List, get_or, length, rules, arith, subst, take}
use Rattle.std.proofs.lemmas.List.{get_or_default}
use Rattle.bw_types.specs.declared.point.Point.{Point}
use Rattle.mvsb_tree.specs.Built.{TakesPoints}
use Rattle.mvsb_tree.proofs.Building.{no_point, none_later, takes_more, takes_none}
use Rattle.mvsb_tree.proofs.build.fill.Goals as goal

pub loop-index-init : goal.loop-index-init
loop-index-init c = record {
  level = c.requires.leaf;
  rules = c.requires.rules;
  typed = c.requires.typed;
  changeable = λ k d from below. c.requires.changeable k d below;
  takes = takes_none c.args.points.now c.args.leaf.now c.requires.some;
}

pub loop-index-preserved : goal.loop-index-preserved
loop-index-preserved c =
    let points : List Point = c.args.points.now in
    let i : ℕ = c.loop-index.index in
    let lt : i < length points = c.loop-index-test.true in
    let p : Point = get_or points i no_point in
    let add = c.add_to_leaf.ensures in
    let inv = c.loop-index.invariant in
    let early : p.version < 4294967295 = c.requires.versions i no_point lt in
    let rules : Rattle.page_layout.specs.MvNode.IsMvNode c.add_to_leaf.new.node = search rules in
    record {
      level = search rules;
      rules = rules;
      typed = record {
        place = omega (arith, add.past.place, inv.typed.place);
        before = omega (arith, add.past.before, inv.typed.before);
        entries = add.storable.typed;
      };
      changeable = λ k d from below. c.later_laws.ensures.changeable p.version (get_or points k d).version c.add_to_leaf.new.node.entries.items
          (subst (λ (q : Point). q.version ≤ (get_or points k d).version) (get_or_default points i d no_point lt) (c.requires.in_order i k d (omega (arith, from)) below))
          (c.requires.versions k d below) add.storable.changeable;
      takes = takes_more points i c.args.leaf.now c.loop-index.leaf c.add_to_leaf.new.node c.tree_laws.ensures.in_map c.tree_laws.ensures.by_its_pages c.path_laws.ensures.same c.mv_laws.ensures.any_order
          lt inv.level inv.rules inv.typed c.requires.few early (search rules) (none_later points i no_point lt c.requires.in_order)
          add.storable add.past add.value add.tests add.cut rules inv.takes;
    }

pub returns-clause-takes : goal.returns-clause-takes
returns-clause-takes c =
    let points : List Point = c.args.points.now in
    let all : c.loop-index.index ≡ length points = omega (arith, c.loop-index-test.false, c.loop-index.auto.index-end) in
    subst (λ (n : ℕ). TakesPoints (take 1 points) (take n points) n c.args.leaf.now c.loop-index.leaf) all c.loop-index.invariant.takes
