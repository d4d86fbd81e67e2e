use Rattle.std.proofs.Common.{◌≤◌, ℕ, List, Err, IsSome, get_or, rules, arith, sym, ap, ◌∙◌, subst, take}
use Rattle.std.proofs.lemmas.List.{get_or_default}
use Rattle.std.proofs.lemmas.Result.{err_from_is_err_and}
use Rattle.bw_types.specs.declared.point.Point.{Point}
use Rattle.bw_types.specs.declared.tree.Tree.{Tree}
use Rattle.ports.specs.Pages.{PageMap}
use Rattle.ports.specs.declared.page.StageFault.TheVariants.{Damaged}
use Rattle.mvsb_tree.specs.Built.{IsBuilt, with_last}
use Rattle.mvsb_tree.proofs.Building.{last_spells, leaf_built, no_point}
use Rattle.mvsb_tree.proofs.Exits.{exit_error, read_damaged}
use Rattle.mvsb_tree.proofs.Going.{grown_further, grown_so_far, went_reading}
use Rattle.mvsb_tree.proofs.Nodes.{found_as, spells_as}
use Rattle.mvsb_tree.proofs.build.build_leaf.Goals as goal

pub returns-in_err-view-clause-damaged : goal.returns-in_err-view-clause-damaged
returns-in_err-view-clause-damaged g c = λ page e tells ordered. (
    let m0 : PageMap = g.S.Pages.map c.args.stage.now in
    let m1 : PageMap = g.S.Pages.map c.build_point.new.stage in
    let same = read_damaged c.from_residual-in_err-view.result c.in_err-view.field-0.0 page (err_from_is_err_and c.from_residual-in_err-view.result c.from_residual-in_err-view.ensures.1) e in
    let none = (c.in_err-view.ensures.damaged page (ap Err same)).1 (c.build_point.ensures.grows.went_on.tells ∙ tells) in
    last_spells m0 m1 c.in_ok-tree.tree c.args.points.now c.requires.some (c.in_ok-tree.ensures.built tells) (λ node bytes there spelled node_rules typed. none node bytes there (record { spelled = spelled; rules = node_rules; typed = typed })))

pub returns-in_err-view-clause-few : goal.returns-in_err-view-clause-few
returns-in_err-view-clause-few g c = λ tells. (
    let grows = c.build_point.ensures.few tells in
    search rules)

pub fill-taken-requires-clause-changeable : goal.fill-taken-requires-clause-changeable
fill-taken-requires-clause-changeable g c = λ k d below. (
    let points : List Point = c.args.points.now in
    let p : Point = get_or points 0 no_point in
    c.later_laws.ensures.changeable p.version (get_or points k d).version c.read_node.new.node.entries.items
    (subst (λ (q : Point). q.version ≤ (get_or points k d).version) (get_or_default points 0 d no_point c.requires.some) (c.requires.in_order 0 k d (omega arith) below))
    (c.requires.versions k d below) (c.is_changeable.ensures.0 c.if-is_changeable.true))

pub returns-in_err-put_node-clause-damaged : goal.returns-in_err-put_node-clause-damaged
returns-in_err-put_node-clause-damaged g c = λ page e tells ordered. (
    let same = exit_error c.from_residual-in_err-put_node.result c.in_err-put_node.field-0.0 (Damaged page) (err_from_is_err_and c.from_residual-in_err-put_node.result c.from_residual-in_err-put_node.ensures.1) e in
    c.in_err-put_node.ensures.damaged page (c.view_page.ensures.reads.read.tells ∙ c.build_point.ensures.grows.went_on.tells ∙ tells) (ap Err same))

pub returns-in_err-put_node-clause-grows : goal.returns-in_err-put_node-clause-grows
returns-in_err-put_node-clause-grows g c =
    let first = c.build_point.ensures.grows in
    let read = c.view_page.ensures.reads.read in
    let told = err_from_is_err_and c.from_residual-in_err-put_node.result c.from_residual-in_err-put_node.ensures.1 in
    grown_further g.S.Pages 34 0 _ c.args.stage.now c.view_page.new.pages c.put_node.new.stage (Err c.in_err-put_node.field-0.0) c.from_residual-in_err-put_node.result
    (went_reading g.S.Pages 34 1 c.args.stage.now c.build_point.new.stage c.view_page.new.pages first.went_on read)
    (λ t page there. subst (λ (m : PageMap). IsSome (m page)) (sym read.map) (first.keeps t page there)) c.in_err-put_node.ensures.grows
    (omega (arith, c.in_err-put_node.ensures.grows.went_on.allotted)) (λ f e. ap Err (exit_error c.from_residual-in_err-put_node.result c.in_err-put_node.field-0.0 f told e))

pub returns-in_err-put_node-clause-few : goal.returns-in_err-put_node-clause-few
returns-in_err-put_node-clause-few g c = λ tells. (
    let grows = c.build_point.ensures.few tells in
    let read = c.view_page.ensures.reads.read in
    let put = c.in_err-put_node.ensures.grows in
    search rules)

pub returns-in_ok-put_node-clause-built : goal.returns-in_ok-put_node-clause-built
returns-in_ok-put_node-clause-built g c = λ tells. (
    let m0 : PageMap = g.S.Pages.map c.args.stage.now in
    let m1 : PageMap = g.S.Pages.map c.build_point.new.stage in
    let tree : Tree = c.in_ok-tree.tree in
    let leaf = c.read_node.new.node in
    let told1 = c.build_point.ensures.grows.went_on.tells ∙ tells in
    let read = c.view_page.ensures.reads.read in
    let spells = spells_as _ _ c.read_node.ensures c.in_ok-view.ensures.spells in
    let there = found_as m1 tree.last _ _ c.read_node.ensures (c.in_ok-view.ensures.found told1) in
    let number = g.met.S.Stage.from_three c.build_point.new.stage tree.last _ told1 there in
    let put = c.in_ok-put_node.ensures.ok (read.tells ∙ told1) ∙ ap (λ (m : PageMap). with_last m tree c.fill-taken.new.leaf) read.map in
    leaf_built m0 m1 (g.S.Pages.map c.put_node.new.stage) tree c.args.points.now c.fill-taken.result leaf c.fill-taken.new.leaf c.requires.some (c.in_ok-tree.ensures.built tells) number there spells.typed spells.rules c.if-leaf-eq1-2.true c.fill-taken.ensures.takes put)

pub returns-in_ok-put_node-clause-grows : goal.returns-in_ok-put_node-clause-grows
returns-in_ok-put_node-clause-grows g c =
    let first = c.build_point.ensures.grows in
    let read = c.view_page.ensures.reads.read in
    let put = c.in_ok-put_node.ensures.grows in
    let both = grown_further g.S.Pages 34 0 34 c.args.stage.now c.view_page.new.pages c.put_node.new.stage c.put_node.result c.put_node.result
    (went_reading g.S.Pages 34 1 c.args.stage.now c.build_point.new.stage c.view_page.new.pages first.went_on read)
    (λ t page there. subst (λ (m : PageMap). IsSome (m page)) (sym read.map) (first.keeps t page there)) c.put_node.ensures.grows
    (omega (arith, first.went_on.at_most, read.allotted)) (λ f e. e) in
    grown_so_far g.S.Pages 34 _ c.args.stage.now c.put_node.new.stage _ both.went_on both.keeps (omega arith)

pub returns-in_ok-put_node-clause-few : goal.returns-in_ok-put_node-clause-few
returns-in_ok-put_node-clause-few g c = λ tells. (
    let grows = c.build_point.ensures.few tells in
    let read = c.view_page.ensures.reads.read in
    let put = c.in_ok-put_node.ensures.grows in
    search rules)

pub returns-else-leaf-eq1-clause-built : goal.returns-else-leaf-eq1-clause-built
returns-else-leaf-eq1-clause-built g c = λ tells. (
    let m0 : PageMap = g.S.Pages.map c.args.stage.now in
    let tree : Tree = c.in_ok-tree.tree in
    subst (λ (n : ℕ). IsBuilt (take n c.args.points.now) m0 (g.S.Pages.map c.view_page.new.pages) tree) (sym c.in_ok-tree.ensures.count)
    (subst (λ (m : PageMap). IsBuilt (take 1 c.args.points.now) m0 m tree) (sym c.view_page.ensures.reads.read.map) (c.in_ok-tree.ensures.built tells)))

pub returns-else-leaf-eq1-clause-few : goal.returns-else-leaf-eq1-clause-few
returns-else-leaf-eq1-clause-few g c = λ tells. (
    let grows = c.build_point.ensures.few tells in
    let read = c.view_page.ensures.reads.read in
    search rules)
