use Rattle.std.proofs.Common.{◌≡◌, ◌≤◌, [], ℕ, Err, get_or, refl, rules, arith, sym, ap, subst}
use Rattle.std.specs.List.{All}
use Rattle.std.proofs.lemmas.List.Elements.{All-nil}
use Rattle.std.proofs.lemmas.Result.{err_from_is_err_and}
use Rattle.bw_types.specs.Empty.{empty_tree}
use Rattle.bw_types.specs.declared.point.Point.{Point}
use Rattle.bw_types.specs.declared.tree.Tree.{Tree}
use Rattle.ports.specs.Pages.{PageMap}
use Rattle.ports.specs.declared.page.StageFault.TheVariants.{Damaged}
use Rattle.mvsb_tree.specs.Laws.{EmptyTreeIsBalanced, EmptyTreeStands}
use Rattle.mvsb_tree.specs.Stands.{IsBalanced, IsEmptyTree, MvStands}
use Rattle.mvsb_tree.proofs.Building.{first_built, no_point}
use Rattle.mvsb_tree.proofs.Exits.{exit_error}
use Rattle.mvsb_tree.proofs.build.build_point.Goals as goal

-- The tree before the first addition.
empty_stands : (m : PageMap) (tree : Tree) → EmptyTreeStands → EmptyTreeIsBalanced → tree ≡ empty_tree → MvStands m tree [] × IsBalanced m tree
empty_stands m tree stands balanced is =
    let none : IsEmptyTree tree = subst IsEmptyTree (sym is) (refl, refl, refl, refl, refl) in
    (stands m tree none, balanced m tree none)

none_past : (v : ℕ) → All (λ (q : Point). q.version ≤ v) []
none_past v = All-nil (λ (q : Point). q.version ≤ v)

pub returns-clause-built : goal.returns-clause-built
returns-clause-built g c = λ tells.
    let m0 : PageMap = g.S.Pages.map c.args.stage.now in
    let is : c.default-tree.result ≡ empty_tree = search rules in
    let e = empty_stands m0 c.default-tree.result c.mv_laws.ensures.empty c.mv_laws.ensures.empty_balance is in
    let p : Point = get_or c.args.points.now 0 no_point in
    let past = none_past p.version in
    first_built c.mv_laws.ensures.any_order m0 (g.S.Pages.map c.mv_add.new.stage) c.default-tree.result c.mv_add.new.tree c.args.points.now is c.requires.some
    (c.in_ok-mv_add.ensures.stands tells [] p e.0 (omega arith) past refl refl refl)
    (c.in_ok-mv_add.ensures.balanced tells [] e.0 (omega arith) past e.1) (c.in_ok-mv_add.ensures.change tells [] e.0 past)

pub returns-in_err-mv_add-clause-damaged : goal.returns-in_err-mv_add-clause-damaged
returns-in_err-mv_add-clause-damaged g c = λ page e tells ordered. (
    let is : c.default-tree.result ≡ empty_tree = search rules in
    let s = empty_stands (g.S.Pages.map c.args.stage.now) c.default-tree.result c.mv_laws.ensures.empty c.mv_laws.ensures.empty_balance is in
    let same = exit_error c.from_residual.result c.in_err-mv_add.field-0.0 (Damaged page) (err_from_is_err_and c.from_residual.result c.from_residual.ensures.1) e in
    c.in_err-mv_add.ensures.sound [] page tells s.0 (omega arith) (none_past _) s.1 ordered (ap Err same))

pub returns-in_err-mv_add-clause-few : goal.returns-in_err-mv_add-clause-few
returns-in_err-mv_add-clause-few g c = λ tells. (
    let is : c.default-tree.result ≡ empty_tree = search rules in
    let s = empty_stands (g.S.Pages.map c.args.stage.now) c.default-tree.result c.mv_laws.ensures.empty c.mv_laws.ensures.empty_balance is in
    let grows = c.in_err-mv_add.ensures.few [] tells s.0 (omega arith) (none_past _) s.1 in
    search rules)

pub returns-clause-few : goal.returns-clause-few
returns-clause-few g c = λ tells. (
    let is : c.default-tree.result ≡ empty_tree = search rules in
    let s = empty_stands (g.S.Pages.map c.args.stage.now) c.default-tree.result c.mv_laws.ensures.empty c.mv_laws.ensures.empty_balance is in
    let grows = c.in_ok-mv_add.ensures.few [] tells s.0 (omega arith) (none_past _) s.1 in
    search rules)
