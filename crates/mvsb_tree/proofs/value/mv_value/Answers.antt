use Rattle.std.proofs.Common.{◌≡◌, ◌≤◌, ℕ, Err, inr, arith, sym, subst, ap, ◌∙◌}
use Rattle.std.proofs.lemmas.Result.{err_from_is_err_and}
use Rattle.bw_types.specs.Digits.{digit_count}
use Rattle.ports.specs.Pages.{PageMap}
use Rattle.ports.specs.declared.page.PageFault.TheVariants.{Damaged}
use Rattle.mvsb_tree.specs.declared.place.Place.{Place}
use Rattle.mvsb_tree.specs.Damage.{IsDamagedFromRoot, root_place}
use Rattle.mvsb_tree.specs.Stands.{RootStands}
use Rattle.mvsb_tree.specs.Steps.{node_pages, root_at, root_level}
use Rattle.mvsb_tree.proofs.Costs.{directory_cost, root_named, root_place_same}
use Rattle.mvsb_tree.proofs.Exits.{exit_error, map_ok}
use Rattle.mvsb_tree.proofs.Sound.{root_has_level}
use Rattle.mvsb_tree.proofs.Values.{whole_from}
use Rattle.mvsb_tree.proofs.value.mv_value.Goals as goal

pub returns-in_err-root-clause-sound : goal.returns-in_err-root-clause-sound
returns-in_err-root-clause-sound g c = λ points page tells s e.
    let p = err_from_is_err_and c.from_residual.result c.from_residual.ensures.1 in
    let same = exit_error c.from_residual.result c.in_err-root.field-0.0 (Damaged page) p e in
    c.in_err-root.ensures.sound s.changes page tells s.roots (root_named (g.P.Pages.map c.args.pages.now) c.args.tree.now points c.args.version s c.ranges.version.fits) (ap Err same)

pub returns-in_err-root-clause-cost : goal.returns-in_err-root-clause-cost
returns-in_err-root-clause-cost g c = λ points tells s b.
    let cost = directory_cost (g.P.Pages.map c.args.pages.now) c.args.tree.now b in
    omega (arith, cost, c.root_at.ensures.reads.read.at_most)

pub returns-then-root-eq0-clause-cost : goal.returns-then-root-eq0-clause-cost
returns-then-root-eq0-clause-cost g c = λ points tells s b.
    let cost = directory_cost (g.P.Pages.map c.args.pages.now) c.args.tree.now b in
    omega (arith, cost, c.root_at.ensures.reads.read.at_most)

pub returns-clause-sound : goal.returns-clause-sound
returns-clause-sound g c = λ points page tells s e.
    let m : PageMap = g.P.Pages.map c.args.pages.now in
    let nodes = node_pages m c.args.tree.now in
    let root = c.in_ok-root.root in
    let v = c.args.version in
    let key = c.args.key in
    let at_root = subst (λ (r : ℕ). RootStands m nodes r v key) (sym (c.in_ok-root.ensures.root tells)) (s.nodes key v c.ranges.key.fits c.ranges.version.fits) in
    let there = subst (λ (n : PageMap). RootStands n nodes root v key) (sym c.root_at.ensures.reads.read.map) at_root in
    let placed = subst (λ (q : Place). RootStands (g.P.Pages.map c.root_at.new.pages) nodes root q.version q.key) (sym c.root_place.ensures) there in
    c.value_from.ensures.sound nodes page (c.root_at.ensures.reads.read.tells ∙ tells) (root_place_same c.root_place.result key v c.root_place.ensures) placed e

pub returns-clause-damaged : goal.returns-clause-damaged
returns-clause-damaged g c = λ page e tells.
    let m : PageMap = g.P.Pages.map c.args.pages.now in
    let root = c.in_ok-root.root in
    let root_is = c.in_ok-root.ensures.root tells in
    let d0 = c.value_from.ensures.damaged page e (c.root_at.ensures.reads.read.tells ∙ tells) in
    let d1 = subst (λ (n : PageMap). IsDamagedFromRoot n root c.root_place.result page) c.root_at.ensures.reads.read.map d0 in
    let d2 = subst (λ (q : Place). IsDamagedFromRoot m root q page) c.root_place.ensures d1 in
    let d3 = subst (λ (r : ℕ). IsDamagedFromRoot m r (root_place c.args.key c.args.version) page) root_is d2 in
    inr (c.in_ok-root.ensures.whole tells, (λ none. c.if-root-eq0.false (root_is ∙ none)), d3)

pub returns-clause-cost : goal.returns-clause-cost
returns-clause-cost g c = λ points tells s b.
    let m : PageMap = g.P.Pages.map c.args.pages.now in
    let nodes = node_pages m c.args.tree.now in
    let root = c.in_ok-root.root in
    let v = c.args.version in
    let key = c.args.key in
    let directory = directory_cost m c.args.tree.now b in
    let at_root = subst (λ (r : ℕ). RootStands m nodes r v key) (sym (c.in_ok-root.ensures.root tells)) (s.nodes key v c.ranges.key.fits c.ranges.version.fits) in
    let some : 1 ≤ root_level m root = root_has_level m nodes root key v c.if-root-eq0.false at_root in
    let low : root_level m root ≤ digit_count 24 c.args.tree.now.count = subst (λ (r : ℕ). root_level m r ≤ digit_count 24 c.args.tree.now.count) (sym (c.in_ok-root.ensures.root tells)) (b.roots v c.ranges.version.fits) in
    let same = ap (λ (n : PageMap). root_level n root) c.root_at.ensures.reads.read.map in
    let cost = c.value_from.ensures.cost (c.root_at.ensures.reads.read.tells ∙ tells) (subst (λ (l : ℕ). 1 ≤ l) (sym same) some) in
    omega (arith, directory, low, same, cost, c.root_at.ensures.reads.read.at_most)

pub returns-clause-height : goal.returns-clause-height
returns-clause-height g c = λ tells some.
    let root : ℕ = c.in_ok-root.root in
    let at_root : root_level (g.P.Pages.map c.args.pages.now) root ≡ root_level (g.P.Pages.map c.args.pages.now) (root_at (g.P.Pages.map c.args.pages.now) c.args.tree.now c.args.version) =
    ap (root_level (g.P.Pages.map c.args.pages.now)) (c.in_ok-root.ensures.root tells) in
    let same : root_level (g.P.Pages.map c.root_at.new.pages) root ≡ root_level (g.P.Pages.map c.args.pages.now) root =
    ap (λ (n : PageMap). root_level n root) c.root_at.ensures.reads.read.map in
    let cost = c.value_from.ensures.cost (c.root_at.ensures.reads.read.tells ∙ tells) (subst (λ (l : ℕ). 1 ≤ l) (sym (same ∙ at_root)) some) in
    omega (arith, at_root, same, cost, c.root_at.ensures.reads.read.at_most)

pub returns-clause-whole : goal.returns-clause-whole
returns-clause-whole g c = map_ok c.value_from.result (λ value none tells.
    let m : PageMap = g.P.Pages.map c.args.pages.now in
    let root = c.in_ok-root.root in
    let there = none (c.root_at.ensures.reads.read.tells ∙ tells) in
    let here = subst (λ (n : PageMap). (page : ℕ) → IsDamagedFromRoot n root c.root_place.result page → ⊥) c.root_at.ensures.reads.read.map there in
    let placed = subst (λ (q : Place). (page : ℕ) → IsDamagedFromRoot m root q page → ⊥) c.root_place.ensures here in
    whole_from m c.args.tree.now c.args.key c.args.version root (c.in_ok-root.ensures.root tells) (c.in_ok-root.ensures.whole tells) placed) c.value_from.ensures.whole
