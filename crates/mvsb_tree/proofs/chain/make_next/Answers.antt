use Rattle.std.proofs.Common.{◌≡◌, ◌+◌, ◌≤◌, ◌<◌, inl, inr, ℕ, Some, None, IsTrue, Err, sym, ap, ◌∙◌, subst, arith, rules}
use Rattle.std.proofs.lemmas.Result.{err_from_is_err_and}
use Rattle.ports.specs.Pages.{PageMap}
use Rattle.page_layout.specs.MvNode.{mv_node_page}
use Rattle.page_layout.specs.declared.mv_node.MvNode.{MvNode}
use Rattle.mvsb_tree.specs.Stored.{next_node}
use Rattle.mvsb_tree.specs.Steps.{node_on}
use Rattle.mvsb_tree.proofs.Exits.{err_same_staged, read_damaged}
use Rattle.mvsb_tree.proofs.Nodes.{node_on-spelled}
use Rattle.mvsb_tree.proofs.Storing.{next_rules, next_typed, same_next}
use Rattle.mvsb_tree.proofs.chain.make_next.Goals.{then-before-via-then-before, then-before-via-else-before+then-last-eq0}
use Rattle.mvsb_tree.proofs.Lasting.{InBounds, last_sound}
use Rattle.mvsb_tree.proofs.chain.make_next.Given
use Rattle.mvsb_tree.proofs.chain.make_next.Goals as goal

pub returns-then-before-clause-damaged : goal.returns-then-before-clause-damaged
returns-then-before-clause-damaged g c = λ p e tells.
    let m : PageMap = g.S.Pages.map c.args.stage.now in
    let spells = c.in_ok-before.ensures.spells in
    let there = c.in_ok-before.ensures.found tells in
    let on = node_on-spelled m c.args.last.now c.in_ok-before.before spells.typed spells.rules there in
    elim c.then-before.branch [
      | then-before-via-then-before w ↦ inl (sym (err_same_staged c.args.last.now p e), inr (ap (λ (n : MvNode). n.place) on ∙ w.if-before.true))
      | then-before-via-else-before+then-last-eq0 w ↦
          let three = g.met.S.Stage.from_three c.args.stage.now c.args.last.now _ tells there in
          absurd (omega (arith, three, w.if-last-eq0.true))
    ]

pub returns-clause-made : goal.returns-clause-made
returns-clause-made g c = λ tells.
    let m : PageMap = g.S.Pages.map c.args.stage.now in
    let last = c.args.last.now in
    let spells = c.in_ok-before.ensures.spells in
    let there = c.in_ok-before.ensures.found tells in
    let on = node_on-spelled m last c.in_ok-before.before spells.typed spells.rules there in
    let place : c.in_ok-before.before.place ≡ (node_on m last).place = sym (ap (λ (n : MvNode). n.place) on) in
    let made = c.in_ok-page.ensures.made (search rules) in
    let same : c.next_node-node.result ≡ next_node m last c.args.node = same_next m last c.args.node c.next_node-node.result
    c.next_node-node.ensures.level (c.next_node-node.ensures.place ∙ ap (λ (n : ℕ). n + 1) place) c.next_node-node.ensures.before c.next_node-node.ensures.entries in
    let is_some : 1 ≤ last = omega (arith, c.if-last-eq0.false) in
    record {
      fresh = subst (λ (n : PageMap). n c.in_ok-page.page ≡ None) c.read_page.ensures.reads.read.map made.0;
      made = made.1 ∙ ap (λ (n : MvNode). Some (mv_node_page n)) same;
      others = λ q other. made.2 q other ∙ ap (λ (n : PageMap). n q) c.read_page.ensures.reads.read.map;
      rules = next_rules m last c.args.node (spells.rules.place) place is_some c.requires.level.0 c.requires.level.1 c.requires.count.0 c.requires.count.1 c.requires.entries;
      typed = λ all. next_typed m last c.args.node (let fits : (node_on m last).place + 1 < 4294967296 = omega (arith, place, c.if-before.false, spells.typed.place) in fits) (search rules) all;
    }

-- Each page of a stage is within its bounds.
within : (g : Given.Over) (stage : g.row.S.Denot) → IsTrue (g.S.Pages.tells stage) → InBounds (g.S.Pages.map stage) 4294967295
within g stage tells = λ page bytes there. (
  g.met.S.Stage.from_three stage page bytes tells there,
  omega (arith, g.met.S.Stage.below_allotted stage page bytes tells there, g.met.S.Stage.within_limit stage, g.met.S.Stage.limit_fits stage),
)

pub returns-in_err-before-clause-sound : goal.returns-in_err-before-clause-sound
returns-in_err-before-clause-sound g c = λ places p tells s some ordered e. (
    let told = err_from_is_err_and c.from_residual.result c.from_residual.ensures.1 in
    let same = read_damaged c.from_residual.result c.in_err-before.field-0.0 p told e in
    let why = c.in_err-before.ensures.damaged p (ap Err same) in
    last_sound (g.S.Pages.map c.args.stage.now) places c.args.last.now p (within g c.args.stage.now tells) some s (why.0, inl (why.1 tells)))

pub returns-then-before-clause-sound : goal.returns-then-before-clause-sound
returns-then-before-clause-sound g c = λ places p tells s some ordered e.
    elim (returns-then-before-clause-damaged g c p e tells) [
      | inl damaged ↦ last_sound (g.S.Pages.map c.args.stage.now) places c.args.last.now p (within g c.args.stage.now tells) some s damaged
      | inr unordered ↦ unordered ordered
    ]
