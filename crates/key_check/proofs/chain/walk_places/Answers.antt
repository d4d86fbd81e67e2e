use Rattle.std.proofs.Common.{rules, ◌≡◌, List, Bool, IsTrue, Ok, ap, sym, ◌∙◌, subst}
use Rattle.bw_types.specs.declared.point.Point.{Point}
use Rattle.ports.specs.Pages.{PageMap}
use Rattle.mvsb_tree.specs.Steps.{node_on}
use Rattle.key_check.specs.Chains.{PlaceKeeps}
use Rattle.key_check.specs.Marks.{AreMarksOf}
use Rattle.key_check.proofs.Chaining.{chain_down, chain_listed, chain_place, chain_up}
use Rattle.key_check.proofs.chain.walk_places.Goals as goal

pub returns-in_default-clause-refused : goal.returns-in_default-clause-refused
returns-in_default-clause-refused g c = λ points marks _ tells s.
    let m : PageMap = g.P.Pages.map c.args.pages.now in
    let told : IsTrue (g.P.Pages.tells c.loop-left.pages) = subst (λ (b : Bool). IsTrue b) (sym c.loop-left.invariant.read.tells) tells in
    c.in_ok-before.ensures.none points marks (ap Ok c.in_default.is) told
    (subst (λ (x : PageMap). PlaceKeeps x points c.loop-left.left c.loop-left.page) (sym c.loop-left.invariant.read.map)
    (chain_place c.loop-left.left m points c.loop-left.page c.loop-left-test.true (c.loop-left.invariant.down points marks tells s)))

pub loop-left-preserved : goal.loop-left-preserved
loop-left-preserved g c =
    let m : PageMap = g.P.Pages.map c.args.pages.now in
    let told : IsTrue (g.P.Pages.tells c.args.pages.now) → IsTrue (g.P.Pages.tells c.loop-left.pages) = λ tells. subst (λ (b : Bool). IsTrue b) (sym c.loop-left.invariant.read.tells) tells in
    let next : IsTrue (g.P.Pages.tells c.args.pages.now) → (node_on m c.loop-left.page).before ≡ c.in-Some.before = λ tells.
    ap (λ (x : PageMap). (node_on x c.loop-left.page).before) (sym c.loop-left.invariant.read.map) ∙ c.in_ok-before.ensures.before c.in-Some.before (ap Ok c.in-Some.is) (told tells) in
    let keeps : (points : List Point) → AreMarksOf points c.args.marks.now → IsTrue (g.P.Pages.tells c.args.pages.now) → PlaceKeeps m points c.loop-left.left c.loop-left.page = λ points marks tells.
    subst (λ (x : PageMap). PlaceKeeps x points c.loop-left.left c.loop-left.page) c.loop-left.invariant.read.map
    (c.in_ok-before.ensures.some points c.in-Some.before marks (ap Ok c.in-Some.is) (told tells)) in
    record {
      up = λ points marks tells s. c.loop-left.invariant.up points marks tells
          (chain_up c.loop-left.left m points c.loop-left.page c.in-Some.before c.loop-left-test.true (keeps points marks tells) (next tells) s);
      down = λ points marks tells s. chain_down c.loop-left.left m points c.loop-left.page c.in-Some.before c.loop-left-test.true (next tells) (c.loop-left.invariant.down points marks tells s);
      listed = λ tells. chain_listed c.loop-left.left m c.loop-left.page c.in-Some.before c.loop-left.named.items c.push_page.new.named.items _ c.loop-left-test.true (next tells)
          (c.loop-left.invariant.listed tells) c.in_ok-push_page.ensures;
      read = search rules;
    }
