use Rattle.std.proofs.Common.{◌≡◌, ◌↔◌, ◌++◌, ◌^◌, ℕ, Bool, IsTrue, List, Ok, ap, sym, ◌∙◌, subst}
use Rattle.std.proofs.lemmas.Bool.{false≢true}
use Rattle.bw_types.specs.declared.point.Point.{Point}
use Rattle.bw_types.specs.declared.tree.Tree.{Tree}
use Rattle.ports.specs.Pages.{PageMap}
use Rattle.page_layout.specs.Footprint.{NamesNoneTwice}
use Rattle.mvsb_tree.specs.Steps.{directory, node_pages}
use Rattle.key_check.specs.Changes.{StandsForChanges}
use Rattle.key_check.specs.KeyTrees.{IsRooted, RootsKeep, ValuesKeep}
use Rattle.key_check.specs.Steps.{AscendFrom}
use Rattle.key_check.specs.Walks.{IsWalk}
use Rattle.key_check.specs.declared.step.Step.{Step}
use Rattle.key_check.specs.declared.version_tree.Walk.{Walk}
use Rattle.key_check.proofs.Assembling.{IsChain, chain_from_stands, decided, rooted_from, roots_from, values_from, walk_ascends}
use Rattle.key_check.proofs.key_tree.key_tree_stands.Goals as goal

pub returns-then-not-is_rooted-clause-stands : goal.returns-then-not-is_rooted-clause-stands
returns-then-not-is_rooted-clause-stands g c = λ tells.
    let m : PageMap = g.P.Pages.map c.args.pages.now in
    let w : IsWalk m (directory c.args.tree.now) c.in-Some.walk =
    subst (λ (t : Tree). IsWalk m t c.in-Some.walk) c.directory_of.ensures (c.in_ok-walk.ensures.some c.in-Some.walk (ap Ok c.in-Some.is) tells).0 in
    let a : AscendFrom 0 c.as_slice.result.now (2 ^ 32) = subst (λ (ss : List Step). AscendFrom 0 ss (2 ^ 32)) (sym c.as_slice.ensures.value) (walk_ascends m c.args.tree.now c.in-Some.walk w) in (
      λ never. absurd (false≢true never),
      λ both. sym c.if-not-is_rooted.true ∙ (c.is_rooted.ensures a).1
          (subst (λ (ss : List Step). IsRooted ss c.args.points.now) (sym c.as_slice.ensures.value) (rooted_from m c.args.tree.now c.args.points.now c.in-Some.walk w both)),
    )

pub returns-then-not-branch-clause-stands : goal.returns-then-not-branch-clause-stands
returns-then-not-branch-clause-stands g c = λ tells.
    let m : PageMap = g.P.Pages.map c.args.pages.now in
    let told : IsTrue (g.P.Pages.tells c.walk_changes.new.pages) = subst (λ (b : Bool). IsTrue b) (sym c.in_ok-walk.ensures.reads.read.tells) tells in (
      λ never. absurd (false≢true never),
      λ both.
          let chain : IsChain (g.P.Pages.map c.walk_changes.new.pages) c.args.tree.now c.args.points.now =
          subst (λ (x : PageMap). IsChain x c.args.tree.now c.args.points.now) (sym c.in_ok-walk.ensures.reads.read.map) (chain_from_stands m c.args.tree.now c.args.points.now both) in
          absurd (c.in_ok-walk_chain.ensures.refused c.args.points.now c.in_ok-marks.ensures.same (ap Ok c.if-not-branch.true) told chain.0 chain.1),
    )

pub returns-clause-stands : goal.returns-clause-stands
returns-clause-stands g c = λ tells.
    let m : PageMap = g.P.Pages.map c.args.pages.now in
    let tree : Tree = c.args.tree.now in
    let points : List Point = c.args.points.now in
    let walk : Walk = c.in-Some.walk in
    let nodes : List ℕ = c.walk_chain.new.named.items in
    let m1 : PageMap = g.P.Pages.map c.walk_changes.new.pages in
    let e1 : m1 ≡ m = c.in_ok-walk.ensures.reads.read.map in
    let told1 : IsTrue (g.P.Pages.tells c.walk_changes.new.pages) = subst (λ (b : Bool). IsTrue b) (sym c.in_ok-walk.ensures.reads.read.tells) tells in
    let m2 : PageMap = g.P.Pages.map c.walk_chain.new.pages in
    let e2 : m2 ≡ m = c.in_ok-walk_chain.ensures.reads.read.map ∙ e1 in
    let told2 : IsTrue (g.P.Pages.tells c.walk_chain.new.pages) = subst (λ (b : Bool). IsTrue b) (sym c.in_ok-walk_chain.ensures.reads.read.tells) told1 in
    let found : IsWalk m (directory tree) walk × (NamesNoneTwice walk.named.items → StandsForChanges m (directory tree) points) =
    subst (λ (t : Tree). IsWalk m t walk × (NamesNoneTwice walk.named.items → StandsForChanges m t points)) c.directory_of.ensures (c.in_ok-walk.ensures.some walk (ap Ok c.in-Some.is) tells) in
    let ascend : AscendFrom 0 walk.steps.items (2 ^ 32) = walk_ascends m tree walk found.0 in
    let a : AscendFrom 0 c.as_slice.result.now (2 ^ 32) = subst (λ (ss : List Step). AscendFrom 0 ss (2 ^ 32)) (sym c.as_slice.ensures.value) ascend in
    let a3 : AscendFrom 0 c.as_slice-3.result.now (2 ^ 32) = subst (λ (ss : List Step). AscendFrom 0 ss (2 ^ 32)) (sym c.as_slice-3.ensures.value) ascend in
    let rooted : IsRooted walk.steps.items points = subst (λ (ss : List Step). IsRooted ss points) c.as_slice.ensures.value ((c.is_rooted.ensures a).0 c.if-not-is_rooted.false) in
    let chain : IsChain m tree points = subst (λ (x : PageMap). IsChain x tree points) e1 (c.in_ok-walk_chain.ensures.stands points c.in_ok-marks.ensures.same (ap Ok c.if-not-branch.false) told1) in
    let listed : nodes ≡ node_pages m tree =
    c.in_ok-walk_chain.ensures.named (ap Ok c.if-not-branch.false) told1 ∙ ap (λ (ps : List ℕ). ps ++ node_pages m1 tree) c.new-nodes.ensures.items ∙ ap (λ (x : PageMap). node_pages x tree) e1 in
    let once : NamesNoneTwice (walk.named.items ++ nodes) =
    subst (λ (ps : List ℕ). NamesNoneTwice (walk.named.items ++ ps)) c.as_slice-2.ensures.value (c.in_ok-name_once.ensures.once.0 c.if-not-branch-2.false) in
    let roots : IsTrue c.in_ok-roots_stand.field-0 ↔ (RootsKeep m nodes tree.count walk.steps.items (2 ^ 32) × ValuesKeep m walk.steps.items points) =
    subst (λ (ss : List Step). IsTrue c.in_ok-roots_stand.field-0 ↔ (RootsKeep m nodes tree.count ss (2 ^ 32) × ValuesKeep m ss points)) c.as_slice-3.ensures.value
    (subst (λ (x : PageMap). IsTrue c.in_ok-roots_stand.field-0 ↔ (RootsKeep x nodes tree.count c.as_slice-3.result.now (2 ^ 32) × ValuesKeep x c.as_slice-3.result.now points)) e2
    (c.in_ok-roots_stand.ensures.stands told2 a3)) in (
      λ yes. decided m tree points walk nodes (c.has_key_numbers.ensures.0 c.if-not-has_key_numbers.false) found.0 found.1 rooted chain listed once (roots.0 yes).0 (roots.0 yes).1,
      λ both. roots.1 (roots_from m tree points walk nodes found.0 listed both, values_from m tree points walk found.0 both),
    )
