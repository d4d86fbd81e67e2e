use Rattle.std.proofs.Common.{◌≡◌, ◌⊎◌, ◌^◌, ◌<◌, ◌≤◌, inl, inr, ℕ, List, [], ◌∷◌, Some, None, Err, IsTrue, refl, sym, ap, ◌∙◌, subst, arith, rules}
use Rattle.std.proofs.lemmas.Result.{err_from_is_err_and}
use Rattle.bw_types.specs.declared.point.Point.{Point}
use Rattle.bw_types.specs.declared.tree.Tree.{Tree}
use Rattle.ports.specs.Pages.{PageMap}
use Rattle.ports.specs.declared.page.StageFault.TheVariants.{Damaged}
use Rattle.mvsb_tree.specs.AddDamage.{IsDamagedAtRoot, IsDamagedForRoot, IsRootClosed, IsWholeFromRoot, KeepsDirectories}
use Rattle.mvsb_tree.specs.Damage.{IsWholeToRoot}
use Rattle.mvsb_tree.specs.Grown.{NodesHold}
use Rattle.mvsb_tree.specs.Stands.{ChainStands, StandsOnWay, is_marked}
use Rattle.mvsb_tree.specs.Steps.{chain_from, place_count, root_at, root_level}
use Rattle.mvsb_tree.specs.Tops.{RootAdded}
use Rattle.mvsb_tree.proofs.Beginning.{begun_root, first_of_tree, root_ways}
use Rattle.mvsb_tree.proofs.Whole.{marked_own, nodes_hold}
use Rattle.mvsb_tree.proofs.Costs.{low_moved, root_named}
use Rattle.mvsb_tree.proofs.Directories.{made_keeps}
use Rattle.mvsb_tree.proofs.Exits.{err_same_staged, exit_error, read_damaged}
use Rattle.mvsb_tree.proofs.add.add_to_nodes.Goals as goal

pub returns-then-tree-eq0-clause-added : goal.returns-then-tree-eq0-clause-added
returns-then-tree-eq0-clause-added g c = λ tells points p s past key_is.
    let m0 : PageMap = g.S.Pages.map c.args.stage.now in
    let made = c.in_ok-top.ensures.made tells in
    let no_page : (bytes : List ℕ) → m0 0 ≡ Some bytes → ⊥ = λ bytes there. (let three = g.met.S.Stage.from_three c.args.stage.now 0 bytes tells there in omega (arith, three)) in
    first_of_tree m0 (g.S.Pages.map c.first_leaf.new.stage) c.args.tree.now points p c.in_ok-top.top c.args.key c.args.version c.args.value c.args.last.now s c.if-tree-eq0.true c.requires.last c.requires.version c.ranges.key.fits c.ranges.value.fits key_is
    no_page c.in_ok-top.ensures.number c.in_ok-top.ensures.rules made.0 made.1 made.2

pub returns-clause-added : goal.returns-clause-added
returns-clause-added g c = λ tells points p s past key_is.
    let m0 : PageMap = g.S.Pages.map c.args.stage.now in
    let mx : PageMap = g.S.Pages.map c.root_at.new.pages in
    let m1 : PageMap = g.S.Pages.map c.add_at_root.new.stage in
    let tree = c.args.tree.now in
    let v = c.args.version in
    let key = c.args.key in
    let root = c.in_ok-root.root in
    let top = c.in_ok-top-2.top in
    let last = c.args.last.now in
    let new_last = c.add_at_root.new.last in
    let test = is_marked (p ∷ points) in
    let places = place_count m0 tree in
    let Adds : PageMap → Type 0 = λ m. IsTrue (test key) → ChainStands places m last → NodesHold v test m (chain_from places m last)
    → ((q : ℕ) → q < 2 ^ 64 → StandsOnWay (root_level m root) m (chain_from places m last) root v q 0 None 1) → RootAdded test m m1 root top v key c.args.value places last new_last in
    let a0 : Adds mx = c.in_ok-top-2.ensures.added (search rules) test places in
    let a1 : Adds m0 = subst (λ (m : PageMap). Adds m) c.root_at.ensures.reads.read.map a0 in
    let root_is : root ≡ root_at m0 tree v = c.in_ok-root.ensures.root tells in
    let last_is : tree.last ≡ last = sym c.requires.last in
    let ways = root_ways m0 tree points v root s past c.if-tree-eq0.false c.requires.version root_is in
    a1 (marked_own points p key key_is) (subst (λ (l : ℕ). ChainStands places m0 l) last_is s.chain) (subst (λ (l : ℕ). NodesHold v test m0 (chain_from places m0 l)) last_is (nodes_hold m0 tree points p v s past))
    (subst (λ (l : ℕ). (q : ℕ) → q < 2 ^ 64 → StandsOnWay (root_level m0 root) m0 (chain_from places m0 l) root v q 0 None 1) last_is ways)

pub returns-in_err-top-2-clause-few : goal.returns-in_err-top-2-clause-few
returns-in_err-top-2-clause-few g c = λ points tells s few b. (
    let low = low_moved (g.S.Pages.map c.args.stage.now) (g.S.Pages.map c.root_at.new.pages) c.args.tree.now points c.args.version c.in_ok-root.root s few b c.ranges.version.fits c.root_at.ensures.reads.read.map (c.in_ok-root.ensures.root tells) in
    let grows = c.in_err-top-2.ensures.few 7 (c.root_at.ensures.reads.read.tells ∙ tells) low in
    search rules)

pub returns-clause-few : goal.returns-clause-few
returns-clause-few g c = λ points tells s few b. (
    let low = low_moved (g.S.Pages.map c.args.stage.now) (g.S.Pages.map c.root_at.new.pages) c.args.tree.now points c.args.version c.in_ok-root.root s few b c.ranges.version.fits c.root_at.ensures.reads.read.map (c.in_ok-root.ensures.root tells) in
    let grows = c.in_ok-top-2.ensures.few 7 (c.root_at.ensures.reads.read.tells ∙ tells) low in
    search rules)

pub returns-in_err-root-clause-sound : goal.returns-in_err-root-clause-sound
returns-in_err-root-clause-sound g c = λ points page tells s few past b ordered e. (
    let told = err_from_is_err_and c.from_residual-in_err-root.result c.from_residual-in_err-root.ensures.1 in
    let same = read_damaged c.from_residual-in_err-root.result c.in_err-root.field-0.0 page told e in
    c.in_err-root.ensures.sound s.changes page tells s.roots (root_named (g.S.Pages.map c.args.stage.now) c.args.tree.now points c.args.version s c.ranges.version.fits) (ap Err same))

pub returns-in_err-top-2-clause-sound : goal.returns-in_err-top-2-clause-sound
returns-in_err-top-2-clause-sound g c = λ points page tells s few past b ordered e. (
    let m0 : PageMap = g.S.Pages.map c.args.stage.now in
    let tree = c.args.tree.now in
    let v = c.args.version in
    let key = c.args.key in
    let root = c.in_ok-root.root in
    let last = c.args.last.now in
    let p : Point = record { keys = key ∷ []; version = v; weight = 0 } in
    let test = is_marked (p ∷ points) in
    let places = place_count m0 tree in
    let told = err_from_is_err_and c.from_residual-in_err-top-2.result c.from_residual-in_err-top-2.ensures.1 in
    let same = exit_error c.from_residual-in_err-top-2.result c.in_err-top-2.field-0.0 (Damaged page) told e in
    let read = c.root_at.ensures.reads.read in
    let RootFails : PageMap → Type 0 = λ m. IsTrue (test key) → ChainStands places m last → NodesHold v test m (chain_from places m last)
    → ((q : ℕ) → q < 2 ^ 64 → StandsOnWay (root_level m root) m (chain_from places m last) root v q 0 None 1) → root_level m root ≤ 15 → ⊥ in
    let f0 : RootFails (g.S.Pages.map c.root_at.new.pages) = λ kt s1 h1 w1 low1. c.in_err-top-2.ensures.sound test places page (read.tells ∙ tells) kt s1 h1 w1 low1 (read.free_in_order ordered) (ap Err same) in
    let f1 : RootFails m0 = subst (λ (m : PageMap). RootFails m) read.map f0 in
    let root_is : root ≡ root_at m0 tree v = c.in_ok-root.ensures.root tells in
    let last_is : tree.last ≡ last = sym c.requires.last in
    let ways = root_ways m0 tree points v root s past c.if-tree-eq0.false c.requires.version root_is in
    let low = low_moved m0 m0 tree points v root s few b c.ranges.version.fits refl root_is in
    f1 (marked_own points p key refl) (subst (λ (l : ℕ). ChainStands places m0 l) last_is s.chain) (subst (λ (l : ℕ). NodesHold v test m0 (chain_from places m0 l)) last_is (nodes_hold m0 tree points p v s past))
    (subst (λ (l : ℕ). (q : ℕ) → q < 2 ^ 64 → StandsOnWay (root_level m0 root) m0 (chain_from places m0 l) root v q 0 None 1) last_is ways) (omega (arith, low)))

-- Looking for the root finds nothing damaged, where reading it does not, and there is one.
root_found : (tree : Tree) (m : PageMap) (v : ℕ)
    → IsWholeToRoot m tree v → (root_at m tree v ≡ 0 → ⊥)
    → (page : ℕ) → IsDamagedForRoot m tree v page → ⊥
root_found tree m v whole some page (inl way) = whole page way
root_found tree m v whole some page (inr none) = some none.2

pub returns-in_err-root-clause-damaged : goal.returns-in_err-root-clause-damaged
returns-in_err-root-clause-damaged g c = λ page e tells. (
    let told = err_from_is_err_and c.from_residual-in_err-root.result c.from_residual-in_err-root.ensures.1 in
    let same = read_damaged c.from_residual-in_err-root.result c.in_err-root.field-0.0 page told e in
    inl (
      c.if-tree-eq0.false,
      inl (inl (c.in_err-root.ensures.damaged page (ap Err same) tells)),
    ))

pub returns-then-root-eq0-clause-damaged : goal.returns-then-root-eq0-clause-damaged
returns-then-root-eq0-clause-damaged g c = λ page e tells.
    inl (c.if-tree-eq0.false, inl (inr (c.in_ok-root.ensures.whole tells, sym (err_same_staged c.args.tree.now.root page e), sym (c.in_ok-root.ensures.root tells) ∙ c.if-root-eq0.true)))

pub returns-then-root-eq0-clause-sound : goal.returns-then-root-eq0-clause-sound
returns-then-root-eq0-clause-sound g c = λ points page tells s few past b ordered e. (
    let m0 : PageMap = g.S.Pages.map c.args.stage.now in
    begun_root m0 c.args.tree.now points c.args.version s past c.if-tree-eq0.false c.requires.version (sym (c.in_ok-root.ensures.root tells) ∙ c.if-root-eq0.true))

pub returns-in_err-top-2-clause-damaged : goal.returns-in_err-top-2-clause-damaged
returns-in_err-top-2-clause-damaged g c = λ page e tells. (
    let m0 : PageMap = g.S.Pages.map c.args.stage.now in
    let tree = c.args.tree.now in
    let v = c.args.version in
    let key = c.args.key in
    let root = c.in_ok-root.root in
    let told = err_from_is_err_and c.from_residual-in_err-top-2.result c.from_residual-in_err-top-2.ensures.1 in
    let same = exit_error c.from_residual-in_err-top-2.result c.in_err-top-2.field-0.0 (Damaged page) told e in
    let read = c.root_at.ensures.reads.read in
    let root_is : root ≡ root_at m0 tree v = c.in_ok-root.ensures.root tells in
    elim (c.in_err-top-2.ensures.damaged page (ap Err same) (read.tells ∙ tells)) [
      | inl found ↦
          let d0 = subst (λ (m : PageMap). IsDamagedAtRoot m root key v c.args.value c.args.last.now tree.root page) read.map found in
          let d1 = subst (λ (r : ℕ). IsDamagedAtRoot m0 r key v c.args.value c.args.last.now tree.root page) root_is d0 in
          inl (c.if-tree-eq0.false, inr (root_found c.args.tree.now (g.S.Pages.map c.args.stage.now) v (c.in_ok-root.ensures.whole tells) (λ none. c.if-root-eq0.false (root_is ∙ none)), (subst (λ (l : ℕ). IsDamagedAtRoot m0 (root_at m0 tree v) key v c.args.value l tree.root page) c.requires.last d1)))
      | inr unordered ↦ inr (λ ordered. unordered (read.free_in_order ordered))
    ])

pub returns-clause-directories : goal.returns-clause-directories
returns-clause-directories g c = λ tells.
    subst (λ (m : PageMap). KeepsDirectories m (g.S.Pages.map c.add_at_root.new.stage)) c.root_at.ensures.reads.read.map (c.in_ok-top-2.ensures.directories (c.root_at.ensures.reads.read.tells ∙ tells))

pub returns-then-tree-eq0-clause-directories : goal.returns-then-tree-eq0-clause-directories
returns-then-tree-eq0-clause-directories g c = λ tells.
    let made = c.in_ok-top.ensures.made tells in
    made_keeps (g.S.Pages.map c.args.stage.now) (g.S.Pages.map c.first_leaf.new.stage) c.in_ok-top.top _ made.0 made.1 made.2

pub returns-clause-whole : goal.returns-clause-whole
returns-clause-whole g c = λ tells some.
    let m0 : PageMap = g.S.Pages.map c.args.stage.now in
    let tree = c.args.tree.now in
    let v = c.args.version in
    let key = c.args.key in
    let root = c.in_ok-root.root in
    let read = c.root_at.ensures.reads.read in
    let root_is : root ≡ root_at m0 tree v = c.in_ok-root.ensures.root tells in
    let w0 = subst (λ (m : PageMap). IsWholeFromRoot m root key v) read.map (c.in_ok-top-2.ensures.whole (read.tells ∙ tells)) in
    record {
      to_root = root_found tree m0 v (c.in_ok-root.ensures.whole tells) (λ none. c.if-root-eq0.false (root_is ∙ none));
      nodes = subst (λ (r : ℕ). IsWholeFromRoot m0 r key v) root_is w0;
    }

pub returns-clause-closed : goal.returns-clause-closed
returns-clause-closed g c = λ tells.
    let m0 : PageMap = g.S.Pages.map c.args.stage.now in
    let read = c.root_at.ensures.reads.read in
    let root = c.in_ok-root.root in
    let c0 = c.in_ok-top-2.ensures.closed (read.tells ∙ tells) in
    let c1 = subst (λ (m : PageMap). (c.in_ok-top-2.top ≡ root) ⊎ IsRootClosed m root c.args.key c.args.version c.args.value) read.map c0 in
    elim c1 [
      | inl same ↦ inl same
      | inr closed ↦ inr (inr (subst (λ (r : ℕ). IsRootClosed m0 r c.args.key c.args.version c.args.value) (c.in_ok-root.ensures.root tells) closed))
    ]

pub returns-then-tree-eq0-clause-ends : goal.returns-then-tree-eq0-clause-ends
returns-then-tree-eq0-clause-ends g c = λ tells. inr (c.in_ok-top.ensures.made tells).0

pub returns-clause-ends : goal.returns-clause-ends
returns-clause-ends g c = λ tells.
    let read = c.root_at.ensures.reads.read in
    subst (λ (m : PageMap). (c.add_at_root.new.last ≡ c.args.last.now) ⊎ (m c.add_at_root.new.last ≡ None)) read.map (c.in_ok-top-2.ensures.ends (read.tells ∙ tells))
