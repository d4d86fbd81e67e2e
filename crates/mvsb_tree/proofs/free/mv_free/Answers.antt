use Rattle.std.proofs.Common.{◌++◌, ℕ, [], Err, rules, subst, ap}
use Rattle.std.proofs.lemmas.Result.{err_from_is_err_and, on_ok_weaker}
use Rattle.bw_types.specs.declared.tree.Tree.{Tree}
use Rattle.ports.specs.FrameLaws.{Replaces-same}
use Rattle.ports.specs.Pages.{PageMap}
use Rattle.ports.specs.declared.page.StageFault.TheVariants.{Damaged}
use Rattle.page_layout.specs.Footprint.{NamesNoneTwice}
use Rattle.sb_tree.specs.Steps as over_versions
use Rattle.mvsb_tree.specs.Damage.{IsDamagedInChain}
use Rattle.mvsb_tree.specs.Stands.{ChainStands}
use Rattle.mvsb_tree.specs.Steps.{chain_from, directory}
use Rattle.mvsb_tree.proofs.Chains.{chain_damage}
use Rattle.mvsb_tree.proofs.DamageBefore.{chain_damaged, directory_damaged, last_damaged}
use Rattle.mvsb_tree.proofs.Dropping.{directory_dropped, dropped_here, no_places, places_before, tree_dropped}
use Rattle.mvsb_tree.proofs.Exits.{both_ok, exit_error, read_damaged}
use Rattle.mvsb_tree.proofs.Freeing.{chain_still_stands, last_spelled, left_agree}
use Rattle.mvsb_tree.proofs.free.mv_free.Goals as goal

pub returns-in_err-node-clause-damaged : goal.returns-in_err-node-clause-damaged
returns-in_err-node-clause-damaged g c = λ page e tells.
    let told = err_from_is_err_and c.from_residual.result c.from_residual.ensures.1 in
    let same = read_damaged c.from_residual.result c.in_err-node.field-0.0 page told e in
    let why = c.in_err-node.ensures.damaged page (ap Err same) in
    last_damaged c.args.tree.now (g.S.Pages.map c.args.stage.now) page c.if-tree-eq0.false why.0 (why.1 tells)

pub returns-in_err-node-clause-sound : goal.returns-in_err-node-clause-sound
returns-in_err-node-clause-sound g c = λ points page tells s e.
    let told = err_from_is_err_and c.from_residual.result c.from_residual.ensures.1 in
    let same = read_damaged c.from_residual.result c.in_err-node.field-0.0 page told e in
    let why = c.in_err-node.ensures.damaged page (ap Err same) in
    last_spelled (g.S.Pages.map c.args.stage.now) c.args.tree.now points s c.if-tree-eq0.false (why.1 tells)

pub returns-in_err-sb_free-clause-damaged : goal.returns-in_err-sb_free-clause-damaged
returns-in_err-sb_free-clause-damaged g c = λ page e tells.
    let told = err_from_is_err_and c.from_residual-in_err-sb_free.result c.from_residual-in_err-sb_free.ensures.1 in
    let same = exit_error c.from_residual-in_err-sb_free.result c.in_err-sb_free.field-0.0 (Damaged page) told e in
    directory_damaged c.args.tree.now c.directory.result (g.S.Pages.map c.args.stage.now) (g.S.Pages.map c.read_page.new.pages) page
    c.read_page.ensures.reads.read.map c.directory.ensures (c.in_err-sb_free.ensures.damaged page (ap Err same) (search rules))

pub returns-clause-dropped : goal.returns-clause-dropped
returns-clause-dropped g c = on_ok_weaker c.free_chain.result (λ both tells.
    let m0 : PageMap = g.S.Pages.map c.args.stage.now in
    let m1 : PageMap = g.S.Pages.map c.sb_free.new.stage in
    let tree : Tree = c.args.tree.now in
    let spells = c.in_ok-node.ensures.spells in
    let roots = directory_dropped tree c.directory.result m0 (g.S.Pages.map c.read_page.new.pages) m1 c.read_page.ensures.reads.read.map c.directory.ensures
    (c.in_ok-sb_free.ensures.there (search rules)) (c.in_ok-sb_free.ensures.freed (search rules)) in
    tree_dropped tree c.in_ok-node.node m0 m1 (g.S.Pages.map c.free_chain.new.stage) c.if-tree-eq0.false (c.in_ok-node.ensures.found tells) spells.typed spells.rules
    roots (both.0 (search rules)) (both.1 (search rules))) (both_ok _ _ c.free_chain.result c.free_chain.ensures.there c.free_chain.ensures.freed)

pub returns-then-tree-eq0-clause-chain : goal.returns-then-tree-eq0-clause-chain
returns-then-tree-eq0-clause-chain g c = λ tells page d.
    subst (λ (n : ℕ). IsDamagedInChain (g.S.Pages.map c.args.stage.now) n c.args.tree.now.last page) (no_places c.args.tree.now (g.S.Pages.map c.args.stage.now) c.if-tree-eq0.true) d

pub returns-clause-chain : goal.returns-clause-chain
returns-clause-chain g c = on_ok_weaker c.free_chain.result (λ both tells page d.
    let m0 : PageMap = g.S.Pages.map c.args.stage.now in
    let m1 : PageMap = g.S.Pages.map c.sb_free.new.stage in
    let tree : Tree = c.args.tree.now in
    let node = c.in_ok-node.node in
    let spells = c.in_ok-node.ensures.spells in
    let roots = directory_dropped tree c.directory.result m0 (g.S.Pages.map c.read_page.new.pages) m1 c.read_page.ensures.reads.read.map c.directory.ensures
    (c.in_ok-sb_free.ensures.there (search rules)) (c.in_ok-sb_free.ensures.freed (search rules)) in
    let gone = (dropped_here (λ m. over_versions.tree_pages m (directory tree)) m0 m1 roots).1 in
    let count = places_before tree node m0 m0 [] c.if-tree-eq0.false (c.in_ok-node.ensures.found tells) spells.typed spells.rules (Replaces-same [] m0) in
    let left = left_agree (chain_from node.place m1 tree.last) (over_versions.tree_pages m0 (directory tree)) m0 m1 gone (both.0 (search rules)) in
    both.1 (search rules) page (chain_damage node.place m1 m0 tree.last page left (subst (λ (n : ℕ). IsDamagedInChain m0 n tree.last page) count d)))
    (both_ok _ _ c.free_chain.result c.free_chain.ensures.there c.free_chain.ensures.whole)

pub returns-clause-damaged : goal.returns-clause-damaged
returns-clause-damaged g c = λ page e tells.
    let m0 : PageMap = g.S.Pages.map c.args.stage.now in
    let m1 : PageMap = g.S.Pages.map c.sb_free.new.stage in
    let tree : Tree = c.args.tree.now in
    let spells = c.in_ok-node.ensures.spells in
    let roots = directory_dropped tree c.directory.result m0 (g.S.Pages.map c.read_page.new.pages) m1 c.read_page.ensures.reads.read.map c.directory.ensures
    (c.in_ok-sb_free.ensures.there (search rules)) (c.in_ok-sb_free.ensures.freed (search rules)) in
    chain_damaged tree c.in_ok-node.node m0 m1 page c.if-tree-eq0.false (c.in_ok-node.ensures.found tells) spells.typed spells.rules
    roots (c.free_chain.ensures.damaged page e (search rules))

pub returns-clause-sound : goal.returns-clause-sound
returns-clause-sound g c = λ points page tells s e.
    let m0 : PageMap = g.S.Pages.map c.args.stage.now in
    let m1 : PageMap = g.S.Pages.map c.sb_free.new.stage in
    let tree : Tree = c.args.tree.now in
    let node = c.in_ok-node.node in
    let spells = c.in_ok-node.ensures.spells in
    let roots = directory_dropped tree c.directory.result m0 (g.S.Pages.map c.read_page.new.pages) m1 c.read_page.ensures.reads.read.map c.directory.ensures
    (c.in_ok-sb_free.ensures.there (search rules)) (c.in_ok-sb_free.ensures.freed (search rules)) in
    let gone = (dropped_here (λ m. over_versions.tree_pages m (directory tree)) m0 m1 roots).1 in
    let count = places_before tree node m0 m0 [] c.if-tree-eq0.false (c.in_ok-node.ensures.found tells) spells.typed spells.rules (Replaces-same [] m0) in
    let once = subst (λ (n : ℕ). NamesNoneTwice (over_versions.tree_pages m0 (directory tree) ++ chain_from n m0 tree.last)) count s.once in
    let chain = subst (λ (n : ℕ). ChainStands n m0 tree.last) count s.chain in
    c.free_chain.ensures.sound page (search rules) (chain_still_stands (over_versions.tree_pages m0 (directory tree)) node.place tree.last m0 m1 gone once chain) e
