use Rattle.std.proofs.Common.{◌≡◌, ◌+◌, ◌^◌, ◌<◌, ◌≤◌, ℕ, false, List, ◌∷◌, length, None, IsSome, [], Err, inl, inr, IsTrue, refl, sym, ap, ◌∙◌, subst, arith, rules}
use Rattle.std.specs.List.{All}
use Rattle.bw_types.specs.declared.point.Point.{Point}
use Rattle.bw_types.specs.declared.tree.Tree.{Tree}
use Rattle.std.proofs.lemmas.Result.{err_from_is_err_and}
use Rattle.ports.specs.Frame.{names_page}
use Rattle.ports.specs.Pages.{PageMap}
use Rattle.ports.specs.declared.page.StageFault.TheVariants.{Damaged}
use Rattle.dom_index.specs.Becoming.{MayName}
use Rattle.sb_tree.specs.Stands.{SbStands}
use Rattle.sb_tree.specs.Stands as over_versions
use Rattle.sb_tree.specs.Damage as damage
use Rattle.sb_tree.specs.Steps as dir_steps
use Rattle.sb_tree.specs.Stored.{OthersStay}
use Rattle.mvsb_tree.specs.AddDamage.{directory_pages}
use Rattle.mvsb_tree.proofs.Directories.{damaged_before}
use Rattle.mvsb_tree.proofs.Indexing.{end_stays, root_may_name}
use Rattle.mvsb_tree.specs.Index.{MayChangeAt}
use Rattle.mvsb_tree.specs.Led.{Led}
use Rattle.mvsb_tree.specs.Stands.{MvStands, is_marked, key_of}
use Rattle.mvsb_tree.specs.Steps.{directory, place_count, root_level}
use Rattle.mvsb_tree.specs.Tops.{RootAdded}
use Rattle.mvsb_tree.proofs.Costs.{low_directory}
use Rattle.mvsb_tree.proofs.Exits.{exit_error}
use Rattle.mvsb_tree.proofs.Joining as joining
use Rattle.mvsb_tree.proofs.Sound.{root_spelled}
use Rattle.mvsb_tree.proofs.Whole.{added_stands}
use Rattle.mvsb_tree.proofs.add.mv_add.Given
use Rattle.mvsb_tree.proofs.add.mv_add.Goals as goal

-- The nodes of the tree took the addition in.
nodes_took : (g : Given.Over) (c : goal.After-grown g) → IsTrue (g.S.Pages.tells c.args.stage.now) → (points : List Point) (p : Point) → MvStands (g.S.Pages.map c.args.stage.now) c.args.tree.now points
    → All (λ q. q.version ≤ c.args.version) points → key_of p ≡ c.args.key
    → RootAdded (is_marked (p ∷ points)) (g.S.Pages.map c.args.stage.now) (g.S.Pages.map c.add_to_nodes.new.stage) c.in_ok-ends.ends.root c.in_ok-ends.ends.top c.args.version c.args.key c.args.value
    (place_count (g.S.Pages.map c.args.stage.now) c.args.tree.now) c.args.tree.now.last c.add_to_nodes.new.last
nodes_took g c tells points p s past key_is = c.in_ok-ends.ensures.added tells points p s past key_is

-- The directory leads to the new root.
led : (g : Given.Over) (c : goal.After-grown g) → IsTrue (g.S.Pages.tells c.args.stage.now) → (changes : List Point)
    → SbStands (g.S.Pages.map c.add_to_nodes.new.stage) (directory c.args.tree.now) changes
    → Led (g.S.Pages.map c.add_to_nodes.new.stage) (g.S.Pages.map c.lead_to.new.stage) (directory c.args.tree.now) c.lead_to.new.roots changes c.args.version c.in_ok-ends.ends.root c.in_ok-ends.ends.top
led g c tells changes s =
    let m1 : PageMap = g.S.Pages.map c.add_to_nodes.new.stage in
    let Leads : Tree → Type 0 = λ t. SbStands m1 t changes → Led m1 (g.S.Pages.map c.lead_to.new.stage) t c.lead_to.new.roots changes c.args.version c.in_ok-ends.ends.root c.in_ok-ends.ends.top in
    let l0 : Leads c.directory-roots.result = c.in_ok-lead_to.ensures.led (c.add_to_nodes.ensures.grows.went_on.tells ∙ tells) changes in
    subst (λ (t : Tree). Leads t) c.directory-roots.ensures l0 s

-- The directory of the new tree is what the old one became.
new_roots : (g : Given.Over) (c : goal.After-grown g) → directory c.grown.result ≡ c.lead_to.new.roots
new_roots g c =
    let no_changes : c.lead_to.new.roots.changes ≡ 0 = c.in_ok-lead_to.ensures.beside.0 ∙ ap (λ (t : Tree). t.changes) c.directory-roots.ensures in
    let no_last : c.lead_to.new.roots.last ≡ 0 = c.in_ok-lead_to.ensures.beside.1 ∙ ap (λ (t : Tree). t.last) c.directory-roots.ensures in
    λ i. record {
      root = c.grown.ensures.root i;
      levels = c.grown.ensures.levels i;
      count = c.grown.ensures.changes i;
      changes = (sym no_changes) i;
      last = (sym no_last) i;
    }

pub returns-clause-change : goal.returns-clause-change
returns-clause-change g c = λ tells points s past. (
    let m0 : PageMap = g.S.Pages.map c.args.stage.now in
    let p : Point = record { keys = c.args.key ∷ []; version = c.args.version; weight = c.args.value } in
    joining.change_whole m0 (g.S.Pages.map c.add_to_nodes.new.stage) (g.S.Pages.map c.lead_to.new.stage) c.args.tree.now c.grown.result points p c.args.key c.args.version c.args.value
    c.in_ok-ends.ends.root c.in_ok-ends.ends.top c.add_to_nodes.new.last s c.tree_laws.ensures.in_map c.tree_laws.ensures.by_its_pages past refl c.ranges.version.fits
    (c.in_ok-ends.ensures.root tells) c.in_ok-ends.ensures.number.0 (nodes_took g c tells points p s past refl) c.lead_to.new.roots (led g c tells) (new_roots g c) c.grown.ensures.last c.in_ok-ends.ensures.number.1)

pub returns-clause-stands : goal.returns-clause-stands
returns-clause-stands g c = λ tells points p s few past key_is version_is weight_is. (
    let m0 : PageMap = g.S.Pages.map c.args.stage.now in
    let m1 : PageMap = g.S.Pages.map c.add_to_nodes.new.stage in
    let m2 : PageMap = g.S.Pages.map c.lead_to.new.stage in
    let old = c.args.tree.now in
    let new = c.grown.result in
    let key = c.args.key in
    let v = c.args.version in
    let value = c.args.value in
    let root = c.in_ok-ends.ends.root in
    let top = c.in_ok-ends.ends.top in
    let last = c.add_to_nodes.new.last in
    let in_map = c.tree_laws.ensures.in_map in
    let by_pages = c.tree_laws.ensures.by_its_pages in
    let v_fits = c.ranges.version.fits in
    let root_is = c.in_ok-ends.ensures.root tells in
    let three = c.in_ok-ends.ensures.number.0 in
    let took = nodes_took g c tells points p s past key_is in
    let leads = led g c tells in
    let is_new = new_roots g c in
    let last_is = c.grown.ensures.last in
    let no_root = c.in_ok-ends.ensures.number.1 in
    let d = joining.directory_added m0 m1 m2 old new points p key v value root top last s in_map by_pages past version_is v_fits root_is three took c.lead_to.new.roots leads is_new last_is no_root in
    let a = joining.nodes_added m0 m1 m2 old new points p key v value root top last s in_map by_pages past version_is v_fits root_is three took c.lead_to.new.roots leads is_new last_is no_root in
    let chain = joining.chain_stands2 m0 m1 m2 old new points p key v value root top last s in_map by_pages past version_is v_fits root_is three took c.lead_to.new.roots leads is_new last_is no_root in
    let levels = joining.new_levels m0 m1 m2 old new points p key v value root top last s in_map by_pages past version_is v_fits root_is three took c.lead_to.new.roots leads is_new last_is no_root in
    let places = joining.some_places m0 m1 m2 old new points p key v value root top last s in_map by_pages past version_is v_fits root_is three took c.lead_to.new.roots leads is_new last_is no_root in
    let once = joining.once_whole m0 m1 m2 old new points p key v value root top last s in_map by_pages past version_is v_fits root_is three took c.lead_to.new.roots leads is_new last_is no_root in
    let there = (root_spelled (root_level m1 top) m1 _ top v 0 0 None 1 (took.ways 0 (omega arith))).spelled in
    let top_fits : top < 2 ^ 64 = omega (arith, g.met.S.Stage.below_allotted c.add_to_nodes.new.stage top _ (c.add_to_nodes.ensures.grows.went_on.tells ∙ tells) there, g.met.S.Stage.within_limit c.add_to_nodes.new.stage, g.met.S.Stage.limit_fits c.add_to_nodes.new.stage) in
    added_stands m0 m2 old new points p key v value top s few c.requires past key_is version_is weight_is d (λ none. omega (arith, none, three)) top_fits chain a c.grown.ensures.count levels places once)

pub returns-clause-balanced : goal.returns-clause-balanced
returns-clause-balanced g c = λ tells points s few past b. (
    let m0 : PageMap = g.S.Pages.map c.args.stage.now in
    let m1 : PageMap = g.S.Pages.map c.add_to_nodes.new.stage in
    let m2 : PageMap = g.S.Pages.map c.lead_to.new.stage in
    let old = c.args.tree.now in
    let new = c.grown.result in
    let p : Point = record { keys = c.args.key ∷ []; version = c.args.version; weight = c.args.value } in
    let root = c.in_ok-ends.ends.root in
    let top = c.in_ok-ends.ends.top in
    let in_map = c.tree_laws.ensures.in_map in
    let by_pages = c.tree_laws.ensures.by_its_pages in
    let took = nodes_took g c tells points p s past refl in
    let moved = joining.moved m0 m1 m2 old new points p c.args.key c.args.version c.args.value root top c.add_to_nodes.new.last s in_map by_pages past refl c.ranges.version.fits
    (c.in_ok-ends.ensures.root tells) c.in_ok-ends.ensures.number.0 took c.lead_to.new.roots (led g c tells) (new_roots g c) c.grown.ensures.last c.in_ok-ends.ensures.number.1 in
    let same_dir = c.directory-roots.ensures in
    let dir = c.in_ok-lead_to.ensures.balanced (c.add_to_nodes.ensures.grows.went_on.tells ∙ tells) s.changes (subst (λ (t : Tree). SbStands m1 t s.changes) (sym same_dir) moved.0)
    (subst (λ (t : Tree). over_versions.IsBalanced t) (sym same_dir) b.directory) in
    let changes : new.changes ≤ old.changes + 1 = omega (arith, c.grown.ensures.changes, c.in_ok-lead_to.ensures.count.1, ap (λ (t : Tree). t.count) same_dir) in
    joining.balanced_whole m0 m1 m2 old new points p c.args.key c.args.version c.args.value root top c.add_to_nodes.new.last s in_map by_pages past refl c.ranges.version.fits
    (c.in_ok-ends.ensures.root tells) c.in_ok-ends.ensures.number.0 took c.lead_to.new.roots (led g c tells) (new_roots g c) c.grown.ensures.last c.in_ok-ends.ensures.number.1
    c.path_laws.ensures.same b (subst (λ (t : Tree). over_versions.IsBalanced t) (sym (new_roots g c)) dir) c.grown.ensures.count changes)

pub returns-in_err-lead_to-clause-few : goal.returns-in_err-lead_to-clause-few
returns-in_err-lead_to-clause-few g c = λ points tells s few past b. (
    let low = low_directory (g.S.Pages.map c.args.stage.now) c.args.tree.now points s few b in
    let levels : c.directory-roots.result.levels ≡ c.args.tree.now.levels = ap (λ (t : Tree). t.levels) c.directory-roots.ensures in
    let first = c.add_to_nodes.ensures.few points tells s few b in
    let second = c.lead_to.ensures.grows in
    search rules)

pub returns-clause-few : goal.returns-clause-few
returns-clause-few g c = λ points tells s few past b. (
    let low = low_directory (g.S.Pages.map c.args.stage.now) c.args.tree.now points s few b in
    let levels : c.directory-roots.result.levels ≡ c.args.tree.now.levels = ap (λ (t : Tree). t.levels) c.directory-roots.ensures in
    let first = c.add_to_nodes.ensures.few points tells s few b in
    let second = c.lead_to.ensures.grows in
    search rules)

pub returns-in_err-lead_to-clause-sound : goal.returns-in_err-lead_to-clause-sound
returns-in_err-lead_to-clause-sound g c = λ points page tells s few past b ordered e. (
    let m1 : PageMap = g.S.Pages.map c.add_to_nodes.new.stage in
    let told = err_from_is_err_and c.from_residual-in_err-lead_to.result c.from_residual-in_err-lead_to.ensures.1 in
    let same = exit_error c.from_residual-in_err-lead_to.result c.in_err-lead_to.field-0.0 (Damaged page) told e in
    let p : Point = record { keys = c.args.key ∷ []; version = c.args.version; weight = c.args.value } in
    let took = c.in_ok-ends.ensures.added tells points p s past refl in
    let moved = joining.dir_moved (g.S.Pages.map c.args.stage.now) m1 c.args.tree.now points p c.args.key c.args.version c.args.value c.in_ok-ends.ends.root c.in_ok-ends.ends.top c.add_to_nodes.new.last s
    c.tree_laws.ensures.in_map c.tree_laws.ensures.by_its_pages took in
    let grows = c.add_to_nodes.ensures.grows.went_on in
    let few_changes : length s.changes < 2 ^ 31 = omega (arith, s.roots.count, s.count, b.changes, few) in
    c.in_err-lead_to.ensures.sound s.changes page (grows.tells ∙ tells) (subst (λ (t : Tree). SbStands m1 t s.changes) (sym c.directory-roots.ensures) moved.0) few_changes
    (subst (λ (t : Tree). over_versions.IsBalanced t) (sym c.directory-roots.ensures) b.directory) (grows.free_in_order tells ordered) (ap Err same))

pub returns-in_err-ends-clause-damaged : goal.returns-in_err-ends-clause-damaged
returns-in_err-ends-clause-damaged g c = λ page e tells. (
    let told = err_from_is_err_and c.from_residual.result c.from_residual.ensures.1 in
    let same = exit_error c.from_residual.result c.in_err-ends.field-0.0 (Damaged page) told e in
    elim (c.in_err-ends.ensures.damaged page (ap Err same) tells) [
      | inl d ↦ inr (inl d)
      | inr unordered ↦ inr (inr (inr unordered))
    ])

pub returns-in_err-lead_to-clause-damaged : goal.returns-in_err-lead_to-clause-damaged
returns-in_err-lead_to-clause-damaged g c = λ page e tells. (
    let m0 : PageMap = g.S.Pages.map c.args.stage.now in
    let m1 : PageMap = g.S.Pages.map c.add_to_nodes.new.stage in
    let tree = c.args.tree.now in
    let order0 : Type 0 = g.S.Pages.free_in_order c.args.stage.now in
    let order1 : Type 0 = g.S.Pages.free_in_order c.add_to_nodes.new.stage in
    let told = err_from_is_err_and c.from_residual-in_err-lead_to.result c.from_residual-in_err-lead_to.ensures.1 in
    let same = exit_error c.from_residual-in_err-lead_to.result c.in_err-lead_to.field-0.0 (Damaged page) told e in
    let grows = c.add_to_nodes.ensures.grows.went_on in
    let d0 = c.in_err-lead_to.ensures.damaged page (ap Err same) (grows.tells ∙ tells) in
    let d1 = subst (λ (t : Tree). damage.IsDamagedForAdd m1 order1 t c.args.version page) c.directory-roots.ensures d0.1 in
    elim (c.in_ok-ends.ensures.closed tells) [
      | inl same_root ↦ absurd (d0.0 same_root)
      | inr changes ↦ inr (inr (inl (changes, damaged_before m0 m1 order0 order1 (directory tree) c.args.version page (c.in_ok-ends.ensures.directories tells) (λ ordered. grows.free_in_order tells ordered) d1)))
    ])

-- The directory is changed as the nodes left it.
directory_stays : (g : Given.Over) (c : goal.After-grown g) → IsTrue (g.S.Pages.tells c.args.stage.now)
    → OthersStay (directory_pages (g.S.Pages.map c.add_to_nodes.new.stage) c.args.tree.now) (g.S.Pages.map c.add_to_nodes.new.stage) (g.S.Pages.map c.lead_to.new.stage)
directory_stays g c tells =
    let m1 : PageMap = g.S.Pages.map c.add_to_nodes.new.stage in
    let m2 : PageMap = g.S.Pages.map c.lead_to.new.stage in
    let d0 : OthersStay (dir_steps.tree_pages m1 c.directory-roots.result) m1 m2 = c.in_ok-lead_to.ensures.apart (c.add_to_nodes.ensures.grows.went_on.tells ∙ tells) in
    subst (λ (t : Tree). OthersStay (dir_steps.tree_pages m1 t) m1 m2) c.directory-roots.ensures d0

pub returns-clause-apart : goal.returns-clause-apart
returns-clause-apart g c = λ tells. (g.S.Pages.map c.add_to_nodes.new.stage, c.in_ok-ends.ensures.apart tells, directory_stays g c tells)

-- Where the directory's new root was in the map and is none of its pages, it is the root of before.
renamed : (g : Given.Over) (c : goal.After-grown g) → IsTrue (g.S.Pages.tells c.args.stage.now)
    → IsSome (g.S.Pages.map c.add_to_nodes.new.stage c.lead_to.new.roots.root)
    → names_page (directory_pages (g.S.Pages.map c.add_to_nodes.new.stage) c.args.tree.now) c.lead_to.new.roots.root ≡ false → c.lead_to.new.roots.root ≡ c.args.tree.now.root
renamed g c tells =
    let m1 : PageMap = g.S.Pages.map c.add_to_nodes.new.stage in
    let page = c.lead_to.new.roots.root in
    let Renamed : Tree → Type 0 = λ t. IsSome (m1 page) → names_page (dir_steps.tree_pages m1 t) page ≡ false → page ≡ t.root in
    let r0 : Renamed c.directory-roots.result = c.in_ok-lead_to.ensures.renamed (c.add_to_nodes.ensures.grows.went_on.tells ∙ tells) in
    subst (λ (t : Tree). Renamed t) c.directory-roots.ensures r0

pub returns-clause-becomes : goal.returns-clause-becomes
returns-clause-becomes g c = λ tells. (
    let m0 : PageMap = g.S.Pages.map c.args.stage.now in
    let tree = c.args.tree.now in
    let May : ℕ → Type 0 = MayChangeAt m0 tree c.args.key c.args.version in
    let root = root_may_name m0 (g.S.Pages.map c.add_to_nodes.new.stage) tree c.args.key c.args.version c.lead_to.new.roots.root (c.in_ok-ends.ensures.apart tells) (renamed g c tells) in
    let last : IsSome (m0 c.add_to_nodes.new.last) → c.add_to_nodes.new.last ≡ tree.last = end_stays m0 tree.last c.add_to_nodes.new.last (c.in_ok-ends.ensures.ends tells) in
    record {
      grown = record {
        count = c.grown.ensures.count;
        root = subst (λ (page : ℕ). MayName May m0 tree.root page) (sym c.grown.ensures.root) root;
      };
      last = subst (λ (page : ℕ). IsSome (m0 page) → page ≡ tree.last) (sym c.grown.ensures.last) last;
    })

pub returns-clause-changes : goal.returns-clause-changes
returns-clause-changes g c = λ tells. elim (c.in_ok-ends.ensures.closed tells) [
  | inl same ↦ inl (c.grown.ensures.changes ∙ ap (λ (t : Tree). t.count) (c.in_ok-lead_to.ensures.same same) ∙ ap (λ (t : Tree). t.count) c.directory-roots.ensures)
  | inr changed ↦ inr changed
]
