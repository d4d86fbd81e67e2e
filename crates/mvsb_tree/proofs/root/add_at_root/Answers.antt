use Rattle.std.proofs.Common.{◌≡◌, ◌≢◌, ◌+◌, ◌-◌, ◌^◌, ◌<◌, ◌⊎◌, inl, inr, IsSome, ℕ, Some, None, Err, List, refl, sym, ap, ◌∙◌, subst, arith, rules}
use Rattle.std.proofs.lemmas.Result.{IfOk-weaker, err_from_is_err_and}
use Rattle.std.proofs.lemmas.Bool.{iff_false}
use Rattle.ports.specs.Pages.{PageMap}
use Rattle.ports.specs.declared.page.StageFault.TheVariants.{Damaged}
use Rattle.page_layout.specs.MvNode.{mv_node_page}
use Rattle.page_layout.specs.declared.mv_node.MvNode.{MvNode}
use Rattle.mvsb_tree.specs.declared.place.Place.{Place}
use Rattle.mvsb_tree.specs.Stands.{StandsOnWay}
use Rattle.mvsb_tree.specs.Steps.{chain_from, node_on, root_level}
use Rattle.mv_pages.specs.Alive.{IsChangeable}
use Rattle.sb_tree.specs.Stored.{OthersStay}
use Rattle.mvsb_tree.specs.AddDamage.{EndsOnWay, IsDamagedPastForAdd, IsMade, IsWholePast, KeepsDirectories}
use Rattle.mvsb_tree.specs.Becoming.{new_pages}
use Rattle.mvsb_tree.specs.Damage.{IsInPlace, root_place}
use Rattle.mvsb_tree.specs.Ways.{way_pages}
use Rattle.mvsb_tree.proofs.AddPast.{root_add_past, root_add_unfit, top_ends, top_stays, whole_root}
use Rattle.mvsb_tree.proofs.Becoming.{ends_at_top, root_closed, root_split, root_stays}
use Rattle.mvsb_tree.proofs.Directories as directories
use Rattle.mvsb_tree.proofs.Ending.{ends_at_new}
use Rattle.mvsb_tree.specs.Changed.{ReplacedFits}
use Rattle.mvsb_tree.proofs.Assembling.{AddsBelow}
use Rattle.mvsb_tree.proofs.Exits.{both_if, err_same_staged, exit_error, read_damaged}
use Rattle.mvsb_tree.proofs.Growing.{named_second}
use Rattle.mvsb_tree.proofs.Lasting.{some_by_name}
use Rattle.mvsb_tree.proofs.Nodes.{found_as, node_on-spelled, spells_as}
use Rattle.mvsb_tree.proofs.Sound.{root_spelled}
use Rattle.mvsb_tree.proofs.Sounding.{Fails, changeable_where_stands, root_in_place}
use Rattle.mvsb_tree.proofs.Topping.{tops}
use Rattle.mvsb_tree.proofs.Values.{level_of_root}
use Rattle.mvsb_tree.proofs.root.add_at_root.Goals.{then-not-admits-via-then-not-admits, then-not-admits-via-else-not-admits+then-not-is_changeable}
use Rattle.mvsb_tree.proofs.root.add_at_root.Goals as goal

pub returns-clause-added : goal.returns-clause-added
returns-clause-added g c =
    let m0 : PageMap = g.S.Pages.map c.args.stage.now in
    let m1 : PageMap = g.S.Pages.map c.add_on.new.stage in
    let m2 : PageMap = g.S.Pages.map c.top_of.new.stage in
    let node = c.read_node.new.node in
    let replaced = c.in_ok-replaced.replaced in
    let v = c.args.version in
    let key = c.args.key in
    let root = c.args.root in
    let last1 = c.add_on.new.last in
    IfOk-weaker c.top_of.result _ _ (λ top told tells test places key_test s h ways.
    let spells = (spells_as _ _ c.read_node.ensures c.in_ok-view.ensures.spells) in
    let there = found_as (g.S.Pages.map c.args.stage.now) c.args.root _ _ c.read_node.ensures (c.in_ok-view.ensures.found tells) in
    let some : root ≡ 0 → ⊥ = λ none. omega (arith, none, c.if-root-lt3.false) in
    let level : root_level m0 root ≡ node.level = level_of_root m0 root node some spells.typed spells.rules there in
    let r0 : AddsBelow node.level (g.S.Pages.map c.view_page.new.pages) m1 root c.root_place-place.result.version c.root_place-place.result.key c.args.value c.root_place-place.result.low c.root_place-place.result.high c.args.last.now last1 replaced =
    c.in_ok-replaced.ensures.added (search rules) in
    let r1 = subst (λ (m : PageMap). AddsBelow node.level m m1 root c.root_place-place.result.version c.root_place-place.result.key c.args.value c.root_place-place.result.low c.root_place-place.result.high c.args.last.now last1 replaced) c.view_page.ensures.reads.read.map r0 in
    let r2 = subst (λ (q : Place). AddsBelow node.level m0 m1 root q.version q.key c.args.value q.low q.high c.args.last.now last1 replaced) c.root_place-place.ensures r1 in
    let fits = subst (λ (q : Place). ReplacedFits (Some q.low) q.high replaced) c.root_place-place.ensures c.in_ok-replaced.ensures.fits in
    let nodes : List ℕ = chain_from places m0 c.args.last.now in
    let at_level : (q : ℕ) → q < 2 ^ 64 → StandsOnWay node.level m0 nodes root v q 0 None 1 = λ q q_fits. subst (λ (l : ℕ). StandsOnWay l m0 nodes root v q 0 None 1) level (ways q q_fits) in
    let added = r2 test places 1 key_test s h (λ q inside. at_level q inside.fits) in
    let listed = (root_spelled (root_level m0 root) m0 nodes root v 0 0 None 1 (ways 0 (omega arith))).listed in
    tops (node.level - 1) node.level (omega (arith, spells.rules.low_level)) test m0 m1 m2 root top v key c.args.value places c.args.last.now last1 c.top_of.new.last replaced level c.if-root-lt3.false told.0 c.requires.version fits told.1.0 listed added
    (told.1.1 (search rules)))
    (both_if _ _ c.top_of.result c.top_of.ensures.number (both_if _ _ c.top_of.result c.top_of.ensures.typed c.top_of.ensures.top))

pub returns-in_err-view-clause-sound : goal.returns-in_err-view-clause-sound
returns-in_err-view-clause-sound g c = λ test places p tells key_test s h ways low ordered e. (
    let m0 : PageMap = g.S.Pages.map c.args.stage.now in
    let root = c.args.root in
    let v = c.args.version in
    let key = c.args.key in
    let nodes : List ℕ = chain_from places m0 c.args.last.now in
    let top = root_spelled (root_level m0 root) m0 nodes root v 0 0 None 1 (ways 0 (omega arith)) in
    let told = err_from_is_err_and c.from_residual.result c.from_residual.ensures.1 in
    let same = read_damaged c.from_residual.result c.in_err-view.field-0.0 p told e in
    let why = c.in_err-view.ensures.damaged p (ap Err same) in
    why.1 tells (node_on m0 root) (mv_node_page (node_on m0 root)) top.spelled (record { spelled = refl; rules = top.rules; typed = top.typed }))

pub returns-then-not-admits-clause-sound : goal.returns-then-not-admits-clause-sound
returns-then-not-admits-clause-sound g c = λ test places p tells key_test s h ways low ordered e. (
    let m0 : PageMap = g.S.Pages.map c.args.stage.now in
    let root = c.args.root in
    let v = c.args.version in
    let key = c.args.key in
    let nodes : List ℕ = chain_from places m0 c.args.last.now in
    let top = root_spelled (root_level m0 root) m0 nodes root v 0 0 None 1 (ways 0 (omega arith)) in
    let node = c.read_node.new.node in
    let spells = (spells_as _ _ c.read_node.ensures c.in_ok-view.ensures.spells) in
    let there = found_as (g.S.Pages.map c.args.stage.now) c.args.root _ _ c.read_node.ensures (c.in_ok-view.ensures.found tells) in
    let level : root_level m0 root ≡ node.level = level_of_root m0 root node (λ none. omega (arith, none, c.if-root-lt3.false)) spells.typed spells.rules there in
    let at_level : (q : ℕ) → q < 2 ^ 64 → StandsOnWay node.level m0 nodes root v q 0 None 1 = λ q q_fits. subst (λ (l : ℕ). StandsOnWay l m0 nodes root v q 0 None 1) level (ways q q_fits) in
    elim c.then-not-admits.branch [
      | then-not-admits-via-then-not-admits w ↦
          let inside = root_in_place m0 nodes root v key 1 node (at_level key c.ranges.key.fits) there spells.typed spells.rules in
          iff_false c.admits.ensures w.if-not-admits.true (subst (λ (q : Place). IsInPlace node.level q node) (sym c.root_place-place.ensures) inside)
      | then-not-admits-via-else-not-admits+then-not-is_changeable w ↦
          let can = changeable_where_stands m0 nodes (root_level m0 root) root v 0 None 1 node c.requires.version (h root top.listed).past top there spells.typed spells.rules in
          iff_false w.is_changeable.ensures w.if-not-is_changeable.true can
    ])

pub returns-in_err-replaced-clause-sound : goal.returns-in_err-replaced-clause-sound
returns-in_err-replaced-clause-sound g c = λ test places p tells key_test s h ways low ordered e. (
    let m0 : PageMap = g.S.Pages.map c.args.stage.now in
    let root = c.args.root in
    let v = c.args.version in
    let key = c.args.key in
    let nodes : List ℕ = chain_from places m0 c.args.last.now in
    let top = root_spelled (root_level m0 root) m0 nodes root v 0 0 None 1 (ways 0 (omega arith)) in
    let node = c.read_node.new.node in
    let spells = (spells_as _ _ c.read_node.ensures c.in_ok-view.ensures.spells) in
    let there = found_as (g.S.Pages.map c.args.stage.now) c.args.root _ _ c.read_node.ensures (c.in_ok-view.ensures.found tells) in
    let level : root_level m0 root ≡ node.level = level_of_root m0 root node (λ none. omega (arith, none, c.if-root-lt3.false)) spells.typed spells.rules there in
    let at_level : (q : ℕ) → q < 2 ^ 64 → StandsOnWay node.level m0 nodes root v q 0 None 1 = λ q q_fits. subst (λ (l : ℕ). StandsOnWay l m0 nodes root v q 0 None 1) level (ways q q_fits) in
    let told = err_from_is_err_and c.from_residual-in_err-replaced.result c.from_residual-in_err-replaced.ensures.1 in
    let same = exit_error c.from_residual-in_err-replaced.result c.in_err-replaced.field-0.0 (Damaged p) told e in
    let read = c.view_page.ensures.reads.read in
    let r0 : Fails node.level (g.S.Pages.map c.view_page.new.pages) root c.root_place-place.result.version c.root_place-place.result.key c.root_place-place.result.low c.root_place-place.result.high c.args.last.now =
    λ test1 places1 least1 kt s1 h1 w1. c.in_err-replaced.ensures.sound test1 places1 least1 p (read.tells ∙ tells) kt s1 h1 w1 (read.free_in_order ordered) (ap Err same) in
    let r1 = subst (λ (m : PageMap). Fails node.level m root c.root_place-place.result.version c.root_place-place.result.key c.root_place-place.result.low c.root_place-place.result.high c.args.last.now) read.map r0 in
    let r2 = subst (λ (q : Place). Fails node.level m0 root q.version q.key q.low q.high c.args.last.now) c.root_place-place.ensures r1 in
    r2 test places 1 key_test s h (λ q inside. at_level q inside.fits))

pub returns-clause-sound : goal.returns-clause-sound
returns-clause-sound g c = λ test places p tells key_test s h ways low ordered. (
    let m0 : PageMap = g.S.Pages.map c.args.stage.now in
    let root = c.args.root in
    let v = c.args.version in
    let key = c.args.key in
    let nodes : List ℕ = chain_from places m0 c.args.last.now in
    let top = root_spelled (root_level m0 root) m0 nodes root v 0 0 None 1 (ways 0 (omega arith)) in
    let node = c.read_node.new.node in
    let spells = (spells_as _ _ c.read_node.ensures c.in_ok-view.ensures.spells) in
    let there = found_as (g.S.Pages.map c.args.stage.now) c.args.root _ _ c.read_node.ensures (c.in_ok-view.ensures.found tells) in
    let level : root_level m0 root ≡ node.level = level_of_root m0 root node (λ none. omega (arith, none, c.if-root-lt3.false)) spells.typed spells.rules there in
    let at_level : (q : ℕ) → q < 2 ^ 64 → StandsOnWay node.level m0 nodes root v q 0 None 1 = λ q q_fits. subst (λ (l : ℕ). StandsOnWay l m0 nodes root v q 0 None 1) level (ways q q_fits) in
    let m1 : PageMap = g.S.Pages.map c.add_on.new.stage in
    let replaced = c.in_ok-replaced.replaced in
    let last1 = c.add_on.new.last in
    let read = c.view_page.ensures.reads.read in
    let r0 : AddsBelow node.level (g.S.Pages.map c.view_page.new.pages) m1 root c.root_place-place.result.version c.root_place-place.result.key c.args.value c.root_place-place.result.low c.root_place-place.result.high c.args.last.now last1 replaced =
    c.in_ok-replaced.ensures.added (search rules) in
    let r1 = subst (λ (m : PageMap). AddsBelow node.level m m1 root c.root_place-place.result.version c.root_place-place.result.key c.args.value c.root_place-place.result.low c.root_place-place.result.high c.args.last.now last1 replaced) read.map r0 in
    let r2 = subst (λ (q : Place). AddsBelow node.level m0 m1 root q.version q.key c.args.value q.low q.high c.args.last.now last1 replaced) c.root_place-place.ensures r1 in
    let added = r2 test places 1 key_test s h (λ q inside. at_level q inside.fits) in
    let named = named_second added.grown.new nodes (chain_from added.new_places m1 last1) root added.grown.chain top.listed in
    let grows = c.add_on.ensures.grows.went_on in
    c.top_of.ensures.sound added.new_places p (grows.tells ∙ read.tells ∙ tells) added.grown.stands (some_by_name added.new_places m1 last1 root named) (omega (arith, low, level)) (grows.free_in_order (read.tells ∙ tells) (read.free_in_order ordered)))

pub returns-then-not-admits-clause-damaged : goal.returns-then-not-admits-clause-damaged
returns-then-not-admits-clause-damaged g c = λ p e tells. (
    let m0 : PageMap = g.S.Pages.map c.args.stage.now in
    let root = c.args.root in
    let v = c.args.version in
    let key = c.args.key in
    let node = c.read_node.new.node in
    let spells = (spells_as _ _ c.read_node.ensures c.in_ok-view.ensures.spells) in
    let there = found_as (g.S.Pages.map c.args.stage.now) c.args.root _ _ c.read_node.ensures (c.in_ok-view.ensures.found tells) in
    let some : root ≢ 0 = λ none. omega (arith, none, c.if-root-lt3.false) in
    inl (inl (root_add_unfit m0 root (root_place key v) node p some spells.typed spells.rules there (λ inside can. elim c.then-not-admits.branch [
      | then-not-admits-via-then-not-admits w ↦ iff_false c.admits.ensures w.if-not-admits.true (subst (λ (q : Place). IsInPlace node.level q node) (sym c.root_place-place.ensures) inside)
      | then-not-admits-via-else-not-admits+then-not-is_changeable w ↦ iff_false w.is_changeable.ensures w.if-not-is_changeable.true can
    ]) (sym (err_same_staged root p e)))))

pub returns-in_err-replaced-clause-damaged : goal.returns-in_err-replaced-clause-damaged
returns-in_err-replaced-clause-damaged g c = λ p e tells. (
    let m0 : PageMap = g.S.Pages.map c.args.stage.now in
    let root = c.args.root in
    let v = c.args.version in
    let key = c.args.key in
    let node = c.read_node.new.node in
    let spells = (spells_as _ _ c.read_node.ensures c.in_ok-view.ensures.spells) in
    let there = found_as (g.S.Pages.map c.args.stage.now) c.args.root _ _ c.read_node.ensures (c.in_ok-view.ensures.found tells) in
    let some : root ≢ 0 = λ none. omega (arith, none, c.if-root-lt3.false) in
    let inside : IsInPlace node.level (root_place key v) node = subst (λ (q : Place). IsInPlace node.level q node) c.root_place-place.ensures (c.admits.ensures.0 c.if-not-admits.false) in
    let can : IsChangeable v node.entries.items = c.is_changeable.ensures.0 c.if-not-is_changeable.false in
    let read = c.view_page.ensures.reads.read in
    let told = err_from_is_err_and c.from_residual-in_err-replaced.result c.from_residual-in_err-replaced.ensures.1 in
    let same = exit_error c.from_residual-in_err-replaced.result c.in_err-replaced.field-0.0 (Damaged p) told e in
    let level : root_level m0 root ≡ node.level = level_of_root m0 root node some spells.typed spells.rules there in
    elim (c.in_err-replaced.ensures.damaged p (ap Err same) (read.tells ∙ tells)) [
      | inl past ↦ inl (inl (root_add_past m0 root (root_place key v) node p some spells.typed spells.rules there inside can
          (subst (λ (q : Place). IsDamagedPastForAdd m0 q node p) c.root_place-place.ensures (subst (λ (m : PageMap). IsDamagedPastForAdd m c.root_place-place.result node p) read.map past))))
      | inr (inl found) ↦
          let ends = found.1 in
          let below = subst (λ (q : Place). IsWholePast m0 q node) c.root_place-place.ensures (subst (λ (m : PageMap). IsWholePast m c.root_place-place.result node) read.map found.0) in
          let whole = whole_root m0 root key v node some spells.typed spells.rules there inside can below in
          let last = c.args.last.now in
          let value = c.args.value in
          let on : node_on m0 root ≡ node = node_on-spelled m0 root node spells.typed spells.rules there in
          let e1 = subst (λ (m : PageMap). EndsOnWay node.level m node c.root_place-place.result.key c.root_place-place.result.version value last p) read.map ends in
          let e2 = subst (λ (q : Place). EndsOnWay node.level m0 node q.key q.version value last p) c.root_place-place.ensures e1 in
          let e3 = subst (λ (l : ℕ). EndsOnWay l m0 node key v value last p) (sym level) e2 in
          inl (inr (whole, inl (subst (λ (n : MvNode). EndsOnWay (root_level m0 root) m0 n key v value last p) (sym on) e3)))
      | inr (inr unordered) ↦ inr (λ ordered. unordered (read.free_in_order ordered))
    ])

pub returns-clause-apart : goal.returns-clause-apart
returns-clause-apart g c = IfOk-weaker c.top_of.result _ _ (λ top is_top tells p off there_before.
    let m0 : PageMap = g.S.Pages.map c.args.stage.now in
    let root = c.args.root in
    let v = c.args.version in
    let key = c.args.key in
    let node = c.read_node.new.node in
    let spells = (spells_as _ _ c.read_node.ensures c.in_ok-view.ensures.spells) in
    let there = found_as (g.S.Pages.map c.args.stage.now) c.args.root _ _ c.read_node.ensures (c.in_ok-view.ensures.found tells) in
    let some : root ≢ 0 = λ none. omega (arith, none, c.if-root-lt3.false) in
    let m1 : PageMap = g.S.Pages.map c.add_on.new.stage in
    let m2 : PageMap = g.S.Pages.map c.top_of.new.stage in
    let read = c.view_page.ensures.reads.read in
    let level : root_level m0 root ≡ node.level = level_of_root m0 root node some spells.typed spells.rules there in
    let a0 : OthersStay (way_pages node.level (g.S.Pages.map c.view_page.new.pages) root c.root_place-place.result.key c.root_place-place.result.version) (g.S.Pages.map c.view_page.new.pages) m1 = c.in_ok-replaced.ensures.apart (read.tells ∙ tells) in
    let a1 = subst (λ (m : PageMap). OthersStay (way_pages node.level m root c.root_place-place.result.key c.root_place-place.result.version) m m1) read.map a0 in
    let a2 = subst (λ (q : Place). OthersStay (way_pages node.level m0 root q.key q.version) m0 m1) c.root_place-place.ensures a1 in
    let a3 = subst (λ (l : ℕ). OthersStay (way_pages l m0 root key v) m0 m1) (sym level) a2 in
    let first = a3 p off there_before in
    top_stays m1 m2 root node.level v c.in_ok-replaced.replaced c.add_on.new.last c.top_of.new.last top (is_top (search rules)) p (subst IsSome (sym first) there_before) ∙ first) c.top_of.ensures.top

pub returns-clause-ends : goal.returns-clause-ends
returns-clause-ends g c = IfOk-weaker c.top_of.result _ _ (λ top is_top tells.
    let m1 : PageMap = g.S.Pages.map c.add_on.new.stage in
    let level = c.read_node.new.node.level in
    let v = c.args.version in
    let last = c.args.last.now in
    let last1 = c.add_on.new.last in
    let last2 = c.top_of.new.last in
    let replaced = c.in_ok-replaced.replaced in
    let read = c.view_page.ensures.reads.read in
    let made = c.in_ok-replaced.ensures.made (read.tells ∙ tells) in
    let ends = ends_at_new (g.S.Pages.map c.view_page.new.pages) m1 last last1 last2 made.places (top_ends m1 (g.S.Pages.map c.top_of.new.stage) c.args.root level v replaced last1 last2 top (is_top (search rules))) in
    subst (λ (m : PageMap). (last2 ≡ last) ⊎ (m last2 ≡ None)) read.map ends) c.top_of.ensures.top

pub returns-clause-directories : goal.returns-clause-directories
returns-clause-directories g c = IfOk-weaker c.top_of.result _ _ (λ top is_top tells.
    let m0 : PageMap = g.S.Pages.map c.args.stage.now in
    let m1 : PageMap = g.S.Pages.map c.add_on.new.stage in
    let read = c.view_page.ensures.reads.read in
    let first : KeepsDirectories m0 m1 = subst (λ (m : PageMap). KeepsDirectories m m1) read.map (c.in_ok-replaced.ensures.directories (read.tells ∙ tells)) in
    directories.keeps_both m0 m1 (g.S.Pages.map c.top_of.new.stage) first
    (directories.top_keeps m1 (g.S.Pages.map c.top_of.new.stage) c.args.root c.read_node.new.node.level c.args.version c.in_ok-replaced.replaced c.add_on.new.last c.top_of.new.last top (is_top (search rules)))) c.top_of.ensures.top

pub returns-clause-whole : goal.returns-clause-whole
returns-clause-whole g c = IfOk-weaker c.top_of.result _ _ (λ top is_top tells.
    let m0 : PageMap = g.S.Pages.map c.args.stage.now in
    let root = c.args.root in
    let v = c.args.version in
    let key = c.args.key in
    let node = c.read_node.new.node in
    let spells = (spells_as _ _ c.read_node.ensures c.in_ok-view.ensures.spells) in
    let there = found_as m0 root _ _ c.read_node.ensures (c.in_ok-view.ensures.found tells) in
    let some : root ≢ 0 = λ none. omega (arith, none, c.if-root-lt3.false) in
    let place = c.root_place-place.result in
    let read = c.view_page.ensures.reads.read in
    let inside : IsInPlace node.level (root_place key v) node = subst (λ (q : Place). IsInPlace node.level q node) c.root_place-place.ensures (c.admits.ensures.0 c.if-not-admits.false) in
    let can : IsChangeable v node.entries.items = c.is_changeable.ensures.0 c.if-not-is_changeable.false in
    let w0 : IsWholePast (g.S.Pages.map c.view_page.new.pages) place node = c.in_ok-replaced.ensures.whole (read.tells ∙ tells) in
    let below = subst (λ (q : Place). IsWholePast m0 q node) c.root_place-place.ensures (subst (λ (m : PageMap). IsWholePast m place node) read.map w0) in
    whole_root m0 root key v node some spells.typed spells.rules there inside can below) c.top_of.ensures.top

pub returns-clause-damaged : goal.returns-clause-damaged
returns-clause-damaged g c = λ p e tells. (
    let m0 : PageMap = g.S.Pages.map c.args.stage.now in
    let root = c.args.root in
    let v = c.args.version in
    let key = c.args.key in
    let value = c.args.value in
    let node = c.read_node.new.node in
    let spells = (spells_as _ _ c.read_node.ensures c.in_ok-view.ensures.spells) in
    let there = found_as (g.S.Pages.map c.args.stage.now) c.args.root _ _ c.read_node.ensures (c.in_ok-view.ensures.found tells) in
    let some : root ≢ 0 = λ none. omega (arith, none, c.if-root-lt3.false) in
    let mr : PageMap = g.S.Pages.map c.view_page.new.pages in
    let m1 : PageMap = g.S.Pages.map c.add_on.new.stage in
    let last = c.args.last.now in
    let last1 = c.add_on.new.last in
    let replaced = c.in_ok-replaced.replaced in
    let place = c.root_place-place.result in
    let read = c.view_page.ensures.reads.read in
    let grows = c.add_on.ensures.grows.went_on in
    let level : root_level m0 root ≡ node.level = level_of_root m0 root node some spells.typed spells.rules there in
    let on : node_on m0 root ≡ node = node_on-spelled m0 root node spells.typed spells.rules there in
    let d0 : IsMade node.level mr m1 node place.key place.version value last last1 replaced = c.in_ok-replaced.ensures.made (read.tells ∙ tells) in
    let d1 = subst (λ (m : PageMap). IsMade node.level m m1 node place.key place.version value last last1 replaced) read.map d0 in
    let made = subst (λ (q : Place). IsMade node.level m0 m1 node q.key q.version value last last1 replaced) c.root_place-place.ensures d1 in
    let inside : IsInPlace node.level (root_place key v) node = subst (λ (q : Place). IsInPlace node.level q node) c.root_place-place.ensures (c.admits.ensures.0 c.if-not-admits.false) in
    let can : IsChangeable v node.entries.items = c.is_changeable.ensures.0 c.if-not-is_changeable.false in
    let w0 : IsWholePast mr place node = c.in_ok-replaced.ensures.whole (read.tells ∙ tells) in
    let below = subst (λ (q : Place). IsWholePast m0 q node) c.root_place-place.ensures (subst (λ (m : PageMap). IsWholePast m place node) read.map w0) in
    let whole = whole_root m0 root key v node some spells.typed spells.rules there inside can below in
    elim (c.top_of.ensures.damaged p e (grows.tells ∙ read.tells ∙ tells)) [
      | inl split ↦ elim split.1 [
        | inl high ↦
            let is : root_level m0 root ≡ 16 = omega (arith, level, high.1, spells.rules.high_level) in
            inl (inr (whole, inr (inr (high.0, (is, made.below + new_pages made.changed v, root_split m0 m1 root node key v value last last1 replaced level on made split.0)))))
        | inr end ↦ inl (inr (whole, inr (inl (ends_at_top m0 m1 root node key v value last last1 p replaced level on made split.0 end.0 end.1))))
      ]
      | inr unordered ↦ inr (λ ordered. unordered (grows.free_in_order (read.tells ∙ tells) (read.free_in_order ordered)))
    ])

pub returns-clause-grows : goal.returns-clause-grows
returns-clause-grows g c =
    let read = c.view_page.ensures.reads.read in
    let rec = c.add_on.ensures.grows in
    let top = c.top_of.ensures.grows in
    let high = (spells_as _ _ c.read_node.ensures c.in_ok-view.ensures.spells).rules.high_level in
    record {
      went_on = record {
        tells = top.went_on.tells ∙ rec.went_on.tells ∙ read.tells;
        base = top.went_on.base ∙ rec.went_on.base ∙ read.base;
        limit = top.went_on.limit ∙ rec.went_on.limit ∙ read.limit;
        free_in_order = search rules;
        none_forgotten = search rules;
        allotted = omega (arith, top.went_on.allotted, rec.went_on.allotted, read.allotted);
        at_most = omega (arith, top.went_on.at_most, rec.went_on.at_most, read.allotted, high);
        gets = omega (arith, top.went_on.gets, rec.went_on.gets, read.gets);
        faults = omega (arith, top.went_on.faults, rec.went_on.faults, read.faults);
      };
      keeps = search rules;
      disk = search rules;
      page_limit = λ n e. let d = top.page_limit n e in (d.0 ∙ rec.went_on.limit ∙ read.limit, d.1, omega (arith, d.2, rec.went_on.at_most, read.allotted, high));
    }

pub returns-in_err-replaced-clause-few : goal.returns-in_err-replaced-clause-few
returns-in_err-replaced-clause-few g c = λ most tells low. (
    let m0 : PageMap = g.S.Pages.map c.args.stage.now in
    let spells = (spells_as _ _ c.read_node.ensures c.in_ok-view.ensures.spells) in
    let some : c.args.root ≢ 0 = λ none. omega (arith, none, c.if-root-lt3.false) in
    let level : root_level m0 c.args.root ≡ c.read_node.new.node.level = level_of_root m0 c.args.root c.read_node.new.node some spells.typed spells.rules (found_as (g.S.Pages.map c.args.stage.now) c.args.root _ _ c.read_node.ensures (c.in_ok-view.ensures.found tells)) in
    let read = c.view_page.ensures.reads.read in
    let first = c.in_err-replaced.ensures.grows in
    search rules)

pub returns-clause-few : goal.returns-clause-few
returns-clause-few g c = λ most tells low. (
    let m0 : PageMap = g.S.Pages.map c.args.stage.now in
    let spells = (spells_as _ _ c.read_node.ensures c.in_ok-view.ensures.spells) in
    let some : c.args.root ≢ 0 = λ none. omega (arith, none, c.if-root-lt3.false) in
    let level : root_level m0 c.args.root ≡ c.read_node.new.node.level = level_of_root m0 c.args.root c.read_node.new.node some spells.typed spells.rules (found_as (g.S.Pages.map c.args.stage.now) c.args.root _ _ c.read_node.ensures (c.in_ok-view.ensures.found tells)) in
    let read = c.view_page.ensures.reads.read in
    let first = c.add_on.ensures.grows in
    let second = c.top_of.ensures.grows in
    search rules)

pub returns-clause-closed : goal.returns-clause-closed
returns-clause-closed g c = IfOk-weaker c.top_of.result _ _ (λ top is_top tells. (
    let m0 : PageMap = g.S.Pages.map c.args.stage.now in
    let root = c.args.root in
    let v = c.args.version in
    let key = c.args.key in
    let value = c.args.value in
    let node = c.read_node.new.node in
    let spells = (spells_as _ _ c.read_node.ensures c.in_ok-view.ensures.spells) in
    let there = found_as (g.S.Pages.map c.args.stage.now) c.args.root _ _ c.read_node.ensures (c.in_ok-view.ensures.found tells) in
    let some : root ≢ 0 = λ none. omega (arith, none, c.if-root-lt3.false) in
    let mr : PageMap = g.S.Pages.map c.view_page.new.pages in
    let m1 : PageMap = g.S.Pages.map c.add_on.new.stage in
    let last = c.args.last.now in
    let last1 = c.add_on.new.last in
    let replaced = c.in_ok-replaced.replaced in
    let place = c.root_place-place.result in
    let read = c.view_page.ensures.reads.read in
    let grows = c.add_on.ensures.grows.went_on in
    let level : root_level m0 root ≡ node.level = level_of_root m0 root node some spells.typed spells.rules there in
    let on : node_on m0 root ≡ node = node_on-spelled m0 root node spells.typed spells.rules there in
    let d0 : IsMade node.level mr m1 node place.key place.version value last last1 replaced = c.in_ok-replaced.ensures.made (read.tells ∙ tells) in
    let d1 = subst (λ (m : PageMap). IsMade node.level m m1 node place.key place.version value last last1 replaced) read.map d0 in
    let made = subst (λ (q : Place). IsMade node.level m0 m1 node q.key q.version value last last1 replaced) c.root_place-place.ensures d1 in
    let inside : IsInPlace node.level (root_place key v) node = subst (λ (q : Place). IsInPlace node.level q node) c.root_place-place.ensures (c.admits.ensures.0 c.if-not-admits.false) in
    let can : IsChangeable v node.entries.items = c.is_changeable.ensures.0 c.if-not-is_changeable.false in
    let w0 : IsWholePast mr place node = c.in_ok-replaced.ensures.whole (read.tells ∙ tells) in
    let below = subst (λ (q : Place). IsWholePast m0 q node) c.root_place-place.ensures (subst (λ (m : PageMap). IsWholePast m place node) read.map w0) in
    let whole = whole_root m0 root key v node some spells.typed spells.rules there inside can below in
    elim (root_stays m1 (g.S.Pages.map c.top_of.new.stage) root node.level v replaced last1 c.top_of.new.last top (is_top (grows.tells ∙ read.tells ∙ tells))) [
      | inl same ↦ inl same
      | inr closed ↦ inr (root_closed m0 m1 root node key v value last last1 replaced level on made closed whole)
    ])) c.top_of.ensures.top
