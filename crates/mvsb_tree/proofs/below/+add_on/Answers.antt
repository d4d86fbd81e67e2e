use Rattle.std.proofs.Common.{◌≡◌, ◌+◌, ◌-◌, ◌≤◌, inl, inr, ℕ, suc, IsSome, IsTrue, Option, List, Err, nat_le, refl, sym, ap, ◌∙◌, subst, arith, rules}
use Rattle.std.proofs.lemmas.Bool.{and_from, iff_false, le-leb}
use Rattle.std.proofs.lemmas.Result.{IfOk-weaker, err_from_is_err_and}
use Rattle.ports.specs.Pages.{PageMap}
use Rattle.ports.specs.declared.page.StageFault.TheVariants.{Damaged, Disk, PageLimit}
use Rattle.page_layout.specs.Damage.{HoldsNoNode}
use Rattle.page_layout.specs.declared.mv_node.MvNode.{MvNode}
use Rattle.mv_pages.specs.Lows.{alive_lows}
use Rattle.mvsb_tree.specs.Changed.{cut_of}
use Rattle.sb_tree.specs.Stored.{OthersStay}
use Rattle.mvsb_tree.specs.Stands.{NodeStands, ends_after, inner_low}
use Rattle.page_layout.specs.MvNode.{mv_node_page}
use Rattle.mv_pages.specs.Alive.{IsChangeable}
use Rattle.mvsb_tree.specs.AddDamage.{EndsOnWay, IsDamagedPastForAdd, IsMade, IsWholePast, KeepsDirectories}
use Rattle.mvsb_tree.specs.Becoming.{new_pages}
use Rattle.mvsb_tree.specs.Damage.{FitsPlace}
use Rattle.mvsb_tree.specs.declared.place.Place.{Place}
use Rattle.mvsb_tree.specs.declared.replaced.Replaced.{Replaced}
use Rattle.mvsb_tree.specs.Steps.{chain_from, node_on}
use Rattle.mvsb_tree.specs.Ways.{IsKeyIn, way_pages}
use Rattle.mvsb_tree.proofs.Descending as descending
use Rattle.mvsb_tree.proofs.AddPast.{add_past_further, add_past_here, placed_as, placed_later, whole_index, whole_leaf}
use Rattle.mvsb_tree.proofs.Becoming.{ends_above, ends_below, ends_leaf, made_above, made_leaf}
use Rattle.mvsb_tree.proofs.Directories as directories
use Rattle.mvsb_tree.proofs.Exits.{err_same_staged, exit_error, read_damaged}
use Rattle.mvsb_tree.proofs.Growing.{named_second}
use Rattle.mvsb_tree.proofs.Nodes.{fits_as, found_as, node_on-spelled, same_spelled}
use Rattle.mvsb_tree.proofs.Sound.{root_spelled}
use Rattle.mvsb_tree.proofs.Sounding.{Fails, changeable_where_stands, child_fits, child_undamaged}
use Rattle.mvsb_tree.proofs.Assembling.{AddsBelow, both_apart, cut_inside_too, first_apart, index_added, leaf_added, leaf_here, of_cut, outer_fits, stored_apart}
use Rattle.mvsb_tree.proofs.Splitting.{lies_in, lows_within, split_fits}
use Rattle.mvsb_tree.proofs.below.+add_on.Goals as goal

pub returns-in_default-clause-fits : goal.returns-in_default-clause-fits
returns-in_default-clause-fits g t c = IfOk-weaker c.store.result _ _ (λ r split.
    split_fits c.add_to_leaf.new.node c.args.place.version c.args.place.low c.args.place.high r
    (c.add_to_leaf.ensures.each (lies_in c.args.place.low c.args.place.high)
    (and_from (nat_le c.args.place.low c.args.place.key) (ends_after c.args.place.high c.args.place.key) (le-leb c.args.place.low c.args.place.key c.requires.key.0) c.requires.key.1)
    (lows_within c.args.place c.args.node.now.entries.items c.requires.placed.within)) split) c.store.ensures.split

pub returns-in_default-clause-made : goal.returns-in_default-clause-made
returns-in_default-clause-made g t c = IfOk-weaker c.store.result _ _ (λ r stored tells.
    let m0 : PageMap = g.S.Pages.map c.args.stage.now in
    let place = c.args.place in
    let node = c.args.node.now in
    let new = c.add_to_leaf.new.node in
    let is : node_on m0 c.args.page ≡ node = node_on-spelled m0 c.args.page node c.requires.typed c.requires.rules (c.requires.there tells) in
    made_leaf node.level m0 (g.S.Pages.map c.store.new.stage) c.args.page node new place.key place.version c.args.value c.args.last.now c.store.new.last r
    (leaf_here node place.key place.version c.requires.placed.leads (c.in_default.ensures.none refl)) c.add_to_leaf.ensures.taken
    (placed_as m0 c.args.page node new is c.requires.typed c.add_to_leaf.ensures.past) c.add_to_leaf.ensures.storable.typed (stored tells)) c.store.ensures.stored

pub returns-in_default-clause-directories : goal.returns-in_default-clause-directories
returns-in_default-clause-directories g t c = IfOk-weaker c.store.result _ _ (λ r stored tells.
    let m0 : PageMap = g.S.Pages.map c.args.stage.now in
    directories.stored_keeps m0 (g.S.Pages.map c.store.new.stage) c.args.page c.add_to_leaf.new.node c.args.place.version c.args.last.now c.store.new.last r
    (directories.no_directory m0 c.args.page c.args.node.now (c.requires.there tells)) (stored tells)) c.store.ensures.stored

-- What was made of the child, of the map before it was read.
child_made : (m mr m1 : PageMap) (l : ℕ) (below : MvNode) (step : Place) (key v value last last1 : ℕ) (r : Option Replaced) → mr ≡ m → below.level ≡ l → step.key ≡ key → step.version ≡ v
    → IsMade below.level mr m1 below step.key step.version value last last1 r → IsMade l m m1 below key v value last last1 r
child_made m mr m1 l below step key v value last last1 r read level key_is version_is made =
    subst (λ (w : ℕ). IsMade l m m1 below key w value last last1 r) version_is (subst (λ (k : ℕ). IsMade l m m1 below k step.version value last last1 r) key_is
    (subst (λ (x : ℕ). IsMade x m m1 below step.key step.version value last last1 r) level (subst (λ (n : PageMap). IsMade below.level n m1 below step.key step.version value last last1 r) read made)))

pub returns-clause-made : goal.returns-clause-made
returns-clause-made g t c = IfOk-weaker c.store-2.result _ _ (λ r stored tells.
    let m0 : PageMap = g.S.Pages.map c.args.stage.now in
    let m1 : PageMap = g.S.Pages.map c.add_on.new.stage in
    let m2 : PageMap = g.S.Pages.map c.store-2.new.stage in
    let place = c.args.place in
    let node = c.args.node.now in
    let step = c.in-Some.step in
    let child = c.read_node.new.node in
    let new = c.change.new.node in
    let last = c.args.last.now in
    let last1 = c.add_on.new.last in
    let replaced = c.in_ok-replaced.replaced in
    let read = c.view_in_place.ensures.reads.read in
    let grows = c.add_on.ensures.grows.went_on in
    let level : ℕ = node.level - 2 in
    let at_level : node.level ≡ suc (suc level) = omega (arith, c.in-Some.ensures.level) in
    let child_level : child.level ≡ suc level = (fits_as (c.args.node.now.level - 1) c.in-Some.step.place _ _ c.read_node.ensures c.in_ok-view.ensures.node).fits.at_level ∙ (let e : node.level - 1 ≡ suc level = omega (arith, c.in-Some.ensures.level) in e) in
    let is : node_on m0 c.args.page ≡ node = node_on-spelled m0 c.args.page node c.requires.typed c.requires.rules (c.requires.there tells) in
    let spelled = (fits_as (c.args.node.now.level - 1) c.in-Some.step.place _ _ c.read_node.ensures c.in_ok-view.ensures.node).fits in
    let child_is : node_on m0 step.child ≡ child = node_on-spelled m0 step.child child spelled.typed spelled.rules (found_as (g.S.Pages.map c.args.stage.now) c.in-Some.step.child _ _ c.read_node.ensures (c.in_ok-view.ensures.found tells)) in
    let made = child_made m0 (g.S.Pages.map c.view_in_place.new.pages) m1 (suc level) child step.place place.key place.version c.args.value last last1 replaced read.map child_level
    c.in-Some.ensures.leads.key c.in-Some.ensures.leads.version (c.in_ok-replaced.ensures.made (read.tells ∙ tells)) in
    let placed = placed_later m0 m1 c.args.page node new (made.below + new_pages made.changed place.version) last last1 is c.requires.typed (subst IsSome (sym (c.requires.there tells)) refl) made.places c.change.ensures.past in
    subst (λ (l : ℕ). IsMade l m0 m2 node place.key place.version c.args.value last c.store-2.new.last r) (sym at_level)
    (made_above level m0 m1 m2 c.args.page step.child node child new place.key place.version c.args.value last last1 c.store-2.new.last replaced r
    c.in-Some.ensures.leads.child_is child_is made c.change.ensures.taken placed c.change.ensures.storable.typed (stored (grows.tells ∙ read.tells ∙ tells)))) c.store-2.ensures.stored

pub returns-clause-directories : goal.returns-clause-directories
returns-clause-directories g t c = IfOk-weaker c.store-2.result _ _ (λ r stored tells.
    let m0 : PageMap = g.S.Pages.map c.args.stage.now in
    let m1 : PageMap = g.S.Pages.map c.add_on.new.stage in
    let read = c.view_in_place.ensures.reads.read in
    let grows = c.add_on.ensures.grows.went_on in
    let first : KeepsDirectories m0 m1 = subst (λ (m : PageMap). KeepsDirectories m m1) read.map (c.in_ok-replaced.ensures.directories (read.tells ∙ tells)) in
    let none = directories.still_none m0 m1 c.args.page first (directories.no_directory m0 c.args.page c.args.node.now (c.requires.there tells)) in
    directories.keeps_both m0 m1 (g.S.Pages.map c.store-2.new.stage) first
    (directories.stored_keeps m1 (g.S.Pages.map c.store-2.new.stage) c.args.page c.change.new.node c.args.place.version c.add_on.new.last c.store-2.new.last r none
    (stored (grows.tells ∙ read.tells ∙ tells)))) c.store-2.ensures.stored

pub change-requires-clause-replaced : goal.change-requires-clause-replaced
change-requires-clause-replaced g t c =
    outer_fits (alive_lows c.args.node.now.entries.items c.args.place.version) c.args.place.key c.in-Some.step.place.low c.args.place.high c.in-Some.step.place.high c.in_ok-replaced.replaced
    c.in-Some.ensures.low c.in-Some.ensures.leads.high c.in_ok-replaced.ensures.fits

pub returns-clause-fits : goal.returns-clause-fits
returns-clause-fits g t c = IfOk-weaker c.store-2.result _ _ (λ r split.
    let within = lows_within c.args.place c.args.node.now.entries.items c.requires.placed.within in
    split_fits c.change.new.node c.args.place.version c.args.place.low c.args.place.high r
    (c.change.ensures.each (lies_in c.args.place.low c.args.place.high)
    (of_cut _ (λ x. IsTrue (lies_in c.args.place.low c.args.place.high x)) (cut_of c.in_ok-replaced.replaced)
    (λ x h. and_from (nat_le c.args.place.low x) (ends_after c.args.place.high x) (le-leb c.args.place.low x h.0) h.1)
    (cut_inside_too (alive_lows c.args.node.now.entries.items c.args.place.version) c.args.place.key c.in-Some.step.place.low c.args.place.high c.in-Some.step.place.high c.args.place.low c.in_ok-replaced.replaced
    within c.in-Some.ensures.low c.in-Some.ensures.leads.high c.in_ok-replaced.ensures.fits)) within) split) c.store-2.ensures.split

pub returns-in_default-clause-added : goal.returns-in_default-clause-added
returns-in_default-clause-added g t c = IfOk-weaker c.store.result _ _ (λ r stored tells test places least key_test s h ways.
    let place = c.args.place in
    leaf_added (g.S.Pages.map c.args.stage.now) (g.S.Pages.map c.store.new.stage) c.args.page c.args.node.now c.add_to_leaf.new.node place.version place.key c.args.value place.low place.high c.args.last.now c.store.new.last r
    (leaf_here c.args.node.now place.key place.version c.requires.placed.leads (c.in_default.ensures.none refl)) c.requires.rules c.requires.typed (c.requires.there tells)
    c.add_to_leaf.ensures.storable c.add_to_leaf.ensures.past c.add_to_leaf.ensures.value c.add_to_leaf.ensures.tests c.add_to_leaf.ensures.cut
    (record { from = c.requires.key.0; before = c.requires.key.1; fits = c.requires.key_fits }) (stored tells) test places least key_test s h ways) c.store.ensures.stored

pub returns-in_default-clause-apart : goal.returns-in_default-clause-apart
returns-in_default-clause-apart g t c = IfOk-weaker c.store.result _ _ (λ r stored tells p off some.
    stored_apart (g.S.Pages.map c.args.stage.now) (g.S.Pages.map c.store.new.stage) c.args.page c.add_to_leaf.new.node c.args.place.version c.args.last.now c.store.new.last r (stored tells) p
    (first_apart c.args.node.now.level (g.S.Pages.map c.args.stage.now) c.args.page c.args.place.key c.args.place.version p c.requires.rules.low_level off) some) c.store.ensures.stored

pub returns-clause-apart : goal.returns-clause-apart
returns-clause-apart g t c = IfOk-weaker c.store-2.result _ _ (λ r stored tells p off some.
    let m0 : PageMap = g.S.Pages.map c.args.stage.now in
    let m1 : PageMap = g.S.Pages.map c.add_on.new.stage in
    let place = c.args.place in
    let step = c.in-Some.step in
    let child = c.read_node.new.node in
    let map_is = c.view_in_place.ensures.reads.read.map in
    let a0 : OthersStay (way_pages child.level (g.S.Pages.map c.view_in_place.new.pages) step.child step.place.key step.place.version) (g.S.Pages.map c.view_in_place.new.pages) m1 = c.in_ok-replaced.ensures.apart (search rules) in
    let a1 = subst (λ (m : PageMap). OthersStay (way_pages child.level m step.child step.place.key step.place.version) m m1) map_is a0 in
    let a2 = subst (λ (k : ℕ). OthersStay (way_pages child.level m0 step.child k step.place.version) m0 m1) c.in-Some.ensures.leads.key a1 in
    let a3 = subst (λ (w : ℕ). OthersStay (way_pages child.level m0 step.child place.key w) m0 m1) c.in-Some.ensures.leads.version a2 in
    let a4 = subst (λ (l : ℕ). OthersStay (way_pages l m0 step.child place.key place.version) m0 m1) (fits_as (c.args.node.now.level - 1) c.in-Some.step.place _ _ c.read_node.ensures c.in_ok-view.ensures.node).fits.at_level a3 in
    both_apart m0 m1 (g.S.Pages.map c.store-2.new.stage) c.args.node.now.level c.args.page step.child c.args.node.now c.change.new.node place.version place.key c.add_on.new.last c.store-2.new.last r
    c.in-Some.ensures.level c.requires.rules c.requires.typed (c.requires.there tells) c.in-Some.ensures.leads.child_is a4 (stored (search rules)) p off some) c.store-2.ensures.stored

pub returns-clause-added : goal.returns-clause-added
returns-clause-added g t c = IfOk-weaker c.store-2.result _ _ (λ r stored tells test places least key_test s h ways.
    let m0 : PageMap = g.S.Pages.map c.args.stage.now in
    let m1 : PageMap = g.S.Pages.map c.add_on.new.stage in
    let place = c.args.place in
    let step = c.in-Some.step in
    let child = c.read_node.new.node in
    let node = c.args.node.now in
    let value = c.args.value in
    let last = c.args.last.now in
    let last1 = c.add_on.new.last in
    let replaced = c.in_ok-replaced.replaced in
    let v = place.version in
    let key = place.key in
    let lows = alive_lows node.entries.items v in
    let level : ℕ = node.level - 2 in
    let at_level : node.level ≡ suc (suc level) = omega (arith, c.in-Some.ensures.level) in
    let child_level : child.level ≡ suc level = (fits_as (c.args.node.now.level - 1) c.in-Some.step.place _ _ c.read_node.ensures c.in_ok-view.ensures.node).fits.at_level ∙ (let e : node.level - 1 ≡ suc level = omega (arith, c.in-Some.ensures.level) in e) in
    let map_is = c.view_in_place.ensures.reads.read.map in
    let r0 : AddsBelow child.level (g.S.Pages.map c.view_in_place.new.pages) m1 step.child step.place.version step.place.key value step.place.low step.place.high last last1 replaced = c.in_ok-replaced.ensures.added (search rules) in
    let r1 = subst (λ (m : PageMap). AddsBelow child.level m m1 step.child step.place.version step.place.key value step.place.low step.place.high last last1 replaced) map_is r0 in
    let r2 = subst (λ (l : ℕ). AddsBelow l m0 m1 step.child step.place.version step.place.key value step.place.low step.place.high last last1 replaced) child_level r1 in
    let r3 = subst (λ (w : ℕ). AddsBelow (suc level) m0 m1 step.child w step.place.key value step.place.low step.place.high last last1 replaced) c.in-Some.ensures.leads.version r2 in
    let r4 = subst (λ (k : ℕ). AddsBelow (suc level) m0 m1 step.child v k value step.place.low step.place.high last last1 replaced) c.in-Some.ensures.leads.key r3 in
    let r5 = subst (λ (l : ℕ). AddsBelow (suc level) m0 m1 step.child v key value l step.place.high last last1 replaced) c.in-Some.ensures.leads.low r4 in
    let r6 = subst (λ (e : Option ℕ). AddsBelow (suc level) m0 m1 step.child v key value (inner_low place.low lows key) e last last1 replaced) c.in-Some.ensures.leads.high r5 in
    let a0 : OthersStay (way_pages child.level (g.S.Pages.map c.view_in_place.new.pages) step.child step.place.key step.place.version) (g.S.Pages.map c.view_in_place.new.pages) m1 = c.in_ok-replaced.ensures.apart (search rules) in
    let a1 = subst (λ (m : PageMap). OthersStay (way_pages child.level m step.child step.place.key step.place.version) m m1) map_is a0 in
    let a2 = subst (λ (k : ℕ). OthersStay (way_pages child.level m0 step.child k step.place.version) m0 m1) c.in-Some.ensures.leads.key a1 in
    let a3 = subst (λ (w : ℕ). OthersStay (way_pages child.level m0 step.child key w) m0 m1) c.in-Some.ensures.leads.version a2 in
    let a4 = subst (λ (l : ℕ). OthersStay (way_pages l m0 step.child key v) m0 m1) child_level a3 in
    let fits = outer_fits lows key step.place.low place.high step.place.high replaced c.in-Some.ensures.low c.in-Some.ensures.leads.high c.in_ok-replaced.ensures.fits in
    let cut_fits = cut_inside_too lows key step.place.low place.high step.place.high place.low replaced (lows_within place node.entries.items c.requires.placed.within) c.in-Some.ensures.low c.in-Some.ensures.leads.high c.in_ok-replaced.ensures.fits in
    index_added m0 m1 (g.S.Pages.map c.store-2.new.stage) c.args.page step.child node c.change.new.node v key value place.low place.high last last1 c.store-2.new.last replaced r level
    at_level c.requires.rules c.requires.typed (c.requires.there tells) c.in-Some.ensures.leads.child_is fits r6 a4 c.change.ensures.storable c.change.ensures.past c.change.ensures.value c.change.ensures.led c.change.ensures.others
    c.change.ensures.lows c.change.ensures.around c.change.ensures.cut cut_fits c.step_from.ensures.same
    (record { from = c.requires.key.0; before = c.requires.key.1; fits = c.requires.key_fits }) (stored (search rules)) test places least key_test s h ways) c.store-2.ensures.stored

pub returns-clause-grows : goal.returns-clause-grows
returns-clause-grows g t c =
    let read = c.view_in_place.ensures.reads.read in
    let rec = c.add_on.ensures.grows in
    let put = c.store-2.ensures.grows in
    let level = (fits_as (c.args.node.now.level - 1) c.in-Some.step.place _ _ c.read_node.ensures c.in_ok-view.ensures.node).fits.at_level in
    let two = c.in-Some.ensures.level in
    record {
      went_on = record {
        tells = put.went_on.tells ∙ rec.went_on.tells ∙ read.tells;
        base = put.went_on.base ∙ rec.went_on.base ∙ read.base;
        limit = put.went_on.limit ∙ rec.went_on.limit ∙ read.limit;
        free_in_order = search rules;
        none_forgotten = search rules;
        allotted = omega (arith, put.went_on.allotted, rec.went_on.allotted, read.allotted);
        at_most = omega (arith, put.went_on.at_most, rec.went_on.at_most, read.allotted, level, two);
        gets = omega (arith, put.went_on.gets, rec.went_on.gets, read.gets);
        faults = omega (arith, put.went_on.faults, rec.went_on.faults, read.faults);
      };
      keeps = search rules;
      disk = search rules;
      page_limit = λ n e. let d = put.page_limit n e in (d.0 ∙ rec.went_on.limit ∙ read.limit, d.1, omega (arith, d.2, rec.went_on.at_most, read.allotted, level, two));
    }

pub returns-then-not-is_changeable-clause-grows : goal.returns-then-not-is_changeable-clause-grows
returns-then-not-is_changeable-clause-grows g t c =
    let read = c.view_in_place.ensures.reads.read in
    record {
      went_on = record {
        tells = read.tells;
        base = read.base;
        limit = read.limit;
        free_in_order = λ _ ordered. read.free_in_order ordered;
        none_forgotten = search rules;
        allotted = omega (arith, read.allotted);
        at_most = omega (arith, read.allotted);
        gets = read.gets;
        faults = read.faults;
      };
      keeps = search rules;
      disk = λ e. absurd cc;
      page_limit = λ n e. absurd cc;
    }

pub returns-in_err-replaced-clause-grows : goal.returns-in_err-replaced-clause-grows
returns-in_err-replaced-clause-grows g t c =
    let read = c.view_in_place.ensures.reads.read in
    let rec = c.in_err-replaced.ensures.grows in
    let level = (fits_as (c.args.node.now.level - 1) c.in-Some.step.place _ _ c.read_node.ensures c.in_ok-view.ensures.node).fits.at_level in
    let two = c.in-Some.ensures.level in
    let told = err_from_is_err_and c.from_residual-in_err-replaced.result c.from_residual-in_err-replaced.ensures.1 in
    record {
      went_on = record {
        tells = rec.went_on.tells ∙ read.tells;
        base = rec.went_on.base ∙ read.base;
        limit = rec.went_on.limit ∙ read.limit;
        free_in_order = search rules;
        none_forgotten = search rules;
        allotted = omega (arith, rec.went_on.allotted, read.allotted);
        at_most = omega (arith, rec.went_on.at_most, read.allotted, level, two);
        gets = omega (arith, rec.went_on.gets, read.gets);
        faults = omega (arith, rec.went_on.faults, read.faults);
      };
      keeps = search rules;
      disk = λ e. (let risen = rec.disk (ap Err (exit_error c.from_residual-in_err-replaced.result c.in_err-replaced.field-0.0 Disk told e)) in search rules);
      page_limit = λ n e.
          let d = rec.page_limit n (ap Err (exit_error c.from_residual-in_err-replaced.result c.in_err-replaced.field-0.0 (PageLimit n) told e)) in
          (d.0 ∙ read.limit, d.1, omega (arith, d.2, read.allotted, level, two));
    }

pub returns-in_default-clause-sound : goal.returns-in_default-clause-sound
returns-in_default-clause-sound g t c = λ test places least p tells key_test s h ways ordered. (
    let m0 : PageMap = g.S.Pages.map c.args.stage.now in
    let place = c.args.place in
    let node = c.args.node.now in
    let nodes : List ℕ = chain_from places m0 c.args.last.now in
    let key_in : IsKeyIn place.low place.high place.key = record { from = c.requires.key.0; before = c.requires.key.1; fits = c.requires.key_fits } in
    let top = root_spelled node.level m0 nodes c.args.page place.version place.key place.low place.high least (ways place.key key_in) in
    let is : node_on m0 c.args.page ≡ node = node_on-spelled m0 c.args.page node c.requires.typed c.requires.rules (c.requires.there tells) in
    c.store.ensures.sound places p tells s top.listed (c.add_to_leaf.ensures.past.place ∙ sym (ap (λ (n : MvNode). n.place) is)) (c.add_to_leaf.ensures.past.before ∙ sym (ap (λ (n : MvNode). n.before) is)) ordered)

pub returns-in_err-view-clause-sound : goal.returns-in_err-view-clause-sound
returns-in_err-view-clause-sound g t c = λ test places least p tells key_test s h ways ordered e. (
    let m0 : PageMap = g.S.Pages.map c.args.stage.now in
    let place = c.args.place in
    let step = c.in-Some.step in
    let node = c.args.node.now in
    let v = place.version in
    let key = place.key in
    let nodes : List ℕ = chain_from places m0 c.args.last.now in
    let level : ℕ = node.level - 2 in
    let at_level : node.level ≡ suc (suc level) = omega (arith, c.in-Some.ensures.level) in
    let there = c.requires.there tells in
    let key_in : IsKeyIn place.low place.high key = record { from = c.requires.key.0; before = c.requires.key.1; fits = c.requires.key_fits } in
    let way = child_fits level m0 nodes c.args.page step.child place step.place node least at_level there c.requires.typed c.requires.rules c.in-Some.ensures.leads (ways key key_in) in
    let told = err_from_is_err_and c.from_residual.result c.from_residual.ensures.1 in
    let same = read_damaged c.from_residual.result c.in_err-view.field-0.0 p told e in
    let why = c.in_err-view.ensures.damaged p (ap Err same) in
    let less : node.level - 1 ≡ suc level = omega (arith, at_level) in
    child_undamaged level m0 nodes step.child step.place way (subst (λ (l : ℕ). HoldsNoNode FitsPlace m0 l step.place step.child) less (why.1 tells)))

pub returns-then-not-is_changeable-clause-sound : goal.returns-then-not-is_changeable-clause-sound
returns-then-not-is_changeable-clause-sound g t c = λ test places least p tells key_test s h ways ordered e. (
    let m0 : PageMap = g.S.Pages.map c.args.stage.now in
    let place = c.args.place in
    let step = c.in-Some.step in
    let node = c.args.node.now in
    let v = place.version in
    let key = place.key in
    let nodes : List ℕ = chain_from places m0 c.args.last.now in
    let level : ℕ = node.level - 2 in
    let at_level : node.level ≡ suc (suc level) = omega (arith, c.in-Some.ensures.level) in
    let there = c.requires.there tells in
    let key_in : IsKeyIn place.low place.high key = record { from = c.requires.key.0; before = c.requires.key.1; fits = c.requires.key_fits } in
    let way = child_fits level m0 nodes c.args.page step.child place step.place node least at_level there c.requires.typed c.requires.rules c.in-Some.ensures.leads (ways key key_in) in
    let child = c.read_node.new.node in
    let spelled = (fits_as (c.args.node.now.level - 1) c.in-Some.step.place _ _ c.read_node.ensures c.in_ok-view.ensures.node).fits in
    let ns = root_spelled (suc level) m0 nodes step.child step.place.version step.place.key step.place.low step.place.high 24 way in
    let at_version = subst (λ (w : ℕ). NodeStands m0 nodes (suc level) step.child w step.place.low step.place.high 24) c.in-Some.ensures.leads.version ns in
    let can = changeable_where_stands m0 nodes (suc level) step.child v step.place.low step.place.high 24 child c.requires.changeable.last (h step.child ns.listed).past at_version (found_as (g.S.Pages.map c.args.stage.now) c.in-Some.step.child _ _ c.read_node.ensures (c.in_ok-view.ensures.found tells)) spelled.typed spelled.rules in
    iff_false c.is_changeable.ensures c.if-not-is_changeable.true can)

pub returns-in_err-replaced-clause-sound : goal.returns-in_err-replaced-clause-sound
returns-in_err-replaced-clause-sound g t c = λ test places least p tells key_test s h ways ordered e. (
    let m0 : PageMap = g.S.Pages.map c.args.stage.now in
    let place = c.args.place in
    let step = c.in-Some.step in
    let node = c.args.node.now in
    let v = place.version in
    let key = place.key in
    let nodes : List ℕ = chain_from places m0 c.args.last.now in
    let level : ℕ = node.level - 2 in
    let at_level : node.level ≡ suc (suc level) = omega (arith, c.in-Some.ensures.level) in
    let there = c.requires.there tells in
    let key_in : IsKeyIn place.low place.high key = record { from = c.requires.key.0; before = c.requires.key.1; fits = c.requires.key_fits } in
    let child = c.read_node.new.node in
    let last = c.args.last.now in
    let lows = alive_lows node.entries.items v in
    let told = err_from_is_err_and c.from_residual-in_err-replaced.result c.from_residual-in_err-replaced.ensures.1 in
    let same = exit_error c.from_residual-in_err-replaced.result c.in_err-replaced.field-0.0 (Damaged p) told e in
    let child_level : child.level ≡ suc level = (fits_as (c.args.node.now.level - 1) c.in-Some.step.place _ _ c.read_node.ensures c.in_ok-view.ensures.node).fits.at_level ∙ (let e : node.level - 1 ≡ suc level = omega (arith, c.in-Some.ensures.level) in e) in
    let read = c.view_in_place.ensures.reads.read in
    let r0 : Fails child.level (g.S.Pages.map c.view_in_place.new.pages) step.child step.place.version step.place.key step.place.low step.place.high last =
    λ test1 places1 least1 kt s1 h1 w1. c.in_err-replaced.ensures.sound test1 places1 least1 p (read.tells ∙ tells) kt s1 h1 w1 (read.free_in_order ordered) (ap Err same) in
    let r1 = subst (λ (m : PageMap). Fails child.level m step.child step.place.version step.place.key step.place.low step.place.high last) read.map r0 in
    let r2 = subst (λ (l : ℕ). Fails l m0 step.child step.place.version step.place.key step.place.low step.place.high last) child_level r1 in
    let r3 = subst (λ (w : ℕ). Fails (suc level) m0 step.child w step.place.key step.place.low step.place.high last) c.in-Some.ensures.leads.version r2 in
    let r4 = subst (λ (k : ℕ). Fails (suc level) m0 step.child v k step.place.low step.place.high last) c.in-Some.ensures.leads.key r3 in
    let r5 = subst (λ (l : ℕ). Fails (suc level) m0 step.child v key l step.place.high last) c.in-Some.ensures.leads.low r4 in
    let r6 = subst (λ (o : Option ℕ). Fails (suc level) m0 step.child v key (inner_low place.low lows key) o last) c.in-Some.ensures.leads.high r5 in
    r6 test places 24 key_test s h (descending.child_ways m0 c.args.page step.child node v key place.low place.high level at_level c.requires.rules c.requires.typed there c.in-Some.ensures.leads.child_is c.step_from.ensures.same key_in nodes least ways))

pub returns-clause-sound : goal.returns-clause-sound
returns-clause-sound g t c = λ test places least p tells key_test s h ways ordered. (
    let m0 : PageMap = g.S.Pages.map c.args.stage.now in
    let place = c.args.place in
    let step = c.in-Some.step in
    let node = c.args.node.now in
    let v = place.version in
    let key = place.key in
    let nodes : List ℕ = chain_from places m0 c.args.last.now in
    let level : ℕ = node.level - 2 in
    let at_level : node.level ≡ suc (suc level) = omega (arith, c.in-Some.ensures.level) in
    let there = c.requires.there tells in
    let key_in : IsKeyIn place.low place.high key = record { from = c.requires.key.0; before = c.requires.key.1; fits = c.requires.key_fits } in
    let m1 : PageMap = g.S.Pages.map c.add_on.new.stage in
    let child = c.read_node.new.node in
    let value = c.args.value in
    let last = c.args.last.now in
    let last1 = c.add_on.new.last in
    let replaced = c.in_ok-replaced.replaced in
    let lows = alive_lows node.entries.items v in
    let child_level : child.level ≡ suc level = (fits_as (c.args.node.now.level - 1) c.in-Some.step.place _ _ c.read_node.ensures c.in_ok-view.ensures.node).fits.at_level ∙ (let e : node.level - 1 ≡ suc level = omega (arith, c.in-Some.ensures.level) in e) in
    let read = c.view_in_place.ensures.reads.read in
    let r0 : AddsBelow child.level (g.S.Pages.map c.view_in_place.new.pages) m1 step.child step.place.version step.place.key value step.place.low step.place.high last last1 replaced = c.in_ok-replaced.ensures.added (search rules) in
    let r1 = subst (λ (m : PageMap). AddsBelow child.level m m1 step.child step.place.version step.place.key value step.place.low step.place.high last last1 replaced) read.map r0 in
    let r2 = subst (λ (l : ℕ). AddsBelow l m0 m1 step.child step.place.version step.place.key value step.place.low step.place.high last last1 replaced) child_level r1 in
    let r3 = subst (λ (w : ℕ). AddsBelow (suc level) m0 m1 step.child w step.place.key value step.place.low step.place.high last last1 replaced) c.in-Some.ensures.leads.version r2 in
    let r4 = subst (λ (k : ℕ). AddsBelow (suc level) m0 m1 step.child v k value step.place.low step.place.high last last1 replaced) c.in-Some.ensures.leads.key r3 in
    let r5 = subst (λ (l : ℕ). AddsBelow (suc level) m0 m1 step.child v key value l step.place.high last last1 replaced) c.in-Some.ensures.leads.low r4 in
    let r6 = subst (λ (o : Option ℕ). AddsBelow (suc level) m0 m1 step.child v key value (inner_low place.low lows key) o last last1 replaced) c.in-Some.ensures.leads.high r5 in
    let a0 : OthersStay (way_pages child.level (g.S.Pages.map c.view_in_place.new.pages) step.child step.place.key step.place.version) (g.S.Pages.map c.view_in_place.new.pages) m1 = c.in_ok-replaced.ensures.apart (search rules) in
    let a1 = subst (λ (m : PageMap). OthersStay (way_pages child.level m step.child step.place.key step.place.version) m m1) read.map a0 in
    let a2 = subst (λ (k : ℕ). OthersStay (way_pages child.level m0 step.child k step.place.version) m0 m1) c.in-Some.ensures.leads.key a1 in
    let a3 = subst (λ (w : ℕ). OthersStay (way_pages child.level m0 step.child key w) m0 m1) c.in-Some.ensures.leads.version a2 in
    let a4 = subst (λ (l : ℕ). OthersStay (way_pages l m0 step.child key v) m0 m1) child_level a3 in
    let child_ways = descending.child_ways m0 c.args.page step.child node v key place.low place.high level at_level c.requires.rules c.requires.typed there c.in-Some.ensures.leads.child_is c.step_from.ensures.same key_in nodes least ways in
    let still = descending.still m0 c.args.page step.child node v key place.low place.high level at_level c.requires.rules c.requires.typed there c.in-Some.ensures.leads.child_is c.step_from.ensures.same key_in nodes least ways m1 a4 in
    let done = r6 test places 24 key_test s h child_ways in
    let top = root_spelled node.level m0 nodes c.args.page v key place.low place.high least (ways key key_in) in
    let listed = named_second done.grown.new nodes (chain_from done.new_places m1 last1) c.args.page done.grown.chain top.listed in
    let grows = c.add_on.ensures.grows.went_on in
    c.store-2.ensures.sound done.new_places p (grows.tells ∙ read.tells ∙ tells) done.grown.stands listed (c.change.ensures.past.place ∙ sym (ap (λ (n : MvNode). n.place) still))
    (c.change.ensures.past.before ∙ sym (ap (λ (n : MvNode). n.before) still)) (grows.free_in_order (read.tells ∙ tells) (read.free_in_order ordered)))

pub returns-in_default-clause-damaged : goal.returns-in_default-clause-damaged
returns-in_default-clause-damaged g t c = λ p e tells. (
    let m0 : PageMap = g.S.Pages.map c.args.stage.now in
    let place = c.args.place in
    let node = c.args.node.now in
    let is : node_on m0 c.args.page ≡ node = node_on-spelled m0 c.args.page node c.requires.typed c.requires.rules (c.requires.there tells) in
    elim (c.store.ensures.damaged p e tells (placed_as m0 c.args.page node c.add_to_leaf.new.node is c.requires.typed c.add_to_leaf.ensures.past)) [
      | inl end ↦ inr (inl (
        whole_leaf m0 place node (c.in_default.ensures.none refl),
        ends_leaf node.level m0 node c.add_to_leaf.new.node place.key place.version c.args.value c.args.last.now p
            (leaf_here node place.key place.version c.requires.placed.leads (c.in_default.ensures.none refl)) c.add_to_leaf.ensures.taken end,
      ))
      | inr unordered ↦ inr (inr unordered)
    ])

pub returns-in_err-view-clause-damaged : goal.returns-in_err-view-clause-damaged
returns-in_err-view-clause-damaged g t c = λ p e tells. (
    let m0 : PageMap = g.S.Pages.map c.args.stage.now in
    let step = c.in-Some.step in
    let node = c.args.node.now in
    let told = err_from_is_err_and c.from_residual.result c.from_residual.ensures.1 in
    let same = read_damaged c.from_residual.result c.in_err-view.field-0.0 p told e in
    let why = c.in_err-view.ensures.damaged p (ap Err same) in
    let some : 1 ≤ node.level - 1 = omega (arith, c.in-Some.ensures.level) in
    inl (add_past_here m0 c.args.place step.place node step.child p some c.in-Some.ensures.leads why.0 (λ other bytes here fits. why.1 tells other bytes here fits.0)))

pub returns-then-not-is_changeable-clause-damaged : goal.returns-then-not-is_changeable-clause-damaged
returns-then-not-is_changeable-clause-damaged g t c = λ p e tells. (
    let m0 : PageMap = g.S.Pages.map c.args.stage.now in
    let step = c.in-Some.step in
    let node = c.args.node.now in
    let child = c.read_node.new.node in
    let spelled = (fits_as (c.args.node.now.level - 1) c.in-Some.step.place _ _ c.read_node.ensures c.in_ok-view.ensures.node).fits in
    let some : 1 ≤ node.level - 1 = omega (arith, c.in-Some.ensures.level) in
    let never = iff_false c.is_changeable.ensures c.if-not-is_changeable.true in
    inl (add_past_here m0 c.args.place step.place node step.child p some c.in-Some.ensures.leads (sym (err_same_staged step.child p e)) (λ other bytes here fits.
    let is : child ≡ other = same_spelled m0 step.child child other bytes spelled.typed spelled.rules (found_as (g.S.Pages.map c.args.stage.now) c.in-Some.step.child _ _ c.read_node.ensures (c.in_ok-view.ensures.found tells)) fits.0.fits.typed fits.0.fits.rules fits.0.fits.spelled here in
    let can = subst (λ (w : ℕ). IsChangeable w other.entries.items) c.in-Some.ensures.leads.version fits.1 in
    never (subst (λ (n : MvNode). IsChangeable c.args.place.version n.entries.items) (sym is) can))))

-- The chain ends on the way below the child, of the map before it was read.
child_ends : (m mr : PageMap) (l : ℕ) (below : MvNode) (step : Place) (key v value last p : ℕ) → mr ≡ m → below.level ≡ l → step.key ≡ key → step.version ≡ v
    → EndsOnWay below.level mr below step.key step.version value last p → EndsOnWay l m below key v value last p
child_ends m mr l below step key v value last p read level key_is version_is ends =
    subst (λ (w : ℕ). EndsOnWay l m below key w value last p) version_is (subst (λ (k : ℕ). EndsOnWay l m below k step.version value last p) key_is
    (subst (λ (x : ℕ). EndsOnWay x m below step.key step.version value last p) level (subst (λ (n : PageMap). EndsOnWay below.level n below step.key step.version value last p) read ends)))

pub returns-in_err-replaced-clause-damaged : goal.returns-in_err-replaced-clause-damaged
returns-in_err-replaced-clause-damaged g t c = λ p e tells. (
    let m0 : PageMap = g.S.Pages.map c.args.stage.now in
    let step = c.in-Some.step in
    let node = c.args.node.now in
    let child = c.read_node.new.node in
    let read = c.view_in_place.ensures.reads.read in
    let told = err_from_is_err_and c.from_residual-in_err-replaced.result c.from_residual-in_err-replaced.ensures.1 in
    let same = exit_error c.from_residual-in_err-replaced.result c.in_err-replaced.field-0.0 (Damaged p) told e in
    let child_level : child.level ≡ node.level - 1 = (fits_as (c.args.node.now.level - 1) c.in-Some.step.place _ _ c.read_node.ensures c.in_ok-view.ensures.node).fits.at_level in
    let some : 1 ≤ node.level - 1 = omega (arith, c.in-Some.ensures.level) in
    let can : IsChangeable step.place.version child.entries.items = subst (λ (w : ℕ). IsChangeable w child.entries.items) (sym c.in-Some.ensures.leads.version) (c.is_changeable.ensures.0 c.if-not-is_changeable.false) in
    elim (c.in_err-replaced.ensures.damaged p (ap Err same) (read.tells ∙ tells)) [
      | inl past ↦ inl (add_past_further m0 c.args.place step.place node child step.child p (mv_node_page child) some c.in-Some.ensures.leads (found_as (g.S.Pages.map c.args.stage.now) c.in-Some.step.child _ _ c.read_node.ensures (c.in_ok-view.ensures.found tells)) ((fits_as (c.args.node.now.level - 1) c.in-Some.step.place _ _ c.read_node.ensures c.in_ok-view.ensures.node), can)
          (subst (λ (m : PageMap). IsDamagedPastForAdd m step.place child p) read.map past))
      | inr (inl found) ↦
          let ends = found.1 in
          let below : IsWholePast m0 step.place child = subst (λ (m : PageMap). IsWholePast m step.place child) read.map found.0 in
          let whole = whole_index m0 c.args.place step.place node child step.child c.in-Some.ensures.leads (found_as (g.S.Pages.map c.args.stage.now) c.in-Some.step.child _ _ c.read_node.ensures (c.in_ok-view.ensures.found tells)) ((fits_as (c.args.node.now.level - 1) c.in-Some.step.place _ _ c.read_node.ensures c.in_ok-view.ensures.node), can) below in
          let place = c.args.place in
          let last = c.args.last.now in
          let level : ℕ = node.level - 1 in
          let at_level : node.level ≡ suc level = omega (arith, c.in-Some.ensures.level) in
          let spelled = (fits_as (c.args.node.now.level - 1) c.in-Some.step.place _ _ c.read_node.ensures c.in_ok-view.ensures.node).fits in
          let child_is : node_on m0 step.child ≡ child = node_on-spelled m0 step.child child spelled.typed spelled.rules (found_as (g.S.Pages.map c.args.stage.now) c.in-Some.step.child _ _ c.read_node.ensures (c.in_ok-view.ensures.found tells)) in
          let here = child_ends m0 (g.S.Pages.map c.view_in_place.new.pages) level child step.place place.key place.version c.args.value last p read.map child_level
          c.in-Some.ensures.leads.key c.in-Some.ensures.leads.version ends in
          inr (inl (
            whole,
            subst (λ (l : ℕ). EndsOnWay l m0 node place.key place.version c.args.value last p) (sym at_level)
                (ends_below level m0 step.child node child place.key place.version c.args.value last p c.in-Some.ensures.leads.child_is child_is here),
          ))
      | inr (inr unordered) ↦ inr (inr (λ ordered. unordered (read.free_in_order ordered)))
    ])

pub returns-clause-damaged : goal.returns-clause-damaged
returns-clause-damaged g t c = λ p e tells. (
    let m0 : PageMap = g.S.Pages.map c.args.stage.now in
    let m1 : PageMap = g.S.Pages.map c.add_on.new.stage in
    let place = c.args.place in
    let node = c.args.node.now in
    let step = c.in-Some.step in
    let child = c.read_node.new.node in
    let new = c.change.new.node in
    let last = c.args.last.now in
    let last1 = c.add_on.new.last in
    let replaced = c.in_ok-replaced.replaced in
    let read = c.view_in_place.ensures.reads.read in
    let grows = c.add_on.ensures.grows.went_on in
    let level : ℕ = node.level - 2 in
    let at_level : node.level ≡ suc (suc level) = omega (arith, c.in-Some.ensures.level) in
    let child_level : child.level ≡ suc level = (fits_as (c.args.node.now.level - 1) c.in-Some.step.place _ _ c.read_node.ensures c.in_ok-view.ensures.node).fits.at_level ∙ (let e : node.level - 1 ≡ suc level = omega (arith, c.in-Some.ensures.level) in e) in
    let is : node_on m0 c.args.page ≡ node = node_on-spelled m0 c.args.page node c.requires.typed c.requires.rules (c.requires.there tells) in
    let spelled = (fits_as (c.args.node.now.level - 1) c.in-Some.step.place _ _ c.read_node.ensures c.in_ok-view.ensures.node).fits in
    let child_is : node_on m0 step.child ≡ child = node_on-spelled m0 step.child child spelled.typed spelled.rules (found_as (g.S.Pages.map c.args.stage.now) c.in-Some.step.child _ _ c.read_node.ensures (c.in_ok-view.ensures.found tells)) in
    let made = child_made m0 (g.S.Pages.map c.view_in_place.new.pages) m1 (suc level) child step.place place.key place.version c.args.value last last1 replaced read.map child_level
    c.in-Some.ensures.leads.key c.in-Some.ensures.leads.version (c.in_ok-replaced.ensures.made (read.tells ∙ tells)) in
    let placed = placed_later m0 m1 c.args.page node new (made.below + new_pages made.changed place.version) last last1 is c.requires.typed (subst IsSome (sym (c.requires.there tells)) refl) made.places c.change.ensures.past in
    let can : IsChangeable step.place.version child.entries.items = subst (λ (w : ℕ). IsChangeable w child.entries.items) (sym c.in-Some.ensures.leads.version) (c.is_changeable.ensures.0 c.if-not-is_changeable.false) in
    let below : IsWholePast m0 step.place child = subst (λ (m : PageMap). IsWholePast m step.place child) read.map (c.in_ok-replaced.ensures.whole (read.tells ∙ tells)) in
    let whole = whole_index m0 place step.place node child step.child c.in-Some.ensures.leads (found_as (g.S.Pages.map c.args.stage.now) c.in-Some.step.child _ _ c.read_node.ensures (c.in_ok-view.ensures.found tells)) ((fits_as (c.args.node.now.level - 1) c.in-Some.step.place _ _ c.read_node.ensures c.in_ok-view.ensures.node), can) below in
    elim (c.store-2.ensures.damaged p e (grows.tells ∙ read.tells ∙ tells) placed) [
      | inl end ↦ inr (inl (
        whole,
        subst (λ (l : ℕ). EndsOnWay l m0 node place.key place.version c.args.value last p) (sym at_level)
            (ends_above level m0 m1 step.child node child new place.key place.version c.args.value last last1 p replaced c.in-Some.ensures.leads.child_is child_is made c.change.ensures.taken end),
      ))
      | inr unordered ↦ inr (inr (λ ordered. unordered (grows.free_in_order (read.tells ∙ tells) (read.free_in_order ordered))))
    ])

pub returns-in_default-clause-whole : goal.returns-in_default-clause-whole
returns-in_default-clause-whole g t c = IfOk-weaker c.store.result _ _ (λ r stored tells.
    whole_leaf (g.S.Pages.map c.args.stage.now) c.args.place c.args.node.now (c.in_default.ensures.none refl)) c.store.ensures.stored

pub returns-clause-whole : goal.returns-clause-whole
returns-clause-whole g t c = IfOk-weaker c.store-2.result _ _ (λ r stored tells.
    let m0 : PageMap = g.S.Pages.map c.args.stage.now in
    let step = c.in-Some.step in
    let child = c.read_node.new.node in
    let read = c.view_in_place.ensures.reads.read in
    let can : IsChangeable step.place.version child.entries.items = subst (λ (w : ℕ). IsChangeable w child.entries.items) (sym c.in-Some.ensures.leads.version) (c.is_changeable.ensures.0 c.if-not-is_changeable.false) in
    let below : IsWholePast m0 step.place child = subst (λ (m : PageMap). IsWholePast m step.place child) read.map (c.in_ok-replaced.ensures.whole (read.tells ∙ tells)) in
    whole_index m0 c.args.place step.place c.args.node.now child step.child c.in-Some.ensures.leads (found_as (g.S.Pages.map c.args.stage.now) c.in-Some.step.child _ _ c.read_node.ensures (c.in_ok-view.ensures.found tells)) ((fits_as (c.args.node.now.level - 1) c.in-Some.step.place _ _ c.read_node.ensures c.in_ok-view.ensures.node), can) below) c.store-2.ensures.stored
