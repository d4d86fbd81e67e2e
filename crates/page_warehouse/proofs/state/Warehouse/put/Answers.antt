use Rattle.std.proofs.Common.{◌≡◌, ◌⊎◌, ◌+◌, ◌≤◌, ◌==◌, IsTrue, List, length, Err, inl, inr, sym, ◌∙◌, ap, subst, arith}
use Rattle.std.specs.List.{list_all}
use Rattle.bw_types.specs.Fits.{row_fits}
use Rattle.bw_types.specs.History.{History, changes, flat}
use Rattle.bw_types.specs.Lawful.{IsLawful, IsLawfulBatch}
use Rattle.bw_types.specs.Refusals.{total_mass}
use Rattle.bw_types.specs.declared.params.Params.{Params}
use Rattle.page_disk.specs.Image.{Image}
use Rattle.page_disk.specs.Since.{LeavesOnly}
use Rattle.page_layout.specs.declared.meta.Meta.{Meta}
use Rattle.ports.specs.Pages.{PageMap}
use Rattle.page_space.specs.Begun.{Begun, OrderedUnder, map_under}
use Rattle.page_space.specs.Shown.{IsInOrder, IsStagedInOrder, base_of, begun_of, disk_of, disk_under, map_of, meta_of, params_of, staged_map, staged_meta}
use Rattle.page_space.specs.Space.{HoldsSpace}
use Rattle.page_space.specs.declared.space.Space.{Space}
use Rattle.ports.specs.declared.page.StageFault.{StageFault}
use Rattle.ports.specs.declared.page.StageFault.TheVariants as fault
use Rattle.bw_types.specs.declared.tree.Tree.{Tree}
use Rattle.redo_journal.specs.Settled.{SettlesTo}
use Rattle.corner_forest.specs.Entries.{root_count}
use Rattle.corner_forest.specs.Enters.{first_pages}
use Rattle.page_warehouse.specs.Begun.{with_changes}
use Rattle.page_warehouse.specs.Entering.{FormKeeps}
use Rattle.page_warehouse.specs.Holds.{Holds}
use Rattle.page_warehouse.specs.Needs.{LacksPagesIn, StayOnePage, batch_need, changes_need, meta_charge}
use Rattle.page_warehouse.specs.NextMeta.{IsNextMeta}
use Rattle.page_warehouse.specs.Shown.{space_in}
use Rattle.page_warehouse.specs.declared.roots.Roots.{Roots}
use Rattle.page_warehouse.proofs.Drafted.{charge_after, charge_before, form_here, held_of, here_then, meta_is, ordered, unchanged, weakened}
use Rattle.page_warehouse.proofs.Here.{Here, here, space_here}
use Rattle.page_warehouse.proofs.Outcomes.{if_disk, if_done, if_kept, if_page_limit}
use Rattle.page_warehouse.proofs.state.Warehouse.put.Goals as goal

pub draft-requires-clause-fit : goal.draft-requires-clause-fit
draft-requires-clause-fit g c = subst (λ (p : Params). IsTrue (list_all (row_fits p) c.args.rows.now)) (sym c.args.self.params) c.requires.fit

pub draft-requires-clause-light : goal.draft-requires-clause-light
draft-requires-clause-light g c =
    let before = c.counts-before.ensures.mass ∙ ap (λ (m : Meta). m.mass) c.meta-2.ensures.value in
    let at = ap (λ (p : Params). total_mass p (flat c.args.rows.now)) c.args.self.params in
    omega (arith, before, at, c.requires.light)

pub returns-in-Err-clause-cause : goal.returns-in-Err-clause-cause
returns-in-Err-clause-cause g c = λ h held batch.
    let space = c.args.self.space in
    let x = g.D.Disk.image (disk_of space) in
    let params = params_of space in
    let meta = meta_of space in
    let map = map_of space in
    let batched = flat c.args.rows.now in
    let one = c.holds_one.ensures.one in
    let whole = c.is_held.ensures.held held.0 in
    let now : Here g.X.DomIndex params meta map h = here g.X.DomIndex one x params meta map (IsInOrder space) whole h held.1 in
    let order : IsInOrder space = c.holds_one.ensures.order x x.pages params meta map (space_here g.X.DomIndex one x params meta map (IsInOrder space) whole h held.1) (c.settling_laws.ensures.idle x (c.is_held.ensures.idle held.0)) in
    let order1 : IsStagedInOrder c.begin-stage.result = c.begin-stage.ensures.in_order order in
    let roots : Roots = record { table = c.meta-3.result.now.table; forest = c.args.self.forest } in
    let by_ids : c.is_by_ids-by_ids.result ≡ (meta.lives == 0) = c.is_by_ids-by_ids.ensures ∙ ap (λ (m : Meta). m.lives == 0) c.meta.ensures.value in
    let table = ap (λ (m : Meta). m.table) c.meta-3.ensures.value in
    let same : c.args.self.forest.params ≡ params = c.args.self.params in
    let form = form_here g.X.DomIndex params meta map h now c.is_by_ids-by_ids.result roots by_ids table same c.args.self.trees in
    let form1 = subst (λ (m : PageMap). FormKeeps g.X.DomIndex c.is_by_ids-by_ids.result m roots h) (sym c.begin-stage.ensures.map) form in
    let told : IsTrue (g.D.Disk.tells (disk_under c.begin-stage.result)) = subst IsTrue (sym (ap g.D.Disk.tells c.begin-stage.ensures.disk)) held.0 in
    let ver = c.counts-before.ensures.version ∙ ap (λ (m : Meta). m.version) c.meta-2.ensures.value in
    let ev = c.counts-before.ensures.events ∙ ap (λ (m : Meta). m.events) c.meta-2.ensures.value in
    let ro = c.counts-before.ensures.rows ∙ ap (λ (m : Meta). m.rows) c.meta-2.ensures.value in
    let ma = c.counts-before.ensures.mass ∙ ap (λ (m : Meta). m.mass) c.meta-2.ensures.value in
    let on = c.in-Err.ensures.keeps_on told h (subst (λ (p : Params). IsLawful p h) (sym same) now.lawful) (subst (λ (p : Params). IsLawfulBatch p h batched) (sym same) batch) (ver ∙ now.tells.version) (ro ∙ now.tells.rows) form1 in
    c.given_back.ensures.cause (λ page bad. on.sound order1 page (ap (λ (f : StageFault). Err f) bad))

pub returns-in-Err-clause-done : goal.returns-in-Err-clause-done
returns-in-Err-clause-done g c = λ h held batch. if_done c.given_back.result (λ house version. ⊥) _ (λ house version no. absurd no) c.given_back.ensures.not_done

pub returns-in-Err-clause-params_done : goal.returns-in-Err-clause-params_done
returns-in-Err-clause-params_done g c = if_done c.given_back.result (λ house version. ⊥) _ (λ house version no. absurd no) c.given_back.ensures.not_done

pub returns-in-Err-clause-settled : goal.returns-in-Err-clause-settled
returns-in-Err-clause-settled g c = if_done c.given_back.result (λ house version. ⊥) _ (λ house version no. absurd no) c.given_back.ensures.not_done

pub returns-in-Err-clause-rises : goal.returns-in-Err-clause-rises
returns-in-Err-clause-rises g c = λ h held batch. if_done c.given_back.result (λ house version. ⊥) _ (λ house version no. absurd no) c.given_back.ensures.not_done

pub returns-in-Err-clause-by_lives : goal.returns-in-Err-clause-by_lives
returns-in-Err-clause-by_lives g c = if_done c.given_back.result (λ house version. ⊥) _ (λ house version no. absurd no) c.given_back.ensures.not_done

pub returns-in-Ok-clause-by_lives : goal.returns-in-Ok-clause-by_lives
returns-in-Ok-clause-by_lives g c = λ tells.
    let place = c.is_in_place.ensures tells in
    let last : meta_of c.over-house.result.space ≡ staged_meta c.draft.new.stage = ap (λ (s : Space g.row.D.Denot g.D.Disk). meta_of s) c.over-house.ensures ∙ c.in-Ok.ensures.meta in
    ap (λ (m : Meta). m.lives) (place ∙ last) ∙ c.in_default.ensures.meta.lives

pub returns-in-Err-clause-kept : goal.returns-in-Err-clause-kept
returns-in-Err-clause-kept g c =
    let back = c.draft.ensures.base ∙ c.begin-stage.ensures.base in
    if_kept c.given_back.result (λ house. space_in house ≡ c.abandon.result) (λ house. begun_of (space_in house) ≡ begun_of c.args.self.space) (λ house is. ap (λ (s : Space g.row.D.Denot g.D.Disk). begun_of s) is ∙ c.abandon.ensures.base ∙ back) c.given_back.ensures.kept

pub returns-in-Err-clause-any_moment : goal.returns-in-Err-clause-any_moment
returns-in-Err-clause-any_moment g c = λ h held batch.
    let back = c.draft.ensures.base ∙ c.begin-stage.ensures.base in
    unchanged _ _ _ (ap g.D.Disk.moments c.given_back.ensures.device ∙ ap (λ (b : Begun). b.moments) (c.abandon.ensures.base ∙ back))

pub returns-in-Err-clause-at_limit : goal.returns-in-Err-clause-at_limit
returns-in-Err-clause-at_limit g c =
    if_page_limit c.given_back.result (λ house n. c.in-Err.fault ≡ fault.PageLimit n) (λ house n. n ≡ (params_of c.args.self.space).pages)
    (λ house n is. c.in-Err.ensures.limit n (ap (λ (f : StageFault). Err f) is) ∙ ap (λ (b : Begun). b.params.pages) c.begin-stage.ensures.base) c.given_back.ensures.page_limit

pub returns-in-Err-clause-page_limit : goal.returns-in-Err-clause-page_limit
returns-in-Err-clause-page_limit g c = λ h held batch.
    let space = c.args.self.space in
    let x = g.D.Disk.image (disk_of space) in
    let params = params_of space in
    let meta = meta_of space in
    let map = map_of space in
    let batched = flat c.args.rows.now in
    let one = c.holds_one.ensures.one in
    let whole = c.is_held.ensures.held held.0 in
    let now : Here g.X.DomIndex params meta map h = here g.X.DomIndex one x params meta map (IsInOrder space) whole h held.1 in
    let settles : SettlesTo x x.pages = c.settling_laws.ensures.idle x (c.is_held.ensures.idle held.0) in
    let roots : Roots = record { table = c.meta-3.result.now.table; forest = c.args.self.forest } in
    let by_ids : c.is_by_ids-by_ids.result ≡ (meta.lives == 0) = c.is_by_ids-by_ids.ensures ∙ ap (λ (m : Meta). m.lives == 0) c.meta.ensures.value in
    let table = ap (λ (m : Meta). m.table) c.meta-3.ensures.value in
    let same : c.args.self.forest.params ≡ params = c.args.self.params in
    let form = form_here g.X.DomIndex params meta map h now c.is_by_ids-by_ids.result roots by_ids table same c.args.self.trees in
    let form1 = subst (λ (m : PageMap). FormKeeps g.X.DomIndex c.is_by_ids-by_ids.result m roots h) (sym c.begin-stage.ensures.map) form in
    let told : IsTrue (g.D.Disk.tells (disk_under c.begin-stage.result)) = subst IsTrue (sym (ap g.D.Disk.tells c.begin-stage.ensures.disk)) held.0 in
    let ver = c.counts-before.ensures.version ∙ ap (λ (m : Meta). m.version) c.meta-2.ensures.value in
    let ro = c.counts-before.ensures.rows ∙ ap (λ (m : Meta). m.rows) c.meta-2.ensures.value in
    let on = c.in-Err.ensures.keeps_on told h (subst (λ (p : Params). IsLawful p h) (sym same) now.lawful) (subst (λ (p : Params). IsLawfulBatch p h batched) (sym same) batch) (ver ∙ now.tells.version) (ro ∙ now.tells.rows) form1 in
    if_page_limit c.given_back.result (λ house n. c.in-Err.fault ≡ fault.PageLimit n) (λ house n. LacksPagesIn x.pages params h c.args.rows.now)
    (λ house n is.
    let refused = ap (λ (f : StageFault). Err f) is in
    let limit : n ≡ params.pages = c.in-Err.ensures.limit n refused ∙ ap (λ (b : Begun). b.params.pages) c.begin-stage.ensures.base in
    let first : (staged_meta c.begin-stage.result).allotted ≡ meta.allotted = ap (λ (m : Meta). m.allotted) c.begin-stage.ensures.meta in
    let charge = charge_before meta c.is_by_ids-by_ids.result c.meta-3.result.now.table.count by_ids (ap (λ (m : Meta). m.table.count) c.meta-3.ensures.value) in
    let need : changes_need c.args.self.forest.params (length (changes h)) (length batched) ≡ batch_need params h c.args.rows.now = ap (λ (p : Params). changes_need p (length (changes h)) (length batched)) same in
    let kept = c.is_charged.ensures held.0 in
    record {
      need = let last = (on.changes.page_limit n refused).2 in omega (arith, last, limit, first, charge, need, kept);
      small = λ stays.
          let on_meta : StayOnePage params (length (changes h) + length batched) meta.roots.items =
          subst (λ (m : Meta). StayOnePage params (length (changes h) + length batched) m.roots.items) (meta_is c.settling_laws.ensures.one x params meta map (IsInOrder space) whole settles) stays in
          let trees : StayOnePage c.args.self.forest.params (length (changes h) + length batched) c.args.self.forest.roots.items =
          subst (λ (l : List Tree). StayOnePage c.args.self.forest.params (length (changes h) + length batched) l) (sym c.args.self.trees)
          (subst (λ (p : Params). StayOnePage p (length (changes h) + length batched) meta.roots.items) (sym same) on_meta) in
          let few : first_pages c.args.self.forest.params c.args.self.forest.roots.items ≤ root_count params =
          subst (λ (p : Params). first_pages c.args.self.forest.params c.args.self.forest.roots.items ≤ root_count p) same (c.forest_laws.ensures.first_pages c.args.self.forest.params c.args.self.forest.roots.items).0 in
          let little = c.in-Err.ensures.small told h (subst (λ (p : Params). IsLawful p h) (sym same) now.lawful) (subst (λ (p : Params). IsLawfulBatch p h batched) (sym same) batch) (ver ∙ now.tells.version) (ro ∙ now.tells.rows) form1 trees in
          let last = (little.page_limit n refused).2 in
          omega (arith, last, limit, first, charge, few, kept);
    }) c.given_back.ensures.page_limit

pub returns-in-Err-clause-device : goal.returns-in-Err-clause-device
returns-in-Err-clause-device g c =
    let first = ap g.D.Disk.faults c.begin-stage.ensures.disk in
    let last = ap g.D.Disk.faults (c.given_back.ensures.device ∙ c.abandon.ensures.disk) in
    let drafted = c.draft.ensures.faults in
    record {
      tells = ap g.D.Disk.tells c.given_back.ensures.device ∙ ap (λ (b : Begun). b.tells) (c.abandon.ensures.base ∙ c.draft.ensures.base ∙ c.begin-stage.ensures.base);
      disk = if_disk c.given_back.result (c.in-Err.fault ≡ fault.Disk) _
          (λ is. let rose = c.in-Err.ensures.disk (ap (λ (f : StageFault). Err f) is) in omega (arith, rose, first, last)) c.given_back.ensures.disk;
      never_fall = omega (arith, first, drafted, last);
    }

pub returns-in-Ok-clause-device : goal.returns-in-Ok-clause-device
returns-in-Ok-clause-device g c =
    let back = c.draft.ensures.base ∙ c.begin-stage.ensures.base in
    let first = ap g.D.Disk.faults c.begin-stage.ensures.disk in
    let drafted = c.draft.ensures.faults in
    let wrote = c.in-Ok.ensures.writes.faults in
    let last = ap (λ (s : Space g.row.D.Denot g.D.Disk). g.D.Disk.faults (disk_of s)) c.over-house.ensures in
    record {
      tells = ap (λ (s : Space g.row.D.Denot g.D.Disk). g.D.Disk.tells (disk_of s)) c.over-house.ensures ∙ c.in-Ok.ensures.writes.tells ∙ ap (λ (b : Begun). b.tells) back;
      disk = tt;
      never_fall = omega (arith, first, drafted, wrote, last);
    }

pub returns-in-Err-commit-clause-device : goal.returns-in-Err-commit-clause-device
returns-in-Err-commit-clause-device g c =
    let back = c.draft.ensures.base ∙ c.begin-stage.ensures.base in
    let first = ap g.D.Disk.faults c.begin-stage.ensures.disk in
    let drafted = c.draft.ensures.faults in
    let rose = c.in-Err-commit.ensures.writes.faults.0 in
    let more = c.in-Err-commit.ensures.writes.faults.1 in
    record {
      tells = c.in-Err-commit.ensures.writes.tells ∙ ap (λ (b : Begun). b.tells) back;
      disk = omega (arith, first, drafted, rose);
      never_fall = omega (arith, first, drafted, more);
    }

pub over-house-requires-clause-mass : goal.over-house-requires-clause-mass
over-house-requires-clause-mass g c =
    let at = ap (λ (p : Params). total_mass p (flat c.args.rows.now)) c.args.self.params in
    let before = c.counts-before.ensures.mass ∙ ap (λ (m : Meta). m.mass) c.meta-2.ensures.value in
    let is = c.in_default.ensures.meta.mass in
    let next = ap (λ (m : Meta). m.mass) c.in-Ok.ensures.meta in
    omega (arith, at, before, is, next, c.requires.light)

pub returns-in-Ok-clause-done : goal.returns-in-Ok-clause-done
returns-in-Ok-clause-done g c = λ h held batch.
    let space = c.args.self.space in
    let x = g.D.Disk.image (disk_of space) in
    let params = params_of space in
    let meta = meta_of space in
    let map = map_of space in
    let batched = flat c.args.rows.now in
    let one = c.holds_one.ensures.one in
    let whole = c.is_held.ensures.held held.0 in
    let now : Here g.X.DomIndex params meta map h = here g.X.DomIndex one x params meta map (IsInOrder space) whole h held.1 in
    let order : IsInOrder space = c.holds_one.ensures.order x x.pages params meta map (space_here g.X.DomIndex one x params meta map (IsInOrder space) whole h held.1) (c.settling_laws.ensures.idle x (c.is_held.ensures.idle held.0)) in
    let order1 : IsStagedInOrder c.begin-stage.result = c.begin-stage.ensures.in_order order in
    let roots : Roots = record { table = c.meta-3.result.now.table; forest = c.args.self.forest } in
    let by_ids : c.is_by_ids-by_ids.result ≡ (meta.lives == 0) = c.is_by_ids-by_ids.ensures ∙ ap (λ (m : Meta). m.lives == 0) c.meta.ensures.value in
    let table = ap (λ (m : Meta). m.table) c.meta-3.ensures.value in
    let same : c.args.self.forest.params ≡ params = c.args.self.params in
    let form = form_here g.X.DomIndex params meta map h now c.is_by_ids-by_ids.result roots by_ids table same c.args.self.trees in
    let form1 = subst (λ (m : PageMap). FormKeeps g.X.DomIndex c.is_by_ids-by_ids.result m roots h) (sym c.begin-stage.ensures.map) form in
    let told : IsTrue (g.D.Disk.tells (disk_under c.begin-stage.result)) = subst IsTrue (sym (ap g.D.Disk.tells c.begin-stage.ensures.disk)) held.0 in
    let ver = c.counts-before.ensures.version ∙ ap (λ (m : Meta). m.version) c.meta-2.ensures.value in
    let ev = c.counts-before.ensures.events ∙ ap (λ (m : Meta). m.events) c.meta-2.ensures.value in
    let ro = c.counts-before.ensures.rows ∙ ap (λ (m : Meta). m.rows) c.meta-2.ensures.value in
    let ma = c.counts-before.ensures.mass ∙ ap (λ (m : Meta). m.mass) c.meta-2.ensures.value in
    let on = c.in_default.ensures.keeps_on told h (subst (λ (p : Params). IsLawful p h) (sym same) now.lawful) (subst (λ (p : Params). IsLawfulBatch p h batched) (sym same) batch) (ver ∙ now.tells.version) (ro ∙ now.tells.rows) form1 in
    let mid = c.draft.new.stage in
    let h1 : History = with_changes h batched in
    let told1 : IsTrue (g.D.Disk.tells (disk_under mid)) = subst IsTrue (sym on.changes.went_on.tells) told in
    let order2 : IsStagedInOrder mid = on.changes.went_on.free_in_order told order1 in
    let is : IsNextMeta c.counts-before.result (length batched) (total_mass params batched) c.draft.new.roots (staged_meta mid) =
    subst (λ (p : Params). IsNextMeta c.counts-before.result (length batched) (total_mass p batched) c.draft.new.roots (staged_meta mid)) same c.in_default.ensures.meta in
    let next : Here g.X.DomIndex params (staged_meta mid) (staged_map mid) h1 =
    here_then g.X.DomIndex params meta (staged_meta mid) c.counts-before.result map (staged_map mid) c.draft.new.roots h batched now c.args.self.dims ver ev ro ma is (c.draft.ensures.roots.0 ∙ same) on.left
    (c.histories_grow_by_lawful_batches.ensures.grows params h batched now.lawful batch) c.in_default.ensures.weights in
    let back : base_of mid ≡ begun_of space = c.draft.ensures.base ∙ c.begin-stage.ensures.base in
    let made = c.in-Ok.space in
    let at : params_of made ≡ params = c.in-Ok.ensures.params ∙ ap (λ (b : Begun). b.params) back in
    let y = g.D.Disk.image (disk_of made) in
    let stands : HoldsSpace y params (staged_meta mid) (staged_map mid) (IsStagedInOrder mid) =
    subst (λ (p : Params). HoldsSpace y p (staged_meta mid) (staged_map mid) (IsStagedInOrder mid)) at
    (subst (λ (m : Meta). HoldsSpace y (params_of made) m (staged_map mid) (IsStagedInOrder mid)) c.in-Ok.ensures.meta
    (subst (λ (m : PageMap). HoldsSpace y (params_of made) (meta_of made) m (IsStagedInOrder mid)) (c.in-Ok.ensures.map told1) (c.in-Ok.ensures.holds told1))) in
    let holds = held_of g.X.DomIndex y params (staged_meta mid) (staged_map mid) h1 next (ordered y params (staged_meta mid) (staged_map mid) (IsStagedInOrder mid) order2 stands) in
    let tells1 : IsTrue (g.D.Disk.tells (disk_of made)) = subst IsTrue (sym c.in-Ok.ensures.writes.tells) told1 in
    let number = now.tells.version in
    (omega (arith, ver, number), subst (λ (s : Space g.row.D.Denot g.D.Disk). IsTrue (g.D.Disk.tells (disk_of s)) × Holds g.X.DomIndex (g.D.Disk.image (disk_of s)) params h1) (sym c.over-house.ensures) (tells1, holds))

pub returns-in-Ok-clause-any_moment : goal.returns-in-Ok-clause-any_moment
returns-in-Ok-clause-any_moment g c = λ h held batch.
    let space = c.args.self.space in
    let x = g.D.Disk.image (disk_of space) in
    let params = params_of space in
    let meta = meta_of space in
    let map = map_of space in
    let batched = flat c.args.rows.now in
    let one = c.holds_one.ensures.one in
    let whole = c.is_held.ensures.held held.0 in
    let now : Here g.X.DomIndex params meta map h = here g.X.DomIndex one x params meta map (IsInOrder space) whole h held.1 in
    let order : IsInOrder space = c.holds_one.ensures.order x x.pages params meta map (space_here g.X.DomIndex one x params meta map (IsInOrder space) whole h held.1) (c.settling_laws.ensures.idle x (c.is_held.ensures.idle held.0)) in
    let order1 : IsStagedInOrder c.begin-stage.result = c.begin-stage.ensures.in_order order in
    let roots : Roots = record { table = c.meta-3.result.now.table; forest = c.args.self.forest } in
    let by_ids : c.is_by_ids-by_ids.result ≡ (meta.lives == 0) = c.is_by_ids-by_ids.ensures ∙ ap (λ (m : Meta). m.lives == 0) c.meta.ensures.value in
    let table = ap (λ (m : Meta). m.table) c.meta-3.ensures.value in
    let same : c.args.self.forest.params ≡ params = c.args.self.params in
    let form = form_here g.X.DomIndex params meta map h now c.is_by_ids-by_ids.result roots by_ids table same c.args.self.trees in
    let form1 = subst (λ (m : PageMap). FormKeeps g.X.DomIndex c.is_by_ids-by_ids.result m roots h) (sym c.begin-stage.ensures.map) form in
    let told : IsTrue (g.D.Disk.tells (disk_under c.begin-stage.result)) = subst IsTrue (sym (ap g.D.Disk.tells c.begin-stage.ensures.disk)) held.0 in
    let ver = c.counts-before.ensures.version ∙ ap (λ (m : Meta). m.version) c.meta-2.ensures.value in
    let ev = c.counts-before.ensures.events ∙ ap (λ (m : Meta). m.events) c.meta-2.ensures.value in
    let ro = c.counts-before.ensures.rows ∙ ap (λ (m : Meta). m.rows) c.meta-2.ensures.value in
    let ma = c.counts-before.ensures.mass ∙ ap (λ (m : Meta). m.mass) c.meta-2.ensures.value in
    let on = c.in_default.ensures.keeps_on told h (subst (λ (p : Params). IsLawful p h) (sym same) now.lawful) (subst (λ (p : Params). IsLawfulBatch p h batched) (sym same) batch) (ver ∙ now.tells.version) (ro ∙ now.tells.rows) form1 in
    let mid = c.draft.new.stage in
    let h1 : History = with_changes h batched in
    let told1 : IsTrue (g.D.Disk.tells (disk_under mid)) = subst IsTrue (sym on.changes.went_on.tells) told in
    let order2 : IsStagedInOrder mid = on.changes.went_on.free_in_order told order1 in
    let is : IsNextMeta c.counts-before.result (length batched) (total_mass params batched) c.draft.new.roots (staged_meta mid) =
    subst (λ (p : Params). IsNextMeta c.counts-before.result (length batched) (total_mass p batched) c.draft.new.roots (staged_meta mid)) same c.in_default.ensures.meta in
    let next : Here g.X.DomIndex params (staged_meta mid) (staged_map mid) h1 =
    here_then g.X.DomIndex params meta (staged_meta mid) c.counts-before.result map (staged_map mid) c.draft.new.roots h batched now c.args.self.dims ver ev ro ma is (c.draft.ensures.roots.0 ∙ same) on.left
    (c.histories_grow_by_lawful_batches.ensures.grows params h batched now.lawful batch) c.in_default.ensures.weights in
    let back : base_of mid ≡ begun_of space = c.draft.ensures.base ∙ c.begin-stage.ensures.base in
    subst (λ (s : Space g.row.D.Denot g.D.Disk). LeavesOnly (λ (y : Image). Holds g.X.DomIndex y params h ⊎ Holds g.X.DomIndex y params h1) (g.D.Disk.moments (disk_of space)) (g.D.Disk.moments (disk_of s))) (sym c.over-house.ensures) (
    let only = subst (λ (b : Begun). LeavesOnly (λ y. HoldsSpace y b.params b.meta (map_under b) (OrderedUnder b) ⊎ HoldsSpace y b.params (staged_meta mid) (staged_map mid) (IsStagedInOrder mid)) b.moments (g.D.Disk.moments (disk_of c.in-Ok.space))) back (c.in-Ok.ensures.any_moment told1) in
    weakened (λ y. HoldsSpace y params meta map (IsInOrder space) ⊎ HoldsSpace y params (staged_meta mid) (staged_map mid) (IsStagedInOrder mid)) (λ (y : Image). Holds g.X.DomIndex y params h ⊎ Holds g.X.DomIndex y params h1) _ _
    (λ y cases. elim cases [
      | inl s ↦ inl (held_of g.X.DomIndex y params meta map h now (ordered y params meta map (IsInOrder space) order s))
      | inr s ↦ inr (held_of g.X.DomIndex y params (staged_meta mid) (staged_map mid) h1 next (ordered y params (staged_meta mid) (staged_map mid) (IsStagedInOrder mid) order2 s))
    ]) only)

pub returns-in-Ok-clause-rises : goal.returns-in-Ok-clause-rises
returns-in-Ok-clause-rises g c = λ h held batch.
    let space = c.args.self.space in
    let x = g.D.Disk.image (disk_of space) in
    let params = params_of space in
    let meta = meta_of space in
    let map = map_of space in
    let batched = flat c.args.rows.now in
    let one = c.holds_one.ensures.one in
    let whole = c.is_held.ensures.held held.0 in
    let now : Here g.X.DomIndex params meta map h = here g.X.DomIndex one x params meta map (IsInOrder space) whole h held.1 in
    let settles : SettlesTo x x.pages = c.settling_laws.ensures.idle x (c.is_held.ensures.idle held.0) in
    let roots : Roots = record { table = c.meta-3.result.now.table; forest = c.args.self.forest } in
    let by_ids : c.is_by_ids-by_ids.result ≡ (meta.lives == 0) = c.is_by_ids-by_ids.ensures ∙ ap (λ (m : Meta). m.lives == 0) c.meta.ensures.value in
    let table = ap (λ (m : Meta). m.table) c.meta-3.ensures.value in
    let same : c.args.self.forest.params ≡ params = c.args.self.params in
    let form = form_here g.X.DomIndex params meta map h now c.is_by_ids-by_ids.result roots by_ids table same c.args.self.trees in
    let form1 = subst (λ (m : PageMap). FormKeeps g.X.DomIndex c.is_by_ids-by_ids.result m roots h) (sym c.begin-stage.ensures.map) form in
    let told : IsTrue (g.D.Disk.tells (disk_under c.begin-stage.result)) = subst IsTrue (sym (ap g.D.Disk.tells c.begin-stage.ensures.disk)) held.0 in
    let ver = c.counts-before.ensures.version ∙ ap (λ (m : Meta). m.version) c.meta-2.ensures.value in
    let ro = c.counts-before.ensures.rows ∙ ap (λ (m : Meta). m.rows) c.meta-2.ensures.value in
    let on = c.in_default.ensures.keeps_on told h (subst (λ (p : Params). IsLawful p h) (sym same) now.lawful) (subst (λ (p : Params). IsLawfulBatch p h batched) (sym same) batch) (ver ∙ now.tells.version) (ro ∙ now.tells.rows) form1 in
    let mid = c.draft.new.stage in
    let told1 : IsTrue (g.D.Disk.tells (disk_under mid)) = subst IsTrue (sym on.changes.went_on.tells) told in
    let is : IsNextMeta c.counts-before.result (length batched) (total_mass params batched) c.draft.new.roots (staged_meta mid) =
    subst (λ (p : Params). IsNextMeta c.counts-before.result (length batched) (total_mass p batched) c.draft.new.roots (staged_meta mid)) same c.in_default.ensures.meta in
    let first : (staged_meta c.begin-stage.result).allotted ≡ meta.allotted = ap (λ (m : Meta). m.allotted) c.begin-stage.ensures.meta in
    let charge = charge_before meta c.is_by_ids-by_ids.result c.meta-3.result.now.table.count by_ids (ap (λ (m : Meta). m.table.count) c.meta-3.ensures.value) in
    let need : changes_need c.args.self.forest.params (length (changes h)) (length batched) ≡ batch_need params h c.args.rows.now = ap (λ (p : Params). changes_need p (length (changes h)) (length batched)) same in
    let after = charge_after (staged_meta mid) is.lives in
    let made = c.in-Ok.space in
    let tells1 : IsTrue (g.D.Disk.tells (disk_of made)) = subst IsTrue (sym c.in-Ok.ensures.writes.tells) told1 in
    let tells2 = subst (λ (s : Space g.row.D.Denot g.D.Disk). IsTrue (g.D.Disk.tells (disk_of s))) (sym c.over-house.ensures) tells1 in
    let now_kept = c.is_charged-in-Ok.ensures tells2 in
    let kept = c.is_charged.ensures held.0 in
    let last : meta_of c.over-house.result.space ≡ staged_meta mid = ap (λ (s : Space g.row.D.Denot g.D.Disk). meta_of s) c.over-house.ensures ∙ c.in-Ok.ensures.meta in
    let as_much = ap meta_charge last in
    record {
      need = let most = on.changes.went_on.at_most in omega (arith, most, first, charge, need, after, now_kept, kept, as_much);
      small = λ stays.
          let on_meta : StayOnePage params (length (changes h) + length batched) meta.roots.items =
          subst (λ (m : Meta). StayOnePage params (length (changes h) + length batched) m.roots.items) (meta_is c.settling_laws.ensures.one x params meta map (IsInOrder space) whole settles) stays in
          let trees : StayOnePage c.args.self.forest.params (length (changes h) + length batched) c.args.self.forest.roots.items =
          subst (λ (l : List Tree). StayOnePage c.args.self.forest.params (length (changes h) + length batched) l) (sym c.args.self.trees)
          (subst (λ (p : Params). StayOnePage p (length (changes h) + length batched) meta.roots.items) (sym same) on_meta) in
          let few : first_pages c.args.self.forest.params c.args.self.forest.roots.items ≤ root_count params =
          subst (λ (p : Params). first_pages c.args.self.forest.params c.args.self.forest.roots.items ≤ root_count p) same (c.forest_laws.ensures.first_pages c.args.self.forest.params c.args.self.forest.roots.items).0 in
          let little = c.in_default.ensures.small told h (subst (λ (p : Params). IsLawful p h) (sym same) now.lawful) (subst (λ (p : Params). IsLawfulBatch p h batched) (sym same) batch) (ver ∙ now.tells.version) (ro ∙ now.tells.rows) form1 trees in
          let most = little.went_on.at_most in
          omega (arith, most, first, charge, few, after, now_kept, kept, as_much);
    }

pub returns-in-Err-commit-clause-any_moment : goal.returns-in-Err-commit-clause-any_moment
returns-in-Err-commit-clause-any_moment g c = λ h held batch.
    let space = c.args.self.space in
    let x = g.D.Disk.image (disk_of space) in
    let params = params_of space in
    let meta = meta_of space in
    let map = map_of space in
    let batched = flat c.args.rows.now in
    let one = c.holds_one.ensures.one in
    let whole = c.is_held.ensures.held held.0 in
    let now : Here g.X.DomIndex params meta map h = here g.X.DomIndex one x params meta map (IsInOrder space) whole h held.1 in
    let order : IsInOrder space = c.holds_one.ensures.order x x.pages params meta map (space_here g.X.DomIndex one x params meta map (IsInOrder space) whole h held.1) (c.settling_laws.ensures.idle x (c.is_held.ensures.idle held.0)) in
    let order1 : IsStagedInOrder c.begin-stage.result = c.begin-stage.ensures.in_order order in
    let roots : Roots = record { table = c.meta-3.result.now.table; forest = c.args.self.forest } in
    let by_ids : c.is_by_ids-by_ids.result ≡ (meta.lives == 0) = c.is_by_ids-by_ids.ensures ∙ ap (λ (m : Meta). m.lives == 0) c.meta.ensures.value in
    let table = ap (λ (m : Meta). m.table) c.meta-3.ensures.value in
    let same : c.args.self.forest.params ≡ params = c.args.self.params in
    let form = form_here g.X.DomIndex params meta map h now c.is_by_ids-by_ids.result roots by_ids table same c.args.self.trees in
    let form1 = subst (λ (m : PageMap). FormKeeps g.X.DomIndex c.is_by_ids-by_ids.result m roots h) (sym c.begin-stage.ensures.map) form in
    let told : IsTrue (g.D.Disk.tells (disk_under c.begin-stage.result)) = subst IsTrue (sym (ap g.D.Disk.tells c.begin-stage.ensures.disk)) held.0 in
    let ver = c.counts-before.ensures.version ∙ ap (λ (m : Meta). m.version) c.meta-2.ensures.value in
    let ev = c.counts-before.ensures.events ∙ ap (λ (m : Meta). m.events) c.meta-2.ensures.value in
    let ro = c.counts-before.ensures.rows ∙ ap (λ (m : Meta). m.rows) c.meta-2.ensures.value in
    let ma = c.counts-before.ensures.mass ∙ ap (λ (m : Meta). m.mass) c.meta-2.ensures.value in
    let on = c.in_default.ensures.keeps_on told h (subst (λ (p : Params). IsLawful p h) (sym same) now.lawful) (subst (λ (p : Params). IsLawfulBatch p h batched) (sym same) batch) (ver ∙ now.tells.version) (ro ∙ now.tells.rows) form1 in
    let mid = c.draft.new.stage in
    let h1 : History = with_changes h batched in
    let told1 : IsTrue (g.D.Disk.tells (disk_under mid)) = subst IsTrue (sym on.changes.went_on.tells) told in
    let order2 : IsStagedInOrder mid = on.changes.went_on.free_in_order told order1 in
    let is : IsNextMeta c.counts-before.result (length batched) (total_mass params batched) c.draft.new.roots (staged_meta mid) =
    subst (λ (p : Params). IsNextMeta c.counts-before.result (length batched) (total_mass p batched) c.draft.new.roots (staged_meta mid)) same c.in_default.ensures.meta in
    let next : Here g.X.DomIndex params (staged_meta mid) (staged_map mid) h1 =
    here_then g.X.DomIndex params meta (staged_meta mid) c.counts-before.result map (staged_map mid) c.draft.new.roots h batched now c.args.self.dims ver ev ro ma is (c.draft.ensures.roots.0 ∙ same) on.left
    (c.histories_grow_by_lawful_batches.ensures.grows params h batched now.lawful batch) c.in_default.ensures.weights in
    let back : base_of mid ≡ begun_of space = c.draft.ensures.base ∙ c.begin-stage.ensures.base in
    let only = subst (λ (b : Begun). LeavesOnly (λ y. HoldsSpace y b.params b.meta (map_under b) (OrderedUnder b) ⊎ HoldsSpace y b.params (staged_meta mid) (staged_map mid) (IsStagedInOrder mid)) b.moments (g.D.Disk.moments c.in-Err-commit.device)) back (c.in-Err-commit.ensures.any_moment told1) in
    weakened (λ y. HoldsSpace y params meta map (IsInOrder space) ⊎ HoldsSpace y params (staged_meta mid) (staged_map mid) (IsStagedInOrder mid)) (λ (y : Image). Holds g.X.DomIndex y params h ⊎ Holds g.X.DomIndex y params h1) _ _
    (λ y cases. elim cases [
      | inl s ↦ inl (held_of g.X.DomIndex y params meta map h now (ordered y params meta map (IsInOrder space) order s))
      | inr s ↦ inr (held_of g.X.DomIndex y params (staged_meta mid) (staged_map mid) h1 next (ordered y params (staged_meta mid) (staged_map mid) (IsStagedInOrder mid) order2 s))
    ]) only
