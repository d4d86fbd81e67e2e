use Rattle.std.proofs.Common.{◌≡◌, ◌+◌, ◌≤◌, ◌-◌, ◌++◌, true, false, IsTrue, List, ℕ, length, get_or, drop, Ok, Err, arith, sym, subst, ap, ◌∙◌, refl}
use Rattle.ports.specs.Frame.{names_page}
use Rattle.ports.specs.Pages.{PageMap}
use Rattle.page_layout.specs.declared.life_node.LifeEntry.{LifeEntry}
use Rattle.object_table.specs.Lives.{lives_below, pages_below}
use Rattle.bw_types.specs.declared.dated.Dated.{Dated}
use Rattle.object_table.specs.Keys.{low_key}
use Rattle.object_table.specs.Stands.{KeepsItsLow, StandsBelow, fewest, first_low}
use Rattle.image_check.specs.Keeping.{LeafKeeps}
use Rattle.image_check.specs.Passing.{CanPass, Passed, SeesOwn}
use Rattle.image_check.specs.Reading.{EntriesStand, entry_lives, entry_pages}
use Rattle.image_check.proofs.Below.{all_passed, entry_fails, entry_passed, entry_sees, index_fails, index_passes, index_sees, is_entry, leaf_keeps_to, leaf_passes, moved, no_node_stands, not_seen, page_sees, put_behind, whole_rest}
use Rattle.image_check.proofs.Passing.{reads_more, sees_passed}
use Rattle.image_check.proofs.reading.+reads.Goals as goal

pub read_below-returns-in-Err-Damaged-clause-no : goal.read_below-returns-in-Err-Damaged-clause-no
read_below-returns-in-Err-Damaged-clause-no g t c = λ e tells can.
    no_node_stands c.args.form (g.P.Pages.map c.args.pages.now) c.args.level c.args.page c.args.low c.args.high c.args.least
    (c.in-Err-Damaged.ensures.damaged c.in-Err-Damaged.field-0-0 (ap Err c.in-Err-Damaged.field-0-is) tells) can.stands

pub read_below-returns-then-not-leaf_keeps-clause-no : goal.read_below-returns-then-not-leaf_keeps-clause-no
read_below-returns-then-not-leaf_keeps-clause-no g t c = λ e tells can.
    let f = c.in-Ok.ensures.fits in
    let keeps = leaf_keeps_to c.args.form (g.P.Pages.map c.args.pages.now) c.args.level c.args.page c.args.low c.args.high c.args.least c.in-Ok.node f.0 c.if-level-eq1.true (f.2 tells) f.1 can.stands in
    let kept = subst (λ ds. LeafKeeps ds c.args.low c.args.high c.args.least) (sym c.objects_of-objects.ensures) keeps in
    let no : false ≡ true = subst IsTrue c.if-not-leaf_keeps.true (c.leaf_keeps.ensures.1 kept) in
    absurd cc

pub read_below-returns-then-level-eq1-clause-yes : goal.read_below-returns-then-level-eq1-clause-yes
read_below-returns-then-level-eq1-clause-yes g t c = λ e tells.
    let f = c.in-Ok.ensures.fits in
    leaf_passes c.args.form (g.P.Pages.map c.args.pages.now) c.args.level c.args.page c.args.low c.args.high c.args.least c.in-Ok.node f.0
    c.args.lives.now.items c.extend_from_slice.new.self.items c.args.seen.now.keys c.add_page.new.seen.keys
    c.if-level-eq1.true (f.2 tells) f.1
    (subst (λ ds. LeafKeeps ds c.args.low c.args.high c.args.least) c.objects_of-objects.ensures (c.if-not-leaf_keeps.ensures.0 refl))
    (not_seen c.in_ok-add_page.field-0 (names_page c.args.seen.now.keys c.args.page) c.in_ok-add_page.ensures.new c.if-not-branch.false)
    c.in_ok-add_page.ensures.names
    (c.in_ok-extend_from_slice.ensures.items ∙ ap (λ ds. c.args.lives.now.items ++ ds) c.objects_of-objects.ensures)

pub read_below-returns-then-not-index_keeps-clause-no : goal.read_below-returns-then-not-index_keeps-clause-no
read_below-returns-then-not-index_keeps-clause-no g t c = λ e tells can.
    let f = c.in-Ok.ensures.fits in
    let some : 2 ≤ c.args.level = omega (arith, c.if-level-eq0.false, c.if-level-eq1.false) in
    let both = index_fails c.args.form (g.P.Pages.map c.args.pages.now) c.args.level c.args.page c.args.low c.args.high c.args.least c.in-Ok.node f.0 c.entries_of-entries.result.now
    c.args.lives.now.items c.args.seen.now.keys c.add_page.new.seen.keys some (f.2 tells) f.1 c.entries_of-entries.ensures
    (not_seen c.in_ok-add_page.field-0 (names_page c.args.seen.now.keys c.args.page) c.in_ok-add_page.ensures.new c.if-not-branch.false)
    c.in_ok-add_page.ensures.names can in
    let no : false ≡ true = subst IsTrue c.if-not-index_keeps.true (c.index_keeps.ensures.1 both.0) in
    absurd cc

pub read_below-returns-then-not-index_keeps-clause-sees : goal.read_below-returns-then-not-index_keeps-clause-sees
read_below-returns-then-not-index_keeps-clause-sees g t c = λ tells.
    page_sees c.args.form (g.P.Pages.map c.args.pages.now) c.args.level c.args.page c.args.seen.now.keys c.add_page.new.seen.keys (omega (arith, c.if-level-eq0.false)) c.in_ok-add_page.ensures.names

pub read_below-returns-clause-yes : goal.read_below-returns-clause-yes
read_below-returns-clause-yes g t c = λ e tells.
    let f = c.in-Ok.ensures.fits in
    let es : List LifeEntry = c.entries_of-entries.result.now in
    let l : ℕ = c.args.level - 1 in
    let told = subst IsTrue (sym c.read_node.ensures.reads.read.tells) tells in
    let some : 2 ≤ c.args.level = omega (arith, c.if-level-eq0.false, c.if-level-eq1.false) in
    let below = subst (λ (m : PageMap). Passed (EntriesStand c.args.form l m es c.args.high) (entry_pages c.args.form l m es) (entry_lives c.args.form l m es)
    c.args.lives.now.items c.read_entries.new.lives.items c.add_page.new.seen.keys c.read_entries.new.seen.keys) c.read_node.ensures.reads.read.map (c.read_entries.ensures.yes e told) in
    index_passes c.args.form (g.P.Pages.map c.args.pages.now) c.args.level c.args.page c.args.low c.args.high c.args.least c.in-Ok.node f.0 es
    c.args.lives.now.items c.read_entries.new.lives.items c.args.seen.now.keys c.add_page.new.seen.keys c.read_entries.new.seen.keys some (f.2 tells) f.1 c.entries_of-entries.ensures (c.if-not-index_keeps.ensures.0 refl)
    (not_seen c.in_ok-add_page.field-0 (names_page c.args.seen.now.keys c.args.page) c.in_ok-add_page.ensures.new c.if-not-branch.false)
    c.in_ok-add_page.ensures.names below

pub read_below-returns-clause-no : goal.read_below-returns-clause-no
read_below-returns-clause-no g t c = λ e tells can.
    let f = c.in-Ok.ensures.fits in
    let es : List LifeEntry = c.entries_of-entries.result.now in
    let l : ℕ = c.args.level - 1 in
    let told = subst IsTrue (sym c.read_node.ensures.reads.read.tells) tells in
    let some : 2 ≤ c.args.level = omega (arith, c.if-level-eq0.false, c.if-level-eq1.false) in
    let both = index_fails c.args.form (g.P.Pages.map c.args.pages.now) c.args.level c.args.page c.args.low c.args.high c.args.least c.in-Ok.node f.0 es
    c.args.lives.now.items c.args.seen.now.keys c.add_page.new.seen.keys some (f.2 tells) f.1 c.entries_of-entries.ensures
    (not_seen c.in_ok-add_page.field-0 (names_page c.args.seen.now.keys c.args.page) c.in_ok-add_page.ensures.new c.if-not-branch.false)
    c.in_ok-add_page.ensures.names can in
    c.read_entries.ensures.no e told (subst (λ (m : PageMap). CanPass (EntriesStand c.args.form l m es c.args.high) (entry_pages c.args.form l m es) c.add_page.new.seen.keys) (sym c.read_node.ensures.reads.read.map) both.1)

pub read_below-returns-clause-sees : goal.read_below-returns-clause-sees
read_below-returns-clause-sees g t c = λ tells.
    let f = c.in-Ok.ensures.fits in
    let es : List LifeEntry = c.entries_of-entries.result.now in
    let l : ℕ = c.args.level - 1 in
    let told = subst IsTrue (sym c.read_node.ensures.reads.read.tells) tells in
    let some : 2 ≤ c.args.level = omega (arith, c.if-level-eq0.false, c.if-level-eq1.false) in
    index_sees c.args.form (g.P.Pages.map c.args.pages.now) c.args.level c.args.page c.in-Ok.node f.0 es c.args.seen.now.keys c.add_page.new.seen.keys c.read_entries.new.seen.keys some (f.2 tells) f.1
    c.entries_of-entries.ensures c.in_ok-add_page.ensures.names
    (subst (λ (m : PageMap). SeesOwn (entry_pages c.args.form l m es) c.add_page.new.seen.keys c.read_entries.new.seen.keys) c.read_node.ensures.reads.read.map (c.read_entries.ensures.sees told))

pub read_entries-returns-clause-yes : goal.read_entries-returns-clause-yes
read_entries-returns-clause-yes g t c = λ e tells.
    all_passed c.args.form (g.P.Pages.map c.args.pages.now) c.args.level c.args.high c.args.entries.now c.loop-index.index c.args.lives.now.items c.loop-index.lives.items c.args.seen.now.keys c.loop-index.seen.keys
    (omega (arith, c.loop-index-test.false)) (c.loop-index.invariant.passed tells)

-- the entry that is read
abbrev entry_at : List LifeEntry → ℕ → LifeEntry
entry_at entries i = get_or entries i (record { low_id = 0; low_life = 0; child = 0 })

pub read_entries-returns-in_err-stands-clause-sees : goal.read_entries-returns-in_err-stands-clause-sees
read_entries-returns-in_err-stands-clause-sees g t c = λ tells.
    let told = subst IsTrue (sym c.loop-index.invariant.reads.read.tells) tells in
    let e : LifeEntry = entry_at c.args.entries.now c.loop-index.index in
    entry_sees c.args.form (g.P.Pages.map c.args.pages.now) c.args.level c.args.high c.args.entries.now c.loop-index.index e c.loop-index-test.true (is_entry c.args.entries.now c.loop-index.index _ c.loop-index-test.true)
    c.args.seen.now.keys c.loop-index.seen.keys c.read_below.new.seen.keys
    (sees_passed _ _ _ _ _ _ _ (c.loop-index.invariant.passed tells))
    (subst (λ (m : PageMap). SeesOwn (pages_below c.args.form c.args.level m e.child) c.loop-index.seen.keys c.read_below.new.seen.keys) c.loop-index.invariant.reads.read.map (c.read_below.ensures.sees told))

pub read_entries-returns-then-not-stands-clause-sees : goal.read_entries-returns-then-not-stands-clause-sees
read_entries-returns-then-not-stands-clause-sees g t c = λ tells.
    let told = subst IsTrue (sym c.loop-index.invariant.reads.read.tells) tells in
    let e : LifeEntry = entry_at c.args.entries.now c.loop-index.index in
    entry_sees c.args.form (g.P.Pages.map c.args.pages.now) c.args.level c.args.high c.args.entries.now c.loop-index.index e c.loop-index-test.true (is_entry c.args.entries.now c.loop-index.index _ c.loop-index-test.true)
    c.args.seen.now.keys c.loop-index.seen.keys c.read_below.new.seen.keys
    (sees_passed _ _ _ _ _ _ _ (c.loop-index.invariant.passed tells))
    (subst (λ (m : PageMap). SeesOwn (pages_below c.args.form c.args.level m e.child) c.loop-index.seen.keys c.read_below.new.seen.keys) c.loop-index.invariant.reads.read.map (c.read_below.ensures.sees told))

pub read_entries-returns-then-not-keeps_its_low-clause-sees : goal.read_entries-returns-then-not-keeps_its_low-clause-sees
read_entries-returns-then-not-keeps_its_low-clause-sees g t c = λ tells.
    let told = subst IsTrue (sym c.loop-index.invariant.reads.read.tells) tells in
    let e : LifeEntry = entry_at c.args.entries.now c.loop-index.index in
    entry_sees c.args.form (g.P.Pages.map c.args.pages.now) c.args.level c.args.high c.args.entries.now c.loop-index.index e c.loop-index-test.true (is_entry c.args.entries.now c.loop-index.index _ c.loop-index-test.true)
    c.args.seen.now.keys c.loop-index.seen.keys c.read_below.new.seen.keys
    (sees_passed _ _ _ _ _ _ _ (c.loop-index.invariant.passed tells))
    (subst (λ (m : PageMap). SeesOwn (pages_below c.args.form c.args.level m e.child) c.loop-index.seen.keys c.read_below.new.seen.keys) c.loop-index.invariant.reads.read.map (c.read_below.ensures.sees told))

pub read_entries-returns-then-not-stands-clause-no : goal.read_entries-returns-then-not-stands-clause-no
read_entries-returns-then-not-stands-clause-no g t c = λ is tells can.
    let told = subst IsTrue (sym c.loop-index.invariant.reads.read.tells) tells in
    let e : LifeEntry = entry_at c.args.entries.now c.loop-index.index in
    let m0 : PageMap = g.P.Pages.map c.args.pages.now in
    let up_to : ℕ = first_low (drop (c.loop-index.index + 1) c.args.entries.now) c.args.high in
    let both = entry_fails c.args.form m0 c.args.level c.args.high c.args.entries.now c.loop-index.index e c.loop-index-test.true (is_entry c.args.entries.now c.loop-index.index _ c.loop-index-test.true)
    c.args.lives.now.items c.loop-index.lives.items c.args.seen.now.keys c.loop-index.seen.keys (c.loop-index.invariant.passed tells) can in
    let ends : c.begin_of-to.result ≡ up_to = c.begin_of-to.ensures ∙ ap (λ es. first_low es c.args.high) (whole_rest c.args.entries.now (c.loop-index.index + 1)) in
    c.read_below.ensures.no (c.in_ok-stands.was ∙ ap Ok c.if-not-stands.true) told
    (moved (λ m low high least. CanPass (StandsBelow c.args.form c.args.level m e.child low high least) (pages_below c.args.form c.args.level m e.child) c.loop-index.seen.keys)
    m0 (g.P.Pages.map c.loop-index.pages) (low_key e) up_to (fewest c.args.form c.args.level) c.low_key.result c.begin_of-to.result c.fewest.result
    (sym c.loop-index.invariant.reads.read.map) (sym c.low_key.ensures) (sym ends) (sym c.fewest.ensures) both.0)

pub read_entries-returns-then-not-keeps_its_low-clause-no : goal.read_entries-returns-then-not-keeps_its_low-clause-no
read_entries-returns-then-not-keeps_its_low-clause-no g t c = λ is tells can.
    let told = subst IsTrue (sym c.loop-index.invariant.reads.read.tells) tells in
    let e : LifeEntry = entry_at c.args.entries.now c.loop-index.index in
    let m0 : PageMap = g.P.Pages.map c.args.pages.now in
    let both = entry_fails c.args.form m0 c.args.level c.args.high c.args.entries.now c.loop-index.index e c.loop-index-test.true (is_entry c.args.entries.now c.loop-index.index _ c.loop-index-test.true)
    c.args.lives.now.items c.loop-index.lives.items c.args.seen.now.keys c.loop-index.seen.keys (c.loop-index.invariant.passed tells) can in
    let own : List Dated = lives_below c.args.form c.args.level (g.P.Pages.map c.loop-index.pages) e.child in
    let passed = c.read_below.ensures.yes (c.in_ok-stands.was ∙ ap Ok c.if-not-stands.false) told in
    let behind : c.from_place.result.now ≡ own =
    put_behind c.loop-index.lives.items own c.read_below.new.lives.items c.from_place.result.now c.len-before.result passed.kept (omega (arith, c.len-before.ensures, c.loop-index.lives.ok))
    (c.from_place.ensures ∙ ap (λ ds. drop c.len-before.result ds) c.as_slice.ensures.value) in
    let same : lives_below c.args.form c.args.level m0 e.child ≡ c.from_place.result.now = ap (λ (m : PageMap). lives_below c.args.form c.args.level m e.child) (sym c.loop-index.invariant.reads.read.map) ∙ sym behind in
    let no : false ≡ true = subst IsTrue c.if-not-keeps_its_low.true (c.keeps_its_low.ensures.1 (subst (λ ds. KeepsItsLow e ds) same both.1)) in
    absurd cc

pub read_entries-loop-index-preserved : goal.read_entries-loop-index-preserved
read_entries-loop-index-preserved g t c = record {
  passed = λ tells.
      let told = subst IsTrue (sym c.loop-index.invariant.reads.read.tells) tells in
      let e : LifeEntry = entry_at c.args.entries.now c.loop-index.index in
      let m0 : PageMap = g.P.Pages.map c.args.pages.now in
      let up_to : ℕ = first_low (drop (c.loop-index.index + 1) c.args.entries.now) c.args.high in
      let ends : c.begin_of-to.result ≡ up_to = c.begin_of-to.ensures ∙ ap (λ es. first_low es c.args.high) (whole_rest c.args.entries.now (c.loop-index.index + 1)) in
      let own : List Dated = lives_below c.args.form c.args.level (g.P.Pages.map c.loop-index.pages) e.child in
      let passed = c.read_below.ensures.yes (c.in_ok-stands.was ∙ ap Ok c.if-not-stands.false) told in
      let behind : c.from_place.result.now ≡ own =
      put_behind c.loop-index.lives.items own c.read_below.new.lives.items c.from_place.result.now c.len-before.result passed.kept (omega (arith, c.len-before.ensures, c.loop-index.lives.ok))
      (c.from_place.ensures ∙ ap (λ ds. drop c.len-before.result ds) c.as_slice.ensures.value) in
      let same : c.from_place.result.now ≡ lives_below c.args.form c.args.level m0 e.child = behind ∙ ap (λ (m : PageMap). lives_below c.args.form c.args.level m e.child) c.loop-index.invariant.reads.read.map in
      entry_passed c.args.form m0 c.args.level c.args.high c.args.entries.now c.loop-index.index e c.loop-index-test.true (is_entry c.args.entries.now c.loop-index.index _ c.loop-index-test.true)
      c.args.lives.now.items c.loop-index.lives.items c.read_below.new.lives.items c.args.seen.now.keys c.loop-index.seen.keys c.read_below.new.seen.keys (c.loop-index.invariant.passed tells)
      (moved (λ m low high least. Passed (StandsBelow c.args.form c.args.level m e.child low high least) (pages_below c.args.form c.args.level m e.child) (lives_below c.args.form c.args.level m e.child)
      c.loop-index.lives.items c.read_below.new.lives.items c.loop-index.seen.keys c.read_below.new.seen.keys)
      (g.P.Pages.map c.loop-index.pages) m0 c.low_key.result c.begin_of-to.result c.fewest.result (low_key e) up_to (fewest c.args.form c.args.level)
      c.loop-index.invariant.reads.read.map c.low_key.ensures ends c.fewest.ensures passed)
      (subst (λ ds. KeepsItsLow e ds) same (c.if-not-keeps_its_low.ensures.0 refl));
  reads = reads_more g.P.Pages (length c.args.seen.now.keys) (length c.loop-index.seen.keys) (length c.read_below.new.seen.keys) c.args.pages.now c.loop-index.pages c.read_below.new.pages c.loop-index.invariant.reads c.read_below.ensures.reads;
}
