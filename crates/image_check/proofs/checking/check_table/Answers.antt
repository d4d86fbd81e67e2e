use Rattle.std.proofs.Common.{◌≡◌, Ok, Option, IfSome, IsTrue, List, ℕ, sym, ap, subst, ◌∙◌, inl, inr, refl}
use Rattle.std.specs.List.{All}
use Rattle.std.proofs.lemmas.Bool.{false≢true}
use Rattle.bw_types.specs.History.{History}
use Rattle.bw_types.specs.declared.dated.Dated.{Dated}
use Rattle.page_disk.specs.Image.{Image, page_at}
use Rattle.page_layout.specs.declared.meta.Meta.{Meta}
use Rattle.page_space.specs.Chain.{FreeInOrder}
use Rattle.ports.specs.Pages.{PageMap}
use Rattle.object_table.specs.Stands.{TableStands}
use Rattle.object_table.specs.declared.form.Form.{Form}
use Rattle.history_laws.specs.Entries.{entries_of}
use Rattle.page_warehouse.specs.Holds.{table_form}
use Rattle.settled_pages.specs.Looked.{IsInOrder, disk_of, map_of, pages_of}
use Rattle.settled_pages.specs.Shown.{pages_shown}
use Rattle.image_check.specs.Judging.{IsKept}
use Rattle.image_check.specs.Telling.{IsToldBy}
use Rattle.image_check.specs.declared.reading.FoundTable.{FoundTable}
use Rattle.image_check.specs.Parts.{HasHistory, HasTable, HoldsOne, IsBrokenAt}
use Rattle.image_check.specs.Trees.{TreesAreSound}
use Rattle.image_check.proofs.Finding.{has_history, has_roots, has_table, holds_by, holds_none, no_history, no_other_list, no_table}
use Rattle.image_check.proofs.Naming.{kept_is_told}
use Rattle.image_check.proofs.Ordered.{AreOrdered}
use Rattle.image_check.proofs.SeenPages.{as_told, sound_there}
use Rattle.image_check.proofs.Verdicts.{same_good, same_part}
use Rattle.image_check.proofs.checking.check_table.Goals.{else-meta-eq0-via-else-meta-eq0, else-meta-eq0-via-then-meta-eq0+else-not-are_first}
use Rattle.image_check.proofs.checking.check_table.Goals as goal

pub returns-in_default-clause-broken : goal.returns-in_default-clause-broken
returns-in_default-clause-broken g c = λ part is tells.
    let s = as_told c.args.space.now c.args.params.now c.args.meta.now c.requires.params c.requires.meta (c.requires.shown tells) in
    let x : Image = g.D.Disk.image (disk_of c.args.space.now) in
    let none : HasTable x → ⊥ = no_table x c.args.params.now c.args.meta.now (map_of c.args.space.now) (IsInOrder c.args.space.now) s.space s.roots c.holds_one.ensures.one
    (λ found h table told. c.in_ok-table.ensures.none (ap Ok c.in_default.is) tells found
    (subst (λ (f : Form). TableStands f (map_of c.args.space.now) c.args.meta.now.table found) (sym c.form_of.ensures) table)) in
    let at : IsBrokenAt g.X.DomIndex 3 x =
    inr (inr (inl (refl, has_roots x c.args.params.now c.args.meta.now (map_of c.args.space.now) (IsInOrder c.args.space.now) s.space s.roots, none))) in
    subst (λ (n : ℕ). IsBrokenAt g.X.DomIndex n x) (same_part 3 part is) at

pub returns-in-Nothing-clause-broken : goal.returns-in-Nothing-clause-broken
returns-in-Nothing-clause-broken g c = λ part is tells.
    let s = as_told c.args.space.now c.args.params.now c.args.meta.now c.requires.params c.requires.meta (c.requires.shown tells) in
    let x : Image = g.D.Disk.image (disk_of c.args.space.now) in
    let map : PageMap = map_of c.args.space.now in
    let table : TableStands (table_form c.args.meta.now) map c.args.meta.now.table c.in-Some.table.lives.items =
    subst (λ (f : Form). TableStands f map c.args.meta.now.table c.in-Some.table.lives.items) c.form_of.ensures
    (subst (λ (o : Option FoundTable). IfSome o (λ it. IsTrue (g.D.Disk.tells (disk_of c.args.space.now)) → TableStands c.form_of.result map c.args.meta.now.table it.lives.items)) c.in-Some.is c.in_ok-table.ensures.some tells) in
    let nothing : (h : History) → IsToldBy h c.in-Some.table.lives.items c.args.meta.now.version → ⊥ = λ h.
    subst (λ (ds : List Dated). IsToldBy h ds c.args.meta.now.version → ⊥) c.as_slice.ensures.value (c.in_ok-judge.ensures.nothing (ap Ok c.in-Nothing.is) h) in
    let none : HasTable x → ⊥ = no_table x c.args.params.now c.args.meta.now map (IsInOrder c.args.space.now) s.space s.roots c.holds_one.ensures.one
    (λ found h stands told. no_other_list x c.args.params.now c.args.meta.now map (IsInOrder c.args.space.now) s.space s.roots c.in-Some.table.lives.items table
    (λ ds. IsToldBy h ds c.args.meta.now.version) (nothing h) found stands told) in
    let at : IsBrokenAt g.X.DomIndex 3 x =
    inr (inr (inl (refl, has_roots x c.args.params.now c.args.meta.now map (IsInOrder c.args.space.now) s.space s.roots, none))) in
    subst (λ (n : ℕ). IsBrokenAt g.X.DomIndex n x) (same_part 3 part is) at

pub returns-in-Unlawful-clause-broken : goal.returns-in-Unlawful-clause-broken
returns-in-Unlawful-clause-broken g c = λ part is tells.
    let s = as_told c.args.space.now c.args.params.now c.args.meta.now c.requires.params c.requires.meta (c.requires.shown tells) in
    let x : Image = g.D.Disk.image (disk_of c.args.space.now) in
    let map : PageMap = map_of c.args.space.now in
    let table : TableStands (table_form c.args.meta.now) map c.args.meta.now.table c.in-Some.table.lives.items =
    subst (λ (f : Form). TableStands f map c.args.meta.now.table c.in-Some.table.lives.items) c.form_of.ensures
    (subst (λ (o : Option FoundTable). IfSome o (λ it. IsTrue (g.D.Disk.tells (disk_of c.args.space.now)) → TableStands c.form_of.result map c.args.meta.now.table it.lives.items)) c.in-Some.is c.in_ok-table.ensures.some tells) in
    let told : (h : History) × IsToldBy h c.in-Some.table.lives.items c.args.meta.now.version =
    subst (λ (ds : List Dated). (h : History) × IsToldBy h ds c.args.meta.now.version) c.as_slice.ensures.value (c.in_ok-judge.ensures.unlawful (ap Ok c.in-Unlawful.is)) in
    let unkept : (h : History) → IsKept c.args.params.now c.args.meta.now c.in-Some.table.lives.items h → ⊥ = λ h.
    subst (λ (ds : List Dated). IsKept c.args.params.now c.args.meta.now ds h → ⊥) c.as_slice.ensures.value (c.in_ok-judge.ensures.unkept (ap Ok c.in-Unlawful.is) h) in
    let none : HasHistory x → ⊥ = no_history x c.args.params.now c.args.meta.now map (IsInOrder c.args.space.now) s.space s.roots c.holds_one.ensures.one
    (λ found h stands kept first. no_other_list x c.args.params.now c.args.meta.now map (IsInOrder c.args.space.now) s.space s.roots c.in-Some.table.lives.items table
    (λ ds. IsKept c.args.params.now c.args.meta.now ds h) (unkept h) found stands kept) in
    let at : IsBrokenAt g.X.DomIndex 4 x =
    inr (inr (inr (inl (refl, has_table x c.args.params.now c.args.meta.now map (IsInOrder c.args.space.now) s.space s.roots c.in-Some.table.lives.items told.0 table told.1, none)))) in
    subst (λ (n : ℕ). IsBrokenAt g.X.DomIndex n x) (same_part 4 part is) at

pub returns-then-not-are_first-clause-broken : goal.returns-then-not-are_first-clause-broken
returns-then-not-are_first-clause-broken g c = λ part is tells.
    let s = as_told c.args.space.now c.args.params.now c.args.meta.now c.requires.params c.requires.meta (c.requires.shown tells) in
    let x : Image = g.D.Disk.image (disk_of c.args.space.now) in
    let map : PageMap = map_of c.args.space.now in
    let table : TableStands (table_form c.args.meta.now) map c.args.meta.now.table c.in-Some.table.lives.items =
    subst (λ (f : Form). TableStands f map c.args.meta.now.table c.in-Some.table.lives.items) c.form_of.ensures
    (subst (λ (o : Option FoundTable). IfSome o (λ it. IsTrue (g.D.Disk.tells (disk_of c.args.space.now)) → TableStands c.form_of.result map c.args.meta.now.table it.lives.items)) c.in-Some.is c.in_ok-table.ensures.some tells) in
    let lawful : (h : History) × IsKept c.args.params.now c.args.meta.now c.in-Some.table.lives.items h =
    subst (λ (ds : List Dated). (h : History) × IsKept c.args.params.now c.args.meta.now ds h) c.as_slice.ensures.value (c.in_ok-judge.ensures.lawful (ap Ok c.in-Lawful.is)) in
    let told : IsToldBy lawful.0 c.in-Some.table.lives.items c.args.meta.now.version =
    kept_is_told c.lives_name_changes.ensures.named c.args.params.now c.args.meta.now c.in-Some.table.lives.items lawful.0 lawful.1 in
    let none : HasHistory x → ⊥ = no_history x c.args.params.now c.args.meta.now map (IsInOrder c.args.space.now) s.space s.roots c.holds_one.ensures.one
    (λ found h stands kept first. no_other_list x c.args.params.now c.args.meta.now map (IsInOrder c.args.space.now) s.space s.roots c.in-Some.table.lives.items table
    (λ ds. All (λ d. d.life ≡ 1) ds)
    (λ all. false≢true (c.if-not-are_first.ensures.1 (subst (λ (ds : List Dated). All (λ d. d.life ≡ 1) ds) (sym c.as_slice-then-meta-eq0.ensures.value) all)))
    found stands (first c.if-meta-eq0.true)) in
    let at : IsBrokenAt g.X.DomIndex 4 x =
    inr (inr (inr (inl (refl, has_table x c.args.params.now c.args.meta.now map (IsInOrder c.args.space.now) s.space s.roots c.in-Some.table.lives.items lawful.0 table told, none)))) in
    subst (λ (n : ℕ). IsBrokenAt g.X.DomIndex n x) (same_part 4 part is) at

pub returns-then-branch-clause-good : goal.returns-then-branch-clause-good
returns-then-branch-clause-good g c = λ version rows is tells.
    let s = as_told c.args.space.now c.args.params.now c.args.meta.now c.requires.params c.requires.meta (c.requires.shown tells) in
    let x : Image = g.D.Disk.image (disk_of c.args.space.now) in
    let map : PageMap = map_of c.args.space.now in
    let table : TableStands (table_form c.args.meta.now) map c.args.meta.now.table c.in-Some.table.lives.items =
    subst (λ (f : Form). TableStands f map c.args.meta.now.table c.in-Some.table.lives.items) c.form_of.ensures
    (subst (λ (o : Option FoundTable). IfSome o (λ it. IsTrue (g.D.Disk.tells (disk_of c.args.space.now)) → TableStands c.form_of.result map c.args.meta.now.table it.lives.items)) c.in-Some.is c.in_ok-table.ensures.some tells) in
    let lawful : (h : History) × IsKept c.args.params.now c.args.meta.now c.in-Some.table.lives.items h =
    subst (λ (ds : List Dated). (h : History) × IsKept c.args.params.now c.args.meta.now ds h) c.as_slice.ensures.value (c.in_ok-judge.ensures.lawful (ap Ok c.in-Lawful.is)) in
    let told : IsToldBy lawful.0 c.in-Some.table.lives.items c.args.meta.now.version =
    kept_is_told c.lives_name_changes.ensures.named c.args.params.now c.args.meta.now c.in-Some.table.lives.items lawful.0 lawful.1 in
    let first : c.args.meta.now.lives ≡ 0 → All (λ d. d.life ≡ 1) c.in-Some.table.lives.items = elim c.else-meta-eq0.branch [
      | else-meta-eq0-via-then-meta-eq0+else-not-are_first w ↦ λ _. subst (λ (ds : List Dated). All (λ d. d.life ≡ 1) ds) w.as_slice-then-meta-eq0.ensures.value (w.are_first.ensures.0 w.if-not-are_first.false)
      | else-meta-eq0-via-else-meta-eq0 w ↦ λ zero. absurd (w.if-meta-eq0.false zero)
    ] in
    let tells_on : IsTrue (g.D.Disk.tells (disk_of c.read_table.new.pages)) = subst IsTrue (sym c.read_table.ensures.reads.read.tells) tells in
    let sound : TreesAreSound g.X.DomIndex c.args.params.now c.args.meta.now map (IsInOrder c.args.space.now) (entries_of c.in-Some.table.lives.items) =
    sound_there g.X.DomIndex c.args.params.now c.args.meta.now (map_of c.read_table.new.pages) map (IsInOrder c.read_table.new.pages) (IsInOrder c.args.space.now) (entries_of c.in-Some.table.lives.items)
    c.read_table.ensures.reads.read.map (subst AreOrdered c.read_table.ensures.reads.read.base) ((c.in_ok-trees_stand.ensures.stands tells_on).0 c.if-branch.true) in
    let same = same_good c.args.meta.now.version version c.args.meta.now.rows rows is in
    record {
      params = c.args.params.now;
      history = lawful.0;
      holds = holds_by x c.args.params.now c.args.meta.now map (IsInOrder c.args.space.now) s.space s.roots g.X.DomIndex c.index_laws.ensures.any_order c.in-Some.table.lives.items table lawful.0 lawful.1 first sound;
      last = sym same.0 ∙ lawful.1.tells.version;
      count = sym same.1 ∙ lawful.1.tells.rows;
    }

pub returns-else-branch-clause-broken : goal.returns-else-branch-clause-broken
returns-else-branch-clause-broken g c = λ part is tells.
    let s = as_told c.args.space.now c.args.params.now c.args.meta.now c.requires.params c.requires.meta (c.requires.shown tells) in
    let x : Image = g.D.Disk.image (disk_of c.args.space.now) in
    let map : PageMap = map_of c.args.space.now in
    let table : TableStands (table_form c.args.meta.now) map c.args.meta.now.table c.in-Some.table.lives.items =
    subst (λ (f : Form). TableStands f map c.args.meta.now.table c.in-Some.table.lives.items) c.form_of.ensures
    (subst (λ (o : Option FoundTable). IfSome o (λ it. IsTrue (g.D.Disk.tells (disk_of c.args.space.now)) → TableStands c.form_of.result map c.args.meta.now.table it.lives.items)) c.in-Some.is c.in_ok-table.ensures.some tells) in
    let lawful : (h : History) × IsKept c.args.params.now c.args.meta.now c.in-Some.table.lives.items h =
    subst (λ (ds : List Dated). (h : History) × IsKept c.args.params.now c.args.meta.now ds h) c.as_slice.ensures.value (c.in_ok-judge.ensures.lawful (ap Ok c.in-Lawful.is)) in
    let told : IsToldBy lawful.0 c.in-Some.table.lives.items c.args.meta.now.version =
    kept_is_told c.lives_name_changes.ensures.named c.args.params.now c.args.meta.now c.in-Some.table.lives.items lawful.0 lawful.1 in
    let first : c.args.meta.now.lives ≡ 0 → All (λ d. d.life ≡ 1) c.in-Some.table.lives.items = elim c.else-meta-eq0.branch [
      | else-meta-eq0-via-then-meta-eq0+else-not-are_first w ↦ λ _. subst (λ (ds : List Dated). All (λ d. d.life ≡ 1) ds) w.as_slice-then-meta-eq0.ensures.value (w.are_first.ensures.0 w.if-not-are_first.false)
      | else-meta-eq0-via-else-meta-eq0 w ↦ λ zero. absurd (w.if-meta-eq0.false zero)
    ] in
    let tells_on : IsTrue (g.D.Disk.tells (disk_of c.read_table.new.pages)) = subst IsTrue (sym c.read_table.ensures.reads.read.tells) tells in
    let unsound : TreesAreSound g.X.DomIndex c.args.params.now c.args.meta.now map (IsInOrder c.args.space.now) (entries_of c.in-Some.table.lives.items) → ⊥ = λ sound.
    false≢true (sym c.if-branch.false ∙ (c.in_ok-trees_stand.ensures.stands tells_on).1
    (sound_there g.X.DomIndex c.args.params.now c.args.meta.now map (map_of c.read_table.new.pages) (IsInOrder c.args.space.now) (IsInOrder c.read_table.new.pages) (entries_of c.in-Some.table.lives.items)
    (sym c.read_table.ensures.reads.read.map) (subst AreOrdered (sym c.read_table.ensures.reads.read.base)) sound)) in
    let none : HoldsOne g.X.DomIndex x → ⊥ = holds_none x c.args.params.now c.args.meta.now map (IsInOrder c.args.space.now) s.space s.roots g.X.DomIndex c.index_laws.ensures.any_order c.in-Some.table.lives.items table
    c.holds_one.ensures.one c.holds_one.ensures.order (pages_shown x (pages_of c.args.space.now)) s.settles
    (λ free. subst (λ (m : Meta). FreeInOrder (page_at (pages_shown x (pages_of c.args.space.now))) m.allotted m.free) (sym c.requires.meta) free) unsound in
    let at : IsBrokenAt g.X.DomIndex 5 x =
    inr (inr (inr (inr (refl, has_history x c.args.params.now c.args.meta.now map (IsInOrder c.args.space.now) s.space s.roots c.in-Some.table.lives.items lawful.0 table told lawful.1 first, none)))) in
    subst (λ (n : ℕ). IsBrokenAt g.X.DomIndex n x) (same_part 5 part is) at
