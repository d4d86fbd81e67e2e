use Rattle.std.proofs.Common.{◌≡◌, Option, IfNone, IfSome, IsTrue, ℕ, length, sym, ap, subst, ◌∙◌, false, inl, inr, refl}
use Rattle.std.proofs.lemmas.Bool.{cases_Bool}
use Rattle.bw_types.specs.declared.params.Params.{Params}
use Rattle.page_disk.specs.Image.{Image, page_at}
use Rattle.page_layout.specs.declared.meta.Meta.{Meta}
use Rattle.ports.specs.Pages.{PageMap}
use Rattle.redo_journal.specs.Gates.{is_empty}
use Rattle.page_space.specs.InUse.{pages_in_use}
use Rattle.page_space.specs.Space.{HoldsSpace}
use Rattle.corner_forest.specs.Entries.{root_count}
use Rattle.settled_pages.specs.Looked.{disk_of}
use Rattle.settled_pages.specs.Shown.{pages_shown}
use Rattle.image_check.specs.Parts.{HasJournal, HasRoots, IsBrokenAt}
use Rattle.image_check.proofs.Faults.{bad_is_made, bad_is_no_other}
use Rattle.image_check.proofs.SameSpace.{as_found}
use Rattle.image_check.proofs.Verdicts.{same_part}
use Rattle.image_check.proofs.checking.check.Goals as goal

pub returns-in-Err-BadJournal-clause-broken : goal.returns-in-Err-BadJournal-clause-broken
returns-in-Err-BadJournal-clause-broken g c = λ part is tells.
    let x : Image = g.D.Disk.image c.args.disk.now in
    let made : is_empty x ≡ false = elim (cases_Bool (is_empty x)) [
      | inl empty ↦ absurd (bad_is_made c.in-Err-BadJournal.field-0 c.in-Err-BadJournal.field-0-0 c.in-Err-BadJournal.field-0-is (c.in-Err-BadJournal.ensures.always_empty tells empty))
      | inr not ↦ not
    ] in
    let none : HasJournal x → ⊥ = λ t.
    bad_is_no_other c.in-Err-BadJournal.field-0 c.in-Err-BadJournal.field-0-0 c.in-Err-BadJournal.field-0-is (c.in-Err-BadJournal.ensures.found tells t.0 t.1) in
    let at : IsBrokenAt g.X.DomIndex 1 x = inl (refl, made, none) in
    subst (λ (n : ℕ). IsBrokenAt g.X.DomIndex n x) (same_part 1 part is) at

pub returns-in-Ok-None-clause-broken : goal.returns-in-Ok-None-clause-broken
returns-in-Ok-None-clause-broken g c = λ part is tells.
    let x : Image = g.D.Disk.image c.args.disk.now in
    let tells_on : IsTrue (g.D.Disk.tells c.find.new.disk) = subst IsTrue (sym c.find.ensures.reads.tells) tells in
    let none = subst (λ (o : Option (Params × Meta)). IfNone o (IsTrue (g.D.Disk.tells c.find.new.disk) → (params : Params) (meta : Meta) (map : PageMap)
    → HoldsSpace (g.D.Disk.image c.find.new.disk) params meta map ⊥ → ⊥)) c.in-Ok-None.field-0-is c.in-Ok-None.ensures.none in
    let journal : HasJournal x = (pages_shown x c.in-Ok.settled, (c.in-Ok.ensures.ok tells).settles) in
    let without : HasRoots x → ⊥ = λ t. none tells_on t.0 t.1 t.2 (subst (λ (y : Image). HoldsSpace y t.0 t.1 t.2 ⊥) (sym c.find.ensures.reads.image) t.3.space) in
    let at : IsBrokenAt g.X.DomIndex 2 x = inr (inl (refl, journal, without)) in
    subst (λ (n : ℕ). IsBrokenAt g.X.DomIndex n x) (same_part 2 part is) at

pub returns-then-len-root_count-clause-broken : goal.returns-then-len-root_count-clause-broken
returns-then-len-root_count-clause-broken g c = λ part is tells.
    let x : Image = g.D.Disk.image c.args.disk.now in
    let tells_on : IsTrue (g.D.Disk.tells c.find.new.disk) = subst IsTrue (sym c.find.ensures.reads.tells) tells in
    let params : Params = c.in-Ok-Some.roots.0 in
    let meta : Meta = c.in-Ok-Some.roots.1 in
    let map : PageMap = pages_in_use (page_at (pages_shown (g.D.Disk.image c.find.new.disk) c.in-Ok.settled)) meta.allotted in
    let space : HoldsSpace x params meta map ⊥ = subst (λ (y : Image). HoldsSpace y params meta map ⊥) c.find.ensures.reads.image
    (subst (λ (o : Option (Params × Meta)). IfSome o (λ roots. IsTrue (g.D.Disk.tells c.find.new.disk) → HoldsSpace (g.D.Disk.image c.find.new.disk) roots.0 roots.1
    (pages_in_use (page_at (pages_shown (g.D.Disk.image c.find.new.disk) c.in-Ok.settled)) roots.1.allotted) ⊥)) c.in-Ok-Some.field-0-is c.in-Ok-Some.ensures.some tells_on) in
    let journal : HasJournal x = (pages_shown x c.in-Ok.settled, (c.in-Ok.ensures.ok tells).settles) in
    let without : HasRoots x → ⊥ = λ t.
    let as_many : length meta.roots.items ≡ root_count params = as_found c.holds_one.ensures.one x params t.0 meta t.1 map t.2 space t.3.space (λ p m k. length m.roots.items ≡ root_count p) t.3.roots in
    c.if-len-root_count.true (c.len.ensures.value ∙ as_many ∙ sym c.root_count.ensures.count) in
    let at : IsBrokenAt g.X.DomIndex 2 x = inr (inl (refl, journal, without)) in
    subst (λ (n : ℕ). IsBrokenAt g.X.DomIndex n x) (same_part 2 part is) at

pub returns-clause-broken : goal.returns-clause-broken
returns-clause-broken g c = λ part is tells.
    let tells_on : IsTrue (g.D.Disk.tells (disk_of c.new-space.result)) =
    subst (λ d. IsTrue (g.D.Disk.tells d)) (sym c.new-space.ensures.disk) (subst IsTrue (sym c.roots.ensures.reads.tells) (subst IsTrue (sym c.find.ensures.reads.tells) tells)) in
    let same : g.D.Disk.image (disk_of c.new-space.result) ≡ g.D.Disk.image c.args.disk.now =
    ap (λ d. g.D.Disk.image d) c.new-space.ensures.disk ∙ c.roots.ensures.reads.image ∙ c.find.ensures.reads.image in
    subst (λ (x : Image). IsBrokenAt g.X.DomIndex part x) same (c.check_table.ensures.broken part is tells_on)

pub returns-in-Err-NoMemory-clause-no_memory : goal.returns-in-Err-NoMemory-clause-no_memory
returns-in-Err-NoMemory-clause-no_memory g c = λ is tells. inl ((rw c.in-Err-NoMemory.field-0-is at c.in-Err-NoMemory.ensures.no_memory) tells)

pub returns-clause-no_memory : goal.returns-clause-no_memory
returns-clause-no_memory g c = λ is tells.
    let tells_on : IsTrue (g.D.Disk.tells c.find.new.disk) = subst IsTrue (sym c.find.ensures.reads.tells) tells in
    let params : Params = c.in-Ok-Some.roots.0 in
    let meta : Meta = c.in-Ok-Some.roots.1 in
    let map : PageMap = pages_in_use (page_at (pages_shown (g.D.Disk.image c.find.new.disk) c.in-Ok.settled)) meta.allotted in
    let space : HoldsSpace (g.D.Disk.image c.args.disk.now) params meta map ⊥ = subst (λ (y : Image). HoldsSpace y params meta map ⊥) c.find.ensures.reads.image
    (subst (λ (o : Option (Params × Meta)). IfSome o (λ roots. IsTrue (g.D.Disk.tells c.find.new.disk) → HoldsSpace (g.D.Disk.image c.find.new.disk) roots.0 roots.1
    (pages_in_use (page_at (pages_shown (g.D.Disk.image c.find.new.disk) c.in-Ok.settled)) roots.1.allotted) ⊥)) c.in-Ok-Some.field-0-is c.in-Ok-Some.ensures.some tells_on) in
    inr (params, meta, map, record { space = space; roots = sym c.len.ensures.value ∙ c.if-len-root_count.false ∙ c.root_count.ensures.count })
