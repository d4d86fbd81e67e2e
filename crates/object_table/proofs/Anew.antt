-- A table by ids that is written anew by lives.
use Rattle.std.proofs.Common.{◌≡◌, ℕ, ◌+◌, ◌≤◌, List, [], length, take, Option, Some, None, refl, sym, ◌∙◌, subst}
use Rattle.std.specs.List.{slice_get}
use Rattle.std.proofs.lemmas.List.{append-nil, take_all}
use Rattle.bw_types.specs.declared.dated.Dated.{Dated}
use Rattle.bw_types.specs.declared.tree.Tree.{Tree}
use Rattle.page_layout.specs.Footprint.{ApartBothWays}
use Rattle.ports.specs.Pages.{PageMap}
use Rattle.ports.specs.Frame.{ApartPagesStay, AreApart, ChangesCompose, ChangesStandBeside, Replaces}
use Rattle.object_table.specs.declared.form.Form.TheVariants.{ByIds, ByLives}
use Rattle.object_table.specs.Edits.{with_object}
use Rattle.object_table.specs.Laws.{Ascend, EmptyTableStands, PagesAreThere, StandsByItsPages}
use Rattle.object_table.specs.Lives.{first_from, from_id, table_pages}
use Rattle.object_table.specs.Stands.{IsEmptyTable, TableStands}
use Rattle.object_table.proofs.Next.{AreFirst, first_object, next_object, with_next}

-- So many of the objects are entered in the new table, beside the old one, which is as it was.
pub record IsRenewing (before now : PageMap) (old table : Tree) (lives : List Dated) (after : Option ℕ) (count : ℕ) : Type 0 where
  pub stands : TableStands ByIds now old lives
  pub pages : table_pages ByIds now old ≡ table_pages ByIds before old
  pub taken : TableStands ByLives now table (take count lives)
  pub apart : AreApart (table_pages ByIds now old) (table_pages ByLives now table)
  pub change : Replaces [] (table_pages ByLives now table) before now
  pub next : first_from (from_id after) lives ≡ slice_get lives count

empty_pages : (m : PageMap) (table : Tree) → IsEmptyTable table → table_pages ByLives m table ≡ []
empty_pages m table none = let low = none.1 in rw low refl

pub renewing_begins : EmptyTableStands → (m : PageMap) (old table : Tree) (lives : List Dated) → TableStands ByIds m old lives → IsEmptyTable table → IsRenewing m m old table lives None 0
renewing_begins empty m old table lives s none =
    let pages = empty_pages m table none in
    record {
      stands = s;
      pages = refl;
      taken = empty ByLives m table none;
      apart = subst (λ (ps : List ℕ). AreApart (table_pages ByIds m old) ps) (sym pages) (λ page named. refl);
      change = subst (λ (ps : List ℕ). Replaces [] ps m m) (sym pages) (record { others = λ page a b. refl; fresh = λ page a b. cc; gone = λ page a b. cc });
      next = first_object lives;
    }

module _ (by_its_pages : StandsByItsPages) (in_map : PagesAreThere) (in_turn : ChangesCompose) (beside : ChangesStandBeside) (stay : ApartPagesStay) (both_ways : ApartBothWays) where
  -- The next object is entered.
  pub renewing_goes_on : (before mid now : PageMap) (old table new : Tree) (lives : List Dated) (after : Option ℕ) (count : ℕ) (d : Dated) → Ascend lives → AreFirst lives
      → IsRenewing before mid old table lives after count → slice_get lives count ≡ Some d → TableStands ByLives now new (with_object d (take count lives))
      → Replaces (table_pages ByLives mid table) (table_pages ByLives now new) mid now → IsRenewing before now old new lives (Some d.object.id) (count + 1)
  renewing_goes_on before mid now old table new lives after count d asc first r at entered change =
      let stays = stay (table_pages ByIds mid old) (table_pages ByLives mid table) (table_pages ByLives now new) mid now change (in_map ByIds mid old lives r.stands) r.apart in
      let kept = by_its_pages ByIds mid now old lives r.stands stays.0 in
      record {
        stands = kept.0;
        pages = kept.1 ∙ r.pages;
        taken = subst (λ (ds : List Dated). TableStands ByLives now new ds) (with_next lives count d asc at) entered;
        apart = subst (λ (ps : List ℕ). AreApart ps (table_pages ByLives now new)) (sym kept.1) stays.1;
        change = in_turn [] (table_pages ByLives mid table) (table_pages ByLives now new) before mid now r.change change;
        next = next_object lives count d asc first at;
      }

  -- All objects are entered, and the old pages are freed.
  pub renewing_ends : (before mid now : PageMap) (old table : Tree) (lives : List Dated) (after : Option ℕ) (count : ℕ) → IsRenewing before mid old table lives after count
      → length lives ≤ count → Replaces (table_pages ByIds mid old) [] mid now
      → TableStands ByLives now table lives × Replaces (table_pages ByIds before old) (table_pages ByLives now table) before now
  renewing_ends before mid now old table lives after count r all freed =
      let stays = stay (table_pages ByLives mid table) (table_pages ByIds mid old) [] mid now freed (in_map ByLives mid table (take count lives) r.taken)
      (both_ways (table_pages ByIds mid old) (table_pages ByLives mid table) r.apart) in
      let kept = by_its_pages ByLives mid now table (take count lives) r.taken stays.0 in
      let both = beside [] (table_pages ByLives mid table) (table_pages ByIds mid old) [] before mid now r.change freed in (
        subst (λ (ds : List Dated). TableStands ByLives now table ds) (take_all count lives all) kept.0,
        subst (λ (ps : List ℕ). Replaces ps (table_pages ByLives now table) before now) r.pages
            (subst (λ (ps : List ℕ). Replaces (table_pages ByIds mid old) ps before now) (append-nil (table_pages ByLives mid table) ∙ sym kept.1) both),
      )
