-- Table and trees in pages that change: first the table, then the trees.
use Rattle.std.proofs.Common.{◌≡◌, ℕ, List, [], ◌∷◌, ◌++◌, IsPermutation, sym, subst}
use Rattle.std.proofs.lemmas.List.Sorted.{IsPermutation-sym, IsPermutation-trans, IsPermutation-cons, IsPermutation-to_front}
use Rattle.bw_types.specs.History.{History}
use Rattle.bw_types.specs.Lives.{lives}
use Rattle.bw_types.specs.declared.dated.Dated.{Dated}
use Rattle.bw_types.specs.declared.params.Params.{Params}
use Rattle.bw_types.specs.declared.tree.Tree.{Tree}
use Rattle.page_layout.specs.Footprint.{ApartBothWays, NamesNoneTwice, NoneTwiceByParts}
use Rattle.ports.specs.Frame.{ApartPagesStay, AreApart, Replaces}
use Rattle.ports.specs.Pages.{PageMap}
use Rattle.object_table.specs.Laws.{PagesAreThere, StandsByItsPages}
use Rattle.object_table.specs.Lives.{table_pages}
use Rattle.object_table.specs.Stands.{TableStands}
use Rattle.object_table.specs.declared.form.Form.TheVariants.{ByLives}
use Rattle.corner_weights.specs.PlaneSums.{Entered}
use Rattle.dom_index.specs.declared.index.DomIndex.{Ghosts}
use Rattle.corner_forest.specs.Enters.{ForestEnters, MayEnter}
use Rattle.corner_forest.specs.Entries.{AreNextEntries}
use Rattle.corner_forest.specs.Laws.{EntryStandsAnywhere, ForestPagesAreThere, ForestStandsByItsPages}
use Rattle.corner_forest.specs.declared.forest.Forest.{Forest}
use Rattle.corner_forest.specs.Stands.{AreBalanced, ForestStands, forest_pages}
use Rattle.page_warehouse.specs.Entering.{PagesTell}
use Rattle.page_warehouse.specs.Waiting.{LeadTo}
use Rattle.page_warehouse.specs.declared.roots.Roots.{Roots}
use Rattle.page_warehouse.proofs.Leads.{all_placed}

module _ {X : Type 0} (g : Ghosts X) where
  -- the laws of the parts
  pub record PageLaws : Type 0 where
    pub table_by : StandsByItsPages
    pub table_there : PagesAreThere
    pub forest_by : ForestStandsByItsPages g
    pub forest_there : ForestPagesAreThere g
    pub anywhere : EntryStandsAnywhere g
    pub parts : NoneTwiceByParts
    pub both : ApartBothWays
    pub stay : ApartPagesStay

  -- The trees stand beside a table with these pages.
  pub record ForestThere (params : Params) (pages : PageMap) (roots : List Tree) (entries : List Entered) (table : List ℕ) : Type 0 where
    pub stands : ForestStands g pages params roots entries
    pub once : NamesNoneTwice (forest_pages g pages params roots)
    pub balanced : AreBalanced g pages params roots
    pub apart : AreApart (forest_pages g pages params roots) table

  -- The table changed, and the trees stand as before.
  pub forest_stays : PageLaws → (params : Params) (before after : PageMap) (roots : List Tree) (entries : List Entered) (old new : List ℕ)
      → ForestStands g before params roots entries → AreBalanced g before params roots → NamesNoneTwice (old ++ forest_pages g before params roots) → Replaces old new before after
      → ForestThere params after roots entries new
  forest_stays laws params before after roots entries old new stands balanced once change =
      let pages : List ℕ = forest_pages g before params roots in
      let split = (laws.parts old pages).0 once in
      let kept = laws.stay pages old new before after change (laws.forest_there before params roots entries stands) (laws.both old pages split.2) in
      let at = laws.forest_by before after params roots entries stands kept.0 in
      record {
        stands = at.0;
        once = subst (λ (ps : List ℕ). NamesNoneTwice ps) (sym at.1) split.1;
        balanced = at.2 balanced;
        apart = subst (λ (ps : List ℕ). AreApart ps new) (sym at.1) kept.1;
      }

  -- The trees changed, and the table stands as before.
  pub table_stays : PageLaws → (before after : PageMap) (table : Tree) (kept : List Dated) (old new : List ℕ)
      → TableStands ByLives before table kept → AreApart old (table_pages ByLives before table) → Replaces old new before after → NamesNoneTwice new
      → TableStands ByLives after table kept × NamesNoneTwice (table_pages ByLives after table ++ new)
  table_stays laws before after table kept old new stands apart change once =
      let pages : List ℕ = table_pages ByLives before table in
      let stays = laws.stay pages old new before after change (laws.table_there ByLives before table kept stands) (laws.both old pages apart) in
      let at = laws.table_by ByLives before after table kept stands stays.0 in
      let own : NamesNoneTwice pages = stands.once in (
        at.0,
        subst (λ (ps : List ℕ). NamesNoneTwice (ps ++ new)) (sym at.1) ((laws.parts pages new).1 (own, once, stays.1)),
      )

  -- what the pages tell, of a forest for the same params
  pub tells : (pages : PageMap) (roots : Roots) (params : Params) (h : History) (entries : List Entered) → roots.forest.params ≡ params → (kept : List Dated) → TableStands ByLives pages roots.table kept
      → IsPermutation kept (lives h) → ForestStands g pages params roots.forest.roots.items entries → AreBalanced g pages params roots.forest.roots.items
      → NamesNoneTwice (table_pages ByLives pages roots.table ++ forest_pages g pages params roots.forest.roots.items) → PagesTell g pages roots h entries
  tells pages roots params h entries same kept stands all forest balanced apart =
      let at : params ≡ roots.forest.params = sym same in
      record {
        kept = kept;
        stands = stands;
        all = all;
        forest = subst (λ (p : Params). ForestStands g pages p roots.forest.roots.items entries) at forest;
        balanced = subst (λ (p : Params). AreBalanced g pages p roots.forest.roots.items) at balanced;
        apart = subst (λ (p : Params). NamesNoneTwice (table_pages ByLives pages roots.table ++ forest_pages g pages p roots.forest.roots.items)) at apart;
      }

  -- what they tell where the trees stand beside a table that changed
  pub tells_beside : PageLaws → (pages : PageMap) (old new : Roots) (h : History) (entries : List Entered) → new.forest ≡ old.forest → (kept : List Dated) → TableStands ByLives pages new.table kept
      → IsPermutation kept (lives h) → ForestThere old.forest.params pages old.forest.roots.items entries (table_pages ByLives pages new.table) → PagesTell g pages new h entries
  tells_beside laws pages old new h entries same kept stands all beside =
      let own : List ℕ = table_pages ByLives pages new.table in
      let trees : List ℕ = forest_pages g pages old.forest.params old.forest.roots.items in
      let once : NamesNoneTwice own = stands.once in
      let apart = (laws.parts own trees).1 (once, beside.once, laws.both trees own beside.apart) in
      let at : old.forest ≡ new.forest = sym same in
      record {
        kept = kept;
        stands = stands;
        all = all;
        forest = subst (λ (f : Forest). ForestStands g pages f.params f.roots.items entries) at beside.stands;
        balanced = subst (λ (f : Forest). AreBalanced g pages f.params f.roots.items) at beside.balanced;
        apart = subst (λ (f : Forest). NamesNoneTwice (own ++ forest_pages g pages f.params f.roots.items)) at apart;
      }

  -- The trees may enter what comes next.
  pub may_enter : PageLaws → (pages : PageMap) (roots : Roots) (h : History) (entries batch : List Entered)
      → PagesTell g pages roots h entries → AreNextEntries roots.forest.params entries batch
      → MayEnter g pages roots.forest.params roots.forest.roots.items entries batch
  may_enter laws pages roots h entries batch tell next =
      let trees = forest_pages g pages roots.forest.params roots.forest.roots.items in
      let split = (laws.parts (table_pages ByLives pages roots.table) trees).0 tell.apart in
      record { stands = tell.forest; once = split.1; next = next }

  -- The trees have the entries too, each at its place, and the table is as before.
  pub entered_then : PageLaws → (before after : PageMap) (old new : Roots) (h : History) (es batch fs : List Entered) → new.table ≡ old.table → new.forest.params ≡ old.forest.params
      → PagesTell g before old h es → LeadTo old.forest.params es batch fs
      → ForestEnters g old.forest.params before after old.forest.roots.items new.forest.roots.items es batch → PagesTell g after new h fs
  entered_then laws before after old new h es batch fs table same tell lead enters =
      let trees : List ℕ = forest_pages g before old.forest.params old.forest.roots.items in
      let split = (laws.parts (table_pages ByLives before old.table) trees).0 tell.apart in
      let both = table_stays laws before after old.table tell.kept trees (forest_pages g after old.forest.params new.forest.roots.items) tell.stands (laws.both (table_pages ByLives before old.table) trees split.2) enters.change enters.once in
      let placed = all_placed g laws.anywhere after old.forest.params new.forest.roots.items es batch fs lead enters.stands in
      let at : old.table ≡ new.table = sym table in
      tells after new old.forest.params h fs same tell.kept (subst (λ (t : Tree). TableStands ByLives after t tell.kept) at both.0) tell.all placed (enters.balanced tell.balanced)
      (subst (λ (t : Tree). NamesNoneTwice (table_pages ByLives after t ++ forest_pages g after old.forest.params new.forest.roots.items)) at both.1)

-- One life more, at the end of the one list and at its place in the other.
pub one_more : (d : Dated) (kept with_d others all : List Dated) → IsPermutation kept others → IsPermutation (d ∷ kept) with_d → all ≡ others ++ d ∷ [] → IsPermutation with_d all
one_more d kept with_d others all same put is =
    subst (λ (l : List Dated). IsPermutation with_d l) (sym is)
    (IsPermutation-trans with_d (d ∷ kept) (others ++ d ∷ []) (IsPermutation-sym (d ∷ kept) with_d put)
    (IsPermutation-trans (d ∷ kept) (d ∷ others) (others ++ d ∷ []) (IsPermutation-cons d kept others same) (IsPermutation-sym (others ++ d ∷ []) (d ∷ others) (IsPermutation-to_front others d))))
