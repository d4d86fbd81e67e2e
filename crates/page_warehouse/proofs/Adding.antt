-- An add that comes next.
use Rattle.std.proofs.Common.{◌≡◌, ℕ, ◌+◌, ◌<◌, ◌^◌, List, [], ◌∷◌, ◌++◌, length, false, IsPermutation, Option, sym, ◌∙◌, ap}
use Rattle.std.specs.Option.{option_map_or}
use Rattle.std.proofs.lemmas.List.{append-nil}
use Rattle.bw_types.specs.Fits.{IsInRange}
use Rattle.bw_types.specs.History.{History}
use Rattle.bw_types.specs.Lawful.{IsLawful, IsLawfulBatch}
use Rattle.bw_types.specs.Lives.{lives}
use Rattle.bw_types.specs.declared.change.Change.{Change}
use Rattle.bw_types.specs.declared.change.Change.TheVariants as change
use Rattle.bw_types.specs.declared.dated.Dated.{Dated}
use Rattle.bw_types.specs.declared.object.Object.{Object}
use Rattle.bw_types.specs.declared.params.Params.{Params}
use Rattle.bw_types.specs.declared.tree.Tree.{Tree}
use Rattle.object_table.specs.Edits.{IsNewLife, with_object}
use Rattle.object_table.specs.Laws.{EnteredIsMore, LastInAnyOrder}
use Rattle.object_table.specs.Lives.{last_life, table_pages}
use Rattle.object_table.specs.Stands.{TableStands}
use Rattle.object_table.specs.declared.form.Form.TheVariants.{ByLives}
use Rattle.ports.specs.Frame.{Replaces}
use Rattle.ports.specs.Pages.{PageMap}
use Rattle.corner_weights.specs.PlaneSums.{Entered}
use Rattle.dom_index.specs.declared.index.DomIndex.{Ghosts}
use Rattle.corner_forest.specs.Enters.{entry_of}
use Rattle.corner_forest.specs.Entries.{IsNextEntry}
use Rattle.history_laws.specs.Entries.{history_entries}
use Rattle.page_warehouse.specs.Begun.{begun_life, next_event, next_version, with_changes}
use Rattle.page_warehouse.specs.Ids.{LivesEndWithTheGreatest}
use Rattle.page_warehouse.specs.Next.{AddGoesOn, AddsGoOn, FrontsAreLawful, LivesAreFew}
use Rattle.page_warehouse.specs.Entering.{PagesTell}
use Rattle.page_warehouse.specs.Waiting.{HasOneMore}
use Rattle.page_warehouse.specs.declared.roots.Roots.{Roots}
use Rattle.page_warehouse.proofs.Next.{entry_is, few_kept, is_new, last_told, life_is}
use Rattle.page_warehouse.proofs.Pages.{ForestThere, PageLaws, forest_stays, one_more, tells_beside}

-- the laws of what comes next
pub record NextLaws : Type 0 where
  pub any : LastInAnyOrder
  pub greatest : LivesEndWithTheGreatest
  pub fronts : FrontsAreLawful
  pub few : LivesAreFew

module _ {X : Type 0} (g : Ghosts X) (nexts : NextLaws) (params : Params) (in_range : IsInRange params) (h : History) (done later : List Change) (es : List Entered) (lawful : IsLawful params h) where
  -- so few lives are in the table
  pub kept_few : IsLawfulBatch params h (done ++ later) → (pages : PageMap) (roots : Roots) → (keep : PagesTell g pages roots (with_changes h done) es) → length keep.kept < 2 ^ 28
  kept_few batch pages roots keep = few_kept keep.kept (lives (with_changes h done)) keep.all (nexts.few params (with_changes h done) in_range (nexts.fronts params h done later lawful batch).1)

module _ {X : Type 0} (g : Ghosts X) (laws : PageLaws g) (nexts : NextLaws) (adds : AddsGoOn) (more : EnteredIsMore) (params : Params) (in_range : IsInRange params) (h : History) (done later : List Change) (es : List Entered) (o : Object)
    (lawful : IsLawful params h) (batch : IsLawfulBatch params h (done ++ change.Add o ∷ later)) where
  pub goes : AddGoesOn params h done o
  goes = adds params h done later o in_range lawful batch

  -- the number after the last life that the table tells is that of the history
  pub number_is : (pages : PageMap) (roots : Roots) → (keep : PagesTell g pages roots (with_changes h done) es) → (found : Option Dated) → found ≡ last_life o.id keep.kept
      → 1 + option_map_or (λ (d : Dated). d.life) found 0 ≡ (begun_life h done o).life
  number_is pages roots keep found told =
      let same : last_life o.id (lives (with_changes h done)) ≡ found = last_told nexts.any nexts.greatest pages roots.table keep.kept (with_changes h done) o.id keep.stands keep.all ∙ sym told in
      sym (goes.number ∙ ap (λ (l : Option Dated). 1 + option_map_or (λ (d : Dated). d.life) l 0) same)

  -- What is known of the life that is to be entered.
  pub record AddReady (pages : PageMap) (roots : Roots) (keep : PagesTell g pages roots (with_changes h done) es) (d : Dated) (event version : ℕ) : Type 0 where
    pub is : d ≡ begun_life h done o
    pub new : IsNewLife keep.kept d
    pub next : IsNextEntry params (history_entries (with_changes h done)) (entry_of o false event version)

  pub ready : (pages : PageMap) (roots : Roots) → (keep : PagesTell g pages roots (with_changes h done) es) → (found : Option Dated) → found ≡ last_life o.id keep.kept
      → (d : Dated) (life event version : ℕ) → life ≡ 1 + option_map_or (λ (e : Dated). e.life) found 0 → d ≡ record { object = o; life = life; added = version; add_event = event; withdrawn = 0; withdraw_event = 0 }
      → event ≡ next_event h done → version ≡ next_version h → AddReady pages roots keep d event version
  ready pages roots keep found told d life event version number made ev ver =
      let is : d ≡ begun_life h done o = made ∙ life_is h done o life event version (number ∙ number_is pages roots keep found told) ev ver in
      let after : d.life ≡ 1 + option_map_or (λ (e : Dated). e.life) (last_life d.object.id keep.kept) 0 =
      ap (λ (e : Dated). e.life) made ∙ number ∙ ap (λ (l : Option Dated). 1 + option_map_or (λ (e : Dated). e.life) l 0) (told ∙ ap (λ (e : Dated). last_life e.object.id keep.kept) (sym made)) in
      record {
        is = is;
        new = is_new keep.kept d after;
        next = entry_is params (history_entries (with_changes h done)) o false event (next_event h done) version (next_version h) ev ver goes.next;
      }

  -- the trees stand beside the table that has the life
  pub there : (before mid : PageMap) (old : Roots) (table : Tree) → (keep : PagesTell g before old (with_changes h done) es)
      → Replaces (table_pages ByLives before old.table) (table_pages ByLives mid table) before mid
      → ForestThere g old.forest.params mid old.forest.roots.items es (table_pages ByLives mid table)
  there before mid old table keep moved =
      forest_stays g laws old.forest.params before mid old.forest.roots.items es (table_pages ByLives before old.table) (table_pages ByLives mid table) keep.forest keep.balanced keep.apart moved

  -- the table tells the history with the add
  pub told_then : (before mid : PageMap) (old new : Roots) → new.forest ≡ old.forest → (keep : PagesTell g before old (with_changes h done) es) → (d : Dated) (event version : ℕ)
      → AddReady before old keep d event version → d.life < 2 ^ 32 → TableStands ByLives mid new.table (with_object d keep.kept)
      → Replaces (table_pages ByLives before old.table) (table_pages ByLives mid new.table) before mid
      → PagesTell g mid new (with_changes h (done ++ change.Add o ∷ [])) es
  told_then before mid old new same keep d event version r small entered moved =
      let h' : History = with_changes h (done ++ change.Add o ∷ []) in
      let put : IsPermutation (d ∷ keep.kept) (with_object d keep.kept) = more ByLives before old.table keep.kept d keep.stands small r.new in
      let all : IsPermutation (with_object d keep.kept) (lives h') =
      one_more d keep.kept (with_object d keep.kept) (lives (with_changes h done)) (lives h') keep.all put (goes.lives ∙ ap (λ (e : Dated). lives (with_changes h done) ++ e ∷ []) (sym r.is)) in
      tells_beside g laws mid old new h' es same (with_object d keep.kept) entered all (there before mid old new.table keep moved)

  -- and its entry is one more
  pub one_more_entry : (event version : ℕ) → event ≡ next_event h done → version ≡ next_version h
      → HasOneMore (history_entries (with_changes h done)) (history_entries (with_changes h (done ++ change.Add o ∷ []))) (entry_of o false event version)
  one_more_entry event version ev ver = record {
    front = history_entries (with_changes h done);
    back = [];
    was = sym (append-nil (history_entries (with_changes h done)));
    is = goes.entries ∙ (λ i. history_entries (with_changes h done) ++ entry_of o false (sym ev i) (sym ver i) ∷ []);
  }
