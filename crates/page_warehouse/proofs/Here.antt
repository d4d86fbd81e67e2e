-- What a disk holds, by the numbers and the pages of the space that is open on it.
use Rattle.std.proofs.Common.{◌≡◌, ℕ, List, ◌++◌, sym, ◌∙◌, ap, subst}
use Rattle.std.specs.List.{All}
use Rattle.bw_types.specs.History.{History, changes}
use Rattle.bw_types.specs.Lawful.{IsLawful}
use Rattle.bw_types.specs.declared.dated.Dated.{Dated}
use Rattle.bw_types.specs.declared.params.Params.{Params}
use Rattle.bw_types.specs.declared.tree.Tree.{Tree}
use Rattle.page_disk.specs.Image.{Image}
use Rattle.page_layout.specs.Footprint.{NamesNoneTwice}
use Rattle.page_layout.specs.declared.meta.Meta.{Meta}
use Rattle.ports.specs.Pages.{PageMap}
use Rattle.page_space.specs.Laws.{HoldsOne}
use Rattle.page_space.specs.Space.{HoldsSpace}
use Rattle.object_table.specs.Lives.{last_life, table_lives, table_pages}
use Rattle.object_table.specs.Stands.{TableStands}
use Rattle.object_table.specs.declared.form.Form.{Form}
use Rattle.dom_index.specs.declared.index.DomIndex.{Ghosts}
use Rattle.corner_forest.specs.Stands.{forest_pages}
use Rattle.history_laws.specs.Bounds.{HasSmallWeight}
use Rattle.page_warehouse.specs.Ids.{TableTellsIds, life_told}
use Rattle.session_book.specs.Told.{IsToldOf}
use Rattle.page_warehouse.specs.Holds.{Holds, TableKeeps, TellsOf, TreesStand, table_form}
use Rattle.page_warehouse.proofs.Opened.{unordered}

module _ {X : Type 0} (g : Ghosts X) where
  pub record Here (params : Params) (meta : Meta) (map : PageMap) (h : History) : Type 0 where
    pub tells : TellsOf params meta h
    pub lawful : IsLawful params h
    pub weights : All HasSmallWeight (changes h)
    pub table : TableKeeps map meta h
    pub trees : TreesStand g params map meta.roots.items h
    pub apart : NamesNoneTwice (table_pages (table_form meta) map meta.table ++ forest_pages g map params meta.roots.items)

  pub here : HoldsOne → (x : Image) (params : Params) (meta : Meta) (map : PageMap) (ordered : Type 0) → HoldsSpace x params meta map ordered → (h : History) → Holds g x params h → Here params meta map h
  here one x params meta map ordered space h held =
      let same = one x params params held.meta meta held.pages map (unordered x params held.meta held.pages (Unit {0}) held.space) (unordered x params meta map ordered space) in
      let at : Here params held.meta held.pages h = record { tells = held.tells; lawful = held.lawful; weights = held.weights; table = held.table; trees = held.trees; apart = held.apart } in
      subst (λ (m : PageMap). Here params meta m h) same.2 (subst (λ (m : Meta). Here params m held.pages h) same.1 at)

  -- its free pages are in order
  pub space_here : HoldsOne → (x : Image) (params : Params) (meta : Meta) (map : PageMap) (ordered : Type 0) → HoldsSpace x params meta map ordered → (h : History) → Holds g x params h → HoldsSpace x params meta map (Unit {0})
  space_here one x params meta map ordered space h held =
      let same = one x params params held.meta meta held.pages map (unordered x params held.meta held.pages (Unit {0}) held.space) (unordered x params meta map ordered space) in
      subst (λ (m : PageMap). HoldsSpace x params meta m (Unit {0})) same.2 (subst (λ (m : Meta). HoldsSpace x params m held.pages (Unit {0})) same.1 held.space)

  -- the table that is looked at stands for the lives
  pub table_here : (params : Params) (meta : Meta) (map : PageMap) (h : History) → (now : Here params meta map h) → (form : Form) (table : Tree) → form ≡ table_form meta → table ≡ meta.table → TableStands form map table now.table.kept
  table_here params meta map h now form table is at =
      subst (λ (t : Tree). TableStands form map t now.table.kept) (sym at) (subst (λ (f : Form). TableStands f map meta.table now.table.kept) (sym is) now.table.stands)

  -- and tells the ids of the history, with its events and its mass
  pub told_here : TableTellsIds → (params : Params) (meta : Meta) (map : PageMap) (h : History) → (now : Here params meta map h) → (form : Form) (table : Tree) (events mass : ℕ) → form ≡ table_form meta → table ≡ meta.table
      → events ≡ meta.events → mass ≡ meta.mass → IsToldOf params (λ id. life_told (last_life id (table_lives form map table))) events mass h
  told_here ids params meta map h now form table events mass is at so_many so_much =
      let stands = table_here params meta map h now form table is at in
      record {
        lives = λ id small. ap (λ (ds : List Dated). life_told (last_life id ds)) stands.has ∙ ids form map table now.table.kept h id stands now.table.all;
        all_events = so_many ∙ now.tells.events;
        all_mass = so_much ∙ now.tells.mass;
      }
