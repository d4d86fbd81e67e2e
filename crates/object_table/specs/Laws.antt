-- What the crates above know of object tables, beside the contracts of the calls.
use Rattle.std.specs.Prelude.{◌≡◌, ◌≢◌, ℕ, ◌<◌, ◌≤◌, ◌^◌, ◌==◌, if◌then◌else◌, List, [], ◌∷◌, length, Some, None, IsPermutation}
use Rattle.std.specs.List.{All}
use Rattle.bw_types.specs.declared.dated.Dated.{Dated}
use Rattle.bw_types.specs.declared.tree.Tree.{Tree}
use Rattle.ports.specs.Pages.{PageMap}
use Rattle.ports.specs.Frame.{AgreeOn, AreInMap}
use Rattle.object_table.specs.declared.form.Form.{Form}
use Rattle.object_table.specs.declared.form.Form.TheVariants.{ByIds}
use Rattle.object_table.specs.Edits.{IsNewLife, with_object, withdrawn_at, with_withdrawal}
use Rattle.object_table.specs.Keys.{key, AscendBy}
use Rattle.object_table.specs.Lives.{last_life, table_pages}
use Rattle.object_table.specs.Stands.{TableStands, IsEmptyTable}

-- Whether a table stands, and its footprint, depend on the pages of its footprint alone.
abbrev pub StandsByItsPages : Type 0
StandsByItsPages = (form : Form) (pages others : PageMap) (table : Tree) (lives : List Dated) → TableStands form pages table lives
    → AgreeOn (table_pages form pages table) pages others → TableStands form others table lives × (table_pages form others table ≡ table_pages form pages table)

-- The pages of a table that stands are in the map.
abbrev pub PagesAreThere : Type 0
PagesAreThere = (form : Form) (pages : PageMap) (table : Tree) (lives : List Dated) → TableStands form pages table lives → AreInMap pages (table_pages form pages table)

-- A table stands for one list only, and its count is the number of objects, one for each life.
abbrev pub StandsForOneList : Type 0
StandsForOneList = (form : Form) (pages : PageMap) (table : Tree) (lives others : List Dated)
    → TableStands form pages table lives → TableStands form pages table others → (lives ≡ others) × (table.count ≡ length lives)

-- each object stands above those before it, by id and then life
abbrev pub Ascend : List Dated → Type 0
Ascend lives = AscendBy key lives

-- The objects of a table ascend by id and then life.
abbrev pub LivesAscend : Type 0
LivesAscend = (form : Form) (pages : PageMap) (table : Tree) (lives : List Dated) → TableStands form pages table lives → Ascend lives

-- The empty table stands for no objects.
abbrev pub EmptyTableStands : Type 0
EmptyTableStands = (form : Form) (pages : PageMap) (table : Tree) → IsEmptyTable table → TableStands form pages table []

-- A table that stands for fewer than 2^28 objects has at most 5 levels, so entering one gives out at most 6 pages.
abbrev pub TableIsLow : Type 0
TableIsLow = (form : Form) (pages : PageMap) (table : Tree) (lives : List Dated) → TableStands form pages table lives → length lives < 2 ^ 28 → table.levels ≤ 5

-- In the earlier form each object has its first life.
abbrev pub EarlierLivesAreFirst : Type 0
EarlierLivesAreFirst = (pages : PageMap) (table : Tree) (lives : List Dated) → TableStands ByIds pages table lives → All (λ d. d.life ≡ 1) lives

-- The last life of an id has the id, and no life of the id comes after it.
abbrev pub LastIsGreatest : Type 0
LastIsGreatest = (form : Form) (pages : PageMap) (table : Tree) (lives : List Dated) (id : ℕ) (last : Dated) → TableStands form pages table lives
    → last_life id lives ≡ Some last → (last.object.id ≡ id) × All (λ d. d.object.id ≡ id → d.life ≤ last.life) lives

-- An id without a last life has none.
abbrev pub NoLastNoLife : Type 0
NoLastNoLife = (id : ℕ) (lives : List Dated) → last_life id lives ≡ None → All (λ d. d.object.id ≢ id) lives

-- An object that was entered is the last life of its id. Each other id has the last life that it had.
abbrev pub EnteredIsLast : Type 0
EnteredIsLast = (form : Form) (pages : PageMap) (table : Tree) (lives : List Dated) (d : Dated) (id : ℕ) → TableStands form pages table lives → d.life < 2 ^ 32
    → IsNewLife lives d → last_life id (with_object d lives) ≡ (if d.object.id == id then Some d else last_life id lives)

-- The objects are those before and the one that was entered.
abbrev pub EnteredIsMore : Type 0
EnteredIsMore = (form : Form) (pages : PageMap) (table : Tree) (lives : List Dated) (d : Dated) → TableStands form pages table lives → d.life < 2 ^ 32
    → IsNewLife lives d → IsPermutation (d ∷ lives) (with_object d lives)

-- The last life of the id is withdrawn. Each other id has the last life that it had.
abbrev pub WithdrawnIsLast : Type 0
WithdrawnIsLast = (form : Form) (pages : PageMap) (table : Tree) (lives : List Dated) (id version event : ℕ) (last : Dated) (other : ℕ) → TableStands form pages table lives
    → last_life id lives ≡ Some last
    → last_life other (with_withdrawal id version event lives) ≡ (if id == other then Some (withdrawn_at version event last) else last_life other lives)

-- Of each id, the last life that the list tells is the greatest, as it is where lives are listed in the order of adding.
abbrev pub LastsAreGreatest : List Dated → Type 0
LastsAreGreatest others = (id : ℕ) (last : Dated) → last_life id others ≡ Some last → All (λ d. d.object.id ≡ id → d.life ≤ last.life) others

-- The table tells the last life of each id of any list of its objects that ends with the greatest of each.
abbrev pub LastInAnyOrder : Type 0
LastInAnyOrder = (form : Form) (pages : PageMap) (table : Tree) (lives others : List Dated) (id : ℕ) → TableStands form pages table lives → IsPermutation others lives
    → LastsAreGreatest others → last_life id others ≡ last_life id lives

-- So a withdrawal in the table is the withdrawal in that list.
abbrev pub WithdrawnInAnyOrder : Type 0
WithdrawnInAnyOrder = (form : Form) (pages : PageMap) (table : Tree) (lives others : List Dated) (id version event : ℕ) → TableStands form pages table lives → IsPermutation others lives
    → LastsAreGreatest others → IsPermutation (with_withdrawal id version event others) (with_withdrawal id version event lives)
