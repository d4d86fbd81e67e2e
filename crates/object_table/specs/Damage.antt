-- What a call on an object table may find damaged.
use Rattle.std.specs.Prelude.{◌≡◌, ◌≢◌, ℕ, zero, suc, ◌⊎◌, ◌<◌, ◌≤◌, ◌^◌, List, ◌∷◌, ◌++◌, length, map, Contains}
use Rattle.std.specs.List.{All}
use Rattle.bw_types.specs.declared.dated.Dated.{Dated}
use Rattle.bw_types.specs.declared.tree.Tree.{Tree}
use Rattle.ports.specs.Pages.{PageMap}
use Rattle.page_layout.specs.Damage.{IsDamagedBelow, NothingBeside}
use Rattle.page_layout.specs.Footprint.{IsNamedTwice}
use Rattle.page_layout.specs.declared.life_node.LifeNode.{LifeNode}
use Rattle.page_layout.specs.declared.life_node.LifeEntry.{LifeEntry}
use Rattle.object_table.specs.declared.form.Form.{Form}
use Rattle.object_table.specs.declared.place.Place.{Place}
use Rattle.object_table.specs.declared.form.Form.TheVariants.{ByLives}
use Rattle.object_table.specs.Edits.{CanWithdraw}
use Rattle.object_table.specs.Keys.{key, low_key, key_end, greatest_key}
use Rattle.object_table.specs.Nodes.{FitsLevel, objects_in, entries_in, objects_on, entries_on}
use Rattle.object_table.specs.Lives.{table_pages}
use Rattle.object_table.specs.Stands.{first_low}

-- The node keeps to the place: its keys and lows lie within it; in an index node one of the lows is at or
-- below the key sought.
pub record IsInPlace (level : ℕ) (place : Place) (node : LifeNode) : Type 0 where
  pub from : All (λ d. place.low ≤ key d) (objects_in node)
  pub ends : All (λ d. key d < place.high) (objects_in node)
  pub begin : All (λ e. place.low ≤ low_key e) (entries_in node)
  pub below : All (λ e. low_key e < place.high) (entries_in node)
  pub leads : (level ≡ 1) ⊎ (first_low (entries_in node) place.high ≤ place.sought)

-- The bytes spell a node of this level that keeps to the place.
pub record FitsPlace (form : Form) (level : ℕ) (place : Place) (node : LifeNode) (bytes : List ℕ) : Type 0 where
  pub fits : FitsLevel form level node bytes
  pub admitted : IsInPlace level place node

-- The path of the key goes by the entry `at`: it is the last that begins at or below the key.
pub record GoesBy (entries before : List LifeEntry) (at : LifeEntry) (after : List LifeEntry) (sought : ℕ) : Type 0 where
  pub whole : entries ≡ before ++ (at ∷ after)
  pub begun : All (λ e. low_key e ≤ sought) before
  pub here : low_key at ≤ sought
  pub later : All (λ e. sought < low_key e) after

-- The place is that of the entry's child, for the key `from`.
pub record IsPlaceOf (inner : Place) (e : LifeEntry) (after : List LifeEntry) (end from : ℕ) : Type 0 where
  pub low : inner.low ≡ low_key e
  pub high : inner.high ≡ first_low after end
  pub sought : inner.sought ≡ from

-- The node leads a call on to the child for the key sought.
abbrev pub LeadsTo : Place → LifeNode → ℕ → Place → Type 0
LeadsTo place node child inner =
    (before : List LifeEntry) × (at : LifeEntry) × (after : List LifeEntry)
    × GoesBy (entries_in node) before at after place.sought × (child ≡ at.child) × IsPlaceOf inner at after place.high place.sought

-- The node leads a call on to the child after that for the key sought, from where that one begins.
abbrev pub LeadsPast : Place → LifeNode → ℕ → Place → Type 0
LeadsPast place node child inner =
    (before : List LifeEntry) × (at : LifeEntry) × (next : LifeEntry) × (after : List LifeEntry)
    × GoesBy (entries_in node) before at (next ∷ after) place.sought × (child ≡ next.child) × IsPlaceOf inner next after place.high (low_key next)

-- The node leads a walk on.
abbrev pub LeadsOn : Place → LifeNode → ℕ → Place → Type 0
LeadsOn place node child inner = LeadsTo place node child inner ⊎ LeadsPast place node child inner

-- the place of the root for a key
abbrev pub root_place : ℕ → Place
root_place sought = record { low = 0; high = key_end; sought = sought }

-- The page is the first on the way from the root to a key that holds no fitting node.
abbrev pub IsDamagedOnPath : Form → PageMap → Tree → ℕ → ℕ → Type 0
IsDamagedOnPath form pages table sought damaged =
    IsDamagedBelow (FitsPlace form) LeadsTo NothingBeside pages table.levels (root_place sought) table.root damaged

-- The page is the first on the way of a walk from a key on that holds no fitting node.
abbrev pub IsDamagedOnWalk : Form → PageMap → Tree → ℕ → ℕ → Type 0
IsDamagedOnWalk form pages table sought damaged =
    IsDamagedBelow (FitsPlace form) LeadsOn NothingBeside pages table.levels (root_place sought) table.root damaged

-- The page is one of those from this page of the level down that holds no node of its level.
abbrev pub IsDamagedFrom : Form → PageMap → ℕ → ℕ → ℕ → Type 0
IsDamagedFrom form pages level page damaged =
    IsDamagedBelow {N = LifeNode} {P = Unit {0}} (λ level _ node bytes. FitsLevel form level node bytes)
    (λ _ node child _. Contains (map (λ (e : LifeEntry). e.child) (entries_in node)) child) NothingBeside pages level tt page damaged

-- What freeing a table may call damaged: a page that holds no node of its level, or one that is named twice, so
-- that it is gone when it is reached again.
abbrev pub IsDamagedForFree : Form → PageMap → Tree → ℕ → Type 0
IsDamagedForFree form pages table damaged =
    IsDamagedFrom form pages table.levels table.root damaged ⊎ IsNamedTwice (table_pages form pages table) damaged

-- The bytes spell a node of this level that keeps to the place; of a leaf the objects are as asked.
pub record FitsAsked (asked : List Dated → Type 0) (form : Form) (level : ℕ) (place : Place) (node : LifeNode) (bytes : List ℕ) : Type 0 where
  pub fits : FitsPlace form level place node bytes
  pub leaf : level ≡ 1 → asked (objects_in node)

-- The page is the first on the way from the root to a key that holds no fitting node, or the leaf there, of
-- which the objects are not as asked.
abbrev pub IsDamagedIfNot : (List Dated → Type 0) → PageMap → Tree → ℕ → ℕ → Type 0
IsDamagedIfNot asked pages table sought damaged =
    IsDamagedBelow (FitsAsked asked ByLives) LeadsTo NothingBeside pages table.levels (root_place sought) table.root damaged

-- None of the objects has the key.
abbrev pub HaveNot : ℕ → List Dated → Type 0
HaveNot k objects = All (λ d. key d ≢ k) objects

-- Entering an object of this key would split the page: each node on the way down is full.
abbrev pub IsFullBelow : ℕ → PageMap → ℕ → ℕ → Type 0
IsFullBelow zero pages page sought = ⊥
IsFullBelow (suc zero) pages page sought = length (objects_on ByLives pages page) ≡ 14
IsFullBelow (suc (suc level)) pages page sought =
    (length (entries_on ByLives pages page) ≡ 200)
    × ((before : List LifeEntry) × (at : LifeEntry) × (after : List LifeEntry) × GoesBy (entries_on ByLives pages page) before at after sought
    × IsFullBelow (suc level) pages at.child sought)

-- What entering may call damaged: a page on its way, or a leaf there that has the key; the root of a table
-- of 2^28 objects or more; the root of a table of 16 levels that would have to split; any page where the
-- free pages are not in order.
abbrev pub IsDamagedForEnter : PageMap → Type 0 → Tree → Dated → ℕ → Type 0
IsDamagedForEnter pages free_in_order table dated damaged =
    IsDamagedIfNot (HaveNot (key dated)) pages table (key dated) damaged
    ⊎ ((damaged ≡ table.root) × (2 ^ 28 ≤ table.count))
    ⊎ ((damaged ≡ table.root) × (table.levels ≡ 16) × IsFullBelow 16 pages table.root (key dated))
    ⊎ (¬ free_in_order)

-- What marking a withdrawal may call damaged: a page on its way, or a leaf there without a last life of the
-- id that can be withdrawn in the version; the root of a table without pages.
abbrev pub IsDamagedForMark : PageMap → Tree → ℕ → ℕ → ℕ → Type 0
IsDamagedForMark pages table id version damaged =
    IsDamagedIfNot (CanWithdraw id version) pages table (greatest_key id) damaged
    ⊎ ((damaged ≡ table.root) × (table.levels ≡ 0))
