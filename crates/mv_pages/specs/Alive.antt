-- What a node of a multiversion tree says at a key and a version.
use Rattle.std.specs.Prelude.{◌≡◌, ℕ, ◌%◌, ◌^◌, ◌<◌, ◌≤◌, ◌⊎◌, ◌==◌, ◌||◌, ◌&&◌, Bool, IsTrue, nat_lt, nat_le, if◌then◌else◌, cond, List, [], ◌∷◌, Option, Some, None, filter, sum_by, take, drop}
use Rattle.std.specs.List.{All}
use Rattle.page_layout.specs.Entries.{AreInOrder}
use Rattle.page_layout.specs.MvNode.{mv_keeps, mv_precedes}
use Rattle.page_layout.specs.declared.mv_node.MvNode.{MvNode}
use Rattle.page_layout.specs.declared.mv_node.MvEntry.{MvEntry}

-- the entry has started at the version, and is not closed there
abbrev pub is_alive : ℕ → MvEntry → Bool
is_alive version e = nat_le e.start version && (nat_lt version e.end || e.end == 4294967295)

-- the entries that are alive at the version, in their order
abbrev pub alive_at : List MvEntry → ℕ → List MvEntry
alive_at entries version = filter (is_alive version) entries

-- the entry is alive at the version, and begins at or below the key
abbrev pub reaches : ℕ → ℕ → MvEntry → Bool
reaches key version e = nat_le e.low key && is_alive version e

-- what the entry counts for at the key and version
abbrev pub counted : ℕ → ℕ → MvEntry → ℕ
counted key version e = cond (reaches key version e) e.value 0

-- the total of the values of the entries that reach the key at the version
abbrev pub value_of : List MvEntry → ℕ → ℕ → ℕ
value_of entries key version = sum_by (λ e. counted key version e) entries

-- the value of a node at a key and a version, without what stands below it
abbrev pub node_value : MvNode → ℕ → ℕ → ℕ
node_value node key version = value_of node.entries.items key version % 2 ^ 128

-- the second answer where there is one, else the first
abbrev pub or_later : {X : Type 0} → Option X → Option X → Option X
or_later first None = first
or_later first (Some x) = Some x

-- the child of an entry, where it reaches the key at the version
abbrev pub child_reached : ℕ → ℕ → MvEntry → Option ℕ
child_reached key version e = cond (reaches key version e) (Some e.child) None

-- the last of the entries that reach the key at the version, if any: it is the one of the greatest low,
-- since entries ascend
abbrev pub path_entry : List MvEntry → ℕ → ℕ → Option MvEntry
path_entry [] key version = None
path_entry (e ∷ entries) key version = or_later (cond (reaches key version e) (Some e) None) (path_entry entries key version)

-- the child of the last of the entries that reach the key at the version, if any
abbrev pub path_child : List MvEntry → ℕ → ℕ → Option ℕ
path_child [] key version = None
path_child (e ∷ entries) key version = or_later (child_reached key version e) (path_child entries key version)

-- the child to which a node leads: a leaf leads to none
abbrev pub child_of : MvNode → ℕ → ℕ → Option ℕ
child_of node key version = if node.level == 1 then None else path_child node.entries.items key version

-- the entry is alive at the version, and begins above the key
abbrev pub is_beyond : ℕ → ℕ → MvEntry → Bool
is_beyond key version e = nat_lt key e.low && is_alive version e

-- the first entry that is alive at the version and begins above the key, if any
abbrev pub next_entry : List MvEntry → ℕ → ℕ → Option MvEntry
next_entry [] key version = None
next_entry (e ∷ entries) key version = cond (is_beyond key version e) (Some e) (next_entry entries key version)

-- the entry is alive at the version, and begins at the low
abbrev pub is_alive_from : ℕ → ℕ → MvEntry → Bool
is_alive_from version low e = e.low == low && is_alive version e

-- The first entries, so many of them, begin at or below the key, and all others above it.
pub record IsBegunCount (entries : List MvEntry) (key count : ℕ) : Type 0 where
  pub below : All (λ e. e.low ≤ key) (take count entries)
  pub above : All (λ e. key < e.low) (drop count entries)

-- 1 for an entry that is alive at the version and begins at the low
abbrev pub alive_one : ℕ → ℕ → MvEntry → ℕ
alive_one version low e = cond (is_alive_from version low e) 1 0

-- how many of the entries are alive at the version and begin at the low
abbrev pub alive_count : List MvEntry → ℕ → ℕ → ℕ
alive_count entries version low = sum_by (alive_one version low) entries

-- Each entry keeps the rule of one in a node of the level, and they ascend strictly by low and then start.
abbrev pub AreEntriesOf : ℕ → List MvEntry → Type 0
AreEntriesOf level entries = AreInOrder (λ e. IsTrue (mv_keeps level e)) (λ e next. IsTrue (mv_precedes e next)) entries

-- The entry starts at or before the version, and if it is closed, it ends there or before.
abbrev pub IsPastOf : ℕ → MvEntry → Type 0
IsPastOf version e = (e.start ≤ version) × ((e.end ≡ 4294967295) ⊎ (e.end ≤ version))

-- The entries may be changed at the version: none of them starts or is closed after it, and no two that
-- are alive at it begin at one low.
pub record IsChangeable (version : ℕ) (entries : List MvEntry) : Type 0 where
  pub last : version < 4294967295
  pub past : All (IsPastOf version) entries
  pub once : (low : ℕ) → alive_count entries version low ≤ 1

-- what an addition at a low and a version adds at a key and a version
abbrev pub added : ℕ → ℕ → ℕ → ℕ → ℕ → ℕ
added low from value key version = cond (nat_le low key && nat_le from version) value 0

-- what an addition to an entry, where there is one, adds at a key and a version
abbrev pub value_above : Option MvEntry → ℕ → ℕ → ℕ → ℕ → ℕ
value_above None from value key version = 0
value_above (Some e) from value key version = added e.low from value key version
