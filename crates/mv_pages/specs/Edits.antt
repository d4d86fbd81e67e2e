-- How a change of a node changes its entries.
use Rattle.std.specs.Prelude.{◌≡◌, ◌≢◌, ℕ, ◌+◌, ◌%◌, ◌^◌, ◌⊎◌, nat_lt, cond, List, [], ◌∷◌, ◌++◌, Option, Some, None}
use Rattle.std.specs.Prelude.{true, false, ◌<◌, ◌≤◌, ◌==◌, nat_le, length}
use Rattle.std.specs.List.{All}
use Rattle.page_layout.specs.declared.mv_node.MvEntry.{MvEntry}
use Rattle.mv_pages.specs.Alive.{reaches, is_alive_from, is_beyond}

-- the entry, closed at the version
abbrev pub closed : MvEntry → ℕ → MvEntry
closed e version = record { low = e.low; start = e.start; end = version; value = e.value; child = e.child }

-- an entry that begins at the low, starts at the version and is not closed
abbrev pub new_entry : ℕ → ℕ → ℕ → ℕ → MvEntry
new_entry low version value child = record { low = low; start = version; end = 4294967295; value = value; child = child }

-- what the entry becomes from the version on, where so much is added to it
abbrev pub raised : MvEntry → ℕ → ℕ → MvEntry
raised e version more = new_entry e.low version ((e.value + more) % 2 ^ 128) e.child

-- the entries with one put in: it stands before the first of a greater low
abbrev pub put_in : MvEntry → List MvEntry → List MvEntry
put_in entry [] = entry ∷ []
put_in entry (e ∷ entries) = cond (nat_lt entry.low e.low) (entry ∷ (e ∷ entries)) (e ∷ put_in entry entries)

-- The entry between others is changed at the version: where it starts there it is replaced, else it is
-- closed there and what it becomes is put in.
abbrev pub IsChanged : List MvEntry → MvEntry → List MvEntry → ℕ → MvEntry → List MvEntry → Type 0
IsChanged before e after version changed new =
    ((e.start ≡ version) × (new ≡ before ++ (changed ∷ after)))
    ⊎ ((e.start ≢ version) × (new ≡ put_in changed (before ++ (closed e version ∷ after))))

-- An addition at a low is taken in at the version: the entry that is alive there has so much more from the
-- version on, or where there is none, a new one is put in.
abbrev pub TakesIn : List MvEntry → List MvEntry → ℕ → ℕ → ℕ → Type 0
TakesIn old new low version value =
    ((before : List MvEntry) × (e : MvEntry) × (after : List MvEntry) × (old ≡ before ++ (e ∷ after)) × (is_alive_from version low e ≡ true)
    × IsChanged before e after version (raised e version value) new)
    ⊎ (All (λ e. is_alive_from version low e ≡ false) old × (new ≡ put_in (new_entry low version value 0) old))

-- The first entry that is alive at the version and begins above the key has so much more from the version
-- on; where there is none, nothing changes.
abbrev pub TakesAbove : List MvEntry → List MvEntry → ℕ → ℕ → ℕ → Type 0
TakesAbove old new key version value =
    ((before : List MvEntry) × (e : MvEntry) × (after : List MvEntry) × (old ≡ before ++ (e ∷ after)) × (is_beyond key version e ≡ true)
    × All (λ f. is_beyond key version f ≡ false) before × IsChanged before e after version (raised e version value) new)
    ⊎ (All (λ e. is_beyond key version e ≡ false) old × (new ≡ old))

-- the index of the last entry that reaches the key at the version, if any
abbrev pub IsPathIndex : List MvEntry → ℕ → ℕ → Option ℕ → Type 0
IsPathIndex entries key version None = All (λ e. reaches key version e ≡ false) entries
IsPathIndex entries key version (Some index) =
    (before : List MvEntry) × (e : MvEntry) × (after : List MvEntry) × (entries ≡ before ++ (e ∷ after)) × (length before ≡ index) × (reaches key version e ≡ true)
    × All (λ f. reaches key version f ≡ false) after

-- The last entry that reaches the key at the version leads to the child from the version on.
abbrev pub LeadsAnew : List MvEntry → List MvEntry → ℕ → ℕ → ℕ → Type 0
LeadsAnew old new key version child =
    (before : List MvEntry) × (e : MvEntry) × (after : List MvEntry) × (old ≡ before ++ (e ∷ after)) × (reaches key version e ≡ true)
    × All (λ f. reaches key version f ≡ false) after × IsChanged before e after version (new_entry e.low version e.value child) new

-- a key, and the page from there on
abbrev pub Cut : Type 0
Cut = ℕ × ℕ

-- the entries with one put in for the second page, from the cut on
abbrev pub with_second : ℕ → Option Cut → List MvEntry → List MvEntry
with_second version None entries = entries
with_second version (Some second) entries = put_in (new_entry second.0 version 0 second.1) entries

-- The last entry that reaches the key at the version leads to the child from the version on, and an entry is put in for the
-- second page, where there is one.
abbrev pub LeadsOn : List MvEntry → List MvEntry → ℕ → ℕ → ℕ → Option Cut → Type 0
LeadsOn old new key version child second =
    (led : List MvEntry) × LeadsAnew old led key version child × (new ≡ with_second version second led)

-- The key is at or above where the entry begins, and there is one.
abbrev pub BeginsBy : Option MvEntry → ℕ → Type 0
BeginsBy None key = ⊥
BeginsBy (Some e) key = e.low ≤ key

-- The key is below where the entry begins, if there is one.
abbrev pub EndsAfter : Option MvEntry → ℕ → Type 0
EndsAfter None key = Unit {0}
EndsAfter (Some e) key = key < e.low

-- The key is above where the entry begins, and there is one.
abbrev pub BeginsBelow : Option MvEntry → ℕ → Type 0
BeginsBelow None key = ⊥
BeginsBelow (Some e) key = e.low < key

-- The second page can be named, and its cut lies above where the path's entry begins, and below where the
-- next one does.
abbrev pub CutsWithin : Option MvEntry → Option MvEntry → Option Cut → Type 0
CutsWithin path next None = Unit {0}
CutsWithin path next (Some second) = (3 ≤ second.1) × BeginsBelow path second.0 × EndsAfter next second.0

-- the page for a key: the second one from its cut on
abbrev pub page_for : ℕ → Option Cut → ℕ → ℕ
page_for child None key = child
page_for child (Some second) key = cond (nat_le second.0 key) second.1 child

-- how many are alive at a low, with one more at the cut
abbrev pub count_with : Option Cut → ℕ → ℕ → ℕ
count_with None low count = count
count_with (Some second) low count = cond (low == second.0) 1 count

-- what is true of the cut, where there is one
abbrev pub OfCut : Option Cut → (ℕ → Type 0) → Type 0
OfCut None P = Unit {0}
OfCut (Some second) P = P second.0
