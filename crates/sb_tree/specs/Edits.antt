-- How an addition changes the entries of a node.
use Rattle.std.specs.Prelude.{◌≡◌, ℕ, zero, suc, ◌%◌, ◌^◌, ◌<◌, ◌⊎◌, List, [], ◌∷◌, ◌++◌, take, drop, Option, Some, None}
use Rattle.std.specs.List.{All, sum_by}
pub use Rattle.page_layout.specs.SbNode.{raised_entry}
use Rattle.page_layout.specs.Summed as summed
use Rattle.page_layout.specs.declared.sb_node.SbEntry.{SbEntry}
use Rattle.sb_tree.specs.declared.second.Second.{Second}

-- the entries with so much more in the first, where there is one
abbrev pub raised_first : List SbEntry → ℕ → List SbEntry
raised_first entries more = summed.raised_first raised_entry entries more

-- a new entry of a leaf
abbrev pub leaf_entry : ℕ → ℕ → SbEntry
leaf_entry version value = record { low = version; value = value; child = 0 }

-- The leaf's entries take in an addition: the entry that begins at the version has so much more, or a
-- new entry stands between those that begin before it and after it.
abbrev pub TakesIn : List SbEntry → List SbEntry → ℕ → ℕ → Type 0
TakesIn old new version value =
    ((before : List SbEntry) × (at : SbEntry) × (after : List SbEntry) × (old ≡ before ++ (at ∷ after)) × (at.low ≡ version)
    × (new ≡ before ++ (raised_entry at value ∷ after)))
    ⊎ ((before : List SbEntry) × (after : List SbEntry) × (old ≡ before ++ after) × All (λ e. e.low < version) before × All (λ e. version < e.low) after
    × (new ≡ before ++ (leaf_entry version value ∷ after)))

-- the entry for the second page of a child that was split, where it was
abbrev pub second_entry : Option Second → List SbEntry
second_entry None = []
second_entry (Some second) = record { low = second.low; value = 0; child = second.page } ∷ []

-- the entries after an addition below the last of the first `begun`: the next one has so much more, and
-- the second page of a split stands before it
abbrev pub beside : List SbEntry → ℕ → ℕ → Option Second → List SbEntry
beside entries begun value second = take begun entries ++ (second_entry second ++ raised_first (drop begun entries) value)

-- the entries that stay in a node that is split
abbrev pub first_half : List SbEntry → List SbEntry
first_half entries = take 32 entries

-- the entries that go to the second page: the first of them takes on the values of those that stay
abbrev pub second_half : List SbEntry → List SbEntry
second_half entries = raised_first (drop 32 entries) (sum_by (λ e. e.value) (take 32 entries) % 2 ^ 128)

-- the entries of a leaf of one addition: before its version the value is 0
abbrev pub first_entries : ℕ → ℕ → List SbEntry
first_entries zero value = leaf_entry 0 value ∷ []
first_entries (suc version) value = leaf_entry 0 0 ∷ leaf_entry (suc version) value ∷ []

-- the entries of a root above two pages
abbrev pub root_entries : ℕ → Second → List SbEntry
root_entries first second = record { low = 0; value = 0; child = first } ∷ record { low = second.low; value = 0; child = second.page } ∷ []
