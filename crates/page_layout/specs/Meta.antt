-- The meta page.
use Rattle.std.specs.Prelude.{ℕ, ◌<◌, ◌≤◌, ◌^◌, ◌++◌, min, List, ◌∷◌, length, drop, slice_index, IsTrue}
use Rattle.std.specs.List.{flat_map, All}
use Rattle.bw_types.specs.declared.tree.Tree.{Tree}
use Rattle.page_layout.specs.Numbers.{spelled, number_in, padded}
use Rattle.page_layout.specs.Entries.{entries_at}
use Rattle.page_layout.specs.FreePage.{next_fits}
use Rattle.page_layout.specs.TreeValue.{tree_bytes, tree_at, IsTreeTyped, tree_fits, plain_tree_fits}
use Rattle.page_layout.specs.declared.meta.Meta.{Meta}

-- What a meta page is: one of the two forms of the table, a first free page where there is one, at least the three pages that each warehouse has, a table, and at most 96 roots.
pub record IsMeta (meta : Meta) : Type 0 where
  pub lives : meta.lives ≤ 1
  pub allotted : 3 ≤ meta.allotted
  pub free : IsTrue (next_fits meta.free)
  pub table : IsTrue (plain_tree_fits meta.table)
  pub few : length meta.roots.items ≤ 96
  pub roots : All (λ t. IsTrue (tree_fits t)) meta.roots.items

-- The numbers are those of their types.
pub record IsTyped (meta : Meta) : Type 0 where
  pub version : meta.version < 2 ^ 32
  pub events : meta.events < 2 ^ 32
  pub rows : meta.rows < 2 ^ 32
  pub allotted : meta.allotted < 2 ^ 64
  pub free : meta.free < 2 ^ 64
  pub mass : meta.mass < 2 ^ 128
  pub table : IsTreeTyped meta.table
  pub roots : All IsTreeTyped meta.roots.items

-- the first 48 bytes: the kind, the form of the table and the counts
abbrev pub count_bytes : Meta → List ℕ
count_bytes meta = 7 ∷ meta.lives ∷ 0 ∷ 0 ∷ (spelled 4 meta.version ++ (spelled 4 meta.events ++ (spelled 4 meta.rows ++ (spelled 8 meta.allotted ++ (spelled 8 meta.free ++ spelled 16 meta.mass)))))

-- the rest: the table, the number of roots and the roots
abbrev pub root_bytes : Meta → List ℕ
root_bytes meta = tree_bytes meta.table ++ (spelled 4 (length meta.roots.items) ++ flat_map tree_bytes meta.roots.items)

-- the page that the meta page is spelled by
abbrev pub meta_page : Meta → List ℕ
meta_page meta = padded (count_bytes meta ++ root_bytes meta)

-- how many roots a page may spell, at most 96
abbrev pub root_count : List ℕ → ℕ
root_count page = min (number_in 4 (drop 76 page)) 96

-- the roots that a page may spell
abbrev pub roots_of : List ℕ → List Tree
roots_of page = entries_at tree_at 28 (root_count page) (drop 80 page)

-- the meta page that a page may spell
abbrev pub meta_in : List ℕ → Meta
meta_in page = record {
  lives = slice_index page 1;
  version = number_in 4 (drop 4 page);
  events = number_in 4 (drop 8 page);
  rows = number_in 4 (drop 12 page);
  allotted = number_in 8 (drop 16 page);
  free = number_in 8 (drop 24 page);
  mass = number_in 16 (drop 32 page);
  table = tree_at (drop 48 page);
  roots = record { items = roots_of page };
}
