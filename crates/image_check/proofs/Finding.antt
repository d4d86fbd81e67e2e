-- What is found in the space of a disk, part by part, tells which parts are there.
use Rattle.std.proofs.Common.{◌≡◌, ℕ, List, ◌++◌, length, sym, subst, ◌∙◌, IsPermutation}
use Rattle.std.specs.List.{All}
use Rattle.std.proofs.lemmas.List.Sorted.{IsPermutation-sym}
use Rattle.bw_types.specs.History.{History}
use Rattle.bw_types.specs.Lives.{lives}
use Rattle.bw_types.specs.declared.dated.Dated.{Dated}
use Rattle.bw_types.specs.declared.params.Params.{Params}
use Rattle.bw_types.specs.declared.point.Point.{Point}
use Rattle.bw_types.specs.declared.tree.Tree.{Tree}
use Rattle.page_disk.specs.Image.{Image, PageList, page_at}
use Rattle.ports.specs.Pages.{PageMap}
use Rattle.page_layout.specs.Footprint.{NamesNoneTwice}
use Rattle.page_layout.specs.declared.meta.Meta.{Meta}
use Rattle.redo_journal.specs.Settled.{SettlesTo}
use Rattle.page_space.specs.Chain.{FreeInOrder}
use Rattle.page_space.specs.Laws.{HoldsOne, HoldsOrder}
use Rattle.page_space.specs.Space.{HoldsSpace}
use Rattle.object_table.specs.Lives.{table_pages}
use Rattle.object_table.specs.Stands.{TableStands}
use Rattle.history_laws.specs.Entries.{entries_of}
use Rattle.dom_index.specs.declared.index.DomIndex.{Ghosts}
use Rattle.corner_forest.specs.Entries.{root_count}
use Rattle.corner_forest.specs.Stands.{forest_pages}
use Rattle.page_warehouse.specs.Holds.{Holds, TableKeeps, TreesStand, table_form}
use Rattle.image_check.specs.Judging.{IsKept}
use Rattle.image_check.specs.Telling.{IsToldBy}
use Rattle.image_check.specs.Parts as parts
use Rattle.image_check.specs.Trees.{TreesAreSound}
use Rattle.image_check.proofs.AnyOrder.{forest_in_any_order}
use Rattle.image_check.proofs.SameSpace.{as_found, unordered}

-- where each life is its id's first
abbrev AreFirst : Meta → List Dated → Type 0
AreFirst meta found = meta.lives ≡ 0 → All (λ d. d.life ≡ 1) found

module _ (x : Image) (params : Params) (meta : Meta) (map : PageMap) (in_order : Type 0)
    (space : HoldsSpace x params meta map in_order) (roots : length meta.roots.items ≡ root_count params) where
  roots_of : parts.AreRoots x params meta map
  roots_of = record { space = unordered x params meta map in_order space; roots = roots }

  pub has_roots : parts.HasRoots x
  has_roots = (params, meta, map, roots_of)

  pub has_table : (found : List Dated) (h : History) → TableStands (table_form meta) map meta.table found → IsToldBy h found meta.version → parts.HasTable x
  has_table found h table told = (params, meta, map, found, h, record { roots = roots_of; table = table; told = told })

  pub has_history : (found : List Dated) (h : History) → TableStands (table_form meta) map meta.table found → IsToldBy h found meta.version → IsKept params meta found h
      → AreFirst meta found → parts.HasHistory x
  has_history found h table told kept first = (params, meta, map, found, h, record { table = record { roots = roots_of; table = table; told = told }; kept = kept; first = first })

  pub no_table : HoldsOne → ((found : List Dated) (h : History) → TableStands (table_form meta) map meta.table found → IsToldBy h found meta.version → ⊥) → parts.HasTable x → ⊥
  no_table one none t =
      let here = as_found one x params t.0 meta t.1 map t.2 (unordered x params meta map in_order space) t.5.roots.space
      (λ p m k. TableStands (table_form m) k m.table t.3 × IsToldBy t.4 t.3 m.version) (t.5.table, t.5.told) in
      none t.3 t.4 here.0 here.1

  pub no_history : HoldsOne → ((found : List Dated) (h : History) → TableStands (table_form meta) map meta.table found → IsKept params meta found h → AreFirst meta found → ⊥) → parts.HasHistory x → ⊥
  no_history one none t =
      let here = as_found one x params t.0 meta t.1 map t.2 (unordered x params meta map in_order space) t.5.table.roots.space
      (λ p m k. TableStands (table_form m) k m.table t.3 × IsKept p m t.3 t.4 × AreFirst m t.3) (t.5.table.table, t.5.kept, t.5.first) in
      none t.3 t.4 here.0 here.1 here.2

  -- a table keeps one list
  one_list : (found others : List Dated) → TableStands (table_form meta) map meta.table found → TableStands (table_form meta) map meta.table others → found ≡ others
  one_list found others a b = sym a.has ∙ b.has

  pub no_other_list : (found : List Dated) → TableStands (table_form meta) map meta.table found → (P : List Dated → Type 0) → (P found → ⊥)
      → (others : List Dated) → TableStands (table_form meta) map meta.table others → P others → ⊥
  no_other_list found table P never others table' p = never (subst P (sym (one_list found others table table')) p)

  module _ {X : Type 0} (g : Ghosts X)
      (any : (pages : PageMap) (dims : ℕ) (tree : Tree) (points others : List Point) → g.stands pages dims tree points → IsPermutation points others → g.stands pages dims tree others)
      (found : List Dated) (table : TableStands (table_form meta) map meta.table found) where
    -- The disk holds the history of which the lives are, where the trees are sound.
    pub holds_by : (h : History) → IsKept params meta found h → AreFirst meta found → TreesAreSound g params meta map in_order (entries_of found) → Holds g x params h
    holds_by h kept first sound = record {
      meta = meta;
      pages = map;
      space = record {
        pages = space.pages;
        settled = space.settled;
        space = record {
          superblock = space.space.superblock;
          roots = space.space.roots;
          there = space.space.there;
          few = space.space.few;
          in_use = space.space.in_use;
          in_order = λ yes. space.space.in_order sound.free;
        };
      };
      tells = kept.tells;
      lawful = kept.lawful;
      weights = kept.weights;
      table = record { kept = found; stands = table; all = kept.all; first = first };
      trees = record {
        dims = sound.dims;
        forest = forest_in_any_order g any map params meta.roots.items found (lives h) kept.all sound.forest;
        balanced = sound.balanced;
      };
      apart = sound.apart;
    }

    -- And nothing else can be held where they are not.
    pub holds_none : HoldsOne → HoldsOrder → (pages : PageList) → SettlesTo x pages → (FreeInOrder (page_at pages) meta.allotted meta.free → in_order)
        → (TreesAreSound g params meta map in_order (entries_of found) → ⊥) → parts.HoldsOne g x → ⊥
    holds_none one order pages settles ordered never held =
        let it : Holds g x held.0 held.1 = held.2 in
        let here = as_found one x params held.0 meta it.meta map it.pages (unordered x params meta map in_order space) (unordered x held.0 it.meta it.pages (Unit {0}) it.space)
        (λ p m k. TableKeeps k m held.1 × TreesStand g p k m.roots.items held.1
        × NamesNoneTwice (table_pages (table_form m) k m.table ++ forest_pages g k p m.roots.items) × HoldsSpace x p m k (Unit {0}))
        (it.table, it.trees, it.apart, it.space) in
        let kept : IsPermutation found (lives held.1) = subst (λ (ds : List Dated). IsPermutation ds (lives held.1)) (one_list here.0.kept found here.0.stands table) here.0.all in
        never (record {
          dims = here.1.dims;
          forest = forest_in_any_order g any map params meta.roots.items (lives held.1) found (IsPermutation-sym found (lives held.1) kept) here.1.forest;
          balanced = here.1.balanced;
          apart = here.2;
          free = ordered (order x pages params meta map here.3 settles);
        })
