-- What a disk holds when the changes of a batch are committed.
use Rattle.std.proofs.Common.{◌≡◌, ℕ, ◌+◌, ◌*◌, ◌≤◌, ◌==◌, Bool, true, false, List, [], ◌∷◌, ◌++◌, length, IsPermutation, if◌then◌else◌, inl, inr, refl, sym, ◌∙◌, ap, subst, arith, length-append}
use Rattle.std.specs.List.{All}
use Rattle.std.proofs.lemmas.Grind.{flat_map-append}
use Rattle.std.proofs.lemmas.List.{append-nil}
use Rattle.std.proofs.lemmas.List.Elements.{All-append}
use Rattle.std.proofs.lemmas.List.Sums.{sum_by-append}
use Rattle.bw_types.specs.History.{History, changes, last_version}
use Rattle.bw_types.specs.Lawful.{IsLawful}
use Rattle.bw_types.specs.Lives.{lives}
use Rattle.bw_types.specs.Refusals.{added_mass, total_mass}
use Rattle.bw_types.specs.declared.change.Change.{Change}
use Rattle.bw_types.specs.declared.dated.Dated.{Dated}
use Rattle.bw_types.specs.declared.params.Params.{Params}
use Rattle.bw_types.specs.declared.tree.Tree.{Tree}
use Rattle.page_disk.specs.Image.{Image, PageList, page_at}
use Rattle.page_disk.specs.Moment.{Moment}
use Rattle.page_disk.specs.Since.{LeavesOnly}
use Rattle.page_layout.specs.Footprint.{NamesNoneTwice}
use Rattle.page_layout.specs.Meta.{meta_in, meta_page}
use Rattle.page_layout.specs.MetaLaws.{meta_in-page}
use Rattle.page_layout.specs.declared.meta.Meta.{Meta}
use Rattle.ports.specs.Pages.{PageMap}
use Rattle.redo_journal.specs.Settled.{SettlesTo, SettlesToOne}
use Rattle.page_space.specs.Space.{HoldsSpace}
use Rattle.object_table.specs.Lives.{table_pages}
use Rattle.object_table.specs.Stands.{TableStands}
use Rattle.object_table.specs.declared.form.Form.{Form}
use Rattle.object_table.specs.declared.form.Form.TheVariants.{ByIds, ByLives}
use Rattle.dom_index.specs.declared.index.DomIndex.{Ghosts}
use Rattle.corner_forest.specs.Stands.{AreBalanced, ForestStands, forest_pages}
use Rattle.history_laws.specs.Entries.{history_entries}
use Rattle.history_laws.specs.Bounds.{HasSmallWeight}
use Rattle.page_warehouse.specs.Begun.{with_changes}
use Rattle.page_warehouse.specs.Entering.{FormKeeps, PagesKeep}
use Rattle.page_warehouse.specs.Holds.{Holds, TellsOf, table_form}
use Rattle.page_warehouse.specs.Needs.{meta_charge, old_objects}
use Rattle.page_warehouse.specs.NextMeta.{IsNextMeta}
use Rattle.page_warehouse.specs.declared.drafting.Counts.{Counts}
use Rattle.page_warehouse.specs.declared.roots.Roots.{Roots}
use Rattle.page_warehouse.proofs.Here.{Here}
use Rattle.page_warehouse.proofs.Next.{changes_so_far}

-- what held at every moment holds weakened
pub weakened : (P Q : Image → Type 0) (old new : List Moment) → ((x : Image) → P x → Q x) → LeavesOnly P old new → LeavesOnly Q old new
weakened P Q old new f h = record {
  later = h.later;
  each = λ t x le left. elim (h.each t x le left) [
    | inl before ↦ inl before
    | inr p ↦ inr (f x p)
  ];
}

pub unchanged : (Q : Image → Type 0) (old new : List Moment) → new ≡ old → LeavesOnly Q old new
unchanged Q old new same = subst (λ (m : List Moment). LeavesOnly Q old m) (sym same) (record { later = omega arith; each = λ t x le left. inl left })

-- a space whose free pages are in order
pub ordered : (x : Image) (params : Params) (meta : Meta) (map : PageMap) (order : Type 0) → order → HoldsSpace x params meta map order → HoldsSpace x params meta map (Unit {0})
ordered x params meta map order is h = record {
  pages = h.pages;
  settled = h.settled;
  space = record {
    superblock = h.space.superblock;
    roots = h.space.roots;
    there = h.space.there;
    few = h.space.few;
    in_use = h.space.in_use;
    in_order = λ _. h.space.in_order is;
  };
}

module _ {X : Type 0} (g : Ghosts X) where
  pub held_of : (x : Image) (params : Params) (meta : Meta) (map : PageMap) (h : History) → Here g params meta map h → HoldsSpace x params meta map (Unit {0}) → Holds g x params h
  held_of x params meta map h now space = record {
    meta = meta;
    pages = map;
    space = space;
    tells = now.tells;
    lawful = now.lawful;
    weights = now.weights;
    table = now.table;
    trees = now.trees;
    apart = now.apart;
  }

  form_keeps : (b : Bool) (map : PageMap) (roots : Roots) (h : History) (kept : List Dated) → TableStands (if b then ByIds else ByLives) map roots.table kept → IsPermutation kept (lives h)
      → ForestStands g map roots.forest.params roots.forest.roots.items (history_entries h) → AreBalanced g map roots.forest.params roots.forest.roots.items
      → NamesNoneTwice (table_pages (if b then ByIds else ByLives) map roots.table ++ forest_pages g map roots.forest.params roots.forest.roots.items) → FormKeeps g b map roots h
  form_keeps true map roots h kept stands all forest balanced apart = record { kept = kept; stands = stands; all = all; forest = forest; balanced = balanced; apart = apart }
  form_keeps false map roots h kept stands all forest balanced apart = record { kept = kept; stands = stands; all = all; forest = forest; balanced = balanced; apart = apart }

  -- the pages of the space keep the history, in the form that the meta page tells
  pub form_here : (params : Params) (meta : Meta) (map : PageMap) (h : History) → Here g params meta map h → (by_ids : Bool) (roots : Roots) → by_ids ≡ (meta.lives == 0) → roots.table ≡ meta.table
      → roots.forest.params ≡ params → roots.forest.roots.items ≡ meta.roots.items → FormKeeps g by_ids map roots h
  form_here params meta map h now by_ids roots form table same items =
      let stands = subst (λ (t : Tree). TableStands (table_form meta) map t now.table.kept) (sym table) now.table.stands in
      let forest = subst (λ (l : List Tree). ForestStands g map roots.forest.params l (history_entries h)) (sym items) (subst (λ (p : Params). ForestStands g map p meta.roots.items (history_entries h)) (sym same) now.trees.forest) in
      let balanced = subst (λ (l : List Tree). AreBalanced g map roots.forest.params l) (sym items) (subst (λ (p : Params). AreBalanced g map p meta.roots.items) (sym same) now.trees.balanced) in
      let apart = subst (λ (l : List Tree). NamesNoneTwice (table_pages (table_form meta) map roots.table ++ forest_pages g map roots.forest.params l)) (sym items)
      (subst (λ (p : Params). NamesNoneTwice (table_pages (table_form meta) map roots.table ++ forest_pages g map p meta.roots.items)) (sym same)
      (subst (λ (t : Tree). NamesNoneTwice (table_pages (table_form meta) map t ++ forest_pages g map params meta.roots.items)) (sym table) now.apart)) in
      subst (λ (b : Bool). FormKeeps g b map roots h) (sym form) (form_keeps (meta.lives == 0) map roots h now.table.kept stands now.table.all forest balanced apart)

  -- the numbers of the history with the batch
  pub tells_next : (params : Params) (meta next : Meta) (before : Counts) (roots : Roots) (h : History) (batch : List Change) → TellsOf params meta h → before.version ≡ meta.version → before.events ≡ meta.events
      → before.rows ≡ meta.rows → before.mass ≡ meta.mass → IsNextMeta before (length batch) (total_mass params batch) roots next → TellsOf params next (with_changes h batch)
  tells_next params meta next before roots h batch tells ver ev ro ma is =
      let many : length (changes (with_changes h batch)) ≡ length (changes h) + length batch = changes_so_far h batch in
      let longer : last_version (with_changes h batch) ≡ last_version h + 1 = length-append h (batch ∷ []) in
      let all : changes (with_changes h batch) ≡ changes h ++ batch = flat_map-append (λ (b : List Change). b) h (batch ∷ []) ∙ ap (λ (l : List Change). changes h ++ l) (append-nil batch) in
      let heavier : total_mass params (changes (with_changes h batch)) ≡ total_mass params (changes h) + total_mass params batch = ap (total_mass params) all ∙ sum_by-append (added_mass params) (changes h) batch in
      let v = tells.version in
      let e = tells.events in
      let r = tells.rows in
      let m = tells.mass in
      let nv = is.version in
      let ne = is.events in
      let nr = is.rows in
      let nm = is.mass in
      record {
        version = omega (arith, nv, ver, v, longer);
        events = omega (arith, ne, ev, e, many, longer);
        rows = omega (arith, nr, ro, r, many);
        mass = omega (arith, nm, ma, m, heavier);
      }

  pub weights_next : (h : History) (batch : List Change) → All HasSmallWeight (changes h) → All HasSmallWeight batch → All HasSmallWeight (changes (with_changes h batch))
  weights_next h batch old new =
      let all : changes (with_changes h batch) ≡ changes h ++ batch = flat_map-append (λ (b : List Change). b) h (batch ∷ []) ∙ ap (λ (l : List Change). changes h ++ l) (append-nil batch) in
      subst (λ (l : List Change). All HasSmallWeight l) (sym all) (All-append HasSmallWeight (changes h) batch old new)

  by_lives : (meta : Meta) → meta.lives ≡ 1 → table_form meta ≡ ByLives
  by_lives meta is = rw is refl

  -- the pages that were drafted hold the history with the batch
  pub here_then : (params : Params) (meta next : Meta) (before : Counts) (map after : PageMap) (roots : Roots) (h : History) (batch : List Change) → Here g params meta map h → params.dims ≤ g.DIMS
      → before.version ≡ meta.version → before.events ≡ meta.events → before.rows ≡ meta.rows → before.mass ≡ meta.mass
      → IsNextMeta before (length batch) (total_mass params batch) roots next → roots.forest.params ≡ params → PagesKeep g after roots (with_changes h batch) → IsLawful params (with_changes h batch) → All HasSmallWeight batch
      → Here g params next after (with_changes h batch)
  here_then params meta next before map after roots h batch now dims ver ev ro ma is same keep lawful small =
      let form : ByLives ≡ table_form next = sym (by_lives next is.lives) in
      let table : roots.table ≡ next.table = sym is.table in
      let items : roots.forest.roots.items ≡ next.roots.items = sym is.roots in
      record {
        tells = tells_next params meta next before roots h batch now.tells ver ev ro ma is;
        lawful = lawful;
        weights = weights_next h batch now.weights small;
        table = record {
          kept = keep.kept;
          stands = subst (λ (f : Form). TableStands f after next.table keep.kept) form (subst (λ (t : Tree). TableStands ByLives after t keep.kept) table keep.stands);
          all = keep.all;
          first = λ none. let one = is.lives in absurd (omega (arith, none, one));
        };
        trees = record {
          dims = dims;
          forest = subst (λ (l : List Tree). ForestStands g after params l (history_entries (with_changes h batch))) items (subst (λ (p : Params). ForestStands g after p roots.forest.roots.items (history_entries (with_changes h batch))) same keep.forest);
          balanced = subst (λ (l : List Tree). AreBalanced g after params l) items (subst (λ (p : Params). AreBalanced g after p roots.forest.roots.items) same keep.balanced);
        };
        apart = subst (λ (l : List Tree). NamesNoneTwice (table_pages (table_form next) after next.table ++ forest_pages g after params l)) items
            (subst (λ (p : Params). NamesNoneTwice (table_pages (table_form next) after next.table ++ forest_pages g after p roots.forest.roots.items)) same
            (subst (λ (t : Tree). NamesNoneTwice (table_pages (table_form next) after t ++ forest_pages g after roots.forest.params roots.forest.roots.items)) table
            (subst (λ (f : Form). NamesNoneTwice (table_pages f after roots.table ++ forest_pages g after roots.forest.params roots.forest.roots.items)) form keep.apart)));
      }

eight_times : (b : Bool) (n : ℕ) → (if b then 8 * n else 0) ≡ 8 * (if b then n else 0)
eight_times true n = refl
eight_times false n = refl

-- the meta page in its place is the one of the space
pub meta_is : SettlesToOne → (x : Image) (params : Params) (meta : Meta) (map : PageMap) (order : Type 0) → HoldsSpace x params meta map order → SettlesTo x x.pages → meta_in (page_at x.pages 2) ≡ meta
meta_is one x params meta map order held settles =
    let same : held.pages ≡ x.pages = one x held.pages x.pages held.settled settles in
    let spelled : page_at x.pages 2 ≡ meta_page meta = subst (λ (ps : PageList). page_at ps 2 ≡ meta_page meta) same held.space.roots.spelled in
    ap (λ (bytes : List ℕ). meta_in bytes) spelled ∙ meta_in-page meta held.space.roots.typed held.space.roots.rules

-- what counts against the limit before the batch
pub charge_before : (meta : Meta) (by_ids : Bool) (count : ℕ) → by_ids ≡ (meta.lives == 0) → count ≡ meta.table.count → meta.allotted + (if by_ids then 8 * count else 0) ≡ meta_charge meta
charge_before meta by_ids count form many =
    ap (λ (b : Bool). meta.allotted + (if b then 8 * count else 0)) form ∙ ap (λ (n : ℕ). meta.allotted + (if (meta.lives == 0) then 8 * n else 0)) many ∙ ap (λ (n : ℕ). meta.allotted + n) (eight_times (meta.lives == 0) meta.table.count)

pub charge_after : (meta : Meta) → meta.lives ≡ 1 → meta_charge meta ≡ meta.allotted
charge_after meta is = let none : old_objects meta ≡ 0 = rw is refl in omega (arith, none)
