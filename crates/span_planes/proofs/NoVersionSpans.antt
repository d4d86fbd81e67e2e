-- A disk that holds spans of no version, and those of the empty history.
use Rattle.std.proofs.Common.{◌≡◌, ◌==◌, ◌&&◌, ℕ, suc, ◌≤◌, ◌^◌, nat_le, Bool, false, if◌then◌else◌, IsTrue, List, [], ◌∷◌, length, take, drop, replicate, inl, inr, refl, sym, ◌∙◌, ap, subst, arith}
use Rattle.std.proofs.lemmas.Bool.{leb-true}
use Rattle.std.proofs.lemmas.Bool.Decides.{Decides-eqb, eqb_tells}
use Rattle.std.proofs.lemmas.List.{length-replicate, take-append-drop}
use Rattle.std.proofs.lemmas.List.Elements.{All-append, All-cons, All-drop, All-head, All-nil, All-tail, All-take}
use Rattle.std.specs.List.{All}
use Rattle.bw_types.specs.Empty.{empty_tree}
use Rattle.bw_types.specs.Fits.{IsInRange}
use Rattle.bw_types.specs.declared.params.Params.{Params}
use Rattle.bw_types.specs.declared.point.Point.{Point}
use Rattle.bw_types.specs.declared.tree.Tree.{Tree}
use Rattle.page_disk.specs.Image.{Image}
use Rattle.page_layout.specs.Footprint.{NamesNoneTwice}
use Rattle.page_layout.specs.TreeValue.{both_true, has_pages, is_all_zero, tree_fits}
use Rattle.page_layout.specs.declared.meta.Meta.{Meta}
use Rattle.ports.specs.Pages.{PageMap, empty_map}
use Rattle.page_space.specs.Laws.{CreatedHolds}
use Rattle.page_space.specs.Opening.{StandsAlike}
use Rattle.page_space.specs.Space.{HoldsSpace}
use Rattle.redo_journal.specs.Gates.{is_empty}
use Rattle.redo_journal.specs.Settled.{SettlesTo}
use Rattle.dom_index.specs.declared.index.DomIndex.{Ghosts}
use Rattle.corner_forest.specs.Entries.{corner_count}
use Rattle.corner_forest.specs.Trees.{EachStands, trees_pages}
use Rattle.history_laws.specs.Bounds.{HasSmallWeight}
use Rattle.span_planes.specs.Made.{HoldsNoVersion, IsNew, new_meta}
use Rattle.span_planes.specs.Readied.{TellNoVersion}
use Rattle.span_planes.specs.SpanHolds.{SpanHolds, SpansStand, without_degree}
use Rattle.span_planes.specs.SpanPoints.{dated_weight, plain_weight, span_points, span_roots}
use Rattle.span_planes.proofs.NewSpans.{all_same, first_empty, meta_rules, meta_typed, no_pages, others_empty, range_without_degree}
use Rattle.span_planes.proofs.SameValues.{tree_path}
use Rattle.span_planes.proofs.SpanOpened.{unordered}

-- a space whose free pages are in order
pub in_order : (x : Image) (params : Params) (meta : Meta) (map : PageMap) (ordered : Type 0) → ordered → HoldsSpace x params meta map ordered → HoldsSpace x params meta map (Unit {0})
in_order x params meta map ordered order h = record {
  pages = h.pages;
  settled = h.settled;
  space = record {
    superblock = h.space.superblock;
    roots = h.space.roots;
    there = h.space.there;
    few = h.space.few;
    in_use = h.space.in_use;
    in_order = λ _. h.space.in_order order;
  };
}

-- a space that tells of no version, with its free pages in order, is one
pub space_none : (params : Params) (x : Image) (read : Params) (meta : Meta) (map : PageMap) (ordered : Type 0) → ordered → HoldsSpace x read meta map ordered → TellNoVersion params read meta
    → HoldsNoVersion params x
space_none params x read meta map ordered order space told = record {
  meta = meta;
  pages = map;
  space = subst (λ (p : Params). HoldsSpace x p meta map (Unit {0})) told.own (in_order x read meta map ordered order space);
  tells = told.tells;
  empty = told.empty;
}

-- its space, whether the free pages are in order or not
pub space_of : (params : Params) (x : Image) (none : HoldsNoVersion params x) → HoldsSpace x (without_degree params) none.meta none.pages ⊥
space_of params x none = unordered x (without_degree params) none.meta none.pages (Unit {0}) none.space

-- the space of new spans
pub new_space : CreatedHolds → (params : Params) (x : Image) → IsInRange params → IsNew params x → HoldsSpace x (without_degree params) (new_meta params) empty_map (Unit {0})
new_space created params x r new = created x (without_degree params) (new_meta params) (range_without_degree params r) (meta_rules params r) (meta_typed params) refl refl new

-- new spans are of no version
pub new_none : CreatedHolds → (params : Params) (x : Image) → IsInRange params → IsNew params x → HoldsNoVersion params x
new_none created params x r new = record {
  meta = new_meta params;
  pages = empty_map;
  space = new_space created params x r new;
  tells = record { version = refl; events = refl; rows = refl; table = refl; roots = length-replicate (span_roots params) empty_tree };
  empty = all_same (λ (t : Tree). t ≡ empty_tree) (span_roots params) empty_tree refl;
}

-- a disk that holds spans of no version is not empty
pub not_empty : (params : Params) (x : Image) → HoldsNoVersion params x → is_empty x ≡ false
not_empty params x none = none.space.settled.made

-- what stands for the same pages holds them too
pub none_by : (params : Params) (x y : Image) (none : HoldsNoVersion params x) → SettlesTo y none.space.pages → HoldsNoVersion params y
none_by params x y none settles = record {
  meta = none.meta;
  pages = none.pages;
  space = record { pages = none.space.pages; settled = settles; space = none.space.space };
  tells = none.tells;
  empty = none.empty;
}

pub none_on : (params : Params) (x y : Image) → StandsAlike x y → HoldsNoVersion params x → HoldsNoVersion params y
none_on params x y alike none = none_by params x y none (alike none.space.pages none.space.settled)

-- a list of empty trees
pub all_empty : (trees : List Tree) → All (λ t. t ≡ empty_tree) trees → trees ≡ replicate (length trees) empty_tree
all_empty [] all = refl
all_empty (tree ∷ trees) all =
    let first : tree ≡ empty_tree = All-head (λ (t : Tree). t ≡ empty_tree) tree trees all in
    let rest : trees ≡ replicate (length trees) empty_tree = all_empty trees (All-tail (λ (t : Tree). t ≡ empty_tree) tree trees all) in
    λ i. first i ∷ rest i

-- a tree that a page may spell and that counts no points is empty
zero_of : (n : ℕ) → IsTrue (n == 0) → n ≡ 0
zero_of n is = (Decides-eqb n 0).0 is

pub counts_none : (t : Tree) → IsTrue (tree_fits t) → t.count ≡ 0 → t ≡ empty_tree
counts_none t fits none = elim (eqb_tells t.levels 0) [
  | inl a ↦
      let levels : t.levels ≡ 0 = a.1 in
      let zeros : IsTrue (is_all_zero t) = ap (λ (test : Bool). if test then is_all_zero t else has_pages t) (sym a.0) ∙ fits in
      let parts = both_true (t.root == 0 && t.count == 0) (t.changes == 0 && t.last == 0) zeros in
      let first = both_true (t.root == 0) (t.count == 0) parts.0 in
      let second = both_true (t.changes == 0) (t.last == 0) parts.1 in
      tree_path t empty_tree (zero_of t.root first.0) levels none (zero_of t.changes second.0) (zero_of t.last second.1)
  | inr b ↦
      let pages : IsTrue (has_pages t) = ap (λ (test : Bool). if test then is_all_zero t else has_pages t) (sym b.0) ∙ fits in
      let rest = both_true (nat_le t.levels 16) (nat_le 3 t.root && nat_le 1 t.count) pages in
      let last = both_true (nat_le 3 t.root) (nat_le 1 t.count) rest.1 in
      let some : 1 ≤ t.count = leb-true 1 t.count last.1 in
      absurd (omega (arith, some, none))
]

module _ {X : Type 0} (g : Ghosts X)
    (counted : (pages : PageMap) (dims : ℕ) (tree : Tree) (points : List Point) → g.stands pages dims tree points
    → (tree.count ≡ length points) × (length points ≤ 2 ^ 31) × (tree.levels ≡ 0 → points ≡ [])) where
  -- trees that stand for no points are empty
  each_none : (pages : PageMap) (dims : ℕ) (points : ℕ → List Point) → ((place : ℕ) → points place ≡ []) → (from : ℕ) (trees : List Tree) → EachStands (g.stands pages dims) points from trees
      → All (λ t. IsTrue (tree_fits t)) trees → All (λ t. t ≡ empty_tree) trees
  each_none pages dims points none from [] stands fits = All-nil (λ (t : Tree). t ≡ empty_tree)
  each_none pages dims points none from (tree ∷ trees) stands fits =
      let count : tree.count ≡ 0 = (counted pages dims tree (points from) stands.0).0 ∙ ap (λ (ps : List Point). length ps) (none from) in
      All-cons (λ (t : Tree). t ≡ empty_tree) tree trees (counts_none tree (All-head (λ (t : Tree). IsTrue (tree_fits t)) tree trees fits) count)
      (each_none pages dims points none (suc from) trees stands.1 (All-tail (λ (t : Tree). IsTrue (tree_fits t)) tree trees fits))

  -- a disk that holds the spans of the empty history holds those of no version
  pub held_none : (params : Params) (x : Image) → SpanHolds g x params [] → HoldsNoVersion params x
  held_none params x held =
      let k = corner_count params in
      let roots = held.meta.roots.items in
      let fits = held.space.space.roots.rules.roots in
      let first = each_none held.pages params.dims (span_points params plain_weight []) (λ place. refl) 0 (take k roots) held.trees.plain (All-take (λ (t : Tree). IsTrue (tree_fits t)) k roots fits) in
      let others = each_none held.pages params.dims (span_points params dated_weight []) (λ place. refl) 0 (drop k roots) held.trees.dated (All-drop (λ (t : Tree). IsTrue (tree_fits t)) k roots fits) in
      record {
        meta = held.meta;
        pages = held.pages;
        space = held.space;
        tells = held.tells;
        empty = subst (λ (ts : List Tree). All (λ t. t ≡ empty_tree) ts) (take-append-drop k roots) (All-append (λ (t : Tree). t ≡ empty_tree) (take k roots) (drop k roots) first others);
      }

module _ {X : Type 0} (g : Ghosts X)
    (empty : (pages : PageMap) (dims : ℕ) → 1 ≤ dims → dims ≤ g.DIMS → g.stands pages dims empty_tree [] × (g.footprint pages dims empty_tree ≡ []) × g.balanced pages dims empty_tree)
    (params : Params) (r : IsInRange params) (dims : params.dims ≤ g.DIMS) where
  -- and the other way round
  pub none_held : (x : Image) → HoldsNoVersion params x → SpanHolds g x params []
  none_held x none =
      let tree = empty none.pages params.dims r.some_dims dims in
      let n = span_roots params in
      let is : none.meta.roots.items ≡ replicate n empty_tree = all_empty none.meta.roots.items none.empty ∙ ap (λ (k : ℕ). replicate k empty_tree) none.tells.roots in
      record {
        meta = none.meta;
        pages = none.pages;
        space = none.space;
        tells = none.tells;
        range = r;
        lawful = tt;
        weights = All-nil HasSmallWeight;
        trees = subst (λ (ts : List Tree). SpansStand g params none.pages ts []) (sym is) (record {
          dims = dims;
          plain = first_empty (g.stands none.pages params.dims) (span_points params plain_weight []) tree.0 (λ place. refl) 0 (corner_count params) n;
          dated = others_empty (g.stands none.pages params.dims) (span_points params dated_weight []) tree.0 (λ place. refl) 0 (corner_count params) n;
          balanced = all_same (g.balanced none.pages params.dims) n empty_tree tree.2;
        });
        apart = subst (λ (ts : List Tree). NamesNoneTwice (trees_pages (g.footprint none.pages params.dims) ts)) (sym is)
            (subst (λ (ps : List ℕ). NamesNoneTwice ps) (sym (no_pages (g.footprint none.pages params.dims) n tree.1)) tt);
      }
