-- What the tests for the same params and the same meta page tell.
use Rattle.std.proofs.Common.{◌≡◌, ℕ, ◌==◌, ◌&&◌, Bool, true, Option, Some, None, List, refl, sym, ◌∙◌, ap, subst}
use Rattle.std.proofs.lemmas.Bool.{and_parts}
use Rattle.std.proofs.lemmas.Bool.Decides.{Decides-eqb}
use Rattle.std.proofs.lemmas.Slice.Eq.{slice_eq-Decides}
use Rattle.std.specs.Bool.{Decides}
use Rattle.std.specs.Cmp.Lexicographic.{pointwise}
use Rattle.std.specs.Option.{option_eq}
use Rattle.bw_types.specs.declared.params.Params.{Params}
use Rattle.bw_types.specs.declared.tree.Tree.{Tree}
use Rattle.page_layout.specs.declared.meta.Meta.{Meta}

-- the trees
abbrev tree_test : Tree → Tree → Bool
tree_test s t = (s.root == t.root) && ((s.levels == t.levels) && ((s.count == t.count) && ((s.changes == t.changes) && (s.last == t.last))))

pub tree_path : (s t : Tree) → s.root ≡ t.root → s.levels ≡ t.levels → s.count ≡ t.count → s.changes ≡ t.changes → s.last ≡ t.last → s ≡ t
tree_path s t root levels count changes last = λ i. record { root = root i; levels = levels i; count = count i; changes = changes i; last = last i }

both : (a b : Bool) → a ≡ true → b ≡ true → (a && b) ≡ true
both a b p q = rw p q

num : (n : ℕ) → (n == n) ≡ true
num n = (Decides-eqb n n).1 refl

tree_self : (s : Tree) → tree_test s s ≡ true
tree_self s = both _ _ (num s.root) (both _ _ (num s.levels) (both _ _ (num s.count) (both _ _ (num s.changes) (num s.last))))

tree_decides : (s t : Tree) → Decides (tree_test s t) (s ≡ t)
tree_decides s t = (
  λ h.
      let a = and_parts _ _ h in
      let b = and_parts _ _ a.1 in
      let c = and_parts _ _ b.1 in
      let d = and_parts _ _ c.1 in
      tree_path s t ((Decides-eqb s.root t.root).0 a.0) ((Decides-eqb s.levels t.levels).0 b.0) ((Decides-eqb s.count t.count).0 c.0) ((Decides-eqb s.changes t.changes).0 d.0) ((Decides-eqb s.last t.last).0 d.1),
  λ e. subst (λ (x : Tree). tree_test s x ≡ true) e (tree_self s),
)

-- the meta pages
abbrev meta_test : Meta → Meta → Bool
meta_test m n =
    (m.lives == n.lives) && ((m.version == n.version) && ((m.events == n.events) && ((m.rows == n.rows) && ((m.allotted == n.allotted) && ((m.free == n.free)
    && ((m.mass == n.mass) && (tree_test m.table n.table && pointwise tree_test m.roots.items n.roots.items)))))))

roots_decides : (xs ys : List Tree) → Decides (pointwise tree_test xs ys) (xs ≡ ys)
roots_decides xs ys = slice_eq-Decides tree_decides xs ys (pointwise tree_test xs ys) refl

meta_self : (m : Meta) → meta_test m m ≡ true
meta_self m =
    both _ _ (num m.lives) (both _ _ (num m.version) (both _ _ (num m.events) (both _ _ (num m.rows) (both _ _ (num m.allotted) (both _ _ (num m.free)
    (both _ _ (num m.mass) (both _ _ ((tree_decides m.table m.table).1 refl) ((roots_decides m.roots.items m.roots.items).1 refl))))))))

pub meta_decides : (m n : Meta) (r : Bool) → r ≡ meta_test m n → Decides r (m ≡ n)
meta_decides m n r is = (
  λ yes.
      let a = and_parts _ _ (sym is ∙ yes) in
      let b = and_parts _ _ a.1 in
      let c = and_parts _ _ b.1 in
      let d = and_parts _ _ c.1 in
      let e = and_parts _ _ d.1 in
      let f = and_parts _ _ e.1 in
      let h = and_parts _ _ f.1 in
      let k = and_parts _ _ h.1 in
      let lives : m.lives ≡ n.lives = (Decides-eqb m.lives n.lives).0 a.0 in
      let version : m.version ≡ n.version = (Decides-eqb m.version n.version).0 b.0 in
      let events : m.events ≡ n.events = (Decides-eqb m.events n.events).0 c.0 in
      let rows : m.rows ≡ n.rows = (Decides-eqb m.rows n.rows).0 d.0 in
      let allotted : m.allotted ≡ n.allotted = (Decides-eqb m.allotted n.allotted).0 e.0 in
      let free : m.free ≡ n.free = (Decides-eqb m.free n.free).0 f.0 in
      let mass : m.mass ≡ n.mass = (Decides-eqb m.mass n.mass).0 h.0 in
      let table : m.table ≡ n.table = (tree_decides m.table n.table).0 k.0 in
      let roots : m.roots.items ≡ n.roots.items = (roots_decides m.roots.items n.roots.items).0 k.1 in
      λ i. record { lives = lives i; version = version i; events = events i; rows = rows i; allotted = allotted i; free = free i; mass = mass i; table = table i; roots = record { items = roots i } },
  λ same. is ∙ subst (λ (x : Meta). meta_test m x ≡ true) same (meta_self m),
)

-- the params
abbrev params_test : Params → Params → Bool
params_test p q = (p.dims == q.dims) && (option_eq (λ (a b : ℕ). a == b) p.degree q.degree && ((p.events == q.events) && ((p.pages == q.pages) && (p.origin == q.origin))))

degree_decides : (a b : Option ℕ) → Decides (option_eq (λ (x y : ℕ). x == y) a b) (a ≡ b)
degree_decides None None = (λ _. refl, λ _. refl)
degree_decides None (Some b) = (λ h. cc, λ h. cc)
degree_decides (Some a) None = (λ h. cc, λ h. cc)
degree_decides (Some a) (Some b) = (λ h. ap Some ((Decides-eqb a b).0 h), λ h. let same : a ≡ b = cc in (Decides-eqb a b).1 same)

params_self : (p : Params) → params_test p p ≡ true
params_self p = both _ _ (num p.dims) (both _ _ ((degree_decides p.degree p.degree).1 refl) (both _ _ (num p.events) (both _ _ (num p.pages) (num p.origin))))

pub params_decides : (p q : Params) (r : Bool) → r ≡ params_test p q → Decides r (p ≡ q)
params_decides p q r is = (
  λ yes.
      let a = and_parts _ _ (sym is ∙ yes) in
      let b = and_parts _ _ a.1 in
      let c = and_parts _ _ b.1 in
      let d = and_parts _ _ c.1 in
      let dims : p.dims ≡ q.dims = (Decides-eqb p.dims q.dims).0 a.0 in
      let degree : p.degree ≡ q.degree = (degree_decides p.degree q.degree).0 b.0 in
      let events : p.events ≡ q.events = (Decides-eqb p.events q.events).0 c.0 in
      let pages : p.pages ≡ q.pages = (Decides-eqb p.pages q.pages).0 d.0 in
      let origin : p.origin ≡ q.origin = (Decides-eqb p.origin q.origin).0 d.1 in
      λ i. record { dims = dims i; degree = degree i; events = events i; pages = pages i; origin = origin i },
  λ same. is ∙ subst (λ (x : Params). params_test p x ≡ true) same (params_self p),
)
