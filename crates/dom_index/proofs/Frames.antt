-- A chain depends on its own pages alone.
use Rattle.std.proofs.Common.{◌≡◌, ◌≢◌, ℕ, zero, suc, ◌==◌, true, inl, inr, List, [], ◌∷◌, ◌++◌, Option, Some, None, IsSome, refl, sym, ap, ◌∙◌, subst}
use Rattle.std.specs.Option.{option_map_or}
use Rattle.std.proofs.lemmas.Bool.{eq-eqb, ne_eqb, cases_eq, or_left, or_right, or_cases, eqb-true}
use Rattle.bw_types.specs.declared.point.Point.{Point}
use Rattle.ports.specs.Pages.{PageMap}
use Rattle.ports.specs.Frame.{names_page, AgreeOn, AreInMap}
use Rattle.page_layout.specs.PointLeaf.{point_leaf_page, point_leaf_in}
use Rattle.page_layout.specs.Spelled.{Spells}
use Rattle.page_layout.specs.declared.point_leaf.PointLeaf.{PointLeaf}
use Rattle.dom_index.specs.Chain.{ChainStands, LeafStands, chain_pages, chain_points, leaf_on, no_leaf, point_pages}

pub same_leaf : (a b : PageMap) (page : ℕ) → b page ≡ a page → leaf_on b page ≡ leaf_on a page
same_leaf a b page e = ap (λ (o : Option (List ℕ)). option_map_or point_leaf_in o no_leaf) e

pub leaf_stands_on : (a b : PageMap) (page : ℕ) → b page ≡ a page → LeafStands a page → LeafStands b page
leaf_stands_on a b page e s =
    let same : leaf_on b page ≡ leaf_on a page = same_leaf a b page e in
    subst (λ (l : PointLeaf). Spells point_pages l (point_leaf_page l) × (b page ≡ Some (point_leaf_page l))) (sym same) (s.0, e ∙ s.1)

-- the pages of a chain whose first page is one
pub pages_more : (most : ℕ) (m : PageMap) (page : ℕ) → page ≢ 0 → chain_pages (suc most) m page ≡ page ∷ chain_pages most m (leaf_on m page).next
pages_more most m page ne = rw (ne_eqb page 0 ne) refl

pub points_more : (most : ℕ) (m : PageMap) (page : ℕ) → page ≢ 0
    → chain_points (suc most) m page ≡ (leaf_on m page).points.items ++ chain_points most m (leaf_on m page).next
points_more most m page ne = rw (ne_eqb page 0 ne) refl

pub no_pages : (most : ℕ) (m : PageMap) (page : ℕ) → page ≡ 0 → chain_pages most m page ≡ []
no_pages zero m page e = refl
no_pages (suc most) m page e = rw (eq-eqb page 0 e) refl

pub no_points : (most : ℕ) (m : PageMap) (page : ℕ) → page ≡ 0 → chain_points most m page ≡ []
no_points zero m page e = refl
no_points (suc most) m page e = rw (eq-eqb page 0 e) refl

agree_first : (p : ℕ) (ps : List ℕ) (a b : PageMap) → AgreeOn (p ∷ ps) a b → b p ≡ a p
agree_first p ps a b h = h p (or_left (p == p) (names_page ps p) (eq-eqb p p refl))

agree_rest : (p : ℕ) (ps : List ℕ) (a b : PageMap) → AgreeOn (p ∷ ps) a b → AgreeOn ps a b
agree_rest p ps a b h = λ q named. h q (or_right (p == q) (names_page ps q) named)

agree_parts : (most : ℕ) (a b : PageMap) (page : ℕ) → page ≢ 0 → AgreeOn (chain_pages (suc most) a page) a b
    → (b page ≡ a page) × AgreeOn (chain_pages most a (leaf_on a page).next) a b
agree_parts most a b page ne h =
    let all : AgreeOn (page ∷ chain_pages most a (leaf_on a page).next) a b = subst (λ (ps : List ℕ). AgreeOn ps a b) (pages_more most a page ne) h in
    (agree_first page _ a b all, agree_rest page _ a b all)

pub same_pages : (most : ℕ) (a b : PageMap) (page : ℕ) → AgreeOn (chain_pages most a page) a b → chain_pages most b page ≡ chain_pages most a page
same_pages zero a b page h = refl
same_pages (suc most) a b page h = elim (cases_eq page 0) [
  | inl e ↦ no_pages (suc most) b page e ∙ sym (no_pages (suc most) a page e)
  | inr ne ↦
      let parts = agree_parts most a b page ne h in
      let next : (leaf_on b page).next ≡ (leaf_on a page).next = ap (λ (l : PointLeaf). l.next) (same_leaf a b page parts.0) in
      let rest = same_pages most a b (leaf_on a page).next parts.1 in
      pages_more most b page ne ∙ ap (λ (n : ℕ). page ∷ chain_pages most b n) next ∙ ap (λ (ps : List ℕ). page ∷ ps) rest ∙ sym (pages_more most a page ne)
]

pub same_points : (most : ℕ) (a b : PageMap) (page : ℕ) → AgreeOn (chain_pages most a page) a b → chain_points most b page ≡ chain_points most a page
same_points zero a b page h = refl
same_points (suc most) a b page h = elim (cases_eq page 0) [
  | inl e ↦ no_points (suc most) b page e ∙ sym (no_points (suc most) a page e)
  | inr ne ↦
      let parts = agree_parts most a b page ne h in
      let leaf = same_leaf a b page parts.0 in
      let rest = same_points most a b (leaf_on a page).next parts.1 in
      points_more most b page ne ∙ ap (λ (l : PointLeaf). l.points.items ++ chain_points most b l.next) leaf
      ∙ ap (λ (ps : List Point). (leaf_on a page).points.items ++ ps) rest ∙ sym (points_more most a page ne)
]

pub same_stands : (most : ℕ) (a b : PageMap) (page : ℕ) → AgreeOn (chain_pages most a page) a b → ChainStands most a page → ChainStands most b page
same_stands zero a b page h s = s
same_stands (suc most) a b page h (inl e) = inl e
same_stands (suc most) a b page h (inr s) =
    let parts = agree_parts most a b page s.0 h in
    let next : (leaf_on b page).next ≡ (leaf_on a page).next = ap (λ (l : PointLeaf). l.next) (same_leaf a b page parts.0) in
    let rest = same_stands most a b (leaf_on a page).next parts.1 s.2 in
    inr (s.0, leaf_stands_on a b page parts.0 s.1, subst (λ (n : ℕ). ChainStands most b n) (sym next) rest)

some_there : (o : Option (List ℕ)) (bytes : List ℕ) → o ≡ Some bytes → IsSome o
some_there (Some x) bytes e = cc
some_there None bytes e = cc

pub chain_there : (most : ℕ) (m : PageMap) (page : ℕ) → ChainStands most m page → AreInMap m (chain_pages most m page)
chain_there zero m page s = λ q named. cc
chain_there (suc most) m page (inl e) = λ q named.
    let none : names_page [] q ≡ true = subst (λ (ps : List ℕ). names_page ps q ≡ true) (no_pages (suc most) m page e) named in
    cc
chain_there (suc most) m page (inr s) = λ q named.
    let all : names_page (page ∷ chain_pages most m (leaf_on m page).next) q ≡ true = subst (λ (ps : List ℕ). names_page ps q ≡ true) (pages_more most m page s.0) named in
    elim (or_cases (page == q) (names_page (chain_pages most m (leaf_on m page).next) q) all) [
      | inl here ↦ subst (λ (p : ℕ). IsSome (m p)) (eqb-true page q here) (some_there (m page) _ s.1.1)
      | inr there ↦ chain_there most m (leaf_on m page).next s.2 q there
    ]

-- a chain that stands is all looked at, also where more pages may be
pub stands_more : (most : ℕ) (m : PageMap) (page : ℕ) → ChainStands most m page → ChainStands (suc most) m page
stands_more zero m page e = inl e
stands_more (suc most) m page (inl e) = inl e
stands_more (suc most) m page (inr s) = inr (s.0, s.1, stands_more most m (leaf_on m page).next s.2)

pub pages_same : (most : ℕ) (m : PageMap) (page : ℕ) → ChainStands most m page → chain_pages (suc most) m page ≡ chain_pages most m page
pages_same zero m page e = no_pages 1 m page e
pages_same (suc most) m page (inl e) = no_pages (suc (suc most)) m page e ∙ sym (no_pages (suc most) m page e)
pages_same (suc most) m page (inr s) =
    pages_more (suc most) m page s.0 ∙ ap (λ (ps : List ℕ). page ∷ ps) (pages_same most m (leaf_on m page).next s.2) ∙ sym (pages_more most m page s.0)

pub points_same : (most : ℕ) (m : PageMap) (page : ℕ) → ChainStands most m page → chain_points (suc most) m page ≡ chain_points most m page
points_same zero m page e = no_points 1 m page e
points_same (suc most) m page (inl e) = no_points (suc (suc most)) m page e ∙ sym (no_points (suc most) m page e)
points_same (suc most) m page (inr s) =
    points_more (suc most) m page s.0 ∙ ap (λ (ps : List Point). (leaf_on m page).points.items ++ ps) (points_same most m (leaf_on m page).next s.2)
    ∙ sym (points_more most m page s.0)
