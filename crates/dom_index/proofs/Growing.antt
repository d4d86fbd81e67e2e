-- A chain with one point more.
use Rattle.std.proofs.Common.{◌≡◌, ◌≢◌, ℕ, zero, suc, ◌+◌, ◌^◌, ◌<◌, ◌==◌, true, false, inl, inr, List, [], ◌∷◌, ◌++◌, length, Option, Some, None, IsSome, refl, sym, ap, ◌∙◌, subst, arith, length-append, append_assoc, IsPermutation}
use Rattle.std.proofs.lemmas.Bool.{eq-eqb, ne_eqb, cases_eq, or_from, false≢true, cases_Bool, or_parts}
use Rattle.std.proofs.lemmas.List.Elements.{All-append, All-cons, All-nil}
use Rattle.std.proofs.lemmas.List.Sorted.{IsPermutation-refl, IsPermutation-sym, IsPermutation-middle}
use Rattle.bw_types.specs.declared.point.Point.{Point}
use Rattle.ports.specs.Pages.{PageMap, put_page}
use Rattle.ports.specs.Frame.{names_page, AgreeOn, AreInMap, Replaces}
use Rattle.page_layout.specs.Footprint.{NamesNoneTwice}
use Rattle.page_layout.specs.PointLeaf.{IsPointLeaf, IsTyped, IsPointTyped, point_leaf_page}
use Rattle.page_layout.specs.Spelled.{Spells}
use Rattle.page_layout.specs.declared.point_leaf.PointLeaf.{PointLeaf}
use Rattle.dom_index.specs.Chain.{ChainStands, LeafStands, IsPutFirst, chain_pages, chain_points, leaf_on, page_of, point_pages}
use Rattle.dom_index.proofs.Chains.{leaf_found}
use Rattle.dom_index.proofs.Frames.{same_pages, same_points, same_stands, pages_more, points_more, chain_there, stands_more, pages_same, points_same}

-- The chain has the point besides.
pub record HasOneMore (most : ℕ) (before after : PageMap) (first root : ℕ) (p : Point) : Type 0 where
  pub stands : ChainStands (suc most) after root
  pub once : NamesNoneTwice (chain_pages (suc most) after root)
  pub kept : IsPermutation (p ∷ chain_points most before first) (chain_points (suc most) after root)
  pub change : Replaces (chain_pages most before first) (chain_pages (suc most) after root) before after

abbrev leaf_of : (next : ℕ) (points : List Point) → PointLeaf
leaf_of next points = record { next = next; points = record { items = points } }

put_here : (m n : PageMap) (page : ℕ) (bytes : List ℕ) → n ≡ put_page m page bytes → n page ≡ Some bytes
put_here m n page bytes e =
    let same : (page == page) ≡ true = eq-eqb page page refl in
    ap (λ (f : PageMap). f page) e ∙ (rw same refl)

put_there : (m n : PageMap) (page p : ℕ) (bytes : List ℕ) → n ≡ put_page m page bytes → (page == p) ≡ false → n p ≡ m p
put_there m n page p bytes e other = ap (λ (f : PageMap). f p) e ∙ (rw other refl)

-- what the page of a leaf says
found_leaf : (m : PageMap) (page next : ℕ) (points : List Point) → m page ≡ Some (page_of next points)
    → IsTyped (leaf_of next points) → IsPointLeaf (leaf_of next points) → LeafStands m page × (leaf_on m page ≡ leaf_of next points)
found_leaf m page next points there typed is_leaf =
    let same : leaf_on m page ≡ leaf_of next points = leaf_found m page (leaf_of next points) there typed is_leaf in (
      subst (λ (l : PointLeaf). Spells point_pages l (point_leaf_page l) × (m page ≡ Some (point_leaf_page l))) (sym same)
          (record { spelled = refl; rules = is_leaf; typed = typed }, there),
      same,
    )

-- a page that a list does not name is another than each of its pages
other_page : (page q : ℕ) (ps : List ℕ) → names_page ps page ≡ false → names_page ps q ≡ true → (page == q) ≡ false
other_page page q ps none named = elim (cases_eq page q) [
  | inl same ↦ absurd (false≢true (sym none ∙ subst (λ (n : ℕ). names_page ps n ≡ true) (sym same) named))
  | inr differ ↦ ne_eqb page q differ
]

is_none : (o : Option (List ℕ)) → o ≡ None → IsSome o → ⊥
is_none None e h = cc
is_none (Some x) e h = cc

missing_apart : (m : PageMap) (page : ℕ) (ps : List ℕ) → m page ≡ None → AreInMap m ps → names_page ps page ≡ false
missing_apart m page ps none there = elim (cases_Bool (names_page ps page)) [
  | inl named ↦ absurd (is_none (m page) none (there page named))
  | inr other ↦ other
]

named_parts : (page q : ℕ) (ps : List ℕ) → names_page (page ∷ ps) q ≡ false → ((page == q) ≡ false) × (names_page ps q ≡ false)
named_parts page q ps h = or_parts (page == q) (names_page ps q) h

to_middle : (xs : List Point) (p : Point) (ys : List Point) → IsPermutation (p ∷ (xs ++ ys)) ((xs ++ p ∷ []) ++ ys)
to_middle xs p ys =
    subst (λ (zs : List Point). IsPermutation (p ∷ (xs ++ ys)) zs) (sym (append_assoc xs (p ∷ []) ys))
    (IsPermutation-sym (xs ++ p ∷ ys) (p ∷ (xs ++ ys)) (IsPermutation-middle xs p ys))

-- the point put into the first page
put_into : (most : ℕ) (before after : PageMap) (first : ℕ) (p : Point) → ChainStands most before first → NamesNoneTwice (chain_pages most before first)
    → IsPointTyped p → first ≢ 0 → LeafStands before first → length (leaf_on before first).points.items < 64
    → after ≡ put_page before first (page_of (leaf_on before first).next ((leaf_on before first).points.items ++ p ∷ []))
    → HasOneMore most before after first first p
put_into zero before after first p e once typed ne leaf few put = absurd (ne e)
put_into (suc most) before after first p (inl e) once typed ne leaf few put = absurd (ne e)
put_into (suc most) before after first p (inr s) once typed ne leaf few put =
    let old : PointLeaf = leaf_on before first in
    let points : List Point = old.points.items ++ p ∷ [] in
    let rest : List ℕ = chain_pages most before old.next in
    let whole : chain_pages (suc most) before first ≡ first ∷ rest = pages_more most before first ne in
    let all : NamesNoneTwice (first ∷ rest) = subst NamesNoneTwice whole once in
    let long : length points ≡ length old.points.items + 1 = length-append old.points.items (p ∷ []) in
    let is_typed : IsTyped (leaf_of old.next points) = record {
      next = leaf.0.typed.next;
      points = All-append IsPointTyped old.points.items (p ∷ []) leaf.0.typed.points (All-cons IsPointTyped p [] typed (All-nil IsPointTyped));
    } in
    let is_leaf : IsPointLeaf (leaf_of old.next points) = record { some = omega (arith, long); few = omega (arith, long, few) } in
    let here : after first ≡ Some (page_of old.next points) = put_here before after first _ put in
    let found = found_leaf after first old.next points here is_typed is_leaf in
    let next : (leaf_on after first).next ≡ old.next = ap (λ (l : PointLeaf). l.next) found.1 in
    let items : (leaf_on after first).points.items ≡ points = ap (λ (l : PointLeaf). l.points.items) found.1 in
    let agree : AgreeOn rest before after = λ q named. put_there before after first q _ put (other_page first q rest all.0 named) in
    let tail_stands : ChainStands most after old.next = same_stands most before after old.next agree s.2 in
    let tail_pages : chain_pages most after old.next ≡ rest = same_pages most before after old.next agree in
    let tail_points : chain_points most after old.next ≡ chain_points most before old.next = same_points most before after old.next agree in
    let stands : ChainStands (suc (suc most)) after first =
    inr (ne, found.0, subst (λ (n : ℕ). ChainStands (suc most) after n) (sym next) (stands_more most after old.next tail_stands)) in
    let new_pages : chain_pages (suc (suc most)) after first ≡ chain_pages (suc most) before first =
    pages_more (suc most) after first ne ∙ ap (λ (n : ℕ). first ∷ chain_pages (suc most) after n) next
    ∙ ap (λ (ps : List ℕ). first ∷ ps) (pages_same most after old.next tail_stands ∙ tail_pages) ∙ sym whole in
    let old_points : chain_points (suc most) before first ≡ old.points.items ++ chain_points most before old.next = points_more most before first ne in
    let new_points : chain_points (suc (suc most)) after first ≡ points ++ chain_points most before old.next =
    points_more (suc most) after first ne ∙ ap (λ (l : PointLeaf). l.points.items ++ chain_points (suc most) after l.next) found.1
    ∙ ap (λ (ps : List Point). points ++ ps) (points_same most after old.next tail_stands ∙ tail_points) in
    let moved : IsPermutation (p ∷ (old.points.items ++ chain_points most before old.next)) (points ++ chain_points most before old.next) =
    to_middle old.points.items p (chain_points most before old.next) in
    record {
      stands = stands;
      once = subst NamesNoneTwice (sym new_pages) once;
      kept = subst (λ (ps : List Point). IsPermutation (p ∷ ps) (chain_points (suc (suc most)) after first)) (sym old_points)
          (subst (λ (ps : List Point). IsPermutation (p ∷ (old.points.items ++ chain_points most before old.next)) ps) (sym new_points) moved);
      change = record {
        others = λ q none_old none_new.
            let parts = named_parts first q rest (subst (λ (ps : List ℕ). names_page ps q ≡ false) whole none_old) in
            put_there before after first q _ put parts.0;
        fresh = λ q none_old new.
            absurd (false≢true (sym none_old ∙ subst (λ (ps : List ℕ). names_page ps q ≡ true) new_pages new));
        gone = λ q yes_old none_new.
            absurd (false≢true (sym none_new ∙ subst (λ (ps : List ℕ). names_page ps q ≡ true) (sym new_pages) yes_old));
      };
    }

-- a new first page for the point
put_before : (most : ℕ) (before after : PageMap) (first root : ℕ) (p : Point) → ChainStands most before first → NamesNoneTwice (chain_pages most before first)
    → IsPointTyped p → first < 2 ^ 64 → root ≢ 0 → before root ≡ None → after root ≡ Some (page_of first (p ∷ []))
    → ((page : ℕ) → (root == page) ≡ false → after page ≡ before page)
    → HasOneMore most before after first root p
put_before most before after first root p s once typed fits ne none here others =
    let pages : List ℕ = chain_pages most before first in
    let apart : names_page pages root ≡ false = missing_apart before root pages none (chain_there most before first s) in
    let agree : AgreeOn pages before after = λ q named. others q (other_page root q pages apart named) in
    let is_typed : IsTyped (leaf_of first (p ∷ [])) = record { next = fits; points = All-cons IsPointTyped p [] typed (All-nil IsPointTyped) } in
    let is_leaf : IsPointLeaf (leaf_of first (p ∷ [])) = record { some = omega arith; few = omega arith } in
    let found = found_leaf after root first (p ∷ []) here is_typed is_leaf in
    let next : (leaf_on after root).next ≡ first = ap (λ (l : PointLeaf). l.next) found.1 in
    let tail : ChainStands most after first = same_stands most before after first agree s in
    let new_pages : chain_pages (suc most) after root ≡ root ∷ pages =
    pages_more most after root ne ∙ ap (λ (n : ℕ). root ∷ chain_pages most after n) next ∙ ap (λ (ps : List ℕ). root ∷ ps) (same_pages most before after first agree) in
    let new_points : chain_points (suc most) after root ≡ p ∷ chain_points most before first =
    points_more most after root ne ∙ ap (λ (l : PointLeaf). l.points.items ++ chain_points most after l.next) found.1
    ∙ ap (λ (ps : List Point). p ∷ ps) (same_points most before after first agree) in
    record {
      stands = inr (ne, found.0, subst (λ (n : ℕ). ChainStands most after n) (sym next) tail);
      once = subst NamesNoneTwice (sym new_pages) (apart, once);
      kept = subst (λ (ps : List Point). IsPermutation (p ∷ chain_points most before first) ps) (sym new_points) (IsPermutation-refl (p ∷ chain_points most before first));
      change = record {
        others = λ q none_old none_new.
            others q (named_parts root q pages (subst (λ (ps : List ℕ). names_page ps q ≡ false) new_pages none_new)).0;
        fresh = λ q none_old new. elim (cases_eq root q) [
          | inl same ↦ subst (λ (n : ℕ). before n ≡ None) same none
          | inr differ ↦
              let named : names_page (root ∷ pages) q ≡ true = subst (λ (ps : List ℕ). names_page ps q ≡ true) new_pages new in
              absurd (false≢true (sym (or_from (root == q) (names_page pages q) (ne_eqb root q differ) none_old) ∙ named))
        ];
        gone = λ q yes_old none_new.
            let parts = named_parts root q pages (subst (λ (ps : List ℕ). names_page ps q ≡ false) new_pages none_new) in
            absurd (false≢true (sym parts.1 ∙ yes_old));
      };
    }

pub put_first_stands : (most : ℕ) (before after : PageMap) (first root : ℕ) (p : Point) → ChainStands most before first → NamesNoneTwice (chain_pages most before first)
    → IsPointTyped p → first < 2 ^ 64 → IsPutFirst before after first root p → HasOneMore most before after first root p
put_first_stands most before after first root p s once typed fits (inl put) =
    subst (λ (n : ℕ). HasOneMore most before after first n p) (sym put.0) (put_into most before after first p s once typed put.1 put.2 put.3 put.4)
put_first_stands most before after first root p s once typed fits (inr put) = put_before most before after first root p s once typed fits put.1 put.0 put.3 put.4
