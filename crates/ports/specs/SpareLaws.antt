-- What stays spare when a stage in memory changes.
use Rattle.std.specs.Prelude.{◌≡◌, ℕ, ◌+◌, ◌-◌, ◌<◌, ◌≤◌, ◌==◌, nat_le, nat_lt, ◌&&◌, not, Bool, true, false, if◌then◌else◌, List, [], ◌∷◌, ◌++◌, length, reverse, slice_set, Option, Some, None, IsSome, refl}
use Rattle.std.proofs.Common.{◌∙◌, subst, ap, inl, inr, arith}
use Rattle.std.proofs.Math.Path.{fun_ext}
use Rattle.std.proofs.lemmas.Bool.{cases_Bool, or_cases, cases_lt, cases_eq, and_parts, eqb-true, eq-eqb, ne_eqb, le-leb, lt-leb, leb-true, ltb-true, lt-ltb, not-true}
use Rattle.std.proofs.lemmas.List.{length-set, length_push, get_or-set_same, get_or-set_other, reverse-append}
use Rattle.ports.specs.Pages.{PageMap, put_page}
use Rattle.ports.specs.Frame.{names_page}
use Rattle.ports.specs.Kept.{map_of}
use Rattle.ports.specs.KeptLaws.{map_of-push, map_of-place}
use Rattle.ports.specs.Spare.{is_absent, is_spare, are_spare}

-- the map after a place of the list is set
pub map_of-set : (kept : List (Option (List ℕ))) (page : ℕ) (o : Option (List ℕ)) → 3 ≤ page → page - 3 < length kept
    → (p : ℕ) → map_of (slice_set kept (page - 3) o) p ≡ (if page == p then o else map_of kept p)
map_of-set kept page o low within p = elim (cases_lt p 3) [
  | inl below ↦ let under : nat_le 3 p ≡ false = lt-leb _ _ below in
      let other : (page == p) ≡ false = ne_eqb _ _ (λ e. omega arith) in
      rw (under, other) refl
  | inr from ↦ let over : nat_le 3 p ≡ true = le-leb _ _ from in
      elim (cases_eq page p) [
        | inl same ↦ let named : (page == p) ≡ true = eq-eqb _ _ same in
            let at : p - 3 ≡ page - 3 = omega arith in rw (over, named, at) (get_or-set_same kept (page - 3) o None within)
        | inr differs ↦ let other : (page == p) ≡ false = ne_eqb _ _ differs in
            rw (over, other) (get_or-set_other kept (page - 3) (p - 3) o None (λ e. omega arith))
      ]
]

absent_none : (o : Option (List ℕ)) → is_absent o ≡ true → o ≡ None
absent_none None e = refl
absent_none (Some bytes) e = cc

pub is_spare-parts : (kept : List (Option (List ℕ))) (page : ℕ) → is_spare kept page ≡ true
    → (3 ≤ page) × (page < 3 + length kept) × (map_of kept page ≡ None)
is_spare-parts kept page h =
    let both = and_parts _ _ h in
    let ends = and_parts _ _ both.0 in
    (leb-true _ _ ends.0, ltb-true _ _ ends.1, absent_none (map_of kept page) both.1)

and_true : (a b : Bool) → a ≡ true → b ≡ true → (a && b) ≡ true
and_true a b e f = rw (e, f) refl

pub is_spare-from : (kept : List (Option (List ℕ))) (page : ℕ) → 3 ≤ page → page < 3 + length kept → map_of kept page ≡ None
    → is_spare kept page ≡ true
is_spare-from kept page low high none =
    let absent : is_absent (map_of kept page) ≡ true = ap is_absent none in
    and_true (nat_le 3 page && nat_lt page (3 + length kept)) (is_absent (map_of kept page))
    (and_true (nat_le 3 page) (nat_lt page (3 + length kept)) (le-leb 3 page low) (lt-ltb page (3 + length kept) high)) absent

pub are_spare-parts : (kept : List (Option (List ℕ))) (page : ℕ) (rest : List ℕ) → are_spare kept (page ∷ rest) ≡ true
    → (is_spare kept page ≡ true) × (names_page rest page ≡ false) × (are_spare kept rest ≡ true)
are_spare-parts kept page rest h =
    let both = and_parts _ _ h in
    let first = and_parts _ _ both.0 in
    (first.0, not-true _ first.1, both.1)

-- a page that the chain names is spare
pub named-is_spare : (kept : List (Option (List ℕ))) (chain : List ℕ) (page : ℕ) → are_spare kept chain ≡ true
    → names_page chain page ≡ true → is_spare kept page ≡ true
named-is_spare kept [] page h named = cc
named-is_spare kept (first ∷ rest) page h named =
    let parts = are_spare-parts kept first rest h in
    elim (or_cases _ _ named) [
      | inl same ↦ subst (λ (p : ℕ). is_spare kept p ≡ true) (eqb-true first page same) parts.0
      | inr later ↦ named-is_spare kept rest page parts.2 later
    ]

named_later : (first page : ℕ) (rest : List ℕ) → names_page rest page ≡ true → names_page (first ∷ rest) page ≡ true
named_later first page rest n = elim (cases_Bool (first == page)) [ inl same ↦ rw same refl | inr other ↦ rw (other, n) refl ]

-- The chain stays spare where each page of it does.
pub are_spare-stay : (kept other : List (Option (List ℕ))) (chain : List ℕ) → are_spare kept chain ≡ true
    → ((page : ℕ) → names_page chain page ≡ true → is_spare kept page ≡ true → is_spare other page ≡ true)
    → are_spare other chain ≡ true
are_spare-stay kept other [] h step = refl
are_spare-stay kept other (first ∷ rest) h step =
    let parts = are_spare-parts kept first rest h in
    let named : names_page (first ∷ rest) first ≡ true = rw (eq-eqb first first refl) refl in
    let later = are_spare-stay kept other rest parts.2 (λ page n. step page (named_later first page rest n)) in
    and_true (is_spare other first && not (names_page rest first)) (are_spare other rest)
    (and_true (is_spare other first) (not (names_page rest first)) (step first named parts.0) (rw parts.1 refl)) later

-- a page in the map is named by no chain of spare pages
pub there-unnamed : (kept : List (Option (List ℕ))) (chain : List ℕ) (page : ℕ) → are_spare kept chain ≡ true
    → IsSome (map_of kept page) → names_page chain page ≡ false
there-unnamed kept chain page h there = elim (cases_Bool (names_page chain page)) [
  | inl named ↦ let spare = is_spare-parts kept page (named-is_spare kept chain page h named) in
      absurd (let none : map_of kept page ≡ None = spare.2 in
      let some : IsSome {T = List ℕ} None = subst (λ (o : Option (List ℕ)). IsSome o) none there in cc)
  | inr unnamed ↦ unnamed
]

-- The chain stays spare where a place is set that it does not name.
pub are_spare-set : (kept : List (Option (List ℕ))) (chain : List ℕ) (page : ℕ) (o : Option (List ℕ)) → are_spare kept chain ≡ true
    → 3 ≤ page → page - 3 < length kept → names_page chain page ≡ false → are_spare (slice_set kept (page - 3) o) chain ≡ true
are_spare-set kept chain page o h low within unnamed =
    are_spare-stay kept (slice_set kept (page - 3) o) chain h (λ p named spare.
    let parts = is_spare-parts kept p spare in
    let other : (page == p) ≡ false = ne_eqb _ _ (λ e. let n : names_page chain p ≡ false = subst (λ (q : ℕ). names_page chain q ≡ false) e unnamed in cc) in
    let same : map_of (slice_set kept (page - 3) o) p ≡ map_of kept p = map_of-set kept page o low within p ∙ rw other refl in
    let len : length (slice_set kept (page - 3) o) ≡ length kept = length-set kept (page - 3) o in
    is_spare-from (slice_set kept (page - 3) o) p parts.0 (omega arith) (same ∙ parts.2))

-- The chain stays spare where the list is longer by a page.
pub are_spare-push : (kept : List (Option (List ℕ))) (chain : List ℕ) (bytes : List ℕ) → are_spare kept chain ≡ true
    → are_spare (kept ++ Some bytes ∷ []) chain ≡ true
are_spare-push kept chain bytes h =
    are_spare-stay kept (kept ++ Some bytes ∷ []) chain h (λ p named spare.
    let parts = is_spare-parts kept p spare in
    let other : (3 + length kept == p) ≡ false = ne_eqb _ _ (λ e. omega arith) in
    let put : put_page (map_of kept) (3 + length kept) bytes p ≡ map_of kept p = rw other refl in
    let same : map_of (kept ++ Some bytes ∷ []) p ≡ map_of kept p =
    ap (λ (m : PageMap). m p) (map_of-push kept bytes) ∙ put in
    let len : length (kept ++ Some bytes ∷ []) ≡ length kept + 1 = length_push kept (Some bytes) in
    is_spare-from (kept ++ Some bytes ∷ []) p parts.0 (omega arith) (same ∙ parts.2))

-- A page that is emptied comes first in the chain.
pub are_spare-free : (kept : List (Option (List ℕ))) (chain : List ℕ) (page : ℕ) → are_spare kept chain ≡ true
    → IsSome (map_of kept page) → are_spare (slice_set kept (page - 3) None) (page ∷ chain) ≡ true
are_spare-free kept chain page h there =
    let place = map_of-place kept page there in
    let unnamed = there-unnamed kept chain page h there in
    let named : (page == page) ≡ true = eq-eqb page page refl in
    let none : map_of (slice_set kept (page - 3) None) page ≡ None = map_of-set kept page None place.0 place.1 page ∙ rw named refl in
    let len : length (slice_set kept (page - 3) None) ≡ length kept = length-set kept (page - 3) None in
    let spare = is_spare-from (slice_set kept (page - 3) None) page place.0 (omega arith) none in
    let rest = are_spare-set kept chain page None h place.0 place.1 unnamed in
    and_true (is_spare (slice_set kept (page - 3) None) page && not (names_page chain page)) (are_spare (slice_set kept (page - 3) None) chain)
    (and_true (is_spare (slice_set kept (page - 3) None) page) (not (names_page chain page)) spare (rw unnamed refl)) rest

-- the last of the list comes first where it is reversed
pub reverse_push : (xs : List ℕ) (x : ℕ) → reverse (xs ++ x ∷ []) ≡ x ∷ reverse xs
reverse_push xs x = reverse-append xs (x ∷ [])

-- the map after a page of the list is overwritten
pub map_of-filled : (kept : List (Option (List ℕ))) (page : ℕ) (bytes : List ℕ) → 3 ≤ page → page - 3 < length kept
    → map_of (slice_set kept (page - 3) (Some bytes)) ≡ put_page (map_of kept) page bytes
map_of-filled kept page bytes low within = fun_ext (map_of-set kept page (Some bytes) low within)

-- What a stage in memory gives out of its chain: the page was not in the map, and the rest stays spare.
pub record IsTaken (kept filled : List (Option (List ℕ))) (page : ℕ) (bytes : List ℕ) (rest : List ℕ) : Type 0 where
  pub low : 3 ≤ page
  pub high : page < 3 + length filled
  pub absent : map_of kept page ≡ None
  pub map : map_of filled ≡ put_page (map_of kept) page bytes
  pub spare : are_spare filled rest ≡ true

pub taken_first : (kept filled : List (Option (List ℕ))) (chain freed : List ℕ) (page : ℕ) (bytes : List ℕ)
    → are_spare kept (reverse chain) ≡ true → chain ≡ freed ++ page ∷ [] → filled ≡ slice_set kept (page - 3) (Some bytes)
    → IsTaken kept filled page bytes (reverse freed)
taken_first kept filled chain freed page bytes spare last set =
    let turned : reverse chain ≡ page ∷ reverse freed = ap reverse last ∙ reverse_push freed page in
    let parts = are_spare-parts kept page (reverse freed) (subst (λ (c : List ℕ). are_spare kept c ≡ true) turned spare) in
    let first = is_spare-parts kept page parts.0 in
    let within : page - 3 < length kept = omega arith in
    let len : length filled ≡ length kept = ap length set ∙ length-set kept (page - 3) (Some bytes) in
    record {
      low = first.0;
      high = omega arith;
      absent = first.2;
      map = ap map_of set ∙ map_of-filled kept page bytes first.0 within;
      spare = rw set (are_spare-set kept (reverse freed) page (Some bytes) parts.2 first.0 within parts.1);
    }
