-- Lists of pages that name none twice.
use Rattle.std.proofs.Common.{◌≡◌, ℕ, ◌==◌, false, ◌||◌, Bool, true, inl, inr, List, [], ◌∷◌, ◌++◌, Option, None, Some, IsSome, refl, sym, ap, ◌∙◌, subst}
use Rattle.std.proofs.lemmas.Bool.{or_left, or_cases, or_parts, or_from, eq-eqb, eqb-true, ne_eqb, cases_eq, cases_Bool}
use Rattle.ports.specs.Frame.{names_page, AreApart, AreInMap, Replaces}
use Rattle.ports.specs.Pages.{PageMap}
use Rattle.ports.specs.FrameLaws.{names_page-append, Replaces-agree, Replaces-apart}
use Rattle.page_layout.specs.Footprint.{NamesNoneTwice}
use Rattle.page_layout.specs.FootprintLaws.{named_by_neither, once_left, once_right, once_apart, once_join}

some_not_none : (o : Option (List ℕ)) → IsSome o → o ≡ None → ⊥
some_not_none None h e = cc
some_not_none (Some x) h e = cc

pub apart_from_missing : (m : PageMap) (page other : ℕ) → IsSome (m page) → m other ≡ None → (page == other) ≡ false
apart_from_missing m page other there missing = elim (cases_eq page other) [
  | inl same ↦ absurd (some_not_none (m page) there (ap m same ∙ missing))
  | inr differ ↦ ne_eqb page other differ
]

false_true : false ≡ true → ⊥
false_true e = cc

pub eqb_swap : (a b : ℕ) → (a == b) ≡ false → (b == a) ≡ false
eqb_swap a b h = elim (cases_eq b a) [
  | inl same ↦ absurd (false_true (sym h ∙ eq-eqb a b (sym same)))
  | inr differ ↦ ne_eqb b a differ
]

opposite : {b : Bool} → b ≡ false → b ≡ true → ⊥
opposite e f = cc

-- A change below, and then of the node's own page and maybe of a new one.
pub replaced_node : (P0 P1 Q : List ℕ) (m0 m1 m2 : PageMap) (page : ℕ) → Replaces P0 P1 m0 m1
    → ((p : ℕ) → names_page Q p ≡ (page == p || names_page P1 p)) → ((p : ℕ) → (page == p) ≡ false → m2 p ≡ m1 p) → Replaces (page ∷ P0) Q m0 m2
replaced_node P0 P1 Q m0 m1 m2 page r names others = record {
  others = λ p no_old no_new.
      let o = or_parts (page == p) (names_page P0 p) no_old in
      let n = or_parts (page == p) (names_page P1 p) (sym (names p) ∙ no_new) in
      others p o.0 ∙ r.others p o.1 n.1;
  fresh = λ p no_old new.
      let o = or_parts (page == p) (names_page P0 p) no_old in
      elim (or_cases (page == p) (names_page P1 p) (sym (names p) ∙ new)) [
        | inl here ↦ absurd (opposite o.0 here)
        | inr below ↦ r.fresh p o.1 below
      ];
  gone = λ p old no_new.
      let n = or_parts (page == p) (names_page P1 p) (sym (names p) ∙ no_new) in
      elim (or_cases (page == p) (names_page P0 p) old) [
        | inl here ↦ absurd (opposite n.0 here)
        | inr below ↦ others p n.0 ∙ r.gone p below n.1
      ];
}

pub replaced_two : (P0 P1 Q : List ℕ) (m0 m1 m2 : PageMap) (page second : ℕ) → Replaces P0 P1 m0 m1 → m1 second ≡ None → names_page P1 second ≡ false
    → ((p : ℕ) → names_page Q p ≡ (page == p || (second == p || names_page P1 p))) → ((p : ℕ) → (page == p) ≡ false → (second == p) ≡ false → m2 p ≡ m1 p)
    → Replaces (page ∷ P0) Q m0 m2
replaced_two P0 P1 Q m0 m1 m2 page second r missing apart names others = record {
  others = λ p no_old no_new.
      let o = or_parts (page == p) (names_page P0 p) no_old in
      let n = or_parts (page == p) (second == p || names_page P1 p) (sym (names p) ∙ no_new) in
      let n2 = or_parts (second == p) (names_page P1 p) n.1 in
      others p o.0 n2.0 ∙ r.others p o.1 n2.1;
  fresh = λ p no_old new.
      let o = or_parts (page == p) (names_page P0 p) no_old in
      elim (or_cases (page == p) (second == p || names_page P1 p) (sym (names p) ∙ new)) [
        | inl here ↦ absurd (opposite o.0 here)
        | inr rest ↦ elim (or_cases (second == p) (names_page P1 p) rest) [
          | inl here ↦
              let same = eqb-true second p here in
              sym (r.others p o.1 (subst (λ (q : ℕ). names_page P1 q ≡ false) same apart)) ∙ subst (λ (q : ℕ). m1 q ≡ None) same missing
          | inr below ↦ r.fresh p o.1 below
        ]
      ];
  gone = λ p old no_new.
      let n = or_parts (page == p) (second == p || names_page P1 p) (sym (names p) ∙ no_new) in
      let n2 = or_parts (second == p) (names_page P1 p) n.1 in
      elim (or_cases (page == p) (names_page P0 p) old) [
        | inl here ↦ absurd (opposite n.0 here)
        | inr below ↦ others p n.0 n2.0 ∙ r.gone p below n2.1
      ];
}

pub page_apart : (page : ℕ) (xs : List ℕ) → names_page xs page ≡ false → (p : ℕ) → names_page xs p ≡ true → (page == p) ≡ false
page_apart page xs none p named = elim (cases_Bool (page == p)) [
  | inl same ↦ absurd (opposite none (subst (λ (q : ℕ). names_page xs q ≡ true) (sym (eqb-true page p same)) named))
  | inr other ↦ other
]

-- What a change below the node's page leaves of it.
pub page_kept : (P0 P1 : List ℕ) (m0 m1 : PageMap) (page : ℕ) → Replaces P0 P1 m0 m1 → IsSome (m0 page) → names_page P0 page ≡ false
    → (names_page P1 page ≡ false) × (m1 page ≡ m0 page)
page_kept P0 P1 m0 m1 page r there apart =
    let one : AreInMap m0 (page ∷ []) = λ p named. elim (or_cases (page == p) false named) [
      | inl same ↦ subst (λ (q : ℕ). IsSome (m0 q)) (eqb-true page p same) there
      | inr none ↦ cc
    ] in
    let away : AreApart (page ∷ []) P0 = λ p named. elim (or_cases (page == p) false named) [
      | inl same ↦ subst (λ (q : ℕ). names_page P0 q ≡ false) (eqb-true page p same) apart
      | inr none ↦ cc
    ] in
    let own : names_page (page ∷ []) page ≡ true = or_left (page == page) false (eq-eqb page page refl) in
    (Replaces-apart (page ∷ []) P0 P1 m0 m1 r one away page own, Replaces-agree (page ∷ []) P0 P1 m0 m1 r one away page own)

some_none : (o : Option (List ℕ)) → IsSome o → o ≡ None → ⊥
some_none None h e = cc
some_none (Some x) h e = cc

pub in_list_some : (m : PageMap) (ps : List ℕ) (second : ℕ) → AreInMap m ps → m second ≡ None → names_page ps second ≡ false
in_list_some m ps second there missing = elim (cases_Bool (names_page ps second)) [
  | inl named ↦ absurd (some_none (m second) (there second named) missing)
  | inr none ↦ none
]

or_swap : (a b c : Bool) → (a || (b || c)) ≡ (b || (a || c))
or_swap a b c = elim a as (λ v. (v || (b || c)) ≡ (b || (v || c))) [
  | true ↦ elim b as (λ w. true ≡ (w || true)) [ true ↦ refl | false ↦ refl ]
  | false ↦ refl
]

pub two_names : (page second : ℕ) (xs ys : List ℕ) (p : ℕ) → names_page ((page ∷ xs) ++ (second ∷ ys)) p ≡ (page == p || (second == p || names_page (xs ++ ys) p))
two_names page second xs ys p =
    ap (λ (b : Bool). page == p || b) (names_page-append xs (second ∷ ys) p ∙ or_swap (names_page xs p) (second == p) (names_page ys p)
    ∙ ap (λ (b : Bool). second == p || b) (sym (names_page-append xs ys p)))

pub two_once : (page second : ℕ) (xs ys : List ℕ) → NamesNoneTwice (xs ++ ys) → names_page (xs ++ ys) page ≡ false → names_page (xs ++ ys) second ≡ false → (page == second) ≡ false
    → NamesNoneTwice ((page ∷ xs) ++ (second ∷ ys))
two_once page second xs ys once no_page no_second differ =
    let a = named_by_neither xs ys page no_page in
    let b = named_by_neither xs ys second no_second in
    let apart = once_apart xs ys once in (
      names_page-append xs (second ∷ ys) page ∙ or_from (names_page xs page) (second == page || names_page ys page) a.0 (or_from (second == page) (names_page ys page) (eqb_swap page second differ) a.1),
      once_join xs (second ∷ ys) (once_left xs ys once) (b.1, once_right xs ys once)
          (λ p named. or_from (second == p) (names_page ys p) (page_apart second xs b.0 p named) (apart p named)),
    )
