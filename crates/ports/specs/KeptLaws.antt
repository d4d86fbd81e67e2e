-- What a change of the list does to its map.
use Rattle.std.specs.Prelude.{◌≡◌, ◌≢◌, ℕ, ◌+◌, ◌-◌, ◌<◌, ◌≤◌, ◌==◌, nat_le, true, false, List, [], ◌∷◌, ◌++◌, length, slice_index, slice_set, Option, Some, None, IsSome, refl}
use Rattle.std.proofs.Common.{sym, ◌∙◌, subst, ap, inl, inr, arith}
use Rattle.std.proofs.Math.Path.{fun_ext}
use Rattle.std.proofs.lemmas.Bool.{cases_lt, cases_eq, eq-eqb, ne_eqb, le-leb, lt-leb}
use Rattle.std.proofs.lemmas.List.{get_or_past, get_or_append_left, get_or_push, length_push, length-map, map-set, map_push}
use Rattle.ports.specs.Pages.{put_page, blank_bytes}
use Rattle.ports.specs.Kept.{freed_bytes, used_bytes, kept_of, map_of}
use Rattle.ports.specs.declared.page.TheConstants.{FREE_PAGE}

pub used_bytes-other : (bytes : List ℕ) → slice_index bytes 0 ≢ FREE_PAGE → used_bytes bytes ≡ Some bytes
used_bytes-other bytes kind = rw (ne_eqb _ _ kind) refl

pub used_bytes-blank : used_bytes blank_bytes ≡ Some blank_bytes
unfolding blank_bytes
used_bytes-blank = refl

pub used_bytes-free : used_bytes freed_bytes ≡ None
unfolding freed_bytes
used_bytes-free = refl

pub kept_of-length : (pages : List (List ℕ)) → length (kept_of pages) ≡ length pages
kept_of-length pages = length-map pages used_bytes

pub kept_of-set : (pages filled : List (List ℕ)) (place : ℕ) (bytes : List ℕ) (o : Option (List ℕ)) → filled ≡ slice_set pages place bytes
    → used_bytes bytes ≡ o → kept_of filled ≡ slice_set (kept_of pages) place o
kept_of-set pages filled place bytes o set kind =
    ap kept_of set ∙ map-set used_bytes pages place bytes ∙ ap (λ (x : Option (List ℕ)). slice_set (kept_of pages) place x) kind

pub kept_of-push : (pages : List (List ℕ)) (bytes : List ℕ) → used_bytes bytes ≡ Some bytes
    → kept_of (pages ++ bytes ∷ []) ≡ kept_of pages ++ Some bytes ∷ []
kept_of-push pages bytes kind = map_push used_bytes pages bytes ∙ ap (λ (x : Option (List ℕ)). kept_of pages ++ x ∷ []) kind

-- A page that is in the map has a place in the list.
pub map_of-place : (kept : List (Option (List ℕ))) (page : ℕ) → IsSome (map_of kept page) → (3 ≤ page) × (page - 3 < length kept)
map_of-place kept page h = elim (cases_lt page 3) [
  | inl low ↦ let below : nat_le 3 page ≡ false = lt-leb _ _ low in
      let none : map_of kept page ≡ None = rw below refl in
      absurd (let h' : IsSome {T = List ℕ} None = subst (λ o. IsSome o) none h in cc)
  | inr high ↦ elim (cases_lt (page - 3) (length kept)) [
    | inl within ↦ (high, within)
    | inr past ↦ let above : nat_le 3 page ≡ true = le-leb _ _ high in
        let none : map_of kept page ≡ None = rw above (get_or_past kept (page - 3) None past) in
        absurd (let h' : IsSome {T = List ℕ} None = subst (λ o. IsSome o) none h in cc)
  ]
]

pub map_of-below : (kept : List (Option (List ℕ))) (page : ℕ) (bytes : List ℕ) → map_of kept page ≡ Some bytes → page < 3 + length kept
map_of-below kept page bytes there =
    let place = map_of-place kept page (subst (λ o. IsSome o) (sym there) refl) in
    omega arith

pub map_of-from : (kept : List (Option (List ℕ))) (page : ℕ) (bytes : List ℕ) → map_of kept page ≡ Some bytes → 3 ≤ page
map_of-from kept page bytes there = (map_of-place kept page (subst (λ o. IsSome o) (sym there) refl)).0

pub map_of-end : (kept : List (Option (List ℕ))) → map_of kept (3 + length kept) ≡ None
map_of-end kept =
    let above : nat_le 3 (3 + length kept) ≡ true = le-leb _ _ (omega arith) in
    rw above (get_or_past kept (3 + length kept - 3) None (omega arith))

-- One more page at the list's end.
pub map_of-push : (kept : List (Option (List ℕ))) (bytes : List ℕ)
    → map_of (kept ++ Some bytes ∷ []) ≡ put_page (map_of kept) (3 + length kept) bytes
map_of-push kept bytes = fun_ext (λ page. elim (cases_lt page 3) [
  | inl low ↦ let below : nat_le 3 page ≡ false = lt-leb _ _ low in
      let other : (3 + length kept == page) ≡ false = ne_eqb _ _ (λ e. omega arith) in
      rw (below, other) refl
  | inr high ↦ let above : nat_le 3 page ≡ true = le-leb _ _ high in
      elim (cases_lt (page - 3) (length kept)) [
        | inl within ↦ let other : (3 + length kept == page) ≡ false = ne_eqb _ _ (λ e. omega arith) in
            rw (above, other) (get_or_append_left kept (Some bytes ∷ []) None (page - 3) within)
        | inr past ↦ elim (cases_eq (3 + length kept) page) [
          | inl same ↦ let named : (3 + length kept == page) ≡ true = eq-eqb _ _ same in
              rw (above, named) (get_or_push kept (Some bytes) None (page - 3) (omega arith))
          | inr differs ↦ let other : (3 + length kept == page) ≡ false = ne_eqb _ _ differs in
              let far : length (kept ++ Some bytes ∷ []) ≤ page - 3 = rw length_push (omega arith) in
              rw (above, other) (get_or_past _ (page - 3) None far ∙ sym (get_or_past kept (page - 3) None past))
        ]
      ]
])

-- A page of the map has a place in the list, which may have places of freed pages too.
pub kept_of-below : (pages : List (List ℕ)) (page : ℕ) (bytes : List ℕ) → map_of (kept_of pages) page ≡ Some bytes → page < 3 + length pages
kept_of-below pages page bytes there =
    let below : page < 3 + length (kept_of pages) = map_of-below (kept_of pages) page bytes there in
    let len : length (kept_of pages) ≡ length pages = kept_of-length pages in
    omega arith
