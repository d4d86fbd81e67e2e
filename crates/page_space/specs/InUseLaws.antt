-- What a change of the bytes makes of the pages in use.
use Rattle.std.specs.Prelude.{◌≡◌, ◌≢◌, ℕ, ◌<◌, ◌≤◌, ◌==◌, nat_le, nat_lt, not, true, List, Some, None, Option, IsSome, slice_index, refl}
use Rattle.std.proofs.Common.{sym, ◌∙◌, ap, subst, inl, inr, arith}
use Rattle.std.proofs.Math.Path.{fun_ext}
use Rattle.std.proofs.lemmas.Bool.{cases_Bool, cases_eq, both_ways, and_parts, and_from, not-true, not_from_false, ltb-true, leb-true, lt-ltb, le-leb, eqb-false, eq-eqb, ne_eqb, cond-true, cond-false}
use Rattle.std.proofs.lemmas.Option.{cond_some}
use Rattle.ports.specs.Pages.{put_page, remove_page}
use Rattle.page_space.specs.Bytes.{PageBytes, bytes_with}
use Rattle.page_space.specs.InUse.{is_given_out, is_free_kind, is_in_use, pages_in_use}

pub record IsInUse (bytes : PageBytes) (allotted page : ℕ) : Type 0 where
  pub low : 3 ≤ page
  pub high : page < allotted
  pub kind : slice_index (bytes page) 0 ≢ 9

pub in_use_facts : (bytes : PageBytes) (allotted page : ℕ) → is_in_use bytes allotted page ≡ true → IsInUse bytes allotted page
in_use_facts bytes allotted page h =
    let parts = and_parts (is_given_out allotted page) (not (is_free_kind (bytes page))) h in
    let ends = and_parts (nat_le 3 page) (nat_lt page allotted) parts.0 in
    record {
      low = leb-true 3 page ends.0;
      high = ltb-true page allotted ends.1;
      kind = eqb-false (slice_index (bytes page) 0) 9 (not-true _ parts.1);
    }

pub in_use_test : (bytes : PageBytes) (allotted page : ℕ) → IsInUse bytes allotted page → is_in_use bytes allotted page ≡ true
in_use_test bytes allotted page h =
    and_from _ _ (and_from _ _ (le-leb 3 page h.low) (lt-ltb page allotted h.high)) (not_from_false _ (ne_eqb _ _ h.kind))

pub in_use-some : (bytes : PageBytes) (allotted page : ℕ) → IsInUse bytes allotted page → pages_in_use bytes allotted page ≡ Some (bytes page)
in_use-some bytes allotted page h = cond-true _ _ _ (in_use_test bytes allotted page h)

pub in_use-none : (bytes : PageBytes) (allotted page : ℕ) → (IsInUse bytes allotted page → ⊥) → pages_in_use bytes allotted page ≡ None
in_use-none bytes allotted page h = elim (cases_Bool (is_in_use bytes allotted page)) [
  | inl held ↦ absurd (h (in_use_facts bytes allotted page held))
  | inr fails ↦ cond-false _ _ _ fails
]

pub some_in_use : (bytes : PageBytes) (allotted page : ℕ) (found : List ℕ) → pages_in_use bytes allotted page ≡ Some found
    → IsInUse bytes allotted page × (bytes page ≡ found)
some_in_use bytes allotted page found h =
    let parts = cond_some (is_in_use bytes allotted page) (bytes page) found h in
    (in_use_facts bytes allotted page parts.0, parts.1)

missing : (o : Option (List ℕ)) → o ≡ None → IsSome o → ⊥
missing None e h = cc
missing (Some x) e h = cc

pub there_in_use : (bytes : PageBytes) (allotted page : ℕ) → IsSome (pages_in_use bytes allotted page) → IsInUse bytes allotted page
there_in_use bytes allotted page h = elim (cases_Bool (is_in_use bytes allotted page)) [
  | inl held ↦ in_use_facts bytes allotted page held
  | inr fails ↦ absurd (missing _ (cond-false _ _ _ fails) h)
]

-- Two maps have the same at a page where it is in use in both, with the same bytes, or in neither.
pub in_use-agree : (b c : PageBytes) (m n page : ℕ) → (IsInUse b m page → IsInUse c n page × (c page ≡ b page)) → (IsInUse c n page → IsInUse b m page)
    → pages_in_use b m page ≡ pages_in_use c n page
in_use-agree b c m n page there back = elim (cases_Bool (is_in_use b m page)) [
  | inl held ↦
      let used : IsInUse b m page = in_use_facts b m page held in
      let others = there used in
      in_use-some b m page used ∙ ap (λ (x : List ℕ). Some x) (sym others.1) ∙ sym (in_use-some c n page others.0)
  | inr fails ↦
      let unused : IsInUse b m page → ⊥ = λ h. both_ways _ fails (in_use_test b m page h) in
      in_use-none b m page unused ∙ sym (in_use-none c n page (λ h. unused (back h)))
]

-- Bytes that are the same at each page given out have the same pages in use.
pub in_use-same : (b c : PageBytes) (allotted : ℕ) → ((page : ℕ) → page < allotted → c page ≡ b page)
    → pages_in_use b allotted ≡ pages_in_use c allotted
in_use-same b c allotted same = fun_ext (λ page. in_use-agree b c allotted allotted page
    (λ h. (record { low = h.low; high = h.high; kind = λ e. h.kind (ap (λ (x : List ℕ). slice_index x 0) (sym (same page h.high)) ∙ e) }, same page h.high))
    (λ h. record { low = h.low; high = h.high; kind = λ e. h.kind (ap (λ (x : List ℕ). slice_index x 0) (same page h.high) ∙ e) }))

module _ (b : PageBytes) (page : ℕ) (image : List ℕ) where
  pub bytes_at : bytes_with b page image page ≡ image
  bytes_at = cond-true _ _ _ (eq-eqb page page refl)

  pub bytes_beside : (p : ℕ) → page ≢ p → bytes_with b page image p ≡ b p
  bytes_beside p differs = cond-false _ _ _ (ne_eqb page p differs)

  module _ (m n : ℕ) (more : m ≤ n) (only : (p : ℕ) → page ≢ p → p < n → p < m) where
    beside : (p : ℕ) → page ≢ p → pages_in_use (bytes_with b page image) n p ≡ pages_in_use b m p
    beside p differs =
        let same : bytes_with b page image p ≡ b p = bytes_beside p differs in
        in_use-agree (bytes_with b page image) b n m p
        (λ h. (record { low = h.low; high = only p differs h.high; kind = λ e. h.kind (ap (λ (x : List ℕ). slice_index x 0) same ∙ e) }, sym same))
        (λ h. record { low = h.low; high = let a : p < m = h.high in omega arith; kind = λ e. h.kind (ap (λ (x : List ℕ). slice_index x 0) (sym same) ∙ e) })

    -- A page that is given out and does not begin as a free page is put into the map.
    pub in_use-put : 3 ≤ page → page < n → slice_index image 0 ≢ 9
        → pages_in_use (bytes_with b page image) n ≡ put_page (pages_in_use b m) page image
    in_use-put low high kind = fun_ext (λ p. elim (cases_eq page p) [
      | inl same ↦ subst (λ q. pages_in_use (bytes_with b page image) n q ≡ put_page (pages_in_use b m) page image q) same
          (in_use-some (bytes_with b page image) n page
          (record { low = low; high = high; kind = λ e. kind (ap (λ (x : List ℕ). slice_index x 0) (sym bytes_at) ∙ e) })
          ∙ ap (λ (x : List ℕ). Some x) bytes_at
          ∙ sym (cond-true (page == page) (Some image) (pages_in_use b m page) (eq-eqb page page refl)))
      | inr differs ↦ beside p differs ∙ sym (cond-false (page == p) (Some image) (pages_in_use b m p) (ne_eqb page p differs))
    ])

    -- A page that begins as a free page is taken out of the map.
    pub in_use-remove : slice_index image 0 ≡ 9 → pages_in_use (bytes_with b page image) n ≡ remove_page (pages_in_use b m) page
    in_use-remove kind = fun_ext (λ p. elim (cases_eq page p) [
      | inl same ↦ subst (λ q. pages_in_use (bytes_with b page image) n q ≡ remove_page (pages_in_use b m) page q) same
          (in_use-none (bytes_with b page image) n page (λ h. h.kind (ap (λ (x : List ℕ). slice_index x 0) bytes_at ∙ kind))
          ∙ sym (cond-true (page == page) None (pages_in_use b m page) (eq-eqb page page refl)))
      | inr differs ↦ beside p differs ∙ sym (cond-false (page == p) None (pages_in_use b m p) (ne_eqb page p differs))
    ])
