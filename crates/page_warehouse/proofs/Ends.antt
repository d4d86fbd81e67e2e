-- The ends of the box of an object that fits, in three dimensions.
use Rattle.std.proofs.Common.{◌≡◌, ℕ, zero, suc, ◌+◌, ◌-◌, ◌<◌, ◌≤◌, ◌&&◌, ◌==◌, nat_abs, nat_le, Bool, true, false, List, length, get_or, drop, slice_index, inl, inr, refl, sym, ◌∙◌, ap, arith}
use Rattle.std.specs.List.{list_all}
use Rattle.std.proofs.Math.ListN.{get_or-eq_default}
use Rattle.std.proofs.lemmas.Bool.{cases_lt, cases_eq, cases_Bool, and_from, and_parts, eq-eqb, eqb-true, le-leb, leb-true, ne_eqb}
use Rattle.std.proofs.lemmas.List.{get_or-drop, length-drop}
use Rattle.std.proofs.lemmas.List.Folds.{list_all_at}
use Rattle.bw_types.specs.Fits.{coefficient_count, ends_fit, greatest_number, object_fits}
use Rattle.bw_types.specs.Tally.{each_below}
use Rattle.bw_types.specs.declared.object.Object.{Object}
use Rattle.bw_types.specs.declared.params.Params.{Params}
use Rattle.page_layout.specs.Dated.{by_life_fits, end_fits}

at_one : (n i : ℕ) (p : ℕ → Bool) → each_below n p ≡ true → i < n → p i ≡ true
at_one zero i p h lt = absurd (omega (arith, lt))
at_one (suc n) i p h lt =
    let both = and_parts (each_below n p) (p n) h in
    elim (cases_lt i n) [
      | inl below ↦ at_one n i p both.0 below
      | inr above ↦ let e : i ≡ n = omega (arith, lt, above) in rw e both.1
    ]

greatest_below : (params : Params) → greatest_number params ≤ 4294967294
greatest_below params = elim (cases_eq params.origin 0) [
  | inl e ↦ rw (eq-eqb params.origin 0 e) (omega arith)
  | inr ne ↦ rw (ne_eqb params.origin 0 ne) (omega arith)
]

zero_at : (xs : List ℕ) (i : ℕ) → list_all (λ x. x == 0) xs ≡ true → i < length xs → get_or xs i 0 ≡ 0
zero_at xs i all within =
    elim (cases_Bool (get_or xs i 0 == 0)) [
      | inl passes ↦ eqb-true (get_or xs i 0) 0 passes
      | inr fails ↦ let none : list_all (λ x. x == 0) xs ≡ false = list_all_at (λ x. x == 0) xs i 0 within fails in let clash : true ≡ false = sym all ∙ none in absurd cc
    ]

zero_past : (xs : List ℕ) (n i : ℕ) → list_all (λ x. x == 0) (drop n xs) ≡ true → n ≤ i → get_or xs i 0 ≡ 0
zero_past xs n i all past =
    elim (cases_lt i (length xs)) [
      | inl within ↦
          let at : n + (i - n) ≡ i = omega (arith, past) in
          let long : length (drop n xs) ≡ length xs - n = length-drop n xs in
          sym (get_or-drop n xs (i - n) 0 ∙ ap (λ (k : ℕ). get_or xs k 0) at) ∙ zero_at (drop n xs) (i - n) all (omega (arith, long, past, within))
      | inr beyond ↦ get_or-eq_default xs 0 (omega (arith, beyond))
    ]

module _ (params : Params) (o : Object) (fits : object_fits params o ≡ true) where
  ends_here : (i : ℕ) → end_fits (slice_index o.low i) (slice_index o.high i) ≡ true
  ends_here i =
      let first = and_parts (ends_fit params o.low o.high && (list_all (λ x. x == 0) (drop params.dims o.low) && list_all (λ x. x == 0) (drop params.dims o.high))) (list_all (λ c. nat_abs c == 0) (drop (coefficient_count params) o.coeffs)) fits in
      let second = and_parts (ends_fit params o.low o.high) (list_all (λ x. x == 0) (drop params.dims o.low) && list_all (λ x. x == 0) (drop params.dims o.high)) first.0 in
      let zeros = and_parts (list_all (λ x. x == 0) (drop params.dims o.low)) (list_all (λ x. x == 0) (drop params.dims o.high)) second.1 in
      elim (cases_lt i params.dims) [
        | inl within ↦
            let here = at_one params.dims i (λ j. nat_le (slice_index o.low j) (slice_index o.high j) && nat_le (slice_index o.high j) (greatest_number params)) second.0 within in
            let both = and_parts (nat_le (slice_index o.low i) (slice_index o.high i)) (nat_le (slice_index o.high i) (greatest_number params)) here in
            let high : slice_index o.high i ≤ greatest_number params = leb-true (slice_index o.high i) (greatest_number params) both.1 in
            let most = greatest_below params in
            and_from (nat_le (slice_index o.low i) (slice_index o.high i)) (nat_le (slice_index o.high i) 4294967294) both.0 (le-leb (slice_index o.high i) 4294967294 (omega (arith, high, most)))
        | inr past ↦
            let low : slice_index o.low i ≡ 0 = zero_past o.low params.dims i zeros.0 (omega (arith, past)) in
            let high : slice_index o.high i ≡ 0 = zero_past o.high params.dims i zeros.1 (omega (arith, past)) in
            rw (low, high) refl
      ]

  -- a life of it that has not ended is one that a leaf may spell
  pub begun_fits : (life version event : ℕ) → 1 ≤ life → 1 ≤ version
      → by_life_fits (record { object = o; life = life; added = version; add_event = event; withdrawn = 0; withdraw_event = 0 }) ≡ true
  begun_fits life version event some first =
      let one = ends_here 0 in
      let two = ends_here 1 in
      let three = ends_here 2 in
      let from = le-leb 1 version first in
      let number = le-leb 1 life some in
      rw (one, two, three, from, number) refl
