-- What stands at the places of an object's fields, and lists that are given value by value.
use Rattle.std.proofs.Common.{◌≡◌, ℕ, zero, suc, ◌+◌, ◌-◌, ◌*◌, ◌<◌, ◌≤◌, Bool, true, ◌==◌, List, [], ◌∷◌, ◌++◌, length, get_or, take, drop, replicate, slice_index, Option, Some, option_map, ℤ, pos, negsuc, nat_abs, refl, sym, ◌∙◌, ap, ap₂, arith, inl, inr, length-take-le, length-drop, take-append-drop, eqb-true}
use Rattle.std.specs.Fmt.{signed_decimal}
use Rattle.std.specs.List.{list_all}
use Rattle.std.proofs.lemmas.Bool.{and_parts, cases_lt}
use Rattle.std.proofs.lemmas.List.{take_more}
use Rattle.bw_types.specs.Tally.{each_below}
use Rattle.bw_types.specs.declared.object.Object.{Object}
use Rattle.bw_types.specs.declared.params.Params.{Params}
use Rattle.csv_rows.specs.Fields.{field_at}
use Rattle.csv_rows.specs.Input.{each_given, filled, given}
use Rattle.history_text.proofs.RowFields.{end_of, ends_from, numbers}

-- the field behind three others
pub past_three : (a b c : List ℕ) (rest : List (List ℕ)) (place k : ℕ) → k ≡ suc (suc (suc place)) → field_at (a ∷ b ∷ c ∷ rest) k ≡ field_at rest place
past_three a b c rest place k e = ap (λ (n : ℕ). field_at (a ∷ b ∷ c ∷ rest) n) e

-- the low end of a dimension, and the high one behind it
pub low_at : (params : Params) (o : Object) (rest : List (List ℕ)) (i n k : ℕ) → k < n → field_at (ends_from params o i n ++ rest) (2 * k) ≡ end_of params (slice_index o.low (i + k))
low_at params o rest i zero k h = absurd (omega arith)
low_at params o rest i (suc n) zero h = let same : i ≡ i + 0 = omega arith in ap (λ (j : ℕ). end_of params (slice_index o.low j)) same
low_at params o rest i (suc n) (suc k) h =
    let place : 2 * suc k ≡ suc (suc (2 * k)) = omega arith in
    let same : (i + 1) + k ≡ i + suc k = omega arith in
    ap (λ (m : ℕ). field_at (ends_from params o i (suc n) ++ rest) m) place ∙ low_at params o rest (i + 1) n k (omega arith) ∙ ap (λ (j : ℕ). end_of params (slice_index o.low j)) same

-- its high end stands behind that
pub high_at : (params : Params) (o : Object) (rest : List (List ℕ)) (i n k : ℕ) → k < n → field_at (ends_from params o i n ++ rest) (2 * k + 1) ≡ end_of params (slice_index o.high (i + k))
high_at params o rest i zero k h = absurd (omega arith)
high_at params o rest i (suc n) zero h = let same : i ≡ i + 0 = omega arith in ap (λ (j : ℕ). end_of params (slice_index o.high j)) same
high_at params o rest i (suc n) (suc k) h =
    let place : 2 * suc k + 1 ≡ suc (suc (2 * k + 1)) = omega arith in
    let same : (i + 1) + k ≡ i + suc k = omega arith in
    ap (λ (m : ℕ). field_at (ends_from params o i (suc n) ++ rest) m) place ∙ high_at params o rest (i + 1) n k (omega arith) ∙ ap (λ (j : ℕ). end_of params (slice_index o.high j)) same

-- what stands behind the ends
pub past_ends : (params : Params) (o : Object) (rest : List (List ℕ)) (i n k : ℕ) → field_at (ends_from params o i n ++ rest) (2 * n + k) ≡ field_at rest k
past_ends params o rest i zero k = let place : 2 * 0 + k ≡ k = omega arith in ap (λ (m : ℕ). field_at rest m) place
past_ends params o rest i (suc n) k =
    let place : 2 * suc n + k ≡ suc (suc (2 * n + k)) = omega arith in
    ap (λ (m : ℕ). field_at (ends_from params o i (suc n) ++ rest) m) place ∙ past_ends params o rest (i + 1) n k

-- one of some numbers
pub number_at : (zs : List ℤ) (count k : ℕ) → k < count → k < length zs → field_at (numbers (take count zs)) k ≡ signed_decimal (get_or zs k (pos 0))
number_at [] count k h within = absurd (omega arith)
number_at (z ∷ zs) zero k h within = absurd (omega arith)
number_at (z ∷ zs) (suc count) zero h within = refl
number_at (z ∷ zs) (suc count) (suc k) h within = number_at zs count k (omega arith) (omega arith)

-- a test that holds below n holds of a number below n
pub below_true : (n i : ℕ) (p : ℕ → Bool) → each_below n p ≡ true → i < n → p i ≡ true
below_true zero i p h less = absurd (omega arith)
below_true (suc n) i p h less =
    let both = and_parts (each_below n p) (p n) h in
    elim (cases_lt i n) [
      | inl lt ↦ below_true n i p both.0 lt
      | inr ge ↦ let same : i ≡ n = omega arith in ap p same ∙ both.1
    ]

-- what is given value by value
pub each_is : {A : Type 0} (f : ℕ → Option A) (xs : List A) (d : A) (n : ℕ) → n ≤ length xs → ((i : ℕ) → i < n → f i ≡ Some (get_or xs i d)) → each_given n f ≡ Some (take n xs)
each_is f xs d zero within is = refl
each_is f xs d (suc n) within is =
    let one : n + 1 ≡ suc n = omega arith in
    ap (λ o. given o (λ ys. option_map (λ x. ys ++ x ∷ []) (f n))) (each_is f xs d n (omega arith) (λ i less. is i (omega arith)))
    ∙ ap (option_map (λ x. take n xs ++ x ∷ [])) (is n (omega arith))
    ∙ ap Some (sym (take_more xs n d (omega arith)))
    ∙ ap (λ m. Some (take m xs)) one

-- a front that is filled up with zeros again, where zeros stood behind it
pub filled_back : {A : Type 0} (n : ℕ) (z : A) (k : ℕ) (xs : List A) → length xs ≡ n → k ≤ n → drop k xs ≡ replicate (length (drop k xs)) z → filled n z (take k xs) ≡ xs
filled_back n z k xs long few zeros =
    let front : length (take k xs) ≡ k = length-take-le k xs (omega arith) in
    let room : n - length (take k xs) ≡ length (drop k xs) = (let rest = length-drop k xs in omega (arith, front, rest)) in
    ap (λ (m : ℕ). take k xs ++ replicate m z) room ∙ ap (λ ys. take k xs ++ ys) (sym zeros) ∙ take-append-drop k xs

-- numbers that are all 0
pub zeros_are : (xs : List ℕ) → list_all (λ x. x == 0) xs ≡ true → xs ≡ replicate (length xs) 0
zeros_are [] e = refl
zeros_are (x ∷ xs) e =
    let both = and_parts (x == 0) (list_all (λ y. y == 0) xs) e in
    ap₂ (λ (y : ℕ) (ys : List ℕ). y ∷ ys) (eqb-true x 0 both.0) (zeros_are xs both.1)

-- a signed number of no size
zero_is : (z : ℤ) → (nat_abs z == 0) ≡ true → z ≡ pos 0
zero_is (pos n) e = ap pos (eqb-true n 0 e)
zero_is (negsuc n) e = let none : suc n ≡ 0 = eqb-true (suc n) 0 e in absurd (omega arith)

-- signed numbers that are all 0
pub signed_zeros : (zs : List ℤ) → list_all (λ c. nat_abs c == 0) zs ≡ true → zs ≡ replicate (length zs) (pos 0)
signed_zeros [] e = refl
signed_zeros (z ∷ zs) e =
    let both = and_parts (nat_abs z == 0) (list_all (λ c. nat_abs c == 0) zs) e in
    ap₂ (λ (y : ℤ) (ys : List ℤ). y ∷ ys) (zero_is z both.0) (signed_zeros zs both.1)
