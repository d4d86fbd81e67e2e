-- The line of a row that fits is read as that row in session 1.
use Rattle.std.proofs.Common.{◌≡◌, ℕ, suc, ◌+◌, ◌*◌, ◌^◌, ◌<◌, ◌≤◌, Bool, true, ◌&&◌, ◌==◌, nat_le, List, ◌∷◌, ◌++◌, length, get_or, take, drop, slice_index, Option, Some, None, IfSome, option_map, ℤ, pos, nat_abs, refl, ◌∙◌, ap, arith, if◌then◌else◌, codes, le-leb, leb-true, eq-eqb}
use Rattle.std.specs.Fmt.{decimal, signed_decimal}
use Rattle.std.specs.List.{All, list_all}
use Rattle.std.specs.Option.{option_map_or}
use Rattle.std.proofs.lemmas.Bool.{and_parts}
use Rattle.std.proofs.lemmas.List.Elements.{All-get_or}
use Rattle.bw_types.proofs.Below.{power_bound}
use Rattle.bw_types.specs.Fits.{IsInRange, coefficient_count, ends_fit, greatest_number, object_fits, row_fits}
use Rattle.bw_types.specs.declared.object.Object.{Object}
use Rattle.bw_types.specs.declared.params.Params.{Params}
use Rattle.bw_types.specs.declared.row.Row.{Row}
use Rattle.bw_types.specs.declared.row.Row.TheVariants as row
use Rattle.csv_rows.specs.Fields.{field_at, line_fields}
use Rattle.csv_rows.specs.Input.{coefficients_at, ends_at, filled, fitting, given, id_of, input, longest_line, object_fields, object_of, row_of, session_of, staged_object, stored_of, weight_of}
use Rattle.csv_rows.specs.declared.input.Input.TheVariants.{Stage, Commit}
use Rattle.history_text.specs.Rebuilt.{Has64Bits, HasSizes}
use Rattle.history_text.proofs.FieldPlaces.{below_true, each_is, filled_back, high_at, low_at, number_at, past_ends, past_three, signed_zeros, zeros_are}
use Rattle.history_text.proofs.FieldsCut.{fields_read, line_short}
use Rattle.history_text.proofs.NumbersRead.{id_read, stored_read, weight_read}
use Rattle.history_text.proofs.RowFields.{end_of, ends_from, list_are_fields, numbers, object_count, object_list, row_line, row_list, row_word, word_is_field}

-- The numbers of a row have the sizes of their fields.
abbrev pub RowHasSizes : Row → Type 0
RowHasSizes (row.Add o) = HasSizes o
RowHasSizes (row.Withdraw id) = id < 2 ^ 64
RowHasSizes (row.Move o) = HasSizes o

-- what is made of a value that is there
given_is : {A B : Type 0} (o : Option A) (f : A → Option B) (a : A) → o ≡ Some a → given o f ≡ f a
given_is o f a e = ap (λ p. given p f) e

-- there are at most 27 coefficients
some_degree : (degree : Option ℕ) (dims : ℕ) → IfSome degree (λ g. g ≤ 2) → dims ≤ 3 → option_map_or (λ (g : ℕ). (g + 1) ^ dims) degree 0 ≤ 27
some_degree None dims small few = omega arith
some_degree (Some g) dims small few = power_bound (g + 1) dims (omega arith) few

-- so in params in range
count_most : (params : Params) → IsInRange params → coefficient_count params ≤ 27
count_most params range = some_degree params.degree params.dims range.degree range.dims

-- the parts of fitting
pub record Fitting (params : Params) (o : Object) : Type 0 where
  pub ends : ends_fit params o.low o.high ≡ true
  pub low_zeros : list_all (λ x. x == 0) (drop params.dims o.low) ≡ true
  pub high_zeros : list_all (λ x. x == 0) (drop params.dims o.high) ≡ true
  pub other_zeros : list_all (λ c. nat_abs c == 0) (drop (coefficient_count params) o.coeffs) ≡ true

-- an object that fits keeps each of its rules
fits_in_parts : (params : Params) (o : Object) → object_fits params o ≡ true → Fitting params o
fits_in_parts params o e =
    let low = list_all (λ x. x == 0) (drop params.dims o.low) in
    let high = list_all (λ x. x == 0) (drop params.dims o.high) in
    let other = list_all (λ c. nat_abs c == 0) (drop (coefficient_count params) o.coeffs) in
    let all = and_parts (ends_fit params o.low o.high && (low && high)) other e in
    let front = and_parts (ends_fit params o.low o.high) (low && high) all.0 in
    let zeros = and_parts low high front.1 in
    record { ends = front.0; low_zeros = zeros.0; high_zeros = zeros.1; other_zeros = all.1 }

-- in each dimension both ends are in range
ends_small : (params : Params) (o : Object) (i : ℕ) → ends_fit params o.low o.high ≡ true → i < params.dims
    → (slice_index o.low i ≤ greatest_number params) × (slice_index o.high i ≤ greatest_number params)
ends_small params o i e less =
    let both = and_parts (nat_le (slice_index o.low i) (slice_index o.high i)) (nat_le (slice_index o.high i) (greatest_number params))
    (below_true params.dims i (λ k. nat_le (slice_index o.low k) (slice_index o.high k) && nat_le (slice_index o.high k) (greatest_number params)) e less) in
    let order = leb-true (slice_index o.low i) (slice_index o.high i) both.0 in
    let most = leb-true (slice_index o.high i) (greatest_number params) both.1 in
    (omega (arith, order, most), most)

-- The fields of a row that stages an object are read back.
abbrev last_of : Params → Object → List (List ℕ)
last_of params o = signed_decimal o.weight ∷ numbers (take (coefficient_count params) o.coeffs)

-- the ends and what stands behind them
abbrev rest_of : Params → Object → List (List ℕ)
rest_of params o = ends_from params o 0 params.dims ++ last_of params o

-- the fields of a row that stages an object, with its word
abbrev fields_of : List ℕ → Params → Object → List (List ℕ)
fields_of word params o = word ∷ codes "1" ∷ object_list params o

-- the field of a low end
low_field : (word : List ℕ) (params : Params) (o : Object) (i : ℕ) → i < params.dims → field_at (fields_of word params o) (3 + 2 * i) ≡ end_of params (slice_index o.low i)
low_field word params o i less =
    let place : 3 + 2 * i ≡ suc (suc (suc (2 * i))) = omega arith in
    let same : 0 + i ≡ i = omega arith in
    past_three word (codes "1") (decimal o.id) (rest_of params o) (2 * i) (3 + 2 * i) place
    ∙ low_at params o (last_of params o) 0 params.dims i less
    ∙ ap (λ (j : ℕ). end_of params (slice_index o.low j)) same

-- the field of a high end
high_field : (word : List ℕ) (params : Params) (o : Object) (i : ℕ) → i < params.dims → field_at (fields_of word params o) (4 + 2 * i) ≡ end_of params (slice_index o.high i)
high_field word params o i less =
    let place : 4 + 2 * i ≡ suc (suc (suc (2 * i + 1))) = omega arith in
    let same : 0 + i ≡ i = omega arith in
    past_three word (codes "1") (decimal o.id) (rest_of params o) (2 * i + 1) (4 + 2 * i) place
    ∙ high_at params o (last_of params o) 0 params.dims i less
    ∙ ap (λ (j : ℕ). end_of params (slice_index o.high j)) same

-- a field behind the ends
last_field : (word : List ℕ) (params : Params) (o : Object) (k place : ℕ) → place ≡ 3 + 2 * params.dims + k → field_at (fields_of word params o) place ≡ field_at (last_of params o) k
last_field word params o k place e =
    let at : place ≡ suc (suc (suc (2 * params.dims + k))) = omega (arith, e) in
    past_three word (codes "1") (decimal o.id) (rest_of params o) (2 * params.dims + k) place at
    ∙ past_ends params o (last_of params o) 0 params.dims k

-- ends in range, whose fields stand two places apart, and behind which zeros stand, are read
ends_read : (params : Params) (fields : List (List ℕ)) (place : ℕ) (ends : List ℕ) → IsInRange params → length ends ≡ 3
    → ((i : ℕ) → i < params.dims → field_at fields (place + 2 * i) ≡ end_of params (slice_index ends i))
    → ((i : ℕ) → i < params.dims → slice_index ends i ≤ greatest_number params)
    → list_all (λ x. x == 0) (drop params.dims ends) ≡ true → ends_at params fields place ≡ Some ends
ends_read params fields place ends range long are small zeros =
    let dims : params.dims ≤ 3 = range.dims in
    ap (option_map (filled 3 0))
    (each_is (λ i. stored_of params (field_at fields (place + 2 * i))) ends 0 params.dims (omega (arith, long, dims)) (λ i less.
    ap (stored_of params) (are i less) ∙ stored_read params (slice_index ends i) range.origin (small i less)))
    ∙ ap Some (filled_back 3 0 params.dims ends long dims (zeros_are (drop params.dims ends) zeros))

-- the weight is read
weight_field_read : (word : List ℕ) (params : Params) (o : Object) → Has64Bits o.weight → weight_of (field_at (fields_of word params o) (3 + 2 * params.dims)) ≡ Some o.weight
weight_field_read word params o bits =
    let place : 3 + 2 * params.dims ≡ 3 + 2 * params.dims + 0 = omega arith in
    ap weight_of (last_field word params o 0 (3 + 2 * params.dims) place) ∙ weight_read o.weight bits

-- the field of a coefficient
coefficient_field : (word : List ℕ) (params : Params) (o : Object) (k : ℕ) → k < coefficient_count params → k < length o.coeffs
    → field_at (fields_of word params o) ((4 + 2 * params.dims) + k) ≡ signed_decimal (get_or o.coeffs k (pos 0))
coefficient_field word params o k less within =
    let place : (4 + 2 * params.dims) + k ≡ 3 + 2 * params.dims + suc k = omega arith in
    last_field word params o (suc k) ((4 + 2 * params.dims) + k) place ∙ number_at o.coeffs (coefficient_count params) k less within

-- the coefficients are read
coefficients_read : (word : List ℕ) (params : Params) (o : Object) → IsInRange params → length o.coeffs ≡ 27 → All Has64Bits o.coeffs → Fitting params o
    → coefficients_at params (fields_of word params o) (4 + 2 * params.dims) ≡ Some o.coeffs
coefficients_read word params o range long bits fits =
    let few : coefficient_count params ≤ 27 = count_most params range in
    ap (option_map (filled 27 (pos 0)))
    (each_is (λ k. weight_of (field_at (fields_of word params o) ((4 + 2 * params.dims) + k))) o.coeffs (pos 0) (coefficient_count params) (omega (arith, long, few)) (λ k less.
    let within : k < length o.coeffs = omega (arith, long, few, less) in
    ap weight_of (coefficient_field word params o k less within)
    ∙ weight_read (get_or o.coeffs k (pos 0)) (All-get_or Has64Bits o.coeffs k (pos 0) within bits)))
    ∙ ap Some (filled_back 27 (pos 0) (coefficient_count params) o.coeffs long few (signed_zeros (drop (coefficient_count params) o.coeffs) fits.other_zeros))

-- an object is made of an id, its ends, its weight and its coefficients, one after the other
abbrev made_of : ℕ → List ℕ → List ℕ → ℤ → List ℤ → Object
made_of id low high weight coeffs = record { id = id; low = low; high = high; weight = weight; coeffs = coeffs }

-- the object once its weight is known
abbrev with_weight : (params : Params) (fields : List (List ℕ)) → ℕ → List ℕ → List ℕ → ℤ → Option Object
with_weight params fields id low high weight = given (coefficients_at params fields (4 + 2 * params.dims)) (λ coeffs. fitting params (made_of id low high weight coeffs))

-- once its high ends are known
abbrev with_high : (params : Params) (fields : List (List ℕ)) → ℕ → List ℕ → List ℕ → Option Object
with_high params fields id low high = given (weight_of (field_at fields (3 + 2 * params.dims))) (with_weight params fields id low high)

-- once its low ends are known
abbrev with_low : (params : Params) (fields : List (List ℕ)) → ℕ → List ℕ → Option Object
with_low params fields id low = given (ends_at params fields 4) (with_high params fields id low)

-- once its id is known
abbrev with_id : (params : Params) (fields : List (List ℕ)) → ℕ → Option Object
with_id params fields id = given (ends_at params fields 3) (with_low params fields id)

-- The object is read.
object_read : (word : List ℕ) (params : Params) (o : Object) → IsInRange params → HasSizes o → object_fits params o ≡ true → object_of params (fields_of word params o) ≡ Some o
object_read word params o range sizes fits =
    let fields = fields_of word params o in
    let parts = fits_in_parts params o fits in
    given_is (id_of (field_at fields 2)) (with_id params fields) o.id (id_read o.id sizes.id)
    ∙ given_is (ends_at params fields 3) (with_low params fields o.id) o.low
    (ends_read params fields 3 o.low range sizes.low (low_field word params o) (λ i less. (ends_small params o i parts.ends less).0) parts.low_zeros)
    ∙ given_is (ends_at params fields 4) (with_high params fields o.id o.low) o.high
    (ends_read params fields 4 o.high range sizes.high (high_field word params o) (λ i less. (ends_small params o i parts.ends less).1) parts.high_zeros)
    ∙ given_is (weight_of (field_at fields (3 + 2 * params.dims))) (with_weight params fields o.id o.low o.high) o.weight (weight_field_read word params o sizes.weight)
    ∙ given_is (coefficients_at params fields (4 + 2 * params.dims)) (λ coeffs. fitting params (made_of o.id o.low o.high o.weight coeffs)) o.coeffs (coefficients_read word params o range sizes.coeffs sizes.each parts)
    ∙ ap (λ (test : Bool). if test then Some o else None) fits

-- the session and the object of such fields
abbrev with_session : Params → List (List ℕ) → ℕ → Option (ℕ × Object)
with_session params fields session = option_map (λ o. (session, o)) (object_of params fields)

-- an object in session 1
abbrev in_first : Object → ℕ × Object
in_first o = (1, o)

-- the row that stages it is read
staged_read : (word : List ℕ) (params : Params) (o : Object) (make : Object → Row) → IsInRange params → HasSizes o → object_fits params o ≡ true
    → staged_object params (fields_of word params o) make ≡ Some (Stage 1 (make o))
staged_read word params o make range sizes fits =
    let fields = fields_of word params o in
    let few : coefficient_count params ≤ 27 = count_most params range in
    let coefficients : length o.coeffs ≡ 27 = sizes.coeffs in
    let behind_two = object_count params o (omega (arith, few, coefficients)) in
    let count : length fields ≡ object_fields params = omega (arith, behind_two) in
    ap (option_map (λ staged. Stage staged.0 (make staged.1)))
    (ap (λ (test : Bool). if test then given (session_of (field_at fields 1)) (with_session params fields) else None) (eq-eqb (length fields) (object_fields params) count)
    ∙ given_is (session_of (field_at fields 1)) (with_session params fields) 1 refl
    ∙ ap (option_map in_first) (object_read word params o range sizes fits))

-- what the fields of a row spell
fields_spell : (params : Params) (r : Row) → IsInRange params → RowHasSizes r → row_fits params r ≡ true → row_of params (row_word r ∷ row_list params r) ≡ Some (Stage 1 r)
fields_spell params (row.Add o) range sizes fits = staged_read (codes "add") params o row.Add range sizes fits
fields_spell params (row.Withdraw id) range sizes fits = ap (option_map (λ (other : ℕ). Stage 1 (row.Withdraw other))) (id_read id sizes)
fields_spell params (row.Move o) range sizes fits = staged_read (codes "move") params o row.Move range sizes fits

-- the line is not too long
object_few : (params : Params) (o : Object) → IsInRange params → HasSizes o → length (object_list params o) ≤ 35
object_few params o range sizes =
    let few : coefficient_count params ≤ 27 = count_most params range in
    let dims : params.dims ≤ 3 = range.dims in
    let coefficients : length o.coeffs ≡ 27 = sizes.coeffs in
    let count = object_count params o (omega (arith, few, coefficients)) in
    omega (arith, few, dims, count)

-- the line of any row
fields_few : (params : Params) (r : Row) → IsInRange params → RowHasSizes r → length (row_list params r) ≤ 36
fields_few params (row.Add o) range sizes = let few = object_few params o range sizes in omega (arith, few)
fields_few params (row.Withdraw id) range sizes = omega arith
fields_few params (row.Move o) range sizes = let few = object_few params o range sizes in omega (arith, few)

-- The line of a row that fits, with sizes, is read as that row in session 1.
pub row_read : (params : Params) (r : Row) → IsInRange params → RowHasSizes r → row_fits params r ≡ true → input params (row_line params r) ≡ Some (Stage 1 r)
row_read params r range sizes fits =
    let line = row_line params r in
    let short : length line ≤ 65 + 66 * length (row_list params r) = line_short (row_word r) (row_list params r) (word_is_field r) (list_are_fields params r) in
    let few = fields_few params r range sizes in
    ap (λ (test : Bool). if test then given (line_fields line) (row_of params) else None) (le-leb (length line) longest_line (omega (arith, short, few)))
    ∙ given_is (line_fields line) (row_of params) (row_word r ∷ row_list params r) (fields_read (row_word r) (row_list params r) (word_is_field r) (list_are_fields params r))
    ∙ fields_spell params r range sizes fits

-- The line of a commit is read as one.
pub commit_read : (params : Params) → input params (codes "commit,1") ≡ Some (Commit 1)
commit_read params = refl
