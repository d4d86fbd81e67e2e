-- The rows of a history are lines of fields that are joined by commas.
use Rattle.std.proofs.Common.{◌≡◌, ℕ, zero, suc, ◌+◌, ◌*◌, ◌≤◌, true, List, [], ◌∷◌, ◌++◌, length, map, take, slice_index, ℤ, refl, sym, ◌∙◌, ap, arith, append_assoc, append-nil, length-append, length-take-le, codes}
use Rattle.std.specs.Fmt.{decimal, signed_decimal}
use Rattle.std.specs.List.{flat_map, range_with_len}
use Rattle.std.proofs.lemmas.Bool.{and_from}
use Rattle.std.proofs.lemmas.List.{length-map}
use Rattle.bw_types.specs.Fits.{coefficient_count, coordinate}
use Rattle.bw_types.specs.declared.object.Object.{Object}
use Rattle.bw_types.specs.declared.params.Params.{Params}
use Rattle.bw_types.specs.declared.row.Row.{Row}
use Rattle.bw_types.specs.declared.row.Row.TheVariants.{Add, Withdraw, Move}
use Rattle.history_text.specs.Rows.{ends_text, field, object_text, row_text}
use Rattle.history_text.proofs.FieldsCut.{are_fields, behind, behind_append, decimal_field, fields_append, is_field, line_above, signed_field}
use Rattle.history_text.proofs.LinesApart.{all_above}

-- the field of a stored number
abbrev pub end_of : Params → ℕ → List ℕ
end_of params number = signed_decimal (coordinate params number)

-- the fields of the ends of n dimensions, from one on
abbrev pub ends_from : Params → Object → ℕ → ℕ → List (List ℕ)
ends_from params o i zero = []
ends_from params o i (suc n) = end_of params (slice_index o.low i) ∷ end_of params (slice_index o.high i) ∷ ends_from params o (i + 1) n

-- the fields of some numbers
abbrev pub numbers : List ℤ → List (List ℕ)
numbers zs = map signed_decimal zs

-- the fields of an object, behind the session
abbrev pub object_list : Params → Object → List (List ℕ)
object_list params o = decimal o.id ∷ (ends_from params o 0 params.dims ++ (signed_decimal o.weight ∷ numbers (take (coefficient_count params) o.coeffs)))

-- the word of a row
abbrev pub row_word : Row → List ℕ
row_word (Add o) = codes "add"
row_word (Withdraw id) = codes "withdraw"
row_word (Move o) = codes "move"

-- the fields of a row behind its word
abbrev pub row_list : Params → Row → List (List ℕ)
row_list params (Add o) = codes "1" ∷ object_list params o
row_list params (Withdraw id) = codes "1" ∷ decimal id ∷ []
row_list params (Move o) = codes "1" ∷ object_list params o

-- the line of a row, without its line feed
abbrev pub row_line : Params → Row → List ℕ
row_line params r = row_word r ++ behind (row_list params r)

-- the ends, joined
ends_joined : (params : Params) (o : Object) (i n : ℕ) → flat_map (ends_text params o) (range_with_len i n) ≡ behind (ends_from params o i n)
ends_joined params o i zero = refl
ends_joined params o i (suc n) =
    ap (λ (l : List ℕ). ends_text params o i ++ l) (ends_joined params o (i + 1) n)
    ∙ ap (λ (l : List ℕ). 44 ∷ l) (append_assoc (end_of params (slice_index o.low i)) (44 ∷ end_of params (slice_index o.high i)) (behind (ends_from params o (i + 1) n)))

-- numbers, joined
numbers_joined : (zs : List ℤ) → flat_map field zs ≡ behind (numbers zs)
numbers_joined [] = refl
numbers_joined (z ∷ zs) = ap (λ (l : List ℕ). field z ++ l) (numbers_joined zs)

-- four parts, bracketed to the right
four_parts : (a b c d : List ℕ) → ((a ++ b) ++ c) ++ d ≡ a ++ (b ++ (c ++ d))
four_parts a b c d = append_assoc (a ++ b) c d ∙ append_assoc a b (c ++ d)

-- the object, joined
object_joined : (params : Params) (o : Object) → object_text params o ≡ behind (object_list params o)
object_joined params o =
    let ends = ends_from params o 0 params.dims in
    let coefficients = take (coefficient_count params) o.coeffs in
    four_parts (44 ∷ decimal o.id) (flat_map (ends_text params o) (range_with_len 0 params.dims)) (field o.weight) (flat_map field coefficients)
    ∙ ap (λ (l : List ℕ). (44 ∷ decimal o.id) ++ (l ++ (field o.weight ++ flat_map field coefficients))) (ends_joined params o 0 params.dims)
    ∙ ap (λ (l : List ℕ). (44 ∷ decimal o.id) ++ (behind ends ++ (field o.weight ++ l))) (numbers_joined coefficients)
    ∙ ap (λ (l : List ℕ). (44 ∷ decimal o.id) ++ l) (sym (behind_append ends (signed_decimal o.weight ∷ numbers coefficients)))

-- The text of a row is its line and a line feed.
pub row_is_line : (params : Params) (r : Row) → row_text params r ≡ row_line params r ++ 10 ∷ []
row_is_line params (Add o) = ap (λ (l : List ℕ). (codes "add,1" ++ l) ++ codes "\n") (object_joined params o)
row_is_line params (Withdraw id) = ap (λ (l : List ℕ). (codes "withdraw,1," ++ l) ++ codes "\n") (sym (append-nil (decimal id)))
row_is_line params (Move o) = ap (λ (l : List ℕ). (codes "move,1" ++ l) ++ codes "\n") (object_joined params o)

-- All of it are fields.
ends_fields : (params : Params) (o : Object) (i n : ℕ) → are_fields (ends_from params o i n) ≡ true
ends_fields params o i zero = refl
ends_fields params o i (suc n) =
    let low = end_of params (slice_index o.low i) in
    let high = end_of params (slice_index o.high i) in
    let later = ends_from params o (i + 1) n in
    and_from (is_field low) (are_fields (high ∷ later)) (signed_field (coordinate params (slice_index o.low i)))
    (and_from (is_field high) (are_fields later) (signed_field (coordinate params (slice_index o.high i))) (ends_fields params o (i + 1) n))

-- numbers are fields
numbers_fields : (zs : List ℤ) → are_fields (numbers zs) ≡ true
numbers_fields [] = refl
numbers_fields (z ∷ zs) = and_from (is_field (signed_decimal z)) (are_fields (numbers zs)) (signed_field z) (numbers_fields zs)

-- all that an object is written in
object_fields_are : (params : Params) (o : Object) → are_fields (object_list params o) ≡ true
object_fields_are params o =
    let ends = ends_from params o 0 params.dims in
    let last = signed_decimal o.weight ∷ numbers (take (coefficient_count params) o.coeffs) in
    and_from (is_field (decimal o.id)) (are_fields (ends ++ last)) (decimal_field o.id)
    (fields_append ends last (ends_fields params o 0 params.dims)
    (and_from (is_field (signed_decimal o.weight)) (are_fields (numbers (take (coefficient_count params) o.coeffs))) (signed_field o.weight) (numbers_fields (take (coefficient_count params) o.coeffs))))

-- the word
pub word_is_field : (r : Row) → is_field (row_word r) ≡ true
word_is_field (Add o) = refl
word_is_field (Withdraw id) = refl
word_is_field (Move o) = refl

-- and what stands behind it
pub list_are_fields : (params : Params) (r : Row) → are_fields (row_list params r) ≡ true
list_are_fields params (Add o) = and_from (is_field (codes "1")) (are_fields (object_list params o)) refl (object_fields_are params o)
list_are_fields params (Withdraw id) = and_from (is_field (codes "1")) (are_fields (decimal id ∷ [])) refl (and_from (is_field (decimal id)) true (decimal_field id) refl)
list_are_fields params (Move o) = and_from (is_field (codes "1")) (are_fields (object_list params o)) refl (object_fields_are params o)

-- The line holds commas and greater bytes alone.
pub row_above : (params : Params) (r : Row) → all_above 43 (row_line params r) ≡ true
row_above params r = line_above (row_word r) (row_list params r) (word_is_field r) (list_are_fields params r)

-- How many fields an object has.
ends_count : (params : Params) (o : Object) (i n : ℕ) → length (ends_from params o i n) ≡ 2 * n
ends_count params o i zero = refl
ends_count params o i (suc n) = let rest = ends_count params o (i + 1) n in omega (arith, rest)

-- An object has an id, two ends a dimension, a weight and its coefficients.
pub object_count : (params : Params) (o : Object) → coefficient_count params ≤ length o.coeffs → length (object_list params o) ≡ 2 + 2 * params.dims + coefficient_count params
object_count params o few =
    let coefficients = take (coefficient_count params) o.coeffs in
    let ends = ends_from params o 0 params.dims in
    let all : length (ends ++ (signed_decimal o.weight ∷ numbers coefficients)) ≡ length ends + length (signed_decimal o.weight ∷ numbers coefficients) =
    length-append ends (signed_decimal o.weight ∷ numbers coefficients) in
    let first : length ends ≡ 2 * params.dims = ends_count params o 0 params.dims in
    let last : length (numbers coefficients) ≡ coefficient_count params = length-map coefficients signed_decimal ∙ length-take-le (coefficient_count params) o.coeffs few in
    omega (arith, all, first, last)
