-- Fields that are joined by commas are the fields of their line.
use Rattle.std.proofs.Common.{◌≡◌, ℕ, zero, suc, ◌+◌, ◌*◌, ◌/◌, ◌%◌, ◌<◌, ◌≤◌, Bool, true, false, ◌&&◌, ◌==◌, nat_lt, nat_le, List, [], ◌∷◌, ◌++◌, length, Some, None, ℤ, pos, negsuc, refl, sym, ◌∙◌, ap, arith, if◌then◌else◌, append_assoc, append-nil, length-append, lt-ltb, le-leb, leb-true, ltb-true}
use Rattle.std.specs.Fmt.{decimal, digit_glyph, digits, digits_onto, signed_decimal}
use Rattle.std.specs.List.{list_all}
use Rattle.std.proofs.lemmas.Bool.{and_from, and_parts}
use Rattle.std.proofs.lemmas.List.Splits.{slice_split_at, slice_split_none}
use Rattle.csv_rows.specs.Fields.{contents_of, holds_quote, line_fields, parts_of}
use Rattle.history_text.proofs.LinesApart.{above_append, all_above, each_other, neither_among, not_among}

-- the bytes of a field: none is a comma, a double quote or an end of a line, and they are few
abbrev pub is_field : List ℕ → Bool
is_field bytes = all_above 44 bytes && nat_le (length bytes) 65

-- each of them is one
abbrev pub are_fields : List (List ℕ) → Bool
are_fields fields = list_all is_field fields

-- the fields behind another one, each with a comma before it
abbrev pub behind : List (List ℕ) → List ℕ
behind [] = []
behind (field ∷ fields) = 44 ∷ (field ++ behind fields)

-- some behind others
pub behind_append : (xs ys : List (List ℕ)) → behind (xs ++ ys) ≡ behind xs ++ behind ys
behind_append [] ys = refl
behind_append (x ∷ xs) ys = ap (λ (l : List ℕ). 44 ∷ (x ++ l)) (behind_append xs ys) ∙ ap (λ (l : List ℕ). 44 ∷ l) (sym (append_assoc x (behind xs) (behind ys)))

-- fields, and then fields
pub fields_append : (xs ys : List (List ℕ)) → are_fields xs ≡ true → are_fields ys ≡ true → are_fields (xs ++ ys) ≡ true
fields_append [] ys e f = f
fields_append (x ∷ xs) ys e f =
    let both = and_parts (is_field x) (are_fields xs) e in
    and_from (is_field x) (are_fields (xs ++ ys)) both.0 (fields_append xs ys both.1 f)

-- A printed number is a field.
glyph_above : (d : ℕ) → nat_lt 44 (digit_glyph false d) ≡ true
glyph_above d = elim (nat_lt d 10) as (λ test. nat_lt 44 (if test then 48 + d else 87 + d) ≡ true) [
  | true ↦ lt-ltb 44 (48 + d) (omega arith)
  | false ↦ lt-ltb 44 (87 + d) (omega arith)
]

-- its last digits, before greater bytes
onto_above : (k n : ℕ) (more : List ℕ) → all_above 44 more ≡ true → all_above 44 (digits_onto k 10 false n more) ≡ true
onto_above zero n more e = e
onto_above (suc k) n more e =
    let here : all_above 44 (digit_glyph false (n % 10) ∷ more) ≡ true = and_from (nat_lt 44 (digit_glyph false (n % 10))) (all_above 44 more) (glyph_above (n % 10)) e in
    elim (n / 10 == 0) as (λ test. all_above 44 (if test then digit_glyph false (n % 10) ∷ more else digits_onto k 10 false (n / 10) (digit_glyph false (n % 10) ∷ more)) ≡ true) [
      | true ↦ here
      | false ↦ onto_above k (n / 10) (digit_glyph false (n % 10) ∷ more) here
    ]

-- they are no more than were asked for
onto_short : (k n : ℕ) (more : List ℕ) → length (digits_onto k 10 false n more) ≤ k + length more
onto_short zero n more = omega arith
onto_short (suc k) n more =
    elim (n / 10 == 0) as (λ test. length (if test then digit_glyph false (n % 10) ∷ more else digits_onto k 10 false (n / 10) (digit_glyph false (n % 10) ∷ more)) ≤ suc k + length more) [
      | true ↦ omega arith
      | false ↦ let rest = onto_short k (n / 10) (digit_glyph false (n % 10) ∷ more) in omega (arith, rest)
    ]

-- no byte of a number is a comma or less
decimal_above : (n : ℕ) → all_above 44 (decimal n) ≡ true
unfolding digits
decimal_above n = onto_above 64 n [] refl

-- it has at most 64 digits
decimal_short : (n : ℕ) → length (decimal n) ≤ 64
unfolding digits
decimal_short n = let most = onto_short 64 n [] in omega (arith, most)

-- a number
pub decimal_field : (n : ℕ) → is_field (decimal n) ≡ true
decimal_field n = let short = decimal_short n in and_from (all_above 44 (decimal n)) (nat_le (length (decimal n)) 65) (decimal_above n) (le-leb (length (decimal n)) 65 (omega (arith, short)))

-- a signed number, whose minus sign is greater than a comma too
pub signed_field : (z : ℤ) → is_field (signed_decimal z) ≡ true
signed_field (pos n) = decimal_field n
signed_field (negsuc n) =
    let short = decimal_short (suc n) in
    and_from (all_above 44 (45 ∷ decimal (suc n))) (nat_le (length (45 ∷ decimal (suc n))) 65) (decimal_above (suc n))
    (le-leb (length (45 ∷ decimal (suc n))) 65 (omega (arith, short)))

-- A line of fields is cut into them.
field_above : (field : List ℕ) → is_field field ≡ true → all_above 44 field ≡ true
field_above field e = (and_parts (all_above 44 field) (nat_le (length field) 65) e).0

-- greater than a comma, so from a comma on
above_fewer : (xs : List ℕ) → all_above 44 xs ≡ true → all_above 43 xs ≡ true
above_fewer [] e = refl
above_fewer (x ∷ xs) e =
    let both = and_parts (nat_lt 44 x) (all_above 44 xs) e in
    let more : 44 < x = ltb-true 44 x both.0 in
    and_from (nat_lt 43 x) (all_above 43 xs) (lt-ltb 43 x (omega arith)) (above_fewer xs both.1)

-- the commas and the fields behind them
behind_above : (fields : List (List ℕ)) → are_fields fields ≡ true → all_above 43 (behind fields) ≡ true
behind_above [] e = refl
behind_above (field ∷ fields) e =
    let both = and_parts (is_field field) (are_fields fields) e in
    above_append 43 field (behind fields) (above_fewer field (field_above field both.0)) (behind_above fields both.1)

-- the line holds commas and greater bytes alone
pub line_above : (field : List ℕ) (fields : List (List ℕ)) → is_field field ≡ true → are_fields fields ≡ true → all_above 43 (field ++ behind fields) ≡ true
line_above field fields e f = above_append 43 field (behind fields) (above_fewer field (field_above field e)) (behind_above fields f)

-- the line is cut at its commas
parts_joined : (field : List ℕ) (fields : List (List ℕ)) → is_field field ≡ true → are_fields fields ≡ true → parts_of (field ++ behind fields) ≡ field ∷ fields
parts_joined field [] e f =
    ap parts_of (append-nil field) ∙ slice_split_none (λ (b : ℕ). b == 44) field (each_other 44 44 field (omega arith) (field_above field e))
parts_joined field (next ∷ fields) e f =
    let both = and_parts (is_field next) (are_fields fields) f in
    slice_split_at (λ (b : ℕ). b == 44) field 44 (next ++ behind fields) (each_other 44 44 field (omega arith) (field_above field e)) refl
    ∙ ap (λ (parts : List (List ℕ)). field ∷ parts) (parts_joined next fields both.0 both.1)

-- fields without a double quote are their own contents
own_contents : (fields : List (List ℕ)) → are_fields fields ≡ true → contents_of fields ≡ Some fields
own_contents [] e = refl
own_contents (field ∷ fields) e =
    let both = and_parts (is_field field) (are_fields fields) e in
    let none : holds_quote field ≡ false = not_among 44 34 field (omega arith) (field_above field both.0) in
    rw (none, own_contents fields both.1) refl

-- The fields of a line are those that were joined.
pub fields_read : (field : List ℕ) (fields : List (List ℕ)) → is_field field ≡ true → are_fields fields ≡ true → line_fields (field ++ behind fields) ≡ Some (field ∷ fields)
fields_read field fields e f =
    ap (λ (test : Bool). if test then None else contents_of (parts_of (field ++ behind fields)))
    (neither_among 43 10 13 (field ++ behind fields) (omega arith) (omega arith) (line_above field fields e f))
    ∙ ap contents_of (parts_joined field fields e f)
    ∙ own_contents (field ∷ fields) (and_from (is_field field) (are_fields fields) e f)

-- a field has at most 65 bytes
field_short : (field : List ℕ) → is_field field ≡ true → length field ≤ 65
field_short field e = leb-true (length field) 65 (and_parts (all_above 44 field) (nat_le (length field) 65) e).1

-- with its comma it has one more
behind_short : (fields : List (List ℕ)) → are_fields fields ≡ true → length (behind fields) ≤ 66 * length fields
behind_short [] e = omega arith
behind_short (field ∷ fields) e =
    let both = and_parts (is_field field) (are_fields fields) e in
    let here = field_short field both.0 in
    let rest = behind_short fields both.1 in
    let all = length-append field (behind fields) in
    omega (arith, here, rest, all)

-- how long the line is at most
pub line_short : (field : List ℕ) (fields : List (List ℕ)) → is_field field ≡ true → are_fields fields ≡ true → length (field ++ behind fields) ≤ 65 + 66 * length fields
line_short field fields e f =
    let here = field_short field e in
    let rest = behind_short fields f in
    let all = length-append field (behind fields) in
    omega (arith, here, rest, all)
