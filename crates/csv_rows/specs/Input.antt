-- What a line of input spells.
use Rattle.std.specs.Prelude.{ℕ, zero, suc, ◌≤◌, IsTrue, ◌+◌, ◌-◌, ◌*◌, Bool, ◌==◌, nat_le, if◌then◌else◌, List, [], ◌∷◌, ◌++◌, length, replicate, Option, Some, None, option_map, ℤ, pos, negsuc, ◌+ℤ◌, nat_abs, codes}
use Rattle.std.specs.Option.{option_and_then}
use Rattle.std.specs.Str.{bytes_eq}
use Rattle.bw_types.specs.Fits.{coefficient_count, object_fits, query_fits, row_fits}
use Rattle.bw_types.specs.declared.params.Params.{Params}
use Rattle.bw_types.specs.declared.object.Object.{Object}
use Rattle.bw_types.specs.declared.row.Row.{Row}
use Rattle.bw_types.specs.declared.row.Row.TheVariants as row
use Rattle.bw_types.specs.declared.query.Query.{Query}
use Rattle.bw_types.specs.declared.query.Kind.{Kind}
use Rattle.bw_types.specs.declared.query.Kind.TheVariants as kind
use Rattle.csv_rows.specs.Fields.{field_at, line_fields}
use Rattle.csv_rows.specs.Numbers.{number_of, signed_of}
use Rattle.csv_rows.specs.declared.input.Input.{Input}
use Rattle.csv_rows.specs.declared.input.Input.TheVariants.{Stage, Commit, Drop, Ask}

-- what is made of a value, where there is one
abbrev pub given : {A B : Type 0} → Option A → (A → Option B) → Option B
given value make = option_and_then make value

-- all the values that f gives for the numbers below n, where it gives one for each
abbrev pub each_given : {A : Type 0} → ℕ → (ℕ → Option A) → Option (List A)
each_given zero f = Some []
each_given (suc n) f = given (each_given n f) (λ xs. option_map (λ x. xs ++ x ∷ []) (f n))

-- the value, where the test holds
abbrev pub provided : {A : Type 0} → Bool → A → Option A
provided test value = if test then Some value else None

-- the list at a length, filled up with zeros
abbrev pub filled : {A : Type 0} → ℕ → A → List A → List A
filled n z xs = xs ++ replicate (n - length xs) z

-- a session: 1 to 16
abbrev pub session_of : List ℕ → Option ℕ
session_of field = given (number_of 16 field) (λ session. provided (nat_le 1 session) session)

-- an id: any number of 64 bits
abbrev pub id_of : List ℕ → Option ℕ
id_of field = number_of 18446744073709551615 field

-- a weight or a coefficient: any signed number of 64 bits
abbrev pub weight_of : List ℕ → Option ℤ
weight_of field = signed_of (negsuc 9223372036854775807) (pos 9223372036854775807) field

-- the stored number of a coordinate: it is a number in a plain warehouse and a signed one in a signed warehouse
abbrev pub stored_of : Params → List ℕ → Option ℕ
stored_of params field =
    if params.origin == 0 then number_of 4294967294 field
    else option_map (λ c. nat_abs (c +ℤ pos params.origin)) (signed_of (negsuc 2147483646) (pos 2147483646) field)

-- a version: a number of 32 bits, or None for the word `now`
abbrev pub version_of : List ℕ → Option (Option ℕ)
version_of field = if bytes_eq field (codes "now") then Some None else option_map Some (number_of 4294967295 field)

-- the low ends, or from one place further on the high ends, of the box that begins at a place: the ends of one dimension after the
-- other, filled up to three with zeros
abbrev pub ends_at : Params → List (List ℕ) → ℕ → Option (List ℕ)
ends_at params fields place = option_map (filled 3 0) (each_given params.dims (λ i. stored_of params (field_at fields (place + 2 * i))))

-- the coefficients that begin at a place, filled up to 27 with zeros
abbrev pub coefficients_at : Params → List (List ℕ) → ℕ → Option (List ℤ)
coefficients_at params fields place = option_map (filled 27 (pos 0)) (each_given (coefficient_count params) (λ k. weight_of (field_at fields (place + k))))

-- the object, where it keeps the rules: no low end is above its high one
abbrev pub fitting : Params → Object → Option Object
fitting params o = provided (object_fits params o) o

-- the object of an add or a move: the id is at place 2, then come the ends, the weight and the coefficients
abbrev pub object_of : Params → List (List ℕ) → Option Object
object_of params fields =
    given (id_of (field_at fields 2)) (λ id.
    given (ends_at params fields 3) (λ low.
    given (ends_at params fields 4) (λ high.
    given (weight_of (field_at fields (3 + 2 * params.dims))) (λ weight.
    given (coefficients_at params fields (4 + 2 * params.dims)) (λ coeffs.
    fitting params (record { id = id; low = low; high = high; weight = weight; coeffs = coeffs }))))))

-- how many fields an add or a move has, with its word
abbrev pub object_fields : Params → ℕ
object_fields params = 4 + 2 * params.dims + coefficient_count params

-- the session and the object of an add or a move
abbrev pub session_and_object : Params → List (List ℕ) → Option (ℕ × Object)
session_and_object params fields =
    if length fields == object_fields params
    then given (session_of (field_at fields 1)) (λ session. option_map (λ o. (session, o)) (object_of params fields))
    else None

-- an add or a move
abbrev pub staged_object : Params → List (List ℕ) → (Object → Row) → Option Input
staged_object params fields make = option_map (λ staged. Stage staged.0 (make staged.1)) (session_and_object params fields)

-- a withdrawal
abbrev pub staged_withdrawal : List (List ℕ) → Option Input
staged_withdrawal fields =
    if length fields == 3
    then given (session_of (field_at fields 1)) (λ session. option_map (λ id. Stage session (row.Withdraw id)) (id_of (field_at fields 2)))
    else None

-- the session of a row that has nothing after it
abbrev pub session_alone : List (List ℕ) → Option ℕ
session_alone fields = if length fields == 2 then session_of (field_at fields 1) else None

-- a commit or a drop
abbrev pub of_session : List (List ℕ) → (ℕ → Input) → Option Input
of_session fields make = option_map make (session_alone fields)

-- the query at a version, where it keeps the rules
abbrev pub asking : Params → Option ℕ → Query → Option Input
asking params version q = provided (query_fits params q) (Ask version q)

-- a query of a kind: the version is at place 1, then come the ends
abbrev pub asked : Params → List (List ℕ) → Kind → Option Input
asked params fields k =
    if length fields == 2 + 2 * params.dims
    then given (version_of (field_at fields 1)) (λ version.
    given (ends_at params fields 2) (λ low.
    given (ends_at params fields 3) (λ high.
    asking params version (record { kind = k; low = low; high = high }))))
    else None

-- what fields spell, the first of them being the row's word
abbrev pub row_of : Params → List (List ℕ) → Option Input
row_of params fields =
    if bytes_eq (field_at fields 0) (codes "add") then staged_object params fields row.Add
    else (if bytes_eq (field_at fields 0) (codes "move") then staged_object params fields row.Move
    else (if bytes_eq (field_at fields 0) (codes "withdraw") then staged_withdrawal fields
    else (if bytes_eq (field_at fields 0) (codes "commit") then of_session fields Commit
    else (if bytes_eq (field_at fields 0) (codes "drop") then of_session fields Drop
    else (if bytes_eq (field_at fields 0) (codes "sum") then asked params fields kind.Sum
    else (if bytes_eq (field_at fields 0) (codes "count") then asked params fields kind.Count
    else (if bytes_eq (field_at fields 0) (codes "integral") then asked params fields kind.Integral
    else None)))))))

-- the most bytes of a line, without its ending
abbrev pub longest_line : ℕ
longest_line = 4096

-- the fields of a line that is no longer than a line may be
abbrev pub fields_of_line : List ℕ → Option (List (List ℕ))
fields_of_line line = if nat_le (length line) longest_line then line_fields line else None

-- what a line spells, or None where it is bad
abbrev pub input : Params → List ℕ → Option Input
input params line = if nat_le (length line) longest_line then given (line_fields line) (row_of params) else None

-- the sessions are from 1 to 16, and the row or the query fits
abbrev pub InputFits : Params → Input → Type 0
InputFits params (Stage session r) = (1 ≤ session) × (session ≤ 16) × IsTrue (row_fits params r)
InputFits params (Commit session) = (1 ≤ session) × (session ≤ 16)
InputFits params (Drop session) = (1 ≤ session) × (session ≤ 16)
InputFits params (Ask version q) = IsTrue (query_fits params q)
