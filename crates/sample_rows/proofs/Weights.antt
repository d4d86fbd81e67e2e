-- The weights that a line of input gives have 64 bits.
use Rattle.std.proofs.Common.{◌≡◌, ℕ, ◌+◌, ◌*◌, ◌^◌, ◌≤◌, Bool, true, false, ◌&&◌, ◌==◌, nat_le, int_le, List, [], ◌∷◌, length, Option, Some, None, IfSome, option_map, ℤ, pos, negsuc, nat_abs, refl, arith, if◌then◌else◌, codes}
use Rattle.std.specs.Str.{bytes_eq}
use Rattle.std.specs.List.{All}
use Rattle.std.proofs.lemmas.Int.{ints}
use Rattle.std.proofs.lemmas.List.Elements.{All-cons, All-nil}
use Rattle.bw_types.specs.Fits.{object_fits, query_fits}
use Rattle.bw_types.specs.History.{flat_row}
use Rattle.bw_types.specs.declared.change.Change.TheVariants as change
use Rattle.bw_types.specs.declared.object.Object.{Object}
use Rattle.bw_types.specs.declared.params.Params.{Params}
use Rattle.bw_types.specs.declared.query.Query.{Query}
use Rattle.bw_types.specs.declared.query.Kind.{Kind}
use Rattle.bw_types.specs.declared.query.Kind.TheVariants as kind
use Rattle.bw_types.specs.declared.row.Row.{Row}
use Rattle.bw_types.specs.declared.row.Row.TheVariants as row
use Rattle.csv_rows.specs.Fields.{field_at, line_fields}
use Rattle.csv_rows.specs.Input.{asked, asking, coefficients_at, ends_at, fitting, given, id_of, input, longest_line, object_fields, object_of, of_session, row_of, session_alone, session_and_object, session_of, staged_object, staged_withdrawal, version_of, weight_of}
use Rattle.csv_rows.specs.Numbers.{integer_of}
use Rattle.csv_rows.specs.declared.input.Input.{Input}
use Rattle.csv_rows.specs.declared.input.Input.TheVariants.{Stage, Commit, Drop, Ask}
use Rattle.history_laws.specs.Bounds.{HasSmallWeight}

-- the weights that the row adds have 64 bits
abbrev pub AddsSmallWeights : Row → Type 0
AddsSmallWeights r = All HasSmallWeight (flat_row r)

-- so have those of the row that is to be staged, where one is
abbrev pub HasSmallWeights : Input → Type 0
HasSmallWeights (Stage session r) = AddsSmallWeights r
HasSmallWeights (Commit session) = Unit {0}
HasSmallWeights (Drop session) = Unit {0}
HasSmallWeights (Ask version q) = Unit {0}

-- what is given by each value, or by each of which P holds
each_gives : {A B : Type 0} (o : Option A) (f : A → Option B) (Q : B → Type 0) → ((a : A) → IfSome (f a) Q) → IfSome (given o f) Q
each_gives None f Q g = tt
each_gives (Some a) f Q g = g a

some_gives : {A B : Type 0} (o : Option A) (f : A → Option B) (P : A → Type 0) (Q : B → Type 0) → IfSome o P → ((a : A) → P a → IfSome (f a) Q) → IfSome (given o f) Q
some_gives None f P Q h g = tt
some_gives (Some a) f P Q h g = g a h

some_made : {A B : Type 0} (o : Option A) (f : A → B) (P : A → Type 0) (Q : B → Type 0) → IfSome o P → ((a : A) → P a → Q (f a)) → IfSome (option_map f o) Q
some_made None f P Q h g = tt
some_made (Some a) f P Q h g = g a h

each_made : {A B : Type 0} (o : Option A) (f : A → B) (Q : B → Type 0) → ((a : A) → Q (f a)) → IfSome (option_map f o) Q
each_made None f Q g = tt
each_made (Some a) f Q g = g a

either : {B : Type 0} (test : Bool) (x y : Option B) (Q : B → Type 0) → IfSome x Q → IfSome y Q → IfSome (if test then x else y) Q
either true x y Q p q = p
either false x y Q p q = q

small_number : (z : ℤ) → IfSome (if int_le (negsuc 9223372036854775807) z && int_le z (pos 9223372036854775807) then Some z else None) (λ w. nat_abs w ≤ 2 ^ 63)
small_number z = by (int_le (negsuc 9223372036854775807) z) (int_le z (pos 9223372036854775807)) refl refl
  where
    by : (a b : Bool) → int_le (negsuc 9223372036854775807) z ≡ a → int_le z (pos 9223372036854775807) ≡ b → IfSome (if a && b then Some z else None) (λ w. nat_abs w ≤ 2 ^ 63)
    by true true e f = omega (arith, ints)
    by true false e f = tt
    by false b e f = tt

weight_small : (field : List ℕ) → IfSome (weight_of field) (λ w. nat_abs w ≤ 2 ^ 63)
weight_small field =
    each_gives (integer_of field) (λ z. if int_le (negsuc 9223372036854775807) z && int_le z (pos 9223372036854775807) then Some z else None) (λ w. nat_abs w ≤ 2 ^ 63) small_number

-- an object is made of an id, its ends, its weight and its coefficients, one after the other
abbrev made_of : ℕ → List ℕ → List ℕ → ℤ → List ℤ → Object
made_of id low high weight coeffs = record { id = id; low = low; high = high; weight = weight; coeffs = coeffs }

abbrev with_weight : (params : Params) (fields : List (List ℕ)) → ℕ → List ℕ → List ℕ → ℤ → Option Object
with_weight params fields id low high weight = given (coefficients_at params fields (4 + 2 * params.dims)) (λ coeffs. fitting params (made_of id low high weight coeffs))

abbrev with_high : (params : Params) (fields : List (List ℕ)) → ℕ → List ℕ → List ℕ → Option Object
with_high params fields id low high = given (weight_of (field_at fields (3 + 2 * params.dims))) (with_weight params fields id low high)

abbrev with_low : (params : Params) (fields : List (List ℕ)) → ℕ → List ℕ → Option Object
with_low params fields id low = given (ends_at params fields 4) (with_high params fields id low)

abbrev with_id : (params : Params) (fields : List (List ℕ)) → ℕ → Option Object
with_id params fields id = given (ends_at params fields 3) (with_low params fields id)

abbrev HasWeight : Object → Type 0
HasWeight o = nat_abs o.weight ≤ 2 ^ 63

object_small : (params : Params) (fields : List (List ℕ)) → IfSome (object_of params fields) HasWeight
object_small params fields =
    each_gives (id_of (field_at fields 2)) (with_id params fields) HasWeight (λ id.
    each_gives (ends_at params fields 3) (with_low params fields id) HasWeight (λ low.
    each_gives (ends_at params fields 4) (with_high params fields id low) HasWeight (λ high.
    some_gives (weight_of (field_at fields (3 + 2 * params.dims))) (with_weight params fields id low high) (λ w. nat_abs w ≤ 2 ^ 63) HasWeight (weight_small (field_at fields (3 + 2 * params.dims))) (λ weight small.
    each_gives (coefficients_at params fields (4 + 2 * params.dims)) (λ coeffs. fitting params (made_of id low high weight coeffs)) HasWeight (λ coeffs.
    either (object_fits params (made_of id low high weight coeffs)) (Some (made_of id low high weight coeffs)) None HasWeight small tt)))))

abbrev StagesWeight : ℕ × Object → Type 0
StagesWeight staged = HasWeight staged.1

staged_small : (params : Params) (fields : List (List ℕ)) → IfSome (session_and_object params fields) StagesWeight
staged_small params fields =
    either (length fields == object_fields params) (given (session_of (field_at fields 1)) (λ session. option_map (λ o. (session, o)) (object_of params fields))) None StagesWeight
    (each_gives (session_of (field_at fields 1)) (λ session. option_map (λ o. (session, o)) (object_of params fields)) StagesWeight (λ session.
    some_made (object_of params fields) (λ o. (session, o)) HasWeight StagesWeight (object_small params fields) (λ o small. small)))
    tt

adds_small : (o : Object) → HasWeight o → AddsSmallWeights (row.Add o)
adds_small o small = All-cons HasSmallWeight (change.Add o) [] small (All-nil HasSmallWeight)

moves_small : (o : Object) → HasWeight o → AddsSmallWeights (row.Move o)
moves_small o small = All-cons HasSmallWeight (change.Withdraw o.id) (change.Add o ∷ []) tt (adds_small o small)

withdraws_small : (id : ℕ) → AddsSmallWeights (row.Withdraw id)
withdraws_small id = All-cons HasSmallWeight (change.Withdraw id) [] tt (All-nil HasSmallWeight)

object_row_small : (params : Params) (fields : List (List ℕ)) (make : Object → Row) → ((o : Object) → HasWeight o → AddsSmallWeights (make o)) → IfSome (staged_object params fields make) HasSmallWeights
object_row_small params fields make are =
    some_made (session_and_object params fields) (λ staged. Stage staged.0 (make staged.1)) StagesWeight HasSmallWeights (staged_small params fields) (λ staged small. are staged.1 small)

withdrawal_small : (fields : List (List ℕ)) → IfSome (staged_withdrawal fields) HasSmallWeights
withdrawal_small fields =
    either (length fields == 3) (given (session_of (field_at fields 1)) (λ session. option_map (λ id. Stage session (row.Withdraw id)) (id_of (field_at fields 2)))) None HasSmallWeights
    (each_gives (session_of (field_at fields 1)) (λ session. option_map (λ id. Stage session (row.Withdraw id)) (id_of (field_at fields 2))) HasSmallWeights (λ session.
    each_made (id_of (field_at fields 2)) (λ id. Stage session (row.Withdraw id)) HasSmallWeights withdraws_small))
    tt

abbrev query_at : Kind → List ℕ → List ℕ → Query
query_at k low high = record { kind = k; low = low; high = high }

abbrev asked_at : Params → Kind → List (List ℕ) → Option ℕ → Option Input
asked_at params k fields version = given (ends_at params fields 2) (λ low. given (ends_at params fields 3) (λ high. asking params version (query_at k low high)))

asked_small : (params : Params) (fields : List (List ℕ)) (k : Kind) → IfSome (asked params fields k) HasSmallWeights
asked_small params fields k =
    either (length fields == 2 + 2 * params.dims) (given (version_of (field_at fields 1)) (asked_at params k fields)) None HasSmallWeights
    (each_gives (version_of (field_at fields 1)) (asked_at params k fields) HasSmallWeights (λ version.
    each_gives (ends_at params fields 2) (λ low. given (ends_at params fields 3) (λ high. asking params version (query_at k low high))) HasSmallWeights (λ low.
    each_gives (ends_at params fields 3) (λ high. asking params version (query_at k low high)) HasSmallWeights (λ high.
    either (query_fits params (query_at k low high)) (Some (Ask version (query_at k low high))) None HasSmallWeights tt tt))))
    tt

session_small : (fields : List (List ℕ)) (make : ℕ → Input) → ((session : ℕ) → HasSmallWeights (make session)) → IfSome (of_session fields make) HasSmallWeights
session_small fields make are = each_made (session_alone fields) make HasSmallWeights are

-- the words of rows, tried one after the other
abbrev by_integral : Params → List (List ℕ) → Option Input
by_integral params fields = if bytes_eq (field_at fields 0) (codes "integral") then asked params fields kind.Integral else None

abbrev by_count : Params → List (List ℕ) → Option Input
by_count params fields = if bytes_eq (field_at fields 0) (codes "count") then asked params fields kind.Count else by_integral params fields

abbrev by_sum : Params → List (List ℕ) → Option Input
by_sum params fields = if bytes_eq (field_at fields 0) (codes "sum") then asked params fields kind.Sum else by_count params fields

abbrev by_drop : Params → List (List ℕ) → Option Input
by_drop params fields = if bytes_eq (field_at fields 0) (codes "drop") then of_session fields Drop else by_sum params fields

abbrev by_commit : Params → List (List ℕ) → Option Input
by_commit params fields = if bytes_eq (field_at fields 0) (codes "commit") then of_session fields Commit else by_drop params fields

abbrev by_withdraw : Params → List (List ℕ) → Option Input
by_withdraw params fields = if bytes_eq (field_at fields 0) (codes "withdraw") then staged_withdrawal fields else by_commit params fields

abbrev by_move : Params → List (List ℕ) → Option Input
by_move params fields = if bytes_eq (field_at fields 0) (codes "move") then staged_object params fields row.Move else by_withdraw params fields

row_small : (params : Params) (fields : List (List ℕ)) → IfSome (row_of params fields) HasSmallWeights
row_small params fields =
    let word = field_at fields 0 in
    either (bytes_eq word (codes "add")) (staged_object params fields row.Add) (by_move params fields) HasSmallWeights (object_row_small params fields row.Add adds_small)
    (either (bytes_eq word (codes "move")) (staged_object params fields row.Move) (by_withdraw params fields) HasSmallWeights (object_row_small params fields row.Move moves_small)
    (either (bytes_eq word (codes "withdraw")) (staged_withdrawal fields) (by_commit params fields) HasSmallWeights (withdrawal_small fields)
    (either (bytes_eq word (codes "commit")) (of_session fields Commit) (by_drop params fields) HasSmallWeights (session_small fields Commit (λ session. tt))
    (either (bytes_eq word (codes "drop")) (of_session fields Drop) (by_sum params fields) HasSmallWeights (session_small fields Drop (λ session. tt))
    (either (bytes_eq word (codes "sum")) (asked params fields kind.Sum) (by_count params fields) HasSmallWeights (asked_small params fields kind.Sum)
    (either (bytes_eq word (codes "count")) (asked params fields kind.Count) (by_integral params fields) HasSmallWeights (asked_small params fields kind.Count)
    (either (bytes_eq word (codes "integral")) (asked params fields kind.Integral) None HasSmallWeights (asked_small params fields kind.Integral) tt)))))))

-- a line gives no other weights
pub line_small : (params : Params) (line : List ℕ) → IfSome (input params line) HasSmallWeights
line_small params line =
    either (nat_le (length line) longest_line) (given (line_fields line) (row_of params)) None HasSmallWeights
    (each_gives (line_fields line) (row_of params) HasSmallWeights (row_small params)) tt
