-- Objects with their dates, as the leaves of object tables spell them.
use Rattle.std.specs.Prelude.{◌≡◌, ℕ, ◌*◌, ◌<◌, ◌^◌, ◌++◌, List, length, drop, slice_index, Bool, ◌&&◌, ◌||◌, ◌==◌, nat_le, nat_lt, if◌then◌else◌, IsTrue}
use Rattle.std.specs.List.{flat_map, All}
use Rattle.std.specs.Int.{w64}
use Rattle.std.specs.Int.RustNames.{FitsSigned}
use Rattle.std.proofs.Common.{sym, ap, ◌∙◌, append_assoc, length-append, arith}
use Rattle.std.proofs.lemmas.Bool.{eqb-true}
use Rattle.bw_types.specs.declared.object.Object.{Object}
use Rattle.bw_types.specs.declared.dated.Dated.{Dated}
use Rattle.page_layout.specs.Numbers.{spelled, number_in, length-spelled, next_part, next_number, number_at}
use Rattle.page_layout.specs.Three.{three_bytes, three_in, AreThree, length-three, three_in-back}
use Rattle.page_layout.specs.Signed.{signed_bytes, signed_at, length-signed, signed-back}
use Rattle.page_layout.specs.TreeValue.{both_true}
use Rattle.page_layout.specs.Entries.{entries_at, length-entries, entries_at-spelled}

-- the 256 bytes of an object
abbrev pub object_bytes : Object → List ℕ
object_bytes o = spelled 8 o.id ++ (three_bytes 4 o.low ++ (three_bytes 4 o.high ++ (signed_bytes o.weight ++ flat_map signed_bytes o.coeffs)))

-- an object that the first 256 bytes may spell
abbrev pub object_at : List ℕ → Object
object_at bytes = record { id = number_in 8 bytes; low = three_in 4 (drop 8 bytes); high = three_in 4 (drop 20 bytes); weight = signed_at (drop 32 bytes); coeffs = entries_at signed_at 8 27 (drop 40 bytes) }

-- There are three ends on each side and 27 coefficients, and the numbers are those of their types.
pub record IsObjectTyped (o : Object) : Type 0 where
  pub id : o.id < 2 ^ 64
  pub low : AreThree (2 ^ 32) o.low
  pub high : AreThree (2 ^ 32) o.high
  pub weight : FitsSigned w64 o.weight
  pub many : length o.coeffs ≡ 27
  pub coefficients : All (FitsSigned w64) o.coeffs

-- the 16 bytes of the dates of an object
abbrev pub date_bytes : Dated → List ℕ
date_bytes d = spelled 4 d.added ++ (spelled 4 d.add_event ++ (spelled 4 d.withdrawn ++ spelled 4 d.withdraw_event))

-- the 272 bytes of an object and its dates
abbrev pub dated_bytes : Dated → List ℕ
dated_bytes d = object_bytes d.object ++ date_bytes d

-- an object of this life and its dates that the first 272 bytes may spell
abbrev pub dated_at : ℕ → List ℕ → Dated
dated_at life bytes = record { object = object_at bytes; life = life; added = number_in 4 (drop 256 bytes); add_event = number_in 4 (drop 260 bytes); withdrawn = number_in 4 (drop 264 bytes); withdraw_event = number_in 4 (drop 268 bytes) }

-- The numbers are those of their types.
pub record IsDatedTyped (d : Dated) : Type 0 where
  pub object : IsObjectTyped d.object
  pub life : d.life < 2 ^ 32
  pub added : d.added < 2 ^ 32
  pub add_event : d.add_event < 2 ^ 32
  pub withdrawn : d.withdrawn < 2 ^ 32
  pub withdraw_event : d.withdraw_event < 2 ^ 32

-- a low end is at most the high one, and that is at most the greatest number that may be stored
abbrev pub end_fits : ℕ → ℕ → Bool
end_fits low high = nat_le low high && nat_le high 4294967294

-- the ends in each of three dimensions
abbrev pub ends_fit : Object → Bool
ends_fit o = end_fits (slice_index o.low 0) (slice_index o.high 0) && (end_fits (slice_index o.low 1) (slice_index o.high 1) && end_fits (slice_index o.low 2) (slice_index o.high 2))

-- an object that is not withdrawn has no event of it, and another was withdrawn in a later version than it was added in
abbrev pub withdrawal_fits : Dated → Bool
withdrawal_fits d = if d.withdrawn == 0 then d.withdraw_event == 0 else nat_lt d.added d.withdrawn

-- it was added in a version of at least 1
abbrev pub dates_fit : Dated → Bool
dates_fit d = nat_le 1 d.added && withdrawal_fits d

-- the rule of an object with its dates
abbrev pub dated_fits : Dated → Bool
dated_fits d = ends_fit d.object && dates_fit d

-- In the form by id: 272 bytes, and the only life is the first.
abbrev pub by_id_at : List ℕ → Dated
by_id_at bytes = dated_at 1 bytes

abbrev pub by_id_fits : Dated → Bool
by_id_fits d = dated_fits d && d.life == 1

-- In the form by id and life: 276 bytes, the last of which are the life.
abbrev pub by_life_bytes : Dated → List ℕ
by_life_bytes d = dated_bytes d ++ spelled 4 d.life

abbrev pub by_life_at : List ℕ → Dated
by_life_at bytes = dated_at (number_in 4 (drop 272 bytes)) bytes

abbrev pub by_life_fits : Dated → Bool
by_life_fits d = dated_fits d && nat_le 1 d.life

-- the order of ids and lives
abbrev pub life_precedes : ℕ → ℕ → ℕ → ℕ → Bool
life_precedes id life next_id next_life = nat_lt id next_id || (id == next_id && nat_lt life next_life)

nest_right : (a b c d e rest : List ℕ) → (a ++ (b ++ (c ++ (d ++ e)))) ++ rest ≡ a ++ (b ++ (c ++ (d ++ (e ++ rest))))
nest_right a b c d e rest = simp append_assoc

pub length-object : (o : Object) → IsObjectTyped o → length (object_bytes o) ≡ 256
length-object o typed =
    let many : length o.coeffs ≡ 27 = typed.many in
    let row : length (flat_map signed_bytes o.coeffs) ≡ length o.coeffs * 8 = length-entries signed_bytes 8 (FitsSigned w64) (λ z _. length-signed z) o.coeffs typed.coefficients in
    let rest3 : length (signed_bytes o.weight ++ flat_map signed_bytes o.coeffs) ≡ 224 = omega (arith, length-append (signed_bytes o.weight) (flat_map signed_bytes o.coeffs), length-signed o.weight) in
    let rest2 : length (three_bytes 4 o.high ++ (signed_bytes o.weight ++ flat_map signed_bytes o.coeffs)) ≡ 236 = omega (arith, length-append (three_bytes 4 o.high) (signed_bytes o.weight ++ flat_map signed_bytes o.coeffs), length-three 4 o.high) in
    let rest1 : length (three_bytes 4 o.low ++ (three_bytes 4 o.high ++ (signed_bytes o.weight ++ flat_map signed_bytes o.coeffs))) ≡ 248 = omega (arith, length-append (three_bytes 4 o.low) (three_bytes 4 o.high ++ (signed_bytes o.weight ++ flat_map signed_bytes o.coeffs)), length-three 4 o.low) in
    omega (arith, length-append (spelled 8 o.id) (three_bytes 4 o.low ++ (three_bytes 4 o.high ++ (signed_bytes o.weight ++ flat_map signed_bytes o.coeffs))), length-spelled 8 o.id)

length-dates : (d : Dated) → length (date_bytes d) ≡ 16
length-dates d = simp (length-append, length-spelled)

pub length-dated : (d : Dated) → IsDatedTyped d → length (dated_bytes d) ≡ 272
length-dated d typed = omega (arith, length-append (object_bytes d.object) (date_bytes d), length-object d.object typed.object, length-dates d)

pub length-by_life : (d : Dated) → IsDatedTyped d → length (by_life_bytes d) ≡ 276
length-by_life d typed = omega (arith, length-append (dated_bytes d) (spelled 4 d.life), length-dated d typed, length-spelled 4 d.life)

object-back : (o : Object) (rest : List ℕ) → IsObjectTyped o → object_at (object_bytes o ++ rest) ≡ o
object-back o rest typed =
    let whole : List ℕ = object_bytes o ++ rest in
    let row : List ℕ = flat_map signed_bytes o.coeffs in
    let r3 : List ℕ = signed_bytes o.weight ++ (row ++ rest) in
    let r2 : List ℕ = three_bytes 4 o.high ++ r3 in
    let r1 : List ℕ = three_bytes 4 o.low ++ r2 in
    let right : whole ≡ spelled 8 o.id ++ r1 = nest_right (spelled 8 o.id) (three_bytes 4 o.low) (three_bytes 4 o.high) (signed_bytes o.weight) row rest in
    let d8 : drop 8 whole ≡ r1 = next_number whole o.id r1 0 8 right in
    let d20 : drop 20 whole ≡ r2 = next_part whole (three_bytes 4 o.low) r2 8 12 d8 (length-three 4 o.low) in
    let d32 : drop 32 whole ≡ r3 = next_part whole (three_bytes 4 o.high) r3 20 12 d20 (length-three 4 o.high) in
    let d40 : drop 40 whole ≡ row ++ rest = next_part whole (signed_bytes o.weight) (row ++ rest) 32 8 d32 (length-signed o.weight) in
    let many : 27 ≡ length o.coeffs = sym typed.many in
    let id : number_in 8 whole ≡ o.id = number_at whole o.id r1 0 8 right typed.id in
    let low : three_in 4 (drop 8 whole) ≡ o.low = ap (λ (b : List ℕ). three_in 4 b) d8 ∙ three_in-back 4 o.low r2 typed.low in
    let high : three_in 4 (drop 20 whole) ≡ o.high = ap (λ (b : List ℕ). three_in 4 b) d20 ∙ three_in-back 4 o.high r3 typed.high in
    let weight : signed_at (drop 32 whole) ≡ o.weight = ap (λ (b : List ℕ). signed_at b) d32 ∙ signed-back o.weight (row ++ rest) typed.weight in
    let coeffs : entries_at signed_at 8 27 (drop 40 whole) ≡ o.coeffs =
    ap (λ (n : ℕ). entries_at signed_at 8 n (drop 40 whole)) many
    ∙ ap (λ (b : List ℕ). entries_at signed_at 8 (length o.coeffs) b) d40
    ∙ entries_at-spelled signed_bytes signed_at 8 (FitsSigned w64) (λ z _. length-signed z) signed-back o.coeffs rest typed.coefficients in
    λ i. record { id = id i; low = low i; high = high i; weight = weight i; coeffs = coeffs i }

pub dated-back : (d : Dated) (rest : List ℕ) → IsDatedTyped d → dated_at d.life (dated_bytes d ++ rest) ≡ d
dated-back d rest typed =
    let whole : List ℕ = dated_bytes d ++ rest in
    let r4 : List ℕ = spelled 4 d.withdraw_event ++ rest in
    let r3 : List ℕ = spelled 4 d.withdrawn ++ r4 in
    let r2 : List ℕ = spelled 4 d.add_event ++ r3 in
    let r1 : List ℕ = spelled 4 d.added ++ r2 in
    let right : whole ≡ object_bytes d.object ++ r1 = nest_right (object_bytes d.object) (spelled 4 d.added) (spelled 4 d.add_event) (spelled 4 d.withdrawn) (spelled 4 d.withdraw_event) rest in
    let d256 : drop 256 whole ≡ r1 = next_part whole (object_bytes d.object) r1 0 256 right (length-object d.object typed.object) in
    let d260 : drop 260 whole ≡ r2 = next_number whole d.added r2 256 4 d256 in
    let d264 : drop 264 whole ≡ r3 = next_number whole d.add_event r3 260 4 d260 in
    let d268 : drop 268 whole ≡ r4 = next_number whole d.withdrawn r4 264 4 d264 in
    let object : object_at whole ≡ d.object = ap (λ (b : List ℕ). object_at b) right ∙ object-back d.object r1 typed.object in
    let added : number_in 4 (drop 256 whole) ≡ d.added = number_at whole d.added r2 256 4 d256 typed.added in
    let add_event : number_in 4 (drop 260 whole) ≡ d.add_event = number_at whole d.add_event r3 260 4 d260 typed.add_event in
    let withdrawn : number_in 4 (drop 264 whole) ≡ d.withdrawn = number_at whole d.withdrawn r4 264 4 d264 typed.withdrawn in
    let withdraw_event : number_in 4 (drop 268 whole) ≡ d.withdraw_event = number_at whole d.withdraw_event rest 268 4 d268 typed.withdraw_event in
    λ i. record { object = object i; life = d.life; added = added i; add_event = add_event i; withdrawn = withdrawn i; withdraw_event = withdraw_event i }

pub by_id-back : (d : Dated) (rest : List ℕ) → IsDatedTyped d → IsTrue (by_id_fits d) → by_id_at (dated_bytes d ++ rest) ≡ d
by_id-back d rest typed fits =
    let parts = both_true (dated_fits d) (d.life == 1) fits in
    let one : 1 ≡ d.life = sym (eqb-true d.life 1 parts.1) in
    ap (λ (life : ℕ). dated_at life (dated_bytes d ++ rest)) one ∙ dated-back d rest typed

pub by_life-back : (d : Dated) (rest : List ℕ) → IsDatedTyped d → by_life_at (by_life_bytes d ++ rest) ≡ d
by_life-back d rest typed =
    let whole : List ℕ = by_life_bytes d ++ rest in
    let r1 : List ℕ = spelled 4 d.life ++ rest in
    let right : whole ≡ dated_bytes d ++ r1 = append_assoc (dated_bytes d) (spelled 4 d.life) rest in
    let d272 : drop 272 whole ≡ r1 = next_part whole (dated_bytes d) r1 0 272 right (length-dated d typed) in
    let life : number_in 4 (drop 272 whole) ≡ d.life = number_at whole d.life rest 272 4 d272 typed.life in
    ap (λ (n : ℕ). dated_at n whole) life ∙ ap (λ (b : List ℕ). dated_at d.life b) right ∙ dated-back d r1 typed
