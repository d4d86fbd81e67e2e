-- The types of which all bytes are named: any bytes are the spelling of the value that is read of them.
use Rattle.std.specs.Prelude.{◌≡◌, ℕ, zero, suc, ◌+◌, ◌<◌, ◌≤◌, ◌^◌, List, [], ◌∷◌, ◌++◌, length, drop, refl}
use Rattle.std.specs.Int.{w64}
use Rattle.std.specs.Int.RustNames.{FitsSigned}
use Rattle.std.specs.List.{flat_map, All}
use Rattle.std.proofs.Common.{sym, ap, ◌∙◌, append_assoc, length-drop, arith}
use Rattle.std.proofs.lemmas.Int.{of_z-to_z}
use Rattle.std.proofs.Math.Facts.{sfits_to_z}
use Rattle.std.proofs.lemmas.List.{drop-drop}
use Rattle.page_layout.specs.Numbers.{spelled, number_in}
use Rattle.page_layout.specs.Bytes.{AreBytes, bytes-drop}
use Rattle.page_layout.specs.Entries.{entries_at}
use Rattle.page_layout.specs.Respelled.{Respells, respelled, respelled_at, rows-respelled, number_in-lt, length-entries_at, each_of}
use Rattle.page_layout.specs.Three.{three_bytes, three_in, AreThree}
use Rattle.page_layout.specs.Signed.{signed_bytes, signed_at}
use Rattle.page_layout.specs.Dated.{object_bytes, object_at, IsObjectTyped, dated_bytes, dated_at, IsDatedTyped, by_id_at, by_life_bytes, by_life_at}

-- the same at a place
pub respells_at : {X : Type 0} (spelling : X → List ℕ) (f : List ℕ → X) (size : ℕ) → Respells spelling f size → (k : ℕ) (b : List ℕ) → AreBytes b → k + size ≤ length b
    → spelling (f (drop k b)) ++ drop (k + size) b ≡ drop k b
respells_at spelling f size law k b h room =
    let len = length-drop k b in
    ap (λ (r : List ℕ). spelling (f (drop k b)) ++ r) (sym (drop-drop size k b)) ∙ law (drop k b) (bytes-drop k b h) (omega (arith, len))

pub number-respells : (n : ℕ) → Respells (spelled n) (number_in n) n
number-respells n b h room = respelled n b h room

pub three-respells : Respells (three_bytes 4) (three_in 4) 12
three-respells b h room =
    let x : List ℕ = spelled 4 (number_in 4 b) in
    let y : List ℕ = spelled 4 (number_in 4 (drop 4 b)) in
    let z : List ℕ = spelled 4 (number_in 4 (drop 8 b)) in
    append_assoc x (y ++ z) (drop 12 b)
    ∙ ap (λ (r : List ℕ). x ++ r) (append_assoc y z (drop 12 b))
    ∙ ap (λ (r : List ℕ). x ++ (y ++ r)) (respelled_at 8 4 b h room)
    ∙ ap (λ (r : List ℕ). x ++ r) (respelled_at 4 4 b h (omega arith))
    ∙ respelled 4 b h (omega arith)

pub signed-respells : Respells signed_bytes signed_at 8
signed-respells b h room =
    let fits : number_in 8 b < 2 ^ 64 = number_in-lt 8 b h in
    ap (λ (n : ℕ). spelled 8 n ++ drop 8 b) (of_z-to_z w64 (number_in 8 b) fits) ∙ respelled 8 b h room

pub object-respells : Respells object_bytes object_at 256
object-respells b h room =
    let id : List ℕ = spelled 8 (number_in 8 b) in
    let low : List ℕ = three_bytes 4 (three_in 4 (drop 8 b)) in
    let high : List ℕ = three_bytes 4 (three_in 4 (drop 20 b)) in
    let weight : List ℕ = signed_bytes (signed_at (drop 32 b)) in
    let coeffs : List ℕ = flat_map signed_bytes (entries_at signed_at 8 27 (drop 40 b)) in
    let len40 = length-drop 40 b in
    let last : coeffs ++ drop 256 b ≡ drop 40 b =
    ap (λ (r : List ℕ). coeffs ++ r) (sym (drop-drop 216 40 b)) ∙ rows-respelled signed_bytes signed_at 8 signed-respells 27 (drop 40 b) (bytes-drop 40 b h) (omega (arith, len40)) in
    append_assoc id (low ++ (high ++ (weight ++ coeffs))) (drop 256 b)
    ∙ ap (λ (r : List ℕ). id ++ r) (append_assoc low (high ++ (weight ++ coeffs)) (drop 256 b))
    ∙ ap (λ (r : List ℕ). id ++ (low ++ r)) (append_assoc high (weight ++ coeffs) (drop 256 b))
    ∙ ap (λ (r : List ℕ). id ++ (low ++ (high ++ r))) (append_assoc weight coeffs (drop 256 b))
    ∙ ap (λ (r : List ℕ). id ++ (low ++ (high ++ (weight ++ r)))) last
    ∙ ap (λ (r : List ℕ). id ++ (low ++ (high ++ r))) (respells_at signed_bytes signed_at 8 signed-respells 32 b h (omega arith))
    ∙ ap (λ (r : List ℕ). id ++ (low ++ r)) (respells_at (three_bytes 4) (three_in 4) 12 three-respells 20 b h (omega arith))
    ∙ ap (λ (r : List ℕ). id ++ r) (respells_at (three_bytes 4) (three_in 4) 12 three-respells 8 b h (omega arith))
    ∙ respelled 8 b h (omega arith)

-- An object of any life, whose dates follow it.
dated-respelled : (life : ℕ) (b : List ℕ) → AreBytes b → 272 ≤ length b → dated_bytes (dated_at life b) ++ drop 272 b ≡ b
dated-respelled life b h room =
    let object : List ℕ = object_bytes (object_at b) in
    let added : List ℕ = spelled 4 (number_in 4 (drop 256 b)) in
    let add_event : List ℕ = spelled 4 (number_in 4 (drop 260 b)) in
    let withdrawn : List ℕ = spelled 4 (number_in 4 (drop 264 b)) in
    let withdraw_event : List ℕ = spelled 4 (number_in 4 (drop 268 b)) in
    append_assoc object (added ++ (add_event ++ (withdrawn ++ withdraw_event))) (drop 272 b)
    ∙ ap (λ (r : List ℕ). object ++ r) (append_assoc added (add_event ++ (withdrawn ++ withdraw_event)) (drop 272 b))
    ∙ ap (λ (r : List ℕ). object ++ (added ++ r)) (append_assoc add_event (withdrawn ++ withdraw_event) (drop 272 b))
    ∙ ap (λ (r : List ℕ). object ++ (added ++ (add_event ++ r))) (append_assoc withdrawn withdraw_event (drop 272 b))
    ∙ ap (λ (r : List ℕ). object ++ (added ++ (add_event ++ (withdrawn ++ r)))) (respelled_at 268 4 b h (omega arith))
    ∙ ap (λ (r : List ℕ). object ++ (added ++ (add_event ++ r))) (respelled_at 264 4 b h (omega arith))
    ∙ ap (λ (r : List ℕ). object ++ (added ++ r)) (respelled_at 260 4 b h (omega arith))
    ∙ ap (λ (r : List ℕ). object ++ r) (respelled_at 256 4 b h (omega arith))
    ∙ object-respells b h (omega arith)

pub by_id-respells : Respells dated_bytes by_id_at 272
by_id-respells b h room = dated-respelled 1 b h room

pub by_life-respells : Respells by_life_bytes by_life_at 276
by_life-respells b h room =
    let life : ℕ = number_in 4 (drop 272 b) in
    append_assoc (dated_bytes (dated_at life b)) (spelled 4 life) (drop 276 b)
    ∙ ap (λ (r : List ℕ). dated_bytes (dated_at life b) ++ r) (respelled_at 272 4 b h room)
    ∙ dated-respelled life b h (omega arith)

three-below : (a b c m : ℕ) → a < m → b < m → c < m → All (λ x. x < m) (a ∷ b ∷ c ∷ [])
three-below a b c m x y z zero d h = x
three-below a b c m x y z (suc zero) d h = y
three-below a b c m x y z (suc (suc zero)) d h = z
three-below a b c m x y z (suc (suc (suc k))) d h = absurd (omega arith)

three-typed : (b : List ℕ) → AreBytes b → AreThree (2 ^ 32) (three_in 4 b)
three-typed b h = record {
  three = refl;
  below = three-below (number_in 4 b) (number_in 4 (drop 4 b)) (number_in 4 (drop 8 b)) (2 ^ 32)
      (number_in-lt 4 b h) (number_in-lt 4 (drop 4 b) (bytes-drop 4 b h)) (number_in-lt 4 (drop 8 b) (bytes-drop 8 b h));
}

signed-typed : (b : List ℕ) → AreBytes b → FitsSigned w64 (signed_at b)
signed-typed b h = sfits_to_z {w = w64} (record { fits = number_in-lt 8 b h })

object-typed : (b : List ℕ) → AreBytes b → IsObjectTyped (object_at b)
object-typed b h = record {
  id = number_in-lt 8 b h;
  low = three-typed (drop 8 b) (bytes-drop 8 b h);
  high = three-typed (drop 20 b) (bytes-drop 20 b h);
  weight = signed-typed (drop 32 b) (bytes-drop 32 b h);
  many = length-entries_at signed_bytes signed_at 8 signed-respells 27 (drop 40 b);
  coefficients = each_of (FitsSigned w64) signed_at 8 signed-typed 27 (drop 40 b) (bytes-drop 40 b h);
}

dated-typed : (life : ℕ) → life < 2 ^ 32 → (b : List ℕ) → AreBytes b → IsDatedTyped (dated_at life b)
dated-typed life fits b h = record {
  object = object-typed b h;
  life = fits;
  added = number_in-lt 4 (drop 256 b) (bytes-drop 256 b h);
  add_event = number_in-lt 4 (drop 260 b) (bytes-drop 260 b h);
  withdrawn = number_in-lt 4 (drop 264 b) (bytes-drop 264 b h);
  withdraw_event = number_in-lt 4 (drop 268 b) (bytes-drop 268 b h);
}

pub by_id-typed : (b : List ℕ) → AreBytes b → IsDatedTyped (by_id_at b)
by_id-typed b h = dated-typed 1 (omega arith) b h

pub by_life-typed : (b : List ℕ) → AreBytes b → IsDatedTyped (by_life_at b)
by_life-typed b h = dated-typed (number_in 4 (drop 272 b)) (number_in-lt 4 (drop 272 b) (bytes-drop 272 b h)) b h
