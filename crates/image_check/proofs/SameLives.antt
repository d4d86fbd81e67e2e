-- What the test for the same lives tells.
use Rattle.std.proofs.Common.{◌≡◌, ℕ, ℤ, ◌==◌, ◌&&◌, Bool, true, List, refl, subst}
use Rattle.std.proofs.lemmas.Bool.{and_parts}
use Rattle.std.proofs.lemmas.Bool.Decides.{Decides-eqb, Decides-int_eq}
use Rattle.std.proofs.lemmas.Slice.Eq.{slice_eq-Decides}
use Rattle.std.specs.Bool.{Decides}
use Rattle.std.specs.Cmp.Lexicographic.{pointwise}
use Rattle.std.specs.Ordering.{int_eq}
use Rattle.bw_types.specs.declared.dated.Dated.{Dated}
use Rattle.bw_types.specs.declared.object.Object.{Object}

numbers_decide : (xs ys : List ℕ) → Decides (pointwise (λ (x y : ℕ). x == y) xs ys) (xs ≡ ys)
numbers_decide xs ys = slice_eq-Decides Decides-eqb xs ys (pointwise (λ (x y : ℕ). x == y) xs ys) refl

signed_decide : (xs ys : List ℤ) → Decides (pointwise int_eq xs ys) (xs ≡ ys)
signed_decide xs ys = slice_eq-Decides Decides-int_eq xs ys (pointwise int_eq xs ys) refl

both : (a b : Bool) → a ≡ true → b ≡ true → (a && b) ≡ true
both a b p q = rw p q

num : (n : ℕ) → (n == n) ≡ true
num n = (Decides-eqb n n).1 refl

-- the objects
abbrev object_test : Object → Object → Bool
object_test a b =
    (a.id == b.id)
    && (pointwise (λ (x y : ℕ). x == y) a.low b.low && (pointwise (λ (x y : ℕ). x == y) a.high b.high && (int_eq a.weight b.weight && pointwise int_eq a.coeffs b.coeffs)))

object_self : (a : Object) → object_test a a ≡ true
object_self a =
    both _ _ (num a.id) (both _ _ ((numbers_decide a.low a.low).1 refl) (both _ _ ((numbers_decide a.high a.high).1 refl) (both _ _ ((Decides-int_eq a.weight a.weight).1 refl) ((signed_decide a.coeffs a.coeffs).1 refl))))

object_decides : (a b : Object) → Decides (object_test a b) (a ≡ b)
object_decides a b = (
  λ yes.
      let p = and_parts _ _ yes in
      let q = and_parts _ _ p.1 in
      let r = and_parts _ _ q.1 in
      let s = and_parts _ _ r.1 in
      let id : a.id ≡ b.id = (Decides-eqb a.id b.id).0 p.0 in
      let low : a.low ≡ b.low = (numbers_decide a.low b.low).0 q.0 in
      let high : a.high ≡ b.high = (numbers_decide a.high b.high).0 r.0 in
      let weight : a.weight ≡ b.weight = (Decides-int_eq a.weight b.weight).0 s.0 in
      let coeffs : a.coeffs ≡ b.coeffs = (signed_decide a.coeffs b.coeffs).0 s.1 in
      λ i. record { id = id i; low = low i; high = high i; weight = weight i; coeffs = coeffs i },
  λ same. subst (λ (x : Object). object_test a x ≡ true) same (object_self a),
)

-- the lives
abbrev dated_test : Dated → Dated → Bool
dated_test d e =
    object_test d.object e.object
    && ((d.life == e.life) && ((d.added == e.added) && ((d.add_event == e.add_event) && ((d.withdrawn == e.withdrawn) && (d.withdraw_event == e.withdraw_event)))))

dated_self : (d : Dated) → dated_test d d ≡ true
dated_self d =
    both _ _ (object_self d.object) (both _ _ (num d.life) (both _ _ (num d.added) (both _ _ (num d.add_event) (both _ _ (num d.withdrawn) (num d.withdraw_event)))))

dated_decides : (d e : Dated) → Decides (dated_test d e) (d ≡ e)
dated_decides d e = (
  λ yes.
      let p = and_parts _ _ yes in
      let q = and_parts _ _ p.1 in
      let r = and_parts _ _ q.1 in
      let s = and_parts _ _ r.1 in
      let t = and_parts _ _ s.1 in
      let object : d.object ≡ e.object = (object_decides d.object e.object).0 p.0 in
      let life : d.life ≡ e.life = (Decides-eqb d.life e.life).0 q.0 in
      let added : d.added ≡ e.added = (Decides-eqb d.added e.added).0 r.0 in
      let add_event : d.add_event ≡ e.add_event = (Decides-eqb d.add_event e.add_event).0 s.0 in
      let withdrawn : d.withdrawn ≡ e.withdrawn = (Decides-eqb d.withdrawn e.withdrawn).0 t.0 in
      let withdraw_event : d.withdraw_event ≡ e.withdraw_event = (Decides-eqb d.withdraw_event e.withdraw_event).0 t.1 in
      λ i. record { object = object i; life = life i; added = added i; add_event = add_event i; withdrawn = withdrawn i; withdraw_event = withdraw_event i },
  λ same. subst (λ (x : Dated). dated_test d x ≡ true) same (dated_self d),
)

pub lives_decide : (ds es : List Dated) (r : Bool) → r ≡ pointwise dated_test ds es → Decides r (ds ≡ es)
lives_decide ds es r is = slice_eq-Decides dated_decides ds es r is
