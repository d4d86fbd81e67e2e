-- Points in another order may be built as well.
use Rattle.std.proofs.Common.{◌≡◌, ℕ, zero, suc, ◌<◌, ◌==◌, ◌&&◌, not, Bool, true, false, inl, inr, List, length, get_or, refl, sym, ap, ◌∙◌, arith}
use Rattle.std.specs.Prelude.{IsPermutation, slice_index, ◌^◌, ◌-◌}
use Rattle.std.proofs.lemmas.Bool.{cases_eq, eq-eqb, ne_eqb}
use Rattle.std.proofs.lemmas.List.Sorted.{All-permutation, length_permutation}
use Rattle.std.proofs.lemmas.Map.Keys.{IsDistinct-IsPermutation, IsDistinct-from_apart, apart_from_distinct}
use Rattle.bw_types.specs.declared.point.Point.{Point}
use Rattle.dom_index.specs.Points.{AreKeysBelow, keys_differ}
use Rattle.cut_parts.specs.Borders.{MayBeBuilt, ShareNoKey}

eqb_flips : (a b : ℕ) → (a == b) ≡ (b == a)
eqb_flips a b = elim (cases_eq a b) [
  | inl same ↦ eq-eqb a b same ∙ sym (eq-eqb b a (sym same))
  | inr other ↦ ne_eqb a b other ∙ sym (ne_eqb b a (λ same. other (sym same)))
]

pub differ_flips : (dims : ℕ) (p q : Point) → keys_differ dims p q ≡ keys_differ dims q p
differ_flips zero p q = refl
differ_flips (suc dims) p q =
    let test : Point → Point → ℕ → Bool = λ p q i. not (slice_index p.keys i == slice_index q.keys i) in
    ap (λ (b : Bool). b && not (slice_index p.keys dims == slice_index q.keys dims)) (differ_flips dims p q)
    ∙ ap (λ (b : Bool). keys_differ dims q p && not b) (eqb_flips (slice_index p.keys dims) (slice_index q.keys dims))

not_false : (b : Bool) → not b ≡ false → b ≡ true
not_false true h = refl
not_false false h = cc

not_true : (b : Bool) → b ≡ true → not b ≡ false
not_true true h = refl
not_true false h = cc

-- whether two points share a key
abbrev share : ℕ → Point → Point → Bool
share dims p q = not (keys_differ dims p q)

pub no_key_shared : (dims : ℕ) (points others : List Point) → IsPermutation points others → ShareNoKey dims points → ShareNoKey dims others
no_key_shared dims points others same apart = λ i j d lt few.
    let before = IsDistinct-from_apart (share dims) points (λ i j d lt few. not_true (keys_differ dims (get_or points i d) (get_or points j d)) (apart i j d lt few)) in
    let after = IsDistinct-IsPermutation (share dims) (λ p q. ap not (differ_flips dims p q)) points others same before in
    not_false (keys_differ dims (get_or others i d) (get_or others j d)) (apart_from_distinct (share dims) others i j d after lt few)

pub may_in_any_order : (dims : ℕ) (points others : List Point) → IsPermutation points others → MayBeBuilt dims points → MayBeBuilt dims others
may_in_any_order dims points others same may = record {
  few = omega (arith, may.few, length_permutation points others same);
  apart = no_key_shared dims points others same may.apart;
  keys = All-permutation (λ (p : Point). AreKeysBelow dims p.keys) points others same may.keys;
  versions = All-permutation (λ (p : Point). p.version < 2 ^ 32 - 1) points others same may.versions;
  three = All-permutation (λ (p : Point). length p.keys ≡ 3) points others same may.three;
}
