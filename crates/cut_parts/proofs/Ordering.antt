-- Points in the order of keys that differ.
use Rattle.std.proofs.Common.{◌≡◌, inl, inr, ℕ, ◌<◌, ◌≤◌, List, length, get_or, refl, sym, ap, ◌∙◌, arith}
use Rattle.std.specs.List.{swap}
use Rattle.std.specs.List.Sorted.{IsPermutation, IsNonDecreasingBy}
use Rattle.std.proofs.lemmas.Bool.{cases_eq}
use Rattle.std.proofs.lemmas.List.Edits.{swapped_from_swap, length-swap}
use Rattle.std.proofs.lemmas.List.Sorted.{IsPermutation-keeps}
use Rattle.bw_types.specs.declared.point.Point.{Point}
use Rattle.cut_parts.specs.Medians.{key_of, KeysDiffer, AreAscending, IsMedian}

-- Where an element stood before two were swapped.
record Was (points : List Point) (a b i : ℕ) (none : Point) : Type 0 where
  place : ℕ
  has : place < length points
  same : get_or (swap points a b) i none ≡ get_or points place none
  at_a : i ≡ a → place ≡ b
  at_b : i ≡ b → place ≡ a
  other : (i ≡ a → ⊥) → (i ≡ b → ⊥) → place ≡ i

was : (points : List Point) (a b i : ℕ) (none : Point) → a < length points → b < length points → i < length points → Was points a b i none
was points a b i none la lb li =
    let s = swapped_from_swap points (swap points a b) a b none la lb refl in
    elim (cases_eq i a) [
      | inl e ↦ record { place = b; has = lb; same = ap (λ (n : ℕ). get_or (swap points a b) n none) e ∙ s.0; at_a = λ h. refl; at_b = λ h. sym h ∙ e; other = λ h g. absurd (h e) }
      | inr ne ↦ elim (cases_eq i b) [
        | inl e ↦ record { place = a; has = la; same = ap (λ (n : ℕ). get_or (swap points a b) n none) e ∙ s.1; at_a = λ h. absurd (ne h); at_b = λ h. refl; other = λ h g. absurd (g e) }
        | inr other ↦ record { place = i; has = li; same = s.2 i ne other; at_a = λ h. absurd (ne h); at_b = λ h. absurd (other h); other = λ h g. refl }
      ]
    ]

same_place : (points : List Point) (a b i j : ℕ) (none : Point) (w : Was points a b i none) (v : Was points a b j none) → w.place ≡ v.place → i ≡ j
same_place points a b i j none w v e =
    elim (cases_eq i a) [
      | inl ia ↦ let p = w.at_a ia in elim (cases_eq j a) [
        | inl ja ↦ ia ∙ sym ja
        | inr nja ↦ elim (cases_eq j b) [
          | inl jb ↦ let q = v.at_b jb in omega arith
          | inr njb ↦ let q = v.other nja njb in omega arith
        ]
      ]
      | inr nia ↦ elim (cases_eq i b) [
        | inl ib ↦ let p = w.at_b ib in elim (cases_eq j a) [
          | inl ja ↦ let q = v.at_a ja in omega arith
          | inr nja ↦ elim (cases_eq j b) [
            | inl jb ↦ ib ∙ sym jb
            | inr njb ↦ let q = v.other nja njb in omega arith
          ]
        ]
        | inr nib ↦ let p = w.other nia nib in elim (cases_eq j a) [
          | inl ja ↦ let q = v.at_a ja in omega arith
          | inr nja ↦ elim (cases_eq j b) [
            | inl jb ↦ let q = v.at_b jb in omega arith
            | inr njb ↦ let q = v.other nja njb in omega arith
          ]
        ]
      ]
    ]

keys_swapped : (dimension : ℕ) (points : List Point) (a b : ℕ) → a < length points → b < length points → KeysDiffer dimension points → KeysDiffer dimension (swap points a b)
keys_swapped dimension points a b la lb differ i j none li lj same =
    let len : length (swap points a b) ≡ length points = length-swap points a b in
    let w : Was points a b i none = was points a b i none la lb (omega arith) in
    let v : Was points a b j none = was points a b j none la lb (omega arith) in
    same_place points a b i j none w v (differ w.place v.place none w.has v.has (ap (key_of dimension) (sym w.same) ∙ same ∙ ap (key_of dimension) v.same))

pub keys_differ : (dimension : ℕ) (points new : List Point) → IsPermutation points new → KeysDiffer dimension points → KeysDiffer dimension new
keys_differ dimension points new moved differ =
    IsPermutation-keeps points (λ l. KeysDiffer dimension l) differ (λ l i j li lj h. keys_swapped dimension l i j li lj h) new moved

pub ascending : (dimension : ℕ) (points : List Point) → KeysDiffer dimension points → IsNonDecreasingBy (key_of dimension) points → AreAscending dimension points
ascending dimension points differ up i j none lt has =
    let le : key_of dimension (get_or points i none) ≤ key_of dimension (get_or points j none) = up i j none (omega arith) has in
    elim (cases_eq (key_of dimension (get_or points i none)) (key_of dimension (get_or points j none))) [
      | inl e ↦ let same : i ≡ j = differ i j none (omega arith) has e in absurd (omega arith)
      | inr ne ↦ omega arith
    ]

pub median : (dimension half key : ℕ) (points : List Point) → AreAscending dimension points → half < length points → ((none : Point) → key ≡ key_of dimension (get_or points half none)) → IsMedian dimension points half key
median dimension half key points up has is = record {
  here = is;
  before = λ i none lt. let a : key_of dimension (get_or points i none) < key_of dimension (get_or points half none) = up i half none lt has in let e = is none in omega arith;
  after = λ i none lt few. let a : key_of dimension (get_or points half none) < key_of dimension (get_or points i none) = up half i none lt few in let e = is none in omega arith;
}
