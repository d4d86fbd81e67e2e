-- One dimension: the polynomial of a corner, and how two corners' polynomials make a moment.
use Rattle.std.proofs.Common.{◌≡◌, ℕ, zero, suc, ◌+◌, ◌/◌, ◌<◌, ◌≤◌, Bool, true, false, nat_lt, nat_le, if◌then◌else◌, ℤ, pos, negsuc, neg_ℤ, ◌-ℤ◌, ◌*ℤ◌, arith, refl, ◌∙◌, ap, sym, inl, inr}
use Rattle.std.proofs.Math.IntN.{one, zero-*ℤ, *ℤ-one}
use Rattle.std.proofs.Math.Nat.{pow-zero}
use Rattle.std.proofs.lemmas.Int.{ints}
use Rattle.std.proofs.lemmas.Bool.{cases_lt, lt-ltb, le-ltb, le-leb, lt-leb}
use Rattle.std.specs.List.{range_with_len}
use Rattle.std.specs.Prelude.{int_lt}
use Rattle.std.specs.Int.{int_pow, int_max, int_min}
use Rattle.bw_types.specs.Tally.{int_sum_by}
use Rattle.bw_types.specs.Integral.{moment}
use Rattle.corner_weights.specs.Planes.{primitive, coefficient}
use Rattle.corner_weights.proofs.Whole.{times_difference}

power-zero : (x : ℤ) → int_pow x 0 ≡ pos 1
power-zero (pos a) = ap pos (pow-zero a)
power-zero (negsuc a) = ap pos (pow-zero (suc a))

constant_times : (p x : ℤ) → p *ℤ int_pow x 0 ≡ p
unfolding one
constant_times p x = ap (λ z. p *ℤ z) (power-zero x) ∙ *ℤ-one p

-- the polynomial's value: its terms are the constant one and that of the exponent above e
pub polynomial : (g e : ℕ) (c x : ℤ) → g ≤ 2 → e < g + 1 → int_sum_by (λ f. coefficient e f c *ℤ int_pow x f) (range_with_len 0 (g + 1 + 1)) ≡ primitive e x -ℤ primitive e c
polynomial zero zero c x small lt =
    let constant = constant_times (neg_ℤ (primitive 0 c)) x in
    omega (arith, ints)
polynomial (suc zero) zero c x small lt =
    let constant = constant_times (neg_ℤ (primitive 0 c)) x in
    let second = zero-*ℤ (int_pow x 2) in
    omega (arith, ints)
polynomial (suc zero) (suc zero) c x small lt =
    let constant = constant_times (neg_ℤ (primitive 1 c)) x in
    let first = zero-*ℤ (int_pow x 1) in
    omega (arith, ints)
polynomial (suc (suc zero)) zero c x small lt =
    let constant = constant_times (neg_ℤ (primitive 0 c)) x in
    let second = zero-*ℤ (int_pow x 2) in
    let third = zero-*ℤ (int_pow x 3) in
    omega (arith, ints)
polynomial (suc (suc zero)) (suc zero) c x small lt =
    let constant = constant_times (neg_ℤ (primitive 1 c)) x in
    let first = zero-*ℤ (int_pow x 1) in
    let third = zero-*ℤ (int_pow x 3) in
    omega (arith, ints)
polynomial (suc (suc zero)) (suc (suc zero)) c x small lt =
    let constant = constant_times (neg_ℤ (primitive 2 c)) x in
    let first = zero-*ℤ (int_pow x 1) in
    let second = zero-*ℤ (int_pow x 2) in
    omega (arith, ints)
polynomial (suc (suc (suc g))) e c x small lt = absurd (omega arith)
polynomial zero (suc e) c x small lt = absurd (omega arith)
polynomial (suc zero) (suc (suc e)) c x small lt = absurd (omega arith)
polynomial (suc (suc zero)) (suc (suc (suc e))) c x small lt = absurd (omega arith)

-- coordinates are in the order of their stored numbers
coordinates_below : (a b o : ℕ) → int_lt (pos a -ℤ pos o) (pos b -ℤ pos o) ≡ nat_lt a b
coordinates_below a b o = grind (arith, ints)

-- what corners at or below x give: the low one, less the high one
abbrev pub reached : (ℕ → ℤ) → ℕ → ℕ → ℕ → ℤ
reached p low high x = (if nat_le low x then p x -ℤ p low else pos 0) -ℤ (if nat_le high x then p x -ℤ p high else pos 0)

abbrev pub between : (ℕ → ℤ) → ℕ → ℕ → ℤ
between p a b = if nat_lt a b then p b -ℤ p a else pos 0

-- the greater and the lesser of two numbers
abbrev pub greater : ℕ → ℕ → ℕ
greater a b = if nat_lt b a then a else b

abbrev pub lesser : ℕ → ℕ → ℕ
lesser a b = if nat_lt b a then b else a

pub reached_below : (p : ℕ → ℤ) (low high x : ℕ) → low ≤ high → x < low → reached p low high x ≡ pos 0
reached_below p low high x o h = rw (lt-leb low x h, lt-leb high x (omega arith)) refl

pub reached_inside : (p : ℕ → ℤ) (low high x : ℕ) → low ≤ x → x < high → reached p low high x ≡ p x -ℤ p low
reached_inside p low high x l h = rw (le-leb low x l, lt-leb high x h) (omega (arith, ints))

pub reached_above : (p : ℕ → ℤ) (low high x : ℕ) → low ≤ high → high ≤ x → reached p low high x ≡ p high -ℤ p low
reached_above p low high x o h = rw (le-leb low x (omega arith), le-leb high x h) (omega (arith, ints))

pub between_ordered : (p : ℕ → ℤ) (a b : ℕ) → a ≤ b → between p a b ≡ p b -ℤ p a
between_ordered p a b h = elim (cases_lt a b) [
  | inl lt ↦ rw (lt-ltb a b lt) refl
  | inr ge ↦
      let same : a ≡ b = omega arith in
      let level : p a ≡ p b = ap p same in
      rw (le-ltb a b ge) (omega (arith, ints))
]

pub between_reversed : (p : ℕ → ℤ) (a b : ℕ) → b ≤ a → between p a b ≡ pos 0
between_reversed p a b h = rw (le-ltb a b h) refl

pub greater_first : (a b : ℕ) → b < a → greater a b ≡ a
greater_first a b h = rw (lt-ltb b a h) refl

pub greater_second : (a b : ℕ) → a ≤ b → greater a b ≡ b
greater_second a b h = rw (le-ltb b a h) refl

pub lesser_first : (a b : ℕ) → a ≤ b → lesser a b ≡ a
lesser_first a b h = rw (le-ltb b a h) refl

pub lesser_second : (a b : ℕ) → b < a → lesser a b ≡ b
lesser_second a b h = rw (lt-ltb b a h) refl

-- the two corners of a query, the high one less the low one, give what lies between them
pub reached_between : (p : ℕ → ℤ) (low high qlow qhigh : ℕ) → low ≤ high → qlow ≤ qhigh
    → reached p low high qhigh -ℤ reached p low high qlow ≡ between p (greater low qlow) (lesser high qhigh)
reached_between p low high qlow qhigh o q =
    elim (cases_lt qlow low) [
      | inl before ↦ elim (cases_lt qhigh low) [
        | inl short ↦
            both_are (reached_below p low high qhigh o short) (reached_below p low high qlow o before)
            ∙ sym (ends (greater_first low qlow before) (lesser_second high qhigh (omega arith)) ∙ between_reversed p low qhigh (omega arith))
        | inr far ↦ elim (cases_lt qhigh high) [
          | inl inside ↦
              both_are (reached_inside p low high qhigh far inside) (reached_below p low high qlow o before)
              ∙ less_nothing (p qhigh -ℤ p low)
              ∙ sym (ends (greater_first low qlow before) (lesser_second high qhigh inside) ∙ between_ordered p low qhigh far)
          | inr above ↦
              both_are (reached_above p low high qhigh o above) (reached_below p low high qlow o before)
              ∙ less_nothing (p high -ℤ p low)
              ∙ sym (ends (greater_first low qlow before) (lesser_first high qhigh above) ∙ between_ordered p low high o)
        ]
      ]
      | inr from ↦ elim (cases_lt qlow high) [
        | inl within ↦ elim (cases_lt qhigh high) [
          | inl inside ↦
              both_are (reached_inside p low high qhigh (omega arith) inside) (reached_inside p low high qlow from within)
              ∙ less_common (p qhigh) (p qlow) (p low)
              ∙ sym (ends (greater_second low qlow from) (lesser_second high qhigh inside) ∙ between_ordered p qlow qhigh q)
          | inr above ↦
              both_are (reached_above p low high qhigh o above) (reached_inside p low high qlow from within)
              ∙ less_common (p high) (p qlow) (p low)
              ∙ sym (ends (greater_second low qlow from) (lesser_first high qhigh above) ∙ between_ordered p qlow high (omega arith))
        ]
        | inr past ↦
            both_are (reached_above p low high qhigh o (omega arith)) (reached_above p low high qlow o past)
            ∙ less_itself (p high -ℤ p low)
            ∙ sym (ends (greater_second low qlow from) (lesser_first high qhigh (omega arith)) ∙ between_reversed p qlow high past)
      ]
    ]
  where
    both_are : {x y : ℤ} → reached p low high qhigh ≡ x → reached p low high qlow ≡ y → reached p low high qhigh -ℤ reached p low high qlow ≡ x -ℤ y
    both_are {x} {y} a b = ap (λ z. z -ℤ reached p low high qlow) a ∙ ap (λ z. x -ℤ z) b

    ends : {a b : ℕ} → greater low qlow ≡ a → lesser high qhigh ≡ b → between p (greater low qlow) (lesser high qhigh) ≡ between p a b
    ends {a} {b} e f = ap (λ n. between p n (lesser high qhigh)) e ∙ ap (λ n. between p a n) f

    less_nothing : (x : ℤ) → x -ℤ pos 0 ≡ x
    less_nothing x = omega (arith, ints)

    less_common : (x y z : ℤ) → x -ℤ z -ℤ (y -ℤ z) ≡ x -ℤ y
    less_common x y z = omega (arith, ints)

    less_itself : (x : ℤ) → x -ℤ x ≡ pos 0
    less_itself x = omega (arith, ints)

-- said of coordinates: the moment of the common part
pub moment_between : (e o low high qlow qhigh : ℕ)
    → between (λ n. primitive e (pos n -ℤ pos o)) (greater low qlow) (lesser high qhigh)
    ≡ moment e (int_max (pos low -ℤ pos o) (pos qlow -ℤ pos o)) (int_min (pos high -ℤ pos o) (pos qhigh -ℤ pos o))
moment_between e o low high qlow qhigh =
    sym (ap (λ a. moment e a (int_min (pos high -ℤ pos o) (pos qhigh -ℤ pos o))) (choice (λ n. pos n -ℤ pos o) low qlow (coordinates_below qlow low o))
    ∙ ap (λ b. moment e (pos (greater low qlow) -ℤ pos o) b) (other_choice (λ n. pos n -ℤ pos o) high qhigh (coordinates_below qhigh high o))
    ∙ at_numbers (greater low qlow) (lesser high qhigh))
  where
    choose : (c : ℕ → ℤ) (a b : ℕ) (t : Bool) → (if t then c a else c b) ≡ c (if t then a else b)
    choose c a b true = refl
    choose c a b false = refl

    choice : (c : ℕ → ℤ) (a b : ℕ) → int_lt (c b) (c a) ≡ nat_lt b a → int_max (c a) (c b) ≡ c (greater a b)
    choice c a b h = ap (λ t. if t then c a else c b) h ∙ choose c a b (nat_lt b a)

    other_choice : (c : ℕ → ℤ) (a b : ℕ) → int_lt (c b) (c a) ≡ nat_lt b a → int_min (c a) (c b) ≡ c (lesser a b)
    other_choice c a b h = ap (λ t. if t then c b else c a) h ∙ choose c b a (nat_lt b a)

    at_numbers : (a b : ℕ) → moment e (pos a -ℤ pos o) (pos b -ℤ pos o) ≡ between (λ n. primitive e (pos n -ℤ pos o)) a b
    at_numbers a b =
        ap (λ t. if t then pos (6 / (e + 1)) *ℤ (int_pow (pos b -ℤ pos o) (e + 1) -ℤ int_pow (pos a -ℤ pos o) (e + 1)) else pos 0) (coordinates_below a b o)
        ∙ ap (λ z. if nat_lt a b then z else pos 0) (times_difference (pos (6 / (e + 1))) (int_pow (pos b -ℤ pos o) (e + 1)) (int_pow (pos a -ℤ pos o) (e + 1)))
