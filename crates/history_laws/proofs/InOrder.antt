-- Changes ordered by event number.
use Rattle.std.proofs.Common.{◌≡◌, ◌⊎◌, ℕ, suc, ◌+◌, ◌≤◌, ◌<◌, nat_le, List, [], ◌∷◌, length, get_or, refl, sym, ◌∙◌, ap, subst, arith, inl, inr}
use Rattle.std.proofs.lemmas.Bool.{cases_Bool, leb-true, leb-false}
use Rattle.std.specs.List.Sorted.{IsNonDecreasingBy}
use Rattle.bw_types.specs.Lives.{Numbered}
use Rattle.history_laws.specs.Told.{by_event, with_change}
use Rattle.history_laws.proofs.Members.{Among}

-- no event number is below e
abbrev pub From : ℕ → List Numbered → Type 0
From e [] = Unit {0}
From e (n ∷ ns) = (e ≤ n.event) × From e ns

-- the event numbers never fall, and they always rise
abbrev pub Ordered : List Numbered → Type 0
Ordered [] = Unit {0}
Ordered (n ∷ ns) = From n.event ns × Ordered ns

abbrev pub Rising : List Numbered → Type 0
Rising [] = Unit {0}
Rising (n ∷ ns) = From (n.event + 1) ns × Rising ns

pub from_lower : (d e : ℕ) (ns : List Numbered) → d ≤ e → From e ns → From d ns
from_lower d e [] le f = tt
from_lower d e (n ∷ ns) le f = (omega (arith, f.0), from_lower d e ns le f.1)

from_among : (e : ℕ) (ns : List Numbered) (x : Numbered) → From e ns → Among x ns → e ≤ x.event
from_among e [] x f a = absurd a
from_among e (n ∷ ns) x f (inl same) = let is : n.event ≡ x.event = ap (λ (m : Numbered). m.event) same in omega (arith, f.0, is)
from_among e (n ∷ ns) x f (inr a) = from_among e ns x f.1 a

from_each : (e : ℕ) (ns : List Numbered) → ((j : ℕ) (d : Numbered) → j < length ns → e ≤ (get_or ns j d).event) → From e ns
from_each e [] each = tt
from_each e (n ∷ ns) each = (each 0 n (omega arith), from_each e ns (λ j d lt. each (suc j) d (omega arith)))

ordered_from : (ns : List Numbered) → IsNonDecreasingBy (λ n. n.event) ns → Ordered ns
ordered_from [] up = tt
ordered_from (n ∷ ns) up =
    (from_each n.event ns (λ j d lt. up 0 (suc j) d (omega arith) (omega arith)), ordered_from ns (λ i j d le lt. up (suc i) (suc j) d (omega arith) (omega arith)))

-- one change more
from_with : (e : ℕ) (n : Numbered) (ns : List Numbered) → e ≤ n.event → From e ns → From e (with_change n ns)
from_with e n [] le f = (le, tt)
from_with e n (m ∷ ms) le f = elim (cases_Bool (nat_le n.event m.event)) [
  | inl first ↦ rw first (le, (f.0, f.1))
  | inr later ↦ rw later (f.0, from_with e n ms le f.1)
]

ordered_with : (n : Numbered) (ns : List Numbered) → Ordered ns → Ordered (with_change n ns)
ordered_with n [] o = (tt, tt)
ordered_with n (m ∷ ms) o = elim (cases_Bool (nat_le n.event m.event)) [
  | inl first ↦
      let le : n.event ≤ m.event = leb-true n.event m.event first in
      rw first ((le, from_lower n.event m.event ms le o.0), (o.0, o.1))
  | inr later ↦
      let gt : m.event < n.event = leb-false n.event m.event later in
      rw later (from_with m.event n ms (omega arith) o.0, ordered_with n ms o.1)
]

length_with : (n : Numbered) (ns : List Numbered) → length (with_change n ns) ≡ 1 + length ns
length_with n [] = refl
length_with n (m ∷ ms) = elim (cases_Bool (nat_le n.event m.event)) [
  | inl first ↦ rw first (omega arith)
  | inr later ↦ rw later (omega (arith, length_with n ms))
]

among_with : (n : Numbered) (ns : List Numbered) (x : Numbered) → (n ≡ x) ⊎ Among x ns → Among x (with_change n ns)
among_with n [] x a = a
among_with n (m ∷ ms) x a = elim (cases_Bool (nat_le n.event m.event)) [
  | inl first ↦ rw first a
  | inr later ↦ rw later (elim a [
    | inl same ↦ inr (among_with n ms x (inl same))
    | inr rest ↦ elim rest [ inl here ↦ inl here | inr there ↦ inr (among_with n ms x (inr there)) ]
  ])
]

-- all of them
ordered_by_event : (ns : List Numbered) → Ordered (by_event ns)
ordered_by_event [] = tt
ordered_by_event (n ∷ ns) = ordered_with n (by_event ns) (ordered_by_event ns)

length_by_event : (ns : List Numbered) → length (by_event ns) ≡ length ns
length_by_event [] = refl
length_by_event (n ∷ ns) = omega (arith, length_with n (by_event ns), length_by_event ns)

among_by_event : (ns : List Numbered) (x : Numbered) → Among x ns → Among x (by_event ns)
among_by_event [] x a = absurd a
among_by_event (n ∷ ns) x (inl same) = among_with n (by_event ns) x (inl same)
among_by_event (n ∷ ns) x (inr a) = among_with n (by_event ns) x (inr (among_by_event ns x a))

-- a list whose event numbers rise, and an ordered one that has all its changes
Within : List Numbered → List Numbered → Type 0
Within bs ss = (x : Numbered) → Among x bs → Among x ss

-- where the first of both is the same, so are the rest
rest_within : (b s : Numbered) (bs ss : List Numbered) → Rising (b ∷ bs) → Within (b ∷ bs) (s ∷ ss) → s ≡ b → Within bs ss
unfolding Within
rest_within b s bs ss r w same x a = elim (w x (inr a)) [
  | inl is ↦
      let at : b.event ≡ x.event = ap (λ (m : Numbered). m.event) (sym same ∙ is) in
      absurd (omega (arith, at, from_among (b.event + 1) bs x r.0 a))
  | inr there ↦ there
]

-- where the first one comes later, all of them do
all_later : (b s : Numbered) (bs ss : List Numbered) → Rising (b ∷ bs) → Ordered (s ∷ ss) → Within (b ∷ bs) (s ∷ ss) → Among b ss → Within (b ∷ bs) ss
unfolding Within
all_later b s bs ss r o w later x (inl same) = subst (λ (m : Numbered). Among m ss) same later
all_later b s bs ss r o w later x (inr a) = elim (w x (inr a)) [
  | inl is ↦
      let at : s.event ≡ x.event = ap (λ (m : Numbered). m.event) is in
      absurd (omega (arith, at, from_among (b.event + 1) bs x r.0 a, from_among s.event ss b o.0 later))
  | inr there ↦ there
]

no_more : (bs ss : List Numbered) → Rising bs → Ordered ss → Within bs ss → length bs ≤ length ss
unfolding Within
no_more [] ss r o w = omega arith
no_more (b ∷ bs) [] r o w = absurd (w b (inl refl))
no_more (b ∷ bs) (s ∷ ss) r o w = elim (w b (inl refl)) [
  | inl same ↦ omega (arith, no_more bs ss r.1 o.1 (rest_within b s bs ss r w same))
  | inr later ↦ omega (arith, no_more (b ∷ bs) ss r o.1 (all_later b s bs ss r o w later))
]

-- if it is no longer, both are the same
same_within : (bs ss : List Numbered) → Rising bs → Ordered ss → Within bs ss → length ss ≤ length bs → ss ≡ bs
unfolding Within
same_within [] [] r o w short = refl
same_within [] (s ∷ ss) r o w short = absurd (omega arith)
same_within (b ∷ bs) [] r o w short = absurd (w b (inl refl))
same_within (b ∷ bs) (s ∷ ss) r o w short = elim (w b (inl refl)) [
  | inl same ↦ ap (λ (m : Numbered). m ∷ ss) same ∙ ap (λ (ms : List Numbered). b ∷ ms) (same_within bs ss r.1 o.1 (rest_within b s bs ss r w same) (omega arith))
  | inr later ↦ absurd (omega (arith, no_more (b ∷ bs) ss r o.1 (all_later b s bs ss r o w later)))
]

-- changes whose event numbers rise, put in order from another order of as many
pub order_is : (bs ns : List Numbered) → Rising bs → ((x : Numbered) → Among x bs → Among x ns) → length ns ≡ length bs → by_event ns ≡ bs
unfolding Within
order_is bs ns r w even = same_within bs (by_event ns) r (ordered_by_event ns) (λ x a. among_by_event ns x (w x a)) (omega (arith, length_by_event ns))

-- the same of changes that stand in order already
pub in_order_is : (bs ns : List Numbered) → Rising bs → IsNonDecreasingBy (λ n. n.event) ns → ((x : Numbered) → Among x bs → Among x ns) → length ns ≡ length bs → ns ≡ bs
unfolding Within
in_order_is bs ns r up w even = same_within bs ns r (ordered_from ns up) w (omega arith)
