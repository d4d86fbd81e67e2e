-- The changes that the lives of a lawful history name are the history's own.
use Rattle.std.proofs.Common.{◌≡◌, ℕ, zero, suc, ◌<◌, ◌≤◌, nat_le, List, [], ◌∷◌, length, get_or, sym, subst, inl, inr, arith, IsPermutation}
use Rattle.std.specs.List.{flat_map}
use Rattle.std.specs.List.Sorted.{IsNonDecreasingBy}
use Rattle.std.proofs.lemmas.Bool.{cases_Bool, leb-false, leb-true}
use Rattle.std.proofs.lemmas.List.Sorted.{IsPermutation-append_comm, IsPermutation-append_left, IsPermutation-cons, IsPermutation-refl, IsPermutation-trans}
use Rattle.bw_types.specs.History.{History}
use Rattle.bw_types.specs.Lives.{Numbered, numbered}
use Rattle.bw_types.specs.declared.dated.Dated.{Dated}
use Rattle.bw_types.specs.declared.params.Params.{Params}
use Rattle.page_layout.specs.declared.meta.Meta.{Meta}
use Rattle.history_laws.specs.Told.{by_event, named_by, with_change}
use Rattle.history_laws.specs.Telling.{LivesNameChanges}
use Rattle.image_check.specs.Judging.{IsKept}
use Rattle.image_check.specs.Telling.{IsToldBy}

-- From a number on, the event numbers never fall.
abbrev GoUp : ℕ → List Numbered → Type 0
GoUp low [] = Unit {0}
GoUp low (n ∷ ns) = (low ≤ n.event) × GoUp n.event ns

up_at : (low : ℕ) (ns : List Numbered) → GoUp low ns → (j : ℕ) (d : Numbered) → j < length ns → low ≤ (get_or ns j d).event
up_at low [] up j d lt = absurd (omega arith)
up_at low (n ∷ ns) up zero d lt = up.0
up_at low (n ∷ ns) up (suc j) d lt = let rest = up_at n.event ns up.1 j d (omega (arith, lt)) in omega (arith, up.0, rest)

never_falls : (low : ℕ) (ns : List Numbered) → GoUp low ns → IsNonDecreasingBy (λ n. n.event) ns
never_falls low [] up i j d le lt = absurd (omega arith)
never_falls low (n ∷ ns) up zero zero d le lt = omega arith
never_falls low (n ∷ ns) up zero (suc j) d le lt = up_at n.event ns up.1 j d (omega (arith, lt))
never_falls low (n ∷ ns) up (suc i) zero d le lt = absurd (omega (arith, le))
never_falls low (n ∷ ns) up (suc i) (suc j) d le lt = never_falls n.event ns up.1 i j d (omega (arith, le)) (omega (arith, lt))

up_with : (low : ℕ) (n : Numbered) (ms : List Numbered) → low ≤ n.event → GoUp low ms → GoUp low (with_change n ms)
up_with low n [] le up = (le, tt)
up_with low n (m ∷ ms) le up = elim (cases_Bool (nat_le n.event m.event)) [
  | inl first ↦ (let at : n.event ≤ m.event = leb-true n.event m.event first in rw first (le, (at, up.1)))
  | inr later ↦ (let above : m.event < n.event = leb-false n.event m.event later in rw later (up.0, up_with m.event n ms (omega (arith, above)) up.1))
]

ordered : (ns : List Numbered) → GoUp 0 (by_event ns)
ordered [] = tt
ordered (n ∷ ns) = up_with 0 n (by_event ns) (omega arith) (ordered ns)

two_first : (n m : Numbered) (ms : List Numbered) → IsPermutation (n ∷ m ∷ ms) (m ∷ n ∷ ms)
two_first n m ms = IsPermutation-append_left ms (n ∷ m ∷ []) (m ∷ n ∷ []) (IsPermutation-append_comm (n ∷ []) (m ∷ []))

moved_with : (n : Numbered) (ms : List Numbered) → IsPermutation (n ∷ ms) (with_change n ms)
moved_with n [] = IsPermutation-refl (n ∷ [])
moved_with n (m ∷ ms) = elim (cases_Bool (nat_le n.event m.event)) [
  | inl first ↦ rw first (IsPermutation-refl (n ∷ m ∷ ms))
  | inr later ↦ rw later (IsPermutation-trans (n ∷ m ∷ ms) (m ∷ n ∷ ms) (m ∷ with_change n ms) (two_first n m ms) (IsPermutation-cons m (n ∷ ms) (with_change n ms) (moved_with n ms)))
]

moved : (ns : List Numbered) → IsPermutation ns (by_event ns)
moved [] = IsPermutation-refl {X = Numbered} []
moved (n ∷ ns) = IsPermutation-trans (n ∷ ns) (n ∷ by_event ns) (with_change n (by_event ns)) (IsPermutation-cons n ns (by_event ns) (moved ns)) (moved_with n (by_event ns))

-- The lives of a lawful history of which the meta page tells name its changes.
pub kept_is_told : LivesNameChanges → (params : Params) (meta : Meta) (found : List Dated) (h : History) → IsKept params meta found h → IsToldBy h found meta.version
kept_is_told law params meta found h kept =
    let ns : List Numbered = by_event (flat_map named_by found) in
    let all : IsPermutation (flat_map named_by found) ns = moved (flat_map named_by found) in
    let is : ns ≡ numbered h = law params h found ns kept.lawful kept.all all (never_falls 0 ns (ordered (flat_map named_by found))) in
    record {
      all = subst (IsPermutation (flat_map named_by found)) is all;
      version = sym kept.tells.version;
    }
