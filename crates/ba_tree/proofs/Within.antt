-- A change of some pages of a footprint.
use Rattle.std.proofs.Common.{◌≡◌, ℕ, ◌==◌, true, false, Some, IsSome, List, [], ◌∷◌, ◌++◌, inl, inr, refl, sym, ◌∙◌, subst, append_assoc}
use Rattle.std.specs.Prelude.{IsPermutation}
use Rattle.std.proofs.lemmas.Bool.{or_cases, eqb-true, eq-eqb, or_left, or_parts}
use Rattle.std.proofs.lemmas.List.Sorted.{IsPermutation-append_comm, IsPermutation-append_left, IsPermutation-append_right, IsPermutation-middle, IsPermutation-sym, IsPermutation-trans}
use Rattle.ports.specs.Frame.{AgreeOn, AreApart, AreInMap, Replaces, names_page}
use Rattle.ports.specs.FrameLaws.{names_page-append, Replaces-agree, Replaces-apart, Replaces-beside, Replaces-by_names, Replaces-same}
use Rattle.ports.specs.Pages.{PageMap}
use Rattle.page_layout.specs.Footprint.{NamesNoneTwice}
use Rattle.page_layout.specs.FootprintLaws.{apart_sym, names_permuted, once_apart, once_join, once_permuted, once_right}

-- The pages of `old` made way for those of `new`, which are named once; the others of them stay as they are.
pub record Within (old new others : List ℕ) (before after : PageMap) : Type 0 where
  pub change : Replaces old new before after
  pub once : NamesNoneTwice new
  pub agree : AgreeOn others before after

pub within : (part grown others old new : List ℕ) (a b : PageMap) → IsPermutation old (part ++ others) → IsPermutation new (grown ++ others)
    → Replaces part grown a b → NamesNoneTwice old → NamesNoneTwice grown → AreInMap a others → Within old new others a b
within part grown others old new a b old_is new_is change once once_grown there =
    let both : NamesNoneTwice (part ++ others) = once_permuted old (part ++ others) old_is once in
    let apart : AreApart others part = apart_sym part others (once_apart part others both) in
    let apart_grown : AreApart others grown = Replaces-apart others part grown a b change there apart in
    record {
      change = Replaces-by_names (part ++ others) (grown ++ others) old new a b
          (λ p. names_permuted (part ++ others) old p (IsPermutation-sym old (part ++ others) old_is))
          (λ p. names_permuted (grown ++ others) new p (IsPermutation-sym new (grown ++ others) new_is))
          (Replaces-beside part grown others others a b b change (Replaces-same others b));
      once = once_permuted (grown ++ others) new (IsPermutation-sym new (grown ++ others) new_is)
          (once_join grown others once_grown (once_right part others both) (apart_sym others grown apart_grown));
      agree = Replaces-agree others part grown a b change there apart;
    }

-- ---- orders

pub second_first : (xs ys zs : List ℕ) → IsPermutation (xs ++ (ys ++ zs)) (ys ++ (xs ++ zs))
second_first xs ys zs =
    subst (λ (l : List ℕ). IsPermutation l (ys ++ (xs ++ zs))) (append_assoc xs ys zs)
    (subst (λ (r : List ℕ). IsPermutation ((xs ++ ys) ++ zs) r) (append_assoc ys xs zs)
    (IsPermutation-append_left zs (xs ++ ys) (ys ++ xs) (IsPermutation-append_comm xs ys)))

pub third_first : (xs ys zs : List ℕ) → IsPermutation (xs ++ (ys ++ zs)) (zs ++ (xs ++ ys))
third_first xs ys zs =
    subst (λ (l : List ℕ). IsPermutation l (zs ++ (xs ++ ys))) (append_assoc xs ys zs) (IsPermutation-append_comm (xs ++ ys) zs)

pub low_first : (bs ls hs : List ℕ) (page : ℕ) → IsPermutation (bs ++ ((page ∷ ls) ++ hs)) (page ∷ (bs ++ (ls ++ hs)))
low_first bs ls hs page = IsPermutation-middle bs page (ls ++ hs)

pub high_first : (bs ls hs : List ℕ) (page : ℕ) → IsPermutation (bs ++ (ls ++ (page ∷ hs))) (page ∷ (bs ++ (ls ++ hs)))
high_first bs ls hs page =
    IsPermutation-trans (bs ++ (ls ++ (page ∷ hs))) (bs ++ (page ∷ (ls ++ hs))) (page ∷ (bs ++ (ls ++ hs)))
    (IsPermutation-append_right bs (ls ++ (page ∷ hs)) (page ∷ (ls ++ hs)) (IsPermutation-middle ls page hs)) (IsPermutation-middle bs page (ls ++ hs))

pub both_first : (bs ls hs : List ℕ) (page high : ℕ) → IsPermutation (bs ++ ((page ∷ ls) ++ (high ∷ hs))) (page ∷ high ∷ (bs ++ (ls ++ hs)))
both_first bs ls hs page high =
    IsPermutation-trans (bs ++ ((page ∷ ls) ++ (high ∷ hs))) (page ∷ (bs ++ (ls ++ (high ∷ hs)))) (page ∷ high ∷ (bs ++ (ls ++ hs)))
    (low_first bs ls (high ∷ hs) page)
    (IsPermutation-append_right (page ∷ []) (bs ++ (ls ++ (high ∷ hs))) (high ∷ (bs ++ (ls ++ hs))) (high_first bs ls hs high))

-- ---- pages that are there

pub there_both : (xs ys : List ℕ) (a : PageMap) → AreInMap a xs → AreInMap a ys → AreInMap a (xs ++ ys)
there_both xs ys a first rest = λ p named.
    elim (or_cases (names_page xs p) (names_page ys p) (sym (names_page-append xs ys p) ∙ named)) [
      | inl left ↦ first p left
      | inr right ↦ rest p right
    ]

pub not_named : (page q : ℕ) → names_page (page ∷ []) q ≡ false → (page == q) ≡ false
not_named page q h = (or_parts (page == q) false h).0

is_named : (page q : ℕ) → names_page (page ∷ []) q ≡ true → page ≡ q
is_named page q named = elim (or_cases (page == q) false named) [
  | inl first ↦ eqb-true page q first
  | inr none ↦ cc
]

pub first_named : (page : ℕ) → names_page (page ∷ []) page ≡ true
first_named page = or_left (page == page) false (eq-eqb page page refl)

pub one_there : (a : PageMap) (page : ℕ) → IsSome (a page) → AreInMap a (page ∷ [])
one_there a page here = λ q named. subst (λ (r : ℕ). IsSome (a r)) (is_named page q named) here

pub some_there : (a : PageMap) (page : ℕ) (bytes : List ℕ) → a page ≡ Some bytes → IsSome (a page)
some_there a page bytes here = subst IsSome (sym here) refl

pub still_there : (a b : PageMap) (page : ℕ) → b page ≡ a page → IsSome (a page) → IsSome (b page)
still_there a b page same here = subst IsSome (sym same) here

-- a page beside a change of others
pub record Beside (page : ℕ) (old new : List ℕ) (before after : PageMap) : Type 0 where
  pub change : Replaces (page ∷ old) (page ∷ new) before after
  pub once : NamesNoneTwice (page ∷ new)
  pub same : after page ≡ before page

pub beside : (page : ℕ) (old new : List ℕ) (a b : PageMap) → NamesNoneTwice (page ∷ old) → NamesNoneTwice new → Replaces old new a b → IsSome (a page)
    → Beside page old new a b
beside page old new a b once once_new change here =
    let w = within old new (page ∷ []) (page ∷ old) (page ∷ new) a b (IsPermutation-append_comm (page ∷ []) old) (IsPermutation-append_comm (page ∷ []) new)
    change once once_new (one_there a page here) in
    record { change = w.change; once = w.once; same = w.agree page (first_named page) }

-- a new page beside one that stays
pub record TwoPages (page high : ℕ) (a b c : PageMap) : Type 0 where
  pub change : Replaces (page ∷ []) (page ∷ high ∷ []) a c
  pub once : NamesNoneTwice (page ∷ high ∷ [])
  pub agree : c page ≡ b page

pub two_pages : (page high : ℕ) (a b c : PageMap) → Replaces (page ∷ []) (page ∷ []) a b → IsSome (b page) → Replaces [] (high ∷ []) b c → TwoPages page high a b c
two_pages page high a b c first here second =
    let there : AreInMap b (page ∷ []) = one_there b page here in
    let named : names_page (page ∷ []) page ≡ true = first_named page in
    record {
      change = Replaces-beside (page ∷ []) (page ∷ []) [] (high ∷ []) a b c first second;
      once = (Replaces-apart (page ∷ []) [] (high ∷ []) b c second there (λ p _. refl) page named, (refl, tt));
      agree = Replaces-agree (page ∷ []) [] (high ∷ []) b c second there (λ p _. refl) page named;
    }
