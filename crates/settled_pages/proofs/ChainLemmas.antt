-- The chain of free pages, walked from page to page.
use Rattle.std.proofs.Common.{◌≡◌, ◌≢◌, ℕ, zero, suc, ◌<◌, ◌≤◌, ◌==◌, ◌∙◌, ap, sym, subst, refl, inl, inr, true, List, [], ◌∷◌, ◌++◌, length, length-append, append_assoc, arith}
use Rattle.std.proofs.lemmas.Bool.{both_ways, or_cases, eqb-true, false_from_ne_true}
use Rattle.std.proofs.lemmas.Bool.Decides.{nat_tests}
use Rattle.std.proofs.lemmas.List.{append-nil}
use Rattle.ports.specs.Frame.{names_page}
use Rattle.page_layout.specs.FreePage.{free_page_in}
use Rattle.page_layout.specs.FreePageLaws.{free_page_in-page}
use Rattle.page_layout.specs.Footprint.{NamesNoneTwice}
use Rattle.page_layout.specs.declared.free_page.FreePage.{FreePage}
use Rattle.page_space.specs.Bytes.{PageBytes}
use Rattle.page_space.specs.Chain.{LeadsOn, IsChain, FreeInOrder, pages_from, chain_from}
use Rattle.page_space.proofs.Walking.{chain_free}

module _ (b : PageBytes) (m : ℕ) where
  -- A page that leads on leads to one page.
  next_is : {page : ℕ} {free : FreePage} → LeadsOn b m page free → (free_page_in (b page)).next ≡ free.next
  next_is {free = free} h =
      ap (λ (x : List ℕ). (free_page_in x).next) h.is_free.spelled ∙ ap (λ (f : FreePage). f.next) (free_page_in-page free h.is_free.typed h.is_free.rules)

  -- There is one chain from a page on.
  chain_same : (first : ℕ) (chain other : List ℕ) → IsChain b m first chain → IsChain b m first other → chain ≡ other
  chain_same first [] [] h k = refl
  chain_same first [] (q ∷ other) h k = absurd (omega (arith, h, k.0, k.1.1.0.low))
  chain_same first (p ∷ chain) [] h k = absurd (omega (arith, h.0, k, h.1.1.0.low))
  chain_same first (p ∷ chain) (q ∷ other) h k =
      let same : p ≡ q = sym h.0 ∙ k.0 in
      let next : k.1.0.next ≡ h.1.0.next = sym (next_is k.1.1.0) ∙ (ap (λ (x : ℕ). (free_page_in (b x)).next) (sym same) ∙ next_is h.1.1.0) in
      rw same (ap (λ (s : List ℕ). q ∷ s) (chain_same h.1.0.next chain other h.1.1.1 (subst (λ (n : ℕ). IsChain b m n other) next k.1.1.1)))

  -- From each page of a chain a chain goes on that is no longer.
  tail_from : (first : ℕ) (chain : List ℕ) (page : ℕ) → IsChain b m first chain → names_page chain page ≡ true
      → (tail : List ℕ) × (IsChain b m page (page ∷ tail) × (length tail < length chain))
  tail_from first [] page h named = absurd (both_ways _ refl named)
  tail_from first (p ∷ rest) page h named = elim (or_cases (p == page) (names_page rest page) named) [
    | inl here ↦ (rest, (subst (λ (q : ℕ). IsChain b m q (q ∷ rest)) (eqb-true p page here) (refl, h.1), omega arith))
    | inr later ↦ let t = tail_from h.1.0.next rest page h.1.1.1 later in (t.0, (t.1.0, omega (arith, t.1.1)))
  ]

  -- A chain that ends names no page twice.
  chain_once : (first : ℕ) (chain : List ℕ) → IsChain b m first chain → NamesNoneTwice chain
  chain_once first [] h = tt
  chain_once first (p ∷ rest) h = (
    false_from_ne_true _ (λ named.
        let t = tail_from h.1.0.next rest p h.1.1.1 named in
        absurd (omega (arith, ap length (chain_same p (p ∷ rest) (p ∷ t.0) (refl, h.1) t.1.0), t.1.1))),
    chain_once h.1.0.next rest h.1.1.1,
  )

  -- No more pages are looked at than that.
  length-pages_from : (most first : ℕ) → length (pages_from b m most first) ≤ most
  length-pages_from zero first = omega arith
  length-pages_from (suc most) first = grind (arith, nat_tests, length-pages_from most (free_page_in (b first)).next)

  -- These pages were walked, one after the other, and the next is `page`: the chains from `first` on are those from `page` on behind them.
  pub record IsWalked (first page : ℕ) (pages : List ℕ) : Type 0 where
    pub leads : (rest : List ℕ) → IsChain b m page rest → IsChain b m first (pages ++ rest)
    pub only : (chain : List ℕ) → IsChain b m first chain → (rest : List ℕ) × (IsChain b m page rest × (chain ≡ pages ++ rest))

  pub none_walked : (first : ℕ) → IsWalked first first []
  none_walked first = record { leads = λ rest h. h; only = λ chain h. (chain, (h, refl)) }

  -- A chain from a page on begins with it.
  begins : (page : ℕ) (chain : List ℕ) → page ≢ 0 → IsChain b m page chain
      → (rest : List ℕ) × ((chain ≡ page ∷ rest) × ((free : FreePage) × (LeadsOn b m page free × IsChain b m free.next rest)))
  begins page [] some h = absurd (some h)
  begins page (q ∷ rest) some h =
      (rest, (ap (λ (x : ℕ). x ∷ rest) (sym h.0), (h.1.0, (subst (λ (x : ℕ). LeadsOn b m x h.1.0) (sym h.0) h.1.1.0, h.1.1.1))))

  module _ {first page : ℕ} {pages : List ℕ} (walked : IsWalked first page pages) where
    -- The chain of free pages in order goes on with this page.
    goes_on : page ≢ 0 → (h : FreeInOrder b m first)
        → (rest : List ℕ) × ((h.chain ≡ pages ++ (page ∷ rest)) × ((free : FreePage) × LeadsOn b m page free))
    goes_on some h =
        let split = walked.only h.chain h.leads in
        let start = begins page split.0 some split.1.0 in
        (start.0, (split.1.1 ∙ ap (λ (s : List ℕ). pages ++ s) start.1.0, (start.1.1.0, start.1.1.1.0)))

    pub more_walked : (next : ℕ) → page ≢ 0 → LeadsOn b m page (record { next = next }) → IsWalked first next (pages ++ page ∷ [])
    more_walked next some leads = record {
      leads = λ rest h. rw append_assoc (walked.leads (page ∷ rest) (refl, (record { next = next }, (leads, h))));
      only = λ chain h.
          let split = walked.only chain h in
          let start = begins page split.0 some split.1.0 in
          let same : start.1.1.0.next ≡ next = sym (next_is start.1.1.1.0) ∙ next_is leads in (
            start.0,
            (
              subst (λ (n : ℕ). IsChain b m n start.0) same start.1.1.1.1,
              split.1.1 ∙ (ap (λ (s : List ℕ). pages ++ s) start.1.0 ∙ sym (append_assoc pages (page ∷ []) start.0)),
            ),
          );
    }

    -- The walk has come to its end.
    pub all_walked : page ≡ 0 → FreeInOrder b m first × (pages ≡ chain_from b m first)
    all_walked ends =
        let leads : IsChain b m first pages = subst (IsChain b m first) (append-nil pages) (walked.leads [] ends) in
        let order : FreeInOrder b m first = record { chain = pages; leads = leads; once = chain_once first pages leads } in
        (order, chain_same first pages (chain_from b m first) leads (chain_free b m first order).leads)

    -- It comes to a page that leads on to none,
    pub walk_breaks : page ≢ 0 → ((free : FreePage) → LeadsOn b m page free → ⊥) → FreeInOrder b m first → ⊥
    walk_breaks some none h = let on = goes_on some h in none on.1.1.0 on.1.1.1

    -- or goes on too long.
    pub walk_lasts : page ≢ 0 → m ≤ length pages → FreeInOrder b m first → ⊥
    walk_lasts some long h =
        let on = goes_on some h in
        let same : h.chain ≡ chain_from b m first = chain_same first h.chain (chain_from b m first) h.leads (chain_free b m first h).leads in
        omega (arith, ap length (sym same ∙ on.1.0), length-append pages (page ∷ on.0), length-pages_from m first)
