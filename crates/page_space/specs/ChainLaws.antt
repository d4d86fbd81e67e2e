-- What a change of the bytes makes of the chain of free pages.
use Rattle.std.specs.Prelude.{◌≡◌, ◌≢◌, ℕ, ◌<◌, ◌≤◌, ◌==◌, true, false, List, [], ◌∷◌, slice_index, refl}
use Rattle.std.proofs.Common.{sym, ◌∙◌, ap, subst, inl, inr, arith}
use Rattle.std.proofs.lemmas.Bool.{both_ways, or_cases, or_left, or_right, eqb-true, eq-eqb}
use Rattle.ports.specs.Frame.{names_page}
use Rattle.page_layout.specs.Footprint.{NamesNoneTwice}
use Rattle.page_layout.specs.declared.free_page.FreePage.{FreePage}
use Rattle.page_space.specs.Bytes.{PageBytes, bytes_with}
use Rattle.page_space.specs.InUseLaws.{bytes_beside}
use Rattle.page_space.specs.Chain.{SpellsFree, LeadsOn, IsChain, FreeInOrder}

pub free_kind : (bytes : List ℕ) (free : FreePage) → SpellsFree bytes free → slice_index bytes 0 ≡ 9
free_kind bytes free h = ap (λ (x : List ℕ). slice_index x 0) h.spelled

-- Each page of the chain leads on.
pub chain_leads : (b : PageBytes) (m first : ℕ) (chain : List ℕ) (page : ℕ) → IsChain b m first chain → names_page chain page ≡ true
    → (free : FreePage) × LeadsOn b m page free
chain_leads b m first [] page h named = absurd (both_ways _ refl named)
chain_leads b m first (p ∷ rest) page h named = elim (or_cases (p == page) (names_page rest page) named) [
  | inl here ↦ (h.1.0, subst (λ q. LeadsOn b m q h.1.0) (eqb-true p page here) h.1.1.0)
  | inr later ↦ chain_leads b m h.1.0.next rest page h.1.1.1 later
]

-- The chain stays where its pages do.
pub chain_kept : (b c : PageBytes) (m n first : ℕ) (chain : List ℕ) → m ≤ n → ((p : ℕ) → names_page chain p ≡ true → c p ≡ b p)
    → IsChain b m first chain → IsChain c n first chain
chain_kept b c m n first [] more same h = h
chain_kept b c m n first (p ∷ rest) more same h =
    let here : c p ≡ b p = same p (or_left (p == p) (names_page rest p) (eq-eqb p p refl)) in
    let leads : LeadsOn b m p h.1.0 = h.1.1.0 in
    let is_free : SpellsFree (b p) h.1.0 = leads.is_free in
    let kept : LeadsOn c n p h.1.0 = record {
      low = leads.low;
      high = let a : p < m = leads.high in omega arith;
      is_free = record { rules = is_free.rules; typed = is_free.typed; spelled = here ∙ is_free.spelled };
    } in
    (h.0, (h.1.0, (kept, chain_kept b c m n h.1.0.next rest more (λ q named. same q (or_right (p == q) (names_page rest q) named)) h.1.1.1)))

-- The free pages stay in order where the bytes of each page that leads on do.
pub order_kept : (b c : PageBytes) (m n first : ℕ) → m ≤ n → ((p : ℕ) (free : FreePage) → LeadsOn b m p free → c p ≡ b p)
    → FreeInOrder b m first → FreeInOrder c n first
order_kept b c m n first more same h = record {
  chain = h.chain;
  leads = chain_kept b c m n first h.chain more (λ p named. let l = chain_leads b m first h.chain p h.leads named in same p l.0 l.1) h.leads;
  once = h.once;
}

-- A page that does not lead on may change.
pub order_beside : (b : PageBytes) (page : ℕ) (image : List ℕ) (m n first : ℕ) → m ≤ n → ((free : FreePage) → LeadsOn b m page free → ⊥)
    → FreeInOrder b m first → FreeInOrder (bytes_with b page image) n first
order_beside b page image m n first more apart h = order_kept b (bytes_with b page image) m n first more
    (λ p free leads. bytes_beside b page image p (λ e. apart free (subst (λ q. LeadsOn b m q free) (sym e) leads))) h

not_empty : (b : PageBytes) (m first : ℕ) (chain : List ℕ) → first ≢ 0 → IsChain b m first chain
    → (rest : List ℕ) × ((chain ≡ first ∷ rest) × ((free : FreePage) × (LeadsOn b m first free × IsChain b m free.next rest)))
not_empty b m first [] some h = absurd (some h)
not_empty b m first (p ∷ rest) some h =
    (rest, (ap (λ (q : ℕ). q ∷ rest) (sym h.0), (h.1.0, (subst (λ q. LeadsOn b m q h.1.0) (sym h.0) h.1.1.0, h.1.1.1))))

-- The first page of the chain leads on, and without it the chain is in order.
pub order_taken : (b : PageBytes) (image : List ℕ) (m first : ℕ) → first ≢ 0 → FreeInOrder b m first
    → (free : FreePage) × (LeadsOn b m first free × FreeInOrder (bytes_with b first image) m free.next)
order_taken b image m first some h =
    let found = not_empty b m first h.chain some h.leads in
    let rest : List ℕ = found.0 in
    let free : FreePage = found.1.1.0 in
    let once : (names_page rest first ≡ false) × NamesNoneTwice rest = subst (λ pages. NamesNoneTwice pages) found.1.0 h.once in
    let apart : (p : ℕ) → names_page rest p ≡ true → bytes_with b first image p ≡ b p =
    λ p named. bytes_beside b first image p (λ e. both_ways _ once.0 (subst (λ q. names_page rest q ≡ true) (sym e) named)) in (
      free,
      (
        found.1.1.1.0,
        record {
          chain = rest;
          leads = chain_kept b (bytes_with b first image) m m free.next rest (omega arith) apart found.1.1.1.1;
          once = once.1;
        },
      ),
    )
