-- The chain of free pages as a list, and what a change of the bytes makes of it.
use Rattle.std.proofs.Common.{◌≡◌, ◌≢◌, ℕ, zero, suc, ◌<◌, ◌≤◌, ◌==◌, ◌+◌, Bool, true, false, List, [], ◌∷◌, length, refl, ◌∙◌, ap, arith}
use Rattle.std.specs.Cmp.{nat_eq_equiv}
use Rattle.std.specs.List.{AllByRecursion, IsDistinct, list_any}
use Rattle.std.proofs.Math.Path.{fun_ext}
use Rattle.std.proofs.lemmas.Bool.{false_from_ne_true}
use Rattle.std.proofs.lemmas.Bool.Decides.{nat_tests}
use Rattle.std.proofs.lemmas.Map.Steps.{length-le_from_distinct_below}
use Rattle.ports.specs.Calls.{IsForgotten}
use Rattle.ports.specs.Chain.{TakesFirst}
use Rattle.ports.specs.Frame.{names_page}
use Rattle.ports.specs.Pages.{PageMap, put_page, remove_page}
use Rattle.ports.specs.declared.pages.Pages.{Ghosts}
use Rattle.page_layout.specs.FreePage.{free_page_in}
use Rattle.page_layout.specs.FreePageLaws.{free_page_in-page}
use Rattle.page_layout.specs.Footprint.{NamesNoneTwice}
use Rattle.page_layout.specs.declared.free_page.FreePage.{FreePage}
use Rattle.page_layout.specs.declared.meta.Meta.{Meta}
use Rattle.page_disk.specs.Image.{PageList, page_at}
use Rattle.redo_journal.specs.Placing.{ArePlaced, placed_at}
use Rattle.page_space.specs.Bytes.{PageBytes, bytes_with}
use Rattle.page_space.specs.Chain.{SpellsFree, LeadsOn, IsChain, FreeInOrder, names_next, pages_from, chain_from}
use Rattle.page_space.specs.ChainLaws.{free_kind, chain_leads, chain_kept}
use Rattle.page_space.specs.InUseLaws.{bytes_at, in_use-none}
use Rattle.page_space.specs.Laws.{ChainIsFree}

apart : (x : ℕ) (ys : List ℕ) → names_page ys x ≡ false → AllByRecursion (λ y. (x == y) ≡ false) ys
apart x [] h = tt
apart x (y ∷ ys) h = grind (arith, nat_tests, apart x ys)

distinct : (xs : List ℕ) → NamesNoneTwice xs → IsDistinct (λ x y. x == y) xs
unfolding IsDistinct
distinct [] h = tt
distinct (x ∷ xs) h = (apart x xs h.0, distinct xs h.1)

-- A chain that names no page twice is no longer than the number of pages given out.
short : (b : PageBytes) (m first : ℕ) (chain : List ℕ) → IsChain b m first chain → NamesNoneTwice chain → length chain ≤ m
short b m first chain h once = length-le_from_distinct_below chain m (distinct chain once)
    (λ q named. (chain_leads b m first chain q h (ap (λ (t : ℕ → Bool). list_any t chain) (fun_ext (λ p. nat_eq_equiv.symm p q)) ∙ named)).1.high)

-- A page that leads on names a next one, which is read from its bytes.
leads_next : (b : PageBytes) (m page : ℕ) (free : FreePage) → LeadsOn b m page free
    → (names_next b m page ≡ true) × ((free_page_in (b page)).next ≡ free.next)
leads_next b m page free h = (
  grind (arith, nat_tests, free_kind (b page) free h.is_free),
  ap (λ (x : List ℕ). (free_page_in x).next) h.is_free.spelled ∙ ap (λ (f : FreePage). f.next) (free_page_in-page free h.is_free.typed h.is_free.rules),
)

-- What leads on from page to page is what the walk finds.
walked : (b : PageBytes) (m first : ℕ) (chain : List ℕ) (most : ℕ) → IsChain b m first chain → length chain ≤ most → pages_from b m most first ≡ chain
walked b m first [] zero h few = refl
walked b m first [] (suc most) h few = grind (arith, nat_tests)
walked b m first (page ∷ rest) zero h few = absurd (omega (arith, few))
walked b m first (page ∷ rest) (suc most) h few = grind (arith, nat_tests, leads_next, walked b m h.1.0.next rest most)

ordered_walk : (b : PageBytes) (m first : ℕ) (chain : List ℕ) → IsChain b m first chain → NamesNoneTwice chain → chain_from b m first ≡ chain
ordered_walk b m first chain leads once = walked b m first chain m leads (short b m first chain leads once)

pub chain_free : ChainIsFree
chain_free b m first h =
    let same = ordered_walk b m first h.chain h.leads h.once in
    let led = λ (page : ℕ) (named : names_page (chain_from b m first) page ≡ true). chain_leads b m first h.chain page h.leads (rw same at named) in
    record {
      leads = rw same h.leads;
      once = rw same h.once;
      given_out = λ page named. let l = led page named in (l.1.low, l.1.high);
      not_in_use = λ page named. let l = led page named in in_use-none b m page (λ used. used.kind (free_kind (b page) l.0 l.1.is_free));
    }

-- Without a first page there is none.
pub none_walked : (b : PageBytes) (m first : ℕ) → first ≡ 0 → chain_from b m first ≡ []
none_walked b m first none = walked b m first [] m none (omega arith)

-- The walk is the same where the same pages name a next one, with the same bytes.
same_walk : (b c : PageBytes) (m most first : ℕ) → ((p : ℕ) → names_next c m p ≡ names_next b m p)
    → ((p : ℕ) → names_next b m p ≡ true → c p ≡ b p) → pages_from c m most first ≡ pages_from b m most first
same_walk b c m zero first tests same = refl
same_walk b c m (suc most) first tests same = grind (arith, tests first, same first, same_walk b c m most (free_page_in (b first)).next tests same)

-- An image of a page that names no next one, before and after, leaves the walk as it is.
pub beside_walk : (b : PageBytes) (page : ℕ) (image : List ℕ) (m most first : ℕ) → names_next b m page ≡ false
    → names_next (bytes_with b page image) m page ≡ false → pages_from (bytes_with b page image) m most first ≡ pages_from b m most first
beside_walk b page image m most first before after =
    same_walk b (bytes_with b page image) m most first (λ p. grind (arith, nat_tests)) (λ p held. grind (arith, nat_tests))

-- The chain stays where only a page beside it changes.
kept : (b : PageBytes) (page : ℕ) (image : List ℕ) (m first : ℕ) (chain : List ℕ) → names_page chain page ≡ false → IsChain b m first chain
    → IsChain (bytes_with b page image) m first chain
kept b page image m first chain unnamed h = chain_kept b (bytes_with b page image) m m first chain (omega arith) (λ p named. grind (arith, nat_tests)) h

-- The first page is taken, and what it names is the first then.
taken : (b : PageBytes) (image : List ℕ) (m first next : ℕ) (chain : List ℕ) → first ≢ 0
    → ((free : FreePage) → LeadsOn b m first free → next ≡ free.next) → IsChain b m first chain → NamesNoneTwice chain
    → (chain_from b m first ≡ first ∷ chain_from (bytes_with b first image) m next) × FreeInOrder (bytes_with b first image) m next
taken b image m first next [] some only h once = absurd (some h)
taken b image m first next (page ∷ rest) some only h once =
    let same : next ≡ h.1.0.next = only h.1.0 (rw h.0 h.1.1.0) in
    let leads : IsChain (bytes_with b first image) m next rest = rw same (kept b first image m h.1.0.next rest (rw h.0 once.0) h.1.1.1) in
    let all = ordered_walk b m first (page ∷ rest) h once in
    let later = ordered_walk (bytes_with b first image) m next rest leads once.1 in
    (cc, record { chain = rest; leads = leads; once = once.1 })

pub chain_taken : (b : PageBytes) (image : List ℕ) (old new : Meta) (next : ℕ) → new ≡ old → old.free ≢ 0
    → ((free : FreePage) → LeadsOn b old.allotted old.free free → next ≡ free.next) → FreeInOrder b old.allotted old.free
    → TakesFirst (chain_from b old.allotted old.free) old.free (chain_from (bytes_with b old.free image) new.allotted next) old.allotted new.allotted
    × FreeInOrder (bytes_with b old.free image) new.allotted next
chain_taken b image old new next same some only h =
    let t = taken b image old.allotted old.free next h.chain some only h.leads h.once in rw (same, t.0) ((refl, refl, refl), t.1)

-- Where there is no first page, a new number is taken.
pub chain_longer : (b c : PageBytes) (m first : ℕ) → first ≡ 0 → TakesFirst (chain_from b m first) m (chain_from c (m + 1) 0) m (m + 1)
chain_longer b c m first none = rw (none_walked b m first none, none_walked c (m + 1) 0 refl) (refl, refl, refl)

-- A page in use is put before the chain.
pub chain_given : (b : PageBytes) (page : ℕ) (image : List ℕ) (m : ℕ) (free : FreePage) → 3 ≤ page → page < m → SpellsFree image free
    → ((f : FreePage) → LeadsOn b m page f → ⊥) → FreeInOrder b m free.next
    → (chain_from (bytes_with b page image) m page ≡ page ∷ chain_from b m free.next) × FreeInOrder (bytes_with b page image) m page
chain_given b page image m free low high spells apart h =
    let unnamed : names_page h.chain page ≡ false =
    false_from_ne_true _ (λ named. let l = chain_leads b m free.next h.chain page h.leads named in apart l.0 l.1) in
    let leads : IsChain (bytes_with b page image) m page (page ∷ h.chain) =
    (refl, (free, (record { low = low; high = high; is_free = rw (bytes_at b page image) spells }, kept b page image m free.next h.chain unnamed h.leads))) in (
      rw (ordered_walk b m free.next h.chain h.leads h.once) (ordered_walk _ m page (page ∷ h.chain) leads (unnamed, h.once)),
      record { chain = page ∷ h.chain; leads = leads; once = (unnamed, h.once) },
    )

-- Once the images are in their places the chain is that of the stage.
pub next_chain : (images : PageMap) (old new : PageList) → ArePlaced images old new → (m first : ℕ) → m ≤ length new
    → chain_from (page_at new) m first ≡ chain_from (placed_at images old) m first
next_chain images old new placed m first there = same_walk (placed_at images old) (page_at new) m m first
    (λ p. grind (arith, nat_tests, placed.pages p)) (λ p held. grind (arith, nat_tests, placed.pages p))

-- What one call did to a stage forgets no page.
pub taken_keeps : {P : Type 0} (g : Ghosts P) (old new : P) (page : ℕ) (bytes : List ℕ) → g.map new ≡ put_page (g.map old) page bytes
    → TakesFirst (g.chain old) page (g.chain new) (g.allotted old) (g.allotted new) → (p : ℕ) → IsForgotten g new p → IsForgotten g old p
taken_keeps g old new page bytes put takes p lost = grind (arith, nat_tests, lost, ap (λ (m : PageMap). m p) put)

pub given_keeps : {P : Type 0} (g : Ghosts P) (old new : P) (page : ℕ) → g.map new ≡ remove_page (g.map old) page
    → g.chain new ≡ page ∷ g.chain old → g.allotted new ≡ g.allotted old → (p : ℕ) → IsForgotten g new p → IsForgotten g old p
given_keeps g old new page removed chain same p lost = grind (arith, nat_tests, lost, ap (λ (m : PageMap). m p) removed)

pub put_keeps_all : {P : Type 0} (g : Ghosts P) (old new : P) (page : ℕ) (bytes : List ℕ) → g.map new ≡ put_page (g.map old) page bytes
    → g.chain new ≡ g.chain old → g.allotted new ≡ g.allotted old → (p : ℕ) → IsForgotten g new p → IsForgotten g old p
put_keeps_all g old new page bytes put chain same p lost = grind (arith, nat_tests, lost, ap (λ (m : PageMap). m p) put)

pub same_keeps : {P : Type 0} (g : Ghosts P) (old new : P) → g.map new ≡ g.map old → g.chain new ≡ g.chain old → g.allotted new ≡ g.allotted old
    → (p : ℕ) → IsForgotten g new p → IsForgotten g old p
same_keeps g old new map chain same p lost = grind (arith, lost)
