-- The chain of a stage: it is never so long that it has the last place, and it stands from call to call.
use Rattle.std.proofs.Common.{◌≡◌, ◌≢◌, ℕ, zero, suc, ◌+◌, ◌^◌, ◌<◌, ◌≤◌, ◌==◌, nat_eq, inl, inr, Bool, true, false, List, [], ◌∷◌, length, Option, Some, None, IsSome, refl, sym, ap, ◌∙◌, subst, arith}
use Rattle.std.specs.List.{All, list_any, IsDistinct, AllByRecursion}
use Rattle.std.proofs.lemmas.Bool.{or_left, or_right, or_cases, eq-eqb, eqb-true, ne_eqb, true≢false}
use Rattle.std.proofs.lemmas.Map.Steps.{length-le_from_distinct_below}
use Rattle.ports.specs.Pages.{PageMap}
use Rattle.ports.specs.Frame.{names_page, AgreeOn}
use Rattle.page_layout.specs.MvNode.{IsMvEntryTyped, IsTyped}
use Rattle.page_layout.specs.declared.mv_node.MvNode.{MvNode}
use Rattle.mvsb_tree.specs.Stands.{ChainStands}
use Rattle.mvsb_tree.specs.Steps.{chain_from, node_on}
use Rattle.mvsb_tree.specs.Stored.{IsFirstStored, IsLastDamaged, IsNext}
use Rattle.mvsb_tree.proofs.Chains.{chain_stands, chain_there, names_first}
use Rattle.mvsb_tree.proofs.Freeing.{chain_spelled}
use Rattle.mvsb_tree.proofs.Growing.{stands_after}
use Rattle.mvsb_tree.proofs.Landing.{next_spells, not_new}
use Rattle.mvsb_tree.proofs.Past.{chain_spells}

-- Each page of a chain has a place of at most its count.
chain_places : (places : ℕ) (m : PageMap) (last : ℕ) → ChainStands places m last → (q : ℕ) → names_page (chain_from places m last) q ≡ true → (node_on m q).place ≤ places
chain_places zero m last s q named = absurd (true≢false (sym named))
chain_places (suc places) m last s q named = elim (or_cases (last == q) (names_page (chain_from places m (node_on m last).before) q) named) [
  | inl here ↦ subst (λ (x : ℕ). (node_on m x).place ≤ suc places) (eqb-true last q here) (omega (arith, s.3))
  | inr later ↦ (let le = chain_places places m (node_on m last).before s.4 q later in omega (arith, le))
]

apart_each : (page : ℕ) (xs : List ℕ) → ((q : ℕ) → names_page xs q ≡ true → page ≢ q) → AllByRecursion (λ y. nat_eq page y ≡ false) xs
apart_each page [] h = tt
apart_each page (x ∷ xs) h = (ne_eqb page x (h x (names_first x xs)), apart_each page xs (λ q named. h q (or_right (x == q) (names_page xs q) named)))

chain_distinct : (places : ℕ) (m : PageMap) (last : ℕ) → ChainStands places m last → IsDistinct nat_eq (chain_from places m last)
unfolding IsDistinct
chain_distinct zero m last s = tt
chain_distinct (suc places) m last s = (
  apart_each last (chain_from places m (node_on m last).before)
      (λ q named same. (let le = chain_places places m (node_on m last).before s.4 q named in let own = ap (λ (x : ℕ). (node_on m x).place) same in omega (arith, le, own, s.3))),
  chain_distinct places m (node_on m last).before s.4,
)

with_first : (page : ℕ) (xs : List ℕ) → AllByRecursion (λ y. nat_eq page y ≡ false) xs → IsDistinct nat_eq xs → IsDistinct nat_eq (page ∷ xs)
unfolding IsDistinct
with_first page xs apart distinct = (apart, distinct)

chain_length : (places : ℕ) (m : PageMap) (last : ℕ) → length (chain_from places m last) ≡ places
chain_length zero m last = refl
chain_length (suc places) m last = ap suc (chain_length places m (node_on m last).before)

member_named : (xs : List ℕ) (q : ℕ) → list_any (nat_eq q) xs ≡ true → names_page xs q ≡ true
member_named [] q h = h
member_named (x ∷ xs) q h = elim (or_cases (nat_eq q x) (list_any (nat_eq q) xs) h) [
  | inl here ↦ or_left (x == q) (names_page xs q) (eq-eqb x q (sym (eqb-true q x here)))
  | inr rest ↦ or_right (x == q) (names_page xs q) (member_named xs q rest)
]

bytes_of : (o : Option (List ℕ)) → IsSome o → (bytes : List ℕ) × (o ≡ Some bytes)
bytes_of None h = absurd cc
bytes_of (Some bytes) h = (bytes, refl)

-- what is true of each page of a stage
abbrev pub InBounds : PageMap → ℕ → Type 0
InBounds m limit = (page : ℕ) (bytes : List ℕ) → m page ≡ Some bytes → (3 ≤ page) × (page < limit)

pub chain_short : (m : PageMap) (limit places last : ℕ) → InBounds m limit → 1 ≤ limit → ChainStands places m last → suc places ≤ limit
chain_short m limit places last within some s =
    let chain : List ℕ = chain_from places m last in
    let bound : (q : ℕ) → names_page chain q ≡ true → (3 ≤ q) × (q < limit) = λ q named. (let there = bytes_of (m q) (chain_there places m last s q named) in within q there.0 there.1) in
    let distinct = with_first 0 chain (apart_each 0 chain (λ q named zero_is. (let three = (bound q named).0 in omega (arith, three, zero_is)))) (chain_distinct places m last s) in
    let all = length-le_from_distinct_below (0 ∷ chain) limit distinct (λ q member. elim (or_cases (nat_eq q 0) (list_any (nat_eq q) chain) member) [
      | inl none ↦ (let is = eqb-true q 0 none in omega (arith, is, some))
      | inr rest ↦ (bound q (member_named chain q rest)).1
    ]) in
    omega (arith, all, chain_length places m last)

-- The last page of a chain that stands in a stage is no damaged one.
pub last_sound : (m : PageMap) (places last p : ℕ) → InBounds m 4294967295 → 1 ≤ places → ChainStands places m last → IsLastDamaged m last p → ⊥
last_sound m zero last p within some s damaged = omega (arith, some)
last_sound m (suc places) last p within some s damaged = elim damaged.1 [
  | inl none ↦ chain_spelled (suc places) m last some s none
  | inr full ↦ (let short = chain_short m 4294967295 (suc places) last within (omega arith) s in omega (arith, short, full, s.3))
]

-- A page more stands at the end of the chain.
pub next_stands : (a b : PageMap) (places last : ℕ) (node : MvNode) (page : ℕ) → 1 ≤ places → ChainStands places a last → IsNext a b last node page → All IsMvEntryTyped node.entries.items
    → ChainStands (suc places) b page
next_stands a b zero last node page some s next typed = absurd (omega (arith, some))
next_stands a b (suc places) last node page some s next typed =
    let spells = next_spells a b last node page next typed in
    let agree : AgreeOn (chain_from (suc places) a last) a b = λ p named. next.others p (not_new a page p next.fresh (chain_there (suc places) a last s p named)) in
    let back : (node_on b page).before ≡ last = ap (λ (n : MvNode). n.before) spells.1 in (
      spells.0.spelled,
      spells.0.rules,
      spells.0.typed,
      ap (λ (n : MvNode). n.place) spells.1 ∙ (let e : (node_on a last).place + 1 ≡ suc (suc places) = omega (arith, s.3) in e),
      subst (λ (x : ℕ). ChainStands (suc places) b x) (sym back) (chain_stands (suc places) a b last agree s),
    )

-- So it stands once the first of two copies is stored.
pub first_stands : (starts : Bool) (a b : PageMap) (page places last new_last : ℕ) (node : MvNode) (first : ℕ) → names_page (chain_from places a last) page ≡ true → ChainStands places a last
    → node.place ≡ (node_on a page).place → node.before ≡ (node_on a page).before → All IsMvEntryTyped node.entries.items → 1 ≤ places
    → IsFirstStored starts a b page last new_last node first → (n : ℕ) × (1 ≤ n) × ChainStands n b new_last
first_stands true a b page places last new_last node first named s place before typed some stored =
    let on = chain_spells places a last s page named in
    let node_typed : IsTyped node = record {
      place = subst (λ (n : ℕ). n < 2 ^ 32) (sym place) on.typed.place;
      before = subst (λ (n : ℕ). n < 2 ^ 64) (sym before) on.typed.before;
      entries = typed;
    } in
    let after = stands_after a page node node_typed stored.3 place before places last s in
    (places, some, subst (λ (x : ℕ). ChainStands places b x) (sym stored.1) (subst (λ (m : PageMap). ChainStands places m last) (sym stored.2) after))
first_stands false a b page places last new_last node first named s place before typed some stored =
    (suc places, omega arith, subst (λ (x : ℕ). ChainStands (suc places) b x) (sym stored.0) (next_stands a b places last node first some s stored.1 typed))

pub some_by_name : (n : ℕ) (m : PageMap) (last page : ℕ) → names_page (chain_from n m last) page ≡ true → 1 ≤ n
some_by_name zero m last page named = absurd (true≢false (sym named))
some_by_name (suc n) m last page named = omega arith
