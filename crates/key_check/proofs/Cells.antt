-- Where the keys of a piece lead.
use Rattle.std.proofs.Common.{◌≡◌, ℕ, zero, suc, Bool, true, false, ◌^◌, ◌<◌, ◌≤◌, ◌==◌, ◌||◌, List, [], ◌∷◌, nat_le, nat_lt, cond, Option, Some, take, length, get_or, refl, sym, ◌∙◌, ap, subst, arith, inl, inr}
use Rattle.std.specs.List.{All}
use Rattle.std.proofs.lemmas.Bool.{and_from, and_parts, cases_Bool, or_cases, or_left, or_right, le-leb, lt-ltb, leb-true, ltb-true, false≢true}
use Rattle.std.proofs.lemmas.List.{take_all}
use Rattle.std.proofs.lemmas.List.Elements.{All-head, All-tail}
use Rattle.page_layout.specs.declared.mv_node.MvEntry.{MvEntry}
use Rattle.mv_pages.specs.Alive.{is_alive, or_later}
use Rattle.mv_pages.specs.Lows.{alive_lows}
use Rattle.mv_pages.proofs.LivingLows.{lows_cons, lows_skip}
use Rattle.mvsb_tree.specs.Stands.{first_of}
use Rattle.key_check.specs.Cells.{end_of, next_low}

-- Entries that are dead have no lows.
pub none_living : (es : List MvEntry) (v : ℕ) → All (λ e. is_alive v e ≡ false) es → alive_lows es v ≡ []
none_living [] v dead = refl
none_living (e ∷ es) v dead = lows_skip v e es (All-head (λ (x : MvEntry). is_alive v x ≡ false) e es dead) ∙ none_living es v (All-tail (λ (x : MvEntry). is_alive v x ≡ false) e es dead)

-- Behind dead ones the first that lives is the next.
pub next_living : (es : List MvEntry) (i : ℕ) (d : MvEntry) (v : ℕ) (high : Option ℕ) → i < length es → All (λ e. is_alive v e ≡ false) (take i es) → is_alive v (get_or es i d) ≡ true
    → next_low high es v ≡ Some (get_or es i d).low
next_living [] i d v high h dead lives = absurd (omega (arith, h))
next_living (e ∷ es) zero d v high h dead lives = ap (λ (ls : List ℕ). or_later high (first_of ls)) (lows_cons v e es lives)
next_living (e ∷ es) (suc i) d v high h dead lives =
    ap (λ (ls : List ℕ). or_later high (first_of ls)) (lows_skip v e es (All-head (λ (x : MvEntry). is_alive v x ≡ false) e (take i es) dead))
    ∙ next_living es i d v high (omega (arith, h)) (All-tail (λ (x : MvEntry). is_alive v x ≡ false) e (take i es) dead) lives

-- When an entry is alive.
pub begins_alive : (e : MvEntry) (v : ℕ) → is_alive v e ≡ true → e.start ≤ v
begins_alive e v lives = leb-true e.start v (and_parts (nat_le e.start v) (nat_lt v e.end || e.end == 4294967295) lives).0

pub alive_within : (e : MvEntry) (v : ℕ) → e.start ≤ v → v < end_of e → is_alive v e ≡ true
alive_within e v from before =
    and_from (nat_le e.start v) (nat_lt v e.end || e.end == 4294967295) (le-leb e.start v from) (elim (cases_Bool (e.end == 4294967295)) [
      | inl kept ↦ or_right (nat_lt v e.end) (e.end == 4294967295) kept
      | inr shut ↦ or_left (nat_lt v e.end) (e.end == 4294967295) (lt-ltb v e.end (subst (λ (b : Bool). v < cond b (2 ^ 32) e.end) shut before))
    ])

pub alive_ends : (e : MvEntry) (v : ℕ) → v < 2 ^ 32 → is_alive v e ≡ true → v < end_of e
alive_ends e v small lives =
    let parts = and_parts (nat_le e.start v) (nat_lt v e.end || e.end == 4294967295) lives in
    elim (cases_Bool (e.end == 4294967295)) [
      | inl kept ↦ subst (λ (b : Bool). v < cond b (2 ^ 32) e.end) (sym kept) small
      | inr shut ↦ subst (λ (b : Bool). v < cond b (2 ^ 32) e.end) (sym shut) (elim (or_cases (nat_lt v e.end) (e.end == 4294967295) parts.1) [
        | inl before ↦ ltb-true v e.end before
        | inr kept ↦ absurd (false≢true (sym shut ∙ kept))
      ])
    ]

-- An entry that lives does so until its end.
pub lives_on : (e : MvEntry) (v later : ℕ) → is_alive v e ≡ true → v ≤ later → later < end_of e → is_alive later e ≡ true
lives_on e v later lives from before = (let begun = begins_alive e v lives in alive_within e later (omega (arith, begun, from)) before)

pub still_next : (es : List MvEntry) (i : ℕ) (d : MvEntry) (v later : ℕ) (high : Option ℕ) → i < length es → All (λ e. is_alive later e ≡ false) (take i es)
    → is_alive v (get_or es i d) ≡ true → v ≤ later → later < end_of (get_or es i d) → next_low high es later ≡ Some (get_or es i d).low
still_next es i d v later high h dead lives from before = next_living es i d later high h dead (lives_on (get_or es i d) v later lives from before)

pub no_next : (es : List MvEntry) (i v : ℕ) (high : Option ℕ) → length es ≤ i → All (λ e. is_alive v e ≡ false) (take i es) → next_low high es v ≡ high
no_next es i v high h dead =
    ap (λ (ls : List ℕ). or_later high (first_of ls)) (none_living es v (subst (All (λ (e : MvEntry). is_alive v e ≡ false)) (take_all i es h) dead))
