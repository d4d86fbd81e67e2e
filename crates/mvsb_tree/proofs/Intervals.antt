-- The intervals of keys by which the pages of ways are reached.
use Rattle.std.proofs.Common.{◌≡◌, ℕ, zero, suc, ◌<◌, ◌≤◌, ◌==◌, ◌||◌, inl, inr, true, false, Bool, IsTrue, nat_lt, nat_le, List, [], ◌∷◌, Option, Some, None, IsSome, cond, refl, sym, ap, ◌∙◌, subst, arith}
use Rattle.std.specs.Option.{option_map_or}
use Rattle.std.proofs.lemmas.Bool.{and_parts, cases_Bool, cases_lt, or_cases, eqb-true, le-leb, lt-ltb, ltb-true, ltb-false, true≢false}
use Rattle.std.proofs.lemmas.List.Elements.{All-cons}
use Rattle.ports.specs.Pages.{PageMap}
use Rattle.ports.specs.Frame.{names_page}
use Rattle.mv_pages.specs.Alive.{child_of, or_later}
use Rattle.mv_pages.specs.Lows.{alive_lows, ascend, ascend_from, follows, low_above, low_at}
use Rattle.mvsb_tree.specs.Stands.{NodeStands, StandsOnWay, ends_after, first_of, inner_high, inner_low}
use Rattle.mvsb_tree.specs.Steps.{entries_on, node_on}
use Rattle.mvsb_tree.specs.Ways.{IsKeyIn, LowsCut, way_pages}
use Rattle.mvsb_tree.proofs.Nodes.{some_same}
use Rattle.mvsb_tree.proofs.Sound.{ascend_above, first_least}
use Rattle.mvsb_tree.proofs.Ways.{low_above_holds, low_at_from, low_at_holds, low_at_some, way_goes_on}

-- A lower low is inside as well.
pub ends_down : (high : Option ℕ) (a b : ℕ) → a ≤ b → IsTrue (ends_after high b) → IsTrue (ends_after high a)
ends_down None a b le h = refl
ends_down (Some high) a b le h = let less = ltb-true b high h in lt-ltb a high (omega (arith, less, le))

-- The interval of a key among lows that cut one lies in it, and has the key.
pub inner_in : (lows : List ℕ) (low : ℕ) (high : Option ℕ) (least key : ℕ) → LowsCut lows low high least → IsKeyIn low high key
    → IsKeyIn (inner_low low lows key) (inner_high high lows key) key × (low ≤ inner_low low lows key) × ((x : ℕ) → IsTrue (ends_after (inner_high high lows key) x) → IsTrue (ends_after high x))
inner_in lows low high least key cut at =
    let some = low_at_some lows key low cut.begins at.from in
    let is : inner_low low lows key ≡ some.0 = ap (λ (o : Option ℕ). option_map_or (λ l. l) o low) some.1 in
    let from : some.0 ≤ key = low_at_from lows key some.0 some.1 in
    let above : low ≤ some.0 = low_at_holds (λ l. low ≤ l) lows key some.0 (first_least lows low cut.differ cut.begins) some.1 in (
      record { from = omega (arith, is, from); before = before (low_above lows key) refl; fits = at.fits },
      omega (arith, is, above),
      λ x h. widen (low_above lows key) refl x h,
    )
  where
    before : (o : Option ℕ) → o ≡ low_above lows key → IsTrue (ends_after (or_later high o) key)
    before None e = at.before
    before (Some n) e = let over = (low_above_holds (λ (l : ℕ). IsTrue (ends_after high l)) lows key n cut.ends (sym e)).1 in lt-ltb key n over

    widen : (o : Option ℕ) → o ≡ low_above lows key → (x : ℕ) → IsTrue (ends_after (or_later high o) x) → IsTrue (ends_after high x)
    widen None e x h = h
    widen (Some n) e x h =
        let held = (low_above_holds (λ (l : ℕ). IsTrue (ends_after high l)) lows key n cut.ends (sym e)).0 in
        let less = ltb-true x n h in
        ends_down high x n (omega (arith, less)) held

pub lows_cut : (map : PageMap) (nodes : List ℕ) (level page v low : ℕ) (high : Option ℕ) (least : ℕ) → NodeStands map nodes level page v low high least
    → LowsCut (alive_lows (entries_on map page) v) low high least
lows_cut map nodes level page v low high least s = record { differ = s.differ; begins = s.begins; ends = s.ends; filled = s.filled }

-- Each page of a way begins within the interval by which its first one is reached, and has no greater level.
pub way_within : (level : ℕ) (map : PageMap) (nodes : List ℕ) (page v key low : ℕ) (high : Option ℕ) (least : ℕ) → StandsOnWay level map nodes page v key low high least → IsKeyIn low high key
    → (p : ℕ) → names_page (way_pages level map page key v) p ≡ true
    → (x : ℕ) × (first_of (alive_lows (entries_on map p) v) ≡ Some x) × (low ≤ x) × IsTrue (ends_after high x) × ((node_on map p).level ≤ level) × IsSome (map p) × (names_page nodes p ≡ true)
way_within zero map nodes page v key low high least s at p named = absurd s
way_within (suc zero) map nodes page v key low high least s at p named = elim (or_cases (page == p) false (sym (own_way (child_of (node_on map page) key v)) ∙ named)) [
  | inl here ↦ subst (λ (q : ℕ). (x : ℕ) × (first_of (alive_lows (entries_on map q) v) ≡ Some x) × (low ≤ x) × IsTrue (ends_after high x) × ((node_on map q).level ≤ 1) × IsSome (map q) × (names_page nodes q ≡ true)) (eqb-true page p here)
      (low, s.begins, omega arith, ends_down high low key at.from at.before, omega (arith, s.at_level), subst IsSome (sym s.spelled) refl, s.listed)
  | inr other ↦ absurd (true≢false (sym other))
]
  where
    own_way : (o : Option ℕ) → names_page (page ∷ option_map_or (λ child. []) o []) p ≡ (page == p || false)
    own_way None = refl
    own_way (Some child) = refl
way_within (suc (suc level)) map nodes page v key low high least s at p named =
    let lows : List ℕ = alive_lows (entries_on map page) v in
    let inner = inner_in lows low high least key (lows_cut map nodes (suc (suc level)) page v low high least s.0) at in
    let whole = way_goes_on (suc level) map page key v s.1 s.2 in
    elim (or_cases (page == p) (names_page (way_pages (suc level) map s.1 key v) p) (sym (ap (λ (ps : List ℕ). names_page ps p) whole) ∙ named)) [
      | inl here ↦ subst (λ (q : ℕ). (x : ℕ) × (first_of (alive_lows (entries_on map q) v) ≡ Some x) × (low ≤ x) × IsTrue (ends_after high x) × ((node_on map q).level ≤ suc (suc level)) × IsSome (map q) × (names_page nodes q ≡ true)) (eqb-true page p here)
          (low, s.0.begins, omega arith, ends_down high low key at.from at.before, omega (arith, s.0.at_level), subst IsSome (sym s.0.spelled) refl, s.0.listed)
      | inr below ↦
          let d = way_within (suc level) map nodes s.1 v key (inner_low low lows key) (inner_high high lows key) 24 s.3 inner.0 p below in
          (d.0, d.1, omega (arith, d.2, inner.1), inner.2 d.0 d.3, omega (arith, d.4), d.5, d.6)
    ]

-- Two intervals have no key in common.
abbrev pub AreDisjoint : ℕ → Option ℕ → ℕ → Option ℕ → Type 0
AreDisjoint low high other_low other_high =
    (x : ℕ) → low ≤ x → IsTrue (ends_after high x) → other_low ≤ x → IsTrue (ends_after other_high x) → ⊥

-- So the ways of their keys have no page in common.
pub ways_apart : (map : PageMap) (nodes : List ℕ) (v level page key low : ℕ) (high : Option ℕ) (other_level other_page other_key other_low : ℕ) (other_high : Option ℕ)
    → StandsOnWay level map nodes page v key low high 24 → IsKeyIn low high key
    → StandsOnWay other_level map nodes other_page v other_key other_low other_high 24 → IsKeyIn other_low other_high other_key
    → AreDisjoint low high other_low other_high
    → (p : ℕ) → names_page (way_pages level map page key v) p ≡ true → names_page (way_pages other_level map other_page other_key v) p ≡ false
ways_apart map nodes v level page key low high other_level other_page other_key other_low other_high s at t other_at apart p named = elim (cases_Bool (names_page (way_pages other_level map other_page other_key v) p)) [
  | inr away ↦ away
  | inl both ↦
      let a = way_within level map nodes page v key low high 24 s at p named in
      let b = way_within other_level map nodes other_page v other_key other_low other_high 24 t other_at p both in
      let same : a.0 ≡ b.0 = some_same a.0 b.0 (sym a.1 ∙ b.1) in
      absurd (apart a.0 a.2 a.3 (omega (arith, same, b.2)) (subst (λ (x : ℕ). IsTrue (ends_after other_high x)) (sym same) b.3))
]

-- The low at a key is at or above each low that the key reaches.
pub reached_low : (last : Option ℕ) (lows : List ℕ) (key n other : ℕ) → ascend_from last lows ≡ true → low_above lows key ≡ Some n → n ≤ other
    → (m : ℕ) × (low_at lows other ≡ Some m) × (n ≤ m)
reached_low last [] key n other up e le = absurd (let h : ◌≡◌ {A = Option ℕ} None (Some n) = e in cc)
reached_low last (l ∷ lows) key n other up e le =
    let parts = and_parts (follows last l) (ascend_from (Some l) lows) up in
    elim (cases_Bool (nat_lt key l)) [
      | inl over ↦
          let is : l ≡ n = some_same l n (sym (ap (λ (b : Bool). cond b (Some l) (low_above lows key)) over) ∙ e) in
          let here : nat_le l other ≡ true = le-leb l other (omega (arith, is, le)) in
          subst (λ (b : Bool). (m : ℕ) × (or_later (cond b (Some l) None) (low_at lows other) ≡ Some m) × (n ≤ m)) (sym here)
          (from_here (low_at lows other) is (λ m h. low_at_holds (λ (x : ℕ). l ≤ x) lows other m (ascend_above l lows parts.1) h))
      | inr under ↦
          let d = reached_low (Some l) lows key n other parts.1 (sym (ap (λ (b : Bool). cond b (Some l) (low_above lows key)) under) ∙ e) le in
          (d.0, ap (λ (o : Option ℕ). or_later (cond (nat_le l other) (Some l) None) o) d.1, d.2)
    ]
  where
    from_here : (o : Option ℕ) → l ≡ n → ((m : ℕ) → o ≡ Some m → l ≤ m) → (m : ℕ) × (or_later (Some l) o ≡ Some m) × (n ≤ m)
    from_here None is rest = (l, refl, omega (arith, is))
    from_here (Some m) is rest = (m, refl, (let le = rest m refl in omega (arith, is, le)))

-- The low above a key is at or below each low that is above it.
pub passed_low : (last : Option ℕ) (lows : List ℕ) (key a other : ℕ) → ascend_from last lows ≡ true → low_at lows key ≡ Some a → other < a
    → (n : ℕ) × (low_above lows other ≡ Some n) × (n ≤ a)
passed_low last [] key a other up e less = absurd (let h : ◌≡◌ {A = Option ℕ} None (Some a) = e in cc)
passed_low last (l ∷ lows) key a other up e less =
    let parts = and_parts (follows last l) (ascend_from (Some l) lows) up in
    elim (cases_Bool (nat_lt other l)) [
      | inl over ↦ (l, ap (λ (b : Bool). cond b (Some l) (low_above lows other)) over, low_at_holds (λ (x : ℕ). l ≤ x) (l ∷ lows) key a (All-cons (λ (x : ℕ). l ≤ x) l lows (omega arith) (ascend_above l lows parts.1)) e)
      | inr under ↦
          let at : l ≤ other = ltb-false other l under in
          let d = passed_low (Some l) lows key a other parts.1 (later (low_at lows key) (nat_le l key) at e) less in
          (d.0, ap (λ (b : Bool). cond b (Some l) (low_above lows other)) under ∙ d.1, d.2)
    ]
  where
    later : (o : Option ℕ) (b : Bool) → l ≤ other → or_later (cond b (Some l) None) o ≡ Some a → o ≡ Some a
    later None true at e = absurd (let is : l ≡ a = some_same l a e in omega (arith, is, at, less))
    later None false at e = absurd (let h : ◌≡◌ {A = Option ℕ} None (Some a) = e in cc)
    later (Some m) b at e = e

-- Keys that do not belong to one low among some have disjoint intervals.
pub inner_apart : (lows : List ℕ) (high : Option ℕ) (key other a b : ℕ) → IsTrue (ascend lows)
    → (a ≤ other → IsTrue (ends_after (low_above lows key) other) → ⊥)
    → low_at lows key ≡ Some a → low_at lows other ≡ Some b
    → AreDisjoint a (inner_high high lows key) b (inner_high high lows other)
inner_apart lows high key other a b up out at_key at_other = λ x from before other_from other_before.
    elim (cases_lt other a) [
      | inl less ↦
          let d = passed_low None lows key a other up at_key less in
          let over = subst (λ (o : Option ℕ). IsTrue (ends_after (or_later high o) x)) d.1 other_before in
          let bound = ltb-true x d.0 over in
          omega (arith, bound, d.2, from)
      | inr le ↦ beyond (low_above lows key) refl x before other_from le
    ]
  where
    beyond : (o : Option ℕ) → o ≡ low_above lows key → (x : ℕ) → IsTrue (ends_after (or_later high (low_above lows key)) x) → b ≤ x → a ≤ other → ⊥
    beyond None e x before from le = out le (subst (λ (o : Option ℕ). IsTrue (ends_after o other)) e refl)
    beyond (Some n) e x before from le = elim (cases_lt other n) [
      | inl inside ↦ out le (subst (λ (o : Option ℕ). IsTrue (ends_after o other)) e (lt-ltb other n inside))
      | inr past ↦
          let d = reached_low None lows key n other up (sym e) past in
          let same : d.0 ≡ b = some_same d.0 b (sym d.1 ∙ at_other) in
          let bound = ltb-true x n (subst (λ (o : Option ℕ). IsTrue (ends_after (or_later high o) x)) (sym e) before) in
          omega (arith, bound, d.2, same, from)
    ]
