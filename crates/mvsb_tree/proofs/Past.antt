-- Before the version of an addition each way stands as it did; after it each is as at it.
use Rattle.std.proofs.Common.{◌≡◌, ℕ, zero, suc, ◌+◌, ◌%◌, ◌^◌, ◌<◌, ◌≤◌, ◌==◌, ◌||◌, ◌&&◌, inl, inr, true, Bool, IsTrue, nat_lt, nat_le, List, [], ◌∷◌, length, map, Option, Some, None, cond, refl, sym, ap, ◌∙◌, subst, arith}
use Rattle.std.specs.List.{All}
use Rattle.std.specs.Option.{option_map_or}
use Rattle.std.proofs.Math.Nat.{add-mod-mod, mod-add-mod}
use Rattle.std.proofs.lemmas.Bool.{or_cases, or_right, eqb-true, eq-eqb, le-leb, le-ltb, true≢false}
use Rattle.std.proofs.lemmas.List.Elements.{All-head, All-tail}
use Rattle.std.proofs.lemmas.List.Sums.{sum_by-cons}
use Rattle.ports.specs.Pages.{PageMap}
use Rattle.ports.specs.Frame.{names_page}
use Rattle.page_layout.specs.MvNode.{IsMvNode, IsTyped, mv_node_page}
use Rattle.page_layout.specs.declared.mv_node.MvNode.{MvNode}
use Rattle.page_layout.specs.declared.mv_node.MvEntry.{MvEntry}
use Rattle.mv_pages.specs.Alive.{IsPastOf, alive_at, child_of, child_reached, counted, is_alive, or_later, path_child, value_of}
use Rattle.mv_pages.specs.Lows.{alive_lows, ascend}
use Rattle.mvsb_tree.specs.Grown.{PastStays}
use Rattle.mvsb_tree.specs.Stands.{ChainStands, NodeStands, StandsOnWay, ends_after, first_of, inner_high, inner_low}
use Rattle.mvsb_tree.specs.Steps.{chain_from, entries_on, node_on, total_below}

-- Each page of a chain that stands spells a node.
pub record SpellsNode (m : PageMap) (page : ℕ) : Type 0 where
  pub spelled : m page ≡ Some (mv_node_page (node_on m page))
  pub rules : IsMvNode (node_on m page)
  pub typed : IsTyped (node_on m page)

pub chain_spells : (places : ℕ) (m : PageMap) (last : ℕ) → ChainStands places m last → (p : ℕ) → names_page (chain_from places m last) p ≡ true → SpellsNode m p
chain_spells zero m last s p named = absurd (true≢false (sym named))
chain_spells (suc places) m last s p named = elim (or_cases (last == p) (names_page (chain_from places m (node_on m last).before) p) named) [
  | inl here ↦ subst (SpellsNode m) (eqb-true last p here) (record { spelled = s.0; rules = s.1; typed = s.2 })
  | inr later ↦ chain_spells places m (node_on m last).before s.4 p later
]

pub add_mods : (a b c d n : ℕ) → a % n ≡ c % n → b % n ≡ d % n → (a + b) % n ≡ (c + d) % n
add_mods a b c d n e f =
    sym (add-mod-mod a b n) ∙ ap (λ (x : ℕ). (a + x) % n) f ∙ sym (mod-add-mod a n (d % n)) ∙ ap (λ (x : ℕ). (x + d % n) % n) e ∙ mod-add-mod c n (d % n) ∙ add-mod-mod c d n

module _ (a b : PageMap) (nodes others : List ℕ) (version v key : ℕ) (early : v < version)
    (past : (p : ℕ) → names_page nodes p ≡ true → PastStays version (node_on a p) (node_on b p))
    (listed : (p : ℕ) → names_page nodes p ≡ true → names_page others p ≡ true)
    (spells : (p : ℕ) → names_page others p ≡ true → SpellsNode b p) where
  node_past : (level page low : ℕ) (high : Option ℕ) (least : ℕ) → NodeStands a nodes level page v low high least → NodeStands b others level page v low high least
  node_past level page low high least s =
      let kept = past page s.listed in
      let on = spells page (listed page s.listed) in
      let lows = sym (kept.lows v early) in
      record {
        listed = listed page s.listed;
        spelled = on.spelled;
        rules = on.rules;
        typed = on.typed;
        at_level = kept.level ∙ s.at_level;
        differ = subst (λ (ls : List ℕ). IsTrue (ascend ls)) lows s.differ;
        begins = subst (λ (ls : List ℕ). first_of ls ≡ Some low) lows s.begins;
        ends = subst (λ (ls : List ℕ). All (λ l. IsTrue (ends_after high l)) ls) lows s.ends;
        filled = subst (λ (ls : List ℕ). least ≤ length ls) lows s.filled;
      }

  pub way_past : (level page low : ℕ) (high : Option ℕ) (least : ℕ) → StandsOnWay level a nodes page v key low high least
      → StandsOnWay level b others page v key low high least × (total_below level b page key v % 2 ^ 128 ≡ total_below level a page key v % 2 ^ 128)
  way_past zero page low high least s = absurd s
  way_past (suc zero) page low high least s =
      let kept = past page s.listed in
      let t : MvNode → ℕ = λ n. option_map_or (λ child. 0) (child_of n key v) 0 in
      let children : t (node_on b page) ≡ t (node_on a page) = ap (λ (o : Option ℕ). option_map_or (λ child. 0) o 0) (kept.children key v early) in (
        node_past 1 page low high least s,
        add_mods (value_of (entries_on b page) key v) (t (node_on b page)) (value_of (entries_on a page) key v) (t (node_on a page)) (2 ^ 128) (kept.values key v early) (ap (λ (n : ℕ). n % 2 ^ 128) children),
      )
  way_past (suc (suc level)) page low high least s =
      let kept = past page s.0.listed in
      let child : ℕ = s.1 in
      let rest = way_past (suc level) child (inner_low low (alive_lows (entries_on a page) v) key) (inner_high high (alive_lows (entries_on a page) v) key) 24 s.3 in
      let leads : child_of (node_on b page) key v ≡ Some child = kept.children key v early ∙ s.2 in
      let lows = sym (kept.lows v early) in
      let t : PageMap → ℕ = λ m. option_map_or (λ c. total_below (suc level) m c key v) (child_of (node_on m page) key v) 0 in
      let tb : t b ≡ total_below (suc level) b child key v = ap (λ (o : Option ℕ). option_map_or (λ c. total_below (suc level) b c key v) o 0) leads in
      let ta : t a ≡ total_below (suc level) a child key v = ap (λ (o : Option ℕ). option_map_or (λ c. total_below (suc level) a c key v) o 0) s.2 in (
        (
          node_past (suc (suc level)) page low high least s.0,
          child,
          leads,
          subst (λ (ls : List ℕ). StandsOnWay (suc level) b others child v key (inner_low low ls key) (inner_high high ls key) 24) lows rest.0,
        ),
        add_mods (value_of (entries_on b page) key v) (t b) (value_of (entries_on a page) key v) (t a) (2 ^ 128) (kept.values key v early)
            (ap (λ (n : ℕ). n % 2 ^ 128) tb ∙ rest.1 ∙ sym (ap (λ (n : ℕ). n % 2 ^ 128) ta)),
      )

-- What is alive at a version at or after every start and end is alive at each later one, and nothing else.
later_alive : (t v : ℕ) (e : MvEntry) → t < 4294967295 → t ≤ v → IsPastOf t e → is_alive v e ≡ is_alive t e
later_alive t v e last late past =
    let started : nat_le e.start v ≡ nat_le e.start t = le-leb e.start v (omega (arith, past.0, late)) ∙ sym (le-leb e.start t past.0) in
    let ended : (nat_lt v e.end || e.end == 4294967295) ≡ (nat_lt t e.end || e.end == 4294967295) = elim past.1 [
      | inl open_end ↦
          let o : (e.end == 4294967295) ≡ true = eq-eqb e.end 4294967295 open_end in
          or_right (nat_lt v e.end) (e.end == 4294967295) o ∙ sym (or_right (nat_lt t e.end) (e.end == 4294967295) o)
      | inr over ↦
          ap (λ (b : Bool). b || e.end == 4294967295) (le-ltb v e.end (omega (arith, over, late)) ∙ sym (le-ltb t e.end over))
    ] in
    ap (λ (b : Bool). b && (nat_lt v e.end || e.end == 4294967295)) started ∙ ap (λ (b : Bool). nat_le e.start t && b) ended

pub later_at : (t v : ℕ) (es : List MvEntry) → t < 4294967295 → t ≤ v → All (IsPastOf t) es → alive_at es v ≡ alive_at es t
later_at t v [] last late past = refl
later_at t v (e ∷ es) last late past =
    ap (λ (b : Bool). cond b (e ∷ alive_at es v) (alive_at es v)) (later_alive t v e last late (All-head (IsPastOf t) e es past))
    ∙ ap (λ (xs : List MvEntry). cond (is_alive t e) (e ∷ xs) xs) (later_at t v es last late (All-tail (IsPastOf t) e es past))

pub later_lows : (t v : ℕ) (es : List MvEntry) → t < 4294967295 → t ≤ v → All (IsPastOf t) es → alive_lows es v ≡ alive_lows es t
later_lows t v es last late past = ap (λ (xs : List MvEntry). map (λ (e : MvEntry). e.low) xs) (later_at t v es last late past)

later_value : (t v key : ℕ) (es : List MvEntry) → t < 4294967295 → t ≤ v → All (IsPastOf t) es → value_of es key v ≡ value_of es key t
later_value t v key [] last late past = refl
later_value t v key (e ∷ es) last late past =
    let here : counted key v e ≡ counted key t e = ap (λ (b : Bool). cond (nat_le e.low key && b) e.value 0) (later_alive t v e last late (All-head (IsPastOf t) e es past)) in
    let rest = later_value t v key es last late (All-tail (IsPastOf t) e es past) in
    omega (arith, here, rest, sum_by-cons (λ (x : MvEntry). counted key v x) e es, sum_by-cons (λ (x : MvEntry). counted key t x) e es)

later_path : (t v key : ℕ) (es : List MvEntry) → t < 4294967295 → t ≤ v → All (IsPastOf t) es → path_child es key v ≡ path_child es key t
later_path t v key [] last late past = refl
later_path t v key (e ∷ es) last late past =
    ap (λ (b : Bool). or_later (cond (nat_le e.low key && b) (Some e.child) None) (path_child es key v)) (later_alive t v e last late (All-head (IsPastOf t) e es past))
    ∙ ap (λ (o : Option ℕ). or_later (child_reached key t e) o) (later_path t v key es last late (All-tail (IsPastOf t) e es past))

pub later_child : (t v key : ℕ) (node : MvNode) → t < 4294967295 → t ≤ v → All (IsPastOf t) node.entries.items → child_of node key v ≡ child_of node key t
later_child t v key node last late past = ap (λ (o : Option ℕ). cond (node.level == 1) None o) (later_path t v key node.entries.items last late past)

module _ (m : PageMap) (nodes : List ℕ) (t v key : ℕ) (last : t < 4294967295) (late : t ≤ v)
    (past : (p : ℕ) → names_page nodes p ≡ true → All (IsPastOf t) (entries_on m p)) where
  node_later : (level page low : ℕ) (high : Option ℕ) (least : ℕ) → NodeStands m nodes level page t low high least → NodeStands m nodes level page v low high least
  node_later level page low high least s =
      let lows = sym (later_lows t v (entries_on m page) last late (past page s.listed)) in
      record {
        listed = s.listed;
        spelled = s.spelled;
        rules = s.rules;
        typed = s.typed;
        at_level = s.at_level;
        differ = subst (λ (ls : List ℕ). IsTrue (ascend ls)) lows s.differ;
        begins = subst (λ (ls : List ℕ). first_of ls ≡ Some low) lows s.begins;
        ends = subst (λ (ls : List ℕ). All (λ l. IsTrue (ends_after high l)) ls) lows s.ends;
        filled = subst (λ (ls : List ℕ). least ≤ length ls) lows s.filled;
      }

  pub way_later : (level page low : ℕ) (high : Option ℕ) (least : ℕ) → StandsOnWay level m nodes page t key low high least
      → StandsOnWay level m nodes page v key low high least × (total_below level m page key v ≡ total_below level m page key t)
  way_later zero page low high least s = absurd s
  way_later (suc zero) page low high least s =
      let values = later_value t v key (entries_on m page) last late (past page s.listed) in
      let children = ap (λ (o : Option ℕ). option_map_or (λ child. 0) o 0) (later_child t v key (node_on m page) last late (past page s.listed)) in (
        node_later 1 page low high least s,
        ap (λ (n : ℕ). n + option_map_or (λ child. 0) (child_of (node_on m page) key v) 0) values ∙ ap (λ (n : ℕ). value_of (entries_on m page) key t + n) children,
      )
  way_later (suc (suc level)) page low high least s =
      let es : List MvEntry = entries_on m page in
      let child : ℕ = s.1 in
      let rest = way_later (suc level) child (inner_low low (alive_lows es t) key) (inner_high high (alive_lows es t) key) 24 s.3 in
      let leads : child_of (node_on m page) key v ≡ Some child = later_child t v key (node_on m page) last late (past page s.0.listed) ∙ s.2 in
      let lows = sym (later_lows t v es last late (past page s.0.listed)) in
      let values = later_value t v key es last late (past page s.0.listed) in
      let tv = ap (λ (o : Option ℕ). option_map_or (λ c. total_below (suc level) m c key v) o 0) leads in
      let tt_is = ap (λ (o : Option ℕ). option_map_or (λ c. total_below (suc level) m c key t) o 0) s.2 in (
        (
          node_later (suc (suc level)) page low high least s.0,
          child,
          leads,
          subst (λ (ls : List ℕ). StandsOnWay (suc level) m nodes child v key (inner_low low ls key) (inner_high high ls key) 24) lows rest.0,
        ),
        ap (λ (n : ℕ). n + option_map_or (λ c. total_below (suc level) m c key v) (child_of (node_on m page) key v) 0) values
            ∙ ap (λ (n : ℕ). value_of es key t + n) (tv ∙ rest.1 ∙ sym tt_is),
      )
