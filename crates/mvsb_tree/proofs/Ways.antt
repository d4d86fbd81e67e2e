-- Which pages a way goes by, and that it stands where they stay.
use Rattle.std.proofs.Common.{◌≡◌, ℕ, zero, suc, ◌+◌, ◌<◌, ◌≤◌, ◌==◌, inl, inr, true, false, Bool, nat_lt, nat_le, List, [], ◌∷◌, Option, Some, None, cond, refl, sym, ap, ◌∙◌, subst, arith}
use Rattle.std.specs.List.{All}
use Rattle.std.specs.Option.{option_map_or}
use Rattle.std.proofs.lemmas.Bool.{cases_Bool, or_right, leb-true, le-leb, ltb-true}
use Rattle.std.proofs.lemmas.List.Elements.{All-head, All-tail}
use Rattle.ports.specs.Pages.{PageMap}
use Rattle.ports.specs.Frame.{names_page}
use Rattle.page_layout.specs.declared.mv_node.MvNode.{MvNode}
use Rattle.mv_pages.specs.Alive.{child_of, or_later, value_of}
use Rattle.mv_pages.specs.Lows.{alive_lows, low_above, low_at}
use Rattle.mvsb_tree.specs.Stands.{NodeStands, StandsOnWay, first_of, inner_high, inner_low}
use Rattle.mvsb_tree.specs.Steps.{entries_on, node_on, total_below}
use Rattle.mvsb_tree.specs.Ways.{way_pages}
use Rattle.mvsb_tree.proofs.Chains.{names_first, same_node}
use Rattle.mvsb_tree.proofs.Frames.{node_stands}
use Rattle.mvsb_tree.proofs.Nodes.{some_same}

-- the way below a page goes on by the child
pub way_goes_on : (level : ℕ) (map : PageMap) (page key v child : ℕ) → child_of (node_on map page) key v ≡ Some child
    → way_pages (suc level) map page key v ≡ page ∷ way_pages level map child key v
way_goes_on level map page key v child leads = ap (λ (o : Option ℕ). page ∷ option_map_or (λ c. way_pages level map c key v) o []) leads

relisted : (map : PageMap) (nodes others : List ℕ) (level page v low : ℕ) (high : Option ℕ) (least : ℕ) → names_page others page ≡ true
    → NodeStands map nodes level page v low high least → NodeStands map others level page v low high least
relisted map nodes others level page v low high least named s = record {
  listed = named;
  spelled = s.spelled;
  rules = s.rules;
  typed = s.typed;
  at_level = s.at_level;
  differ = s.differ;
  begins = s.begins;
  ends = s.ends;
  filled = s.filled;
}

-- A way stands where its pages are as they were, and are listed.
pub way_moves : (level : ℕ) (a b : PageMap) (nodes others : List ℕ) (page v key low : ℕ) (high : Option ℕ) (least : ℕ)
    → ((p : ℕ) → names_page (way_pages level a page key v) p ≡ true → (b p ≡ a p) × (names_page others p ≡ true))
    → StandsOnWay level a nodes page v key low high least
    → StandsOnWay level b others page v key low high least × (total_below level b page key v ≡ total_below level a page key v)
way_moves zero a b nodes others page v key low high least h s = absurd s
way_moves (suc zero) a b nodes others page v key low high least h s =
    let here = h page (names_first page _) in
    let node : node_on b page ≡ node_on a page = same_node a b page here.0 in (
      relisted b nodes others 1 page v low high least here.1 (node_stands a b nodes 1 page v low high least here.0 s),
      ap (λ (n : MvNode). value_of n.entries.items key v + option_map_or (λ child. 0) (child_of n key v) 0) node,
    )
way_moves (suc (suc level)) a b nodes others page v key low high least h s =
    let whole = way_goes_on (suc level) a page key v s.1 s.2 in
    let here = h page (names_first page _) in
    let node : node_on b page ≡ node_on a page = same_node a b page here.0 in
    let rest = way_moves (suc level) a b nodes others s.1 v key
    (inner_low low (alive_lows (entries_on a page) v) key) (inner_high high (alive_lows (entries_on a page) v) key) 24
    (λ p named. h p (ap (λ (ps : List ℕ). names_page ps p) whole ∙ or_right (page == p) _ named)) s.3 in
    let own : ℕ = value_of (entries_on a page) key v in
    let first = ap (λ (n : MvNode). value_of n.entries.items key v + option_map_or (λ child. total_below (suc level) b child key v) (child_of n key v) 0) node in
    let second = ap (λ (o : Option ℕ). own + option_map_or (λ child. total_below (suc level) b child key v) o 0) s.2 in
    let third = ap (λ (o : Option ℕ). own + option_map_or (λ child. total_below (suc level) a child key v) o 0) s.2 in (
      (
        relisted b nodes others (suc (suc level)) page v low high least here.1 (node_stands a b nodes (suc (suc level)) page v low high least here.0 s.0),
        s.1,
        subst (λ (n : MvNode). child_of n key v ≡ Some s.1) (sym node) s.2,
        subst (λ (n : MvNode). StandsOnWay (suc level) b others s.1 v key (inner_low low (alive_lows n.entries.items v) key) (inner_high high (alive_lows n.entries.items v) key) 24) (sym node) rest.0,
      ),
      first ∙ second ∙ ap (λ (t : ℕ). own + t) rest.1 ∙ sym third,
    )

-- The lows around a key.

pub low_at_from : (lows : List ℕ) (key low : ℕ) → low_at lows key ≡ Some low → low ≤ key
low_at_from [] key low e = absurd (let h : ◌≡◌ {A = Option ℕ} None (Some low) = e in cc)
low_at_from (l ∷ lows) key low e = step (low_at lows key) (nat_le l key) (λ h. leb-true l key h) (λ n h. low_at_from lows key n h) e
  where
    step : (o : Option ℕ) (b : Bool) → (b ≡ true → l ≤ key) → ((n : ℕ) → o ≡ Some n → n ≤ key) → or_later (cond b (Some l) None) o ≡ Some low → low ≤ key
    step None true here rest e = subst (λ (n : ℕ). n ≤ key) (some_same l low e) (here refl)
    step None false here rest e = absurd (let h : ◌≡◌ {A = Option ℕ} None (Some low) = e in cc)
    step (Some n) b here rest e = subst (λ (n : ℕ). n ≤ key) (some_same n low e) (rest n refl)

-- What holds of each low holds of the one at a key, and of the one above it.
pub low_at_holds : (P : ℕ → Type 0) (lows : List ℕ) (key low : ℕ) → All P lows → low_at lows key ≡ Some low → P low
low_at_holds P [] key low all e = absurd (let h : ◌≡◌ {A = Option ℕ} None (Some low) = e in cc)
low_at_holds P (l ∷ lows) key low all e = step (low_at lows key) (nat_le l key) (λ n h. low_at_holds P lows key n (All-tail P l lows all) h) e
  where
    step : (o : Option ℕ) (b : Bool) → ((n : ℕ) → o ≡ Some n → P n) → or_later (cond b (Some l) None) o ≡ Some low → P low
    step None true rest e = subst P (some_same l low e) (All-head P l lows all)
    step None false rest e = absurd (let h : ◌≡◌ {A = Option ℕ} None (Some low) = e in cc)
    step (Some n) b rest e = subst P (some_same n low e) (rest n refl)

pub low_above_holds : (P : ℕ → Type 0) (lows : List ℕ) (key low : ℕ) → All P lows → low_above lows key ≡ Some low → P low × (key < low)
low_above_holds P [] key low all e = absurd (let h : ◌≡◌ {A = Option ℕ} None (Some low) = e in cc)
low_above_holds P (l ∷ lows) key low all e = elim (cases_Bool (nat_lt key l)) [
  | inl over ↦
      let is : Some l ≡ Some low = sym (ap (λ (b : Bool). cond b (Some l) (low_above lows key)) over) ∙ e in
      (subst P (some_same l low is) (All-head P l lows all), subst (λ (n : ℕ). key < n) (some_same l low is) (ltb-true key l over))
  | inr under ↦ low_above_holds P lows key low (All-tail P l lows all) (sym (ap (λ (b : Bool). cond b (Some l) (low_above lows key)) under) ∙ e)
]

-- Where lows begin at or below a key, one of them is at it.
pub low_at_some : (lows : List ℕ) (key low : ℕ) → first_of lows ≡ Some low → low ≤ key → (l : ℕ) × (low_at lows key ≡ Some l)
low_at_some [] key low first le = absurd (let h : ◌≡◌ {A = Option ℕ} None (Some low) = first in cc)
low_at_some (l ∷ lows) key low first le =
    let same : l ≡ low = some_same l low first in
    let here : nat_le l key ≡ true = le-leb l key (omega (arith, same, le)) in
    let first_here : cond (nat_le l key) (Some l) None ≡ Some l = ap (λ (b : Bool). cond b (Some l) None) here in
    pick (low_at lows key) first_here
  where
    pick : (o : Option ℕ) → cond (nat_le l key) (Some l) None ≡ Some l → (m : ℕ) × (or_later (cond (nat_le l key) (Some l) None) o ≡ Some m)
    pick None e = (l, e)
    pick (Some n) e = (n, refl)
