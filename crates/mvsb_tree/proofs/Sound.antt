-- Where the nodes on a way stand, no call finds one of them damaged.
use Rattle.std.proofs.Common.{◌≡◌, ◌≢◌, ℕ, zero, suc, ◌<◌, ◌≤◌, ◌||◌, ◌&&◌, inl, inr, Bool, true, not, nat_lt, nat_le, IsTrue, List, [], ◌∷◌, Option, Some, None, IsSome, get_or, ◌⊎◌, refl, sym, ap, ◌∙◌, subst, arith}
use Rattle.std.specs.List.{All, list_all}
use Rattle.std.proofs.lemmas.Bool.{cases_Bool, and_parts, and_from, or_left, or_right, le-leb, ltb-true}
use Rattle.std.proofs.lemmas.List.Elements.{All-cons, All-nil, All-head, All-tail}
use Rattle.ports.specs.Pages.{PageMap}
use Rattle.page_layout.specs.Damage.{IsDamagedBelow, NothingBeside}
use Rattle.page_layout.specs.MvNode.{mv_node_page}
use Rattle.page_layout.specs.declared.mv_node.MvNode.{MvNode}
use Rattle.page_layout.specs.declared.mv_node.MvEntry.{MvEntry}
use Rattle.mv_pages.specs.Alive.{child_of, is_alive}
use Rattle.mv_pages.specs.Lows.{alive_lows, ascend, ascend_from}
use Rattle.mvsb_tree.specs.declared.place.Place.{Place}
use Rattle.mvsb_tree.specs.Damage.{FitsPlace, LeadsTo, IsDamagedFromRoot, root_place}
use Rattle.mvsb_tree.specs.Stands.{NodeStands, StandsOnWay, RootStands, ends_after, first_of, inner_low, inner_high}
use Rattle.mvsb_tree.specs.Steps.{node_on, entries_on, root_level}
use Rattle.mvsb_tree.proofs.Nodes.{same_spelled, some_same}

weaken : (a b : ℕ) (ls : List ℕ) → b ≤ a → All (λ l. a ≤ l) ls → All (λ l. b ≤ l) ls
weaken a b ls le all = λ k d h. (let here : a ≤ get_or ls k d = all k d h in omega (arith, here, le))

-- Each of the lows that ascend from one on is above it.
pub ascend_above : (last : ℕ) (lows : List ℕ) → IsTrue (ascend_from (Some last) lows) → All (λ l. last ≤ l) lows
ascend_above last [] up = All-nil (λ (l : ℕ). last ≤ l)
ascend_above last (low ∷ lows) up =
    let parts = and_parts (nat_lt last low) (ascend_from (Some low) lows) up in
    let less : last < low = ltb-true last low parts.0 in
    All-cons (λ (l : ℕ). last ≤ l) low lows (omega (arith, less)) (weaken low last lows (omega (arith, less)) (ascend_above low lows parts.1))

-- Lows that ascend are at or above the first one.
pub first_least : (lows : List ℕ) (low : ℕ) → IsTrue (ascend lows) → first_of lows ≡ Some low → All (λ l. low ≤ l) lows
first_least [] low up first = All-nil (λ (l : ℕ). low ≤ l)
first_least (l ∷ lows) low up first =
    let same : l ≡ low = some_same l low first in
    let rest = ascend_above l lows up in
    subst (λ (n : ℕ). All (λ (m : ℕ). n ≤ m) (l ∷ lows)) same (All-cons (λ (m : ℕ). l ≤ m) l lows (omega arith) rest)

-- What is true of each alive low is true of each entry that is alive.
pub within_by_lows : (test : ℕ → Bool) (v : ℕ) (es : List MvEntry) → All (λ l. IsTrue (test l)) (alive_lows es v)
    → IsTrue (list_all (λ e. not (is_alive v e) || test e.low) es)
within_by_lows test v [] all = refl
within_by_lows test v (e ∷ es) all = elim (cases_Bool (is_alive v e)) [
  | inl lives ↦
      let cons : alive_lows (e ∷ es) v ≡ e.low ∷ alive_lows es v = rw lives refl in
      let both : All (λ l. IsTrue (test l)) (e.low ∷ alive_lows es v) = subst (All (λ (l : ℕ). IsTrue (test l))) cons all in
      and_from (not (is_alive v e) || test e.low) (list_all (λ (f : MvEntry). not (is_alive v f) || test f.low) es)
      (or_right (not (is_alive v e)) (test e.low) (All-head (λ (l : ℕ). IsTrue (test l)) e.low (alive_lows es v) both))
      (within_by_lows test v es (All-tail (λ (l : ℕ). IsTrue (test l)) e.low (alive_lows es v) both))
  | inr dead ↦
      let skip : alive_lows (e ∷ es) v ≡ alive_lows es v = rw dead refl in
      let gone : not (is_alive v e) ≡ true = rw dead refl in
      and_from (not (is_alive v e) || test e.low) (list_all (λ (f : MvEntry). not (is_alive v f) || test f.low) es)
      (or_left (not (is_alive v e)) (test e.low) gone)
      (within_by_lows test v es (subst (All (λ (l : ℕ). IsTrue (test l))) skip all))
]

both_tests : (low : ℕ) (high : Option ℕ) (lows : List ℕ) → All (λ l. low ≤ l) lows → All (λ l. IsTrue (ends_after high l)) lows
    → All (λ l. IsTrue (nat_le low l && ends_after high l)) lows
both_tests low high lows from before = λ k d h.
    and_from (nat_le low (get_or lows k d)) (ends_after high (get_or lows k d)) (le-leb low (get_or lows k d) (from k d h)) (before k d h)

-- A node that stands fits its place.
pub fits_where_stands : (pages : PageMap) (nodes : List ℕ) (level page least : ℕ) (place : Place) → NodeStands pages nodes level page place.version place.low place.high least
    → (level ≡ 1) ⊎ IsSome (child_of (node_on pages page) place.key place.version)
    → FitsPlace level place (node_on pages page) (mv_node_page (node_on pages page))
fits_where_stands pages nodes level page least place s leads =
    let lows : List ℕ = alive_lows (entries_on pages page) place.version in
    record {
      fits = record { spelled = refl; rules = s.rules; typed = s.typed; at_level = s.at_level };
      admitted = record {
        within = within_by_lows (λ (l : ℕ). nat_le place.low l && ends_after place.high l) place.version (entries_on pages page)
            (both_tests place.low place.high lows (first_least lows place.low s.differ s.begins) s.ends);
        leads = leads;
      };
    }

some_child : (o : Option ℕ) (child : ℕ) → o ≡ Some child → IsSome o
some_child o child e = subst IsSome (sym e) refl

-- What a node that stands leads to stands.
pub inner_stands : (pages : PageMap) (nodes : List ℕ) (level page child : ℕ) (place inner : Place) (node : MvNode)
    → (stands : (c : ℕ) × (child_of (node_on pages page) place.key place.version ≡ Some c)
    × StandsOnWay level pages nodes c place.version place.key (inner_low place.low (alive_lows (entries_on pages page) place.version) place.key)
    (inner_high place.high (alive_lows (entries_on pages page) place.version) place.key) 24)
    → node_on pages page ≡ node → LeadsTo place node child inner
    → StandsOnWay level pages nodes child inner.version inner.key inner.low inner.high 24
inner_stands pages nodes level page child place inner node stands same leads =
    let v : ℕ = place.version in
    let child_is : stands.0 ≡ child = some_same stands.0 child (sym stands.1 ∙ ap (λ (n : MvNode). child_of n place.key v) same ∙ leads.child_is) in
    let low_is : inner.low ≡ inner_low place.low (alive_lows (entries_on pages page) v) place.key =
    leads.low ∙ ap (λ (n : MvNode). inner_low place.low (alive_lows n.entries.items v) place.key) (sym same) in
    let high_is : inner.high ≡ inner_high place.high (alive_lows (entries_on pages page) v) place.key =
    leads.high ∙ ap (λ (n : MvNode). inner_high place.high (alive_lows n.entries.items v) place.key) (sym same) in
    let high : Option ℕ = inner_high place.high (alive_lows (entries_on pages page) v) place.key in
    let a = subst (λ (c : ℕ). StandsOnWay level pages nodes c v place.key (inner_low place.low (alive_lows (entries_on pages page) v) place.key) high 24) child_is stands.2 in
    let b = subst (λ (l : ℕ). StandsOnWay level pages nodes child v place.key l high 24) (sym low_is) a in
    let c = subst (λ (h : Option ℕ). StandsOnWay level pages nodes child v place.key inner.low h 24) (sym high_is) b in
    let d = subst (λ (k : ℕ). StandsOnWay level pages nodes child v k inner.low inner.high 24) (sym leads.key) c in
    subst (λ (w : ℕ). StandsOnWay level pages nodes child w inner.key inner.low inner.high 24) (sym leads.version) d

pub undamaged : (level : ℕ) (pages : PageMap) (nodes : List ℕ) (page least damaged : ℕ) (place : Place)
    → StandsOnWay level pages nodes page place.version place.key place.low place.high least
    → IsDamagedBelow FitsPlace LeadsTo NothingBeside pages level place page damaged → ⊥
undamaged zero pages nodes page least damaged place s d = d
undamaged (suc zero) pages nodes page least damaged place s (inl d) =
    d.1 (node_on pages page) (mv_node_page (node_on pages page)) s.spelled (fits_where_stands pages nodes 1 page least place s (inl refl))
undamaged (suc zero) pages nodes page least damaged place s (inr (inl d)) = d.4
undamaged (suc zero) pages nodes page least damaged place s (inr (inr d)) = d.7
undamaged (suc (suc level)) pages nodes page least damaged place s (inl d) =
    d.1 (node_on pages page) (mv_node_page (node_on pages page)) s.0.spelled
    (fits_where_stands pages nodes (suc (suc level)) page least place s.0 (inr (some_child (child_of (node_on pages page) place.key place.version) s.1 s.2)))
undamaged (suc (suc level)) pages nodes page least damaged place s (inr (inl d)) = d.4
undamaged (suc (suc level)) pages nodes page least damaged place s (inr (inr d)) =
    let same : node_on pages page ≡ d.0 = same_spelled pages page (node_on pages page) d.0 d.1 s.0.typed s.0.rules s.0.spelled d.5.fits.typed d.5.fits.rules d.5.fits.spelled d.4 in
    undamaged (suc level) pages nodes d.2 24 damaged d.3 (inner_stands pages nodes (suc level) page d.2 place d.3 d.0 (s.1, s.2, s.3) same d.6) d.7

-- The node of a root that stands.
pub root_spelled : (level : ℕ) (pages : PageMap) (nodes : List ℕ) (page version key low : ℕ) (high : Option ℕ) (least : ℕ)
    → StandsOnWay level pages nodes page version key low high least → NodeStands pages nodes level page version low high least
root_spelled zero pages nodes page version key low high least s = absurd s
root_spelled (suc zero) pages nodes page version key low high least s = s
root_spelled (suc (suc level)) pages nodes page version key low high least s = s.0

pub root_undamaged : (pages : PageMap) (nodes : List ℕ) (root key version damaged : ℕ) → root ≢ 0 → RootStands pages nodes root version key
    → IsDamagedFromRoot pages root (root_place key version) damaged → ⊥
root_undamaged pages nodes root key version damaged some (inl none) d = some none
root_undamaged pages nodes root key version damaged some (inr s) (inl d) =
    let top = root_spelled (root_level pages root) pages nodes root version key 0 None 1 s.1 in
    d.1 (node_on pages root) (mv_node_page (node_on pages root)) top.spelled (record { spelled = refl; rules = top.rules; typed = top.typed })
root_undamaged pages nodes root key version damaged some (inr s) (inr d) =
    undamaged (root_level pages root) pages nodes root 1 damaged (root_place key version) s.1 d

-- A root that stands has a level.
pub root_has_level : (pages : PageMap) (nodes : List ℕ) (root key version : ℕ) → root ≢ 0 → RootStands pages nodes root version key → 1 ≤ root_level pages root
root_has_level pages nodes root key version some (inl none) = absurd (some none)
root_has_level pages nodes root key version some (inr s) =
    let top = root_spelled (root_level pages root) pages nodes root version key 0 None 1 s.1 in
    subst (λ (l : ℕ). 1 ≤ l) top.at_level top.rules.low_level
