-- Freeing the pages of a tree one child after another.
use Rattle.sb_tree.proofs.Common.{◌≡◌, ℕ, zero, suc, ◌+◌, ◌-◌, ◌<◌, ◌≤◌, ◌^◌, ◌==◌, ◌⊎◌, true, inl, inr, List, [], ◌∷◌, ◌++◌, length, get_or, take, drop, map, Some, refl, sym, ap, ◌∙◌, subst, arith, drop-cons, rules, get_or-map, flat_map, option_map_or, cases_Bool, or_left, eq-eqb, take-append-drop, length-map, get_or_default, flat_map-append, PageMap, names_page, AgreeOn, AreInMap, Replaces, Replaces-beside, names_page-append, IsNamedTwice, times_named, sb_node_page, sb_node_in, SbNode, SbEntry, Point, Tree, no_node, node_on, entries_on, pages_below, EachStands, StandsBelow, RootStands, SbStands, FitsLevel, IsDamagedFrom, IsDamagedInside, IsDamagedForFree, flat_more, named_once, not_twice, times_append, times_cons}
use Rattle.sb_tree.proofs.Nodes.{entries_on-spelled, same_spelled}
use Rattle.sb_tree.proofs.Frames.{same_pages}
use Rattle.sb_tree.proofs.Sound.{level_where_stands}

-- the pages of an entry's child
abbrev pub own_pages : ℕ → PageMap → SbEntry → List ℕ
own_pages level pages e = pages_below level pages e.child

pub no_pages : (es : List SbEntry) (pages : PageMap) → flat_map (own_pages 0 pages) es ≡ []
no_pages [] pages = refl
no_pages (e ∷ es) pages = no_pages es pages

pub pages-step : (level : ℕ) (pages : PageMap) (page : ℕ) → pages_below (suc level) pages page ≡ page ∷ flat_map (own_pages level pages) (entries_on pages page)
pages-step zero pages page = grind (arith, no_pages)
pages-step (suc level) pages page = refl

pub pages-spelled : (level : ℕ) (pages : PageMap) (page : ℕ) (node : SbNode) → 1 ≤ level → pages page ≡ Some (sb_node_page node) → FitsLevel level node (sb_node_page node)
    → pages_below level pages page ≡ page ∷ flat_map (own_pages (level - 1) pages) node.entries.items
pages-spelled zero pages page node some there fits = absurd (omega (arith, some))
pages-spelled (suc level) pages page node some there fits = grind (arith, pages-step, entries_on-spelled)

flat_at : {A : Type 0} (f : SbEntry → List A) (es : List SbEntry) (i : ℕ) (d : SbEntry) → i < length es
    → flat_map f es ≡ flat_map f (take i es) ++ (f (get_or es i d) ++ flat_map f (drop (suc i) es))
flat_at f es i d h =
    let whole : es ≡ take i es ++ (get_or es i d ∷ drop (suc i) es) = search (rules, take-append-drop, drop-cons) in
    ap (flat_map f) whole ∙ flat_map-append f (take i es) (get_or es i d ∷ drop (suc i) es)

-- A page that is left is as it was.
pub left_agree : (pages freed : List ℕ) (m0 mi : PageMap) → Replaces freed [] m0 mi → AreInMap mi pages → AgreeOn pages mi m0
left_agree pages freed m0 mi r there = grind arith

pub all_in_map : (xs ys : List ℕ) (map : PageMap) → AreInMap map xs → AreInMap map ys → AreInMap map (xs ++ ys)
all_in_map xs ys map first rest = grind (arith, names_page-append)

-- one more child is freed
pub free_step : (level page : ℕ) (m0 mi mj : PageMap) (es : List SbEntry) (i : ℕ) (d : SbEntry) → i < length es
    → Replaces (page ∷ flat_map (own_pages level m0) (take i es)) [] m0 mi
    → AreInMap mi (pages_below level mi (get_or es i d).child)
    → Replaces (pages_below level mi (get_or es i d).child) [] mi mj
    → Replaces (page ∷ flat_map (own_pages level m0) (take (i + 1) es)) [] m0 mj
free_step level page m0 mi mj es i d h r there call =
    let agree = left_agree (pages_below level mi (get_or es i d).child) (page ∷ flat_map (own_pages level m0) (take i es)) m0 mi r there in
    let same : own_pages level m0 (get_or es i d) ≡ pages_below level mi (get_or es i d).child = same_pages level mi m0 (get_or es i d).child agree in
    rw (flat_more (own_pages level m0) es i d h)
    (Replaces-beside (page ∷ flat_map (own_pages level m0) (take i es)) [] (own_pages level m0 (get_or es i d)) [] m0 mi mj r (rw same call))

pub there_step : (level page : ℕ) (m0 mi : PageMap) (es : List SbEntry) (i : ℕ) (d : SbEntry) → i < length es
    → Replaces (page ∷ flat_map (own_pages level m0) (take i es)) [] m0 mi
    → AreInMap m0 (page ∷ flat_map (own_pages level m0) (take i es))
    → AreInMap mi (pages_below level mi (get_or es i d).child)
    → AreInMap m0 (page ∷ flat_map (own_pages level m0) (take (i + 1) es))
there_step level page m0 mi es i d h r before there =
    let pages : List ℕ = pages_below level mi (get_or es i d).child in
    let agree = left_agree pages (page ∷ flat_map (own_pages level m0) (take i es)) m0 mi r there in
    let same : own_pages level m0 (get_or es i d) ≡ pages = same_pages level mi m0 (get_or es i d).child agree in
    let mine : AreInMap m0 pages = search rules in
    rw (flat_more (own_pages level m0) es i d h) (all_in_map (page ∷ flat_map (own_pages level m0) (take i es)) (own_pages level m0 (get_or es i d)) m0 before (rw same mine))

-- A map that lost pages names no page more often.
flat_fewer : (level : ℕ) (m0 mi : PageMap) (p : ℕ) → ((page : ℕ) → times_named (pages_below level mi page) p ≤ times_named (pages_below level m0 page) p)
    → (es : List SbEntry) → times_named (flat_map (own_pages level mi) es) p ≤ times_named (flat_map (own_pages level m0) es) p
flat_fewer level m0 mi p fewer [] = omega arith
flat_fewer level m0 mi p fewer (e ∷ es) =
    omega (
      arith,
      times_append (own_pages level mi e) (flat_map (own_pages level mi) es) p,
      times_append (own_pages level m0 e) (flat_map (own_pages level m0) es) p,
      fewer e.child,
      flat_fewer level m0 mi p fewer es,
    )

pub fewer_named : (level : ℕ) (freed : List ℕ) (m0 mi : PageMap) (p page : ℕ) → Replaces freed [] m0 mi
    → times_named (pages_below level mi page) p ≤ times_named (pages_below level m0 page) p
fewer_named zero freed m0 mi p page r = omega arith
fewer_named (suc level) freed m0 mi p page r =
    let first = ap (λ ps. times_named ps p) (pages-step level mi page) ∙ times_cons page (flat_map (own_pages level mi) (entries_on mi page)) p in
    let second = ap (λ ps. times_named ps p) (pages-step level m0 page) ∙ times_cons page (flat_map (own_pages level m0) (entries_on m0 page)) p in
    elim (cases_Bool (names_page freed page)) [
      | inl gone ↦ search rules
      | inr left ↦
          let same : entries_on mi page ≡ entries_on m0 page = ap (λ o. (option_map_or sb_node_in o no_node).entries.items) (r.others page left refl) in
          omega (
            arith,
            first,
            second,
            ap (λ es. times_named (flat_map (own_pages level mi) es) p) same,
            flat_fewer level m0 mi p (λ q. fewer_named level freed m0 mi p q r) (entries_on m0 page),
          )
    ]

-- A page below a child is a page below its parent.
named_child : (level : ℕ) (map0 : PageMap) (p : ℕ) (es : List SbEntry) (child k : ℕ) → k < length es → get_or (map (λ e. e.child) es) k child ≡ child
    → names_page (pages_below level map0 child) p ≡ true → names_page (flat_map (own_pages level map0) es) p ≡ true
named_child level map0 p [] child k h at named = absurd (omega (arith, h))
named_child level map0 p (e ∷ es) child zero h at named = grind (arith, names_page-append)
named_child level map0 p (e ∷ es) child (suc k) h at named = grind (arith, names_page-append, named_child level map0 p es child k (omega (arith, h)) at named)

-- What is damaged in a map that lost pages was damaged before, or is one of those that are lost.
pub damage_left : (level : ℕ) (freed : List ℕ) (m0 mi : PageMap) (page damaged : ℕ) → Replaces freed [] m0 mi → IsDamagedFrom mi level page damaged
    → IsDamagedFrom m0 level page damaged ⊎ ((names_page freed damaged ≡ true) × (names_page (pages_below level m0 page) damaged ≡ true))
damage_left zero freed m0 mi page damaged r d = absurd d
damage_left (suc level) freed m0 mi page damaged r (inl d) = elim (cases_Bool (names_page freed page)) [
  | inl gone ↦ inr (
    rw d.0 gone,
    ap (λ ps. names_page ps damaged) (pages-step level m0 page) ∙ or_left (page == damaged) _ (eq-eqb page damaged (sym d.0)),
  )
  | inr left ↦ inl (inl (d.0, λ node bytes there. d.1 node bytes (r.others page left refl ∙ there)))
]
damage_left (suc level) freed m0 mi page damaged r (inr (inl d)) = absurd d.4
damage_left (suc level) freed m0 mi page damaged r (inr (inr d)) =
    grind (arith, entries_on-spelled, pages-step, named_child, length-map, damage_left level freed m0 mi d.2 damaged r d.7)

pub damaged_child : (level : ℕ) (m0 mi : PageMap) (page damaged : ℕ) (node : SbNode) (es : List SbEntry) (i : ℕ) (d : SbEntry) → 1 ≤ level
    → m0 page ≡ Some (sb_node_page node) → FitsLevel level node (sb_node_page node) → es ≡ node.entries.items → i < length es
    → Replaces (page ∷ flat_map (own_pages (level - 1) m0) (take i es)) [] m0 mi
    → IsDamagedFrom mi (level - 1) (get_or es i d).child damaged ⊎ IsNamedTwice (pages_below (level - 1) mi (get_or es i d).child) damaged
    → IsDamagedFrom m0 level page damaged ⊎ IsNamedTwice (pages_below level m0 page) damaged
damaged_child zero m0 mi page damaged node es i d some there fits same h r call = absurd (omega (arith, some))
damaged_child (suc level) m0 mi page damaged node es i d some there fits same h r call =
    let less : suc level - 1 ≡ level = omega arith in
    let c : ℕ = (get_or es i d).child in
    let r1 = rw less at r in
    let call1 = rw less at call in
    let f : SbEntry → List ℕ = own_pages level m0 in
    let freed : List ℕ = page ∷ flat_map f (take i es) in
    let bound : i < length (map (λ e. e.child) node.entries.items) = search (rules, length-map) in
    let at : get_or (map (λ e. e.child) node.entries.items) i c ≡ c = ap (λ xs. get_or (map (λ (e : SbEntry). e.child) xs) i c) (sym same)
    ∙ get_or_default (map (λ e. e.child) es) i c d.child (omega (arith, h, length-map es (λ e. e.child))) ∙ get_or-map (λ e. e.child) es i d in
    let pages : pages_below (suc level) m0 page ≡ page ∷ flat_map f es = pages-step level m0 page ∙ ap (λ xs. page ∷ flat_map f xs) (entries_on-spelled m0 page node fits.typed fits.rules there ∙ sym same) in
    let times : times_named (pages_below (suc level) m0 page) damaged ≡ times_named freed damaged + (times_named (f (get_or es i d)) damaged + times_named (flat_map f (drop (suc i) es)) damaged) =
    rw (pages, flat_at f es i d h) (times_append freed (f (get_or es i d) ++ flat_map f (drop (suc i) es)) damaged ∙ ap (λ n. times_named freed damaged + n) (times_append (f (get_or es i d)) _ damaged)) in
    elim call1 [
      | inl inside ↦ elim (damage_left level freed m0 mi c damaged r1 inside) [
        | inl below ↦ inl (inr (inr (node, sb_node_page node, c, tt, there, fits, (i, bound, at), below)))
        | inr both ↦ inr (omega (arith, times, named_once freed damaged both.0, named_once (f (get_or es i d)) damaged both.1))
      ]
      | inr twice ↦ inr (omega (arith, times, twice, fewer_named level freed m0 mi damaged c r1))
    ]

pub damaged_itself : (level : ℕ) (pages : PageMap) (page damaged : ℕ) → 1 ≤ level → damaged ≡ page
    → ((node : SbNode) (bytes : List ℕ) → pages page ≡ Some bytes → FitsLevel level node bytes → ⊥) → IsDamagedFrom pages level page damaged
damaged_itself zero pages page damaged some same none = absurd (omega (arith, some))
damaged_itself (suc level) pages page damaged some same none = inl (same, none)

-- Where the tree stands, no page of it is damaged.
each_nth : (stands : ℕ → ℕ → ℕ → Type 0) (es : List SbEntry) (high child k : ℕ) → k < length es → get_or (map (λ e. e.child) es) k child ≡ child
    → EachStands stands es high → (from : ℕ) × (to : ℕ) × stands child from to
each_nth stands [] high child k h at each = absurd (omega (arith, h))
each_nth stands (e ∷ es) high child zero h at each = grind arith
each_nth stands (e ∷ es) high child (suc k) h at each = each_nth stands es high child k (omega (arith, h)) at each.1

pub undamaged_inside : (level : ℕ) (pages : PageMap) (page low high least damaged : ℕ) → StandsBelow level pages page low high least → IsDamagedFrom pages level page damaged → ⊥
undamaged_inside zero pages page low high least damaged s d = d
undamaged_inside (suc zero) pages page low high least damaged s (inl d) = d.1 (node_on pages page) (sb_node_page (node_on pages page)) s.spelled (level_where_stands pages 1 page low high least s)
undamaged_inside (suc zero) pages page low high least damaged s (inr (inl d)) = d.4
undamaged_inside (suc zero) pages page low high least damaged s (inr (inr d)) = d.7
undamaged_inside (suc (suc level)) pages page low high least damaged s (inl d) =
    d.1 (node_on pages page) (sb_node_page (node_on pages page)) s.0.spelled (level_where_stands pages (suc (suc level)) page low high least s.0)
undamaged_inside (suc (suc level)) pages page low high least damaged s (inr (inl d)) = d.4
undamaged_inside (suc (suc level)) pages page low high least damaged s (inr (inr d)) =
    let l : ℕ = suc (suc level) in
    let same : node_on pages page ≡ d.0 = same_spelled pages page (node_on pages page) d.0 d.1 l l s.0.spelled (level_where_stands pages l page low high least s.0) d.4 d.5 in
    let at = each_nth (λ child from to. StandsBelow (suc level) pages child from to 32) (entries_on pages page) high d.2 d.6.0
    (subst (λ (n : SbNode). d.6.0 < length n.entries.items) (sym same) (omega (arith, d.6.1, length-map d.0.entries.items (λ (e : SbEntry). e.child))))
    (ap (λ n. get_or (map (λ (e : SbEntry). e.child) n.entries.items) d.6.0 d.2) same ∙ d.6.2) s.1 in
    undamaged_inside (suc level) pages d.2 at.0 at.1 32 damaged at.2 d.7

root_undamaged_inside : (levels : ℕ) (pages : PageMap) (root damaged : ℕ) → RootStands levels pages root → IsDamagedFrom pages levels root damaged → ⊥
root_undamaged_inside zero pages root damaged s d = d
root_undamaged_inside (suc level) pages root damaged s d = undamaged_inside (suc level) pages root 0 (2 ^ 32) 1 damaged s d

tree_undamaged_inside : (pages : PageMap) (tree : Tree) (points : List Point) (damaged : ℕ) → SbStands pages tree points → IsDamagedInside pages tree damaged → ⊥
tree_undamaged_inside pages tree points damaged s d = root_undamaged_inside tree.levels pages tree.root damaged s.nodes d

pub tree_undamaged_for_free : (pages : PageMap) (tree : Tree) (points : List Point) (damaged : ℕ) → SbStands pages tree points → IsDamagedForFree pages tree damaged → ⊥
tree_undamaged_for_free pages tree points damaged s (inl d) = tree_undamaged_inside pages tree points damaged s d
tree_undamaged_for_free pages tree points damaged s (inr twice) = search (rules, not_twice)
