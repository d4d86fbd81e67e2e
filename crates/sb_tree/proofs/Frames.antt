-- A tree depends on its own pages alone.
use Rattle.sb_tree.proofs.Common.{nat_tests, length, ◌≡◌, ℕ, zero, suc, ◌+◌, ◌≤◌, ◌==◌, true, inl, inr, List, [], ◌∷◌, ◌++◌, Some, refl, sym, ap, ◌∙◌, arith, rules, flat_map, option_map_or, or_left, or_right, or_cases, eq-eqb, flat_map-append, PageMap, names_page, AgreeOn, AreInMap, names_page-append, sb_node_page, sb_node_in, SbEntry, no_node, node_on, entries_on, begun_value, child_at, total_below, pages_below, lows_below, first_low, NodeStands, EachStands, StandsBelow}
use Rattle.sb_tree.proofs.Paths.{GoesBy, child_at-path}
use Rattle.sb_tree.proofs.Order.{Ascends, ascends, path_exists, EachStands-path}

pub names_first : (p : ℕ) (ps : List ℕ) → names_page (p ∷ ps) p ≡ true
names_first p ps = or_left (p == p) (names_page ps p) (eq-eqb p p refl)

pub agree_first : (p : ℕ) (ps : List ℕ) (a b : PageMap) → AgreeOn (p ∷ ps) a b → b p ≡ a p
agree_first p ps a b h = h p (names_first p ps)

pub agree_rest : (p : ℕ) (ps : List ℕ) (a b : PageMap) → AgreeOn (p ∷ ps) a b → AgreeOn ps a b
agree_rest p ps a b h = λ q named. h q (or_right (p == q) (names_page ps q) named)

pub agree_left : (xs ys : List ℕ) (a b : PageMap) → AgreeOn (xs ++ ys) a b → AgreeOn xs a b
agree_left xs ys a b h = grind (arith, names_page-append)

pub agree_right : (xs ys : List ℕ) (a b : PageMap) → AgreeOn (xs ++ ys) a b → AgreeOn ys a b
agree_right xs ys a b h = grind (arith, names_page-append)

pub same_node : (a b : PageMap) (page : ℕ) → b page ≡ a page → node_on b page ≡ node_on a page
same_node a b page e = ap (λ o. option_map_or sb_node_in o no_node) e

pub same_entries : (a b : PageMap) (page : ℕ) → b page ≡ a page → entries_on b page ≡ entries_on a page
same_entries a b page e = ap (λ n. n.entries.items) (same_node a b page e)

pub flat_same : (own f g : SbEntry → List ℕ) (a b : PageMap) → ((e : SbEntry) → AgreeOn (own e) a b → g e ≡ f e)
    → (es : List SbEntry) → AgreeOn (flat_map own es) a b → flat_map g es ≡ flat_map f es
flat_same own f g a b each [] h = refl
flat_same own f g a b each (e ∷ es) h =
    let first : g e ≡ f e = each e (agree_left (own e) (flat_map own es) a b h) in
    let rest = flat_same own f g a b each es (agree_right (own e) (flat_map own es) a b h) in
    ap (λ xs. xs ++ flat_map g es) first ∙ ap (λ xs. f e ++ xs) rest

pub same_pages : (level : ℕ) (a b : PageMap) (page : ℕ) → AgreeOn (pages_below level a page) a b → pages_below level b page ≡ pages_below level a page
same_pages zero a b page h = refl
same_pages (suc zero) a b page h = refl
same_pages (suc (suc level)) a b page h =
    let own : SbEntry → List ℕ = λ e. pages_below (suc level) a e.child in
    let others : SbEntry → List ℕ = λ e. pages_below (suc level) b e.child in
    let entries = same_entries a b page (agree_first page (flat_map own (entries_on a page)) a b h) in
    let below = flat_same own own others a b (λ e g. same_pages (suc level) a b e.child g) (entries_on a page) (agree_rest page (flat_map own (entries_on a page)) a b h) in
    ap (λ es. page ∷ flat_map others es) entries ∙ ap (λ ps. page ∷ ps) below

pub same_lows : (level : ℕ) (a b : PageMap) (page : ℕ) → AgreeOn (pages_below level a page) a b → lows_below level b page ≡ lows_below level a page
same_lows zero a b page h = refl
same_lows (suc zero) a b page h = grind arith
same_lows (suc (suc level)) a b page h =
    let own : SbEntry → List ℕ = λ e. pages_below (suc level) a e.child in
    let mine : SbEntry → List ℕ = λ e. lows_below (suc level) a e.child in
    let others : SbEntry → List ℕ = λ e. lows_below (suc level) b e.child in
    let entries = same_entries a b page (agree_first page (flat_map own (entries_on a page)) a b h) in
    let below = flat_same own mine others a b (λ e g. same_lows (suc level) a b e.child g) (entries_on a page) (agree_rest page (flat_map own (entries_on a page)) a b h) in
    ap (λ es. flat_map others es) entries ∙ below

pub same_node_stands : (a b : PageMap) (level page low high least : ℕ) → b page ≡ a page → NodeStands a level page low high least → NodeStands b level page low high least
same_node_stands a b level page low high least e s = grind arith

pub each_same : (own : SbEntry → List ℕ) (s t : ℕ → ℕ → ℕ → Type 0) (a b : PageMap)
    → ((e : SbEntry) (to : ℕ) → AgreeOn (own e) a b → s e.child e.low to → t e.child e.low to)
    → (es : List SbEntry) (high : ℕ) → AgreeOn (flat_map own es) a b → EachStands s es high → EachStands t es high
each_same own s t a b each [] high h stands = tt
each_same own s t a b each (e ∷ es) high h stands = search (rules, agree_left, each_same own s t a b each es high (agree_right (own e) (flat_map own es) a b h) stands.1)

pub same_stands : (level : ℕ) (a b : PageMap) (page low high least : ℕ) → StandsBelow level a page low high least
    → AgreeOn (pages_below level a page) a b → StandsBelow level b page low high least
same_stands zero a b page low high least s h = s
same_stands (suc zero) a b page low high least s h = grind (arith, nat_tests)
same_stands (suc (suc level)) a b page low high least s h =
    let own : SbEntry → List ℕ = λ e. pages_below (suc level) a e.child in
    let here = agree_first page (flat_map own (entries_on a page)) a b h in
    let each = each_same own (λ child from to. StandsBelow (suc level) a child from to 32) (λ child from to. StandsBelow (suc level) b child from to 32) a b
    (λ e to g stands. same_stands (suc level) a b e.child e.low to 32 stands g) (entries_on a page) high (agree_rest page (flat_map own (entries_on a page)) a b h) s.1 in (
      same_node_stands a b (suc (suc level)) page low high least here s.0,
      rw (same_entries a b page here) each,
    )

-- the path of a version through a node that stands
pub node_path : (pages : PageMap) (level page low high least v : ℕ) → NodeStands pages level page low high least → low ≤ v
    → (before : List SbEntry) × (at : SbEntry) × (after : List SbEntry) × GoesBy (entries_on pages page) before at after v
node_path pages level page low high least v s from =
    path_exists (entries_on pages page) v high (ascends (entries_on pages page) s.rules.entries.order) s.rules.some (omega (arith, s.begins, from))

pub agree_at : (own : SbEntry → List ℕ) (es before : List SbEntry) (at : SbEntry) (after : List SbEntry) (v : ℕ) (a b : PageMap)
    → GoesBy es before at after v → AgreeOn (flat_map own es) a b → AgreeOn (own at) a b
agree_at own es before at after v a b p h =
    let whole : flat_map own es ≡ flat_map own before ++ (own at ++ flat_map own after) = search (rules, flat_map-append) in
    let cut = rw whole at h in
    agree_left (own at) (flat_map own after) a b (agree_right (flat_map own before) (own at ++ flat_map own after) a b cut)

-- The total below entries stays, where that of their children does on whose pages the maps agree.
pub path_total : (level : ℕ) (a b : PageMap) (es : List SbEntry) (high v : ℕ)
    → ((child low to : ℕ) → StandsBelow level a child low to 32 → low ≤ v → AgreeOn (pages_below level a child) a b → total_below level b child v ≡ total_below level a child v)
    → EachStands (λ child from to. StandsBelow level a child from to 32) es high → Ascends es → 1 ≤ length es → first_low es high ≤ v
    → AgreeOn (flat_map (λ e. pages_below level a e.child) es) a b → total_below level b (child_at es v) v ≡ total_below level a (child_at es v) v
path_total level a b es high v below each asc some from h =
    let p = path_exists es v high asc some from in
    let stands = EachStands-path (λ child from to. StandsBelow level a child from to 32) es p.0 p.1 p.2 v high p.3 each in
    let agree = agree_at (λ e. pages_below level a e.child) es p.0 p.1 p.2 v a b p.3 h in
    rw (child_at-path es p.0 p.1 p.2 v p.3) (below p.1.child p.1.low (first_low p.2 high) stands p.3.here agree)

pub same_total : (level : ℕ) (a b : PageMap) (page low high least v : ℕ) → StandsBelow level a page low high least → low ≤ v
    → AgreeOn (pages_below level a page) a b → total_below level b page v ≡ total_below level a page v
same_total zero a b page low high least v s from h = refl
same_total (suc zero) a b page low high least v s from h = grind arith
same_total (suc (suc level)) a b page low high least v s from h =
    let own : SbEntry → List ℕ = λ e. pages_below (suc level) a e.child in
    let es : List SbEntry = entries_on a page in
    let here = same_entries a b page (agree_first page (flat_map own es) a b h) in
    let below = path_total (suc level) a b es high v (λ child from to stands begun agree. same_total (suc level) a b child from to 32 v stands begun agree) s.1
    (ascends es s.0.rules.entries.order) s.0.rules.some (omega (arith, s.0.begins, from)) (agree_rest page (flat_map own es) a b h) in
    ap (λ xs. begun_value xs v + total_below (suc level) b (child_at xs v) v) here ∙ ap (λ t. begun_value es v + t) below

-- The pages of what stands are in the map.
pub there_each : (own : SbEntry → List ℕ) (s : ℕ → ℕ → ℕ → Type 0) (a : PageMap)
    → ((e : SbEntry) (to : ℕ) → s e.child e.low to → AreInMap a (own e))
    → (es : List SbEntry) (high : ℕ) → EachStands s es high → AreInMap a (flat_map own es)
there_each own s a each [] high stands = λ p named. cc
there_each own s a each (e ∷ es) high stands = λ p named.
    elim (or_cases (names_page (own e) p) (names_page (flat_map own es) p) (sym (names_page-append (own e) (flat_map own es) p) ∙ named)) [
      | inl first ↦ each e (first_low es high) stands.0 p first
      | inr rest ↦ there_each own s a each es high stands.1 p rest
    ]

there_first : (a : PageMap) (page : ℕ) (bytes ps : List ℕ) → a page ≡ Some bytes → AreInMap a ps → AreInMap a (page ∷ ps)
there_first a page bytes ps here rest = grind arith

pub all_there : (level : ℕ) (a : PageMap) (page low high least : ℕ) → StandsBelow level a page low high least → AreInMap a (pages_below level a page)
all_there zero a page low high least s = λ p named. absurd s
all_there (suc zero) a page low high least s = grind arith
all_there (suc (suc level)) a page low high least s =
    let own : SbEntry → List ℕ = λ e. pages_below (suc level) a e.child in
    there_first a page (sb_node_page (node_on a page)) (flat_map own (entries_on a page)) s.0.spelled
    (there_each own (λ child from to. StandsBelow (suc level) a child from to 32) a (λ e to stands. all_there (suc level) a e.child e.low to 32 stands) (entries_on a page) high s.1)
