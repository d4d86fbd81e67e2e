-- A node's entries as a list, with what stands below them: the same whether or not the node is stored.
use Rattle.sb_tree.proofs.Common.{◌≡◌, ℕ, zero, suc, ◌+◌, ◌≤◌, List, [], ◌∷◌, ◌++◌, length, map, refl, ap, ◌∙◌, rules, arith, flat_map, PageMap, AreInMap, AgreeOn, SbEntry, entries_on, begun_value, child_at, total_below, pages_below, lows_below, first_low, NodeStands, EachStands, StandsBelow}
use Rattle.sb_tree.proofs.Order.{Ascends, EachStands-split, EachStands-join}
use Rattle.sb_tree.proofs.Frames.{path_total, flat_same, each_same, there_each, same_pages, same_lows, same_total, same_stands, all_there}
use Rattle.sb_tree.proofs.Freeing.{own_pages, pages-step, no_pages}

-- each entry's child stands; a leaf's entries have none
abbrev pub EachBelow : ℕ → PageMap → List SbEntry → ℕ → Type 0
EachBelow zero pages es high = Unit {0}
EachBelow (suc level) pages es high = EachStands (λ child from to. StandsBelow (suc level) pages child from to 32) es high

abbrev pub list_pages : ℕ → PageMap → List SbEntry → List ℕ
list_pages level pages es = flat_map (own_pages level pages) es

abbrev pub list_total : ℕ → PageMap → List SbEntry → ℕ → ℕ
list_total level pages es v = begun_value es v + total_below level pages (child_at es v) v

abbrev pub own_lows : ℕ → PageMap → SbEntry → List ℕ
own_lows zero pages e = e.low ∷ []
own_lows (suc level) pages e = lows_below (suc level) pages e.child

abbrev pub list_lows : ℕ → PageMap → List SbEntry → List ℕ
list_lows level pages es = flat_map (own_lows level pages) es

leaf_lows : (es : List SbEntry) (pages : PageMap) → map (λ e. e.low) es ≡ flat_map (own_lows 0 pages) es
leaf_lows [] pages = refl
leaf_lows (e ∷ es) pages = ap (λ ls. e.low ∷ ls) (leaf_lows es pages)

pub lows-step : (level : ℕ) (pages : PageMap) (page : ℕ) → lows_below (suc level) pages page ≡ list_lows level pages (entries_on pages page)
lows-step zero pages page = leaf_lows (entries_on pages page) pages
lows-step (suc level) pages page = refl

pub split_stands : (level : ℕ) (pages : PageMap) (page low high least : ℕ) → StandsBelow (suc level) pages page low high least
    → NodeStands pages (suc level) page low high least × EachBelow level pages (entries_on pages page) high
split_stands zero pages page low high least s = (s, tt)
split_stands (suc level) pages page low high least s = (s.0, s.1)

pub join_stands : (level : ℕ) (pages : PageMap) (page low high least : ℕ) → NodeStands pages (suc level) page low high least
    → EachBelow level pages (entries_on pages page) high → StandsBelow (suc level) pages page low high least
join_stands zero pages page low high least s each = s
join_stands (suc level) pages page low high least s each = (s, each)

-- The frame of a list: what agrees on the pages below keeps everything.
pub list_pages-frame : (level : ℕ) (a b : PageMap) (es : List SbEntry) → AgreeOn (list_pages level a es) a b → list_pages level b es ≡ list_pages level a es
list_pages-frame level a b es h = search (rules, flat_same, same_pages)

own_lows-frame : (level : ℕ) (a b : PageMap) (e : SbEntry) → AgreeOn (own_pages level a e) a b → own_lows level b e ≡ own_lows level a e
own_lows-frame zero a b e h = refl
own_lows-frame (suc level) a b e h = same_lows (suc level) a b e.child h

pub list_lows-frame : (level : ℕ) (a b : PageMap) (es : List SbEntry) → AgreeOn (list_pages level a es) a b → list_lows level b es ≡ list_lows level a es
list_lows-frame level a b es h = search (rules, flat_same, own_lows-frame)

pub EachBelow-frame : (level : ℕ) (a b : PageMap) (es : List SbEntry) (high : ℕ) → AgreeOn (list_pages level a es) a b → EachBelow level a es high → EachBelow level b es high
EachBelow-frame zero a b es high h each = tt
EachBelow-frame (suc level) a b es high h each = each_same (own_pages (suc level) a) _ _ a b (λ e to g s. same_stands (suc level) a b e.child e.low to 32 s g) es high h each

pub EachBelow-split : (level : ℕ) (pages : PageMap) (xs ys : List SbEntry) (high : ℕ) → EachBelow level pages (xs ++ ys) high
    → EachBelow level pages xs (first_low ys high) × EachBelow level pages ys high
EachBelow-split zero pages xs ys high each = (tt, tt)
EachBelow-split (suc level) pages xs ys high each = search (rules, EachStands-split)

pub EachBelow-join : (level : ℕ) (pages : PageMap) (xs ys : List SbEntry) (high : ℕ) → EachBelow level pages xs (first_low ys high) → EachBelow level pages ys high
    → EachBelow level pages (xs ++ ys) high
EachBelow-join zero pages xs ys high a b = tt
EachBelow-join (suc level) pages xs ys high a b = grind (arith, EachStands-join)

pub EachBelow-there : (level : ℕ) (pages : PageMap) (es : List SbEntry) (high : ℕ) → EachBelow level pages es high → AreInMap pages (list_pages level pages es)
EachBelow-there zero pages es high each = grind (arith, no_pages)
EachBelow-there (suc level) pages es high each = there_each (own_pages (suc level) pages) _ pages (λ e to s. all_there (suc level) pages e.child e.low to 32 s) es high each

pub list_total-frame : (level : ℕ) (a b : PageMap) (es : List SbEntry) (high v : ℕ) → EachBelow level a es high → Ascends es → 1 ≤ length es → first_low es high ≤ v
    → AgreeOn (list_pages level a es) a b → list_total level b es v ≡ list_total level a es v
list_total-frame zero a b es high v each asc some from h = refl
list_total-frame (suc level) a b es high v each asc some from h =
    ap (λ t. begun_value es v + t) (path_total (suc level) a b es high v (λ child low to stands begun agree. same_total (suc level) a b child low to 32 v stands begun agree) each asc some from h)

-- what the entries of a stored node say of the page
pub total_of_entries : (level : ℕ) (pages : PageMap) (page v : ℕ) (es : List SbEntry) → entries_on pages page ≡ es → total_below (suc level) pages page v ≡ list_total level pages es v
total_of_entries level pages page v es same = ap (λ xs. list_total level pages xs v) same

pub pages_of_entries : (level : ℕ) (pages : PageMap) (page : ℕ) (es : List SbEntry) → entries_on pages page ≡ es → pages_below (suc level) pages page ≡ page ∷ list_pages level pages es
pages_of_entries level pages page es same = grind (arith, pages-step)

pub lows_of_entries : (level : ℕ) (pages : PageMap) (page : ℕ) (es : List SbEntry) → entries_on pages page ≡ es → lows_below (suc level) pages page ≡ list_lows level pages es
lows_of_entries level pages page es same = lows-step level pages page ∙ ap (list_lows level pages) same

-- The pages and the lows of a stored node, where the map below it is another.
pub stored_below : (level : ℕ) (a b : PageMap) (page : ℕ) (es : List SbEntry) → entries_on b page ≡ es → AgreeOn (list_pages level a es) a b
    → (pages_below (suc level) b page ≡ page ∷ list_pages level a es) × (lows_below (suc level) b page ≡ list_lows level a es)
stored_below level a b page es on agree = (
  pages_of_entries level b page es on ∙ ap (λ ps. page ∷ ps) (list_pages-frame level a b es agree),
  lows_of_entries level b page es on ∙ list_lows-frame level a b es agree,
)
