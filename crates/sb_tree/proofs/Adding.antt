-- One step of an addition, from what its calls answer.
use Rattle.sb_tree.proofs.Common.{◌≡◌, ◌≢◌, ℕ, zero, suc, ◌-◌, ◌^◌, ◌<◌, ◌≤◌, ◌==◌, inl, inr, false, List, ◌∷◌, ◌++◌, length, get_or, take, drop, Option, Some, None, refl, sym, ap, ◌∙◌, subst, arith, length-append, rules, All, list_any, All-append, list_any_none, flat_map-append, PageMap, NamesNoneTwice, sb_node_page, SpellsNone, SbNode, SbEntry, Place, Second, IsCut, FitsPlace, IsFullBelow, LeadsTo, low_from, next_from, sb_pages, TakesIn, beside, second_entry, raised_first, IsRaised, SecondFits, WasFull, entries_on, child_at, pages_below, first_low, StandsBelow, IsStorable, IsStored, IsSecondOf, once_left, once_right}
use Rattle.sb_tree.proofs.Nodes.{entries_on-spelled, page_spells}
use Rattle.sb_tree.proofs.Paths.{GoesBy-cut, child_at-path, low_from-path, next_from-path}
use Rattle.sb_tree.proofs.Order.{ascends, first_low-later, EachStands-path}
use Rattle.sb_tree.proofs.Freeing.{own_pages, pages-step}
use Rattle.sb_tree.proofs.Fitting.{Fitting, fitting, fitting_leaf, fitting_beside, beside_path, length-beside, length-takes_in, storable, second_within}
use Rattle.sb_tree.proofs.Lists.{list_pages}
use Rattle.sb_tree.proofs.Additions.{ListRaised, leaf_raised, index_raised}
use Rattle.sb_tree.proofs.Landing.{landed}
use Rattle.sb_tree.proofs.Values.{leads_at_cut, some_at_cut}

-- The version that is sought is one of the place.
abbrev pub Seeks : Place → Type 0
Seeks place = (place.low ≤ place.sought) × (place.sought < place.high) × (place.sought < 2 ^ 32)

-- What an addition to a leaf does with the node that it read.
pub record AtLeaf (level : ℕ) (place : Place) (node : SbNode) (new : List SbEntry) (x : ℕ) : Type 0 where
  pub fits : FitsPlace level place node (sb_node_page node)
  pub leaf : level ≡ 1
  pub takes : TakesIn node.entries.items new place.sought x
  pub seeks : Seeks place
  pub small : x < 2 ^ 128

-- The child to which the node of an index leads.
pub record AtChild (level : ℕ) (place inner : Place) (node : SbNode) (k child : ℕ) : Type 0 where
  pub fits : FitsPlace level place node (sb_node_page node)
  pub index : level ≢ 1
  pub seeks : Seeks place
  pub cut : IsCut node.entries.items k place.sought
  pub some : 1 ≤ k
  pub leads : LeadsTo place node child inner

pub at_child : {level : ℕ} {place inner : Place} {node : SbNode} {k child : ℕ} {entries : List SbEntry} → FitsPlace level place node (sb_node_page node) → level ≢ 1 → Seeks place
    → entries ≡ node.entries.items → IsCut entries k place.sought → child ≡ child_at entries place.sought
    → inner.low ≡ low_from place.low entries place.sought → inner.high ≡ next_from entries place.sought place.high → inner.sought ≡ place.sought → AtChild level place inner node k child
at_child {level} {place} {inner} {node} {k} {child} {entries} fits index seeks same cut is_child low high sought = record {
  fits = fits;
  index = index;
  seeks = seeks;
  cut = rw same at cut;
  some = some_at_cut level place node entries k (sb_node_page node) same fits index cut;
  leads = leads_at_cut place inner node entries k child same cut is_child low high sought;
}

-- A leaf.
pub leaf_fits : {level x : ℕ} {place : Place} {node : SbNode} {new : List SbEntry} → AtLeaf level place node new x → Fitting level new place.low place.high
leaf_fits {level} {x} {place} {node} {new} a =
    let old = rw a.leaf at (fitting level place node (sb_node_page node) a.fits) in
    rw a.leaf (fitting_leaf node.entries.items new place.low place.high place.sought x old a.takes a.seeks.0 a.seeks.1 a.seeks.2 a.small)

pub leaf_storable : {level x : ℕ} {place : Place} {node new : SbNode} → AtLeaf level place node new.entries.items x → new.level ≡ node.level → IsStorable new
leaf_storable {level} {x} {place} {node} {new} a same =
    let at : level ≡ new.level = sym (same ∙ a.fits.fits.at_level) in
    let count = length-takes_in node.entries.items new.entries.items place.sought x a.takes in
    storable new place.low place.high (omega (arith, at, a.leaf)) (omega (arith, at, a.leaf)) (rw at at (leaf_fits a))
    (omega (arith, count.0, a.fits.fits.rules.some)) (omega (arith, count.1, a.fits.fits.rules.few))

pub second_fits : {level low high : ℕ} {new : List SbEntry} (second : Option Second) → Fitting level new low high → IsSecondOf new second → SecondFits low high second
second_fits None f s = tt
second_fits {level} {low} {high} {new} (Some second) f s =
    let w = second_within level new low high f s.3 in
    (s.0, omega (arith, s.2, w.0), omega (arith, s.2, w.1), omega (arith, s.2, w.2), s.1)

leaf_none_at : (es new : List SbEntry) (v x : ℕ) → length es ≤ 64 → length new ≡ 65 → TakesIn es new v x → (length es ≡ 64) × (list_any (λ e. e.low == v) es ≡ false)
leaf_none_at es new v x few long (inl t) = grind (arith, length-append)
leaf_none_at es new v x few long (inr t) =
    let P : SbEntry → Type 0 = λ e. (e.low == v) ≡ false in
    let before : All P t.0 = search rules in
    let after : All P t.1 = search rules in
    let all = list_any_none (λ e. e.low == v) (t.0 ++ t.1) (All-append P t.0 t.1 before after) in
    (grind (arith, length-append), ap (λ xs. list_any (λ (e : SbEntry). e.low == v) xs) t.2 ∙ all)

-- What the node of a page tells of the page.
on_page : {level : ℕ} (pages : PageMap) (page : ℕ) {place : Place} {node : SbNode} → FitsPlace level place node (sb_node_page node) → pages page ≡ Some (sb_node_page node)
    → (entries_on pages page ≡ node.entries.items) × (SpellsNone sb_pages pages page → ⊥)
on_page pages page {node = node} f there = (entries_on-spelled pages page node f.fits.typed f.fits.rules there, page_spells pages page node f.fits.typed f.fits.rules there)

pub leaf_full : {level x : ℕ} (pages : PageMap) (page : ℕ) {place : Place} {node : SbNode} {new : List SbEntry} (second : Option Second) → AtLeaf level place node new x
    → pages page ≡ Some (sb_node_page node) → IsSecondOf new second → WasFull second (IsFullBelow level pages page place.sought)
leaf_full pages page None a there s = tt
leaf_full {x = x} pages page {place = place} {node = node} {new = new} (Some second) a there s =
    let full = leaf_none_at node.entries.items new place.sought x a.fits.fits.rules.few s.3 a.takes in
    let on = on_page pages page a.fits there in
    rw a.leaf (record { spelled = on.1; count = ap length on.0 ∙ full.0 }, rw on.0 full.1)

-- The leaf of a tree that stands is raised.
pub leaf_result : {level page least x : ℕ} {m0 m1 m2 : PageMap} {place : Place} {node : SbNode} {new : List SbEntry} {second : Option Second} → AtLeaf level place node new x
    → m1 ≡ m0 → m0 page ≡ Some (sb_node_page node) → StandsBelow level m0 page place.low place.high least → NamesNoneTwice (pages_below level m0 page)
    → IsStored node.level new m1 m2 page second → IsRaised level m0 m2 page place.low place.high least place.sought x second
leaf_result {page = page} {x = x} {m0 = m0} {m2 = m2} {place = place} {new = new} {second = second} a same there s once stored =
    let t = subst (λ (xs : List SbEntry). TakesIn xs new place.sought x) (sym (on_page m0 page a.fits there).0) a.takes in
    let s1 = rw a.leaf at s in
    let once1 = subst NamesNoneTwice (pages-step 0 m0 page) (rw a.leaf at once) in
    let fits = rw a.leaf at (leaf_fits a) in
    rw a.leaf (landed second (omega arith) s1 once1 fits (leaf_raised t s1.begins a.seeks.0 a.seeks.1) (rw (a.fits.fits.at_level, a.leaf, same) at stored))

-- The entry that leads to the child, and the first one after it.
abbrev no_entry : SbEntry
no_entry = record { low = 0; value = 0; child = 0 }

child_places : {level k child : ℕ} {place inner : Place} {node : SbNode} → AtChild level place inner node (suc k) child
    → (inner.low ≡ (get_or node.entries.items k no_entry).low) × (inner.high ≡ first_low (drop (suc k) node.entries.items) place.high) × (child ≡ (get_or node.entries.items k no_entry).child)
child_places {k = k} {place = place} {node = node} a =
    let p = GoesBy-cut node.entries.items k place.sought no_entry a.cut in
    (a.leads.low ∙ low_from-path _ _ _ _ _ place.low p, a.leads.high ∙ next_from-path _ _ _ _ _ place.high p, a.leads.child_is ∙ child_at-path _ _ _ _ _ p)

pub child_seeks : {level k child : ℕ} {place inner : Place} {node : SbNode} → AtChild level place inner node k child → Seeks inner
child_seeks {k = zero} a = absurd (omega (arith, a.some))
child_seeks {k = suc k} {place = place} {node = node} a =
    let w = child_places a in
    let p = GoesBy-cut node.entries.items k place.sought no_entry a.cut in
    let above = first_low-later (drop (suc k) node.entries.items) place.sought place.high p.later a.seeks.1 in
    (omega (arith, w.0, a.leads.sought, p.here), omega (arith, w.1, a.leads.sought, above), omega (arith, a.leads.sought, a.seeks.2))

-- The node of an index with an addition.
pub index_fits : {level k child : ℕ} {place inner : Place} {node : SbNode} {new : List SbEntry} (x : ℕ) (s : Option Second) → AtChild level place inner node k child
    → SecondFits inner.low inner.high s → new ≡ beside node.entries.items k x s → Fitting level new place.low place.high
index_fits {k = zero} x s a fits made = absurd (omega (arith, a.some))
index_fits {level = level} {k = suc k} {place = place} {node = node} x s a fits made =
    let w = child_places a in
    let old = fitting level place node (sb_node_page node) a.fits in
    rw made (fitting_beside level node.entries.items k place.low place.high x s no_entry a.index old a.cut.bound (rw (w.0, w.1) at fits))

count_second : (s : Option Second) → length (second_entry s) ≤ 1
count_second None = omega arith
count_second (Some s) = omega arith

pub index_storable : {level k child : ℕ} {place inner : Place} {node new : SbNode} (x : ℕ) (s : Option Second) → AtChild level place inner node k child
    → SecondFits inner.low inner.high s → new.level ≡ node.level → new.entries.items ≡ beside node.entries.items k x s → IsStorable new
index_storable {k = k} {place = place} {node = node} {new = new} x s a fits levels made =
    let at = sym (levels ∙ a.fits.fits.at_level) in
    let count = ap length made ∙ length-beside node.entries.items k x s in
    let one = count_second s in
    storable new place.low place.high (omega (arith, levels, a.fits.fits.rules.low_level)) (omega (arith, levels, a.fits.fits.rules.high_level))
    (rw at at (index_fits x s a fits made)) (omega (arith, count, a.fits.fits.rules.some)) (omega (arith, count, one, a.fits.fits.rules.few))

full_second : (s : Option Second) (full : Type 0) → WasFull s full → length (second_entry s) ≡ 1 → full
full_second None full w h = absurd (omega (arith, h))
full_second (Some s) full w h = w

pub index_full : {level k child : ℕ} (pages : PageMap) (page : ℕ) {place inner : Place} {node : SbNode} {new : List SbEntry} (x : ℕ) (s second : Option Second) → AtChild level place inner node k child
    → pages page ≡ Some (sb_node_page node) → new ≡ beside node.entries.items k x s → IsSecondOf new second
    → WasFull s (IsFullBelow (level - 1) pages child inner.sought) → WasFull second (IsFullBelow level pages page place.sought)
index_full pages page x s None a there made is_second full = tt
index_full {level = zero} pages page x s (Some second) a there made is_second full = absurd (omega (arith, a.fits.fits.at_level, a.fits.fits.rules.low_level))
index_full {level = suc zero} pages page x s (Some second) a there made is_second full = absurd (a.index refl)
index_full {level = suc (suc l)} {k = k} pages page {place = place} {node = node} x s (Some second) a there made is_second full =
    let count = ap length made ∙ length-beside node.entries.items k x s in
    let one = count_second s in
    let all : length node.entries.items ≡ 64 = omega (arith, count, one, a.fits.fits.rules.few, is_second.3) in
    let below = full_second s _ full (omega (arith, count, one, a.fits.fits.rules.few, is_second.3)) in
    let on = on_page pages page a.fits there in
    let less : suc (suc l) - 1 ≡ suc l = omega arith in
    (record { spelled = on.1; count = ap length on.0 ∙ all }, rw on.0 (rw (less, a.leads.child_is, a.leads.sought) at below))

-- An index node of a tree that stands is raised.
pub index_result : {level k child page least : ℕ} {m0 mg m1 m2 : PageMap} {place inner : Place} {node : SbNode} {new : List SbEntry} (x : ℕ) (s second : Option Second) → AtChild level place inner node k child
    → mg ≡ m0 → m0 page ≡ Some (sb_node_page node) → SecondFits inner.low inner.high s → new ≡ beside node.entries.items k x s
    → (StandsBelow (level - 1) mg child inner.low inner.high 32 → NamesNoneTwice (pages_below (level - 1) mg child) → IsRaised (level - 1) mg m1 child inner.low inner.high 32 inner.sought x s)
    → StandsBelow level m0 page place.low place.high least → NamesNoneTwice (pages_below level m0 page)
    → IsStored node.level new m1 m2 page second → IsRaised level m0 m2 page place.low place.high least place.sought x second
index_result {level = zero} x s second a same there fits made call stands once stored = absurd stands
index_result {level = suc zero} x s second a same there fits made call stands once stored = absurd (a.index refl)
index_result {level = suc (suc l)} {k = zero} x s second a same there fits made call stands once stored = absurd (omega (arith, a.some))
index_result {level = suc (suc l)} {k = suc j} {child = child} {page = page} {m0 = m0} {m1 = m1} {place = place} {inner = inner} {node = node} {new = new} x s second a same there fits made call stands once stored =
    let es : List SbEntry = node.entries.items in
    let v : ℕ = place.sought in
    let high : ℕ = place.high in
    let before : List SbEntry = take j es in
    let at : SbEntry = get_or es j no_entry in
    let after : List SbEntry = drop (suc j) es in
    let w = child_places a in
    let p = GoesBy-cut es j v no_entry a.cut in
    let on = (on_page m0 page a.fits there).0 in
    let less : suc (suc l) - 1 ≡ suc l = omega arith in
    let each0 = rw on at stands.1 in
    let each1 = rw p.whole at each0 in
    let once1 = rw (on ∙ p.whole) at once.1 in
    let once2 = rw (flat_map-append (own_pages (suc l) m0) before (at ∷ after)) at once1 in
    let own = once_left (pages_below (suc l) m0 at.child) (list_pages (suc l) m0 after) (once_right (list_pages (suc l) m0 before) _ once2) in
    let raised = (rw (less, same, w.2, w.0, w.1, a.leads.sought) at call) (EachStands-path (λ child from to. StandsBelow (suc l) m0 child from to 32) es before at after v high p each0) own in
    let asc = rw (on ∙ p.whole) at (ascends (entries_on m0 page) stands.0.rules.entries.order) in
    let begins = ap (λ xs. first_low xs high) (sym p.whole ∙ sym on) ∙ stands.0.begins in
    let above = first_low-later after v high p.later a.seeks.1 in
    let listed = index_raised l m0 m1 before at after place.low high v x s asc p.here above (rw (w.0, w.1) at fits) begins each1 once1 raised in
    let listed1 = subst (λ (xs : List SbEntry). ListRaised (suc l) m0 m1 xs (before ++ ((at ∷ second_entry s) ++ raised_first after x)) place.low high v x) (sym p.whole ∙ sym on) listed in
    let listed2 = subst (λ (xs : List SbEntry). ListRaised (suc l) m0 m1 (entries_on m0 page) xs place.low high v x) (sym (made ∙ beside_path es j x s no_entry a.cut.bound)) listed1 in
    landed second (omega (arith, a.fits.fits.at_level, a.fits.fits.rules.high_level)) stands.0 once (index_fits x s a fits made) listed2 (rw a.fits.fits.at_level at stored)
