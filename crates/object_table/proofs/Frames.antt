-- A table depends on its own pages alone.
use Rattle.std.proofs.Common.{◌≡◌, ℕ, zero, suc, ◌<◌, ◌≤◌, ◌==◌, true, inl, inr, List, [], ◌∷◌, ◌++◌, length, Option, Some, IsSome, refl, sym, ap, ◌∙◌, subst}
use Rattle.std.specs.List.{All, flat_map}
use Rattle.std.specs.Option.{option_map_or}
use Rattle.std.proofs.lemmas.Bool.{or_left, or_right, or_cases, eq-eqb, eqb-true}
use Rattle.bw_types.specs.declared.dated.Dated.{Dated}
use Rattle.bw_types.specs.declared.tree.Tree.{Tree}
use Rattle.ports.specs.Pages.{PageMap}
use Rattle.ports.specs.Frame.{names_page, AgreeOn, AreInMap}
use Rattle.ports.specs.FrameLaws.{names_page-append}
use Rattle.page_layout.specs.Footprint.{NamesNoneTwice}
use Rattle.page_layout.specs.declared.life_node.LifeNode.{LifeNode}
use Rattle.page_layout.specs.declared.life_node.LifeEntry.{LifeEntry}
use Rattle.object_table.specs.declared.form.Form.{Form}
use Rattle.object_table.specs.Keys.{key, low_key, key_end}
use Rattle.object_table.specs.Nodes.{FitsLevel, node_in, no_node, node_on, objects_in, entries_in, entries_on}
use Rattle.object_table.specs.Lives.{lives_below, pages_below, table_pages}
use Rattle.object_table.specs.Stands.{NodeStands, LeafStands, IndexStands, first_low, KeepsItsLow, EachStands, fewest, StandsBelow, RootStands, TableStands}
use Rattle.object_table.proofs.Within.{ChildStands}

names_first : (p : ℕ) (ps : List ℕ) → names_page (p ∷ ps) p ≡ true
names_first p ps = or_left (p == p) (names_page ps p) (eq-eqb p p refl)

pub agree_first : (p : ℕ) (ps : List ℕ) (a b : PageMap) → AgreeOn (p ∷ ps) a b → b p ≡ a p
agree_first p ps a b h = h p (names_first p ps)

pub agree_rest : (p : ℕ) (ps : List ℕ) (a b : PageMap) → AgreeOn (p ∷ ps) a b → AgreeOn ps a b
agree_rest p ps a b h = λ q named. h q (or_right (p == q) (names_page ps q) named)

pub agree_left : (xs ys : List ℕ) (a b : PageMap) → AgreeOn (xs ++ ys) a b → AgreeOn xs a b
agree_left xs ys a b h = λ q named. h q (names_page-append xs ys q ∙ or_left (names_page xs q) (names_page ys q) named)

pub agree_right : (xs ys : List ℕ) (a b : PageMap) → AgreeOn (xs ++ ys) a b → AgreeOn ys a b
agree_right xs ys a b h = λ q named. h q (names_page-append xs ys q ∙ or_right (names_page xs q) (names_page ys q) named)

pub same_node : (form : Form) (a b : PageMap) (page : ℕ) → b page ≡ a page → node_on form b page ≡ node_on form a page
same_node form a b page e = ap (λ (o : Option (List ℕ)). option_map_or (node_in form) o no_node) e

pub same_entries : (form : Form) (a b : PageMap) (page : ℕ) → b page ≡ a page → entries_on form b page ≡ entries_on form a page
same_entries form a b page e = ap entries_in (same_node form a b page e)

pub flat_same : {X : Type 0} (own : LifeEntry → List ℕ) (f g : LifeEntry → List X) (a b : PageMap) → ((e : LifeEntry) → AgreeOn (own e) a b → g e ≡ f e)
    → (es : List LifeEntry) → AgreeOn (flat_map own es) a b → flat_map g es ≡ flat_map f es
flat_same own f g a b each [] h = refl
flat_same {X} own f g a b each (e ∷ es) h =
    let first : g e ≡ f e = each e (agree_left (own e) (flat_map own es) a b h) in
    let rest = flat_same own f g a b each es (agree_right (own e) (flat_map own es) a b h) in
    ap (λ (xs : List X). xs ++ flat_map g es) first ∙ ap (λ (xs : List X). f e ++ xs) rest

pub same_pages : (form : Form) (level : ℕ) (a b : PageMap) (page : ℕ) → AgreeOn (pages_below form level a page) a b → pages_below form level b page ≡ pages_below form level a page
same_pages form zero a b page h = refl
same_pages form (suc zero) a b page h = refl
same_pages form (suc (suc level)) a b page h =
    let own : LifeEntry → List ℕ = λ e. pages_below form (suc level) a e.child in
    let others : LifeEntry → List ℕ = λ e. pages_below form (suc level) b e.child in
    let entries = same_entries form a b page (agree_first page (flat_map own (entries_on form a page)) a b h) in
    let below = flat_same own own others a b (λ e g. same_pages form (suc level) a b e.child g) (entries_on form a page) (agree_rest page (flat_map own (entries_on form a page)) a b h) in
    ap (λ (es : List LifeEntry). page ∷ flat_map others es) entries ∙ ap (λ (ps : List ℕ). page ∷ ps) below

pub same_lives : (form : Form) (level : ℕ) (a b : PageMap) (page : ℕ) → AgreeOn (pages_below form level a page) a b → lives_below form level b page ≡ lives_below form level a page
same_lives form zero a b page h = refl
same_lives form (suc zero) a b page h = ap objects_in (same_node form a b page (agree_first page [] a b h))
same_lives form (suc (suc level)) a b page h =
    let own : LifeEntry → List ℕ = λ e. pages_below form (suc level) a e.child in
    let mine : LifeEntry → List Dated = λ e. lives_below form (suc level) a e.child in
    let others : LifeEntry → List Dated = λ e. lives_below form (suc level) b e.child in
    let entries = same_entries form a b page (agree_first page (flat_map own (entries_on form a page)) a b h) in
    let below = flat_same own mine others a b (λ e g. same_lives form (suc level) a b e.child g) (entries_on form a page) (agree_rest page (flat_map own (entries_on form a page)) a b h) in
    ap (λ (es : List LifeEntry). flat_map others es) entries ∙ below

same_node_stands : (form : Form) (a b : PageMap) (level page : ℕ) → b page ≡ a page → NodeStands form a level page → NodeStands form b level page
same_node_stands form a b level page e s = record {
  bytes = s.bytes;
  there = e ∙ s.there;
  fits = subst (λ (n : LifeNode). FitsLevel form level n s.bytes) (sym (same_node form a b page e)) s.fits;
}

same_leaf : (form : Form) (a b : PageMap) (page low high least : ℕ) → b page ≡ a page → LeafStands form a page low high least → LeafStands form b page low high least
same_leaf form a b page low high least e s =
    let objects = ap objects_in (sym (same_node form a b page e)) in
    record {
      node = same_node_stands form a b 1 page e s.node;
      from = subst (λ (ds : List Dated). All (λ (d : Dated). low ≤ key d) ds) objects s.from;
      ends = subst (λ (ds : List Dated). All (λ (d : Dated). key d < high) ds) objects s.ends;
      filled = subst (λ (ds : List Dated). least ≤ length ds) objects s.filled;
    }

pub same_index : (form : Form) (a b : PageMap) (level page low high least : ℕ) → b page ≡ a page → IndexStands form a level page low high least → IndexStands form b level page low high least
same_index form a b level page low high least e s =
    let entries = sym (same_entries form a b page e) in
    record {
      node = same_node_stands form a b level page e s.node;
      begins = subst (λ (es : List LifeEntry). first_low es high ≡ low) entries s.begins;
      ends = subst (λ (es : List LifeEntry). All (λ (e : LifeEntry). low_key e < high) es) entries s.ends;
      filled = subst (λ (es : List LifeEntry). least ≤ length es) entries s.filled;
    }

pub each_same : (own : LifeEntry → List ℕ) (s t : LifeEntry → ℕ → Type 0) (a b : PageMap)
    → ((e : LifeEntry) (to : ℕ) → AgreeOn (own e) a b → s e to → t e to)
    → (es : List LifeEntry) (high : ℕ) → AgreeOn (flat_map own es) a b → EachStands s es high → EachStands t es high
each_same own s t a b each [] high h stands = tt
each_same own s t a b each (e ∷ es) high h stands = (
  each e (first_low es high) (agree_left (own e) (flat_map own es) a b h) stands.0,
  each_same own s t a b each es high (agree_right (own e) (flat_map own es) a b h) stands.1,
)

pub same_stands : (form : Form) (level : ℕ) (a b : PageMap) (page low high least : ℕ) → StandsBelow form level a page low high least
    → AgreeOn (pages_below form level a page) a b → StandsBelow form level b page low high least
same_stands form zero a b page low high least s h = s
same_stands form (suc zero) a b page low high least s h = same_leaf form a b page low high least (agree_first page [] a b h) s
same_stands form (suc (suc level)) a b page low high least s h =
    let own : LifeEntry → List ℕ = λ e. pages_below form (suc level) a e.child in
    let here = agree_first page (flat_map own (entries_on form a page)) a b h in
    let each = each_same own (ChildStands form (suc level) a) (ChildStands form (suc level) b) a b
    (λ e to g stands. (
      same_stands form (suc level) a b e.child (low_key e) to (fewest form (suc level)) stands.0 g,
      subst (λ (ds : List Dated). KeepsItsLow e ds) (sym (same_lives form (suc level) a b e.child g)) stands.1,
    )) (entries_on form a page) high (agree_rest page (flat_map own (entries_on form a page)) a b h) s.1 in (
      same_index form a b (suc (suc level)) page low high least here s.0,
      subst (λ (es : List LifeEntry). EachStands (ChildStands form (suc level) b) es high) (sym (same_entries form a b page here)) each,
    )

root_same : (form : Form) (levels : ℕ) (a b : PageMap) (root : ℕ) → RootStands form levels a root → AgreeOn (pages_below form levels a root) a b → RootStands form levels b root
root_same form zero a b root s h = s
root_same form (suc level) a b root s h = same_stands form (suc level) a b root 0 key_end 1 s h

pub by_its_pages : (form : Form) (pages others : PageMap) (table : Tree) (lives : List Dated) → TableStands form pages table lives
    → AgreeOn (table_pages form pages table) pages others → TableStands form others table lives × (table_pages form others table ≡ table_pages form pages table)
by_its_pages form pages others table lives s h =
    let same = same_pages form table.levels pages others table.root h in (
      record {
        has = same_lives form table.levels pages others table.root h ∙ s.has;
        count = s.count;
        changes = s.changes;
        last = s.last;
        nodes = root_same form table.levels pages others table.root s.nodes h;
        once = subst NamesNoneTwice (sym same) s.once;
      },
      same,
    )

-- The pages of what stands are in the map.
pub there_each : (own : LifeEntry → List ℕ) (s : LifeEntry → ℕ → Type 0) (a : PageMap)
    → ((e : LifeEntry) (to : ℕ) → s e to → AreInMap a (own e))
    → (es : List LifeEntry) (high : ℕ) → EachStands s es high → AreInMap a (flat_map own es)
there_each own s a each [] high stands = λ p named. cc
there_each own s a each (e ∷ es) high stands = λ p named.
    elim (or_cases (names_page (own e) p) (names_page (flat_map own es) p) (sym (names_page-append (own e) (flat_map own es) p) ∙ named)) [
      | inl first ↦ each e (first_low es high) stands.0 p first
      | inr rest ↦ there_each own s a each es high stands.1 p rest
    ]

there_first : (a : PageMap) (page : ℕ) (bytes ps : List ℕ) → a page ≡ Some bytes → AreInMap a ps → AreInMap a (page ∷ ps)
there_first a page bytes ps here rest = λ p named.
    elim (or_cases (page == p) (names_page ps p) named) [
      | inl first ↦ subst (λ (q : ℕ). IsSome (a q)) (eqb-true page p first) (subst IsSome (sym here) refl)
      | inr later ↦ rest p later
    ]

pub all_there : (form : Form) (level : ℕ) (a : PageMap) (page low high least : ℕ) → StandsBelow form level a page low high least → AreInMap a (pages_below form level a page)
all_there form zero a page low high least s = λ p named. absurd s
all_there form (suc zero) a page low high least s = there_first a page s.node.bytes [] s.node.there (λ p named. cc)
all_there form (suc (suc level)) a page low high least s =
    let own : LifeEntry → List ℕ = λ e. pages_below form (suc level) a e.child in
    there_first a page s.0.node.bytes (flat_map own (entries_on form a page)) s.0.node.there
    (there_each own (ChildStands form (suc level) a) a (λ e to stands. all_there form (suc level) a e.child (low_key e) to (fewest form (suc level)) stands.0) (entries_on form a page) high s.1)

pub root_there : (form : Form) (levels : ℕ) (a : PageMap) (root : ℕ) → RootStands form levels a root → AreInMap a (pages_below form levels a root)
root_there form zero a root s = λ p named. cc
root_there form (suc level) a root s = all_there form (suc level) a root 0 key_end 1 s
