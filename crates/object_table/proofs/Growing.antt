-- The table after an object was entered.
use Rattle.std.proofs.Common.{◌≡◌, ℕ, zero, suc, ◌+◌, ◌^◌, ◌<◌, ◌≤◌, ◌==◌, false, IsTrue, inl, inr, List, [], ◌∷◌, ◌++◌, length, Option, Some, None, refl, sym, ap, ◌∙◌, subst, arith, lit<}
use Rattle.std.specs.List.{All}
use Rattle.std.specs.Option.{option_map_or}
use Rattle.std.proofs.lemmas.Bool.{or_cases, or_parts, eqb-true}
use Rattle.std.proofs.lemmas.List.{append-nil}
use Rattle.std.proofs.lemmas.List.Elements.{All-cons, All-nil}
use Rattle.bw_types.specs.declared.dated.Dated.{Dated}
use Rattle.bw_types.specs.declared.tree.Tree.{Tree}
use Rattle.ports.specs.Pages.{PageMap}
use Rattle.ports.specs.Frame.{names_page, AgreeOn, Replaces}
use Rattle.ports.specs.FrameLaws.{Replaces-same}
use Rattle.page_layout.specs.Dated.{by_life_fits, IsDatedTyped}
use Rattle.page_layout.specs.Footprint.{NamesNoneTwice}
use Rattle.page_layout.specs.LifeNode.{IsLifeEntryTyped, life_node_page}
use Rattle.page_layout.specs.declared.life_node.LifeEntry.{LifeEntry}
use Rattle.object_table.specs.declared.form.Form.TheVariants.{ByLives}
use Rattle.object_table.specs.declared.place.Place.{Place}
use Rattle.object_table.specs.Keys.{key, low_key, key_end}
use Rattle.object_table.specs.Damage.{IsFullBelow, root_place}
use Rattle.object_table.specs.Edits.{IsPutIn, with_object}
use Rattle.object_table.specs.Entered.{IsEntered, SecondFits, FitsWithin, WasFull, root_entries}
use Rattle.object_table.specs.Lives.{lives_below, pages_below}
use Rattle.object_table.specs.Nodes.{node_in, no_node, objects_in, entries_in}
use Rattle.object_table.specs.Stands.{fewest, EachStands, StandsBelow, RootStands, TableStands}
use Rattle.object_table.specs.Stored.{leaf_of, index_of}
use Rattle.object_table.proofs.Footprints.{in_list_some, page_apart}
use Rattle.object_table.proofs.Nodes.{node_on-fits}
use Rattle.object_table.proofs.PuttingIn.{with_object_is, length_put}
use Rattle.object_table.proofs.Rules.{ProperEntries, ProperObjects, fits_leaf, fits_index}
use Rattle.object_table.proofs.Standing.{Child, list_pages, list_pages-frame, list_lives-frame, each-frame, each-there, join_stands, split_stands, pages_on, lives_on}

-- The nodes of a table after an object was entered.
pub record Grown (levels more : ℕ) (m0 m2 : PageMap) (old new : ℕ) (d : Dated) : Type 0 where
  pub nodes : RootStands ByLives more m2 new
  pub once : NamesNoneTwice (pages_below ByLives more m2 new)
  pub change : Replaces (pages_below ByLives levels m0 old) (pages_below ByLives more m2 new) m0 m2
  pub lives : IsPutIn (lives_below ByLives levels m0 old) (lives_below ByLives more m2 new) d

-- The table stands for the objects with this one.
pub grown_stands : (m0 m2 : PageMap) (old new : Tree) (lives : List Dated) (d : Dated) → TableStands ByLives m0 old lives → new.count ≡ old.count + 1 → new.changes ≡ old.changes → new.last ≡ old.last
    → Grown old.levels new.levels m0 m2 old.root new.root d → TableStands ByLives m2 new (with_object d lives)
grown_stands m0 m2 old new lives d s count changes last g =
    let put = subst (λ (ds : List Dated). IsPutIn ds (lives_below ByLives new.levels m2 new.root) d) s.has g.lives in
    let is = with_object_is lives (lives_below ByLives new.levels m2 new.root) d put in
    let more : length (with_object d lives) ≡ length lives + 1 = ap (λ (ds : List Dated). length ds) (sym is) ∙ length_put lives (lives_below ByLives new.levels m2 new.root) d put in
    record {
      has = is;
      count = omega (arith, count, s.count, more);
      changes = changes ∙ s.changes;
      last = last ∙ s.last;
      nodes = g.nodes;
      once = g.once;
    }

-- The root was not split.
grown_whole : (levels : ℕ) (m0 m2 : PageMap) (root : ℕ) (d : Dated) → 1 ≤ levels → IsEntered levels m0 m2 root 0 key_end 1 d None → Grown levels levels m0 m2 root root d
grown_whole zero m0 m2 root d some r = absurd (omega (arith, some))
grown_whole (suc level) m0 m2 root d some r = record { nodes = r.stands; once = r.once; change = r.change; lives = r.lives }

fresh_change : (P0 P1 : List ℕ) (m0 m1 m2 : PageMap) (new : ℕ) → Replaces P0 P1 m0 m1 → m1 new ≡ None → names_page P1 new ≡ false
    → ((p : ℕ) → (new == p) ≡ false → m2 p ≡ m1 p) → Replaces P0 (new ∷ P1) m0 m2
fresh_change P0 P1 m0 m1 m2 new r missing apart others = record {
  others = λ p no_old no_new.
      let n = or_parts (new == p) (names_page P1 p) no_new in
      others p n.0 ∙ r.others p no_old n.1;
  fresh = λ p no_old named. elim (or_cases (new == p) (names_page P1 p) named) [
    | inl here ↦
        let same = eqb-true new p here in
        sym (r.others p no_old (subst (λ (q : ℕ). names_page P1 q ≡ false) same apart)) ∙ subst (λ (q : ℕ). m1 q ≡ None) same missing
    | inr below ↦ r.fresh p no_old below
  ];
  gone = λ p old no_new.
      let n = or_parts (new == p) (names_page P1 p) no_new in
      others p n.0 ∙ r.gone p old n.1;
}

abbrev first_entry : ℕ → LifeEntry
first_entry root = record { low_id = 0; low_life = 0; child = root }

root_proper : (root : ℕ) (s : LifeEntry) → 3 ≤ root → root < 2 ^ 64 → FitsWithin 0 key_end s → ProperEntries (root_entries root s)
root_proper root s three fits second =
    let a : LifeEntry = first_entry root in
    let above : low_key a < low_key s = omega (arith, second.from) in
    record {
      asc = (All-cons (λ (e : LifeEntry). low_key a < low_key e) s [] above (All-nil (λ (e : LifeEntry). low_key a < low_key e)), (All-nil (λ (e : LifeEntry). low_key s < low_key e), tt));
      each = All-cons (λ (e : LifeEntry). 3 ≤ e.child) a (s ∷ []) three (All-cons (λ (e : LifeEntry). 3 ≤ e.child) s [] second.child (All-nil (λ (e : LifeEntry). 3 ≤ e.child)));
      types = All-cons IsLifeEntryTyped a (s ∷ []) (lit< tt, lit< tt, fits) (All-cons IsLifeEntryTyped s [] second.typed (All-nil IsLifeEntryTyped));
    }

-- The root was split, and a new one stands above.
grown_above : (l : ℕ) (m0 m1 m2 : PageMap) (root new : ℕ) (d : Dated) (s : LifeEntry) → suc (suc l) ≤ 16 → 3 ≤ root → root < 2 ^ 64 → FitsWithin 0 key_end s
    → IsEntered (suc l) m0 m1 root 0 key_end 1 d (Some s) → m1 new ≡ None → m2 new ≡ Some (life_node_page (index_of (suc (suc l)) (root_entries root s)))
    → ((p : ℕ) → (new == p) ≡ false → m2 p ≡ m1 p) → Grown (suc l) (suc (suc l)) m0 m2 root new d
grown_above l m0 m1 m2 root new d s bound three fits second r missing there others =
    let L : ℕ = suc l in
    let es : List LifeEntry = root_entries root s in
    let proper = root_proper root s three fits second in
    let spelled = fits_index (suc L) es (omega arith) bound proper (omega arith) (omega arith) in
    let zero_low : 0 ≡ low_key (first_entry root) = omega arith in
    let stands_first = subst (λ (n : ℕ). StandsBelow ByLives L m1 root n (low_key s) (fewest ByLives L)) zero_low r.stands.0 in
    let each1 : EachStands (Child L m1) es key_end = ((stands_first, inl refl), ((r.stands.1, r.stands.2), tt)) in
    let P : List ℕ = pages_below ByLives L m1 root in
    let Q : List ℕ = pages_below ByLives L m1 s.child in
    let same_pages : list_pages L m1 es ≡ P ++ Q = ap (λ (ps : List ℕ). P ++ ps) (append-nil Q) in
    let there1 = each-there L m1 es key_end each1 in
    let none = in_list_some m1 (list_pages L m1 es) new there1 missing in
    let agree : AgreeOn (list_pages L m1 es) m1 m2 = λ p named. others p (page_apart new (list_pages L m1 es) none p named) in
    let each2 = each-frame L m1 m2 es key_end agree each1 in
    let on = node_on-fits ByLives m2 new (suc L) (index_of (suc L) es) (life_node_page (index_of (suc L) es)) there spelled in
    let pages : pages_below ByLives (suc L) m2 new ≡ new ∷ (P ++ Q) = pages_on L m2 new (index_of (suc L) es) on ∙ ap (λ (ps : List ℕ). new ∷ ps) (list_pages-frame L m1 m2 es agree ∙ same_pages) in
    let A : List Dated = lives_below ByLives L m1 root in
    let B : List Dated = lives_below ByLives L m1 s.child in
    let lives : lives_below ByLives (suc L) m2 new ≡ A ++ B = lives_on L m2 new (index_of (suc L) es) on ∙ list_lives-frame L m1 m2 es agree ∙ ap (λ (ds : List Dated). A ++ ds) (append-nil B) in
    let none1 = subst (λ (ps : List ℕ). names_page ps new ≡ false) same_pages none in
    let below : All (λ e. low_key e < key_end) es =
    All-cons (λ (e : LifeEntry). low_key e < key_end) (first_entry root) (s ∷ []) (omega arith) (All-cons (λ (e : LifeEntry). low_key e < key_end) s [] second.below (All-nil (λ (e : LifeEntry). low_key e < key_end))) in
    record {
      nodes = join_stands L m2 new 0 key_end 1 (index_of (suc L) es) there spelled (sym zero_low, below, omega arith, each2);
      once = subst NamesNoneTwice (sym pages) (none1, r.once);
      change = subst (λ (ps : List ℕ). Replaces (pages_below ByLives L m0 root) ps m0 m2) (sym pages) (fresh_change (pages_below ByLives L m0 root) (P ++ Q) m0 m1 m2 new r.change missing none1 others);
      lives = subst (λ (ds : List Dated). IsPutIn (lives_below ByLives L m0 root) ds d) (sym lives) r.lives;
    }

grown_split : (levels : ℕ) (m0 m1 m2 : PageMap) (root new : ℕ) (d : Dated) (s : LifeEntry) → 1 ≤ levels → levels < 16 → 3 ≤ root → root < 2 ^ 64 → FitsWithin 0 key_end s
    → IsEntered levels m0 m1 root 0 key_end 1 d (Some s) → m1 new ≡ None → m2 new ≡ Some (life_node_page (index_of (levels + 1) (root_entries root s)))
    → ((p : ℕ) → (new == p) ≡ false → m2 p ≡ m1 p) → Grown levels (levels + 1) m0 m2 root new d
grown_split zero m0 m1 m2 root new d s some bound three fits second r missing there others = absurd (omega (arith, some))
grown_split (suc l) m0 m1 m2 root new d s some bound three fits second r missing there others =
    let up : suc l + 1 ≡ suc (suc l) = omega arith in
    let there1 = subst (λ (n : ℕ). m2 new ≡ Some (life_node_page (index_of n (root_entries root s)))) up there in
    subst (λ (n : ℕ). Grown (suc l) n m0 m2 root new d) (sym up) (grown_above l m0 m1 m2 root new d s (omega (arith, bound)) three fits second r missing there1 others)

-- The first leaf of a table.
grown_first : (m0 m2 : PageMap) (root new : ℕ) (d : Dated) → IsTrue (by_life_fits d) → IsDatedTyped d → key d < key_end → m0 new ≡ None → m2 new ≡ Some (life_node_page (leaf_of (d ∷ [])))
    → ((p : ℕ) → (new == p) ≡ false → m2 p ≡ m0 p) → Grown 0 1 m0 m2 root new d
grown_first m0 m2 root new d rules typed below missing there others =
    let proper : ProperObjects (d ∷ []) = record {
      asc = (All-nil (λ (e : Dated). key d < key e), tt);
      each = All-cons (λ (e : Dated). IsTrue (by_life_fits e)) d [] rules (All-nil (λ (e : Dated). IsTrue (by_life_fits e)));
      types = All-cons IsDatedTyped d [] typed (All-nil IsDatedTyped);
    } in
    let spelled = fits_leaf (d ∷ []) proper (omega arith) (omega arith) in
    let on = node_on-fits ByLives m2 new 1 (leaf_of (d ∷ [])) (life_node_page (leaf_of (d ∷ []))) there spelled in
    let lives : lives_below ByLives 1 m2 new ≡ d ∷ [] = ap objects_in on in
    let put : IsPutIn [] (d ∷ []) d = record { before = []; after = []; was = refl; is = refl; less = All-nil (λ (e : Dated). key e < key d); more = All-nil (λ (e : Dated). key d < key e) } in
    record {
      nodes = join_stands 0 m2 new 0 key_end 1 (leaf_of (d ∷ [])) there spelled
          (All-cons (λ (e : Dated). 0 ≤ key e) d [] (omega arith) (All-nil (λ (e : Dated). 0 ≤ key e)), All-cons (λ (e : Dated). key e < key_end) d [] below (All-nil (λ (e : Dated). key e < key_end)), omega arith);
      once = (refl, tt);
      change = fresh_change [] [] m0 m0 m2 new (Replaces-same [] m0) missing refl others;
      lives = subst (λ (ds : List Dated). IsPutIn [] ds d) (sym lives) put;
    }

-- What the calls say of the whole table.
pub key_fits : (d : Dated) → IsDatedTyped d → key d < key_end
key_fits d typed = omega (arith, typed.object.id, typed.life)

root_stands_below : (levels : ℕ) (m : PageMap) (root : ℕ) → 1 ≤ levels → RootStands ByLives levels m root → StandsBelow ByLives levels m root 0 key_end 1
root_stands_below zero m root some s = absurd (omega (arith, some))
root_stands_below (suc level) m root some s = s

pub root_there : (levels : ℕ) (m : PageMap) (root : ℕ) → 1 ≤ levels → RootStands ByLives levels m root → (bytes : List ℕ) × (m root ≡ Some bytes)
root_there zero m root some s = absurd (omega (arith, some))
root_there (suc level) m root some s = let n = (split_stands level m root 0 key_end 1 s).0 in (n.bytes, n.there)

pub entered_root : (levels : ℕ) (m0 m1 : PageMap) (root : ℕ) (d : Dated) (place : Place) (v : ℕ) (o : Option LifeEntry) → 1 ≤ levels → place ≡ root_place v → RootStands ByLives levels m0 root
    → NamesNoneTwice (pages_below ByLives levels m0 root)
    → ((least : ℕ) → StandsBelow ByLives levels m0 root place.low place.high least → NamesNoneTwice (pages_below ByLives levels m0 root) → IsEntered levels m0 m1 root place.low place.high least d o)
    → IsEntered levels m0 m1 root 0 key_end 1 d o
entered_root levels m0 m1 root d place v o some same s once call =
    let call1 = subst (λ (q : Place). StandsBelow ByLives levels m0 root q.low q.high 1 → NamesNoneTwice (pages_below ByLives levels m0 root) → IsEntered levels m0 m1 root q.low q.high 1 d o) same (call 1) in
    call1 (root_stands_below levels m0 root some s) once

pub second_of_root : (v : ℕ) (place : Place) (o : Option LifeEntry) (s : LifeEntry) → place ≡ root_place v → o ≡ Some s → SecondFits place.low place.high o → FitsWithin 0 key_end s
second_of_root v place o s same is fits = subst (λ (q : Option LifeEntry). SecondFits 0 key_end q) is (subst (λ (q : Place). SecondFits q.low q.high o) same fits)

pub grown_none : (old new : Tree) (m0 m2 : PageMap) (d : Dated) (o : Option LifeEntry) → o ≡ None → 1 ≤ old.levels → new.root ≡ old.root → new.levels ≡ old.levels
    → IsEntered old.levels m0 m2 old.root 0 key_end 1 d o → Grown old.levels new.levels m0 m2 old.root new.root d
grown_none old new m0 m2 d o none some root levels r =
    let r1 = subst (λ (q : Option LifeEntry). IsEntered old.levels m0 m2 old.root 0 key_end 1 d q) none r in
    let g = grown_whole old.levels m0 m2 old.root d some r1 in
    subst (λ (k : ℕ). Grown old.levels new.levels m0 m2 old.root k d) (sym root) (subst (λ (n : ℕ). Grown old.levels n m0 m2 old.root old.root d) (sym levels) g)

pub grown_some : (old new : Tree) (m0 m1 m2 : PageMap) (root : ℕ) (d : Dated) (o : Option LifeEntry) (s : LifeEntry) → o ≡ Some s → 1 ≤ old.levels → old.levels < 16 → new.root ≡ root → new.levels ≡ old.levels + 1
    → 3 ≤ old.root → old.root < 2 ^ 64 → FitsWithin 0 key_end s → IsEntered old.levels m0 m1 old.root 0 key_end 1 d o
    → (m1 root ≡ None) × (m2 root ≡ Some (life_node_page (index_of (old.levels + 1) (root_entries old.root s)))) × ((p : ℕ) → (root == p) ≡ false → m2 p ≡ m1 p)
    → Grown old.levels new.levels m0 m2 old.root new.root d
grown_some old new m0 m1 m2 root d o s is some bound at levels three fits second r made =
    let r1 = subst (λ (q : Option LifeEntry). IsEntered old.levels m0 m1 old.root 0 key_end 1 d q) is r in
    let g = grown_split old.levels m0 m1 m2 old.root root d s some bound three fits second r1 made.0 made.1 made.2 in
    subst (λ (k : ℕ). Grown old.levels new.levels m0 m2 old.root k d) (sym at) (subst (λ (n : ℕ). Grown old.levels n m0 m2 old.root root d) (sym levels) g)

pub grown_leaf : (old new : Tree) (m0 m2 : PageMap) (root : ℕ) (d : Dated) → old.levels ≡ 0 → new.root ≡ root → new.levels ≡ 1 → IsTrue (by_life_fits d) → IsDatedTyped d
    → (m0 root ≡ None) × (m2 root ≡ Some (life_node_page (leaf_of (d ∷ [])))) × ((p : ℕ) → (root == p) ≡ false → m2 p ≡ m0 p)
    → Grown old.levels new.levels m0 m2 old.root new.root d
grown_leaf old new m0 m2 root d none at one rules typed made =
    let g = grown_first m0 m2 old.root root d rules typed (key_fits d typed) made.0 made.1 made.2 in
    subst (λ (k : ℕ). Grown old.levels new.levels m0 m2 old.root k d) (sym at) (subst (λ (n : ℕ). Grown old.levels n m0 m2 old.root root d) (sym one) (subst (λ (n : ℕ). Grown n 1 m0 m2 old.root root d) (sym none) g))

pub full_root : (levels : ℕ) (m : PageMap) (root v : ℕ) (place : Place) (o : Option LifeEntry) (s : LifeEntry) → place ≡ root_place v → o ≡ Some s
    → WasFull o (IsFullBelow levels m root place.sought) → IsFullBelow levels m root v
full_root levels m root v place o s same is full =
    subst (λ (q : Place). IsFullBelow levels m root q.sought) same (subst (λ (o : Option LifeEntry). WasFull o (IsFullBelow levels m root place.sought)) is full)

there_leaf : (o : Option (List ℕ)) → length (objects_in (option_map_or (node_in ByLives) o no_node)) ≡ 14 → (bytes : List ℕ) × (o ≡ Some bytes)
there_leaf None h = absurd (omega (arith, h))
there_leaf (Some bytes) h = (bytes, refl)

there_index : (o : Option (List ℕ)) → length (entries_in (option_map_or (node_in ByLives) o no_node)) ≡ 200 → (bytes : List ℕ) × (o ≡ Some bytes)
there_index None h = absurd (omega (arith, h))
there_index (Some bytes) h = (bytes, refl)

-- A page that is full is in the map.
pub full_there : (levels : ℕ) (m : PageMap) (page v : ℕ) → IsFullBelow levels m page v → (bytes : List ℕ) × (m page ≡ Some bytes)
full_there zero m page v full = absurd full
full_there (suc zero) m page v full = there_leaf (m page) full
full_there (suc (suc level)) m page v full = there_index (m page) full.0
