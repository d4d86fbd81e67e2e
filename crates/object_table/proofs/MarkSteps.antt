-- One step of marking, from what its calls answer.
use Rattle.std.proofs.Common.{◌≡◌, ◌≢◌, ℕ, zero, suc, ◌-◌, ◌^◌, ◌<◌, ◌≤◌, ◌==◌, false, List, [], ◌∷◌, ◌++◌, length, get_or, Some, IsSome, refl, sym, ap, ◌∙◌, subst, arith}
use Rattle.std.specs.List.{All}
use Rattle.std.proofs.lemmas.Bool.{ne_eqb, or_parts, false≢true}
use Rattle.std.proofs.lemmas.List.Concat.{flat_map-append}
use Rattle.bw_types.specs.declared.dated.Dated.{Dated}
use Rattle.bw_types.specs.declared.tree.Tree.{Tree}
use Rattle.ports.specs.Pages.{PageMap}
use Rattle.ports.specs.Frame.{names_page, AreApart, Replaces}
use Rattle.ports.specs.FrameLaws.{Replaces-same, Replaces-beside, Replaces-agree}
use Rattle.page_layout.specs.Footprint.{NamesNoneTwice}
use Rattle.page_layout.specs.FootprintLaws.{apart_sym, once_left, once_right, once_apart, apart_parts}
use Rattle.page_layout.specs.LifeNode.{life_node_page}
use Rattle.page_layout.specs.declared.life_node.LifeEntry.{LifeEntry}
use Rattle.object_table.specs.declared.form.Form.TheVariants.{ByLives}
use Rattle.object_table.specs.declared.path.Step.{Step}
use Rattle.object_table.specs.declared.place.Place.{Place}
use Rattle.object_table.specs.Damage.{FitsPlace, GoesBy, root_place}
use Rattle.object_table.specs.Keys.{key, low_key, greatest_key, AscendBy}
use Rattle.object_table.specs.Lives.{lives_below, pages_below}
use Rattle.object_table.specs.Nodes.{node_on, objects_in, entries_in, entries_on}
use Rattle.object_table.specs.Edits.{IsMarked, CanWithdraw, with_withdrawal}
use Rattle.object_table.specs.Marked.{IsMarkedBelow}
use Rattle.object_table.specs.Stands.{first_low, EachStands, fewest, StandsBelow, RootStands, TableStands}
use Rattle.object_table.specs.Stored.{IsWhole, leaf_of, index_of}
use Rattle.object_table.proofs.Ascending.{root_ascend}
use Rattle.object_table.proofs.Clearing.{own_pages}
use Rattle.object_table.proofs.Footprints.{page_kept}
use Rattle.object_table.proofs.Frames.{same_index, same_entries}
use Rattle.object_table.proofs.IndexStep.{ReadIndex, StepParts, step_parts}
use Rattle.object_table.proofs.LastLives.{last_below}
use Rattle.object_table.proofs.Nodes.{node_on-fits}
use Rattle.object_table.proofs.Order.{first_low-later, EachStands-path, EachStands-join}
use Rattle.object_table.proofs.Rules.{leaf_proper, fits_leaf}
use Rattle.object_table.proofs.SoundAsked.{GoesDown}
use Rattle.object_table.proofs.Standing.{Child, list_pages, list_lives, list_pages-frame, list_lives-frame, each-frame, each-there, split_stands, join_stands, pages_on}
use Rattle.object_table.proofs.Stepping.{ReadLeaf}
use Rattle.object_table.proofs.Withdrawals.{mark_within, all_marked, length_marked, low_marked, proper_marked, marked_can, marked_is}
use Rattle.object_table.proofs.Within.{own_lives, parts_at}

-- The leaf with the withdrawal.
leaf_step : (m0 m2 : PageMap) (page least id version event : ℕ) (place : Place) (bytes : List ℕ) (objects new : List Dated) → m0 page ≡ Some bytes → ReadLeaf 1 place bytes objects
    → IsMarked objects new id version event → version < 2 ^ 32 → event < 2 ^ 32 → StandsBelow ByLives 1 m0 page place.low place.high least → IsWhole (leaf_of new) m0 m2 page
    → IsMarkedBelow 1 m0 m2 page place.low place.high least id version event
leaf_step m0 m2 page least id version event place bytes objects new there r p fv fe s stored =
    let on = node_on-fits ByLives m0 page 1 (leaf_of objects) bytes there r.fits.fits in
    let holds = (split_stands 0 m0 page place.low place.high least s).1 in
    let p1 = subst (λ (ds : List Dated). IsMarked ds new id version event) (sym (ap objects_in on)) p in
    let proper = proper_marked objects new id version event p fv fe (leaf_proper 14 objects r.rules r.typed) in
    let count = length_marked objects new id version event p in
    let spelled = fits_leaf new proper (omega (arith, count, r.rules.some)) (omega (arith, count, r.rules.few)) in
    let on2 = node_on-fits ByLives m2 page 1 (leaf_of new) (life_node_page (leaf_of new)) stored.0 spelled in
    let old : List Dated = objects_in (node_on ByLives m0 page) in
    record {
      stands = join_stands 0 m2 page place.low place.high least (leaf_of new) stored.0 spelled (
        all_marked (λ (d : Dated). place.low ≤ key d) old new id version event p1 (λ d h. h) holds.0,
        all_marked (λ (d : Dated). key d < place.high) old new id version event p1 (λ d h. h) holds.1,
        omega (arith, holds.2, length_marked old new id version event p1),
      );
      pages = refl;
      change = record { others = λ q a b. stored.1 q (one_else page q a); fresh = λ q a b. absurd (false≢true (sym a ∙ b)); gone = λ q a b. absurd (false≢true (sym b ∙ a)) };
      lives = subst (λ (ds : List Dated). IsMarked old ds id version event) (sym (ap objects_in on2)) p1;
    } where
      one_else : (page q : ℕ) → names_page (page ∷ []) q ≡ false → (page == q) ≡ false
      one_else page q h = (or_parts (page == q) false h).0

pub mark_leaf_result : (level : ℕ) (m0 m1 m2 : PageMap) (page least id version event : ℕ) (place : Place) (bytes : List ℕ) (objects new : List Dated) → m1 ≡ m0 → m0 page ≡ Some bytes → ReadLeaf level place bytes objects
    → IsMarked objects new id version event → version < 2 ^ 32 → event < 2 ^ 32 → StandsBelow ByLives level m0 page place.low place.high least → IsWhole (leaf_of new) m1 m2 page
    → IsMarkedBelow level m0 m2 page place.low place.high least id version event
mark_leaf_result level m0 m1 m2 page least id version event place bytes objects new same there r p fv fe s stored =
    let stored1 = subst (λ (m : PageMap). IsWhole (leaf_of new) m m2 page) same stored in
    let r1 = subst (λ (l : ℕ). ReadLeaf l place bytes objects) r.one r in
    let s1 = subst (λ (l : ℕ). StandsBelow ByLives l m0 page place.low place.high least) r.one s in
    subst (λ (l : ℕ). IsMarkedBelow l m0 m2 page place.low place.high least id version event) (sym r.one) (leaf_step m0 m2 page least id version event place bytes objects new there r1 p fv fe s1 stored1)

-- What the entries stand for, where a life under one of them was withdrawn.
pub record EntriesMarked (level : ℕ) (m0 m1 : PageMap) (es : List LifeEntry) (high id version event : ℕ) : Type 0 where
  pub each : EachStands (Child level m1) es high
  pub pages : list_pages level m1 es ≡ list_pages level m0 es
  pub change : Replaces (list_pages level m0 es) (list_pages level m0 es) m0 m1
  pub lives : IsMarked (list_lives level m0 es) (list_lives level m1 es) id version event

marked_below : (level : ℕ) (m0 m1 : PageMap) (page low high least id version event : ℕ) (before : List LifeEntry) (at : LifeEntry) (after : List LifeEntry)
    → StandsBelow ByLives (suc (suc level)) m0 page low high least → GoesBy (entries_on ByLives m0 page) before at after (greatest_key id) → greatest_key id < high
    → NamesNoneTwice (list_pages (suc level) m0 (entries_on ByLives m0 page))
    → IsMarkedBelow (suc level) m0 m1 at.child (low_key at) (first_low after high) (fewest ByLives (suc level)) id version event
    → EntriesMarked (suc level) m0 m1 (entries_on ByLives m0 page) high id version event
marked_below level m0 m1 page low high least id version event before at after s goes fits once r =
    let l : ℕ = suc level in
    let es : List LifeEntry = entries_on ByLives m0 page in
    let B : List ℕ = list_pages l m0 before in
    let P : List ℕ = own_pages ByLives l m0 at in
    let A : List ℕ = list_pages l m0 after in
    let path = EachStands-path (Child l m0) es before at after high goes.whole s.1 in
    let parts = parts_at ByLives level m0 page low high least before at after s goes.whole in
    let cut : list_pages l m0 es ≡ B ++ (P ++ A) = ap (list_pages l m0) goes.whole ∙ flat_map-append (own_pages ByLives l m0) before (at ∷ after) in
    let once1 = subst NamesNoneTwice cut once in
    let once_rest = once_right B (P ++ A) once1 in
    let b_parts = apart_parts P A B (apart_sym B (P ++ A) (once_apart B (P ++ A) once1)) in
    let apart_bp : AreApart B P = apart_sym P B b_parts.0 in
    let apart_ap : AreApart A P = apart_sym P A (once_apart P A once_rest) in
    let there_b = each-there l m0 before (low_key at) path.0 in
    let there_a = each-there l m0 after high path.1.1 in
    let agree_b = Replaces-agree B P P m0 m1 r.change there_b apart_bp in
    let agree_a = Replaces-agree A P P m0 m1 r.change there_a apart_ap in
    let cut1 : list_pages l m1 es ≡ list_pages l m1 before ++ (own_pages ByLives l m1 at ++ list_pages l m1 after) = ap (list_pages l m1) goes.whole ∙ flat_map-append (own_pages ByLives l m1) before (at ∷ after) in
    let same : list_pages l m1 before ++ (own_pages ByLives l m1 at ++ list_pages l m1 after) ≡ B ++ (P ++ A) =
    ap (λ (ps : List ℕ). ps ++ (own_pages ByLives l m1 at ++ list_pages l m1 after)) (list_pages-frame l m0 m1 before agree_b)
    ∙ ap (λ (ps : List ℕ). B ++ (ps ++ list_pages l m1 after)) r.pages ∙ ap (λ (ps : List ℕ). B ++ (P ++ ps)) (list_pages-frame l m0 m1 after agree_a) in
    let D : List Dated = list_lives l m0 before in
    let E : List Dated = list_lives l m0 after in
    let N : List Dated = own_lives ByLives l m1 at in
    let new_lives : list_lives l m1 es ≡ D ++ (N ++ E) =
    ap (list_lives l m1) goes.whole ∙ flat_map-append (own_lives ByLives l m1) before (at ∷ after) ∙ ap (λ (ds : List Dated). ds ++ (N ++ list_lives l m1 after)) (list_lives-frame l m0 m1 before agree_b)
    ∙ ap (λ (ds : List Dated). D ++ (N ++ ds)) (list_lives-frame l m0 m1 after agree_a) in
    let later = first_low-later after (greatest_key id) high goes.later fits in
    let none : All (λ d. (d.object.id == id) ≡ false) E = λ i d h. let w = parts.above i d h in ne_eqb (get_or E i d).object.id id (λ e. omega (arith, e, w.from, w.typed, later)) in
    let mark = mark_within D E (own_lives ByLives l m0 at) N id version event r.lives none in
    let keeps = low_marked at (own_lives ByLives l m0 at) N id version event path.1.0.1 r.lives in
    let change = Replaces-beside B B (P ++ A) (P ++ A) m0 m0 m1 (Replaces-same B m0) (Replaces-beside P P A A m0 m1 m1 r.change (Replaces-same A m1)) in
    record {
      each = subst (λ (xs : List LifeEntry). EachStands (Child l m1) xs high) (sym goes.whole)
          (EachStands-join (Child l m1) before (at ∷ after) high (each-frame l m0 m1 before (low_key at) agree_b path.0) ((r.stands, keeps), each-frame l m0 m1 after high agree_a path.1.1));
      pages = cut1 ∙ same ∙ sym cut;
      change = subst (λ (ps : List ℕ). Replaces ps ps m0 m1) (sym cut) change;
      lives = subst (λ (ds : List Dated). IsMarked ds (list_lives l m1 es) id version event) (sym parts.whole) (subst (λ (ds : List Dated). IsMarked (D ++ (own_lives ByLives l m0 at ++ E)) ds id version event) (sym new_lives) mark);
    }

-- what the call below answers, one level less
abbrev pub MarkCall : ℕ → PageMap → PageMap → Step → ℕ → ℕ → ℕ → Type 0
MarkCall level m1 m2 step id version event = (low : ℕ) → StandsBelow ByLives level m1 step.child step.place.low step.place.high low → NamesNoneTwice (pages_below ByLives level m1 step.child)
    → IsMarkedBelow level m1 m2 step.child step.place.low step.place.high low id version event

index_step : (l : ℕ) (m0 m2 : PageMap) (page least id version event : ℕ) (place : Place) (bytes : List ℕ) (entries : List LifeEntry) (k : ℕ) (step : Step)
    → m0 page ≡ Some bytes → FitsPlace ByLives (suc (suc l)) place (index_of (suc (suc l)) entries) bytes → StepParts (suc (suc l)) place bytes entries k step
    → place.sought ≡ greatest_key id → place.sought < place.high → MarkCall (suc l) m0 m2 step id version event
    → StandsBelow ByLives (suc (suc l)) m0 page place.low place.high least → NamesNoneTwice (pages_below ByLives (suc (suc l)) m0 page)
    → IsMarkedBelow (suc (suc l)) m0 m2 page place.low place.high least id version event
index_step l m0 m2 page least id version event place bytes entries k step there fits p sought below call s once =
    let L : ℕ = suc l in
    let es : List LifeEntry = entries_on ByLives m0 page in
    let on : es ≡ entries = ap entries_in (node_on-fits ByLives m0 page (suc L) (index_of (suc L) entries) bytes there fits.fits) in
    let goes1 = subst (λ (xs : List LifeEntry). GoesBy xs p.before p.at p.after place.sought) (sym on) p.goes in
    let goes = subst (λ (v : ℕ). GoesBy es p.before p.at p.after v) sought goes1 in
    let parts = parts_at ByLives l m0 page place.low place.high least p.before p.at p.after s goes.whole in
    let once1 = subst NamesNoneTwice (pages_on L m0 page (node_on ByLives m0 page) refl) once in
    let cut = ap (list_pages L m0) goes.whole ∙ flat_map-append (own_pages ByLives L m0) p.before (p.at ∷ p.after) in
    let own_once = once_left (own_pages ByLives L m0 p.at) (list_pages L m0 p.after) (once_right (list_pages L m0 p.before) (list_pages L m0 (p.at ∷ p.after)) (subst NamesNoneTwice cut once1.1)) in
    let call1 = subst (λ (c : ℕ). (low : ℕ) → StandsBelow ByLives L m0 c step.place.low step.place.high low → NamesNoneTwice (pages_below ByLives L m0 c) → IsMarkedBelow L m0 m2 c step.place.low step.place.high low id version event) p.child call in
    let call2 = subst (λ (n : ℕ). (low : ℕ) → StandsBelow ByLives L m0 p.at.child n step.place.high low → NamesNoneTwice (pages_below ByLives L m0 p.at.child) → IsMarkedBelow L m0 m2 p.at.child n step.place.high low id version event) p.inner.low call1 in
    let call3 = subst (λ (n : ℕ). (low : ℕ) → StandsBelow ByLives L m0 p.at.child (low_key p.at) n low → NamesNoneTwice (pages_below ByLives L m0 p.at.child) → IsMarkedBelow L m0 m2 p.at.child (low_key p.at) n low id version event) p.inner.high call2 in
    let e = marked_below l m0 m2 page place.low place.high least id version event p.before p.at p.after s goes (omega (arith, sought, below)) once1.1 (call3 (fewest ByLives L) parts.own.0 own_once) in
    let there1 : IsSome (m0 page) = subst IsSome (sym there) refl in
    let kept = page_kept (list_pages L m0 es) (list_pages L m0 es) m0 m2 page e.change there1 once1.0 in
    let same : entries_on ByLives m2 page ≡ es = same_entries ByLives m0 m2 page kept.1 in
    let pages : pages_below ByLives (suc L) m2 page ≡ pages_below ByLives (suc L) m0 page = ap (λ (xs : List LifeEntry). page ∷ list_pages L m2 xs) same ∙ ap (λ (ps : List ℕ). page ∷ ps) e.pages in
    record {
      stands = (same_index ByLives m0 m2 (suc L) page place.low place.high least kept.1 s.0, subst (λ (xs : List LifeEntry). EachStands (Child L m2) xs place.high) (sym same) e.each);
      pages = pages;
      change = Replaces-beside (page ∷ []) (page ∷ []) (list_pages L m0 es) (list_pages L m0 es) m0 m0 m2 (Replaces-same (page ∷ []) m0) e.change;
      lives = subst (λ (xs : List LifeEntry). IsMarked (list_lives L m0 es) (list_lives L m2 xs) id version event) (sym same) e.lives;
    }

pub mark_index_result : (level : ℕ) (m0 m1 m2 : PageMap) (page least id version event : ℕ) (place : Place) (bytes : List ℕ) (entries shown : List LifeEntry) (k : ℕ) (step : Step) → m1 ≡ m0 → m0 page ≡ Some bytes
    → ReadIndex level place bytes entries shown k step → place.sought ≡ greatest_key id → MarkCall (level - 1) m1 m2 step id version event
    → StandsBelow ByLives level m0 page place.low place.high least → NamesNoneTwice (pages_below ByLives level m0 page) → IsMarkedBelow level m0 m2 page place.low place.high least id version event
mark_index_result zero m0 m1 m2 page least id version event place bytes entries shown k step same there r sought call s once = absurd (omega (arith, r.fits.fits.rules.low_level))
mark_index_result (suc zero) m0 m1 m2 page least id version event place bytes entries shown k step same there r sought call s once = absurd (omega (arith, r.fits.fits.rules.low_level))
mark_index_result (suc (suc l)) m0 m1 m2 page least id version event place bytes entries shown k step same there r sought call s once =
    let less : suc (suc l) - 1 ≡ suc l = omega arith in
    let call1 = subst (λ (n : ℕ). MarkCall n m1 m2 step id version event) less call in
    let call2 = subst (λ (m : PageMap). MarkCall (suc l) m m2 step id version event) same call1 in
    index_step l m0 m2 page least id version event place bytes entries k step there r.fits (step_parts (suc (suc l)) place bytes entries shown k step r) sought r.below call2 s once

-- What the calls say of the whole table.
pub record RootMarked (levels : ℕ) (m0 m2 : PageMap) (root id version event : ℕ) : Type 0 where
  pub nodes : RootStands ByLives levels m2 root
  pub pages : pages_below ByLives levels m2 root ≡ pages_below ByLives levels m0 root
  pub change : Replaces (pages_below ByLives levels m0 root) (pages_below ByLives levels m0 root) m0 m2
  pub lives : IsMarked (lives_below ByLives levels m0 root) (lives_below ByLives levels m2 root) id version event

pub marked_root : (levels : ℕ) (m0 m2 : PageMap) (root id version event : ℕ) (place : Place) (v : ℕ) → levels ≢ 0 → place ≡ root_place v → RootStands ByLives levels m0 root → NamesNoneTwice (pages_below ByLives levels m0 root)
    → ((least : ℕ) → StandsBelow ByLives levels m0 root place.low place.high least → NamesNoneTwice (pages_below ByLives levels m0 root) → IsMarkedBelow levels m0 m2 root place.low place.high least id version event)
    → RootMarked levels m0 m2 root id version event
marked_root zero m0 m2 root id version event place v some same s once call = absurd (some refl)
marked_root (suc level) m0 m2 root id version event place v some same s once call =
    let call1 = subst (λ (q : Place). StandsBelow ByLives (suc level) m0 root q.low q.high 1 → NamesNoneTwice (pages_below ByLives (suc level) m0 root) → IsMarkedBelow (suc level) m0 m2 root q.low q.high 1 id version event) same (call 1) in
    let r = call1 s once in
    record { nodes = r.stands; pages = r.pages; change = r.change; lives = r.lives }

pub marked_stands : (m0 m2 : PageMap) (table : Tree) (lives : List Dated) (id version event : ℕ) → TableStands ByLives m0 table lives → RootMarked table.levels m0 m2 table.root id version event
    → CanWithdraw id version lives × TableStands ByLives m2 table (with_withdrawal id version event lives)
marked_stands m0 m2 table lives id version event s r =
    let new : List Dated = lives_below ByLives table.levels m2 table.root in
    let mark = subst (λ (ds : List Dated). IsMarked ds new id version event) s.has r.lives in
    let asc = subst (AscendBy key) s.has (root_ascend ByLives table.levels m0 table.root s.nodes) in
    let is = marked_is lives new id version event asc mark in
    let count = ap (λ (ds : List Dated). length ds) (sym is) ∙ length_marked lives new id version event mark in (
      marked_can lives new id version event mark,
      record { has = is; count = omega (arith, s.count, count); changes = s.changes; last = s.last; nodes = r.nodes; once = subst NamesNoneTwice (sym r.pages) s.once },
    )

-- What can be withdrawn can be found on the way.
pub can_down : (id version : ℕ) → GoesDown (CanWithdraw id version) (greatest_key id)
can_down id version level m page low high least before at after s goes can = record {
  last = can.last;
  found = sym (last_below ByLives level m page low high least id before at after s goes) ∙ can.found;
  lives_on = can.lives_on;
  earlier = can.earlier;
}

pub can_in_table : (m : PageMap) (table : Tree) (lives : List Dated) (id version : ℕ) → TableStands ByLives m table lives → CanWithdraw id version lives → CanWithdraw id version (lives_below ByLives table.levels m table.root)
can_in_table m table lives id version s can = subst (CanWithdraw id version) (sym s.has) can
