-- The entries of an index node after an object was entered below one of them.
use Rattle.std.proofs.Common.{◌≡◌, ℕ, suc, ◌+◌, ◌<◌, ◌≤◌, inl, inr, List, [], ◌∷◌, ◌++◌, length, take, drop, Option, Some, None, refl, sym, ap, ◌∙◌, subst, arith, append_assoc, length-append, length-drop}
use Rattle.std.specs.List.{All}
use Rattle.std.proofs.lemmas.List.{take-append-drop, append-nil, length-take-le}
use Rattle.std.proofs.lemmas.List.Elements.{All-cons, All-nil}
use Rattle.std.proofs.lemmas.List.Concat.{flat_map-append}
use Rattle.bw_types.specs.declared.dated.Dated.{Dated}
use Rattle.ports.specs.Pages.{PageMap}
use Rattle.ports.specs.Frame.{AreApart, Replaces}
use Rattle.ports.specs.FrameLaws.{Replaces-same, Replaces-beside, Replaces-agree, Replaces-apart}
use Rattle.page_layout.specs.Footprint.{NamesNoneTwice}
use Rattle.page_layout.specs.FootprintLaws.{apart_sym, once_left, once_right, once_apart, once_join, apart_append, apart_parts}
use Rattle.page_layout.specs.LifeNode.{IsLifeEntryTyped}
use Rattle.page_layout.specs.declared.life_node.LifeEntry.{LifeEntry}
use Rattle.object_table.specs.declared.form.Form.TheVariants.{ByLives}
use Rattle.object_table.specs.Damage.{GoesBy}
use Rattle.object_table.specs.Keys.{key, key_of, low_key, AscendBy}
use Rattle.object_table.specs.Nodes.{node_on, entries_on}
use Rattle.object_table.specs.Lives.{lives_below}
use Rattle.object_table.specs.Edits.{IsPutIn}
use Rattle.object_table.specs.Entered.{second_entries, PartsStand, parts_pages, parts_lives, IsEntered, SecondFits}
use Rattle.object_table.specs.Stands.{first_low, KeepsItsLow, EachStands, fewest, StandsBelow}
use Rattle.object_table.specs.Stored.{BeginsBy, entry_name, index_of}
use Rattle.object_table.proofs.Clearing.{own_pages}
use Rattle.object_table.proofs.Landing.{ListEntered, HalvesEntered}
use Rattle.object_table.proofs.Order.{first_low-append, first_low-later, EachStands-path, EachStands-split, EachStands-join, All-left, All-right, All-join}
use Rattle.object_table.proofs.Ordered.{proper_insert, proper_right, asc_before}
use Rattle.object_table.proofs.PuttingIn.{put_within, low_kept, low_further}
use Rattle.object_table.proofs.Rules.{ProperEntries}
use Rattle.object_table.proofs.Searching.{All-head, All-tail}
use Rattle.object_table.proofs.Standing.{Child, list_pages, list_lives, each-frame, list_pages-frame, list_lives-frame, each-there, some_lives}
use Rattle.object_table.proofs.Within.{own_lives, parts_at}

-- the entries after one was split, or not
abbrev pub entries_with : List LifeEntry → LifeEntry → Option LifeEntry → List LifeEntry → List LifeEntry
entries_with before at o after = before ++ (at ∷ (second_entries o ++ after))

-- what stands below the entries
pub record EntriesEntered (level : ℕ) (m0 m1 : PageMap) (es news : List LifeEntry) (high : ℕ) (d : Dated) : Type 0 where
  pub each : EachStands (Child level m1) news high
  pub lives : IsPutIn (list_lives level m0 es) (list_lives level m1 news) d
  pub change : Replaces (list_pages level m0 es) (list_pages level m1 news) m0 m1
  pub once : NamesNoneTwice (list_pages level m1 news)

own_parts_pages : (level : ℕ) (m : PageMap) (at : LifeEntry) (o : Option LifeEntry) (after : List LifeEntry)
    → list_pages level m (at ∷ (second_entries o ++ after)) ≡ parts_pages level m at.child o ++ list_pages level m after
own_parts_pages level m at None after = refl
own_parts_pages level m at (Some s) after = sym (append_assoc (own_pages ByLives level m at) (own_pages ByLives level m s) (list_pages level m after))

own_parts_lives : (level : ℕ) (m : PageMap) (at : LifeEntry) (o : Option LifeEntry) (after : List LifeEntry)
    → list_lives level m (at ∷ (second_entries o ++ after)) ≡ parts_lives level m at.child o ++ list_lives level m after
own_parts_lives level m at None after = refl
own_parts_lives level m at (Some s) after = sym (append_assoc (own_lives ByLives level m at) (own_lives ByLives level m s) (list_lives level m after))

-- the first of the parts has some objects, and the objects begin with its
first_part : (level : ℕ) (m : PageMap) (page low high least : ℕ) (o : Option LifeEntry) → PartsStand level m page o low high least
    → (1 ≤ length (lives_below ByLives level m page)) × ((rest : List Dated) × (parts_lives level m page o ≡ lives_below ByLives level m page ++ rest))
first_part level m page low high least None s = (some_lives ByLives level m page low high least s, ([], sym (append-nil (lives_below ByLives level m page))))
first_part level m page low high least (Some second) s =
    (some_lives ByLives level m page low (low_key second) (fewest ByLives level) s.0, (lives_below ByLives level m second.child, refl))

parts_each : (level : ℕ) (m : PageMap) (at : LifeEntry) (o : Option LifeEntry) (after : List LifeEntry) (high : ℕ)
    → PartsStand level m at.child o (low_key at) (first_low after high) (fewest ByLives level) → KeepsItsLow at (lives_below ByLives level m at.child)
    → EachStands (Child level m) after high → EachStands (Child level m) (at ∷ (second_entries o ++ after)) high
parts_each level m at None after high s keeps rest = ((s, keeps), rest)
parts_each level m at (Some second) after high s keeps rest = ((s.0, keeps), ((s.1, s.2), rest))

pub entered_below : (level : ℕ) (m0 m1 : PageMap) (page low high least : ℕ) (d : Dated) (before : List LifeEntry) (at : LifeEntry) (after : List LifeEntry) (o : Option LifeEntry)
    → StandsBelow ByLives (suc (suc level)) m0 page low high least → GoesBy (entries_on ByLives m0 page) before at after (key d) → key d < high
    → NamesNoneTwice (list_pages (suc level) m0 (entries_on ByLives m0 page))
    → IsEntered (suc level) m0 m1 at.child (low_key at) (first_low after high) (fewest ByLives (suc level)) d o
    → EntriesEntered (suc level) m0 m1 (entries_on ByLives m0 page) (entries_with before at o after) high d
entered_below level m0 m1 page low high least d before at after o s goes fits once r =
    let l : ℕ = suc level in
    let es : List LifeEntry = entries_on ByLives m0 page in
    let B : List ℕ = list_pages l m0 before in
    let P : List ℕ = own_pages ByLives l m0 at in
    let A : List ℕ = list_pages l m0 after in
    let N : List ℕ = parts_pages l m1 at.child o in
    let path = EachStands-path (Child l m0) es before at after high goes.whole s.1 in
    let parts = parts_at ByLives level m0 page low high least before at after s goes.whole in
    let cut : list_pages l m0 es ≡ B ++ (P ++ A) = ap (list_pages l m0) goes.whole ∙ flat_map-append (own_pages ByLives l m0) before (at ∷ after) in
    let once1 = subst NamesNoneTwice cut once in
    let once_rest = once_right B (P ++ A) once1 in
    let apart_b = once_apart B (P ++ A) once1 in
    let b_parts = apart_parts P A B (apart_sym B (P ++ A) apart_b) in
    let apart_bp : AreApart B P = apart_sym P B b_parts.0 in
    let apart_ab : AreApart A B = b_parts.1 in
    let apart_pa = once_apart P A once_rest in
    let apart_ap : AreApart A P = apart_sym P A apart_pa in
    let there_b = each-there l m0 before (low_key at) path.0 in
    let there_a = each-there l m0 after high path.1.1 in
    let agree_b = Replaces-agree B P N m0 m1 r.change there_b apart_bp in
    let agree_a = Replaces-agree A P N m0 m1 r.change there_a apart_ap in
    let new_bn : AreApart B N = Replaces-apart B P N m0 m1 r.change there_b apart_bp in
    let new_an : AreApart A N = Replaces-apart A P N m0 m1 r.change there_a apart_ap in
    let pages_b = list_pages-frame l m0 m1 before agree_b in
    let pages_a = list_pages-frame l m0 m1 after agree_a in
    let lives_b = list_lives-frame l m0 m1 before agree_b in
    let lives_a = list_lives-frame l m0 m1 after agree_a in
    let news : List LifeEntry = entries_with before at o after in
    let new_pages : list_pages l m1 news ≡ B ++ (N ++ A) =
    flat_map-append (own_pages ByLives l m1) before (at ∷ (second_entries o ++ after)) ∙ ap (λ (ps : List ℕ). ps ++ list_pages l m1 (at ∷ (second_entries o ++ after))) pages_b
    ∙ ap (λ (ps : List ℕ). B ++ ps) (own_parts_pages l m1 at o after ∙ ap (λ (ps : List ℕ). N ++ ps) pages_a) in
    let D : List Dated = list_lives l m0 before in
    let E : List Dated = list_lives l m0 after in
    let new_lives : list_lives l m1 news ≡ D ++ (parts_lives l m1 at.child o ++ E) =
    flat_map-append (own_lives ByLives l m1) before (at ∷ (second_entries o ++ after)) ∙ ap (λ (ds : List Dated). ds ++ list_lives l m1 (at ∷ (second_entries o ++ after))) lives_b
    ∙ ap (λ (ds : List Dated). D ++ ds) (own_parts_lives l m1 at o after ∙ ap (λ (ds : List Dated). parts_lives l m1 at.child o ++ ds) lives_a) in
    let less : All (λ e. key e < key d) D = λ k e h. let w = parts.below k e h in omega (arith, w.ends, goes.here) in
    let later = first_low-later after (key d) high goes.later fits in
    let more : All (λ e. key d < key e) E = λ k e h. let w = parts.above k e h in omega (arith, w.from, later) in
    let put = put_within D E (own_lives ByLives l m0 at) (parts_lives l m1 at.child o) d r.lives less more in
    let first = first_part l m1 at.child (low_key at) (first_low after high) (fewest ByLives l) o r.stands in
    let keeps = low_kept at (own_lives ByLives l m0 at) (parts_lives l m1 at.child o) (lives_below ByLives l m1 at.child) first.1.0 d path.1.0.1 r.lives first.1.1 first.0 goes.here in
    let beside = Replaces-beside P N A A m0 m1 m1 r.change (Replaces-same A m1) in
    let all_change = Replaces-beside B B (P ++ A) (N ++ A) m0 m0 m1 (Replaces-same B m0) beside in
    record {
      each = EachStands-join (Child l m1) before (at ∷ (second_entries o ++ after)) high (each-frame l m0 m1 before (low_key at) agree_b path.0)
          (parts_each l m1 at o after high r.stands keeps (each-frame l m0 m1 after high agree_a path.1.1));
      lives = subst (λ (ds : List Dated). IsPutIn ds (list_lives l m1 news) d) (sym parts.whole) (subst (λ (ds : List Dated). IsPutIn (D ++ (own_lives ByLives l m0 at ++ E)) ds d) (sym new_lives) put);
      change = subst (λ (ps : List ℕ). Replaces ps (list_pages l m1 news) m0 m1) (sym cut) (subst (λ (ps : List ℕ). Replaces (B ++ (P ++ A)) ps m0 m1) (sym new_pages) all_change);
      once = subst NamesNoneTwice (sym new_pages)
          (once_join B (N ++ A) (once_left B (P ++ A) once1) (once_join N A r.once (once_right P A once_rest) (apart_sym A N new_an))
          (apart_sym (N ++ A) B (apart_append N A B (apart_sym B N new_bn) apart_ab)));
    }

-- The entries with that of the second page keep the rules.
pub proper_with : (before : List LifeEntry) (at : LifeEntry) (o : Option LifeEntry) (after : List LifeEntry) (high : ℕ) → ProperEntries (before ++ (at ∷ after))
    → SecondFits (low_key at) (first_low after high) o → ProperEntries (entries_with before at o after)
proper_with before at None after high p fits = p
proper_with before at (Some s) after high p fits =
    let one : before ++ (at ∷ after) ≡ (before ++ (at ∷ [])) ++ after = sym (append_assoc before (at ∷ []) after) in
    let p1 = subst ProperEntries one p in
    let right = proper_right low_key (λ e. 3 ≤ e.child) IsLifeEntryTyped before (at ∷ after) p in
    let less : All (λ e. low_key e < low_key s) (before ++ (at ∷ [])) =
    All-join (λ (e : LifeEntry). low_key e < low_key s) before (at ∷ []) (λ k d h. omega (arith, fits.from, asc_before low_key before at after p.asc k d h))
    (All-cons (λ (e : LifeEntry). low_key e < low_key s) at [] fits.from (All-nil (λ (e : LifeEntry). low_key e < low_key s))) in
    let more = all_above after s high right.asc.1 fits.below in
    let all = proper_insert low_key (λ e. 3 ≤ e.child) IsLifeEntryTyped (before ++ (at ∷ [])) after s p1 fits.child fits.typed less more in
    subst ProperEntries (append_assoc before (at ∷ []) (s ∷ after)) all where
      all_above : (after : List LifeEntry) (s : LifeEntry) (high : ℕ) → AscendBy low_key after → low_key s < first_low after high → All (λ e. low_key s < low_key e) after
      all_above [] s high a less = All-nil (λ (e : LifeEntry). low_key s < low_key e)
      all_above (f ∷ fs) s high a less = All-cons (λ (e : LifeEntry). low_key s < low_key e) f fs less (λ k d h. omega (arith, less, a.0 k d h))

second_below : (after : List LifeEntry) (s : LifeEntry) (high : ℕ) → low_key s < first_low after high → All (λ e. low_key e < high) after → low_key s < high
second_below [] s high less ends = less
second_below (f ∷ fs) s high less ends = omega (arith, less, All-head (λ (e : LifeEntry). low_key e < high) f fs ends)

pub ends_with : (before : List LifeEntry) (at : LifeEntry) (o : Option LifeEntry) (after : List LifeEntry) (high : ℕ) → All (λ e. low_key e < high) (before ++ (at ∷ after))
    → SecondFits (low_key at) (first_low after high) o → All (λ e. low_key e < high) (entries_with before at o after)
ends_with before at None after high ends fits = ends
ends_with before at (Some s) after high ends fits =
    let P : LifeEntry → Type 0 = λ e. low_key e < high in
    let right = All-right P before (at ∷ after) ends in
    let rest = All-tail P at after right in
    All-join P before (at ∷ (s ∷ after)) (All-left P before (at ∷ after) ends) (All-cons P at (s ∷ after) (All-head P at after right) (All-cons P s after (second_below after s high fits.below rest) rest))

pub from_with : (before : List LifeEntry) (at : LifeEntry) (o : Option LifeEntry) (after : List LifeEntry) (low high : ℕ) → All (λ e. low ≤ low_key e) (before ++ (at ∷ after))
    → SecondFits (low_key at) (first_low after high) o → All (λ e. low ≤ low_key e) (entries_with before at o after)
from_with before at None after low high from fits = from
from_with before at (Some s) after low high from fits =
    let P : LifeEntry → Type 0 = λ e. low ≤ low_key e in
    let right = All-right P before (at ∷ after) from in
    let here : low ≤ low_key at = All-head P at after right in
    All-join P before (at ∷ (s ∷ after)) (All-left P before (at ∷ after) from) (All-cons P at (s ∷ after) here (All-cons P s after (omega (arith, here, fits.from)) (All-tail P at after right)))

pub begins_with : (before : List LifeEntry) (at : LifeEntry) (o : Option LifeEntry) (after : List LifeEntry) (high : ℕ) → first_low (entries_with before at o after) high ≡ first_low (before ++ (at ∷ after)) high
begins_with [] at o after high = refl
begins_with (b ∷ before) at o after high = refl

pub length_with : (before : List LifeEntry) (at : LifeEntry) (o : Option LifeEntry) (after : List LifeEntry) → length (entries_with before at o after) ≡ length (before ++ (at ∷ after)) + length (second_entries o)
length_with before at o after =
    omega (arith, length-append before (at ∷ after), length-append before (at ∷ (second_entries o ++ after)), length-append (second_entries o) after)

-- One page for all entries.
pub whole_entered : (level l : ℕ) (m0 m1 : PageMap) (page low high least : ℕ) (d : Dated) (news : List LifeEntry)
    → StandsBelow ByLives (suc (suc level)) m0 page low high least → EntriesEntered (suc level) m0 m1 (entries_on ByLives m0 page) news high d
    → first_low news high ≡ low → All (λ e. low_key e < high) news → length (entries_on ByLives m0 page) ≤ length news
    → ListEntered (suc level) m0 m1 (node_on ByLives m0 page) (index_of l news) low high least d
whole_entered level l m0 m1 page low high least d news s e begins ends longer = record {
  holds = (begins, ends, omega (arith, longer, s.0.filled), e.each);
  lives = e.lives;
  change = e.change;
  once = e.once;
}

first_low-any : (es : List LifeEntry) (a b : ℕ) → 1 ≤ length es → first_low es a ≡ first_low es b
first_low-any [] a b some = absurd (omega (arith, some))
first_low-any (e ∷ es) a b some = refl

-- Two pages, where the entries are 201.
pub halves_entered : (level l : ℕ) (m0 m1 : PageMap) (page low high : ℕ) (d : Dated) (news : List LifeEntry) (second : LifeEntry)
    → EntriesEntered (suc level) m0 m1 (entries_on ByLives m0 page) news high d
    → ProperEntries news → first_low news high ≡ low → All (λ e. low_key e < high) news → length news ≡ 201 → BeginsBy entry_name (drop 100 news) second
    → HalvesEntered (suc level) m0 m1 (node_on ByLives m0 page) (index_of l (take 100 news)) (index_of l (drop 100 news)) low (low_key second) high d
halves_entered level l m0 m1 page low high d news second e proper begins ends long by =
    let sl : ℕ = suc level in
    let F : List LifeEntry = take 100 news in
    let R : List LifeEntry = drop 100 news in
    let whole : F ++ R ≡ news = take-append-drop 100 news in
    let x : LifeEntry = by.0 in
    let count_f : length F ≡ 100 = length-take-le 100 news (omega (arith, long)) in
    let count_r : length R ≡ 101 = omega (arith, long, length-drop 100 news) in
    let middle : low_key x ≡ low_key second = sym (ap (λ (n : ℕ). key_of n second.low_life) by.3 ∙ ap (key_of x.low_id) by.4) in
    let starts : first_low R high ≡ low_key second = ap (λ (es : List LifeEntry). first_low es high) by.2 ∙ middle in
    let asc = subst (AscendBy low_key) (sym whole ∙ ap (λ (es : List LifeEntry). F ++ es) by.2) proper.asc in
    let before = asc_before low_key F x by.1 asc in
    let ends1 = subst (λ (es : List LifeEntry). All (λ (e : LifeEntry). low_key e < high) es) (sym whole) ends in
    let each1 = EachStands-split (Child sl m1) F R high (subst (λ (es : List LifeEntry). EachStands (Child sl m1) es high) (sym whole) e.each) in
    let first : first_low F (low_key second) ≡ low = first_low-any F (low_key second) (first_low R high) (omega (arith, count_f)) ∙ sym (first_low-append F R high) ∙ ap (λ (es : List LifeEntry). first_low es high) whole ∙ begins in
    let pages : list_pages sl m1 news ≡ list_pages sl m1 F ++ list_pages sl m1 R = ap (list_pages sl m1) (sym whole) ∙ flat_map-append (own_pages ByLives sl m1) F R in
    let lives : list_lives sl m1 news ≡ list_lives sl m1 F ++ list_lives sl m1 R = ap (list_lives sl m1) (sym whole) ∙ flat_map-append (own_lives ByLives sl m1) F R in
    record {
      holds_first = (first, λ k f h. omega (arith, middle, before k f h), omega (arith, count_f), subst (λ (h : ℕ). EachStands (Child sl m1) F h) starts each1.0);
      holds_last = (starts, All-right (λ (e : LifeEntry). low_key e < high) F R ends1, omega (arith, count_r), each1.1);
      lives = subst (λ (ds : List Dated). IsPutIn (list_lives sl m0 (entries_on ByLives m0 page)) ds d) lives e.lives;
      change = subst (λ (ps : List ℕ). Replaces (list_pages sl m0 (entries_on ByLives m0 page)) ps m0 m1) pages e.change;
      once = subst NamesNoneTwice pages e.once;
    }

-- The second page begins with its entry's low, where that has a life.
pub half_keeps : (level : ℕ) (m1 : PageMap) (news : List LifeEntry) (high : ℕ) (second : LifeEntry) → EachStands (Child level m1) news high → BeginsBy entry_name (drop 100 news) second
    → KeepsItsLow second (list_lives level m1 (drop 100 news))
half_keeps level m1 news high second each by =
    let F : List LifeEntry = take 100 news in
    let R : List LifeEntry = drop 100 news in
    let each1 = EachStands-split (Child level m1) F R high (subst (λ (es : List LifeEntry). EachStands (Child level m1) es high) (sym (take-append-drop 100 news)) each) in
    let x : LifeEntry = by.0 in
    let at = subst (λ (es : List LifeEntry). EachStands (Child level m1) es high) by.2 each1.1 in
    let keeps = low_further x (own_lives ByLives level m1 x) (list_lives level m1 by.1) at.0.1 in
    let keeps1 = subst (λ (es : List LifeEntry). KeepsItsLow x (list_lives level m1 es)) (sym by.2) keeps in
    same_low x second (list_lives level m1 R) by.3 by.4 keeps1 where
      same_low : (x second : LifeEntry) (ds : List Dated) → second.low_id ≡ x.low_id → second.low_life ≡ x.low_life → KeepsItsLow x ds → KeepsItsLow second ds
      same_low x second ds id life (inl none) = inl (life ∙ none)
      same_low x second [] id life (inr begins) = absurd begins
      same_low x second (d ∷ ds) id life (inr begins) = inr (begins ∙ sym (ap (λ (n : ℕ). key_of n second.low_life) id ∙ ap (key_of x.low_id) life))
