-- One step of entering, from what its calls answer.
use Rattle.std.proofs.Common.{◌≡◌, ℕ, ◌<◌, ◌≤◌, IsTrue, List, [], ◌∷◌, ◌++◌, length, get_or, take, drop, Option, Some, None, sym, ap, ◌∙◌, subst, arith, length-drop}
use Rattle.std.specs.List.{All}
use Rattle.std.proofs.lemmas.List.{take-append-drop, length-take-le}
use Rattle.bw_types.specs.declared.dated.Dated.{Dated}
use Rattle.ports.specs.Pages.{PageMap}
use Rattle.page_layout.specs.Damage.{HoldsNoNode, IsDamagedBelow, NothingBeside}
use Rattle.page_layout.specs.DamageLaws as laws
use Rattle.page_layout.specs.Dated.{by_life_fits, IsDatedTyped}
use Rattle.page_layout.specs.Footprint.{NamesNoneTwice}
use Rattle.page_layout.specs.LifeNode.{IsLifeLeaf, life_node_page}
use Rattle.page_layout.specs.declared.life_node.LifeNode.{LifeNode}
use Rattle.page_layout.specs.declared.life_node.LifeEntry.{LifeEntry}
use Rattle.object_table.specs.declared.form.Form.TheVariants.{ByLives}
use Rattle.object_table.specs.declared.place.Place.{Place}
use Rattle.object_table.specs.Damage.{FitsPlace, FitsAsked, IsFullBelow, LeadsTo}
use Rattle.object_table.specs.Edits.{IsPutIn}
use Rattle.object_table.specs.Entered.{IsEntered, SecondFits, WasFull}
use Rattle.object_table.specs.Keys.{key, key_of, low_key, AscendBy}
use Rattle.object_table.specs.Lives.{pages_below}
use Rattle.object_table.specs.Nodes.{node_on, objects_in, objects_on}
use Rattle.object_table.specs.Stands.{StandsBelow}
use Rattle.object_table.specs.Stored.{IsStored, IsSecondOf, OthersStay, object_name, leaf_of}
use Rattle.object_table.proofs.InLeaf.{proper_put, leaf_entered, leaf_halves, leaf_keeps}
use Rattle.object_table.proofs.Landing.{landed_whole, landed_halves}
use Rattle.object_table.proofs.Nodes.{node_on-fits, same_spelled}
use Rattle.object_table.proofs.Order.{All-left, All-right}
use Rattle.object_table.proofs.Ordered.{proper_take, proper_drop, asc_before}
use Rattle.object_table.proofs.PuttingIn.{all_put, length_put}
use Rattle.object_table.proofs.Reading.{leaf_is}
use Rattle.object_table.proofs.Rules.{leaf_proper, fits_leaf}
use Rattle.object_table.proofs.Standing.{split_stands}

-- A leaf that was read in its place.
pub record ReadLeaf (level : ℕ) (place : Place) (bytes : List ℕ) (objects : List Dated) : Type 0 where
  pub one : level ≡ 1
  pub spelled : bytes ≡ life_node_page (leaf_of objects)
  pub rules : IsLifeLeaf 14 objects
  pub typed : All IsDatedTyped objects
  pub fits : FitsPlace ByLives level place (leaf_of objects) bytes

pub read_leaf : (level : ℕ) (place : Place) (node : LifeNode) (bytes : List ℕ) (objects : List Dated) → FitsPlace ByLives level place node bytes → node ≡ leaf_of objects → ReadLeaf level place bytes objects
read_leaf level place node bytes objects f is =
    let f1 = subst (λ (n : LifeNode). FitsPlace ByLives level place n bytes) is f in
    record { one = sym f1.fits.at_level; spelled = f1.fits.spelled; rules = f1.fits.rules; typed = f1.fits.typed; fits = f1 }

pub leaf_seen : (level : ℕ) (place : Place) (node : LifeNode) (bytes : List ℕ) (objects : List Dated) → level ≡ 1 → FitsPlace ByLives level place node bytes → objects ≡ objects_in node
    → ReadLeaf level place bytes objects
leaf_seen level place node bytes objects one f same =
    read_leaf level place node bytes objects f (leaf_is level node bytes one f.fits ∙ ap leaf_of (sym same))

-- An object goes into the leaf.
pub record IntoLeaf (place : Place) (d : Dated) (objects new : List Dated) : Type 0 where
  pub put : IsPutIn objects new d
  pub rules : IsTrue (by_life_fits d)
  pub typed : IsDatedTyped d
  pub from : place.low ≤ place.sought
  pub below : place.sought < place.high
  pub sought : place.sought ≡ key d

-- where the second half of a list in order begins
pub second_between : {X : Type 0} (k : X → ℕ) (n : ℕ) (xs : List X) (x : X) (rest : List X) (low high : ℕ) → drop n xs ≡ x ∷ rest → 1 ≤ n → n ≤ length xs → AscendBy k xs
    → All (λ y. low ≤ k y) xs → All (λ y. k y < high) xs → (low < k x) × (k x < high)
second_between {X} k n xs x rest low high is some bound asc from below =
    let whole : take n xs ++ (x ∷ rest) ≡ xs = ap (λ (ys : List X). take n xs ++ ys) (sym is) ∙ take-append-drop n xs in
    let asc1 = subst (AscendBy k) (sym whole) asc in
    let from1 = subst (λ (ys : List X). All (λ (y : X). low ≤ k y) ys) (sym whole) from in
    let below1 = subst (λ (ys : List X). All (λ (y : X). k y < high) ys) (sym whole) below in
    let count = length-take-le n xs bound in
    let here : k (get_or (take n xs) 0 x) < k x = asc_before k (take n xs) x rest asc1 0 x (omega (arith, count, some)) in
    let least : low ≤ k (get_or (take n xs) 0 x) = All-left (λ (y : X). low ≤ k y) (take n xs) (x ∷ rest) from1 0 x (omega (arith, count, some)) in
    (omega (arith, here, least), All-right (λ (y : X). k y < high) (take n xs) (x ∷ rest) below1 0 x (omega arith))

pub first_typed : {X : Type 0} (typed : X → Type 0) (n : ℕ) (xs : List X) (x : X) (rest : List X) → drop n xs ≡ x ∷ rest → All typed xs → typed x
first_typed {X} typed n xs x rest is all =
    let whole : take n xs ++ (x ∷ rest) ≡ xs = ap (λ (ys : List X). take n xs ++ ys) (sym is) ∙ take-append-drop n xs in
    All-right typed (take n xs) (x ∷ rest) (subst (λ (ys : List X). All typed ys) (sym whole) all) 0 x (omega arith)

pub leaf_second : (level : ℕ) (place : Place) (bytes : List ℕ) (d : Dated) (objects new : List Dated) (second : Option LifeEntry) → ReadLeaf level place bytes objects → IntoLeaf place d objects new
    → IsSecondOf object_name 14 7 new second → SecondFits place.low place.high second
leaf_second level place bytes d objects new None r i s = tt
leaf_second level place bytes d objects new (Some second) r i s =
    let by = s.2 in
    let x : Dated = by.0 in
    let proper = proper_put objects new d i.put (leaf_proper 14 objects r.rules r.typed) i.rules i.typed in
    let from = all_put (λ (e : Dated). place.low ≤ key e) objects new d i.put r.fits.admitted.from (omega (arith, i.from, i.sought)) in
    let below = all_put (λ (e : Dated). key e < place.high) objects new d i.put r.fits.admitted.ends (omega (arith, i.below, i.sought)) in
    let between = second_between key 7 new x by.1 place.low place.high by.2 (omega arith) (omega (arith, s.3)) proper.asc from below in
    let typed = first_typed IsDatedTyped 7 new x by.1 by.2 proper.types in
    let middle : low_key second ≡ key x = ap (λ (n : ℕ). key_of n second.low_life) by.3 ∙ ap (key_of x.object.id) by.4 in
    record {
      child = s.0;
      from = omega (arith, middle, between.0);
      below = omega (arith, middle, between.1);
      typed = (omega (arith, by.3, typed.object.id), omega (arith, by.4, typed.life), s.1);
    }

pub leaf_full : (level : ℕ) (m : PageMap) (page : ℕ) (place : Place) (bytes : List ℕ) (d : Dated) (objects new : List Dated) (second : Option LifeEntry) → m page ≡ Some bytes → ReadLeaf level place bytes objects
    → IntoLeaf place d objects new → IsSecondOf object_name 14 7 new second → WasFull second (IsFullBelow level m page place.sought)
leaf_full level m page place bytes d objects new None there r i s = tt
leaf_full level m page place bytes d objects new (Some second) there r i s =
    let on = node_on-fits ByLives m page level (leaf_of objects) bytes there r.fits.fits in
    let full : length (objects_on ByLives m page) ≡ 14 = ap (λ (n : LifeNode). length (objects_in n)) on ∙ (let e : length objects ≡ 14 = omega (arith, s.3, length_put objects new d i.put) in e) in
    subst (λ (l : ℕ). IsFullBelow l m page place.sought) (sym r.one) full

leaf_step : (m0 m2 : PageMap) (page least : ℕ) (place : Place) (bytes : List ℕ) (d : Dated) (objects new : List Dated) (second : Option LifeEntry) → m0 page ≡ Some bytes → ReadLeaf 1 place bytes objects
    → IntoLeaf place d objects new → StandsBelow ByLives 1 m0 page place.low place.high least → NamesNoneTwice (pages_below ByLives 1 m0 page)
    → IsStored leaf_of object_name 14 7 new m0 m2 page second → IsEntered 1 m0 m2 page place.low place.high least d second
leaf_step m0 m2 page least place bytes d objects new None there r i s once st =
    let node : LifeNode = node_on ByLives m0 page in
    let on : node ≡ leaf_of objects = node_on-fits ByLives m0 page 1 (leaf_of objects) bytes there r.fits.fits in
    let both = split_stands 0 m0 page place.low place.high least s in
    let put = subst (λ (ds : List Dated). IsPutIn ds new d) (sym (ap objects_in on)) i.put in
    let proper = proper_put objects new d i.put (leaf_proper 14 objects r.rules r.typed) i.rules i.typed in
    let from : place.low ≤ key d = omega (arith, i.from, i.sought) in
    let below : key d < place.high = omega (arith, i.below, i.sought) in
    landed_whole 0 m0 m0 m2 page place.low place.high least d (leaf_of new) both.0 once (fits_leaf new proper (omega (arith, length_put objects new d i.put)) st.0)
    (leaf_entered m0 node new place.low place.high least d put both.1 from below) st.1
leaf_step m0 m2 page least place bytes d objects new (Some second) there r i s once st =
    let node : LifeNode = node_on ByLives m0 page in
    let on : node ≡ leaf_of objects = node_on-fits ByLives m0 page 1 (leaf_of objects) bytes there r.fits.fits in
    let both = split_stands 0 m0 page place.low place.high least s in
    let put = subst (λ (ds : List Dated). IsPutIn ds new d) (sym (ap objects_in on)) i.put in
    let proper = proper_put objects new d i.put (leaf_proper 14 objects r.rules r.typed) i.rules i.typed in
    let from : place.low ≤ key d = omega (arith, i.from, i.sought) in
    let below : key d < place.high = omega (arith, i.below, i.sought) in
    let long : length new ≡ 15 = omega (arith, st.0) in
    let count_f : length (take 7 new) ≡ 7 = length-take-le 7 new (omega (arith, long)) in
    let count_r : length (drop 7 new) ≡ 8 = omega (arith, long, length-drop 7 new) in
    landed_halves 0 m0 m0 m2 page place.low place.high least d (leaf_of (take 7 new)) (leaf_of (drop 7 new)) second both.0 once
    (fits_leaf (take 7 new) (proper_take key _ _ 7 new proper) (omega (arith, count_f)) (omega (arith, count_f)))
    (fits_leaf (drop 7 new) (proper_drop key _ _ 7 new proper) (omega (arith, count_r)) (omega (arith, count_r)))
    (leaf_halves m0 node new place.low place.high least d second put both.1 from below proper long st.1) (leaf_keeps new second st.1) st.2

pub leaf_result : (level : ℕ) (m0 m1 m2 : PageMap) (page least : ℕ) (place : Place) (bytes : List ℕ) (d : Dated) (objects new : List Dated) (second : Option LifeEntry) → m1 ≡ m0 → m0 page ≡ Some bytes
    → ReadLeaf level place bytes objects → IntoLeaf place d objects new → StandsBelow ByLives level m0 page place.low place.high least → NamesNoneTwice (pages_below ByLives level m0 page)
    → IsStored leaf_of object_name 14 7 new m1 m2 page second → IsEntered level m0 m2 page place.low place.high least d second
leaf_result level m0 m1 m2 page least place bytes d objects new second same there r i s once stored =
    let stored1 = subst (λ (m : PageMap). IsStored leaf_of object_name 14 7 new m m2 page second) same stored in
    let r1 = subst (λ (l : ℕ). ReadLeaf l place bytes objects) r.one r in
    let s1 = subst (λ (l : ℕ). StandsBelow ByLives l m0 page place.low place.high least) r.one s in
    let once1 = subst (λ (l : ℕ). NamesNoneTwice (pages_below ByLives l m0 page)) r.one once in
    subst (λ (l : ℕ). IsEntered l m0 m2 page place.low place.high least d second) (sym r.one) (leaf_step m0 m2 page least place bytes d objects new second there r1 i s1 once1 stored1)

-- A leaf that has the key is damaged for an object of that key, and so is a page without a node.
pub has_damaged : (asked : List Dated → Type 0) (m : PageMap) (level page damaged : ℕ) (place : Place) (bytes : List ℕ) (objects : List Dated) → m page ≡ Some bytes → ReadLeaf level place bytes objects → (asked objects → ⊥) → damaged ≡ page
    → IsDamagedBelow (FitsAsked asked ByLives) LeadsTo NothingBeside m level place page damaged
has_damaged asked m level page damaged place bytes objects there r refused same =
    laws.damaged_here (FitsAsked asked ByLives) LeadsTo NothingBeside m level place page damaged (omega (arith, r.one)) same
    (λ node other at fits.
    let same_bytes : other ≡ bytes = some_same other bytes (sym at ∙ there) in
    let f1 = subst (λ (b : List ℕ). FitsAsked asked ByLives level place node b) same_bytes fits in
    let is : node ≡ leaf_of objects = same_spelled ByLives bytes level level node (leaf_of objects) f1.fits.fits r.fits.fits in
    refused (subst (λ (n : LifeNode). asked (objects_in n)) is (f1.leaf r.one))) where
      some_same : (x y : List ℕ) → Some x ≡ Some y → x ≡ y
      some_same x y e = cc

pub none_damaged : (asked : List Dated → Type 0) (m : PageMap) (level page damaged : ℕ) (place : Place) → 1 ≤ level → HoldsNoNode (FitsPlace ByLives) m level place page → damaged ≡ page
    → IsDamagedBelow (FitsAsked asked ByLives) LeadsTo NothingBeside m level place page damaged
none_damaged asked m level page damaged place some none same =
    laws.damaged_here (FitsAsked asked ByLives) LeadsTo NothingBeside m level place page damaged some same (λ node bytes at fits. none node bytes at fits.fits)

-- what was put into the leaf
pub into_leaf : (place : Place) (d : Dated) (objects new : List Dated) → IsPutIn objects new d → IsTrue (by_life_fits d) → IsDatedTyped d → (place.low ≤ place.sought) × (place.sought < place.high) × (place.sought ≡ key d)
    → IntoLeaf place d objects new
into_leaf place d objects new put rules typed bounds = record { put = put; rules = rules; typed = typed; from = bounds.0; below = bounds.1; sought = bounds.2 }

-- A leaf that is stored leaves the other pages alone.
pub leaf_apart : (level : ℕ) (m0 m1 m2 : PageMap) (page : ℕ) (place : Place) (bytes : List ℕ) (objects : List Dated) → ReadLeaf level place bytes objects → m1 ≡ m0
    → OthersStay (page ∷ []) m1 m2 → OthersStay (pages_below ByLives level m0 page) m0 m2
leaf_apart level m0 m1 m2 page place bytes objects r same stay =
    subst (λ (l : ℕ). OthersStay (pages_below ByLives l m0 page) m0 m2) (sym r.one) (subst (λ (m : PageMap). OthersStay (page ∷ []) m m2) same stay)
