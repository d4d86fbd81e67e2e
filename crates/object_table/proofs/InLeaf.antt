-- A leaf into which an object was put.
use Rattle.std.proofs.Common.{◌≡◌, ℕ, ◌<◌, ◌≤◌, IsTrue, inr, List, [], ◌∷◌, ◌++◌, length, take, drop, refl, sym, ap, ◌∙◌, subst, arith, length-drop}
use Rattle.std.specs.List.{All}
use Rattle.std.proofs.lemmas.List.{take-append-drop, length-take-le}
use Rattle.bw_types.specs.declared.dated.Dated.{Dated}
use Rattle.ports.specs.Pages.{PageMap}
use Rattle.ports.specs.Frame.{Replaces}
use Rattle.ports.specs.FrameLaws.{Replaces-same}
use Rattle.page_layout.specs.Dated.{by_life_fits, IsDatedTyped}
use Rattle.page_layout.specs.LifeNode.{IsLifeLeaf}
use Rattle.page_layout.specs.declared.life_node.LifeNode.{LifeNode}
use Rattle.page_layout.specs.declared.life_node.LifeEntry.{LifeEntry}
use Rattle.object_table.specs.Keys.{key, key_of, low_key, AscendBy}
use Rattle.object_table.specs.Nodes.{objects_in, entries_in}
use Rattle.object_table.specs.Edits.{IsPutIn}
use Rattle.object_table.specs.Stands.{KeepsItsLow, BeginWith}
use Rattle.object_table.specs.Stored.{BeginsBy, object_name, leaf_of}
use Rattle.object_table.proofs.Landing.{ListEntered, HalvesEntered}
use Rattle.object_table.proofs.Order.{All-left, All-right}
use Rattle.object_table.proofs.Ordered.{proper_insert, asc_before, asc_first, asc_right}
use Rattle.object_table.proofs.PuttingIn.{all_put, length_put}
use Rattle.object_table.proofs.Rules.{ProperObjects, leaf_proper, leaf_rules}
use Rattle.object_table.proofs.Standing.{NodeHolds, node_pages, no_pages}

pub proper_put : (old new : List Dated) (d : Dated) → IsPutIn old new d → ProperObjects old → IsTrue (by_life_fits d) → IsDatedTyped d → ProperObjects new
proper_put old new d p proper fits typed =
    subst ProperObjects (sym p.is) (proper_insert key (λ d. IsTrue (by_life_fits d)) IsDatedTyped p.before p.after d (subst ProperObjects p.was proper) fits typed p.less p.more)

no_change : (m : PageMap) (xs ys : List ℕ) → xs ≡ [] → ys ≡ [] → Replaces xs ys m m
no_change m xs ys a b = subst (λ (ps : List ℕ). Replaces ps ys m m) (sym a) (subst (λ (ps : List ℕ). Replaces [] ps m m) (sym b) (Replaces-same [] m))

pub leaf_entered : (m : PageMap) (old : LifeNode) (new : List Dated) (low high least : ℕ) (d : Dated) → IsPutIn (objects_in old) new d → NodeHolds 0 m old low high least
    → low ≤ key d → key d < high → ListEntered 0 m m old (leaf_of new) low high least d
leaf_entered m old new low high least d p h from below = record {
  holds = (
    all_put (λ (e : Dated). low ≤ key e) (objects_in old) new d p h.0 from,
    all_put (λ (e : Dated). key e < high) (objects_in old) new d p h.1 below,
    omega (arith, h.2, length_put (objects_in old) new d p),
  );
  lives = p;
  change = no_change m (node_pages 0 m old) [] (no_pages m (entries_in old)) refl;
  once = tt;
}

pub leaf_halves : (m : PageMap) (old : LifeNode) (new : List Dated) (low high least : ℕ) (d : Dated) (second : LifeEntry) → IsPutIn (objects_in old) new d → NodeHolds 0 m old low high least
    → low ≤ key d → key d < high → ProperObjects new → length new ≡ 15 → BeginsBy object_name (drop 7 new) second
    → HalvesEntered 0 m m old (leaf_of (take 7 new)) (leaf_of (drop 7 new)) low (low_key second) high d
leaf_halves m old new low high least d second p h from below proper long by =
    let F : List Dated = take 7 new in
    let R : List Dated = drop 7 new in
    let whole : F ++ R ≡ new = take-append-drop 7 new in
    let x : Dated = by.0 in
    let count_f : length F ≡ 7 = length-take-le 7 new (omega (arith, long)) in
    let count_r : length R ≡ 8 = omega (arith, long, length-drop 7 new) in
    let middle : key x ≡ low_key second = sym (ap (λ (n : ℕ). key_of n second.low_life) by.3 ∙ ap (key_of x.object.id) by.4) in
    let asc = subst (AscendBy key) (sym whole ∙ ap (λ (es : List Dated). F ++ es) by.2) proper.asc in
    let before = asc_before key F x by.1 asc in
    let rest = subst (λ (ds : List Dated). All (λ (e : Dated). key x ≤ key e) ds) (sym by.2) (asc_first key x by.1 (asc_right key F (x ∷ by.1) asc)) in
    let all_from = subst (λ (ds : List Dated). All (λ (e : Dated). low ≤ key e) ds) (sym whole) (all_put (λ (e : Dated). low ≤ key e) (objects_in old) new d p h.0 from) in
    let all_below = subst (λ (ds : List Dated). All (λ (e : Dated). key e < high) ds) (sym whole) (all_put (λ (e : Dated). key e < high) (objects_in old) new d p h.1 below) in
    record {
      holds_first = (All-left (λ (e : Dated). low ≤ key e) F R all_from, λ k e g. omega (arith, middle, before k e g), omega (arith, count_f));
      holds_last = (λ k e g. omega (arith, middle, rest k e g), All-right (λ (e : Dated). key e < high) F R all_below, omega (arith, count_r));
      lives = subst (λ (ds : List Dated). IsPutIn (objects_in old) ds d) (sym whole) p;
      change = no_change m (node_pages 0 m old) [] (no_pages m (entries_in old)) refl;
      once = tt;
    }

pub leaf_keeps : (new : List Dated) (second : LifeEntry) → BeginsBy object_name (drop 7 new) second → KeepsItsLow second (drop 7 new)
leaf_keeps new second by =
    let x : Dated = by.0 in
    let begins : BeginWith (x ∷ by.1) (low_key second) = sym (ap (λ (n : ℕ). key_of n second.low_life) by.3 ∙ ap (key_of x.object.id) by.4) in
    inr (subst (λ (ds : List Dated). BeginWith ds (low_key second)) (sym by.2) begins)

pub put_rules : (old new : List Dated) (d : Dated) → IsLifeLeaf 14 old → All IsDatedTyped old → IsDatedTyped d → IsTrue (by_life_fits d) → IsPutIn old new d → IsLifeLeaf 15 new
put_rules old new d rules typed types fits p =
    let count = length_put old new d p in
    leaf_rules 15 new (proper_put old new d p (leaf_proper 14 old rules typed) fits types) (omega (arith, count)) (omega (arith, count, rules.few))
