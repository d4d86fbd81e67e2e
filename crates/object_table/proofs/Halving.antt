-- A node that is stored in one page or in two.
use Rattle.std.proofs.Common.{◌≡◌, ◌≢◌, ℕ, suc, ◌+◌, ◌-◌, ◌<◌, ◌≤◌, inl, inr, List, ◌∷◌, ◌++◌, length, get_or, take, drop, sym, ap, ◌∙◌, subst, arith, drop-cons, length-drop}
use Rattle.std.specs.List.{All, AllAdjacentBelow}
use Rattle.std.proofs.lemmas.Bool.{cases_lt}
use Rattle.std.proofs.lemmas.List.{get_or-take, get_or-drop, get_or_default, length-take, length-take-le, take-append-drop, take_all}
use Rattle.std.proofs.lemmas.List.Elements.{All-take, All-drop}
use Rattle.bw_types.specs.declared.dated.Dated.{Dated}
use Rattle.arrayvec.specs.ArrayVec.{ArrayVec}
use Rattle.ports.specs.Pages.{PageMap}
use Rattle.page_layout.specs.Entries.{AreInOrder}
use Rattle.page_layout.specs.LifeNode.{IsLifeLeaf, IsLifeIndex}
use Rattle.page_layout.specs.declared.life_node.LifeNode.TheVariants.{Leaf, Index}
use Rattle.page_layout.specs.declared.life_node.LifeEntry.{LifeEntry}
use Rattle.object_table.specs.Edits.{IsPutIn}
use Rattle.object_table.specs.Keys.{key, AscendBy}
use Rattle.object_table.specs.Stored.{AreHalves, leaf_of, index_of}
use Rattle.object_table.proofs.Ordered.{asc_at, asc_from}

module _ {X : Type 0} where
  order_take : (R : X → X → Type 0) (n : ℕ) (xs : List X) → AllAdjacentBelow R xs (length xs) → AllAdjacentBelow R (take n xs) (length (take n xs))
  order_take R n xs adj = λ i d h.
      let less : i + 1 < n = omega (arith, h, length-take n xs) in
      let bound : i + 1 < length xs = omega (arith, h, length-take n xs) in
      let a : get_or (take n xs) i d ≡ get_or xs i d = get_or-take n xs i d (omega (arith, less)) in
      let b : get_or (take n xs) (i + 1) d ≡ get_or xs (i + 1) d = get_or-take n xs (i + 1) d less in
      subst (λ (x : X). R x (get_or (take n xs) (i + 1) d)) (sym a) (subst (λ (x : X). R (get_or xs i d) x) (sym b) (adj i d bound))

  order_drop : (R : X → X → Type 0) (n : ℕ) (xs : List X) → AllAdjacentBelow R xs (length xs) → AllAdjacentBelow R (drop n xs) (length (drop n xs))
  order_drop R n xs adj = λ i d h.
      let bound : n + i + 1 < length xs = omega (arith, h, length-drop n xs) in
      let a : get_or (drop n xs) i d ≡ get_or xs (n + i) d = get_or-drop n xs i d in
      let b : get_or (drop n xs) (i + 1) d ≡ get_or xs (n + i + 1) d = get_or-drop n xs (i + 1) d ∙ ap (λ (j : ℕ). get_or xs j d) (let e : n + (i + 1) ≡ n + i + 1 = omega arith in e) in
      subst (λ (x : X). R x (get_or (drop n xs) (i + 1) d)) (sym a) (subst (λ (x : X). R (get_or xs (n + i) d) x) (sym b) (adj (n + i) d bound))

  pub in_order_take : (P : X → Type 0) (R : X → X → Type 0) (n : ℕ) (xs : List X) → AreInOrder P R xs → AreInOrder P R (take n xs)
  in_order_take P R n xs o = record { each = All-take P n xs o.each; order = order_take R n xs o.order }

  pub in_order_drop : (P : X → Type 0) (R : X → X → Type 0) (n : ℕ) (xs : List X) → AreInOrder P R xs → AreInOrder P R (drop n xs)
  in_order_drop P R n xs o = record { each = All-drop P n xs o.each; order = order_drop R n xs o.order }

  -- a slice from the place on is the rest
  pub rest_all : (n : ℕ) (xs : List X) → take (length xs - n) (drop n xs) ≡ drop n xs
  rest_all n xs = take_all (length xs - n) (drop n xs) (omega (arith, length-drop n xs))

  pub taken_all : (n : ℕ) (shown xs : List X) → shown ≡ xs → n ≤ length xs → n ≡ length (take n shown)
  taken_all n shown xs same h = sym (ap (λ (l : List X). length (take n l)) same ∙ length-take-le n xs h)

  -- what stands at the place is the first of the rest
  pub at_place : (n : ℕ) (shown xs : List X) (d : X) → shown ≡ xs → n < length xs → drop n xs ≡ get_or shown n d ∷ drop (suc n) xs
  at_place n shown xs d same h = drop-cons xs n d h ∙ ap (λ (l : List X). get_or l n d ∷ drop (suc n) xs) (sym same)

pub leaf_halves : (xs shown first last : List Dated) → IsLifeLeaf 15 xs → 14 < length xs → shown ≡ xs → first ≡ take 7 shown → last ≡ take (length shown - 7) (drop 7 shown) → IsLifeLeaf 14 first × IsLifeLeaf 14 last
leaf_halves xs shown first last r long same a b =
    let long1 : 7 ≤ length xs = omega (arith, long) in
    let count_a = length-take-le 7 xs long1 in
    let count_b = length-drop 7 xs in (
      subst (IsLifeLeaf 14) (sym (a ∙ ap (take 7) same)) (record { some = omega (arith, count_a); few = omega (arith, count_a); in_order = in_order_take _ _ 7 xs r.in_order }),
      subst (IsLifeLeaf 14) (sym (b ∙ rest_all 7 shown ∙ ap (drop 7) same)) (record { some = omega (arith, count_b, long); few = omega (arith, count_b, r.few); in_order = in_order_drop _ _ 7 xs r.in_order }),
    )

pub index_halves : (level : ℕ) (xs shown first last : List LifeEntry) → IsLifeIndex 201 level xs → 200 < length xs → shown ≡ xs → first ≡ take 100 shown → last ≡ take (length shown - 100) (drop 100 shown)
    → IsLifeIndex 200 level first × IsLifeIndex 200 level last
index_halves level xs shown first last r long same a b =
    let long1 : 100 ≤ length xs = omega (arith, long) in
    let count_a = length-take-le 100 xs long1 in
    let count_b = length-drop 100 xs in (
      subst (IsLifeIndex 200 level) (sym (a ∙ ap (take 100) same))
          (record { low_level = r.low_level; high_level = r.high_level; some = omega (arith, count_a); few = omega (arith, count_a); in_order = in_order_take _ _ 100 xs r.in_order }),
      subst (IsLifeIndex 200 level) (sym (b ∙ rest_all 100 shown ∙ ap (drop 100) same))
          (record { low_level = r.low_level; high_level = r.high_level; some = omega (arith, count_b, long); few = omega (arith, count_b, r.few); in_order = in_order_drop _ _ 100 xs r.in_order }),
    )

-- Where the last of those at or below a key is not there, all are below it.
pub all_before : (xs : List Dated) (k v : ℕ) (d : Dated) → AscendBy key xs → k ≤ length xs → All (λ e. key e ≤ v) (take k xs) → (1 ≤ k → key (get_or xs (k - 1) d) ≢ v) → All (λ e. key e < v) (take k xs)
all_before xs k v d a bound begun other = λ j e h.
    let short : j < k = omega (arith, h, length-take k xs) in
    let same : get_or (take k xs) j d ≡ get_or xs j d = get_or-take k xs j d short in
    let same_e : get_or (take k xs) j e ≡ get_or (take k xs) j d = get_or_default (take k xs) j e d h in
    let last : key (get_or xs (k - 1) d) ≢ v = other (omega (arith, short)) in
    let last_begun : key (get_or (take k xs) (k - 1) d) ≤ v = begun (k - 1) d (omega (arith, short, bound, length-take k xs)) in
    let last_at : get_or (take k xs) (k - 1) d ≡ get_or xs (k - 1) d = get_or-take k xs (k - 1) d (omega (arith, short)) in
    let last_le : key (get_or xs (k - 1) d) ≤ v = subst (λ (x : Dated). key x ≤ v) last_at last_begun in
    let final : key (get_or xs j d) < v = elim (cases_lt j (k - 1)) [
      | inl less ↦ omega (arith, asc_at key xs j (k - 1) d a less (omega (arith, short, bound)), last_le)
      | inr not_less ↦
          let at : k - 1 ≡ j = omega (arith, short, not_less) in
          lt_from (key (get_or xs j d)) v (subst (λ (i : ℕ). key (get_or xs i d) ≤ v) at last_le) (subst (λ (i : ℕ). key (get_or xs i d) ≢ v) at last)
    ] in
    subst (λ (x : Dated). key x < v) (sym (same_e ∙ same)) final where
      lt_from : (a b : ℕ) → a ≤ b → a ≢ b → a < b
      lt_from a b le ne = omega (arith, le, ne)

pub put_new : (xs new shown : List Dated) (k : ℕ) (dated d : Dated) → shown ≡ xs → AllAdjacentBelow (λ d next. key d < key next) xs (length xs) → k ≤ length shown
    → All (λ e. key e ≤ key dated) (take k shown) → All (λ e. key dated < key e) (drop k shown) → (1 ≤ k → key (get_or shown (k - 1) d) ≢ key dated)
    → new ≡ take k xs ++ (dated ∷ drop k xs) → IsPutIn xs new dated
put_new xs new shown k dated d same adj bound begun later other made =
    let a = asc_from key xs adj in
    let bound1 = subst (λ (l : List Dated). k ≤ length l) same bound in
    let begun1 = subst (λ (l : List Dated). All (λ (e : Dated). key e ≤ key dated) (take k l)) same begun in
    let later1 = subst (λ (l : List Dated). All (λ (e : Dated). key dated < key e) (drop k l)) same later in
    let other1 = subst (λ (l : List Dated). 1 ≤ k → key (get_or l (k - 1) d) ≢ key dated) same other in
    record { before = take k xs; after = drop k xs; was = sym (take-append-drop k xs); is = made; less = all_before xs k (key dated) d a bound1 begun1 other1; more = later1 }

pub named_leaves : (first last : ArrayVec Dated) (xs shown : List Dated) (m0 m1 : PageMap) (page second : ℕ) → shown ≡ xs → first.items ≡ take 7 shown → last.items ≡ take (length shown - 7) (drop 7 shown)
    → AreHalves (Leaf first) (Leaf last) m0 m1 page second → AreHalves (leaf_of (take 7 xs)) (leaf_of (drop 7 xs)) m0 m1 page second
named_leaves first last xs shown m0 m1 page second same a b h =
    let a1 : first.items ≡ take 7 xs = a ∙ ap (take 7) same in
    let b1 : last.items ≡ drop 7 xs = b ∙ rest_all 7 shown ∙ ap (drop 7) same in
    subst (λ (l : List Dated). AreHalves (leaf_of (take 7 xs)) (leaf_of l) m0 m1 page second) b1 (subst (λ (l : List Dated). AreHalves (leaf_of l) (leaf_of last.items) m0 m1 page second) a1 h)

pub named_indexes : (level : ℕ) (first last : ArrayVec LifeEntry) (xs shown : List LifeEntry) (m0 m1 : PageMap) (page second : ℕ) → shown ≡ xs → first.items ≡ take 100 shown → last.items ≡ take (length shown - 100) (drop 100 shown)
    → AreHalves (Index level first) (Index level last) m0 m1 page second → AreHalves (index_of level (take 100 xs)) (index_of level (drop 100 xs)) m0 m1 page second
named_indexes level first last xs shown m0 m1 page second same a b h =
    let a1 : first.items ≡ take 100 xs = a ∙ ap (take 100) same in
    let b1 : last.items ≡ drop 100 xs = b ∙ rest_all 100 shown ∙ ap (drop 100) same in
    subst (λ (l : List LifeEntry). AreHalves (index_of level (take 100 xs)) (index_of level l) m0 m1 page second) b1 (subst (λ (l : List LifeEntry). AreHalves (index_of level l) (index_of level last.items) m0 m1 page second) a1 h)

pub put_beside : (xs new shown again : List Dated) (k y : ℕ) (dated d : Dated) → shown ≡ xs → again ≡ xs → AllAdjacentBelow (λ d next. key d < key next) xs (length xs) → k ≤ length shown
    → All (λ e. key e ≤ key dated) (take k shown) → All (λ e. key dated < key e) (drop k shown) → y ≡ key (get_or again (k - 1) d) → y ≢ key dated
    → new ≡ take k xs ++ (dated ∷ drop k xs) → IsPutIn xs new dated
put_beside xs new shown again k y dated d same same_again adj bound begun later is other made =
    put_new xs new shown k dated d same adj bound begun later
    (λ some e. other (is ∙ ap (λ (l : List Dated). key (get_or l (k - 1) d)) (same_again ∙ sym same) ∙ e)) made
