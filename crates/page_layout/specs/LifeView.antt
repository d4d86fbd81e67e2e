-- Nodes of object tables by id and life, read in place.
use Rattle.std.specs.Prelude.{◌≡◌, ◌≢◌, ℕ, ◌+◌, ◌*◌, ◌<◌, ◌==◌, min, List, [], ◌++◌, length, drop, get_or, slice_index, true, false, refl}
use Rattle.std.proofs.Common.{inl, inr, sym, ap, ◌∙◌, subst, append_assoc, arith}
use Rattle.std.proofs.lemmas.Bool.{cases_Bool, cases_eq, cond-true, cond-false, eq-eqb, ne_eqb}
use Rattle.std.proofs.lemmas.List.{drop-drop}
use Rattle.bw_types.specs.declared.dated.Dated.{Dated}
use Rattle.page_layout.specs.Numbers.{spelled, number_in}
use Rattle.page_layout.specs.Bytes.{AreBytes, bytes-drop}
use Rattle.page_layout.specs.Counted.{entries_of}
use Rattle.page_layout.specs.Dated.{IsDatedTyped, by_life_at}
use Rattle.page_layout.specs.LifeNode.{IsTyped, IsLifeEntryTyped, life_entry_bytes, life_entry_at, life_leaf_in, life_index_in, life_node_in, leaf_objects, index_entries}
use Rattle.page_layout.specs.Respelled.{Respells, respelled, respelled_at, number_in-lt, length-read, row_place, each_of}
use Rattle.page_layout.specs.Respelling.{by_life-typed}
use Rattle.page_layout.specs.declared.life_node.LifeNode.{LifeNode}
use Rattle.page_layout.specs.declared.life_node.LifeEntry.{LifeEntry}

-- An entry names each of its bytes, so any 20 bytes are the spelling of the entry that is read of them.
pub life_entry-respells : Respells life_entry_bytes life_entry_at 20
life_entry-respells b h room =
    let low_id : List ℕ = spelled 8 (number_in 8 b) in
    let low_life : List ℕ = spelled 4 (number_in 4 (drop 8 b)) in
    let child : List ℕ = spelled 8 (number_in 8 (drop 12 b)) in
    append_assoc low_id (low_life ++ child) (drop 20 b)
    ∙ ap (λ (r : List ℕ). low_id ++ r) (append_assoc low_life child (drop 20 b))
    ∙ ap (λ (r : List ℕ). low_id ++ (low_life ++ r)) (respelled_at 12 8 b h room)
    ∙ ap (λ (r : List ℕ). low_id ++ r) (respelled_at 8 4 b h (omega arith))
    ∙ respelled 8 b h (omega arith)

entry-typed : (b : List ℕ) → AreBytes b → IsLifeEntryTyped (life_entry_at b)
entry-typed b h = (number_in-lt 8 b h, number_in-lt 4 (drop 8 b) (bytes-drop 8 b h), number_in-lt 8 (drop 12 b) (bytes-drop 12 b h))

leaf-typed : (page : List ℕ) → AreBytes page → IsTyped (life_leaf_in page)
leaf-typed page h = each_of IsDatedTyped by_life_at 276 by_life-typed (min (number_in 2 (drop 2 page)) 14) (drop 16 page) (bytes-drop 16 page h)

index-typed : (page : List ℕ) → AreBytes page → IsTyped (life_index_in page)
index-typed page h = each_of IsLifeEntryTyped life_entry_at 20 entry-typed (min (number_in 2 (drop 2 page)) 200) (drop 16 page) (bytes-drop 16 page h)

-- A page of level 1 may spell a leaf, and one of another level an index node.
pub in_leaf : (page : List ℕ) → (slice_index page 1 == 1) ≡ true → life_node_in page ≡ life_leaf_in page
in_leaf page h = cond-true _ _ _ h

pub in_index : (page : List ℕ) → (slice_index page 1 == 1) ≡ false → life_node_in page ≡ life_index_in page
in_index page h = cond-false _ _ _ h

pub life_node_in-typed : (page : List ℕ) → AreBytes page → IsTyped (life_node_in page)
life_node_in-typed page h = elim (cases_Bool (slice_index page 1 == 1)) [
  | inl leaf ↦ subst (λ (node : LifeNode). IsTyped node) (sym (in_leaf page leaf)) (leaf-typed page h)
  | inr index ↦ subst (λ (node : LifeNode). IsTyped node) (sym (in_index page index)) (index-typed page h)
]

-- what a leaf's page and an index node's have in their places
pub leaf_objects-in : (page : List ℕ) → slice_index page 1 ≡ 1 → leaf_objects (life_node_in page) ≡ entries_of by_life_at 276 14 page
leaf_objects-in page one = ap leaf_objects (in_leaf page (eq-eqb (slice_index page 1) 1 one))

pub leaf_objects-none : (page : List ℕ) → slice_index page 1 ≢ 1 → leaf_objects (life_node_in page) ≡ []
leaf_objects-none page other = ap leaf_objects (in_index page (ne_eqb (slice_index page 1) 1 other))

pub index_entries-in : (page : List ℕ) → slice_index page 1 ≢ 1 → index_entries (life_node_in page) ≡ entries_of life_entry_at 20 200 page
index_entries-in page other = ap index_entries (in_index page (ne_eqb (slice_index page 1) 1 other))

pub index_entries-none : (page : List ℕ) → slice_index page 1 ≡ 1 → index_entries (life_node_in page) ≡ []
index_entries-none page one = ap index_entries (in_leaf page (eq-eqb (slice_index page 1) 1 one))

module _ (page : List ℕ) (node : LifeNode) (is_node : life_node_in page ≡ node) (place : ℕ) where
  -- A place of a leaf's is one of its page.
  pub object_within : place < length (leaf_objects node) → place < 14
  object_within lt = elim (cases_eq (slice_index page 1) 1) [
    | inl one ↦ omega (arith, lt, ap (λ (n : LifeNode). length (leaf_objects n)) is_node, ap length (leaf_objects-in page one), length-read by_life_at 276 (min (number_in 2 (drop 2 page)) 14) (drop 16 page))
    | inr other ↦ absurd (omega (arith, lt, ap (λ (n : LifeNode). length (leaf_objects n)) is_node, ap length (leaf_objects-none page other)))
  ]

  pub object_on : place < length (leaf_objects node) → (o : Dated) → o ≡ by_life_at (drop (place * 276) (drop 16 page)) → (d : Dated) → o ≡ get_or (leaf_objects node) place d
  object_on lt o is_o d = elim (cases_eq (slice_index page 1) 1) [
    | inl one ↦ row_place by_life_at 276 (min (number_in 2 (drop 2 page)) 14) (drop 16 page) (leaf_objects node) (ap leaf_objects (sym is_node) ∙ leaf_objects-in page one) place lt o is_o d
    | inr other ↦ absurd (omega (arith, lt, ap (λ (n : LifeNode). length (leaf_objects n)) is_node, ap length (leaf_objects-none page other)))
  ]

  -- A place of an index node's is one of its page.
  pub entry_within : place < length (index_entries node) → place < 200
  entry_within lt = elim (cases_eq (slice_index page 1) 1) [
    | inl one ↦ absurd (omega (arith, lt, ap (λ (n : LifeNode). length (index_entries n)) is_node, ap length (index_entries-none page one)))
    | inr other ↦ omega (arith, lt, ap (λ (n : LifeNode). length (index_entries n)) is_node, ap length (index_entries-in page other), length-read life_entry_at 20 (min (number_in 2 (drop 2 page)) 200) (drop 16 page))
  ]

  pub entry_on : place < length (index_entries node) → (e : LifeEntry) → e ≡ life_entry_at (drop (place * 20) (drop 16 page)) → (d : LifeEntry) → e ≡ get_or (index_entries node) place d
  entry_on lt e is_e d = elim (cases_eq (slice_index page 1) 1) [
    | inl one ↦ absurd (omega (arith, lt, ap (λ (n : LifeNode). length (index_entries n)) is_node, ap length (index_entries-none page one)))
    | inr other ↦ row_place life_entry_at 20 (min (number_in 2 (drop 2 page)) 200) (drop 16 page) (index_entries node) (ap index_entries (sym is_node) ∙ index_entries-in page other) place lt e is_e d
  ]

  pub id_on : place < length (leaf_objects node) → (n : ℕ) → n ≡ number_in 8 (drop (16 + place * 276) page) → (d : Dated) → n ≡ (get_or (leaf_objects node) place d).object.id
  id_on lt n is_n d =
      is_n ∙ ap (λ (b : List ℕ). number_in 8 b) (sym (drop-drop (place * 276) 16 page))
      ∙ ap (λ (o : Dated). o.object.id) (object_on lt (by_life_at (drop (place * 276) (drop 16 page))) refl d)

  pub life_on : place < length (leaf_objects node) → (n : ℕ) → n ≡ number_in 4 (drop (16 + place * 276 + 272) page) → (d : Dated) → n ≡ (get_or (leaf_objects node) place d).life
  life_on lt n is_n d =
      is_n ∙ ap (λ (b : List ℕ). number_in 4 b) (sym (drop-drop 272 (16 + place * 276) page) ∙ ap (λ (b : List ℕ). drop 272 b) (sym (drop-drop (place * 276) 16 page)))
      ∙ ap (λ (o : Dated). o.life) (object_on lt (by_life_at (drop (place * 276) (drop 16 page))) refl d)

-- how many objects a leaf's page has, and how many entries an index node's
pub object_len : (page : List ℕ) (node : LifeNode) → life_node_in page ≡ node → slice_index page 1 ≡ 1 → min (number_in 2 (drop 2 page)) 14 ≡ length (leaf_objects node)
object_len page node is_node one =
    sym (length-read by_life_at 276 (min (number_in 2 (drop 2 page)) 14) (drop 16 page)) ∙ ap length (sym (leaf_objects-in page one)) ∙ ap (λ (n : LifeNode). length (leaf_objects n)) is_node

pub entry_len : (page : List ℕ) (node : LifeNode) → life_node_in page ≡ node → slice_index page 1 ≢ 1 → min (number_in 2 (drop 2 page)) 200 ≡ length (index_entries node)
entry_len page node is_node other =
    sym (length-read life_entry_at 20 (min (number_in 2 (drop 2 page)) 200) (drop 16 page)) ∙ ap length (sym (index_entries-in page other)) ∙ ap (λ (n : LifeNode). length (index_entries n)) is_node
