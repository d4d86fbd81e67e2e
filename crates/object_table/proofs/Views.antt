-- Nodes that are read where their page stands.
use Rattle.std.proofs.Common.{◌≡◌, ℕ, ◌+◌, ◌<◌, ◌≤◌, List, [], ◌∷◌, length, map, take, drop, get_or, Option, Some, refl, sym, ap, ◌∙◌, subst, arith, length-drop}
use Rattle.std.specs.List.{All, AllAdjacentBelow}
use Rattle.std.specs.Option.{option_or}
use Rattle.std.proofs.lemmas.Bool.{eq-eqb, ne_eqb}
use Rattle.std.proofs.lemmas.List.Elements.{All-cons, All-nil}
use Rattle.std.proofs.lemmas.List.{take_more, get_or-take, get_or-drop, length-take, length-map}
use Rattle.std.proofs.lemmas.List.Sorted.{IsNonDecreasingBy-from_all_adjacent}
use Rattle.bw_types.specs.declared.dated.Dated.{Dated}
use Rattle.page_layout.specs.LifeNode as by_lives
use Rattle.page_layout.specs.TableNode as by_ids
use Rattle.page_layout.specs.declared.life_node.LifeNode.{LifeNode}
use Rattle.page_layout.specs.declared.life_node.LifeNode.TheVariants.{Leaf, Index}
use Rattle.page_layout.specs.declared.life_node.LifeEntry.{LifeEntry}
use Rattle.page_layout.specs.declared.table_node.TableNode.{TableNode}
use Rattle.page_layout.specs.declared.table_node.TableNode.TheVariants as table_node
use Rattle.object_table.specs.declared.form.Form.{Form}
use Rattle.object_table.specs.declared.form.Form.TheVariants.{ByLives, ByIds}
use Rattle.object_table.specs.Keys.{low_key}
use Rattle.object_table.specs.Nodes.{life_entry, life_node, FitsLevel, objects_in, entries_in}
use Rattle.object_table.specs.Lives.{last_life}
use Rattle.object_table.specs.Views.{IsInOrder, shown_by}
use Rattle.object_table.specs.declared.view.Shown.{Shown}
use Rattle.object_table.specs.declared.view.Shown.TheVariants.{Ids}
use Rattle.object_table.proofs.Nodes.{entries_adjacent}
use Rattle.object_table.proofs.Order.{All-join}
use Rattle.object_table.proofs.Searching.{last_life-append, last_life-one, last_life-other}

few_objects_in : (form : Form) (level : ℕ) (node : LifeNode) (bytes : List ℕ) → FitsLevel form level node bytes → length (objects_in node) ≤ 15
few_objects_in ByLives level (Leaf objects) bytes f = omega (arith, f.rules.few)
few_objects_in ByLives level (Index l entries) bytes f = omega arith
few_objects_in ByIds level node bytes f = subst (λ (n : LifeNode). length (objects_in n) ≤ 15) (sym f.2) (told_few f.0 f.1.rules) where
  told_few : (told : TableNode) → by_ids.IsTableNode told → length (objects_in (life_node told)) ≤ 15
  told_few (table_node.Leaf objects) rules = rules.few
  told_few (table_node.Index l entries) rules = omega arith

few_entries_in : (form : Form) (level : ℕ) (node : LifeNode) (bytes : List ℕ) → FitsLevel form level node bytes → length (entries_in node) ≤ 200
few_entries_in ByLives level (Leaf objects) bytes f = omega arith
few_entries_in ByLives level (Index l entries) bytes f = f.rules.few
few_entries_in ByIds level node bytes f = subst (λ (n : LifeNode). length (entries_in n) ≤ 200) (sym f.2) (told_few f.0 f.1.rules) where
  told_few : (told : TableNode) → by_ids.IsTableNode told → length (entries_in (life_node told)) ≤ 200
  told_few (table_node.Leaf objects) rules = omega arith
  told_few (table_node.Index l entries) rules = omega (arith, rules.few, length-map entries.items life_entry)

pub in_order : (form : Form) (level : ℕ) (node : LifeNode) (bytes : List ℕ) → FitsLevel form level node bytes → IsInOrder node
in_order form level node bytes f =
    record {
      order = entries_adjacent form level node bytes f;
      few_objects = few_objects_in form level node bytes f;
      few_entries = few_entries_in form level node bytes f;
    }

-- what the views of the two forms tell
pub lives_objects : (n : LifeNode) → by_lives.leaf_objects n ≡ objects_in n
lives_objects (Leaf objects) = refl
lives_objects (Index l entries) = refl

pub lives_entries : (n : LifeNode) → by_lives.index_entries n ≡ entries_in n
lives_entries (Leaf objects) = refl
lives_entries (Index l entries) = refl

pub ids_objects : (n : TableNode) → by_ids.leaf_objects n ≡ objects_in (life_node n)
ids_objects (table_node.Leaf objects) = refl
ids_objects (table_node.Index l entries) = refl

pub ids_entries : (n : TableNode) → map life_entry (by_ids.index_entries n) ≡ entries_in (life_node n)
ids_entries (table_node.Leaf objects) = refl
ids_entries (table_node.Index l entries) = refl

pub shown_ids : (shown : Shown) (n : TableNode) (node : LifeNode) → shown ≡ Ids n → shown_by shown ≡ node → life_node n ≡ node
shown_ids shown n node is told = ap shown_by (sym is) ∙ told

-- the entries ascend
abbrev pub Adjacent : List LifeEntry → Type 0
Adjacent es = AllAdjacentBelow (λ e next. low_key e < low_key next) es (length es)

pub rising : (es : List LifeEntry) → Adjacent es → (i j : ℕ) (d : LifeEntry) → i ≤ j → j < length es → low_key (get_or es i d) ≤ low_key (get_or es j d)
rising es order = IsNonDecreasingBy-from_all_adjacent (λ (e : LifeEntry). low_key e) es (λ k d h. omega (arith, order k d h))

-- An entry that has begun tells of those before it.
pub begun_to : (es : List LifeEntry) (k v : ℕ) (e : LifeEntry) → Adjacent es → k < length es → ((d : LifeEntry) → e ≡ get_or es k d) → low_key e ≤ v
    → All (λ e. low_key e ≤ v) (take (k + 1) es)
begun_to es k v e order lt is_e here = λ j d h.
    let same = get_or-take (k + 1) es j d (omega (arith, length-take (k + 1) es)) in
    subst (λ (x : LifeEntry). low_key x ≤ v) (sym same)
    (omega (arith, rising es order j k d (omega (arith, length-take (k + 1) es)) lt, ap low_key (is_e d), here))

-- One that has not begun tells of those after it.
pub later_from : (es : List LifeEntry) (k v : ℕ) (e : LifeEntry) → Adjacent es → k < length es → ((d : LifeEntry) → e ≡ get_or es k d) → v < low_key e
    → All (λ e. v < low_key e) (drop k es)
later_from es k v e order lt is_e here = λ j d h.
    let same = get_or-drop k es j d in
    let within : k + j < length es = omega (arith, length-drop k es) in
    subst (λ (x : LifeEntry). v < low_key x) (sym same) (omega (arith, rising es order k (k + j) d (omega arith) within, ap low_key (is_e d), here))

-- where the first entry begins and the last one begins
pub begins_within : (es : List LifeEntry) (low : ℕ) (first : LifeEntry) → Adjacent es → ((d : LifeEntry) → first ≡ get_or es 0 d) → low ≤ low_key first → All (λ e. low ≤ low_key e) es
begins_within es low first order is_first h = λ k d lt. omega (arith, h, ap low_key (is_first d), rising es order 0 k d (omega arith) lt)

pub ends_within : (es : List LifeEntry) (high n : ℕ) (last : LifeEntry) → Adjacent es → n + 1 ≡ length es → ((d : LifeEntry) → last ≡ get_or es n d) → low_key last < high → All (λ e. low_key e < high) es
ends_within es high n last order end is_last h = λ k d lt. omega (arith, h, ap low_key (is_last d), rising es order k n d (omega (arith, end, lt)) (omega (arith, end)))

-- some element of a list that has one at the index
pub any_of : {X : Type 0} (xs : List X) (i : ℕ) → i < length xs → X
any_of [] i h = absurd (omega (arith, h))
any_of (x ∷ xs) i h = x

-- one more element is as the others
pub all_more : {X : Type 0} (P : X → Type 0) (xs : List X) (i : ℕ) (d : X) → i < length xs → All P (take i xs) → P (get_or xs i d) → All P (take (i + 1) xs)
all_more {X} P xs i d lt before here =
    rw (take_more xs i d lt) (All-join P (take i xs) (get_or xs i d ∷ []) before (All-cons P (get_or xs i d) [] here (All-nil P)))

-- The last object of the id so far is the one at the index, or stays.
pub last_more : (id : ℕ) (ds : List Dated) (i : ℕ) (d : Dated) → i < length ds → (get_or ds i d).object.id ≡ id → last_life id (take (i + 1) ds) ≡ Some (get_or ds i d)
last_more id ds i d lt here =
    ap (last_life id) (take_more ds i d lt) ∙ last_life-append id (take i ds) (get_or ds i d ∷ [])
    ∙ ap (λ (o : Option Dated). option_or o (last_life id (take i ds))) (last_life-one id (get_or ds i d) (eq-eqb (get_or ds i d).object.id id here))

pub last_same : (id : ℕ) (ds : List Dated) (i : ℕ) (d : Dated) → i < length ds → ((get_or ds i d).object.id ≡ id → ⊥) → last_life id (take (i + 1) ds) ≡ last_life id (take i ds)
last_same id ds i d lt other =
    ap (last_life id) (take_more ds i d lt) ∙ last_life-append id (take i ds) (get_or ds i d ∷ [])
    ∙ ap (λ (o : Option Dated). option_or o (last_life id (take i ds))) (last_life-other id (get_or ds i d) (ne_eqb (get_or ds i d).object.id id other))
