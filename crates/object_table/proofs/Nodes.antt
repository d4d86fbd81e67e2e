-- What a page that spells a node tells.
use Rattle.std.proofs.Common.{◌≡◌, ℕ, suc, ◌+◌, ◌*◌, ◌^◌, ◌<◌, ◌≤◌, ◌==◌, ◌&&◌, nat_lt, IsTrue, inl, inr, List, [], length, get_or, Option, Some, map, refl, sym, ap, ◌∙◌, subst, arith}
use Rattle.std.specs.List.{All, AllAdjacentBelow}
use Rattle.std.specs.Option.{option_map_or}
use Rattle.std.proofs.lemmas.Bool.{or_cases, and_parts, ltb-true, eqb-true}
use Rattle.std.proofs.Math.ListN.{get_or-map}
use Rattle.std.proofs.lemmas.List.{length-map, get_or_default}
use Rattle.std.proofs.lemmas.List.Elements.{All-nil}
use Rattle.bw_types.specs.declared.dated.Dated.{Dated}
use Rattle.arrayvec.specs.ArrayVec.{ArrayVec}
use Rattle.ports.specs.Pages.{PageMap}
use Rattle.page_layout.specs.Dated.{life_precedes}
use Rattle.page_layout.specs.LifeNodeLaws.{life_node_in-page}
use Rattle.page_layout.specs.TableNodeLaws.{table_node_in-page}
use Rattle.page_layout.specs.LifeNode as by_lives
use Rattle.page_layout.specs.TableNode as by_ids
use Rattle.page_layout.specs.declared.life_node.LifeNode.{LifeNode}
use Rattle.page_layout.specs.declared.life_node.LifeNode.TheVariants.{Leaf, Index}
use Rattle.page_layout.specs.declared.life_node.LifeEntry.{LifeEntry}
use Rattle.page_layout.specs.declared.table_node.TableNode.{TableNode}
use Rattle.page_layout.specs.declared.table_node.TableNode.TheVariants as table_node
use Rattle.page_layout.specs.declared.table_node.TableEntry.{TableEntry}
use Rattle.object_table.specs.declared.form.Form.{Form}
use Rattle.object_table.specs.declared.form.Form.TheVariants.{ByLives, ByIds}
use Rattle.object_table.specs.Keys.{key_of, low_key}
use Rattle.object_table.specs.Nodes.{life_entry, life_node, FitsLevel, node_in, no_node, node_on, objects_in, entries_in}
use Rattle.object_table.proofs.Order.{Ascends, ascends}

pub keys_ascend : (a b c d : ℕ) → b < 2 ^ 32 → IsTrue (life_precedes a b c d) → key_of a b < key_of c d
keys_ascend a b c d typed h = elim (or_cases (nat_lt a c) (a == c && nat_lt b d) h) [
  | inl less ↦ omega (arith, ltb-true a c less, typed)
  | inr equal ↦ let parts = and_parts (a == c) (nat_lt b d) equal in omega (arith, eqb-true a c parts.0, ltb-true b d parts.1)
]

-- The node is the one that the bytes tell.
pub node_in-fits : (form : Form) (level : ℕ) (node : LifeNode) (bytes : List ℕ) → FitsLevel form level node bytes → node_in form bytes ≡ node
node_in-fits ByLives level node bytes f = ap by_lives.life_node_in f.spelled ∙ life_node_in-page node f.typed f.rules
node_in-fits ByIds level node bytes f =
    ap (λ (b : List ℕ). life_node (by_ids.table_node_in b)) f.1.spelled ∙ ap life_node (table_node_in-page f.0 f.1.typed f.1.rules) ∙ sym f.2

-- One page spells one node.
pub same_spelled : (form : Form) (bytes : List ℕ) (level k : ℕ) (node other : LifeNode) → FitsLevel form level node bytes → FitsLevel form k other bytes → node ≡ other
same_spelled form bytes level k node other f g = sym (node_in-fits form level node bytes f) ∙ node_in-fits form k other bytes g

pub node_on-fits : (form : Form) (pages : PageMap) (page level : ℕ) (node : LifeNode) (bytes : List ℕ) → pages page ≡ Some bytes → FitsLevel form level node bytes → node_on form pages page ≡ node
node_on-fits form pages page level node bytes there f =
    ap (λ (o : Option (List ℕ)). option_map_or (node_in form) o no_node) there ∙ node_in-fits form level node bytes f

-- A node of level 1 is a leaf.
pub leaf_entries : (form : Form) (node : LifeNode) (bytes : List ℕ) → FitsLevel form 1 node bytes → entries_in node ≡ []
leaf_entries ByLives (Leaf objects) bytes f = refl
leaf_entries ByLives (Index level entries) bytes f = absurd (omega (arith, f.at_level, f.rules.low_level))
leaf_entries ByIds node bytes f = ap entries_in f.2 ∙ told_leaf f.0 f.1.at_level f.1.rules where
  told_leaf : (told : TableNode) → by_ids.table_level told ≡ 1 → by_ids.IsTableNode told → entries_in (life_node told) ≡ []
  told_leaf (table_node.Leaf objects) at rules = refl
  told_leaf (table_node.Index level entries) at rules = absurd (omega (arith, at, rules.low_level))

-- A node of a higher level is an index node.
pub index_objects : (form : Form) (level : ℕ) (node : LifeNode) (bytes : List ℕ) → FitsLevel form (suc (suc level)) node bytes → objects_in node ≡ []
index_objects ByLives level (Leaf objects) bytes f = absurd (omega (arith, f.at_level))
index_objects ByLives level (Index l entries) bytes f = refl
index_objects ByIds level node bytes f = ap objects_in f.2 ∙ told_index f.0 f.1.at_level where
  told_index : (told : TableNode) → by_ids.table_level told ≡ suc (suc level) → objects_in (life_node told) ≡ []
  told_index (table_node.Leaf objects) at = absurd (omega (arith, at))
  told_index (table_node.Index l entries) at = refl

-- an entry of the earlier form
pub life_entry-at : (es : List TableEntry) (k : ℕ) (d : LifeEntry) (d0 : TableEntry) → k < length es → get_or (map life_entry es) k d ≡ life_entry (get_or es k d0)
life_entry-at es k d d0 h = get_or_default (map life_entry es) k d (life_entry d0) (omega (arith, h, length-map es life_entry)) ∙ get_or-map life_entry es k d0

ids_adjacent : (es : List TableEntry) → AllAdjacentBelow (λ e next. e.low < next.low) es (length es)
    → AllAdjacentBelow (λ e next. low_key e < low_key next) (map life_entry es) (length (map life_entry es))
ids_adjacent es adj = λ k d h.
    let d0 : TableEntry = record { low = 0; child = 0 } in
    let bound : k + 1 < length es = omega (arith, h, length-map es life_entry) in
    let lows : (get_or es k d0).low < (get_or es (k + 1) d0).low = adj k d0 bound in
    let first : low_key (get_or (map life_entry es) k d) ≡ (get_or es k d0).low * 2 ^ 32 + 0 = ap low_key (life_entry-at es k d d0 (omega (arith, bound))) in
    let next : low_key (get_or (map life_entry es) (k + 1) d) ≡ (get_or es (k + 1) d0).low * 2 ^ 32 + 0 = ap low_key (life_entry-at es (k + 1) d d0 bound) in
    omega (arith, lows, first, next)

no_adjacent : AllAdjacentBelow (λ e next. low_key e < low_key next) [] 0
no_adjacent = λ k d h. absurd (omega (arith, h))

-- The entries of a node ascend.
pub entries_adjacent : (form : Form) (level : ℕ) (node : LifeNode) (bytes : List ℕ) → FitsLevel form level node bytes
    → AllAdjacentBelow (λ e next. low_key e < low_key next) (entries_in node) (length (entries_in node))
entries_adjacent ByLives level (Leaf objects) bytes f = no_adjacent
entries_adjacent ByLives level (Index l entries) bytes f = λ k d h.
    keys_ascend (get_or entries.items k d).low_id (get_or entries.items k d).low_life (get_or entries.items (k + 1) d).low_id (get_or entries.items (k + 1) d).low_life
    (f.typed k d (omega (arith, h))).1 (f.rules.in_order.order k d h)
entries_adjacent ByIds level node bytes f =
    subst (λ (n : LifeNode). AllAdjacentBelow (λ e next. low_key e < low_key next) (entries_in n) (length (entries_in n))) (sym f.2) (told_adjacent f.0 f.1.rules) where
      told_adjacent : (told : TableNode) → by_ids.IsTableNode told
          → AllAdjacentBelow (λ e next. low_key e < low_key next) (entries_in (life_node told)) (length (entries_in (life_node told)))
      told_adjacent (table_node.Leaf objects) rules = no_adjacent
      told_adjacent (table_node.Index l entries) rules = ids_adjacent entries.items rules.in_order.order

pub entries_ascend : (form : Form) (level : ℕ) (node : LifeNode) (bytes : List ℕ) → FitsLevel form level node bytes → Ascends (entries_in node)
entries_ascend form level node bytes f = ascends (entries_in node) (entries_adjacent form level node bytes f)

-- An index node has some entries.
pub some_entries : (form : Form) (level : ℕ) (node : LifeNode) (bytes : List ℕ) → FitsLevel form (suc (suc level)) node bytes → 1 ≤ length (entries_in node)
some_entries ByLives level (Leaf objects) bytes f = absurd (omega (arith, f.at_level))
some_entries ByLives level (Index l entries) bytes f = f.rules.some
some_entries ByIds level node bytes f =
    subst (λ (n : LifeNode). 1 ≤ length (entries_in n)) (sym f.2) (told_some f.0 f.1.at_level f.1.rules) where
      told_some : (told : TableNode) → by_ids.table_level told ≡ suc (suc level) → by_ids.IsTableNode told → 1 ≤ length (entries_in (life_node told))
      told_some (table_node.Leaf objects) at rules = absurd (omega (arith, at))
      told_some (table_node.Index l entries) at rules = omega (arith, rules.some, length-map entries.items life_entry)

-- A leaf has some objects.
pub some_objects : (form : Form) (node : LifeNode) (bytes : List ℕ) → FitsLevel form 1 node bytes → 1 ≤ length (objects_in node)
some_objects ByLives (Leaf objects) bytes f = f.rules.some
some_objects ByLives (Index level entries) bytes f = absurd (omega (arith, f.at_level, f.rules.low_level))
some_objects ByIds node bytes f =
    subst (λ (n : LifeNode). 1 ≤ length (objects_in n)) (sym f.2) (told_some f.0 f.1.at_level f.1.rules) where
      told_some : (told : TableNode) → by_ids.table_level told ≡ 1 → by_ids.IsTableNode told → 1 ≤ length (objects_in (life_node told))
      told_some (table_node.Leaf objects) at rules = rules.some
      told_some (table_node.Index l entries) at rules = absurd (omega (arith, at, rules.low_level))

-- The lives of a node's objects are below the end of their type.
pub lives_typed : (form : Form) (level : ℕ) (node : LifeNode) (bytes : List ℕ) → FitsLevel form level node bytes → All (λ d. d.life < 2 ^ 32) (objects_in node)
lives_typed ByLives level (Leaf objects) bytes f = λ k d h. (f.typed k d h).life
lives_typed ByLives level (Index l entries) bytes f = All-nil (λ (d : Dated). d.life < 2 ^ 32)
lives_typed ByIds level node bytes f =
    subst (λ (n : LifeNode). All (λ (d : Dated). d.life < 2 ^ 32) (objects_in n)) (sym f.2) (told_typed f.0 f.1.typed) where
      told_typed : (told : TableNode) → by_ids.IsTyped told → All (λ (d : Dated). d.life < 2 ^ 32) (objects_in (life_node told))
      told_typed (table_node.Leaf objects) typed = λ k d h. (typed k d h).life
      told_typed (table_node.Index l entries) typed = All-nil (λ (d : Dated). d.life < 2 ^ 32)

-- An index node has a level of at least 2.
pub index_level : (form : Form) (level : ℕ) (node : LifeNode) (bytes : List ℕ) (l : ℕ) (entries : ArrayVec LifeEntry) → FitsLevel form level node bytes → node ≡ Index l entries → 2 ≤ level
index_level ByLives level node bytes l entries f same =
    let at : l ≡ level = ap by_lives.life_level (sym same) ∙ f.at_level in
    let rules : by_lives.IsLifeNode (Index l entries) = subst by_lives.IsLifeNode same f.rules in
    omega (arith, at, rules.low_level)
index_level ByIds level node bytes l entries f same = told_level f.0 f.1.at_level f.1.rules (sym f.2 ∙ same) where
  told_level : (told : TableNode) → by_ids.table_level told ≡ level → by_ids.IsTableNode told → life_node told ≡ Index l entries → 2 ≤ level
  told_level (table_node.Leaf objects) at rules e = absurd cc
  told_level (table_node.Index k es) at rules e = omega (arith, at, rules.low_level)

-- A leaf has level 1.
pub leaf_level : (form : Form) (level : ℕ) (node : LifeNode) (bytes : List ℕ) (objects : ArrayVec Dated) → FitsLevel form level node bytes → node ≡ Leaf objects → level ≡ 1
leaf_level ByLives level node bytes objects f same = sym f.at_level ∙ ap by_lives.life_level same
leaf_level ByIds level node bytes objects f same = told_level f.0 f.1.at_level (sym f.2 ∙ same) where
  told_level : (told : TableNode) → by_ids.table_level told ≡ level → life_node told ≡ Leaf objects → level ≡ 1
  told_level (table_node.Leaf os) at e = sym at
  told_level (table_node.Index k es) at e = absurd cc
