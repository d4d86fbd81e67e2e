-- The objects of a table ascend.
use Rattle.std.proofs.Common.{◌≡◌, ℕ, zero, suc, ◌+◌, ◌^◌, ◌<◌, ◌≤◌, List, [], ◌∷◌, ◌++◌, length, get_or, sym, subst, arith}
use Rattle.std.specs.List.{All, AllAdjacentBelow, flat_map}
use Rattle.std.proofs.lemmas.List.Elements.{All-cons, All-nil}
use Rattle.bw_types.specs.declared.dated.Dated.{Dated}
use Rattle.ports.specs.Pages.{PageMap}
use Rattle.page_layout.specs.TableNode as by_ids
use Rattle.page_layout.specs.declared.life_node.LifeNode.{LifeNode}
use Rattle.page_layout.specs.declared.life_node.LifeNode.TheVariants.{Leaf, Index}
use Rattle.page_layout.specs.declared.life_node.LifeEntry.{LifeEntry}
use Rattle.page_layout.specs.declared.table_node.TableNode.{TableNode}
use Rattle.page_layout.specs.declared.table_node.TableNode.TheVariants as table_node
use Rattle.object_table.specs.declared.form.Form.{Form}
use Rattle.object_table.specs.declared.form.Form.TheVariants.{ByLives, ByIds}
use Rattle.object_table.specs.Keys.{key, low_key, key_end}
use Rattle.object_table.specs.Laws.{Ascend}
use Rattle.object_table.specs.Nodes.{life_node, FitsLevel, node_on, objects_in, entries_on}
use Rattle.object_table.specs.Lives.{lives_below}
use Rattle.object_table.specs.Stands.{first_low, EachStands, fewest, StandsBelow, RootStands}
use Rattle.object_table.proofs.Order.{Ascends, All-join}
use Rattle.object_table.proofs.Searching.{All-head, All-tail}
use Rattle.object_table.proofs.Nodes.{keys_ascend, entries_ascend}
use Rattle.object_table.proofs.Within.{IsWithin, ChildStands, own_lives, lives_within, each_within}

adjacent_tail : (e : Dated) (es : List Dated) → AllAdjacentBelow (λ e next. key e < key next) (e ∷ es) (length (e ∷ es))
    → AllAdjacentBelow (λ e next. key e < key next) es (length es)
adjacent_tail e es adj = λ k d h.
    let place : suc k + 1 ≡ suc (k + 1) = omega arith in
    subst (λ (j : ℕ). key (get_or (e ∷ es) (suc k) d) < key (get_or (e ∷ es) j d)) place (adj (suc k) d (omega (arith, h)))

above_first : (e : Dated) (es : List Dated) → AllAdjacentBelow (λ e next. key e < key next) (e ∷ es) (length (e ∷ es)) → Ascend es → All (λ f. key e < key f) es
above_first e [] adj rest = All-nil (λ (f : Dated). key e < key f)
above_first e (f ∷ fs) adj rest =
    let first : key e < key f = adj 0 e (omega arith) in
    All-cons (λ (x : Dated). key e < key x) f fs first (λ k d h. omega (arith, first, rest.0 k d h))

ascend_from : (es : List Dated) → AllAdjacentBelow (λ e next. key e < key next) es (length es) → Ascend es
ascend_from [] adj = tt
ascend_from (e ∷ es) adj =
    let rest = ascend_from es (adjacent_tail e es adj) in
    (above_first e es adj rest, rest)

objects_ascend : (form : Form) (level : ℕ) (node : LifeNode) (bytes : List ℕ) → FitsLevel form level node bytes → Ascend (objects_in node)
objects_ascend ByLives level (Leaf objects) bytes f = ascend_from objects.items (λ k d h.
    keys_ascend (get_or objects.items k d).object.id (get_or objects.items k d).life (get_or objects.items (k + 1) d).object.id (get_or objects.items (k + 1) d).life
    (f.typed k d (omega (arith, h))).life (f.rules.in_order.order k d h))
objects_ascend ByLives level (Index l entries) bytes f = tt
objects_ascend ByIds level node bytes f =
    subst (λ (n : LifeNode). Ascend (objects_in n)) (sym f.2) (told_ascend f.0 f.1.typed f.1.rules) where
      told_ascend : (told : TableNode) → by_ids.IsTyped told → by_ids.IsTableNode told → Ascend (objects_in (life_node told))
      told_ascend (table_node.Leaf objects) typed rules = ascend_from objects.items (λ k d h.
          let ids : (get_or objects.items k d).object.id < (get_or objects.items (k + 1) d).object.id = rules.in_order.order k d h in
          let life : (get_or objects.items k d).life < 2 ^ 32 = (typed k d (omega (arith, h))).life in
          omega (arith, ids, life))
      told_ascend (table_node.Index l entries) typed rules = tt

ascend_join : (bound : ℕ) (xs ys : List Dated) → All (λ d. key d < bound) xs → All (λ d. bound ≤ key d) ys → Ascend xs → Ascend ys → Ascend (xs ++ ys)
ascend_join bound [] ys below above first rest = rest
ascend_join bound (x ∷ xs) ys below above first rest =
    let here = All-head (λ (d : Dated). key d < bound) x xs below in (
      All-join (λ (e : Dated). key x < key e) xs ys first.0 (λ k d h. omega (arith, here, above k d h)),
      ascend_join bound xs ys (All-tail (λ (d : Dated). key d < bound) x xs below) above first.1 rest,
    )

each_ascend : (stands : LifeEntry → ℕ → Type 0) (own : LifeEntry → List Dated)
    → ((e : LifeEntry) (to : ℕ) → stands e to → All (IsWithin (low_key e) to) (own e))
    → ((e : LifeEntry) (to : ℕ) → stands e to → Ascend (own e))
    → (es : List LifeEntry) (high : ℕ) → Ascends es → All (λ e. low_key e < high) es → EachStands stands es high → Ascend (flat_map own es)
each_ascend stands own within each [] high a ends s = tt
each_ascend stands own within each (e ∷ es) high a ends s =
    let rest_ends = All-tail (λ (e : LifeEntry). low_key e < high) e es ends in
    let mine = within e (first_low es high) s.0 in
    let others = each_within stands own within es high a.1 rest_ends s.1 in
    ascend_join (first_low es high) (own e) (flat_map own es) (λ k d h. (mine k d h).ends) (λ k d h. (others k d h).from)
    (each e (first_low es high) s.0) (each_ascend stands own within each es high a.1 rest_ends s.1)

lives_ascend : (form : Form) (level : ℕ) (pages : PageMap) (page low high least : ℕ) → StandsBelow form level pages page low high least → Ascend (lives_below form level pages page)
lives_ascend form zero pages page low high least s = absurd s
lives_ascend form (suc zero) pages page low high least s = objects_ascend form 1 (node_on form pages page) s.node.bytes s.node.fits
lives_ascend form (suc (suc level)) pages page low high least s =
    each_ascend (ChildStands form (suc level) pages) (own_lives form (suc level) pages)
    (λ e to stands. lives_within form (suc level) pages e.child (low_key e) to (fewest form (suc level)) stands.0)
    (λ e to stands. lives_ascend form (suc level) pages e.child (low_key e) to (fewest form (suc level)) stands.0)
    (entries_on form pages page) high (entries_ascend form (suc (suc level)) (node_on form pages page) s.0.node.bytes s.0.node.fits) s.0.ends s.1

pub root_ascend : (form : Form) (levels : ℕ) (pages : PageMap) (root : ℕ) → RootStands form levels pages root → Ascend (lives_below form levels pages root)
root_ascend form zero pages root s = tt
root_ascend form (suc level) pages root s = lives_ascend form (suc level) pages root 0 key_end 1 s
