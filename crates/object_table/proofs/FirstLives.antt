-- In the earlier form each object has its first life.
use Rattle.std.proofs.Common.{◌≡◌, ℕ, zero, suc, List, [], ◌∷◌, ◌==◌, get_or, sym, subst}
use Rattle.std.specs.List.{All, flat_map}
use Rattle.std.proofs.lemmas.Bool.{eqb-true}
use Rattle.std.proofs.lemmas.List.Elements.{All-nil}
use Rattle.bw_types.specs.declared.dated.Dated.{Dated}
use Rattle.bw_types.specs.declared.tree.Tree.{Tree}
use Rattle.ports.specs.Pages.{PageMap}
use Rattle.page_layout.specs.Dated.{dated_fits}
use Rattle.page_layout.specs.TableNode as by_ids
use Rattle.page_layout.specs.TreeValue.{both_true}
use Rattle.page_layout.specs.declared.life_node.LifeNode.{LifeNode}
use Rattle.page_layout.specs.declared.life_node.LifeEntry.{LifeEntry}
use Rattle.page_layout.specs.declared.table_node.TableNode.{TableNode}
use Rattle.page_layout.specs.declared.table_node.TableNode.TheVariants as table_node
use Rattle.object_table.specs.declared.form.Form.TheVariants.{ByIds}
use Rattle.object_table.specs.Keys.{low_key, key_end}
use Rattle.object_table.specs.Lives.{lives_below}
use Rattle.object_table.specs.Nodes.{life_node, FitsLevel, node_on, objects_in, entries_on}
use Rattle.object_table.specs.Stands.{first_low, EachStands, fewest, StandsBelow, RootStands, TableStands}
use Rattle.object_table.proofs.Order.{All-join}
use Rattle.object_table.proofs.Within.{ChildStands, own_lives}

abbrev AreFirst : List Dated → Type 0
AreFirst ds = All (λ d. d.life ≡ 1) ds

told_first : (told : TableNode) → by_ids.IsTableNode told → AreFirst (objects_in (life_node told))
told_first (table_node.Leaf objects) rules = λ i d h.
    let x : Dated = get_or objects.items i d in
    eqb-true x.life 1 (both_true (dated_fits x) (x.life == 1) (rules.in_order.each i d h)).1
told_first (table_node.Index level entries) rules = All-nil (λ (d : Dated). d.life ≡ 1)

objects_first : (level : ℕ) (node : LifeNode) (bytes : List ℕ) → FitsLevel ByIds level node bytes → AreFirst (objects_in node)
objects_first level node bytes f = subst (λ (n : LifeNode). AreFirst (objects_in n)) (sym f.2) (told_first f.0 f.1.rules)

each_first : (own : LifeEntry → List Dated) (stands : LifeEntry → ℕ → Type 0) → ((e : LifeEntry) (to : ℕ) → stands e to → AreFirst (own e))
    → (es : List LifeEntry) (high : ℕ) → EachStands stands es high → AreFirst (flat_map own es)
each_first own stands each [] high s = All-nil (λ (d : Dated). d.life ≡ 1)
each_first own stands each (e ∷ es) high s = All-join (λ (d : Dated). d.life ≡ 1) (own e) (flat_map own es) (each e (first_low es high) s.0) (each_first own stands each es high s.1)

first_below : (level : ℕ) (m : PageMap) (page low high least : ℕ) → StandsBelow ByIds level m page low high least → AreFirst (lives_below ByIds level m page)
first_below zero m page low high least s = absurd s
first_below (suc zero) m page low high least s = objects_first 1 (node_on ByIds m page) s.node.bytes s.node.fits
first_below (suc (suc level)) m page low high least s =
    each_first (own_lives ByIds (suc level) m) (ChildStands ByIds (suc level) m) (λ e to stands. first_below (suc level) m e.child (low_key e) to (fewest ByIds (suc level)) stands.0)
    (entries_on ByIds m page) high s.1

root_first : (levels : ℕ) (m : PageMap) (root : ℕ) → RootStands ByIds levels m root → AreFirst (lives_below ByIds levels m root)
root_first zero m root s = All-nil (λ (d : Dated). d.life ≡ 1)
root_first (suc level) m root s = first_below (suc level) m root 0 key_end 1 s

pub lives_are_first : (m : PageMap) (table : Tree) (lives : List Dated) → TableStands ByIds m table lives → All (λ d. d.life ≡ 1) lives
lives_are_first m table lives s = subst AreFirst s.has (root_first table.levels m table.root s.nodes)
