-- Where a node leads on.
use Rattle.std.proofs.Common.{◌≡◌, ℕ, ◌≤◌, ◌==◌, inl, inr, true, false, Bool, IsTrue, nat_lt, List, [], ◌∷◌, Option, Some, None, cond, refl, sym, ap, ◌∙◌, subst, arith}
use Rattle.std.specs.List.{All}
use Rattle.std.proofs.lemmas.Bool.{and_parts, cases_Bool, cond-false, eqb-true, leb-true}
use Rattle.std.proofs.lemmas.List.Elements.{All-head, All-tail}
use Rattle.page_layout.specs.Children.{child_fits}
use Rattle.page_layout.specs.MvNode.{IsMvNode, mv_keeps}
use Rattle.page_layout.specs.declared.mv_node.MvNode.{MvNode}
use Rattle.page_layout.specs.declared.mv_node.MvEntry.{MvEntry}
use Rattle.mv_pages.specs.Alive.{child_of, or_later, path_child, reaches}
use Rattle.mvsb_tree.proofs.Nodes.{some_same}
use Rattle.mvsb_tree.proofs.Values.{index_leads}

no_some : (a : ℕ) → ◌≡◌ {A = Option ℕ} None (Some a) → ⊥
no_some a e = cc

-- The child of a path is that of one of the entries.
path_kept : (level : ℕ) (es : List MvEntry) (key v c : ℕ) → All (λ e. IsTrue (mv_keeps level e)) es → path_child es key v ≡ Some c → IsTrue (child_fits level c)
path_kept level [] key v c all e = absurd (no_some c e)
path_kept level (x ∷ es) key v c all e = pick (path_child es key v) (reaches key v x) (λ n h. path_kept level es key v n (All-tail (λ (e : MvEntry). IsTrue (mv_keeps level e)) x es all) h) e
  where
    mine : IsTrue (child_fits level x.child)
    mine = (and_parts (nat_lt x.start x.end) (child_fits level x.child) (All-head (λ (e : MvEntry). IsTrue (mv_keeps level e)) x es all)).1

    pick : (o : Option ℕ) (b : Bool) → ((n : ℕ) → o ≡ Some n → IsTrue (child_fits level n)) → or_later (cond b (Some x.child) None) o ≡ Some c → IsTrue (child_fits level c)
    pick None true rest e = subst (λ (n : ℕ). IsTrue (child_fits level n)) (some_same x.child c e) mine
    pick None false rest e = absurd (no_some c e)
    pick (Some n) b rest e = subst (λ (m : ℕ). IsTrue (child_fits level m)) (some_same n c e) (rest n refl)

pub child_number : (node : MvNode) (key v c : ℕ) → IsMvNode node → child_of node key v ≡ Some c → (3 ≤ c) × (2 ≤ node.level)
child_number node key v c rules leads =
    let index = index_leads node key v c leads in
    let low : 2 ≤ node.level = omega (arith, index, rules.low_level) in
    let path : path_child node.entries.items key v ≡ Some c = elim (cases_Bool (node.level == 1)) [
      | inl leaf ↦ absurd (index (eqb-true node.level 1 leaf))
      | inr other ↦ sym (cond-false (node.level == 1) None (path_child node.entries.items key v) other) ∙ leads
    ] in
    let kept = path_kept node.level node.entries.items key v c rules.entries.each path in
    (number node.level c low kept, low)
  where
    number : (level n : ℕ) → 2 ≤ level → IsTrue (child_fits level n) → 3 ≤ n
    number level n low kept = grind (arith, leb-true)

pub same_leads : (node : MvNode) (q key v : ℕ) → path_child node.entries.items q v ≡ path_child node.entries.items key v → child_of node q v ≡ child_of node key v
same_leads node q key v e = ap (λ (o : Option ℕ). cond (node.level == 1) None o) e
