use Rattle.std.proofs.Common.{◌≤◌, ◌↔◌, ℕ, List, IsTrue, drop, slice_index, sym, ap, ◌∙◌, arith}
use Rattle.bw_types.specs.declared.tree.Tree.{Tree}
use Rattle.page_layout.specs.Numbers.{number_in}
use Rattle.page_layout.specs.Entries.{AreInOrder}
use Rattle.page_layout.specs.FreePage.{next_fits}
use Rattle.page_layout.specs.TreeValue.{tree_at, tree_fits, plain_tree_fits}
use Rattle.page_layout.specs.Respelled.{length-read}
use Rattle.page_layout.specs.Meta.{IsMeta, root_count, roots_of, meta_in}
use Rattle.page_layout.proofs.Testing.{then_for}
use Rattle.page_layout.proofs.meta.keeps_rules_at.Goals as goal

-- Where the counts and the table of a page keep their rules, it is left to its roots whether it does.
ruled : (page : List ℕ) → slice_index page 1 ≤ 1 → 3 ≤ number_in 8 (drop 16 page) → IsTrue (next_fits (number_in 8 (drop 24 page))) → IsTrue (plain_tree_fits (tree_at (drop 48 page)))
    → AreInOrder (λ t. IsTrue (tree_fits t)) (λ _ _. Unit {0}) (roots_of page) ↔ IsMeta (meta_in page)
ruled page form most first plain =
    let len = length-read tree_at 28 (root_count page) (drop 80 page) in
    (λ r. record { lives = form; allotted = most; free = first; table = plain; few = omega (arith, len); roots = r.each }, λ m. record { each = m.roots; order = λ _ _ _. tt })

pub returns : goal.returns
returns c =
    let page : List ℕ = c.args.page.now in
    let allotted = c.number_u64.ensures ∙ ap (λ (b : List ℕ). number_in 8 b) c.after.ensures.value in
    let free = c.number_u64-2.ensures ∙ ap (λ (b : List ℕ). number_in 8 b) c.after-2.ensures.value in
    let table = c.get.ensures.value ∙ ap (λ (b : List ℕ). tree_at b) c.after-3.ensures.value in
    then_for (rw (c.after-4.ensures.value, c.count_in.ensures.value) at c.stand_in_order.ensures)
    (ruled page (omega (arith, c.if-page-gt1.false)) (omega (arith, allotted, c.if-number_u64-lt3.false))
    (ap (λ (n : ℕ). next_fits n) (sym free) ∙ sym c.next_fits.ensures ∙ c.if-not-next_fits.false)
    (ap (λ (t : Tree). plain_tree_fits t) (sym table) ∙ sym c.plain_tree_fits.ensures ∙ c.if-not-plain_tree_fits.false))
