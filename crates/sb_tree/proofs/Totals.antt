-- The totals of lists of entries, and of lists that an addition changed.
use Rattle.sb_tree.proofs.Common.{◌≡◌, ℕ, ◌+◌, ◌%◌, ◌^◌, ◌≤◌, true, nat_le, inl, inr, List, [], ◌∷◌, ◌++◌, length, Option, Some, None, sym, ap, ◌∙◌, arith, rules, cases_lt, le-leb, PageMap, SbEntry, Second, BeginLater, raised_entry, raised_first, leaf_entry, TakesIn, second_entry, parts_total, added_at, begun_value, child_at, total_below, first_low}
use Rattle.sb_tree.proofs.Modular.{mod_inner}
use Rattle.sb_tree.proofs.Paths.{begun_value-append, begun_value-cons, begun_value-later, child_from-append, child_from-later}
use Rattle.sb_tree.proofs.Lists.{list_total}

-- Entries that begin later do not count.
pub total_later : (level : ℕ) (pages : PageMap) (xs ys : List SbEntry) (v : ℕ) → BeginLater v ys → list_total level pages (xs ++ ys) v ≡ list_total level pages xs v
total_later level pages xs ys v later = grind (arith, begun_value-later, begun_value-append, child_from-append, child_from-later)

-- Entries of which the first has begun tell the child.
pub total_begun : (level : ℕ) (pages : PageMap) (xs ys : List SbEntry) (v high : ℕ) → 1 ≤ length ys → first_low ys high ≤ v
    → list_total level pages (xs ++ ys) v ≡ begun_value xs v + list_total level pages ys v
total_begun level pages xs ys v high some first = grind (arith, begun_value-append, child_from-append)

-- the values of a leaf with an addition
raised_begun : (before : List SbEntry) (at : SbEntry) (after : List SbEntry) (x w : ℕ)
    → begun_value (before ++ (raised_entry at x ∷ after)) w % 2 ^ 128 ≡ (begun_value (before ++ (at ∷ after)) w + added_at at.low x w) % 2 ^ 128
raised_begun before at after x w =
    let a : ℕ = begun_value before w in
    let left = begun_value-append before (raised_entry at x ∷ after) w ∙ ap (λ t. a + t) (begun_value-cons (raised_entry at x) after w) in
    let right = begun_value-append before (at ∷ after) w ∙ ap (λ t. a + t) (begun_value-cons at after w) in
    elim (cases_lt w at.low) [
      | inl not_yet ↦ search rules
      | inr now ↦ search rules
    ]

new_begun : (before after : List SbEntry) (v x w : ℕ)
    → begun_value (before ++ (leaf_entry v x ∷ after)) w ≡ begun_value (before ++ after) w + added_at v x w
new_begun before after v x w = search (rules, begun_value-append, begun_value-cons)

pub leaf_total : (pages : PageMap) (es new : List SbEntry) (v x w : ℕ) → TakesIn es new v x
    → list_total 0 pages new w % 2 ^ 128 ≡ (list_total 0 pages es w + added_at v x w) % 2 ^ 128
leaf_total pages es new v x w (inl t) =
    let begun = raised_begun t.0 t.1 t.2 x w in
    let left : list_total 0 pages new w ≡ begun_value (t.0 ++ (raised_entry t.1 x ∷ t.2)) w = search rules in
    let right : begun_value (t.0 ++ (t.1 ∷ t.2)) w + added_at t.1.low x w ≡ list_total 0 pages es w + added_at v x w = search rules in
    ap (λ t. t % 2 ^ 128) left ∙ begun ∙ ap (λ t. t % 2 ^ 128) right
leaf_total pages es new v x w (inr t) = grind (arith, new_begun)

-- the total of raised entries
pub raised_total : (level : ℕ) (pages : PageMap) (es : List SbEntry) (x w high : ℕ) → 1 ≤ length es → first_low es high ≤ w
    → list_total level pages (raised_first es x) w % 2 ^ 128 ≡ (list_total level pages es w + x) % 2 ^ 128
raised_total level pages [] x w high some first = absurd (omega (arith, some))
raised_total level pages (e ∷ es) x w high some first =
    let b : nat_le e.low w ≡ true = le-leb e.low w first in
    let t : ℕ = total_below level pages (child_at (e ∷ es) w) w in
    let left : list_total level pages (raised_entry e x ∷ es) w ≡ t + ((e.value + x) % 2 ^ 128 + begun_value es w) =
    ap (λ v. v + total_below level pages (child_at (raised_entry e x ∷ es) w) w) (begun_value-cons (raised_entry e x) es w) ∙ (rw b (omega arith)) in
    let right : list_total level pages (e ∷ es) w + x ≡ t + ((e.value + x) + begun_value es w) = search (rules, begun_value-cons) in
    ap (λ v. v % 2 ^ 128) left ∙ mod_inner t (e.value + x) (begun_value es w) (2 ^ 128) ∙ ap (λ v. v % 2 ^ 128) (sym right)

-- the total of a child's parts, with its entry
pub parts_list_total : (level : ℕ) (pages : PageMap) (at : SbEntry) (second : Option Second) (w : ℕ) → at.low ≤ w
    → list_total level pages (at ∷ second_entry second) w ≡ at.value + parts_total level pages at.child second w
parts_list_total level pages at None w here = grind arith
parts_list_total level pages at (Some s) w here = grind arith
