-- What a node on the path of a version tells of the value there, and of damage below it.
use Rattle.sb_tree.proofs.Common.{◌≡◌, ◌≢◌, ℕ, zero, suc, ◌+◌, ◌-◌, ◌%◌, ◌^◌, ◌≤◌, inl, inr, List, Some, sym, ap, ◌∙◌, subst, arith, take, rules, sum_by, add-mod-mod, mod-add-mod, PageMap, HoldsNoNode, IsDamagedBelow, NothingBeside, SbNode, SbEntry, sb_node_page, Place, IsCut, begun_value, child_at, total_below, FitsLevel, FitsPlace, LeadsTo, low_from, next_from}
use Rattle.sb_tree.proofs.Nodes.{entries_on-spelled, same_spelled}
use Rattle.sb_tree.proofs.Paths.{begun_value-cut, some_begun}
use Rattle.sb_tree.proofs.Whole as whole

-- The total at a version is the node's and that below its path.
pub total-step : (pages : PageMap) (level page v : ℕ) (node : SbNode) → 1 ≤ level
    → pages page ≡ Some (sb_node_page node) → FitsLevel level node (sb_node_page node)
    → total_below level pages page v ≡ begun_value node.entries.items v + total_below (level - 1) pages (child_at node.entries.items v) v
total-step pages zero page v node some there fits = absurd (omega arith)
total-step pages (suc level) page v node some there fits = grind (arith, entries_on-spelled)

-- the value of a leaf
pub leaf_value : (pages : PageMap) (level page v k value : ℕ) (node : SbNode) (entries : List SbEntry) → entries ≡ node.entries.items → level ≡ 1
    → pages page ≡ Some (sb_node_page node) → FitsLevel level node (sb_node_page node) → IsCut entries k v
    → value ≡ sum_by (λ e. e.value) (take k entries) % 2 ^ 128
    → value ≡ total_below level pages page v % 2 ^ 128
leaf_value pages level page v k value node entries same leaf there fits cut summed =
    let step = total-step pages level page v node (omega (arith, leaf)) there fits in
    let none : total_below (level - 1) pages (child_at node.entries.items v) v ≡ 0 = search rules in
    let begun : begun_value node.entries.items v ≡ sum_by (λ e. e.value) (take k entries) = search (rules, begun_value-cut) in
    let all : total_below level pages page v ≡ sum_by (λ e. e.value) (take k entries) = omega (arith, step, none, begun) in
    rw all summed

-- the value of an index node
pub index_value : (pages : PageMap) (level page v k value below child : ℕ) (node : SbNode) (entries : List SbEntry) → entries ≡ node.entries.items → 1 ≤ level
    → pages page ≡ Some (sb_node_page node) → FitsLevel level node (sb_node_page node) → IsCut entries k v
    → child ≡ child_at entries v
    → value ≡ sum_by (λ e. e.value) (take k entries) % 2 ^ 128
    → below ≡ total_below (level - 1) pages child v % 2 ^ 128
    → (value + below) % 2 ^ 128 ≡ total_below level pages page v % 2 ^ 128
index_value pages level page v k value below child node entries same some there fits cut is_child summed total =
    let step = total-step pages level page v node some there fits in
    let begun : begun_value node.entries.items v ≡ sum_by (λ e. e.value) (take k entries) = search (rules, begun_value-cut) in
    let s : ℕ = sum_by (λ e. e.value) (take k entries) in
    let t : ℕ = total_below (level - 1) pages child v in
    let whole : total_below level pages page v ≡ s + t = search rules in
    ap (λ n. (n + below) % 2 ^ 128) summed ∙ ap (λ n. (s % 2 ^ 128 + n) % 2 ^ 128) total ∙ mod-add-mod s (2 ^ 128) (t % 2 ^ 128) ∙ add-mod-mod s t (2 ^ 128) ∙ ap (λ n. n % 2 ^ 128) (sym whole)

-- The node itself is damaged.
pub damaged_here : (pages : PageMap) (level page : ℕ) (place : Place) (damaged : ℕ) → 1 ≤ level → damaged ≡ page
    → HoldsNoNode FitsPlace pages level place page → IsDamagedBelow FitsPlace LeadsTo NothingBeside pages level place page damaged
damaged_here pages level page place damaged some same none = grind arith

-- A node below it is damaged.
pub damaged_further : (pages : PageMap) (level page child : ℕ) (place inner : Place) (node : SbNode) (damaged : ℕ) → 1 ≤ level
    → pages page ≡ Some (sb_node_page node) → FitsPlace level place node (sb_node_page node) → LeadsTo place node child inner
    → IsDamagedBelow FitsPlace LeadsTo NothingBeside pages (level - 1) inner child damaged → IsDamagedBelow FitsPlace LeadsTo NothingBeside pages level place page damaged
damaged_further pages level page child place inner node damaged some there fits leads below = grind arith

-- The child at the cut, with its place, is where the node leads to.
pub leads_at_cut : (place inner : Place) (node : SbNode) (entries : List SbEntry) (k child : ℕ) → entries ≡ node.entries.items
    → IsCut entries k place.sought → child ≡ child_at entries place.sought
    → inner.low ≡ low_from place.low entries place.sought → inner.high ≡ next_from entries place.sought place.high → inner.sought ≡ place.sought
    → LeadsTo place node child inner
leads_at_cut place inner node entries k child same cut is_child low high sought = grind arith

-- In an index node of the place some entries have begun.
pub some_at_cut : (level : ℕ) (place : Place) (node : SbNode) (entries : List SbEntry) (k : ℕ) (bytes : List ℕ) → entries ≡ node.entries.items
    → FitsPlace level place node bytes → level ≢ 1 → IsCut entries k place.sought → 1 ≤ k
some_at_cut level place node entries k bytes same fits index cut =
    elim fits.admitted.leads [
      | inl leaf ↦ absurd (index leaf)
      | inr first ↦ some_begun entries k place.sought place.high cut (rw same fits.fits.rules.some) (rw same first)
    ]

-- A node leads to one child, in one place.
same_way : (place inner other : Place) (node : SbNode) (child next : ℕ) → LeadsTo place node child inner → LeadsTo place node next other
    → (child ≡ next) × (inner ≡ other)
same_way place inner other node child next a b = grind arith

-- Nothing is damaged where the page holds a leaf, nor where nothing is from the child on to which its node leads.
module _ (pages : PageMap) (level page : ℕ) (place : Place) (node : SbNode) (there : pages page ≡ Some (sb_node_page node)) (fits : FitsPlace level place node (sb_node_page node)) where
  alone : (other : SbNode) (bytes : List ℕ) → pages page ≡ Some bytes → FitsPlace level place other bytes → node ≡ other
  alone other bytes here fit = same_spelled pages page node other bytes level level there fits.fits here fit.fits

  pub whole_leaf : level ≡ 1 → (damaged : ℕ) → IsDamagedBelow FitsPlace LeadsTo NothingBeside pages level place page damaged → ⊥
  whole_leaf leaf damaged d =
      whole.whole_below FitsPlace LeadsTo NothingBeside pages level place page node (sb_node_page node) there fits alone (λ p none. none)
      (λ child inner p leads below. whole.none_below FitsPlace LeadsTo NothingBeside pages (level - 1) inner child p (omega (arith, leaf)) below) damaged d

  pub whole_further : (child : ℕ) (inner : Place) → LeadsTo place node child inner
      → ((damaged : ℕ) → IsDamagedBelow FitsPlace LeadsTo NothingBeside pages (level - 1) inner child damaged → ⊥)
      → (damaged : ℕ) → IsDamagedBelow FitsPlace LeadsTo NothingBeside pages level place page damaged → ⊥
  whole_further child inner leads below damaged d =
      whole.whole_below FitsPlace LeadsTo NothingBeside pages level place page node (sb_node_page node) there fits alone (λ p none. none)
      (λ next other p leads_on here.
      let same = same_way place inner other node child next leads leads_on in
      below p (rw same.1 (subst (λ (c : ℕ). IsDamagedBelow FitsPlace LeadsTo NothingBeside pages (level - 1) other c p) (sym same.0) here))) damaged d
