-- What a node on the way of a key and a version tells of the value there, and of damage below it.
use Rattle.std.proofs.Common.{◌≡◌, ◌≢◌, ℕ, zero, suc, ◌+◌, ◌-◌, ◌%◌, ◌^◌, ◌≤◌, ◌==◌, inl, inr, true, List, Option, Some, None, refl, sym, ap, ◌∙◌, subst, arith}
use Rattle.std.specs.Option.{option_map_or}
use Rattle.std.proofs.Math.Nat.{add-mod-mod, mod-add-mod}
use Rattle.std.proofs.lemmas.Bool.{cases_Bool, eqb-true, eq-eqb, cond-true, cond-false}
use Rattle.bw_types.specs.declared.tree.Tree.{Tree}
use Rattle.ports.specs.Pages.{PageMap}
use Rattle.page_layout.specs.Damage.{IsDamagedBelow, NothingBeside}
use Rattle.page_layout.specs.DamageLaws as laws
use Rattle.page_layout.specs.declared.mv_node.MvNode.{MvNode}
use Rattle.page_layout.specs.MvNode.{IsMvNode, IsTyped, mv_node_page}
use Rattle.mv_pages.specs.Alive.{child_of, node_value, value_of, or_later, path_child}
use Rattle.mv_pages.specs.Lows.{alive_lows, low_above, low_at}
use Rattle.sb_tree.proofs.Whole as on_ways
use Rattle.mvsb_tree.specs.declared.place.Place.{Place}
use Rattle.mvsb_tree.specs.Damage.{FitsPlace, LeadsTo, IsDamagedForValue, IsDamagedFromRoot, IsInPlace, IsWholeToRoot, root_place}
use Rattle.mvsb_tree.specs.Steps.{node_on, node_total, root_at, root_level, total_below}
use Rattle.mvsb_tree.proofs.Nodes.{node_on-spelled, same_spelled, some_same}

-- The total of a page is that of the node that it spells.
pub total_at : (pages : PageMap) (level page key v : ℕ) (node : MvNode) → 1 ≤ level
    → IsTyped node → IsMvNode node → node.level ≡ level → pages page ≡ Some (mv_node_page node)
    → total_below level pages page key v ≡ node_total pages node key v
total_at pages zero page key v node some typed rules at there = absurd (omega (arith, some))
total_at pages (suc level) page key v node some typed rules at there =
    let same : node_on pages page ≡ node = node_on-spelled pages page node typed rules there in
    let less : node.level - 1 ≡ level = omega (arith, at) in
    let total : ℕ → MvNode → ℕ = λ l n. value_of n.entries.items key v + option_map_or (λ child. total_below l pages child key v) (child_of n key v) 0 in
    ap (λ (n : MvNode). total level n) same ∙ ap (λ (l : ℕ). total l node) (sym less)

pub leaf_value : (pages : PageMap) (node : MvNode) (key v value : ℕ) → child_of node key v ≡ None → value ≡ node_value node key v
    → value ≡ node_total pages node key v % 2 ^ 128
leaf_value pages node key v value none is_value =
    let nothing : option_map_or (λ child. total_below (node.level - 1) pages child key v) (child_of node key v) 0 ≡ 0 =
    ap (λ (o : Option ℕ). option_map_or (λ child. total_below (node.level - 1) pages child key v) o 0) none in
    let whole : node_total pages node key v ≡ value_of node.entries.items key v = omega (arith, nothing) in
    is_value ∙ ap (λ (n : ℕ). n % 2 ^ 128) (sym whole)

pub index_value : (pages : PageMap) (node : MvNode) (key v value below child : ℕ) → child_of node key v ≡ Some child
    → value ≡ node_value node key v → below ≡ total_below (node.level - 1) pages child key v % 2 ^ 128
    → (value + below) % 2 ^ 128 ≡ node_total pages node key v % 2 ^ 128
index_value pages node key v value below child leads is_value is_below =
    let s : ℕ = value_of node.entries.items key v in
    let t : ℕ = total_below (node.level - 1) pages child key v in
    let rest : option_map_or (λ child. total_below (node.level - 1) pages child key v) (child_of node key v) 0 ≡ t =
    ap (λ (o : Option ℕ). option_map_or (λ child. total_below (node.level - 1) pages child key v) o 0) leads in
    let whole : node_total pages node key v ≡ s + t = ap (λ (n : ℕ). s + n) rest in
    ap (λ (n : ℕ). (n + below) % 2 ^ 128) is_value ∙ ap (λ (n : ℕ). (s % 2 ^ 128 + n) % 2 ^ 128) is_below
    ∙ mod-add-mod s (2 ^ 128) (t % 2 ^ 128) ∙ add-mod-mod s t (2 ^ 128) ∙ ap (λ (n : ℕ). n % 2 ^ 128) (sym whole)

-- What the node of a page says is the value there, where it leads to no child; else the child's value is added.
module _ (pages : PageMap) (level page key v value : ℕ) (node : MvNode) (some : 1 ≤ level) (typed : IsTyped node) (rules : IsMvNode node) (at : node.level ≡ level)
    (there : pages page ≡ Some (mv_node_page node)) (is_value : value ≡ node_value node key v) where
  whole : node_total pages node key v % 2 ^ 128 ≡ total_below level pages page key v % 2 ^ 128
  whole = ap (λ (n : ℕ). n % 2 ^ 128) (sym (total_at pages level page key v node some typed rules at there))

  pub value_alone : child_of node key v ≡ None → value ≡ total_below level pages page key v % 2 ^ 128
  value_alone none = leaf_value pages node key v value none is_value ∙ whole

  pub value_with : (child below : ℕ) → child_of node key v ≡ Some child → below ≡ total_below (level - 1) pages child key v % 2 ^ 128
      → (value + below) % 2 ^ 128 ≡ total_below level pages page key v % 2 ^ 128
  value_with child below leads is_below =
      index_value pages node key v value below child leads is_value (is_below ∙ ap (λ (l : ℕ). total_below (l - 1) pages child key v % 2 ^ 128) (sym at)) ∙ whole

-- The value of the child is told by the map of before and at the place sought.
pub told_there : (pages later : PageMap) (level child below : ℕ) (place inner : Place) (node : MvNode) → LeadsTo place node child inner → later ≡ pages
    → below ≡ total_below level later child inner.key inner.version % 2 ^ 128 → below ≡ total_below level pages child place.key place.version % 2 ^ 128
told_there pages later level child below place inner node leads same is =
    is ∙ ap (λ (m : PageMap). total_below level m child inner.key inner.version % 2 ^ 128) same
    ∙ ap (λ (k : ℕ). total_below level pages child k inner.version % 2 ^ 128) leads.key
    ∙ ap (λ (w : ℕ). total_below level pages child place.key w % 2 ^ 128) leads.version

-- A leaf leads to no child.
pub index_leads : (node : MvNode) (key v child : ℕ) → child_of node key v ≡ Some child → node.level ≢ 1
index_leads node key v child leads leaf =
    let here : (node.level == 1) ≡ true = eq-eqb node.level 1 leaf in
    let none : child_of node key v ≡ None = cond-true (node.level == 1) None (path_child node.entries.items key v) here in
    let both : ◌≡◌ {A = Option ℕ} (Some child) None = sym leads ∙ none in
    cc

-- The level of a root that is no 0 is that of the node.
pub level_of_root : (pages : PageMap) (root : ℕ) (node : MvNode) → root ≢ 0 → IsTyped node → IsMvNode node → pages root ≡ Some (mv_node_page node)
    → root_level pages root ≡ node.level
level_of_root pages root node some typed rules there = elim (cases_Bool (root == 0)) [
  | inl none ↦ absurd (some (eqb-true root 0 none))
  | inr other ↦ cond-false (root == 0) 0 (node_on pages root).level other ∙ ap (λ (n : MvNode). n.level) (node_on-spelled pages root node typed rules there)
]

-- The child that is reached, with its place, is where the node leads to.
pub leads_there : (place inner : Place) (node : MvNode) (child low : ℕ) (next : Option ℕ) → Some child ≡ child_of node place.key place.version
    → Some low ≡ low_at (alive_lows node.entries.items place.version) place.key
    → next ≡ low_above (alive_lows node.entries.items place.version) place.key
    → inner.low ≡ low → inner.high ≡ or_later place.high next → inner.key ≡ place.key → inner.version ≡ place.version
    → LeadsTo place node child inner
leads_there place inner node child low next is_child is_low is_next in_low in_high in_key in_version = record {
  child_is = sym is_child;
  low = in_low ∙ ap (λ (o : Option ℕ). option_map_or (λ l. l) o place.low) is_low;
  high = in_high ∙ ap (λ (o : Option ℕ). or_later place.high o) is_next;
  key = in_key;
  version = in_version;
}

-- The page is damaged where one is below a child to which its node leads.
pub below_further : (pages : PageMap) (place inner : Place) (node : MvNode) (level page child damaged : ℕ) → 1 ≤ level
    → pages page ≡ Some (mv_node_page node) → FitsPlace level place node (mv_node_page node) → LeadsTo place node child inner
    → IsDamagedBelow FitsPlace LeadsTo NothingBeside pages (level - 1) inner child damaged → IsDamagedBelow FitsPlace LeadsTo NothingBeside pages level place page damaged
below_further pages place inner node level page child damaged some there fits leads below =
    laws.damaged_further FitsPlace LeadsTo NothingBeside pages level place page damaged node (mv_node_page node) child inner some there fits leads below

-- A root that spells a node which does not keep to the place is damaged.
pub root_unfit : (pages : PageMap) (root : ℕ) (place : Place) (node : MvNode) (damaged : ℕ) → root ≢ 0 → IsTyped node → IsMvNode node → pages root ≡ Some (mv_node_page node)
    → (IsInPlace node.level place node → ⊥) → damaged ≡ root → IsDamagedFromRoot pages root place damaged
root_unfit pages root place node damaged some typed rules there unfit same =
    let level : root_level pages root ≡ node.level = level_of_root pages root node some typed rules there in
    inr (laws.damaged_here FitsPlace LeadsTo NothingBeside pages (root_level pages root) place root damaged (omega (arith, level, rules.low_level)) same
    (λ other bytes here fits.
    let is : other ≡ node = sym (same_spelled pages root node other bytes typed rules there fits.fits.typed fits.fits.rules fits.fits.spelled here) in
    let at = subst (λ (n : MvNode). IsInPlace (root_level pages root) place n) is fits.admitted in
    unfit (subst (λ (l : ℕ). IsInPlace l place node) level at)))

-- A root whose node fits is damaged where a page below it is.
pub root_further : (pages : PageMap) (root : ℕ) (place inner : Place) (node : MvNode) (child damaged : ℕ) → root ≢ 0 → IsTyped node → IsMvNode node → pages root ≡ Some (mv_node_page node)
    → IsInPlace node.level place node → LeadsTo place node child inner
    → IsDamagedBelow FitsPlace LeadsTo NothingBeside pages (node.level - 1) inner child damaged → IsDamagedFromRoot pages root place damaged
root_further pages root place inner node child damaged some typed rules there fits leads below =
    let level : root_level pages root ≡ node.level = level_of_root pages root node some typed rules there in
    inr (below_further pages place inner node (root_level pages root) root child damaged (omega (arith, level, rules.low_level)) there
    (record {
      fits = record { spelled = refl; rules = rules; typed = typed; at_level = sym level };
      admitted = subst (λ (l : ℕ). IsInPlace l place node) (sym level) fits;
    }) leads (subst (λ (l : ℕ). IsDamagedBelow FitsPlace LeadsTo NothingBeside pages (l - 1) inner child damaged) (sym level) below))

-- A node leads to one child, in one place.
same_way : (place inner other : Place) (node : MvNode) (child next : ℕ) → LeadsTo place node child inner → LeadsTo place node next other
    → (child ≡ next) × (inner ≡ other)
same_way place inner other node child next a b =
    let low : inner.low ≡ other.low = a.low ∙ sym b.low in
    let high : inner.high ≡ other.high = a.high ∙ sym b.high in
    let key : inner.key ≡ other.key = a.key ∙ sym b.key in
    let version : inner.version ≡ other.version = a.version ∙ sym b.version in
    (some_same child next (sym a.child_is ∙ b.child_is), λ i. record { low = low i; high = high i; key = key i; version = version i })

some_or_none : (o : Option ℕ) (child : ℕ) → o ≡ None → o ≡ Some child → ⊥
some_or_none o child none some = let both : ◌≡◌ {A = Option ℕ} (Some child) None = sym some ∙ none in cc

-- Nothing is damaged where the page's node leads to no child, nor where nothing is from the child on.
module _ (pages : PageMap) (level page : ℕ) (place : Place) (node : MvNode) (there : pages page ≡ Some (mv_node_page node)) (fits : FitsPlace level place node (mv_node_page node)) where
  alone : (other : MvNode) (bytes : List ℕ) → pages page ≡ Some bytes → FitsPlace level place other bytes → node ≡ other
  alone other bytes here fit = same_spelled pages page node other bytes fits.fits.typed fits.fits.rules there fit.fits.typed fit.fits.rules fit.fits.spelled here

  pub whole_alone : child_of node place.key place.version ≡ None → (damaged : ℕ) → IsDamagedBelow FitsPlace LeadsTo NothingBeside pages level place page damaged → ⊥
  whole_alone none damaged d =
      on_ways.whole_below FitsPlace LeadsTo NothingBeside pages level place page node (mv_node_page node) there fits alone (λ p beside. beside)
      (λ child inner p leads below. some_or_none (child_of node place.key place.version) child none leads.child_is) damaged d

  pub whole_further : (child : ℕ) (inner : Place) → LeadsTo place node child inner
      → ((damaged : ℕ) → IsDamagedBelow FitsPlace LeadsTo NothingBeside pages (level - 1) inner child damaged → ⊥)
      → (damaged : ℕ) → IsDamagedBelow FitsPlace LeadsTo NothingBeside pages level place page damaged → ⊥
  whole_further child inner leads below damaged d =
      on_ways.whole_below FitsPlace LeadsTo NothingBeside pages level place page node (mv_node_page node) there fits alone (λ p beside. beside)
      (λ next other p leads_on here.
      let same = same_way place inner other node child next leads leads_on in
      below p (subst (λ (q : Place). IsDamagedBelow FitsPlace LeadsTo NothingBeside pages (level - 1) q child p) (sym same.1)
      (subst (λ (c : ℕ). IsDamagedBelow FitsPlace LeadsTo NothingBeside pages (level - 1) other c p) (sym same.0) here))) damaged d

-- The same from a root on, which tells its level.
module _ (pages : PageMap) (root : ℕ) (place : Place) (node : MvNode) (some : root ≢ 0) (typed : IsTyped node) (rules : IsMvNode node)
    (there : pages root ≡ Some (mv_node_page node)) (fits : IsInPlace node.level place node) where
  level : root_level pages root ≡ node.level
  level = level_of_root pages root node some typed rules there

  at_root : FitsPlace (root_level pages root) place node (mv_node_page node)
  at_root = record {
    fits = record { spelled = refl; rules = rules; typed = typed; at_level = sym level };
    admitted = subst (λ (l : ℕ). IsInPlace l place node) (sym level) fits;
  }

  either : (damaged : ℕ) → (IsDamagedBelow FitsPlace LeadsTo NothingBeside pages (root_level pages root) place root damaged → ⊥) → IsDamagedFromRoot pages root place damaged → ⊥
  either damaged below (inl d) = d.1 node (mv_node_page node) there (record { spelled = refl; rules = rules; typed = typed })
  either damaged below (inr d) = below d

  pub whole_root_alone : child_of node place.key place.version ≡ None → (damaged : ℕ) → IsDamagedFromRoot pages root place damaged → ⊥
  whole_root_alone none damaged d = either damaged (whole_alone pages (root_level pages root) root place node there at_root none damaged) d

  pub whole_root_further : (child : ℕ) (inner : Place) → LeadsTo place node child inner
      → ((damaged : ℕ) → IsDamagedBelow FitsPlace LeadsTo NothingBeside pages (node.level - 1) inner child damaged → ⊥)
      → (damaged : ℕ) → IsDamagedFromRoot pages root place damaged → ⊥
  whole_root_further child inner leads below damaged d =
      either damaged (whole_further pages (root_level pages root) root place node there at_root child inner leads
      (subst (λ (l : ℕ). (p : ℕ) → IsDamagedBelow FitsPlace LeadsTo NothingBeside pages (l - 1) inner child p → ⊥) (sym level) below) damaged) d

-- Nothing is damaged for a value, where nothing is on the way to the root of the version, nor from that root on.
pub whole_from : (pages : PageMap) (tree : Tree) (key version root : ℕ) → root ≡ root_at pages tree version
    → IsWholeToRoot pages tree version
    → ((page : ℕ) → IsDamagedFromRoot pages root (root_place key version) page → ⊥) → (page : ℕ) → IsDamagedForValue pages tree key version page → ⊥
whole_from pages tree key version root is_root way below page (inl d) = way page d
whole_from pages tree key version root is_root way below page (inr d) =
    below page (subst (λ (r : ℕ). IsDamagedFromRoot pages r (root_place key version) page) (sym is_root) d.2)
