-- What an addition finds damaged below a node.
use Rattle.std.proofs.Common.{◌≡◌, ◌≢◌, ◌⊎◌, ℕ, zero, suc, ◌-◌, ◌<◌, ◌≤◌, ◌^◌, inl, inr, List, Option, Some, None, IsSome, refl, sym, ap, ◌∙◌, subst, arith}
use Rattle.ports.specs.Pages.{PageMap}
use Rattle.page_layout.specs.Damage.{HoldsNoNode, IsDamagedBelow, NothingBeside}
use Rattle.page_layout.specs.DamageLaws as laws
use Rattle.page_layout.specs.MvNode.{IsMvNode, IsTyped, mv_node_page}
use Rattle.mv_pages.specs.Alive.{IsChangeable, child_of}
use Rattle.mvsb_tree.specs.declared.replaced.Replaced.{Replaced}
use Rattle.page_layout.specs.declared.mv_node.MvNode.{MvNode}
use Rattle.mvsb_tree.specs.declared.place.Place.{Place}
use Rattle.mvsb_tree.specs.AddDamage.{FitsForAdd, IsDamagedFromRootForAdd, IsDamagedPastForAdd, IsPlacedAs, IsWholeFromRoot, IsWholePast, KeepsPlaces}
use Rattle.mvsb_tree.specs.Damage.{FitsPlace, IsInPlace, LeadsTo, root_place}
use Rattle.mvsb_tree.specs.Grown.{PastStays}
use Rattle.mvsb_tree.specs.Steps.{node_on, root_level}
use Rattle.mvsb_tree.specs.Tops.{IsTop, IsTopOf}
use Rattle.mvsb_tree.proofs.Landing.{not_new}
use Rattle.mvsb_tree.proofs.Nodes.{same_spelled}
use Rattle.mvsb_tree.proofs.Values.{level_of_root}

-- The child itself is damaged.
pub add_past_here : (pages : PageMap) (place inner : Place) (node : MvNode) (child damaged : ℕ) → 1 ≤ node.level - 1 → LeadsTo place node child inner
    → damaged ≡ child → HoldsNoNode FitsForAdd pages (node.level - 1) inner child → IsDamagedPastForAdd pages place node damaged
add_past_here pages place inner node child damaged some leads same none =
    (child, inner, leads, laws.damaged_here FitsForAdd LeadsTo NothingBeside pages (node.level - 1) inner child damaged some same none)

-- A node below the child is damaged.
pub add_past_further : (pages : PageMap) (place inner : Place) (node below_node : MvNode) (child damaged : ℕ) (bytes : List ℕ) → 1 ≤ node.level - 1 → LeadsTo place node child inner
    → pages child ≡ Some bytes → FitsForAdd (node.level - 1) inner below_node bytes
    → IsDamagedPastForAdd pages inner below_node damaged → IsDamagedPastForAdd pages place node damaged
add_past_further pages place inner node below_node child damaged bytes some leads there fits past =
    let less : below_node.level - 1 ≡ node.level - 1 - 1 = ap (λ (l : ℕ). l - 1) fits.0.fits.at_level in
    let below = subst (λ (l : ℕ). IsDamagedBelow FitsForAdd LeadsTo NothingBeside pages l past.1 past.0 damaged) less past.3 in
    (child, inner, leads, laws.damaged_further FitsForAdd LeadsTo NothingBeside pages (node.level - 1) inner child damaged below_node bytes past.0 past.1 some there fits past.2 below)

-- A node that was changed has the place of its page.
pub placed_as : (m : PageMap) (page : ℕ) (old new : MvNode) {v : ℕ} → node_on m page ≡ old → IsTyped old → PastStays v old new → IsPlacedAs m page new
placed_as m page old new is typed past = (
  past.place ∙ sym (ap (λ (n : MvNode). n.place) is),
  subst (λ (x : ℕ). x < 2 ^ 32) (sym past.place) typed.place,
  subst (λ (x : ℕ). x < 2 ^ 64) (sym past.before) typed.before,
)

pub placed_later : (m0 m1 : PageMap) (page : ℕ) (old new : MvNode) (more last last1 : ℕ) {v : ℕ} → node_on m0 page ≡ old → IsTyped old → IsSome (m0 page) → KeepsPlaces more m0 m1 last last1
    → PastStays v old new → IsPlacedAs m1 page new
placed_later m0 m1 page old new more last last1 is typed there kept past =
    let first = placed_as m0 page old new is typed past in
    (first.0 ∙ sym (kept.kept page there).1, first.1, first.2)

-- A root that spells a node which does not keep to the place, or may not be changed, is damaged.
pub root_add_unfit : (pages : PageMap) (root : ℕ) (place : Place) (node : MvNode) (damaged : ℕ) → root ≢ 0 → IsTyped node → IsMvNode node → pages root ≡ Some (mv_node_page node)
    → (IsInPlace node.level place node → IsChangeable place.version node.entries.items → ⊥) → damaged ≡ root → IsDamagedFromRootForAdd pages root place damaged
root_add_unfit pages root place node damaged some typed rules there unfit same =
    let level : root_level pages root ≡ node.level = level_of_root pages root node some typed rules there in
    inr (laws.damaged_here FitsForAdd LeadsTo NothingBeside pages (root_level pages root) place root damaged (omega (arith, level, rules.low_level)) same
    (λ other bytes here fits.
    let is : other ≡ node = sym (same_spelled pages root node other bytes typed rules there fits.0.fits.typed fits.0.fits.rules fits.0.fits.spelled here) in
    let at = subst (λ (n : MvNode). IsInPlace (root_level pages root) place n) is fits.0.admitted in
    unfit (subst (λ (l : ℕ). IsInPlace l place node) level at) (subst (λ (n : MvNode). IsChangeable place.version n.entries.items) is fits.1)))

-- A root whose node fits is damaged where a node below it is.
pub root_add_past : (pages : PageMap) (root : ℕ) (place : Place) (node : MvNode) (damaged : ℕ) → root ≢ 0 → IsTyped node → IsMvNode node → pages root ≡ Some (mv_node_page node)
    → IsInPlace node.level place node → IsChangeable place.version node.entries.items → IsDamagedPastForAdd pages place node damaged → IsDamagedFromRootForAdd pages root place damaged
root_add_past pages root place node damaged some typed rules there fits can past =
    let level : root_level pages root ≡ node.level = level_of_root pages root node some typed rules there in
    let less : node.level - 1 ≡ root_level pages root - 1 = ap (λ (l : ℕ). l - 1) (sym level) in
    let below = subst (λ (l : ℕ). IsDamagedBelow FitsForAdd LeadsTo NothingBeside pages l past.1 past.0 damaged) less past.3 in
    let fit : FitsPlace (root_level pages root) place node (mv_node_page node) = record {
      fits = record { spelled = refl; rules = rules; typed = typed; at_level = sym level };
      admitted = subst (λ (l : ℕ). IsInPlace l place node) (sym level) fits;
    } in
    inr (laws.damaged_further FitsForAdd LeadsTo NothingBeside pages (root_level pages root) place root damaged node (mv_node_page node) past.0 past.1 (omega (arith, level, rules.low_level)) there (fit, can) past.2 below)

-- A new root leaves the pages as they are that were there.
pub top_stays : (m1 m2 : PageMap) (root level v : ℕ) (replaced : Option Replaced) (last1 last2 top : ℕ) → IsTop m1 m2 root level v replaced last1 last2 top → (p : ℕ) → IsSome (m1 p) → m2 p ≡ m1 p
top_stays m1 m2 root level v None last1 last2 top is p some = ap (λ (m : PageMap). m p) is.1
top_stays m1 m2 root level v (Some r) last1 last2 top is p some = by_second r.second is
  where
    by_second : (o : Option (ℕ × ℕ)) → IsTopOf m1 m2 level v r.first o last1 last2 top → m2 p ≡ m1 p
    by_second None is = ap (λ (m : PageMap). m p) is.1
    by_second (Some second) is = is.0.others p (not_new m1 top p is.0.fresh some)

-- The chain ends where it did, or at the page that was given out for the root.
pub top_ends : (m1 m2 : PageMap) (root level v : ℕ) (replaced : Option Replaced) (last1 last2 top : ℕ) → IsTop m1 m2 root level v replaced last1 last2 top → (last2 ≡ last1) ⊎ (m1 last2 ≡ None)
top_ends m1 m2 root level v None last1 last2 top is = inl is.2
top_ends m1 m2 root level v (Some r) last1 last2 top is = by_second r.second is
  where
    by_second : (o : Option (ℕ × ℕ)) → IsTopOf m1 m2 level v r.first o last1 last2 top → (last2 ≡ last1) ⊎ (m1 last2 ≡ None)
    by_second None is = inl is.2
    by_second (Some second) is = inr (subst (λ (p : ℕ). m1 p ≡ None) (sym is.1) is.0.fresh)

none_leads : (o : Option ℕ) (child : ℕ) → o ≡ None → o ≡ Some child → ⊥
none_leads o child none some = cc

same_child : (a b : ℕ) (o : Option ℕ) → o ≡ Some a → o ≡ Some b → a ≡ b
same_child a b o first second = cc

-- Nothing is below a node that leads nowhere.
pub whole_leaf : (pages : PageMap) (place : Place) (node : MvNode) → child_of node place.key place.version ≡ None → IsWholePast pages place node
whole_leaf pages place node none = λ page past. none_leads _ past.0 none past.2.child_is

whole_here : (level : ℕ) (pages : PageMap) (place : Place) (node : MvNode) (page damaged : ℕ) → pages page ≡ Some (mv_node_page node) → FitsForAdd level place node (mv_node_page node)
    → IsWholePast pages place node → IsDamagedBelow FitsForAdd LeadsTo NothingBeside pages level place page damaged → ⊥
whole_here zero pages place node page damaged there fits whole d = d
whole_here (suc level) pages place node page damaged there fits whole (inl here) = here.1 node (mv_node_page node) there fits
whole_here (suc level) pages place node page damaged there fits whole (inr (inl beside)) = beside.4
whole_here (suc level) pages place node page damaged there fits whole (inr (inr below)) =
    let other = below.5.0.fits in
    let is : node ≡ below.0 = same_spelled pages page node below.0 below.1 fits.0.fits.typed fits.0.fits.rules there other.typed other.rules other.spelled below.4 in
    let leads = subst (λ (n : MvNode). LeadsTo place n below.2 below.3) (sym is) below.6 in
    let less : level ≡ node.level - 1 = (let at = fits.0.fits.at_level in omega (arith, at)) in
    whole damaged (below.2, below.3, leads, subst (λ (l : ℕ). IsDamagedBelow FitsForAdd LeadsTo NothingBeside pages l below.3 below.2 damaged) less below.7)

-- Where the child holds a node, and nothing below that is damaged, nothing is below the node.
pub whole_index : (pages : PageMap) (place inner : Place) (node below : MvNode) (child : ℕ) → LeadsTo place node child inner → pages child ≡ Some (mv_node_page below)
    → FitsForAdd (node.level - 1) inner below (mv_node_page below) → IsWholePast pages inner below → IsWholePast pages place node
whole_index pages place inner node below child leads there fits whole = λ page past.
    let other = past.2 in
    let child_is : past.0 ≡ child = same_child past.0 child _ other.child_is leads.child_is in
    let inner_is : past.1 ≡ inner = (λ i. record {
      low = (other.low ∙ sym leads.low) i;
      high = (other.high ∙ sym leads.high) i;
      key = (other.key ∙ sym leads.key) i;
      version = (other.version ∙ sym leads.version) i;
    }) in
    let d1 = subst (λ (q : Place). IsDamagedBelow FitsForAdd LeadsTo NothingBeside pages (node.level - 1) q past.0 page) inner_is past.3 in
    let d2 = subst (λ (x : ℕ). IsDamagedBelow FitsForAdd LeadsTo NothingBeside pages (node.level - 1) inner x page) child_is d1 in
    whole_here (node.level - 1) pages inner below child page there fits whole d2

-- A root that holds a node with nothing damaged below it is whole.
pub whole_root : (pages : PageMap) (root key version : ℕ) (node : MvNode) → root ≢ 0 → IsTyped node → IsMvNode node → pages root ≡ Some (mv_node_page node)
    → IsInPlace node.level (root_place key version) node → IsChangeable version node.entries.items → IsWholePast pages (root_place key version) node → IsWholeFromRoot pages root key version
whole_root pages root key version node some typed rules there inside can whole = λ page d. elim d [
  | inl none ↦ none.1 node (mv_node_page node) there (record { spelled = refl; rules = rules; typed = typed })
  | inr below ↦
      let level : root_level pages root ≡ node.level = level_of_root pages root node some typed rules there in
      let fit : FitsPlace node.level (root_place key version) node (mv_node_page node) = record { fits = record { spelled = refl; rules = rules; typed = typed; at_level = refl }; admitted = inside } in
      whole_here node.level pages (root_place key version) node root page there (fit, can) whole
      (subst (λ (l : ℕ). IsDamagedBelow FitsForAdd LeadsTo NothingBeside pages l (root_place key version) root page) level below)
]
