-- An addition on ways that stand finds no page damaged.
use Rattle.std.proofs.Common.{◌≡◌, ◌⊎◌, ℕ, zero, suc, ◌<◌, inl, inr, Bool, IsTrue, List, Option, Some, None, IsSome, refl, sym, subst, arith}
use Rattle.std.specs.List.{All}
use Rattle.ports.specs.Pages.{PageMap}
use Rattle.page_layout.specs.Damage.{HoldsNoNode, NothingBeside}
use Rattle.page_layout.specs.DamageLaws as laws
use Rattle.page_layout.specs.MvNode.{IsMvNode, IsTyped, mv_node_page}
use Rattle.page_layout.specs.declared.mv_node.MvNode.{MvNode}
use Rattle.mv_pages.specs.Alive.{IsChangeable, IsPastOf, child_of}
use Rattle.mv_pages.proofs.LowOrder.{once_of}
use Rattle.mvsb_tree.specs.declared.place.Place.{Place}
use Rattle.mvsb_tree.specs.Damage.{FitsPlace, IsInPlace, LeadsTo, root_place}
use Rattle.mvsb_tree.specs.Grown.{NodesHold}
use Rattle.mvsb_tree.specs.Stands.{ChainStands, NodeStands, StandsOnWay}
use Rattle.mvsb_tree.specs.Steps.{chain_from, entries_on, node_on}
use Rattle.mvsb_tree.specs.Ways.{WaysStand}
use Rattle.mvsb_tree.proofs.Nodes.{node_on-spelled}
use Rattle.mvsb_tree.proofs.Sound.{fits_where_stands, inner_stands, root_spelled, undamaged}

-- What stands at a version may be changed at it.
pub changeable_where_stands : (m : PageMap) (nodes : List ℕ) (level page v low : ℕ) (high : Option ℕ) (least : ℕ) (node : MvNode) → v < 4294967295 → All (IsPastOf v) (entries_on m page)
    → NodeStands m nodes level page v low high least → m page ≡ Some (mv_node_page node) → IsTyped node → IsMvNode node → IsChangeable v node.entries.items
changeable_where_stands m nodes level page v low high least node early past s there typed rules =
    subst (λ (n : MvNode). IsChangeable v n.entries.items) (node_on-spelled m page node typed rules there) (record { last = early; past = past; once = once_of v (entries_on m page) None s.differ })

-- The child of a node on whose way nodes stand holds a fitting node.
pub child_fits : (level : ℕ) (m : PageMap) (nodes : List ℕ) (page child : ℕ) (place inner : Place) (node : MvNode) (least : ℕ) → node.level ≡ suc (suc level)
    → m page ≡ Some (mv_node_page node) → IsTyped node → IsMvNode node → LeadsTo place node child inner
    → StandsOnWay node.level m nodes page place.version place.key place.low place.high least
    → StandsOnWay (suc level) m nodes child inner.version inner.key inner.low inner.high 24
child_fits level m nodes page child place inner node least at_level there typed rules leads way =
    let w = subst (λ (l : ℕ). StandsOnWay l m nodes page place.version place.key place.low place.high least) at_level way in
    inner_stands m nodes (suc level) page child place inner node (w.1, w.2, w.3) (node_on-spelled m page node typed rules there) leads

pub child_undamaged : (level : ℕ) (m : PageMap) (nodes : List ℕ) (child : ℕ) (inner : Place) → StandsOnWay (suc level) m nodes child inner.version inner.key inner.low inner.high 24
    → HoldsNoNode FitsPlace m (suc level) inner child → ⊥
child_undamaged level m nodes child inner way none =
    undamaged (suc level) m nodes child 24 child inner way (laws.damaged_here FitsPlace LeadsTo NothingBeside m (suc level) inner child child (omega arith) refl none)

-- That an addition below a page, which stands, would find a page damaged.
abbrev pub Fails : ℕ → PageMap → ℕ → ℕ → ℕ → ℕ → Option ℕ → ℕ → Type 0
Fails level m page v key low high last = (test : ℕ → Bool) (places least : ℕ) → IsTrue (test key) → ChainStands places m last → NodesHold v test m (chain_from places m last)
    → WaysStand level m (chain_from places m last) page v low high least → ⊥

-- The root of ways that stand fits, and may be changed.
pub root_in_place : (m : PageMap) (nodes : List ℕ) (root v key least : ℕ) (node : MvNode) → StandsOnWay node.level m nodes root v key 0 None least → m root ≡ Some (mv_node_page node) → IsTyped node → IsMvNode node
    → IsInPlace node.level (root_place key v) node
root_in_place m nodes root v key least node way there typed rules =
    let is : node_on m root ≡ node = node_on-spelled m root node typed rules there in
    let fits = fits_where_stands m nodes node.level root least (root_place key v) (root_spelled node.level m nodes root v key 0 None least way) (leads node.level way) in
    subst (λ (n : MvNode). IsInPlace node.level (root_place key v) n) is fits.admitted
  where
    leads : (level : ℕ) → StandsOnWay level m nodes root v key 0 None least → (level ≡ 1) ⊎ IsSome (child_of (node_on m root) key v)
    leads zero w = absurd w
    leads (suc zero) w = inl refl
    leads (suc (suc level)) w = inr (subst IsSome (sym w.2) refl)
