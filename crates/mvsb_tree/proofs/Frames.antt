-- The nodes on a way depend on their own pages alone.
use Rattle.std.proofs.Common.{◌≡◌, ℕ, zero, suc, ◌+◌, ◌≤◌, ◌==◌, inl, inr, IsTrue, List, ◌++◌, length, Option, Some, None, sym, ap, ◌∙◌, subst, if◌then◌else◌}
use Rattle.std.specs.List.{All}
use Rattle.std.specs.Option.{option_map_or}
use Rattle.std.proofs.lemmas.Bool.{or_left, or_right}
use Rattle.ports.specs.Pages.{PageMap}
use Rattle.ports.specs.Frame.{names_page, AgreeOn}
use Rattle.ports.specs.FrameLaws.{names_page-append}
use Rattle.page_layout.specs.MvNode.{IsMvNode, IsTyped, mv_node_page}
use Rattle.page_layout.specs.declared.mv_node.MvNode.{MvNode}
use Rattle.mv_pages.specs.Alive.{child_of, value_of}
use Rattle.mv_pages.specs.Lows.{alive_lows, ascend}
use Rattle.mvsb_tree.specs.Stands.{NodeStands, StandsOnWay, RootStands, ends_after, first_of, inner_low, inner_high}
use Rattle.mvsb_tree.specs.Steps.{node_on, entries_on, root_level, total_below}
use Rattle.mvsb_tree.proofs.Chains.{same_node}
use Rattle.mvsb_tree.proofs.Sound.{root_spelled}

pub agree_left : (xs ys : List ℕ) (a b : PageMap) → AgreeOn (xs ++ ys) a b → AgreeOn xs a b
agree_left xs ys a b h = λ q named. h q (names_page-append xs ys q ∙ or_left (names_page xs q) (names_page ys q) named)

pub agree_right : (xs ys : List ℕ) (a b : PageMap) → AgreeOn (xs ++ ys) a b → AgreeOn ys a b
agree_right xs ys a b h = λ q named. h q (names_page-append xs ys q ∙ or_right (names_page xs q) (names_page ys q) named)

pub node_stands : (a b : PageMap) (nodes : List ℕ) (level page v low : ℕ) (high : Option ℕ) (least : ℕ) → b page ≡ a page
    → NodeStands a nodes level page v low high least → NodeStands b nodes level page v low high least
node_stands a b nodes level page v low high least e s =
    let node : node_on a page ≡ node_on b page = sym (same_node a b page e) in
    record {
      listed = s.listed;
      spelled = e ∙ s.spelled ∙ ap (λ (n : MvNode). Some (mv_node_page n)) node;
      rules = subst IsMvNode node s.rules;
      typed = subst IsTyped node s.typed;
      at_level = sym (ap (λ (n : MvNode). n.level) node) ∙ s.at_level;
      differ = subst (λ (n : MvNode). IsTrue (ascend (alive_lows n.entries.items v))) node s.differ;
      begins = subst (λ (n : MvNode). first_of (alive_lows n.entries.items v) ≡ Some low) node s.begins;
      ends = subst (λ (n : MvNode). All (λ l. IsTrue (ends_after high l)) (alive_lows n.entries.items v)) node s.ends;
      filled = subst (λ (n : MvNode). least ≤ length (alive_lows n.entries.items v)) node s.filled;
    }

pub way_stands : (level : ℕ) (a b : PageMap) (nodes : List ℕ) (page v key low : ℕ) (high : Option ℕ) (least : ℕ) → AgreeOn nodes a b
    → StandsOnWay level a nodes page v key low high least → StandsOnWay level b nodes page v key low high least
way_stands zero a b nodes page v key low high least h s = s
way_stands (suc zero) a b nodes page v key low high least h s = node_stands a b nodes 1 page v low high least (h page s.listed) s
way_stands (suc (suc level)) a b nodes page v key low high least h s =
    let e : b page ≡ a page = h page s.0.listed in
    let node : node_on a page ≡ node_on b page = sym (same_node a b page e) in
    let child : ℕ = s.1 in
    let below = way_stands (suc level) a b nodes child v key _ _ 24 h s.3 in (
      node_stands a b nodes (suc (suc level)) page v low high least e s.0,
      child,
      subst (λ (n : MvNode). child_of n key v ≡ Some child) node s.2,
      subst (λ (n : MvNode). StandsOnWay (suc level) b nodes child v key (inner_low low (alive_lows n.entries.items v) key) (inner_high high (alive_lows n.entries.items v) key) 24) node below,
    )

-- the total on a way that stands
pub way_total : (level : ℕ) (a b : PageMap) (nodes : List ℕ) (page v key low : ℕ) (high : Option ℕ) (least : ℕ) → AgreeOn nodes a b
    → StandsOnWay level a nodes page v key low high least → total_below level b page key v ≡ total_below level a page key v
way_total zero a b nodes page v key low high least h s = absurd s
way_total (suc zero) a b nodes page v key low high least h s =
    let node : node_on b page ≡ node_on a page = same_node a b page (h page s.listed) in
    ap (λ (n : MvNode). value_of n.entries.items key v + option_map_or (λ child. 0) (child_of n key v) 0) node
way_total (suc (suc level)) a b nodes page v key low high least h s =
    let node : node_on b page ≡ node_on a page = same_node a b page (h page s.0.listed) in
    let below = way_total (suc level) a b nodes s.1 v key _ _ 24 h s.3 in
    let own : ℕ = value_of (entries_on a page) key v in
    let first = ap (λ (n : MvNode). value_of n.entries.items key v + option_map_or (λ child. total_below (suc level) b child key v) (child_of n key v) 0) node in
    let second = ap (λ (o : Option ℕ). own + option_map_or (λ child. total_below (suc level) b child key v) o 0) s.2 in
    let third = ap (λ (o : Option ℕ). own + option_map_or (λ child. total_below (suc level) a child key v) o 0) s.2 in
    first ∙ second ∙ ap (λ (t : ℕ). own + t) below ∙ sym third

root_level-zero : (pages : PageMap) (root : ℕ) → root ≡ 0 → root_level pages root ≡ 0
root_level-zero pages root none = ap (λ (r : ℕ). root_level pages r) none

pub same_root_level : (a b : PageMap) (nodes : List ℕ) (root v key : ℕ) → AgreeOn nodes a b → RootStands a nodes root v key → root_level b root ≡ root_level a root
same_root_level a b nodes root v key h (inl none) = root_level-zero b root none ∙ sym (root_level-zero a root none)
same_root_level a b nodes root v key h (inr s) =
    let top = root_spelled (root_level a root) a nodes root v key 0 None 1 s.1 in
    ap (λ (n : MvNode). if root == 0 then 0 else n.level) (same_node a b root (h root top.listed))

pub root_stands : (a b : PageMap) (nodes : List ℕ) (root v key : ℕ) → AgreeOn nodes a b → RootStands a nodes root v key → RootStands b nodes root v key
root_stands a b nodes root v key h (inl none) = inl none
root_stands a b nodes root v key h (inr s) =
    let level = same_root_level a b nodes root v key h (inr s) in
    inr (s.0, subst (λ (l : ℕ). StandsOnWay l b nodes root v key 0 None 1) (sym level) (way_stands (root_level a root) a b nodes root v key 0 None 1 h s.1))

pub root_total : (a b : PageMap) (nodes : List ℕ) (root v key : ℕ) → AgreeOn nodes a b → RootStands a nodes root v key
    → total_below (root_level b root) b root key v ≡ total_below (root_level a root) a root key v
root_total a b nodes root v key h (inl none) =
    ap (λ (l : ℕ). total_below l b root key v) (root_level-zero b root none) ∙ sym (ap (λ (l : ℕ). total_below l a root key v) (root_level-zero a root none))
root_total a b nodes root v key h (inr s) =
    ap (λ (l : ℕ). total_below l b root key v) (same_root_level a b nodes root v key h (inr s)) ∙ way_total (root_level a root) a b nodes root v key 0 None 1 h s.1
