-- The chain in a map that has lost the directory.
use Rattle.std.proofs.Common.{◌≡◌, ◌≢◌, ℕ, zero, suc, ◌≤◌, ◌==◌, inl, inr, List, [], ◌++◌, Option, None, IsSome, refl, sym, subst, arith}
use Rattle.std.proofs.lemmas.Bool.{cases_Bool, eqb-true, cond-false}
use Rattle.bw_types.specs.declared.point.Point.{Point}
use Rattle.bw_types.specs.declared.tree.Tree.{Tree}
use Rattle.ports.specs.Pages.{PageMap}
use Rattle.ports.specs.Frame.{names_page, AgreeOn, AreInMap, Replaces}
use Rattle.page_layout.specs.Footprint.{NamesNoneTwice}
use Rattle.page_layout.specs.MvNode.{mv_node_page}
use Rattle.page_layout.specs.Spelled.{SpellsNone}
use Rattle.mvsb_tree.specs.Damage.{mv_pages}
use Rattle.mvsb_tree.specs.Stands.{ChainStands, MvStands}
use Rattle.mvsb_tree.specs.Steps.{chain_from, node_on, place_count}
use Rattle.mvsb_tree.proofs.Chains.{same_chain, chain_stands, parts_apart}

none_is_some : (o : Option (List ℕ)) → o ≡ None → IsSome o → ⊥
none_is_some o none some = (let h : IsSome {T = List ℕ} None = subst IsSome none some in cc)

pub count_is : (pages : PageMap) (tree : Tree) → tree.levels ≢ 0 → place_count pages tree ≡ (node_on pages tree.last).place
count_is pages tree some = elim (cases_Bool (tree.levels == 0)) [
  | inl none ↦ absurd (some (eqb-true tree.levels 0 none))
  | inr other ↦ cond-false (tree.levels == 0) 0 (node_on pages tree.last).place other
]

-- Pages that are left are as they were.
pub left_agree : (pages d : List ℕ) (m0 m1 : PageMap) → Replaces d [] m0 m1 → AreInMap m1 pages → AgreeOn pages m1 m0
left_agree pages d m0 m1 r there = λ p named. elim (cases_Bool (names_page d p)) [
  | inl gone ↦ absurd (none_is_some (m1 p) (r.gone p gone refl) (there p named))
  | inr left ↦ sym (r.others p left refl)
]

pub same_left : (d : List ℕ) (places last : ℕ) (m0 m1 : PageMap) → Replaces d [] m0 m1 → AreInMap m1 (chain_from places m1 last)
    → chain_from places m0 last ≡ chain_from places m1 last
same_left d places last m0 m1 r there = same_chain places m1 m0 last (left_agree (chain_from places m1 last) d m0 m1 r there)

-- The chain stands still where the directory is gone.
pub chain_still_stands : (d : List ℕ) (places last : ℕ) (m0 m1 : PageMap) → Replaces d [] m0 m1 → NamesNoneTwice (d ++ chain_from places m0 last)
    → ChainStands places m0 last → ChainStands places m1 last
chain_still_stands d places last m0 m1 r once s =
    chain_stands places m0 m1 last (λ p named. r.others p (parts_apart d (chain_from places m0 last) once p named) refl) s

pub chain_spelled : (n : ℕ) (pages : PageMap) (page : ℕ) → 1 ≤ n → ChainStands n pages page → SpellsNone mv_pages pages page → ⊥
chain_spelled zero pages page some s none = absurd (omega (arith, some))
chain_spelled (suc n) pages page some s none = none (node_on pages page) (mv_node_page (node_on pages page)) s.0 (record { spelled = refl; rules = s.1; typed = s.2 })

-- The last page of a tree that stands is a node.
pub last_spelled : (pages : PageMap) (tree : Tree) (points : List Point) → MvStands pages tree points → tree.levels ≢ 0 → SpellsNone mv_pages pages tree.last → ⊥
last_spelled pages tree points s some none = chain_spelled (place_count pages tree) pages tree.last (s.noded some) s.chain none
