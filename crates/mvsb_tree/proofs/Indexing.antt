-- The tree as an index of one dimension.
use Rattle.std.proofs.Common.{◌≡◌, ◌⊎◌, ℕ, zero, suc, ◌≤◌, inl, inr, false, slice_index_or, List, [], ◌∷◌, length, Option, Some, None, IsSome, refl, sym, ◌∙◌, subst, arith}
use Rattle.std.proofs.lemmas.Bool.{cases_Bool}
use Rattle.bw_types.specs.Dominance.{dominance_sum}
use Rattle.bw_types.specs.Depths.{added_pages}
use Rattle.bw_types.specs.declared.point.Point.{Point}
use Rattle.bw_types.specs.declared.tree.Tree.{Tree}
use Rattle.ports.specs.Pages.{PageMap}
use Rattle.ports.specs.Frame.{names_page}
use Rattle.dom_index.specs.Becoming.{MayName}
use Rattle.sb_tree.specs.Stored.{OthersStay}
use Rattle.mvsb_tree.specs.AddDamage.{IsDamagedForAdd, directory_pages, node_way}
use Rattle.mvsb_tree.specs.Index.{MayChangeAt}

pub one_growth : (dims count : ℕ) → 1 ≤ dims → dims ≤ 1 → 24 ≤ added_pages dims count
one_growth zero count some few = absurd (omega (arith, some))
one_growth (suc zero) count some few = omega arith
one_growth (suc (suc dims)) count some few = absurd (omega (arith, few))

pub one_key_sum : (dims : ℕ) (points : List Point) (keys : List ℕ) (version : ℕ) → 1 ≤ dims → dims ≤ 1 → 1 ≤ length keys
    → dominance_sum 1 points (slice_index_or keys 0 0 ∷ []) version ≡ dominance_sum dims points keys version
one_key_sum zero points keys version some few long = absurd (omega (arith, some))
one_key_sum (suc zero) points [] version some few long = absurd (omega (arith, long))
one_key_sum (suc zero) points (key ∷ keys) version some few long = refl
one_key_sum (suc (suc dims)) points keys version some few long = absurd (omega (arith, few))

pub damaged_point : (pages : PageMap) (order : Type 0) (tree : Tree) (key version value page : ℕ) → IsDamagedForAdd pages order tree key version value page
    → IsDamagedForAdd pages (Unit {0}) tree key version value page ⊎ (order → ⊥)
damaged_point pages order tree key version value page (inl many) = inl (inl many)
damaged_point pages order tree key version value page (inr (inl d)) = inl (inr (inl d))
damaged_point pages order tree key version value page (inr (inr (inl d))) = elim d.1 [
  | inl path ↦ inl (inr (inr (inl (d.0, inl path))))
  | inr (inl many) ↦ inl (inr (inr (inl (d.0, inr (inl many)))))
  | inr (inr (inl full)) ↦ inl (inr (inr (inl (d.0, inr (inr (inl full))))))
  | inr (inr (inr unordered)) ↦ inr unordered
]
damaged_point pages order tree key version value page (inr (inr (inr unordered))) = inr unordered

-- What an addition may not change is off the way through the nodes, and is no page of the directory as that is read then.
off_way : (m0 : PageMap) (tree : Tree) (key version page : ℕ) → (MayChangeAt m0 tree key version page → ⊥) → names_page (node_way m0 tree key version) page ≡ false
off_way m0 tree key version page not_changed = elim (cases_Bool (names_page (node_way m0 tree key version) page)) [
  | inl named ↦ absurd (not_changed (inl named))
  | inr other ↦ other
]

off_directory : (m0 m1 : PageMap) (tree : Tree) (key version page : ℕ) → OthersStay (node_way m0 tree key version) m0 m1 → (MayChangeAt m0 tree key version page → ⊥)
    → names_page (directory_pages m1 tree) page ≡ false
off_directory m0 m1 tree key version page nodes not_changed = elim (cases_Bool (names_page (directory_pages m1 tree) page)) [
  | inl named ↦ absurd (not_changed (inr (m1, nodes, named)))
  | inr other ↦ other
]

stays_between : (m0 m1 : PageMap) (tree : Tree) (key version page : ℕ) → OthersStay (node_way m0 tree key version) m0 m1 → IsSome (m0 page) → (MayChangeAt m0 tree key version page → ⊥)
    → m1 page ≡ m0 page
stays_between m0 m1 tree key version page nodes some not_changed = nodes page (off_way m0 tree key version page not_changed) some

-- A page that may not change stays.
pub unchanged_stays : (m0 m2 : PageMap) (tree : Tree) (key version page : ℕ)
    → ((m1 : PageMap) × OthersStay (node_way m0 tree key version) m0 m1 × OthersStay (directory_pages m1 tree) m1 m2)
    → IsSome (m0 page) → (MayChangeAt m0 tree key version page → ⊥) → m2 page ≡ m0 page
unchanged_stays m0 m2 tree key version page stays some not_changed =
    let first = stays_between m0 stays.0 tree key version page stays.1 some not_changed in
    stays.2 page (off_directory m0 stays.0 tree key version page stays.1 not_changed) (subst IsSome (sym first) some) ∙ first

-- The directory's root is the one of before, where it was in the map and may not change.
pub root_may_name : (m0 m1 : PageMap) (tree : Tree) (key version page : ℕ) → OthersStay (node_way m0 tree key version) m0 m1
    → (IsSome (m1 page) → names_page (directory_pages m1 tree) page ≡ false → page ≡ tree.root) → MayName (MayChangeAt m0 tree key version) m0 tree.root page
root_may_name m0 m1 tree key version page nodes renamed = λ some not_changed.
    let first = stays_between m0 m1 tree key version page nodes some not_changed in
    renamed (subst IsSome (sym first) some) (off_directory m0 m1 tree key version page nodes not_changed)

not_missing : (o : Option (List ℕ)) → o ≡ None → IsSome o → ⊥
not_missing None none some = cc
not_missing (Some bytes) none some = cc

-- A page that is the one of before, or was not in the map.
pub end_stays : (m0 : PageMap) (old new : ℕ) → (new ≡ old) ⊎ (m0 new ≡ None) → IsSome (m0 new) → new ≡ old
end_stays m0 old new (inl same) some = same
end_stays m0 old new (inr none) some = absurd (not_missing (m0 new) none some)
