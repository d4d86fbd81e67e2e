-- What an addition leaves alone outside the pages of the tree, whatever they hold.
use Rattle.sb_tree.proofs.Common.{◌≡◌, ℕ, zero, suc, ◌-◌, ◌≤◌, ◌==◌, false, List, [], ◌∷◌, ◌++◌, get_or, take, drop, Option, Some, None, IsSome, refl, sym, ◌∙◌, subst, arith, flat_map, or_parts, flat_map-append, PageMap, names_page, names_page-append, SbEntry, Second, IsCut, entries_on, child_at, pages_below, IsStored, OthersStay}
use Rattle.sb_tree.proofs.Freeing.{own_pages}
use Rattle.sb_tree.proofs.Lists.{list_pages, pages_of_entries}
use Rattle.sb_tree.proofs.Paths.{GoesBy-cut, child_at-path}

-- A node that is stored changes no other page of the map.
pub stored_others : (level page : ℕ) (es : List SbEntry) (m n : PageMap) (o : Option Second) → IsStored level es m n page o → OthersStay (page ∷ []) m n
stored_others level page es m n None s = λ p outside there. s.2 p (or_parts (page == p) false outside).0
stored_others level page es m n (Some second) s = grind arith

-- One change after another, of which each leaves alone what the list does not name.
pub others_then : (ps qs rs : List ℕ) (a b c : PageMap)
    → ((p : ℕ) → names_page ps p ≡ false → (names_page qs p ≡ false) × (names_page rs p ≡ false))
    → OthersStay qs a b → OthersStay rs b c → OthersStay ps a c
others_then ps qs rs a b c parts first then = grind arith

outside_child : (own : SbEntry → List ℕ) (before : List SbEntry) (at : SbEntry) (after es : List SbEntry) (p : ℕ)
    → es ≡ before ++ (at ∷ after) → names_page (flat_map own es) p ≡ false → names_page (own at) p ≡ false
outside_child own before at after es p whole outside = grind (arith, flat_map-append, names_page-append)

-- What lies outside the pages of a node lies outside those of the child to which a version leads.
outside_both : (level page child k v : ℕ) (m : PageMap) (es : List SbEntry) → entries_on m page ≡ es → IsCut es (suc k) v → child ≡ child_at es v
    → (p : ℕ) → names_page (pages_below (suc (suc level)) m page) p ≡ false → (names_page (pages_below (suc level) m child) p ≡ false) × (names_page (page ∷ []) p ≡ false)
outside_both level page child k v m es on cut is_child p outside =
    let d : SbEntry = record { low = 0; value = 0; child = 0 } in
    let pages = subst (λ (ps : List ℕ). names_page ps p ≡ false) (pages_of_entries (suc level) m page es on) outside in
    let n = or_parts (page == p) (names_page (list_pages (suc level) m es) p) pages in
    let path = GoesBy-cut es k v d cut in
    let below = outside_child (own_pages (suc level) m) (take k es) (get_or es k d) (drop (suc k) es) es p path.whole n.1 in
    let same : child ≡ (get_or es k d).child = is_child ∙ child_at-path es _ _ _ v path in
    (rw same below, rw n.0 refl)

-- An addition below an index node.
pub index_others : (level page child k v : ℕ) (m0 m1 m2 m3 : PageMap) (es : List SbEntry) → 2 ≤ level → entries_on m0 page ≡ es → IsCut es k v → 1 ≤ k → child ≡ child_at es v
    → m1 ≡ m0 → OthersStay (pages_below (level - 1) m1 child) m1 m2 → OthersStay (page ∷ []) m2 m3 → OthersStay (pages_below level m0 page) m0 m3
index_others zero page child k v m0 m1 m2 m3 es index on cut some is_child read below stored = absurd (omega arith)
index_others (suc zero) page child k v m0 m1 m2 m3 es index on cut some is_child read below stored = absurd (omega arith)
index_others (suc (suc level)) page child zero v m0 m1 m2 m3 es index on cut some is_child read below stored = absurd (omega arith)
index_others (suc (suc level)) page child (suc k) v m0 m1 m2 m3 es index on cut some is_child read below stored =
    let less : suc (suc level) - 1 ≡ suc level = omega arith in
    let at_level = rw less at below in
    let first = rw read at at_level in
    others_then (pages_below (suc (suc level)) m0 page) (pages_below (suc level) m0 child) (page ∷ []) m0 m2 m3
    (outside_both level page child k v m0 es on cut is_child) first stored

pub not_missing : (o : Option (List ℕ)) → o ≡ None → IsSome o → ⊥
not_missing None none some = cc
not_missing (Some bytes) none some = cc

-- A page that was given out after a change was in the map before only where the change could take it out.
pub given_outside : (pages : List ℕ) (m0 m1 : PageMap) (page : ℕ) → OthersStay pages m0 m1 → m1 page ≡ None → IsSome (m0 page)
    → names_page pages page ≡ false → ⊥
given_outside pages m0 m1 page stays none some outside = not_missing (m0 page) (sym (stays page outside some) ∙ none) some
