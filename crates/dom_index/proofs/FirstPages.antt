-- What a page tells, and a point put into it or before it.
use Rattle.std.proofs.Common.{◌≡◌, ◌≢◌, ℕ, ◌<◌, ◌≤◌, ◌==◌, false, inl, inr, ◌⊎◌, List, [], ◌∷◌, ◌++◌, length, Option, Some, None, IsSome, refl, sym, ap, ◌∙◌, subst, arith}
use Rattle.bw_types.specs.declared.point.Point.{Point}
use Rattle.ports.specs.Pages.{PageMap, put_page}
use Rattle.page_layout.specs.PointLeaf.{point_leaf_page}
use Rattle.page_layout.specs.Spelled.{Spells}
use Rattle.page_layout.specs.declared.point_leaf.PointLeaf.{PointLeaf}
use Rattle.dom_index.specs.Chain.{LeafStands, IsPutFirst, leaf_on, page_of, point_pages}
use Rattle.dom_index.proofs.Chains.{leaf_found}

pub not_missing : (o : Option (List ℕ)) → o ≡ None → IsSome o → ⊥
not_missing None none some = cc
not_missing (Some bytes) none some = cc

pub leaf_shown : (m : PageMap) (page : ℕ) (leaf : PointLeaf) → m page ≡ Some (point_leaf_page leaf) → Spells point_pages leaf (point_leaf_page leaf)
    → LeafStands m page × (leaf_on m page ≡ leaf)
leaf_shown m page leaf found spells =
    let same : leaf_on m page ≡ leaf = leaf_found m page leaf found spells.typed spells.rules in
    (subst (λ (l : PointLeaf). Spells point_pages l (point_leaf_page l) × (m page ≡ Some (point_leaf_page l))) (sym same) (spells, found), same)

pub put_new : (m mid n : PageMap) (first root : ℕ) (p : Point) → mid ≡ m → 3 ≤ root
    → (mid root ≡ None) × (n root ≡ Some (page_of first (p ∷ []))) × ((q : ℕ) → (root == q) ≡ false → n q ≡ mid q)
    → ((first ≡ 0) ⊎ (LeafStands m first × (64 ≤ length (leaf_on m first).points.items))) → IsPutFirst m n first root p
put_new m mid n first root p same three made why =
    inr (ap (λ (f : PageMap). f root) (sym same) ∙ made.0, (λ e. omega (arith, three, e)), why, made.1, (λ q other. made.2 q other ∙ ap (λ (f : PageMap). f q) same))

pub put_full : (m mid n : PageMap) (first root : ℕ) (p : Point) (leaf : PointLeaf) → mid ≡ m → 3 ≤ root
    → (mid root ≡ None) × (n root ≡ Some (page_of first (p ∷ []))) × ((q : ℕ) → (root == q) ≡ false → n q ≡ mid q)
    → m first ≡ Some (point_leaf_page leaf) → Spells point_pages leaf (point_leaf_page leaf) → length leaf.points.items ≡ 64 → IsPutFirst m n first root p
put_full m mid n first root p leaf same three made found spells full =
    let shown = leaf_shown m first leaf found spells in
    let long : length (leaf_on m first).points.items ≡ 64 = ap (λ (l : PointLeaf). length l.points.items) shown.1 ∙ full in
    put_new m mid n first root p same three made (inr (shown.0, omega (arith, long)))

pub put_in_page : (m mid n : PageMap) (first : ℕ) (leaf : PointLeaf) (more : List Point) (p : Point) → mid ≡ m → first ≢ 0
    → m first ≡ Some (point_leaf_page leaf) → Spells point_pages leaf (point_leaf_page leaf) → length leaf.points.items < 64
    → more ≡ leaf.points.items ++ p ∷ [] → n ≡ put_page mid first (page_of leaf.next more) → IsPutFirst m n first first p
put_in_page m mid n first leaf more p same ne found spells few is_more put =
    let shown = leaf_shown m first leaf found spells in
    let back : leaf ≡ leaf_on m first = sym shown.1 in
    let few_on : length (leaf_on m first).points.items < 64 = subst (λ (l : PointLeaf). length l.points.items < 64) back few in
    let items : more ≡ (leaf_on m first).points.items ++ p ∷ [] = is_more ∙ ap (λ (l : PointLeaf). l.points.items ++ p ∷ []) back in
    let there : n ≡ put_page m first (page_of (leaf_on m first).next ((leaf_on m first).points.items ++ p ∷ [])) =
    put ∙ ap (λ (f : PageMap). put_page f first (page_of leaf.next more)) same ∙ ap (λ (l : PointLeaf). put_page m first (page_of l.next more)) back
    ∙ ap (λ (ps : List Point). put_page m first (page_of (leaf_on m first).next ps)) items in
    inl (refl, ne, shown.0, few_on, there)

pub full_page : (m : PageMap) (page : ℕ) (leaf : PointLeaf) → m page ≡ Some (point_leaf_page leaf) → Spells point_pages leaf (point_leaf_page leaf)
    → length leaf.points.items ≡ 64 → length (leaf_on m page).points.items < 64 → ⊥
full_page m page leaf found spells full few =
    let shown = leaf_shown m page leaf found spells in
    let long : length (leaf_on m page).points.items ≡ 64 = ap (λ (l : PointLeaf). length l.points.items) shown.1 ∙ full in
    omega (arith, long, few)
