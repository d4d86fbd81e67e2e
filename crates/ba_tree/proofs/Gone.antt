-- Parts that are dropped, whether they stand or not.
use Rattle.std.proofs.Common.{◌≡◌, ℕ, suc, ◌*◌, ◌==◌, ◌-◌, ◌≤◌, false, inl, inr, Option, Some, None, IsSome, List, [], ◌∷◌, ◌++◌, length, refl, sym, ap, ◌∙◌, subst, arith}
use Rattle.std.proofs.lemmas.Bool.{cases_Bool, eqb-true, ne_eqb, or_cases}
use Rattle.bw_types.specs.Empty.{empty_tree}
use Rattle.bw_types.specs.declared.point.Point.{Point}
use Rattle.bw_types.specs.declared.tree.Tree.{Tree}
use Rattle.ports.specs.Frame.{AreInMap, Replaces, names_page}
use Rattle.ports.specs.FrameLaws.{Replaces-beside, Replaces-free, Replaces-same, names_page-append}
use Rattle.ports.specs.Pages.{PageMap, remove_page}
use Rattle.page_layout.specs.declared.cut_page.CutNode.{CutNode}
use Rattle.page_layout.specs.declared.cut_page.CutNode.TheVariants.{Cut, Entry}
use Rattle.cut_parts.specs.Damage.{IsSoundCut, after_parts}
use Rattle.cut_parts.specs.Parts.{Part}
use Rattle.cut_parts.specs.Reach.{IsDropped, IsThere}
use Rattle.cut_parts.specs.Spelling.{Holds, HoldsCuts, HoldsLeaf, nodes_of, part_in}
use Rattle.cut_parts.specs.Standing.{HaveLaws, part_pages, tree_pages, tree_part}
use Rattle.cut_parts.specs.declared.border_tree.BorderTree.{Ghosts}
use Rattle.cut_parts.proofs.Homes.{more_pages}
use Rattle.cut_parts.proofs.Telling.{told_part}
use Rattle.cut_parts.specs.Nodes.{AreNodes}
use Rattle.ba_tree.proofs.There.{cut_there, entry_there, leaf_there, page_there, whole_page}

missing : (o : Option (List ℕ)) (bytes : List ℕ) → o ≡ None → o ≡ Some bytes → ⊥
missing None bytes none some = cc
missing (Some other) bytes none some = cc

is_some : (o : Option (List ℕ)) (bytes : List ℕ) → o ≡ Some bytes → IsSome o
is_some None bytes there = cc
is_some (Some other) bytes there = refl

not_there : (o : Option (List ℕ)) → o ≡ None → IsSome o → ⊥
not_there None none some = cc
not_there (Some bytes) none some = cc

-- what is still there was there before other pages were freed
pub there_first : (freed : List ℕ) (first old : PageMap) (page : ℕ) (bytes : List ℕ) → Replaces freed [] first old → old page ≡ Some bytes → first page ≡ Some bytes
there_first freed first old page bytes lost there = elim (cases_Bool (names_page freed page)) [
  | inl gone ↦ absurd (missing (old page) bytes (lost.gone page gone refl) there)
  | inr kept ↦ sym (lost.others page kept refl) ∙ there
]

pub holds_first : {V : Type 0} (spells : List ℕ → Type 0) (value_in : List ℕ → V) (freed : List ℕ) (first old : PageMap) (page : ℕ) (value : V) → Replaces freed [] first old
    → Holds spells value_in old page value → Holds spells value_in first page value
holds_first spells value_in freed first old page value lost held =
    record { bytes = held.bytes; there = there_first freed first old page held.bytes lost held.there; spelled = held.spelled; is = held.is }

-- one more loss
pub lost_more : (freed more : List ℕ) (first old new : PageMap) → Replaces freed [] first old → Replaces more [] old new → Replaces (freed ++ more) [] first new
lost_more freed more first old new lost change = Replaces-beside freed [] more [] first old new lost change

pub one_freed : (old new : PageMap) (page : ℕ) → new ≡ remove_page old page → Replaces (page ∷ []) [] old new
one_freed old new page change = subst (λ (m : PageMap). Replaces (page ∷ []) [] old m) (sym change) (Replaces-free old page)

still : (more : List ℕ) (old new : PageMap) (page : ℕ) → Replaces more [] old new → IsSome (new page) → IsSome (old page)
still more old new page change some = elim (cases_Bool (names_page more page)) [
  | inl gone ↦ absurd (not_there (new page) (change.gone page gone refl) some)
  | inr kept ↦ subst (λ (o : Option (List ℕ)). IsSome o) (change.others page kept refl) some
]

in_both : (xs ys : List ℕ) (old new : PageMap) → Replaces xs [] old new → AreInMap old xs → AreInMap new ys → AreInMap old (xs ++ ys)
in_both xs ys old new change left right = λ page named. elim (or_cases (names_page xs page) (names_page ys page) (sym (names_page-append xs ys page) ∙ named)) [
  | inl in_left ↦ left page in_left
  | inr in_right ↦ still xs old new page change (right page in_right)
]

one_there : (page : ℕ) (bytes : List ℕ) (m : PageMap) → m page ≡ Some bytes → AreInMap m (page ∷ [])
one_there page bytes m there = λ other named.
    let same : page ≡ other = eqb-true page other (elim (or_cases (page == other) false named) [ inl is ↦ is | inr none ↦ cc ]) in
    subst (λ (p : ℕ). IsSome (m p)) same (is_some (m page) bytes there)

module _ {B : Type 0} (g : Ghosts B) (first : PageMap) where
  pub leaf_dropped : (freed : List ℕ) (old new : PageMap) (page n : ℕ) (points : List Point) → Replaces freed [] first old → HoldsLeaf old page points → length points ≡ n → 1 ≤ n → n ≤ 64
      → new ≡ remove_page old page → IsDropped g first old new n (Entry page ∷ [])
  leaf_dropped freed old new page n points lost held counted some few change = record {
    is = leaf_there first page n points [] (holds_first _ _ freed first old page points lost held) counted some few;
    there = one_there page held.bytes old held.there;
    change = subst (λ (m : PageMap). Replaces (page ∷ []) [] old m) (sym change) (Replaces-free old page);
  }

  pub entry_dropped : (old new : PageMap) (child n : ℕ) (nodes others : List CutNode) → nodes ≡ Entry child ∷ others → IsDropped g first old new n (Entry child ∷ [])
      → IsDropped g first old new n nodes
  entry_dropped old new child n nodes others is dropped =
      record { is = entry_there first child n nodes others is dropped.is; there = dropped.there; change = dropped.change }

  pub page_dropped : (freed : List ℕ) (old mid new : PageMap) (page n : ℕ) (nodes : List CutNode) → Replaces freed [] first old → HoldsCuts old page nodes → AreNodes nodes
      → 3 ≤ length nodes → mid ≡ remove_page old page → IsDropped g first mid new n nodes → IsDropped g first old new n (Entry page ∷ [])
  page_dropped freed old mid new page n nodes lost held are many change dropped =
      let part : Part = dropped.is.part in
      let own : List ℕ = part_pages g first part in
      let inside = (whole_page nodes dropped.is.rest part are many dropped.is.nodes_are).1 in
      let at = page_there first page n nodes (holds_first _ _ freed first old page nodes lost held) are many dropped.is in
      let pages : part_pages g first at.part ≡ page ∷ own = more_pages page (g.footprint first) part inside in
      let one : Replaces (page ∷ []) [] old mid = subst (λ (m : PageMap). Replaces (page ∷ []) [] old m) (sym change) (Replaces-free old page) in
      record {
        is = at;
        there = subst (λ (ps : List ℕ). AreInMap old ps) (sym pages) (in_both (page ∷ []) own old mid one (one_there page held.bytes old held.there) dropped.there);
        change = subst (λ (ps : List ℕ). Replaces ps [] old new) (sym pages) (Replaces-beside (page ∷ []) [] own [] old mid new one dropped.change);
      }

  pub cut_dropped : (m0 m1 m2 m3 : PageMap) (n dimension key low : ℕ) (border : Tree) (nodes rest others : List CutNode) → nodes ≡ Cut dimension key low border ∷ rest
      → IsSoundCut (suc g.DIMS) n dimension low border → AreInMap m0 (g.footprint first border) → Replaces (g.footprint first border) [] m0 m1
      → IsDropped g first m1 m2 low rest → others ≡ after_parts 1 rest → IsDropped g first m2 m3 (n - low) others → IsDropped g first m0 m3 n nodes
  cut_dropped m0 m1 m2 m3 n dimension key low border nodes rest others is sound there change lows after highs =
      let own : List ℕ = g.footprint first border in
      let left : List ℕ = part_pages g first lows.is.part in
      let right : List ℕ = part_pages g first highs.is.part in
      record {
        is = cut_there first (suc g.DIMS) n dimension key low border nodes rest others is sound lows.is after highs.is;
        there = in_both own (left ++ right) m0 m1 change there (in_both left right m1 m2 lows.change lows.there highs.there);
        change = Replaces-beside own [] (left ++ right) [] m0 m1 m3 change (Replaces-beside left [] right [] m1 m2 m3 lows.change highs.change);
      }

-- the empty border has no pages
pub none_dropped : {B : Type 0} (g : Ghosts B) → HaveLaws g → (first old : PageMap) (border : Tree) → border ≡ empty_tree
    → AreInMap old (g.footprint first border) × Replaces (g.footprint first border) [] old old
none_dropped g laws first old border none =
    let pages : g.footprint first border ≡ [] = ap (g.footprint first) none ∙ (laws.empty first).1 in (
      subst (λ (ps : List ℕ). AreInMap old ps) (sym pages) (λ page named. cc),
      subst (λ (ps : List ℕ). Replaces ps [] old old) (sym pages) (Replaces-same [] old),
    )

-- the pages of a tree are those of the part from its root on
pub there_pages : {B : Type 0} (g : Ghosts B) (m : PageMap) (tree : Tree) → 1 ≤ tree.count → (there : IsThere m tree.count (Entry tree.root ∷ []))
    → tree_pages g m tree ≡ part_pages g m there.part
there_pages g m tree some there =
    let told : part_in m (2 * tree.count) tree.count (nodes_of there.part ++ there.rest) ≡ (there.part, there.rest) =
    told_part m (2 * tree.count) tree.count there.part there.rest (omega arith) there.shape there.spelled in
    let is : tree_part m tree ≡ there.part =
    ap (λ (ns : List CutNode). (part_in m (2 * tree.count) tree.count ns).0) there.nodes_are ∙ ap (λ (k : Part × List CutNode). k.0) told in
    let some_points : (tree.count == 0) ≡ false = ne_eqb tree.count 0 (λ e. omega (arith, e, some)) in
    rw some_points (ap (λ (p : Part). part_pages g m p) is)
