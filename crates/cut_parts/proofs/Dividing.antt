-- Nodes behind other nodes: what the regions of the entries become where an entry is cut, and where a page is split at its first cut.
use Rattle.std.proofs.Common.{◌≡◌, ◌⊎◌, ◌<◌, inl, inr, ℕ, zero, suc, set, get_or, slice_index, List, [], ◌∷◌, ◌++◌, length, refl, sym, ap, ◌∙◌, subst, IsTrue, None, Some, append_assoc, append-nil, arith}
use Rattle.std.proofs.lemmas.Bool.{cases_eq, cases_lt}
use Rattle.std.proofs.lemmas.List.{get_or-set_other, get_or-set_same, set_past}
use Rattle.bw_types.specs.Regions.{Holds, IsInside, above_cut, below_cut}
use Rattle.bw_types.specs.declared.region.Region.{Region}
use Rattle.bw_types.specs.declared.tree.Tree.{Tree}
use Rattle.page_layout.specs.CutPage.{entry_count, open_places}
use Rattle.page_layout.specs.declared.cut_page.CutNode.{CutNode}
use Rattle.page_layout.specs.declared.cut_page.CutNode.TheVariants.{Entry, Cut}
use Rattle.cut_parts.specs.Parts.{Part, Leaf, Split}
use Rattle.cut_parts.specs.Regions.{LiesInRegions}
use Rattle.cut_parts.specs.Spelling.{nodes_of}
use Rattle.cut_parts.specs.Nodes.{AreNodes}
use Rattle.cut_parts.specs.PageRegions.{HasRegion, IsCutInTwo, LieInside, entry_regions}

-- the regions that are left for what follows these nodes
left_after : List Region → List CutNode → List Region
left_after regions [] = regions
left_after [] (node ∷ nodes) = []
left_after (region ∷ regions) (Entry child ∷ nodes) = left_after regions nodes
left_after (region ∷ regions) (Cut dimension key low border ∷ nodes) = left_after (below_cut region dimension key ∷ above_cut region dimension key ∷ regions) nodes

no_nodes : (regions : List Region) → entry_regions regions [] ≡ []
no_nodes [] = refl
no_nodes (region ∷ regions) = refl

-- The entries of some nodes come first, and then those of what follows.
regions_follow : (regions : List Region) (front tail : List CutNode)
    → entry_regions regions (front ++ tail) ≡ entry_regions regions front ++ entry_regions (left_after regions front) tail
unfolding left_after
regions_follow [] [] tail = refl
regions_follow [] (node ∷ front) tail = refl
regions_follow (region ∷ regions) [] tail = refl
regions_follow (region ∷ regions) (Entry child ∷ front) tail = ap (λ (rs : List Region). region ∷ rs) (regions_follow regions front tail)
regions_follow (region ∷ regions) (Cut dimension key low border ∷ front) tail =
    regions_follow (below_cut region dimension key ∷ above_cut region dimension key ∷ regions) front tail

-- There is a region left where nodes follow that fill what is open.
still_open : (regions : List Region) (front tail : List CutNode) → IsTrue (open_places (length regions) (front ++ tail))
    → IsTrue (open_places (length (left_after regions front)) tail)
unfolding left_after
still_open [] [] tail h = h
still_open [] (node ∷ front) tail h = absurd cc
still_open (region ∷ regions) [] tail h = h
still_open (region ∷ regions) (Entry child ∷ front) tail h = still_open regions front tail h
still_open (region ∷ regions) (Cut dimension key low border ∷ front) tail h =
    still_open (below_cut region dimension key ∷ above_cut region dimension key ∷ regions) front tail h

-- Each entry has a region, where what is open is filled.
each_has_one : (regions : List Region) (front tail : List CutNode) → IsTrue (open_places (length regions) (front ++ tail))
    → length (entry_regions regions front) ≡ entry_count front
each_has_one [] [] tail h = refl
each_has_one [] (node ∷ front) tail h = absurd cc
each_has_one (region ∷ regions) [] tail h = refl
each_has_one (region ∷ regions) (Entry child ∷ front) tail h = omega (arith, each_has_one regions front tail h)
each_has_one (region ∷ regions) (Cut dimension key low border ∷ front) tail h =
    omega (arith, each_has_one (below_cut region dimension key ∷ above_cut region dimension key ∷ regions) front tail h)

-- Cuts lie inside their regions where those of the nodes in front do, and those of what follows in the regions that are left.
inside_then : (regions : List Region) (front tail : List CutNode) → LieInside regions (front ++ tail) → LieInside regions front × LieInside (left_after regions front) tail
unfolding left_after
inside_then [] [] tail h = (tt, h)
inside_then [] (node ∷ front) tail h = (tt, tt)
inside_then (region ∷ regions) [] tail h = (tt, h)
inside_then (region ∷ regions) (Entry child ∷ front) tail h = inside_then regions front tail h
inside_then (region ∷ regions) (Cut dimension key low border ∷ front) tail h =
    let both = inside_then (below_cut region dimension key ∷ above_cut region dimension key ∷ regions) front tail h.1 in
    ((h.0, both.0), both.1)

inside_joined : (regions : List Region) (front tail : List CutNode) → LieInside regions front → LieInside (left_after regions front) tail → LieInside regions (front ++ tail)
unfolding left_after
inside_joined [] [] tail first then = then
inside_joined [] (node ∷ front) tail first then = tt
inside_joined (region ∷ regions) [] tail first then = then
inside_joined (region ∷ regions) (Entry child ∷ front) tail first then = inside_joined regions front tail first then
inside_joined (region ∷ regions) (Cut dimension key low border ∷ front) tail first then =
    (first.0, inside_joined (below_cut region dimension key ∷ above_cut region dimension key ∷ regions) front tail first.1 then)

-- What becomes of the regions, and of cuts that lie inside them.
abbrev BecomesTwo : Region → List Region → List Region → List CutNode → List CutNode → ℕ → ℕ → ℕ → Type 0
BecomesTwo region old new old_nodes new_nodes place dimension key =
    (two : IsCutInTwo old new place dimension key) × (IsInside two.held dimension key → LieInside (region ∷ []) old_nodes → LieInside (region ∷ []) new_nodes)

-- Where an entry follows, the first region that is left is its own.
cut_here : (region : Region) (left : List Region) (before : List Region) (old new : List Region) (old_nodes new_nodes rest : List CutNode) (child dimension key count : ℕ) (border : Tree)
    (low high place : ℕ) → IsTrue (open_places (length left) (Entry child ∷ rest)) → length before ≡ place
    → old ≡ before ++ entry_regions left (Entry child ∷ rest)
    → new ≡ before ++ entry_regions left (Cut dimension key count border ∷ Entry low ∷ Entry high ∷ rest)
    → (LieInside (region ∷ []) old_nodes → (LieInside left (Entry child ∷ rest))
    × (LieInside left (Cut dimension key count border ∷ Entry low ∷ Entry high ∷ rest) → LieInside (region ∷ []) new_nodes))
    → BecomesTwo region old new old_nodes new_nodes place dimension key
cut_here region [] before old new old_nodes new_nodes rest child dimension key count border low high place some long is becomes lies = absurd cc
cut_here region (held ∷ left) before old new old_nodes new_nodes rest child dimension key count border low high place some long is becomes lies = (
  record { before = before; held = held; after = entry_regions left rest; place_is = long; old_is = is; new_is = becomes },
  λ inside whole. (lies whole).1 (inside, (lies whole).0),
)

pub one_is_cut : (region : Region) (front rest : List CutNode) (child dimension key count : ℕ) (border : Tree) (low high : ℕ) → AreNodes (front ++ (Entry child ∷ rest))
    → BecomesTwo region (entry_regions (region ∷ []) (front ++ (Entry child ∷ rest)))
    (entry_regions (region ∷ []) (front ++ (Cut dimension key count border ∷ Entry low ∷ Entry high ∷ rest)))
    (front ++ (Entry child ∷ rest)) (front ++ (Cut dimension key count border ∷ Entry low ∷ Entry high ∷ rest)) (entry_count front) dimension key
one_is_cut region front rest child dimension key count border low high are =
    let all : List Region = region ∷ [] in
    let old : List CutNode = Entry child ∷ rest in
    let new : List CutNode = Cut dimension key count border ∷ Entry low ∷ Entry high ∷ rest in
    cut_here region (left_after all front) (entry_regions all front) _ _ (front ++ old) (front ++ new) rest child dimension key count border low high (entry_count front)
    (still_open all front old are.filled) (each_has_one all front old are.filled) (regions_follow all front old) (regions_follow all front new)
    (λ whole.
    let both = inside_then all front old whole in
    (both.1, λ then. inside_joined all front new both.0 then))

-- Nodes that fill as many places as there are regions use these, and leave what is behind.
behind : (regions more : List Region) (nodes : List CutNode) → IsTrue (open_places (length regions) nodes)
    → (left_after (regions ++ more) nodes ≡ more) × (entry_regions (regions ++ more) nodes ≡ entry_regions regions nodes)
unfolding left_after
behind [] more [] h = (refl, no_nodes more)
behind [] more (node ∷ nodes) h = absurd cc
behind (region ∷ regions) more [] h = absurd cc
behind (region ∷ regions) more (Entry child ∷ nodes) h =
    let rest = behind regions more nodes h in
    (rest.0, ap (λ (rs : List Region). region ∷ rs) rest.1)
behind (region ∷ regions) more (Cut dimension key low border ∷ nodes) h =
    behind (below_cut region dimension key ∷ above_cut region dimension key ∷ regions) more nodes h

inside_alone : (regions more : List Region) (nodes : List CutNode) → IsTrue (open_places (length regions) nodes) → LieInside (regions ++ more) nodes → LieInside regions nodes
inside_alone [] more nodes h inside = tt
inside_alone (region ∷ regions) more [] h inside = tt
inside_alone (region ∷ regions) more (Entry child ∷ nodes) h inside = inside_alone regions more nodes h inside
inside_alone (region ∷ regions) more (Cut dimension key low border ∷ nodes) h inside =
    (inside.0, inside_alone (below_cut region dimension key ∷ above_cut region dimension key ∷ regions) more nodes h inside.1)

pub sides_have_regions : (region : Region) (dimension key : ℕ) (lows highs : List CutNode) → AreNodes lows
    → entry_regions (below_cut region dimension key ∷ above_cut region dimension key ∷ []) (lows ++ highs)
    ≡ entry_regions (below_cut region dimension key ∷ []) lows ++ entry_regions (above_cut region dimension key ∷ []) highs
sides_have_regions region dimension key lows highs are =
    let low : List Region = below_cut region dimension key ∷ [] in
    let high : List Region = above_cut region dimension key ∷ [] in
    let passed = behind low high lows are.filled in
    regions_follow (low ++ high) lows highs
    ∙ ap (λ (rs : List Region). rs ++ entry_regions (left_after (low ++ high) lows) highs) passed.1
    ∙ ap (λ (rs : List Region). entry_regions low lows ++ entry_regions rs highs) passed.0

pub sides_lie_inside : (region : Region) (dimension key : ℕ) (lows highs : List CutNode) → AreNodes lows
    → LieInside (below_cut region dimension key ∷ above_cut region dimension key ∷ []) (lows ++ highs)
    → LieInside (below_cut region dimension key ∷ []) lows × LieInside (above_cut region dimension key ∷ []) highs
sides_lie_inside region dimension key lows highs are inside =
    let low : List Region = below_cut region dimension key ∷ [] in
    let high : List Region = above_cut region dimension key ∷ [] in
    let both = inside_then (low ++ high) lows highs inside in
    let passed = behind low high lows are.filled in (
      inside_alone low high lows are.filled both.0,
      subst (λ (rs : List Region). LieInside rs highs) passed.0 both.1,
    )

-- The cuts of a part lie inside their regions, and so do those of its nodes.
nodes_lie_inside : (dims : ℕ) (part : Part) (region : Region) (regions : List Region) (rest : List CutNode) → LiesInRegions dims part region → LieInside regions rest
    → LieInside (region ∷ regions) (nodes_of part ++ rest)
nodes_lie_inside dims (Leaf page points) region regions rest lies after = after
nodes_lie_inside dims (Split (Some page) dimension key low border low_side high_side) region regions rest lies after = after
nodes_lie_inside dims (Split None dimension key low border low_side high_side) region regions rest lies after =
    let lows : Region = below_cut region dimension key in
    let highs : Region = above_cut region dimension key in
    let second : LieInside (highs ∷ regions) (nodes_of high_side ++ rest) = nodes_lie_inside dims high_side highs regions rest lies.2 after in
    let first : LieInside (lows ∷ highs ∷ regions) (nodes_of low_side ++ (nodes_of high_side ++ rest)) =
    nodes_lie_inside dims low_side lows (highs ∷ regions) (nodes_of high_side ++ rest) lies.1 second in
    (lies.0, subst (λ (ns : List CutNode). LieInside (lows ∷ highs ∷ regions) ns) (sym (append_assoc (nodes_of low_side) (nodes_of high_side) rest)) first)

pub part_lies_inside : (dims : ℕ) (part : Part) (region : Region) → LiesInRegions dims part region → LieInside (region ∷ []) (nodes_of part)
part_lies_inside dims part region lies =
    subst (λ (ns : List CutNode). LieInside (region ∷ []) ns) (append-nil (nodes_of part)) (nodes_lie_inside dims part region [] [] lies tt)

-- A part of a region on either side of a cut inside it holds only keys that the region holds.
below_within : (region : Region) (dimension key : ℕ) (keys : List ℕ) → IsInside region dimension key → Holds 3 (below_cut region dimension key) keys → Holds 3 region keys
below_within region dimension key keys inside h = record {
  from_low = h.from_low;
  before_high = λ i less.
      let before = h.before_high i less in
      elim (cases_eq i dimension) [
        | inl same ↦ elim (cases_lt dimension (length region.high)) [
          | inl lt ↦
              let here : slice_index (set region.high dimension key) i ≡ key = ap (λ (k : ℕ). slice_index (set region.high dimension key) k) same ∙ get_or-set_same region.high dimension key 0 lt in
              let there : slice_index region.high i ≡ slice_index region.high dimension = ap (λ (k : ℕ). slice_index region.high k) same in
              let high = inside.before_high in
              omega (arith, before, here, there, high)
          | inr past ↦
              let as_before : slice_index (set region.high dimension key) i ≡ slice_index region.high i = ap (λ (ks : List ℕ). slice_index ks i) (set_past region.high dimension key past) in
              omega (arith, before, as_before)
        ]
        | inr other ↦
            let as_before : slice_index (set region.high dimension key) i ≡ slice_index region.high i = get_or-set_other region.high dimension i key 0 other in
            omega (arith, before, as_before)
      ];
}

above_within : (region : Region) (dimension key : ℕ) (keys : List ℕ) → IsInside region dimension key → Holds 3 (above_cut region dimension key) keys → Holds 3 region keys
above_within region dimension key keys inside h = record {
  from_low = λ i less.
      let from = h.from_low i less in
      elim (cases_eq i dimension) [
        | inl same ↦ elim (cases_lt dimension (length region.low)) [
          | inl lt ↦
              let here : slice_index (set region.low dimension key) i ≡ key = ap (λ (k : ℕ). slice_index (set region.low dimension key) k) same ∙ get_or-set_same region.low dimension key 0 lt in
              let there : slice_index region.low i ≡ slice_index region.low dimension = ap (λ (k : ℕ). slice_index region.low k) same in
              let low = inside.after_low in
              omega (arith, from, here, there, low)
          | inr past ↦
              let as_before : slice_index (set region.low dimension key) i ≡ slice_index region.low i = ap (λ (ks : List ℕ). slice_index ks i) (set_past region.low dimension key past) in
              omega (arith, from, as_before)
        ]
        | inr other ↦
            let as_before : slice_index (set region.low dimension key) i ≡ slice_index region.low i = get_or-set_other region.low dimension i key 0 other in
            omega (arith, from, as_before)
      ];
  before_high = h.before_high;
}

-- Some region of these holds the keys.
SomeHolds : List ℕ → List Region → Type 0
SomeHolds keys [] = ⊥
SomeHolds keys (region ∷ regions) = Holds 3 region keys ⊎ SomeHolds keys regions

one_holds : (keys : List ℕ) (regions : List Region) (place : ℕ) (held : Region) → place < length regions → ((d : Region) → get_or regions place d ≡ held) → Holds 3 held keys
    → SomeHolds keys regions
unfolding SomeHolds
one_holds keys [] place held within is holds = absurd (omega (arith, within))
one_holds keys (region ∷ regions) zero held within is holds = inl (subst (λ (r : Region). Holds 3 r keys) (sym (is region)) holds)
one_holds keys (region ∷ regions) (suc place) held within is holds = inr (one_holds keys regions place held (omega (arith, within)) is holds)

entries_within : (keys : List ℕ) (regions : List Region) (nodes : List CutNode) → LieInside regions nodes → SomeHolds keys (entry_regions regions nodes) → SomeHolds keys regions
unfolding SomeHolds
entries_within keys [] nodes inside some = absurd some
entries_within keys (region ∷ regions) [] inside some = absurd some
entries_within keys (region ∷ regions) (Entry child ∷ nodes) inside some = elim some [
  | inl here ↦ inl here
  | inr later ↦ inr (entries_within keys regions nodes inside later)
]
entries_within keys (region ∷ regions) (Cut dimension key low border ∷ nodes) inside some =
    elim (entries_within keys (below_cut region dimension key ∷ above_cut region dimension key ∷ regions) nodes inside.1 some) [
      | inl below ↦ inl (below_within region dimension key keys inside.0 below)
      | inr (inl above) ↦ inl (above_within region dimension key keys inside.0 above)
      | inr (inr later) ↦ inr later
    ]

pub regions_lie_within : (region held : Region) (nodes : List CutNode) (place : ℕ) (keys : List ℕ) → LieInside (region ∷ []) nodes
    → HasRegion (entry_regions (region ∷ []) nodes) place held → Holds 3 held keys → Holds 3 region keys
unfolding SomeHolds
regions_lie_within region held nodes place keys inside has holds =
    elim (entries_within keys (region ∷ []) nodes inside (one_holds keys (entry_regions (region ∷ []) nodes) place held has.within has.is holds)) [
      | inl here ↦ here
      | inr none ↦ absurd none
    ]
