-- The regions of the entries of a page of cuts.
use Rattle.std.specs.Prelude.{◌≡◌, ℕ, ◌<◌, List, [], ◌∷◌, ◌++◌, length, get_or}
use Rattle.bw_types.specs.Regions.{Holds, IsInside, above_cut, below_cut}
use Rattle.bw_types.specs.declared.region.Region.{Region}
use Rattle.bw_types.specs.declared.tree.Tree.{Tree}
use Rattle.page_layout.specs.CutPage.{entry_count}
use Rattle.page_layout.specs.declared.cut_page.CutNode.{CutNode}
use Rattle.page_layout.specs.declared.cut_page.CutNode.TheVariants.{Entry, Cut}
use Rattle.cut_parts.specs.Parts.{Part}
use Rattle.cut_parts.specs.Regions.{LiesInRegions}
use Rattle.cut_parts.specs.Spelling.{nodes_of}
use Rattle.cut_parts.specs.Nodes.{AreNodes}

-- The nodes of some parts one after the other, each part with its region: the regions of their entries, in the same order. A cut
-- divides its region into those of its two sides.
abbrev pub entry_regions : List Region → List CutNode → List Region
entry_regions [] nodes = []
entry_regions (region ∷ regions) [] = []
entry_regions (region ∷ regions) (Entry child ∷ nodes) = region ∷ entry_regions regions nodes
entry_regions (region ∷ regions) (Cut dimension key low border ∷ nodes) =
    entry_regions (below_cut region dimension key ∷ above_cut region dimension key ∷ regions) nodes

-- Each cut of the parts lies strictly inside its region.
abbrev pub LieInside : List Region → List CutNode → Type 0
LieInside [] nodes = Unit {0}
LieInside (region ∷ regions) [] = Unit {0}
LieInside (region ∷ regions) (Entry child ∷ nodes) = LieInside regions nodes
LieInside (region ∷ regions) (Cut dimension key low border ∷ nodes) =
    IsInside region dimension key × LieInside (below_cut region dimension key ∷ above_cut region dimension key ∷ regions) nodes

-- The entry at this place has this region.
pub record HasRegion (regions : List Region) (place : ℕ) (region : Region) : Type 0 where
  pub within : place < length regions
  pub is : (d : Region) → get_or regions place d ≡ region

-- No entry but the one at this place has a region that holds the keys.
abbrev pub IsOnlyFor : List ℕ → List Region → ℕ → Type 0
IsOnlyFor keys regions place = (other : ℕ) (region : Region) → HasRegion regions other region → Holds 3 region keys → other ≡ place

-- Some regions became others: the one at this place was cut in two at the key, and the others are as they were.
pub record IsCutInTwo (old new : List Region) (place dimension key : ℕ) : Type 0 where
  pub before : List Region
  pub held : Region
  pub after : List Region
  pub place_is : length before ≡ place
  pub old_is : old ≡ before ++ (held ∷ after)
  pub new_is : new ≡ before ++ (below_cut held dimension key ∷ above_cut held dimension key ∷ after)

-- Where a cut and the entries of its sides take the place of an entry among the nodes of a page, the region of that entry is cut in two;
-- and where the cut lies inside that region, the cuts of the page lie inside theirs as before.
abbrev pub EntriesAreCutInTwo : Type 0
EntriesAreCutInTwo = (region : Region) (front rest : List CutNode) (child dimension key count : ℕ) (border : Tree) (low high : ℕ) → AreNodes (front ++ (Entry child ∷ rest))
    → (two : IsCutInTwo (entry_regions (region ∷ []) (front ++ (Entry child ∷ rest)))
    (entry_regions (region ∷ []) (front ++ (Cut dimension key count border ∷ Entry low ∷ Entry high ∷ rest))) (entry_count front) dimension key)
    × (IsInside two.held dimension key → LieInside (region ∷ []) (front ++ (Entry child ∷ rest))
    → LieInside (region ∷ []) (front ++ (Cut dimension key count border ∷ Entry low ∷ Entry high ∷ rest)))

-- The regions of a page that begins with a cut are those of its low side, which begins with the region below the cut, and then those of
-- its high side, which begins with the one from the cut on; and the cuts of both lie inside these where the page's did.
abbrev pub SidesDivideRegions : Type 0
SidesDivideRegions = (region : Region) (dimension key count : ℕ) (border : Tree) (lows highs : List CutNode) → AreNodes lows
    → (entry_regions (region ∷ []) (Cut dimension key count border ∷ (lows ++ highs))
    ≡ entry_regions (below_cut region dimension key ∷ []) lows ++ entry_regions (above_cut region dimension key ∷ []) highs)
    × (LieInside (region ∷ []) (Cut dimension key count border ∷ (lows ++ highs))
    → LieInside (below_cut region dimension key ∷ []) lows × LieInside (above_cut region dimension key ∷ []) highs)

-- Where the cuts of a part lie inside their regions, so do those among its nodes.
abbrev pub PartsLieInside : Type 0
PartsLieInside = (dims : ℕ) (part : Part) (region : Region) → LiesInRegions dims part region → LieInside (region ∷ []) (nodes_of part)

-- Where the cuts of a page lie inside their regions, the regions of its entries hold only keys that the region of the page holds.
abbrev pub RegionsLieWithin : Type 0
RegionsLieWithin = (region held : Region) (nodes : List CutNode) (place : ℕ) (keys : List ℕ) → LieInside (region ∷ []) nodes
    → HasRegion (entry_regions (region ∷ []) nodes) place held → Holds 3 held keys → Holds 3 region keys
