-- Where calls come in a tree of cuts, whatever the pages hold: which pages an addition may change, and what a call may call damaged.
--
-- An addition goes down the cuts on the way of its point. Where it goes low at a cut the border is changed first, so what is below is
-- read in the pages that the addition to the border left. In a tree that stands the border has no page of the low side, which is then
-- as it was. Where pages are shared or missing, the way may lead anywhere from there, and what is said here allows it.
use Rattle.std.specs.Prelude.{◌≡◌, ℕ, zero, suc, ◌+◌, ◌-◌, ◌^◌, ◌<◌, ◌≤◌, ◌⊎◌, true, List, [], ◌∷◌, ◌++◌, length, Option, Some, None, slice_index}
use Rattle.bw_types.specs.Empty.{empty_tree}
use Rattle.bw_types.specs.Without.{without_dimension}
use Rattle.bw_types.specs.declared.point.Point.{Point}
use Rattle.bw_types.specs.declared.tree.Tree.{Tree}
use Rattle.ports.specs.Frame.{AreInMap, Replaces, names_page}
use Rattle.ports.specs.Pages.{PageMap}
use Rattle.page_layout.specs.declared.cut_page.CutNode.{CutNode}
use Rattle.page_layout.specs.declared.cut_page.CutNode.TheVariants.{Entry, Cut}
use Rattle.cut_parts.specs.Borders.{MayBeBuilt, OthersStay}
use Rattle.cut_parts.specs.Damage.{IsSoundCut, Spot, BeforePage, BeforePart, BeforeCut, after_parts}
use Rattle.cut_parts.specs.Parts.{Part, Leaf, Split, HasShape, IsBalancedCut, points_of}
use Rattle.cut_parts.specs.Spelling.{HoldsCuts, HoldsLeaf, IsSpelled, nodes_of}
use Rattle.cut_parts.specs.Standing.{part_pages}
use Rattle.cut_parts.specs.declared.border_tree.BorderTree.{Ghosts}

-- ---- a part that is there

-- Each border is empty where its low side is a leaf, and else counts as many points as that side has.
abbrev pub BordersFit : Part → Type 0
BordersFit (Leaf page points) = Unit {0}
BordersFit (Split home dimension key low border low_side high_side) =
    (low ≤ 64 → border ≡ empty_tree) × (64 < low → border.count ≡ low) × BordersFit low_side × BordersFit high_side

-- The nodes begin with those of a part of n points, which the pages spell. It need not part its points, and its borders may be any.
pub record IsThere (pages : PageMap) (n : ℕ) (nodes : List CutNode) : Type 0 where
  pub part : Part
  pub rest : List CutNode
  pub nodes_are : nodes ≡ nodes_of part ++ rest
  pub shape : HasShape n part
  pub fit : BordersFit part
  pub spelled : IsSpelled pages part

-- Such a part, of the map as it was first, was dropped from one that had lost other pages since. All its pages were still there, and are
-- gone; nothing else changed.
pub record IsDropped {B : Type 0} (g : Ghosts B) (first old new : PageMap) (n : ℕ) (nodes : List CutNode) : Type 0 where
  pub is : IsThere first n nodes
  pub there : AreInMap old (part_pages g first is.part)
  pub change : Replaces (part_pages g first is.part) [] old new

-- ---- where a call comes that goes through a whole part

-- What a call finds there is not as the n points of the part tell: the page has no leaf of so many, or no cuts; the nodes have ended
-- before the part, or are no cut; or the cut is not sound.
abbrev pub IsNotAsTold : ℕ → ℕ → PageMap → ℕ → Spot → Type 0
IsNotAsTold dims damaged pages n (BeforePage page) =
    (damaged ≡ page) × (((n ≤ 64) × ((points : List Point) → HoldsLeaf pages page points → length points ≡ n → ⊥))
    ⊎ ((64 < n) × ((nodes : List CutNode) → HoldsCuts pages page nodes → ⊥)))
IsNotAsTold dims damaged pages n (BeforePart page []) = damaged ≡ page
IsNotAsTold dims damaged pages n (BeforePart page (node ∷ nodes)) = ⊥
IsNotAsTold dims damaged pages n (BeforeCut page []) = damaged ≡ page
IsNotAsTold dims damaged pages n (BeforeCut page (Entry child ∷ nodes)) = damaged ≡ page
IsNotAsTold dims damaged pages n (BeforeCut page (Cut dimension key low border ∷ nodes)) =
    (damaged ≡ page) × (IsSoundCut dims n dimension low border → ⊥)

-- A call that goes through a whole part comes within so many steps to a place of which this holds: through pages of cuts, and at a cut
-- that is sound to either side.
abbrev pub WalksWithin : ℕ → (ℕ → Spot → Type 0) → ℕ → PageMap → ℕ → Spot → Type 0
WalksWithin dims here zero pages n spot = ⊥
WalksWithin dims here (suc steps) pages n (BeforePage page) =
    here n (BeforePage page)
    ⊎ ((64 < n) × ((nodes : List CutNode) × HoldsCuts pages page nodes × WalksWithin dims here steps pages n (BeforeCut page nodes)))
WalksWithin dims here (suc steps) pages n (BeforePart page []) = here n (BeforePart page [])
WalksWithin dims here (suc steps) pages n (BeforePart page (Entry child ∷ nodes)) = WalksWithin dims here steps pages n (BeforePage child)
WalksWithin dims here (suc steps) pages n (BeforePart page (Cut dimension key low border ∷ nodes)) =
    WalksWithin dims here steps pages n (BeforeCut page (Cut dimension key low border ∷ nodes))
WalksWithin dims here (suc steps) pages n (BeforeCut page []) = here n (BeforeCut page [])
WalksWithin dims here (suc steps) pages n (BeforeCut page (Entry child ∷ nodes)) = here n (BeforeCut page (Entry child ∷ nodes))
WalksWithin dims here (suc steps) pages n (BeforeCut page (Cut dimension key low border ∷ nodes)) =
    here n (BeforeCut page (Cut dimension key low border ∷ nodes))
    ⊎ (IsSoundCut dims n dimension low border
    × (WalksWithin dims here steps pages low (BeforePart page nodes)
    ⊎ WalksWithin dims here steps pages (n - low) (BeforePart page (after_parts 1 nodes))))

abbrev pub WalksTo : ℕ → (ℕ → Spot → Type 0) → PageMap → ℕ → Spot → Type 0
WalksTo dims here pages n spot = (steps : ℕ) × WalksWithin dims here steps pages n spot

-- Collecting a part calls a page damaged where it finds what is not as told.
abbrev pub IsDamagedForCollect : ℕ → PageMap → ℕ → Spot → ℕ → Type 0
IsDamagedForCollect dims pages n spot damaged = WalksTo dims (IsNotAsTold dims damaged pages) pages n spot

-- Dropping a part, of a map that had lost some pages before, comes within so many steps to what it calls damaged: a page that is gone by
-- then; one that is not as told; or what dropping a border may. At a cut that is sound it drops the border, the low side and the high one.
abbrev pub DropsWithin : {B : Type 0} → Ghosts B → ℕ → PageMap → ℕ → List ℕ → ℕ → Spot → Type 0
DropsWithin g damaged first zero freed n spot = ⊥
DropsWithin g damaged first (suc steps) freed n (BeforePage page) =
    ((damaged ≡ page) × (names_page freed page ≡ true))
    ⊎ (IsNotAsTold (suc g.DIMS) damaged first n (BeforePage page)
    ⊎ ((64 < n) × ((nodes : List CutNode) × HoldsCuts first page nodes × DropsWithin g damaged first steps (freed ++ (page ∷ [])) n (BeforeCut page nodes))))
DropsWithin g damaged first (suc steps) freed n (BeforePart page []) = damaged ≡ page
DropsWithin g damaged first (suc steps) freed n (BeforePart page (Entry child ∷ nodes)) = DropsWithin g damaged first steps freed n (BeforePage child)
DropsWithin g damaged first (suc steps) freed n (BeforePart page (Cut dimension key low border ∷ nodes)) =
    DropsWithin g damaged first steps freed n (BeforeCut page (Cut dimension key low border ∷ nodes))
DropsWithin g damaged first (suc steps) freed n (BeforeCut page []) = damaged ≡ page
DropsWithin g damaged first (suc steps) freed n (BeforeCut page (Entry child ∷ nodes)) = damaged ≡ page
DropsWithin g damaged first (suc steps) freed n (BeforeCut page (Cut dimension key low border ∷ nodes)) =
    IsNotAsTold (suc g.DIMS) damaged first n (BeforeCut page (Cut dimension key low border ∷ nodes))
    ⊎ (IsSoundCut (suc g.DIMS) n dimension low border
    × (((64 < low) × g.damaged_for_drop first freed border damaged)
    ⊎ (DropsWithin g damaged first steps (freed ++ g.footprint first border) low (BeforePart page nodes)
    ⊎ ((lows : IsThere first low nodes)
    × DropsWithin g damaged first steps ((freed ++ g.footprint first border) ++ part_pages g first lows.part) (n - low) (BeforePart page (after_parts 1 nodes))))))

abbrev pub IsDamagedForDrop : {B : Type 0} → Ghosts B → PageMap → List ℕ → ℕ → Spot → ℕ → Type 0
IsDamagedForDrop g first freed n spot damaged = (steps : ℕ) × DropsWithin g damaged first steps freed n spot

-- ---- where an addition comes

-- An addition of the point to the border of a cut with so many points low may leave these pages. One that is begun takes new pages alone.
abbrev pub BorderMayLeave : {B : Type 0} → Ghosts B → Point → PageMap → ℕ → Tree → PageMap → Type 0
BorderMayLeave g point before low border after = OthersStay (λ page. (64 < low) × g.may_change before border point page) before after

-- A point goes low at a cut, or high.
abbrev pub GoesLow : Point → ℕ → ℕ → Type 0
GoesLow point dimension key = slice_index point.keys dimension < key

abbrev pub GoesHigh : Point → ℕ → ℕ → Type 0
GoesHigh point dimension key = key ≤ slice_index point.keys dimension

-- With the point a side of a cut of n points, so many of them low, has more than three fifths, and the part of the cut is made anew.
abbrev pub IsMadeAnew : Point → ℕ → ℕ → ℕ → ℕ → Type 0
IsMadeAnew point n dimension key low =
    (GoesLow point dimension key × (IsBalancedCut (n + 1) (low + 1) → ⊥)) ⊎ (GoesHigh point dimension key × (IsBalancedCut (n + 1) low → ⊥))

-- The point goes low, and the sides stay balanced, so that it is added to the border.
abbrev pub GoesToBorder : Point → ℕ → ℕ → ℕ → ℕ → Type 0
GoesToBorder point n dimension key low = GoesLow point dimension key × IsBalancedCut (n + 1) (low + 1)

-- An addition of the point comes within so many steps to a place of which this holds, in the pages of then.
abbrev pub ComesWithin : {B : Type 0} → Ghosts B → (PageMap → ℕ → Spot → Type 0) → Point → ℕ → PageMap → ℕ → Spot → Type 0
ComesWithin g here point zero pages n spot = ⊥
ComesWithin g here point (suc steps) pages n (BeforePage page) =
    here pages n (BeforePage page)
    ⊎ ((64 < n) × ((nodes : List CutNode) × HoldsCuts pages page nodes × ComesWithin g here point steps pages n (BeforeCut page nodes)))
ComesWithin g here point (suc steps) pages n (BeforePart page []) = here pages n (BeforePart page [])
ComesWithin g here point (suc steps) pages n (BeforePart page (Entry child ∷ nodes)) = ComesWithin g here point steps pages n (BeforePage child)
ComesWithin g here point (suc steps) pages n (BeforePart page (Cut dimension key low border ∷ nodes)) =
    ComesWithin g here point steps pages n (BeforeCut page (Cut dimension key low border ∷ nodes))
ComesWithin g here point (suc steps) pages n (BeforeCut page []) = here pages n (BeforeCut page [])
ComesWithin g here point (suc steps) pages n (BeforeCut page (Entry child ∷ nodes)) = here pages n (BeforeCut page (Entry child ∷ nodes))
ComesWithin g here point (suc steps) pages n (BeforeCut page (Cut dimension key low border ∷ nodes)) =
    here pages n (BeforeCut page (Cut dimension key low border ∷ nodes))
    ⊎ (IsSoundCut (suc g.DIMS) n dimension low border
    × (((GoesHigh point dimension key × IsBalancedCut (n + 1) low) × ComesWithin g here point steps pages (n - low) (BeforePart page (after_parts 1 nodes)))
    ⊎ (GoesToBorder point n dimension key low
    × ((after : PageMap) × BorderMayLeave g (without_dimension dimension point) pages low border after × ComesWithin g here point steps after low (BeforePart page nodes)))))

abbrev pub ComesTo : {B : Type 0} → Ghosts B → (PageMap → ℕ → Spot → Type 0) → Point → PageMap → ℕ → Spot → Type 0
ComesTo g here point pages n spot = (steps : ℕ) × ComesWithin g here point steps pages n spot

-- ---- what it changes

-- The page is one of a part of n points that is there, with which the nodes begin.
abbrev pub IsOfPartThere : {B : Type 0} → Ghosts B → PageMap → ℕ → List CutNode → ℕ → Type 0
IsOfPartThere g pages n nodes page = (there : IsThere pages n nodes) × (names_page (part_pages g pages there.part) page ≡ true)

-- An addition of the point that has come there may change the page: it is the page before which it stands; at a cut that is sound, a page
-- of the border where the point goes low; or a page of the part, where that is made anew.
abbrev pub ChangesAt : {B : Type 0} → Ghosts B → Point → ℕ → PageMap → ℕ → Spot → Type 0
ChangesAt g point page pages n (BeforePage first) = page ≡ first
ChangesAt g point page pages n (BeforePart first nodes) = ⊥
ChangesAt g point page pages n (BeforeCut first []) = ⊥
ChangesAt g point page pages n (BeforeCut first (Entry child ∷ nodes)) = ⊥
ChangesAt g point page pages n (BeforeCut first (Cut dimension key low border ∷ nodes)) =
    IsSoundCut (suc g.DIMS) n dimension low border
    × ((GoesToBorder point n dimension key low × ((64 < low) × g.may_change pages border (without_dimension dimension point) page))
    ⊎ (IsMadeAnew point n dimension key low × IsOfPartThere g pages n (Cut dimension key low border ∷ nodes) page))

-- The part of n points before which an addition of the point stands leads to this page.
abbrev pub LeadsFrom : {B : Type 0} → Ghosts B → Point → PageMap → ℕ → Spot → ℕ → Type 0
LeadsFrom g point pages n spot page = ComesTo g (ChangesAt g point page) point pages n spot

-- The tree leads to this page: an addition of the point may change it.
abbrev pub Leads : {B : Type 0} → Ghosts B → PageMap → Tree → Point → ℕ → Type 0
Leads g pages tree point page = (1 ≤ tree.count) × LeadsFrom g point pages tree.count (BeforePage tree.root) page

-- ---- what it calls damaged

-- No tree may be built of the points.
abbrev pub MayNotBeBuilt : ℕ → List Point → Type 0
MayNotBeBuilt dims points = MayBeBuilt dims points → ⊥

-- A leaf of 64 points, and one more, of which none may be built.
abbrev pub IsNoLeafWith : ℕ → PageMap → ℕ → Point → Type 0
IsNoLeafWith dims pages page point = (points : List Point) × HoldsLeaf pages page points × MayNotBeBuilt dims (point ∷ points)

-- the page of the first node, where that is an entry
abbrev pub first_entry : List CutNode → Option ℕ
first_entry [] = None
first_entry (Entry child ∷ nodes) = Some child
first_entry (Cut dimension key low border ∷ nodes) = None

-- What beginning a border from the leaf of the low side may call damaged: the page of the cut, where the low side is no entry, or none may be
-- built of the points; or a page that holds no leaf of 64.
abbrev pub IsDamagedBegun : ℕ → Point → ℕ → PageMap → ℕ → Option ℕ → Type 0
IsDamagedBegun dims point damaged pages page None = damaged ≡ page
IsDamagedBegun dims point damaged pages page (Some leaf) =
    IsNotAsTold dims damaged pages 64 (BeforePage leaf) ⊎ ((damaged ≡ page) × IsNoLeafWith dims pages leaf point)

-- What an addition to the border of a cut may call damaged. It begins with the 65th point.
abbrev pub IsDamagedAtBorder : {B : Type 0} → Ghosts B → Point → ℕ → PageMap → ℕ → Option ℕ → ℕ → ℕ → Tree → Type 0
IsDamagedAtBorder g point damaged pages page leaf dimension low border =
    ((low ≡ 64) × IsDamagedBegun (suc g.DIMS) point damaged pages page leaf)
    ⊎ ((64 < low) × g.damaged_for_add pages border (without_dimension dimension point) damaged)

-- What making the part anew may call damaged: what collecting it or dropping it may; or the page of the cut,
-- where no tree may be built of its points and the new one.
abbrev pub IsDamagedAnew : {B : Type 0} → Ghosts B → Point → ℕ → PageMap → ℕ → ℕ → List CutNode → Type 0
IsDamagedAnew g point damaged pages n page nodes =
    IsDamagedForCollect (suc g.DIMS) pages n (BeforePart page nodes) damaged
    ⊎ (IsDamagedForDrop g pages [] n (BeforePart page nodes) damaged
    ⊎ ((damaged ≡ page) × ((there : IsThere pages n nodes) × MayNotBeBuilt (suc g.DIMS) (points_of there.part ++ (point ∷ [])))))

-- The page was there, and is gone after what the addition did below it.
abbrev pub IsGoneAfter : {B : Type 0} → Ghosts B → Point → PageMap → ℕ → ℕ → Type 0
IsGoneAfter g point pages n page =
    (nodes : List CutNode) × HoldsCuts pages page nodes
    × ((after : PageMap) × OthersStay (LeadsFrom g point pages n (BeforeCut page nodes)) pages after × (after page ≡ None))

-- An addition that has come there may call the page damaged.
abbrev pub IsDamagedAt : {B : Type 0} → Ghosts B → Point → ℕ → PageMap → ℕ → Spot → Type 0
IsDamagedAt g point damaged pages n (BeforePage page) =
    IsNotAsTold (suc g.DIMS) damaged pages n (BeforePage page)
    ⊎ ((damaged ≡ page) × (((n ≡ 64) × IsNoLeafWith (suc g.DIMS) pages page point) ⊎ ((64 < n) × IsGoneAfter g point pages n page)))
IsDamagedAt g point damaged pages n (BeforePart page nodes) = IsNotAsTold (suc g.DIMS) damaged pages n (BeforePart page nodes)
IsDamagedAt g point damaged pages n (BeforeCut page []) = damaged ≡ page
IsDamagedAt g point damaged pages n (BeforeCut page (Entry child ∷ nodes)) = damaged ≡ page
IsDamagedAt g point damaged pages n (BeforeCut page (Cut dimension key low border ∷ nodes)) =
    IsNotAsTold (suc g.DIMS) damaged pages n (BeforeCut page (Cut dimension key low border ∷ nodes))
    ⊎ (IsSoundCut (suc g.DIMS) n dimension low border
    × ((GoesToBorder point n dimension key low × IsDamagedAtBorder g point damaged pages page (first_entry nodes) dimension low border)
    ⊎ (IsMadeAnew point n dimension key low × IsDamagedAnew g point damaged pages n page (Cut dimension key low border ∷ nodes))))

abbrev pub IsDamagedFrom : {B : Type 0} → Ghosts B → Point → PageMap → ℕ → Spot → ℕ → Type 0
IsDamagedFrom g point pages n spot damaged = ComesTo g (IsDamagedAt g point damaged) point pages n spot

-- What an addition of the point to the tree may call damaged: none in a tree without points; the root, where that is no number of a page or
-- the tree has 2^31 points; and what it comes to from the root on.
abbrev pub IsDamagedForAdd : {B : Type 0} → Ghosts B → PageMap → Tree → Point → ℕ → Type 0
IsDamagedForAdd g pages tree point damaged =
    (1 ≤ tree.count)
    × (((damaged ≡ tree.root) × ((tree.root < 3) ⊎ (2 ^ 31 ≤ tree.count)))
    ⊎ IsDamagedFrom g point pages tree.count (BeforePage tree.root) damaged)
