-- The regions of the entries of a page, and the entry whose region holds some keys.
use Rattle.std.proofs.Common.{◌≡◌, ℕ, zero, suc, ◌+◌, ◌-◌, ◌*◌, ◌/◌, ◌<◌, ◌≤◌, List, [], ◌∷◌, ◌++◌, length, get_or, set, slice_index, ◌⊎◌, nat_le, ◌&&◌, inl, inr, refl, sym, ap, ◌∙◌, subst, arith, IsTrue, All, length-append}
use Rattle.std.proofs.lemmas.Bool.{and_parts, cases_eq, cases_lt, leb-true}
use Rattle.std.proofs.lemmas.List.{get_or-append_right, get_or-set_other, get_or-set_same, get_or_append_left, get_or_past, length-set}
use Rattle.std.proofs.lemmas.List.Elements.{All-cons, All-head, All-tail}
use Rattle.bw_types.specs.Regions.{Holds, IsInside, above_cut, below_cut}
use Rattle.bw_types.specs.declared.region.Region.{Region}
use Rattle.bw_types.specs.declared.tree.Tree.{Tree}
use Rattle.page_layout.specs.CutPage.{entry_count, node_fits, open_places}
use Rattle.page_layout.specs.TreeValue.{tree_fits}
use Rattle.page_layout.specs.declared.cut_page.CutNode.{CutNode}
use Rattle.page_layout.specs.declared.cut_page.CutNode.TheVariants.{Entry, Cut}
use Rattle.cut_parts.proofs.Regions.{above_holds, below_holds}
use Rattle.cut_parts.specs.Damage.{after_parts}
use Rattle.cut_parts.specs.PageRegions.{HasRegion, IsOnlyFor, LieInside, entry_regions}
use Rattle.cut_parts.proofs.Places.{after_all, after_fills}

-- No region where no node is left.
none_left : (regions : List Region) → entry_regions regions [] ≡ []
none_left [] = refl
none_left (region ∷ regions) = refl

inside_none : (regions : List Region) → LieInside regions []
inside_none [] = tt
inside_none (region ∷ regions) = tt

-- The regions of some parts are those of the first of them, and then those of the others.
pub split_regions : (firsts others : List Region) (nodes : List CutNode)
    → entry_regions (firsts ++ others) nodes ≡ entry_regions firsts nodes ++ entry_regions others (after_parts (length firsts) nodes)
split_regions [] others nodes = refl
split_regions (region ∷ firsts) others [] = sym (none_left others)
split_regions (region ∷ firsts) others (Entry child ∷ nodes) = ap (λ (rs : List Region). region ∷ rs) (split_regions firsts others nodes)
split_regions (region ∷ firsts) others (Cut dimension key low border ∷ nodes) =
    split_regions (below_cut region dimension key ∷ above_cut region dimension key ∷ firsts) others nodes

split_inside : (firsts others : List Region) (nodes : List CutNode) → LieInside (firsts ++ others) nodes
    → LieInside firsts nodes × LieInside others (after_parts (length firsts) nodes)
split_inside [] others nodes h = (tt, h)
split_inside (region ∷ firsts) others [] h = (tt, inside_none others)
split_inside (region ∷ firsts) others (Entry child ∷ nodes) h = split_inside firsts others nodes h
split_inside (region ∷ firsts) others (Cut dimension key low border ∷ nodes) h =
    let sides = split_inside (below_cut region dimension key ∷ above_cut region dimension key ∷ firsts) others nodes h.1 in
    ((h.0, sides.0), sides.1)

-- How many entries some parts have, from the number of their nodes.
counted : (places total : ℕ) (regions : List Region) (nodes : List CutNode) → total ≡ places + length regions → IsTrue (open_places total nodes)
    → 2 * length (entry_regions regions nodes) + length (after_parts (length regions) nodes) ≡ length nodes + length regions
counted places total [] nodes e h = omega arith
counted places zero (region ∷ regions) nodes e h = absurd (omega arith)
counted places (suc total) (region ∷ regions) [] e h = absurd cc
counted places (suc total) (region ∷ regions) (Entry child ∷ nodes) e h = omega (arith, counted places total regions nodes (omega arith) h)
counted places (suc total) (region ∷ regions) (Cut dimension key low border ∷ nodes) e h =
    omega (arith, counted places (suc (suc total)) (below_cut region dimension key ∷ above_cut region dimension key ∷ regions) nodes (omega arith) h)

pub all_counted : (regions : List Region) (nodes : List CutNode) → IsTrue (open_places (length regions) nodes)
    → length (entry_regions regions nodes) ≡ entry_count nodes
all_counted [] [] h = refl
all_counted [] (node ∷ nodes) h = absurd cc
all_counted (region ∷ regions) [] h = absurd cc
all_counted (region ∷ regions) (Entry child ∷ nodes) h = omega (arith, all_counted regions nodes h)
all_counted (region ∷ regions) (Cut dimension key low border ∷ nodes) h =
    omega (arith, all_counted (below_cut region dimension key ∷ above_cut region dimension key ∷ regions) nodes h)

-- The nodes of a part, and how many entries it has.
pub some_entries : (places : ℕ) (region : Region) (nodes low high : List CutNode) → nodes ≡ low ++ high → high ≡ after_parts 1 nodes
    → IsTrue (open_places (suc places) nodes) → length (entry_regions (region ∷ []) nodes) ≡ length low / 2 + 1
some_entries places region nodes low high whole after filled =
    let all = counted places (suc places) (region ∷ []) nodes (omega arith) filled in
    let sized : length nodes ≡ length low + length high = ap (λ (ns : List CutNode). length ns) whole ∙ length-append low high in
    let behind : length high ≡ length (after_parts 1 nodes) = ap (λ (ns : List CutNode). length ns) after in
    omega (arith, all, sized, behind)

-- A key set in a list, and read again: it is there, or no key is.
set_key : (keys : List ℕ) (dimension key : ℕ) → (slice_index (set keys dimension key) dimension ≡ key) ⊎ (slice_index (set keys dimension key) dimension ≡ 0) × (slice_index keys dimension ≡ 0)
set_key keys dimension key = elim (cases_lt dimension (length keys)) [
  | inl less ↦ inl (get_or-set_same keys dimension key 0 less)
  | inr past ↦ inr (get_or_past (set keys dimension key) dimension 0 (omega (arith, past, length-set keys dimension key)), get_or_past keys dimension 0 past)
]

-- Where a cut lies inside a region, the two parts of the region lie in it.
below_inside : (region : Region) (dimension key : ℕ) (keys : List ℕ) → IsInside region dimension key → Holds 3 (below_cut region dimension key) keys → Holds 3 region keys
below_inside region dimension key keys inside h = record {
  from_low = h.from_low;
  before_high = λ i less.
      let before = h.before_high i less in
      elim (cases_eq i dimension) [
        | inl same ↦
            let here : slice_index (set region.high dimension key) i ≡ slice_index (set region.high dimension key) dimension = ap (λ (k : ℕ). slice_index (set region.high dimension key) k) same in
            let there : slice_index region.high i ≡ slice_index region.high dimension = ap (λ (k : ℕ). slice_index region.high k) same in
            elim (set_key region.high dimension key) [
              | inl is ↦ omega (arith, before, here, there, is, inside.before_high)
              | inr none ↦ absurd (omega (arith, before, here, none.0))
            ]
        | inr other ↦
            let there : slice_index (set region.high dimension key) i ≡ slice_index region.high i = get_or-set_other region.high dimension i key 0 other in
            omega (arith, before, there)
      ];
}

above_inside : (region : Region) (dimension key : ℕ) (keys : List ℕ) → IsInside region dimension key → Holds 3 (above_cut region dimension key) keys → Holds 3 region keys
above_inside region dimension key keys inside h = record {
  from_low = λ i less.
      let from = h.from_low i less in
      elim (cases_eq i dimension) [
        | inl same ↦
            let here : slice_index (set region.low dimension key) i ≡ slice_index (set region.low dimension key) dimension = ap (λ (k : ℕ). slice_index (set region.low dimension key) k) same in
            let there : slice_index region.low i ≡ slice_index region.low dimension = ap (λ (k : ℕ). slice_index region.low k) same in
            elim (set_key region.low dimension key) [
              | inl is ↦ omega (arith, from, here, there, is, inside.after_low)
              | inr none ↦ omega (arith, there, none.1)
            ]
        | inr other ↦
            let there : slice_index (set region.low dimension key) i ≡ slice_index region.low i = get_or-set_other region.low dimension i key 0 other in
            omega (arith, from, there)
      ];
  before_high = h.before_high;
}

-- The region does not hold the keys.
abbrev pub HoldsNot : List ℕ → Region → Type 0
HoldsNot keys region = Holds 3 region keys → ⊥

-- Where no part's region holds the keys, no entry's does.
none_holds : (keys : List ℕ) (regions : List Region) (nodes : List CutNode) → LieInside regions nodes → All (HoldsNot keys) regions
    → All (HoldsNot keys) (entry_regions regions nodes)
none_holds keys [] nodes inside none = none
none_holds keys (region ∷ regions) [] inside none = λ k d lt. absurd (omega (arith, lt))
none_holds keys (region ∷ regions) (Entry child ∷ nodes) inside none =
    All-cons (HoldsNot keys) region (entry_regions regions nodes) (All-head (HoldsNot keys) region regions none)
    (none_holds keys regions nodes inside (All-tail (HoldsNot keys) region regions none))
none_holds keys (region ∷ regions) (Cut dimension key low border ∷ nodes) inside none =
    let here = All-head (HoldsNot keys) region regions none in
    let below = below_cut region dimension key in
    let above = above_cut region dimension key in
    none_holds keys (below ∷ above ∷ regions) nodes inside.1
    (All-cons (HoldsNot keys) below (above ∷ regions) (λ h. here (below_inside region dimension key keys inside.0 h))
    (All-cons (HoldsNot keys) above regions (λ h. here (above_inside region dimension key keys inside.0 h)) (All-tail (HoldsNot keys) region regions none)))

-- Entries of one list, among those of two.
pub has_low : (lows highs : List Region) (place : ℕ) (region : Region) → HasRegion lows place region → HasRegion (lows ++ highs) place region
has_low lows highs place region h = record {
  within = omega (arith, h.within, length-append lows highs);
  is = λ d. get_or_append_left lows highs d place h.within ∙ h.is d;
}

pub has_high : (lows highs : List Region) (place all : ℕ) (region : Region) → all ≡ length lows + place → HasRegion highs place region → HasRegion (lows ++ highs) all region
has_high lows highs place all region is h =
    let less : all - length lows ≡ place = omega (arith, is) in
    record {
      within = omega (arith, is, h.within, length-append lows highs);
      is = λ d. get_or-append_right lows highs (length lows) all d refl (omega (arith, is)) ∙ ap (λ (n : ℕ). get_or highs n d) less ∙ h.is d;
    }

in_low : (lows highs : List Region) (place : ℕ) (region : Region) → place < length lows → HasRegion (lows ++ highs) place region → HasRegion lows place region
in_low lows highs place region less h = record {
  within = less;
  is = λ d. sym (get_or_append_left lows highs d place less) ∙ h.is d;
}

in_high : (lows highs : List Region) (place : ℕ) (region : Region) → length lows ≤ place → HasRegion (lows ++ highs) place region
    → HasRegion highs (place - length lows) region
in_high lows highs place region past h = record {
  within = omega (arith, past, h.within, length-append lows highs);
  is = λ d. sym (get_or-append_right lows highs (length lows) place d refl past) ∙ h.is d;
}

-- An entry of a list of which no region holds the keys.
not_there : (keys : List ℕ) (regions : List Region) (place : ℕ) (region : Region) → All (HoldsNot keys) regions → HasRegion regions place region → Holds 3 region keys → ⊥
not_there keys regions place region none has holds =
    none place region has.within (subst (λ (r : Region). Holds 3 r keys) (sym (has.is region)) holds)

only_low : (keys : List ℕ) (lows highs : List Region) (place : ℕ) → All (HoldsNot keys) highs → IsOnlyFor keys lows place → IsOnlyFor keys (lows ++ highs) place
only_low keys lows highs place none only = λ other region has holds.
    elim (cases_lt other (length lows)) [
      | inl less ↦ only other region (in_low lows highs other region less has) holds
      | inr past ↦ absurd (not_there keys highs (other - length lows) region none (in_high lows highs other region past has) holds)
    ]

only_high : (keys : List ℕ) (lows highs : List Region) (place all : ℕ) → all ≡ length lows + place → All (HoldsNot keys) lows → IsOnlyFor keys highs place
    → IsOnlyFor keys (lows ++ highs) all
only_high keys lows highs place all is none only = λ other region has holds.
    elim (cases_lt other (length lows)) [
      | inl less ↦ absurd (not_there keys lows other region none (in_low lows highs other region less has) holds)
      | inr past ↦
          let same = only (other - length lows) region (in_high lows highs other region past has) holds in
          omega (arith, is, same, past)
    ]

-- Of the two parts of a region only that on the keys' side of the cut holds them.
above_not : (region : Region) (dimension key : ℕ) (keys : List ℕ) → dimension < 3 → 3 ≤ length region.low → slice_index keys dimension < key
    → HoldsNot keys (above_cut region dimension key)
above_not region dimension key keys lt long below h =
    let from = h.from_low dimension lt in
    let is = get_or-set_same region.low dimension key 0 (omega (arith, lt, long)) in
    omega (arith, from, is, below)

below_not : (region : Region) (dimension key : ℕ) (keys : List ℕ) → dimension < 3 → 3 ≤ length region.high → key ≤ slice_index keys dimension
    → HoldsNot keys (below_cut region dimension key)
below_not region dimension key keys lt long from h =
    let before = h.before_high dimension lt in
    let is = get_or-set_same region.high dimension key 0 (omega (arith, lt, long)) in
    omega (arith, before, is, from)

-- The entry at this place is found for the keys: it has the region, which holds them, and it is the only one.
pub record IsFound (nodes : List CutNode) (region : Region) (keys : List ℕ) (place : ℕ) (found : Region) : Type 0 where
  pub entry : HasRegion (entry_regions (region ∷ []) nodes) place found
  pub holds : Holds 3 region keys → Holds 3 found keys
  pub only : LieInside (region ∷ []) nodes → IsOnlyFor keys (entry_regions (region ∷ []) nodes) place

pub entry_found : (child : ℕ) (rest : List CutNode) (region : Region) (keys : List ℕ) → IsFound (Entry child ∷ rest) region keys 0 region
entry_found child rest region keys = record {
  entry = record { within = omega arith; is = λ d. refl };
  holds = λ h. h;
  only = λ inside other held has holds. omega (arith, has.within);
}

-- A cut in one of three dimensions, and a region of three keys.
pub record IsCutIn (region : Region) (dimension : ℕ) : Type 0 where
  pub dims : dimension < 3
  pub low : length region.low ≡ 3
  pub high : length region.high ≡ 3

pub low_found : (dimension key low : ℕ) (border : Tree) (rest : List CutNode) (region : Region) (keys : List ℕ) (place : ℕ) (found : Region)
    → IsCutIn region dimension → slice_index keys dimension < key → IsFound rest (below_cut region dimension key) keys place found
    → IsFound (Cut dimension key low border ∷ rest) region keys place found
low_found dimension key low border rest region keys place found cut less h =
    let below : Region = below_cut region dimension key in
    let above : Region = above_cut region dimension key in
    let lows : List Region = entry_regions (below ∷ []) rest in
    let highs : List Region = entry_regions (above ∷ []) (after_parts 1 rest) in
    let all : lows ++ highs ≡ entry_regions (below ∷ above ∷ []) rest = sym (split_regions (below ∷ []) (above ∷ []) rest) in
    record {
      entry = subst (λ (rs : List Region). HasRegion rs place found) all (has_low lows highs place found h.entry);
      holds = λ held. h.holds (below_holds 3 region dimension key keys cut.dims (omega (arith, cut.high)) held less);
      only = λ inside.
          let sides = split_inside (below ∷ []) (above ∷ []) rest inside.1 in
          let none = none_holds keys (above ∷ []) (after_parts 1 rest) sides.1
          (All-cons (HoldsNot keys) above [] (above_not region dimension key keys cut.dims (omega (arith, cut.low)) less) (λ k d lt. absurd (omega (arith, lt)))) in
          subst (λ (rs : List Region). IsOnlyFor keys rs place) all (only_low keys lows highs place none (h.only sides.0));
    }

pub high_found : (dimension key low : ℕ) (border : Tree) (rest high : List CutNode) (region : Region) (keys : List ℕ) (place total : ℕ) (found : Region)
    → IsCutIn region dimension → key ≤ slice_index keys dimension → high ≡ after_parts 1 rest
    → total ≡ length (entry_regions (below_cut region dimension key ∷ []) rest) + place
    → IsFound high (above_cut region dimension key) keys place found → IsFound (Cut dimension key low border ∷ rest) region keys total found
high_found dimension key low border rest high region keys place total found cut from after is before =
    let below : Region = below_cut region dimension key in
    let above : Region = above_cut region dimension key in
    let lows : List Region = entry_regions (below ∷ []) rest in
    let highs : List Region = entry_regions (above ∷ []) (after_parts 1 rest) in
    let all : lows ++ highs ≡ entry_regions (below ∷ above ∷ []) rest = sym (split_regions (below ∷ []) (above ∷ []) rest) in
    let h : IsFound (after_parts 1 rest) above keys place found = subst (λ (ns : List CutNode). IsFound ns above keys place found) after before in
    record {
      entry = subst (λ (rs : List Region). HasRegion rs total found) all (has_high lows highs place total found is h.entry);
      holds = λ held. h.holds (above_holds 3 region dimension key keys cut.dims (omega (arith, cut.low)) held from);
      only = λ inside.
          let sides = split_inside (below ∷ []) (above ∷ []) rest inside.1 in
          let none = none_holds keys (below ∷ []) rest sides.0
          (All-cons (HoldsNot keys) below [] (below_not region dimension key keys cut.dims (omega (arith, cut.high)) from) (λ k d lt. absurd (omega (arith, lt)))) in
          subst (λ (rs : List Region). IsOnlyFor keys rs total) all (only_high keys lows highs place total is none (h.only sides.1));
    }

-- The first node of a part is a cut in this dimension, and these are behind it.
pub record IsAtCut (dimension places : ℕ) (rest : List CutNode) : Type 0 where
  pub dims : dimension < 3
  pub filled : IsTrue (open_places (suc (suc places)) rest)
  pub fit : All (λ node. IsTrue (node_fits node)) rest

pub at_cut : (dimension key low : ℕ) (border : Tree) (nodes rest : List CutNode) (places : ℕ) → Cut dimension key low border ∷ rest ≡ nodes
    → IsTrue (open_places (suc places) nodes) → All (λ node. IsTrue (node_fits node)) nodes → IsAtCut dimension places rest
at_cut dimension key low border nodes rest places begun filled fit =
    let cut : CutNode = Cut dimension key low border in
    let fits : All (λ node. IsTrue (node_fits node)) (cut ∷ rest) = subst (λ (ns : List CutNode). All (λ node. IsTrue (node_fits node)) ns) (sym begun) fit in
    let first : IsTrue (node_fits cut) = All-head (λ node. IsTrue (node_fits node)) cut rest fits in
    let few : dimension ≤ 2 = leb-true dimension 2 (and_parts (nat_le dimension 2) (nat_le 1 low && tree_fits border) first).0 in
    record {
      dims = omega (arith, few);
      filled = subst (λ (ns : List CutNode). IsTrue (open_places (suc places) ns)) (sym begun) filled;
      fit = All-tail (λ node. IsTrue (node_fits node)) cut rest fits;
    }

pub high_filled : (dimension places : ℕ) (rest high : List CutNode) → high ≡ after_parts 1 rest → IsAtCut dimension places rest → IsTrue (open_places (suc places) high)
high_filled dimension places rest high after at =
    subst (λ (ns : List CutNode). IsTrue (open_places (suc places) ns)) (sym after) (after_fills (suc places) rest at.filled)

pub high_fit : (dimension places : ℕ) (rest high : List CutNode) → high ≡ after_parts 1 rest → IsAtCut dimension places rest → All (λ node. IsTrue (node_fits node)) high
high_fit dimension places rest high after at =
    subst (λ (ns : List CutNode). All (λ node. IsTrue (node_fits node)) ns) (sym after) (after_all (λ node. IsTrue (node_fits node)) 1 rest at.fit)

pub fewer : (rest low high : List CutNode) → rest ≡ low ++ high → length high ≤ length rest
fewer rest low high whole = omega (arith, ap (λ (ns : List CutNode). length ns) whole, length-append low high)

-- The regions of the entries of a cut are those of its low side, so many, and then those of its high side.
pub record AreSplit (nodes low_nodes high_nodes : List CutNode) (region below above : Region) (before : ℕ) : Type 0 where
  pub whole : entry_regions (region ∷ []) nodes ≡ entry_regions (below ∷ []) low_nodes ++ entry_regions (above ∷ []) high_nodes
  pub sized : length (entry_regions (below ∷ []) low_nodes) ≡ before

pub split_at_cut : (dimension key low : ℕ) (border : Tree) (nodes rest lows highs : List CutNode) (places : ℕ) (region : Region)
    → Cut dimension key low border ∷ rest ≡ nodes → rest ≡ lows ++ highs → highs ≡ after_parts 1 rest → IsAtCut dimension places rest
    → AreSplit nodes rest highs region (below_cut region dimension key) (above_cut region dimension key) (length lows / 2 + 1)
split_at_cut dimension key low border nodes rest lows highs places region begun whole after at =
    let below : Region = below_cut region dimension key in
    let above : Region = above_cut region dimension key in
    record {
      whole = ap (λ (ns : List CutNode). entry_regions (region ∷ []) ns) (sym begun) ∙ split_regions (below ∷ []) (above ∷ []) rest
          ∙ ap (λ (ns : List CutNode). entry_regions (below ∷ []) rest ++ entry_regions (above ∷ []) ns) (sym after);
      sized = some_entries (suc places) below rest lows highs whole after at.filled;
    }
