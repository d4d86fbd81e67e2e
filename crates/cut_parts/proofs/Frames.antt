-- Whether a part stands depends on its own pages alone, which are in the map.
use Rattle.std.proofs.Common.{◌≡◌, ℕ, ◌<◌, ◌≤◌, ◌==◌, Option, Some, None, List, [], ◌∷◌, ◌++◌, IsSome, inl, inr, refl, sym, ap, ◌∙◌, subst, arith}
use Rattle.std.proofs.lemmas.Bool.{cases_lt, or_left, or_right, or_cases, eqb-true, eq-eqb}
use Rattle.bw_types.specs.Empty.{empty_tree}
use Rattle.bw_types.specs.declared.point.Point.{Point}
use Rattle.bw_types.specs.declared.tree.Tree.{Tree}
use Rattle.ports.specs.Frame.{AgreeOn, AreInMap, names_page}
use Rattle.ports.specs.FrameLaws.{names_page-append}
use Rattle.ports.specs.Pages.{PageMap}
use Rattle.cut_parts.specs.Standing.{BordersBalanced, HaveLaws, PartBalanced, PartStands, part_pages}
use Rattle.cut_parts.specs.declared.border_tree.BorderTree.{Ghosts}
use Rattle.cut_parts.specs.Parts.{Part, Leaf, Split, BordersStand, border_points, points_of}
use Rattle.cut_parts.specs.Spelling.{Holds, HomeHolds, IsSpelled, from_home, is_cuts, is_leaf, nodes_in, nodes_of, pages_of, points_in}
use Rattle.page_layout.specs.declared.cut_page.CutNode.{CutNode}
use Rattle.page_layout.specs.declared.cut_page.CutNode.TheVariants.{Cut}

-- ---- lists of pages

pub agree_first : (p : ℕ) (ps : List ℕ) (a b : PageMap) → AgreeOn (p ∷ ps) a b → b p ≡ a p
agree_first p ps a b h = h p (or_left (p == p) (names_page ps p) (eq-eqb p p refl))

agree_rest : (p : ℕ) (ps : List ℕ) (a b : PageMap) → AgreeOn (p ∷ ps) a b → AgreeOn ps a b
agree_rest p ps a b h = λ q named. h q (or_right (p == q) (names_page ps q) named)

pub agree_left : (xs ys : List ℕ) (a b : PageMap) → AgreeOn (xs ++ ys) a b → AgreeOn xs a b
agree_left xs ys a b h = λ q named. h q (names_page-append xs ys q ∙ or_left (names_page xs q) (names_page ys q) named)

pub agree_right : (xs ys : List ℕ) (a b : PageMap) → AgreeOn (xs ++ ys) a b → AgreeOn ys a b
agree_right xs ys a b h = λ q named. h q (names_page-append xs ys q ∙ or_right (names_page xs q) (names_page ys q) named)

there_first : (a : PageMap) (page : ℕ) (bytes ps : List ℕ) → a page ≡ Some bytes → AreInMap a ps → AreInMap a (page ∷ ps)
there_first a page bytes ps here rest = λ p named.
    elim (or_cases (page == p) (names_page ps p) named) [
      | inl first ↦ subst (λ (q : ℕ). IsSome (a q)) (eqb-true page p first) (subst IsSome (sym here) refl)
      | inr later ↦ rest p later
    ]

there_both : (a : PageMap) (xs ys : List ℕ) → AreInMap a xs → AreInMap a ys → AreInMap a (xs ++ ys)
there_both a xs ys first rest = λ p named.
    elim (or_cases (names_page xs p) (names_page ys p) (sym (names_page-append xs ys p) ∙ named)) [
      | inl left ↦ first p left
      | inr right ↦ rest p right
    ]

pub holds_same : {V : Type 0} (spells : List ℕ → Type 0) (value_in : List ℕ → V) (a b : PageMap) (page : ℕ) (value : V)
    → b page ≡ a page → Holds spells value_in a page value → Holds spells value_in b page value
holds_same spells value_in a b page value e h = record { bytes = h.bytes; there = e ∙ h.there; spelled = h.spelled; is = h.is }

agree_inner : (home : Option ℕ) (others : List ℕ) (a b : PageMap) → AgreeOn (from_home home others) a b → AgreeOn others a b
agree_inner (Some page) others a b h = agree_rest page others a b h
agree_inner None others a b h = h

home_same : (home : Option ℕ) (nodes : List CutNode) (others : List ℕ) (a b : PageMap) → AgreeOn (from_home home others) a b
    → HomeHolds a home nodes → HomeHolds b home nodes
home_same (Some page) nodes others a b h holds = holds_same is_cuts nodes_in a b page nodes (agree_first page others a b h) holds
home_same None nodes others a b h holds = tt

pub spelled_same : (border_pages : Tree → List ℕ) (a b : PageMap) (part : Part) → IsSpelled a part
    → AgreeOn (pages_of border_pages part) a b → IsSpelled b part
spelled_same border_pages a b (Leaf page points) s h = holds_same is_leaf points_in a b page points (agree_first page [] a b h) s
spelled_same border_pages a b (Split home dimension key low border low_side high_side) s h =
    let lows : List ℕ = pages_of border_pages low_side in
    let highs : List ℕ = pages_of border_pages high_side in
    let inner = agree_inner home (border_pages border ++ (lows ++ highs)) a b h in
    let sides = agree_right (border_pages border) (lows ++ highs) a b inner in (
      home_same home (Cut dimension key low border ∷ (nodes_of low_side ++ nodes_of high_side)) (border_pages border ++ (lows ++ highs)) a b h s.0,
      spelled_same border_pages a b low_side s.1 (agree_left lows highs a b sides),
      spelled_same border_pages a b high_side s.2 (agree_right lows highs a b sides),
    )

there_home : (home : Option ℕ) (nodes : List CutNode) (others : List ℕ) (a : PageMap) → HomeHolds a home nodes
    → AreInMap a others → AreInMap a (from_home home others)
there_home (Some page) nodes others a holds rest = there_first a page holds.bytes others holds.there rest
there_home None nodes others a holds rest = rest

module _ {B : Type 0} (g : Ghosts B) (laws : HaveLaws g) where
  -- a border that is empty or stands
  pub border_same : (a b : PageMap) (low : ℕ) (border : Tree) (points : List Point) → (low ≤ 64 → border ≡ empty_tree)
      → (64 < low → g.stands a border points) → AgreeOn (g.footprint a border) a b
      → (64 < low → g.stands b border points) × (g.footprint b border ≡ g.footprint a border)
  border_same a b low border points few many h = elim (cases_lt 64 low) [
    | inl more ↦ let same = laws.by_its_pages a b border points (many more) h in ((λ _. same.0), same.1)
    | inr less ↦ (
      (λ more. absurd (omega (arith, more, less))),
      ap (g.footprint b) (few less) ∙ (laws.empty b).1 ∙ sym (laws.empty a).1 ∙ ap (g.footprint a) (sym (few less)),
    )
  ]

  pub border_there : (a : PageMap) (low : ℕ) (border : Tree) (points : List Point) → (low ≤ 64 → border ≡ empty_tree)
      → (64 < low → g.stands a border points) → AreInMap a (g.footprint a border)
  border_there a low border points few many = elim (cases_lt 64 low) [
    | inl more ↦ laws.in_map a border points (many more)
    | inr less ↦ subst (λ (ps : List ℕ). AreInMap a ps) (sym (ap (g.footprint a) (few less) ∙ (laws.empty a).1)) (λ p named. cc)
  ]

  pub border_balance : (a b : PageMap) (low : ℕ) (border : Tree) (points : List Point) → (64 < low → g.stands a border points)
      → AgreeOn (g.footprint a border) a b → (64 < low → g.balanced a border) → 64 < low → g.balanced b border
  border_balance a b low border points many h balanced more = laws.balance a b border points (many more) h (balanced more)

  pub borders_same : (a b : PageMap) (part : Part) → BordersStand (g.stands a) part → AgreeOn (pages_of (g.footprint a) part) a b
      → BordersStand (g.stands b) part × (pages_of (g.footprint b) part ≡ pages_of (g.footprint a) part)
  borders_same a b (Leaf page points) s h = (tt, refl)
  borders_same a b (Split home dimension key low border low_side high_side) s h =
      let lows : List ℕ = pages_of (g.footprint a) low_side in
      let highs : List ℕ = pages_of (g.footprint a) high_side in
      let inner = agree_inner home (g.footprint a border ++ (lows ++ highs)) a b h in
      let sides = agree_right (g.footprint a border) (lows ++ highs) a b inner in
      let mine = border_same a b low border (border_points dimension (points_of low_side)) s.0 s.1 (agree_left (g.footprint a border) (lows ++ highs) a b inner) in
      let l = borders_same a b low_side s.2 (agree_left lows highs a b sides) in
      let r = borders_same a b high_side s.3 (agree_right lows highs a b sides) in
      ((s.0, mine.0, l.0, r.0), (λ i. from_home home (mine.1 i ++ (l.1 i ++ r.1 i))))

  pub balance_same : (a b : PageMap) (part : Part) → BordersStand (g.stands a) part → AgreeOn (pages_of (g.footprint a) part) a b
      → BordersBalanced (g.balanced a) part → BordersBalanced (g.balanced b) part
  balance_same a b (Leaf page points) s h balanced = tt
  balance_same a b (Split home dimension key low border low_side high_side) s h balanced =
      let lows : List ℕ = pages_of (g.footprint a) low_side in
      let highs : List ℕ = pages_of (g.footprint a) high_side in
      let inner = agree_inner home (g.footprint a border ++ (lows ++ highs)) a b h in
      let sides = agree_right (g.footprint a border) (lows ++ highs) a b inner in (
        border_balance a b low border (border_points dimension (points_of low_side)) s.1 (agree_left (g.footprint a border) (lows ++ highs) a b inner) balanced.0,
        balance_same a b low_side s.2 (agree_left lows highs a b sides) balanced.1,
        balance_same a b high_side s.3 (agree_right lows highs a b sides) balanced.2,
      )

  pub all_there : (a : PageMap) (part : Part) → BordersStand (g.stands a) part → IsSpelled a part → AreInMap a (pages_of (g.footprint a) part)
  all_there a (Leaf page points) s spelled = there_first a page spelled.bytes [] spelled.there (λ p named. cc)
  all_there a (Split home dimension key low border low_side high_side) s spelled =
      let lows : List ℕ = pages_of (g.footprint a) low_side in
      let highs : List ℕ = pages_of (g.footprint a) high_side in
      let mine = border_there a low border (border_points dimension (points_of low_side)) s.0 s.1 in
      there_home home (Cut dimension key low border ∷ (nodes_of low_side ++ nodes_of high_side)) (g.footprint a border ++ (lows ++ highs)) a spelled.0
      (there_both a (g.footprint a border) (lows ++ highs) mine
      (there_both a lows highs (all_there a low_side s.2 spelled.1) (all_there a high_side s.3 spelled.2)))

  -- a part on whose pages two maps agree
  pub part_same : (a b : PageMap) (n : ℕ) (part : Part) → PartStands g a n part → AgreeOn (part_pages g a part) a b
      → PartStands g b n part × (part_pages g b part ≡ part_pages g a part)
  part_same a b n part s agree =
      let borders = borders_same a b part s.borders agree in (
        record { shape = s.shape; parted = s.parted; borders = borders.0; spelled = spelled_same (g.footprint a) a b part s.spelled agree },
        borders.1,
      )

  pub part_there : (a : PageMap) (n : ℕ) (part : Part) → PartStands g a n part → AreInMap a (part_pages g a part)
  part_there a n part s = all_there a part s.borders s.spelled

  pub part_balance : (a b : PageMap) (n : ℕ) (part : Part) → PartStands g a n part → AgreeOn (part_pages g a part) a b
      → PartBalanced g a part → PartBalanced g b part
  part_balance a b n part s agree balanced = balance_same a b part s.borders agree balanced
