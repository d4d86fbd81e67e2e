-- One tree more is filled.
use Rattle.std.proofs.Common.{◌≡◌, ℕ, suc, ◌+◌, List, [], ◌∷◌, ◌++◌, length, refl, sym, ap, ◌∙◌, subst, arith, IsPermutation}
use Rattle.std.specs.List.{All}
use Rattle.std.proofs.lemmas.Bool.{or_left, or_right}
use Rattle.std.proofs.lemmas.List.{append-nil}
use Rattle.std.proofs.lemmas.List.Concat.{flat_map-append}
use Rattle.std.proofs.lemmas.List.Elements.{All-cons, All-head, All-nil, All-push, All-tail}
use Rattle.bw_types.specs.declared.params.Params.{Params}
use Rattle.bw_types.specs.declared.point.Point.{Point}
use Rattle.bw_types.specs.declared.tree.Tree.{Tree}
use Rattle.page_layout.specs.Footprint.{NamesNoneTwice}
use Rattle.page_layout.specs.FootprintLaws.{once_join}
use Rattle.ports.specs.Frame.{names_page, AgreeOn, AreApart, AreInMap, Replaces}
use Rattle.ports.specs.FrameLaws.{names_page-append, Replaces-agree, Replaces-apart, Replaces-beside}
use Rattle.ports.specs.Pages.{PageMap}
use Rattle.corner_weights.specs.PlaneSums.{Entered}
use Rattle.dom_index.specs.Adding.{TreeTakes}
use Rattle.dom_index.specs.declared.index.DomIndex.{Ghosts}
use Rattle.corner_forest.specs.Trees.{EachStands, trees_pages}
use Rattle.corner_forest.proofs.Changing.{each_by_pages, each_there}
use Rattle.span_planes.specs.Filled.{FilledTrees, points_at}
use Rattle.span_planes.proofs.FillTurns.{all_turned}

agree_left : (xs ys : List ℕ) (a b : PageMap) → AgreeOn (xs ++ ys) a b → AgreeOn xs a b
agree_left xs ys a b h = λ q named. h q (names_page-append xs ys q ∙ or_left (names_page xs q) (names_page ys q) named)

agree_right : (xs ys : List ℕ) (a b : PageMap) → AgreeOn (xs ++ ys) a b → AgreeOn ys a b
agree_right xs ys a b h = λ q named. h q (names_page-append xs ys q ∙ or_right (names_page xs q) (names_page ys q) named)

each_push : (S : Tree → List Point → Type 0) (P : ℕ → List Point) (from : ℕ) (ts : List Tree) (u : Tree) → EachStands S P from ts → S u (P (from + length ts))
    → EachStands S P from (ts ++ u ∷ [])
each_push S P from [] u each last =
    let here : from + 0 ≡ from = omega arith in
    (subst (λ (k : ℕ). S u (P k)) here last, tt)
each_push S P from (t ∷ ts) u each last =
    let further : from + length (t ∷ ts) ≡ suc from + length ts = omega arith in
    (each.0, each_push S P (suc from) ts u each.1 (subst (λ (k : ℕ). S u (P k)) further last))

pages_push : (footprint : Tree → List ℕ) (ts : List Tree) (u : Tree) → trees_pages footprint (ts ++ u ∷ []) ≡ trees_pages footprint ts ++ footprint u
pages_push footprint ts u = flat_map-append footprint ts (u ∷ []) ∙ ap (λ (l : List ℕ). trees_pages footprint ts ++ l) (append-nil (footprint u))

-- The tree stands for no points, has no pages, and is as low as can be.
abbrev pub IsBare : {X : Type 0} → Ghosts X → PageMap → ℕ → Tree → Type 0
IsBare g m dims t = g.stands m dims t [] × (g.footprint m dims t ≡ []) × g.balanced m dims t

module _ {X : Type 0} (g : Ghosts X)
    (by_its_pages : (pages others : PageMap) (dims : ℕ) (tree : Tree) (points : List Point) → g.stands pages dims tree points
    → AgreeOn (g.footprint pages dims tree) pages others → g.stands others dims tree points × (g.footprint others dims tree ≡ g.footprint pages dims tree))
    (balance : (pages others : PageMap) (dims : ℕ) (tree : Tree) (points : List Point) → g.stands pages dims tree points
    → AgreeOn (g.footprint pages dims tree) pages others → g.balanced pages dims tree → g.balanced others dims tree)
    (in_map : (pages : PageMap) (dims : ℕ) (tree : Tree) (points : List Point) → g.stands pages dims tree points → AreInMap pages (g.footprint pages dims tree))
    (single : (pages : PageMap) (dims : ℕ) (tree : Tree) (points : List Point) → g.stands pages dims tree points → NamesNoneTwice (g.footprint pages dims tree))
    (any_order : (pages : PageMap) (dims : ℕ) (tree : Tree) (points others : List Point) → g.stands pages dims tree points → IsPermutation points others → g.stands pages dims tree others) where
  -- trees whose pages agree stay as low as they are
  low_by_pages : (m n : PageMap) (dims : ℕ) (P : ℕ → List Point) (from : ℕ) (ts : List Tree) → EachStands (g.stands m dims) P from ts
      → AgreeOn (trees_pages (g.footprint m dims) ts) m n → All (g.balanced m dims) ts → All (g.balanced n dims) ts
  low_by_pages m n dims P from [] each agree low = All-nil (g.balanced n dims)
  low_by_pages m n dims P from (t ∷ ts) each agree low =
      All-cons (g.balanced n dims) t ts
      (balance m n dims t (P from) each.0 (agree_left (g.footprint m dims t) (trees_pages (g.footprint m dims) ts) m n agree) (All-head (g.balanced m dims) t ts low))
      (low_by_pages m n dims P (suc from) ts each.1 (agree_right (g.footprint m dims t) (trees_pages (g.footprint m dims) ts) m n agree) (All-tail (g.balanced m dims) t ts low))

  -- The points were added to a tree without pages, behind the trees that were filled before.
  pub one_more : (params : Params) (m0 m n : PageMap) (entries : List Entered) (done : List Tree) (t u : Tree) (added : List Point) → FilledTrees g m0 m params entries done
      → IsBare g m params.dims t → added ≡ points_at params entries (length done)
      → TreeTakes g params.dims m n t u added [] → FilledTrees g m0 n params entries (done ++ u ∷ [])
  one_more params m0 m n entries done t u added filled bare is_added takes =
      let dims = params.dims in
      let P : ℕ → List Point = points_at params entries in
      let L : List ℕ = trees_pages (g.footprint m dims) done in
      let F : List ℕ = g.footprint n dims u in
      let S : PageMap → Tree → List Point → Type 0 = λ m t ps. g.stands m dims t ps in
      let change : Replaces [] F m n = subst (λ (l : List ℕ). Replaces l F m n) bare.1 takes.change in
      let in_pages : AreInMap m L = each_there S (λ m t. g.footprint m dims t) (λ m n t ps s agree. by_its_pages m n dims t ps s agree) (λ m t ps s. in_map m dims t ps s) (λ m t ps s. single m dims t ps s)
      m P 0 done filled.stand in
      let beside : AreApart L [] = λ page named. refl in
      let agree = Replaces-agree L [] F m n change in_pages beside in
      let apart = Replaces-apart L [] F m n change in_pages beside in
      let still = each_by_pages S (λ m t. g.footprint m dims t) (λ m n t ps s agree. by_its_pages m n dims t ps s agree) (λ m t ps s. in_map m dims t ps s) (λ m t ps s. single m dims t ps s)
      m n P 0 done filled.stand agree in
      let here : g.stands n dims u added = any_order n dims u _ added takes.stands (all_turned added) in
      let first : 0 + length done ≡ length done = omega arith in
      let there : g.stands n dims u (P (0 + length done)) = subst (λ (ps : List Point). g.stands n dims u ps) (is_added ∙ sym (ap P first)) here in
      let all : trees_pages (g.footprint n dims) (done ++ u ∷ []) ≡ L ++ F = pages_push (g.footprint n dims) done u ∙ ap (λ (l : List ℕ). l ++ F) still.1 in
      record {
        stand = each_push (g.stands n dims) P 0 done u still.0 there;
        balanced = All-push (g.balanced n dims) done u (low_by_pages m n dims P 0 done filled.stand agree filled.balanced) (takes.balanced bare.2);
        once = subst (λ (l : List ℕ). NamesNoneTwice l) (sym all) (once_join L F filled.once (single n dims u added here) apart);
        change = subst (λ (l : List ℕ). Replaces [] l m0 n) (sym all) (Replaces-beside [] L [] F m0 m n filled.change change);
      }
