-- With which entry the nodes of a page begin after an addition.
use Rattle.std.proofs.Common.{◌≡◌, ℕ, zero, suc, ◌<◌, ◌≤◌, ◌⊎◌, true, Option, Some, None, IsSome, List, [], ◌∷◌, ◌++◌, length, get_or, set, drop, take, inl, inr, refl, sym, ap, ◌∙◌, subst, arith}
use Rattle.std.proofs.lemmas.Bool.{eq-eqb, false≢true, or_left}
use Rattle.ports.specs.Frame.{Replaces, names_page}
use Rattle.ports.specs.Pages.{PageMap}
use Rattle.page_layout.specs.CutPage.{cut_one}
use Rattle.page_layout.specs.declared.cut_page.CutNode.{CutNode}
use Rattle.page_layout.specs.declared.cut_page.CutNode.TheVariants.{Entry}
use Rattle.dom_index.specs.Becoming.{MayName}
use Rattle.dom_index.proofs.FirstPages.{not_missing}
use Rattle.cut_parts.specs.Borders.{OthersStay}
use Rattle.cut_parts.specs.Damage.{after_parts}
use Rattle.cut_parts.specs.Parts.{Part, Leaf, Split}
use Rattle.cut_parts.specs.Spelling.{first_page}
use Rattle.cut_parts.specs.Standing.{part_pages}
use Rattle.cut_parts.specs.declared.border_tree.BorderTree.{Ghosts}
use Rattle.cut_parts.specs.Nodes.{AreNodes}
use Rattle.ba_tree.specs.Additions.{ChangeFits, IsTaken, MayBegin, nodes_after}
use Rattle.ba_tree.specs.declared.change.Change.{Change}
use Rattle.ba_tree.specs.declared.change.Change.TheVariants.{Same, Moved, Raised}

-- ---- pages that are given out

-- a page that was given out after others had stayed was not in the map, or may be changed
pub given_out : (may : ℕ → Type 0) (m0 m1 m2 : PageMap) (pages : List ℕ) (page : ℕ) → OthersStay may m0 m1 → Replaces [] pages m1 m2 → names_page pages page ≡ true
    → IsSome (m0 page) → ¬ may page → ⊥
given_out may m0 m1 m2 pages page left change named some beside =
    not_missing (m0 page) (sym (left page some beside) ∙ change.fresh page refl named) some

pub one_names : (page : ℕ) → names_page (page ∷ []) page ≡ true
one_names page = or_left _ _ (eq-eqb page page refl)

-- the page with which a part begins is one of its pages
pub begins_named : {B : Type 0} (g : Ghosts B) (m : PageMap) (part : Part) (page : ℕ) → first_page part ≡ Some page → names_page (part_pages g m part) page ≡ true
begins_named g m (Leaf first points) page begins = or_left _ _ (eq-eqb first page cc)
begins_named g m (Split (Some first) dimension key low border low_side high_side) page begins = or_left _ _ (eq-eqb first page cc)
begins_named g m (Split None dimension key low border low_side high_side) page begins = absurd cc

-- ---- with what the nodes begin

pub begins_more : (a c : ℕ → Type 0) (m : PageMap) (old new : List CutNode) → MayBegin a m old new → ((p : ℕ) → a p → c p) → MayBegin c m old new
begins_more a c m old new begins more = λ child others is some beside. begins child others is some (λ x. beside (more child x))

no_cut : (node : CutNode) (child : ℕ) → cut_one node ≡ 1 → node ≡ Entry child → ⊥
no_cut node child cut is =
    let none : cut_one (Entry child) ≡ 1 = subst (λ (n : CutNode). cut_one n ≡ 1) is cut in
    absurd (omega (arith, none))

-- where a cut was set, the nodes begin with no other entry than before
pub begins_set : (nodes : List CutNode) (place : ℕ) (cut : CutNode) (child : ℕ) (others : List CutNode) → cut_one cut ≡ 1 → set nodes place cut ≡ Entry child ∷ others
    → (before : List CutNode) × (nodes ≡ Entry child ∷ before)
begins_set [] zero cut child others one is = absurd cc
begins_set [] (suc place) cut child others one is = absurd cc
begins_set (first ∷ rest) zero cut child others one is =
    let same : cut ≡ Entry child = cc in
    absurd (no_cut cut child one same)
begins_set (first ∷ rest) (suc place) cut child others one is =
    let same : first ≡ Entry child = cc in
    (rest, ap (λ (n : CutNode). n ∷ rest) same)

-- a border was changed, and then the nodes behind a cut that was set
pub begins_low : (a b c : ℕ → Type 0) (m0 m1 : PageMap) (nodes changed new : List CutNode) (place : ℕ) (cut : CutNode) → cut_one cut ≡ 1 → changed ≡ set nodes place cut
    → OthersStay a m0 m1 → MayBegin b m1 changed new → ((p : ℕ) → a p → c p) → ((p : ℕ) → b p → c p) → MayBegin c m0 nodes new
begins_low a b c m0 m1 nodes changed new place cut one set_to left begins first second = λ child others is some beside.
    let same : m1 child ≡ m0 child = left child some (λ x. beside (first child x)) in
    let there : IsSome (m1 child) = subst (λ (o : Option (List ℕ)). IsSome o) (sym same) some in
    let before = begins child others is there (λ x. beside (second child x)) in
    begins_set nodes place cut child before.0 one (sym set_to ∙ before.1)

-- a part was replaced by an entry that was given out
pub begins_anew : (may : ℕ → Type 0) (m : PageMap) (nodes new : List CutNode) (place page : ℕ) → place < length nodes → (IsSome (m page) → ¬ may page → ⊥)
    → new ≡ take place nodes ++ (Entry page ∷ after_parts 1 (drop place nodes)) → MayBegin may m nodes new
begins_anew may m [] new place page lt given set_to = absurd (omega (arith, lt))
begins_anew may m (first ∷ rest) new zero page lt given set_to = λ child others is some beside.
    let whole : Entry page ∷ after_parts 1 (first ∷ rest) ≡ Entry child ∷ others = sym set_to ∙ is in
    let same : child ≡ page = cc in
    absurd (given (subst (λ (p : ℕ). IsSome (m p)) same some) (λ x. beside (subst may (sym same) x)))
begins_anew may m (first ∷ rest) new (suc place) page lt given set_to = λ child others is some beside.
    let whole : first ∷ (take place rest ++ (Entry page ∷ after_parts 1 (drop place rest))) ≡ Entry child ∷ others = sym set_to ∙ is in
    let same : first ≡ Entry child = cc in
    (rest, ap (λ (n : CutNode). n ∷ rest) same)

-- what an addition below an entry asked for was put into its place
pub begins_taken : (may : ℕ → Type 0) (m : PageMap) (nodes new : List CutNode) (place page : ℕ) (change : Change) → place < length nodes
    → ((d : CutNode) → Entry page ≡ get_or nodes place d) → ChangeFits change → ((first : ℕ) → nodes_after change page ≡ Entry first ∷ [] → MayName may m page first)
    → IsTaken nodes new place change → MayBegin may m nodes new
begins_taken may m nodes new place page Same lt read fits named taken = λ child others is some beside. (others, sym taken ∙ is)
begins_taken may m [] new place page (Moved other) lt read fits named taken = absurd (omega (arith, lt))
begins_taken may m (first ∷ rest) new zero page (Moved other) lt read fits named taken = λ child others is some beside.
    let whole : Entry other ∷ after_parts 1 (first ∷ rest) ≡ Entry child ∷ others = sym taken ∙ is in
    let same : other ≡ child = cc in
    let name : MayName may m page other = named other refl in
    let old : other ≡ page = name (subst (λ (p : ℕ). IsSome (m p)) (sym same) some) (λ x. beside (subst may same x)) in
    let here : first ≡ Entry child = sym (read first) ∙ ap (λ (p : ℕ). Entry p) (sym old ∙ same) in
    (rest, ap (λ (n : CutNode). n ∷ rest) here)
begins_taken may m (first ∷ rest) new (suc place) page (Moved other) lt read fits named taken = λ child others is some beside.
    let whole : first ∷ (take place rest ++ (Entry other ∷ after_parts 1 (drop place rest))) ≡ Entry child ∷ others = sym taken ∙ is in
    let same : first ≡ Entry child = cc in
    (rest, ap (λ (n : CutNode). n ∷ rest) same)
begins_taken may m [] new place page (Raised cut low high) lt read fits named taken = absurd (omega (arith, lt))
begins_taken may m (first ∷ rest) new zero page (Raised cut low high) lt read fits named taken = λ child others is some beside.
    let whole : cut ∷ Entry low ∷ Entry high ∷ rest ≡ Entry child ∷ others = sym taken ∙ is in
    let same : cut ≡ Entry child = cc in
    absurd (no_cut cut child fits.0 same)
begins_taken may m (first ∷ rest) new (suc place) page (Raised cut low high) lt read fits named taken = λ child others is some beside.
    let whole = sym taken ∙ is in
    let same : first ≡ Entry child = cc in
    (rest, ap (λ (n : CutNode). n ∷ rest) same)

-- ---- which entry stands for a page

-- the nodes of a page begin with no entry
pub no_first : (nodes before : List CutNode) (child : ℕ) → AreNodes nodes → 3 ≤ length nodes → nodes ≡ Entry child ∷ before → ⊥
no_first nodes [] child are many is =
    let long : length nodes ≡ 1 = ap (λ (ns : List CutNode). length ns) is in
    omega (arith, long, many)
no_first nodes (node ∷ before) child are many is =
    let filled : AreNodes (Entry child ∷ node ∷ before) = subst (λ (ns : List CutNode). AreNodes ns) is are in
    false≢true filled.filled

-- the nodes of a page began then with what an addition inside it left
pub named_alone : (a c : ℕ → Type 0) (m : PageMap) (nodes new : List CutNode) (page first : ℕ) → AreNodes nodes → 3 ≤ length nodes → MayBegin a m nodes new
    → (first ≡ page) ⊎ ((others : List CutNode) × (new ≡ Entry first ∷ others)) → ((p : ℕ) → a p → c p) → MayName c m page first
named_alone a c m nodes new page first are many begins alone more = λ some beside. elim alone [
  | inl same ↦ same
  | inr stood ↦
      let before = begins first stood.0 stood.1 some (λ x. beside (more first x)) in
      absurd (no_first nodes before.0 first are many before.1)
]
