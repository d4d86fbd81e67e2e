-- Nodes of a page of cuts, one at a time.
use Rattle.std.proofs.Common.{◌≡◌, ℕ, zero, suc, ◌+◌, ◌-◌, ◌*◌, ◌<◌, ◌≤◌, List, [], ◌∷◌, ◌++◌, length, take, drop, get_or, ◌/◌, Bool, false, refl, sym, ap, ◌∙◌, append_assoc, append-nil, arith, slice_index, IsTrue, All, ◌↔◌}
use Rattle.std.specs.Prelude.{if◌then◌else◌}
use Rattle.std.specs.List.{flat_map}
use Rattle.std.proofs.Math.Seq.{drop-cons}
use Rattle.std.proofs.lemmas.Bool.{ne_eqb}
use Rattle.bw_types.specs.declared.tree.Tree.{Tree}
use Rattle.page_layout.specs.declared.cut_page.CutNode.{CutNode}
use Rattle.page_layout.specs.declared.cut_page.CutNode.TheVariants.{Entry, Cut}
use Rattle.page_layout.specs.declared.cut_page.CutPage.{CutPage}
use Rattle.page_layout.specs.Numbers.{padded}
use Rattle.page_layout.specs.Counted.{front}
use Rattle.page_layout.specs.CutPage.{entry_count, cut_count, node_bytes, border_bytes, open_places, node_fits, IsCutPage, node_at, past_border, nodes_from}
use Rattle.page_layout.specs.CutPageLaws.{entries-filled}

pub no_place : (nodes : List CutNode) (places i : ℕ) (total : Bool) → i < length nodes → places ≡ 0 → open_places places (drop i nodes) ≡ total → false ≡ total
no_place nodes places i total lt none h =
    let d : CutNode = Entry 0 in
    let at : drop i nodes ≡ get_or nodes i d ∷ drop (suc i) nodes = drop-cons nodes i d lt in
    ap (λ (xs : List CutNode). open_places 0 xs) (sym at) ∙ ap (λ (n : ℕ). open_places n (drop i nodes)) (sym none) ∙ h

pub fill_entry : (nodes : List CutNode) (d : CutNode) (child places i : ℕ) (total : Bool) → i < length nodes → (places ≡ 0 → ⊥) → get_or nodes i d ≡ Entry child
    → open_places places (drop i nodes) ≡ total → open_places (places - 1) (drop (i + 1) nodes) ≡ total
fill_entry nodes d child zero i total lt some is h = absurd (some refl)
fill_entry nodes d child (suc places) i total lt some is h =
    let rest : List CutNode = drop (suc i) nodes in
    let at : drop i nodes ≡ Entry child ∷ rest = drop-cons nodes i d lt ∙ ap (λ (x : CutNode). x ∷ rest) is in
    let less : suc places - 1 ≡ places = omega arith in
    let next : i + 1 ≡ suc i = omega arith in
    ap (λ (n : ℕ). open_places n (drop (i + 1) nodes)) less
    ∙ ap (λ (n : ℕ). open_places places (drop n nodes)) next
    ∙ ap (λ (xs : List CutNode). open_places (suc places) xs) (sym at) ∙ h

pub fill_cut : (nodes : List CutNode) (d : CutNode) (dimension key low : ℕ) (border : Tree) (places i : ℕ) (total : Bool) → i < length nodes → (places ≡ 0 → ⊥)
    → get_or nodes i d ≡ Cut dimension key low border
    → open_places places (drop i nodes) ≡ total → open_places (places + 1) (drop (i + 1) nodes) ≡ total
fill_cut nodes d dimension key low border zero i total lt some is h = absurd (some refl)
fill_cut nodes d dimension key low border (suc places) i total lt some is h =
    let rest : List CutNode = drop (suc i) nodes in
    let at : drop i nodes ≡ Cut dimension key low border ∷ rest = drop-cons nodes i d lt ∙ ap (λ (x : CutNode). x ∷ rest) is in
    let more : suc places + 1 ≡ suc (suc places) = omega arith in
    let next : i + 1 ≡ suc i = omega arith in
    ap (λ (n : ℕ). open_places n (drop (i + 1) nodes)) more
    ∙ ap (λ (n : ℕ). open_places (suc (suc places)) (drop n nodes)) next
    ∙ ap (λ (xs : List CutNode). open_places (suc places) xs) (sym at) ∙ h

short : (n : ℕ) (xs : List ℕ) → length xs < n → [] ≡ drop n xs
short zero xs h = absurd (omega arith)
short (suc n) [] h = refl
short (suc n) (x ∷ xs) h = short n xs (omega arith)

pub past_short : (nodes borders : List ℕ) → (slice_index nodes 0 ≡ 0 → ⊥) → length borders < 28 → [] ≡ past_border nodes borders
past_short nodes borders other lt = short 28 borders lt ∙ ap (λ (t : Bool). if t then borders else drop 28 borders) (sym (ne_eqb (slice_index nodes 0) 0 other))

pub next_nodes : (front new : List CutNode) (x : CutNode) (count i : ℕ) (firsts rest firsts_left rest_left : List ℕ) (total : List CutNode) → i < count
    → new ≡ front ++ x ∷ [] → x ≡ node_at firsts rest → rest_left ≡ past_border firsts rest → firsts_left ≡ drop 16 firsts
    → front ++ nodes_from (count - i) firsts rest ≡ total → new ++ nodes_from (count - (i + 1)) firsts_left rest_left ≡ total
unfolding nodes_from
next_nodes front new x count i firsts rest firsts_left rest_left total lt is_new is_x is_rest is_firsts h =
    let k : count - i ≡ suc (count - (i + 1)) = omega arith in
    rw (is_new, is_x, is_rest, is_firsts) (append_assoc front (node_at firsts rest ∷ []) _ ∙ rw k at h)

pub no_more_nodes : (front : List CutNode) (count i : ℕ) (firsts rest : List ℕ) (total : List CutNode) → count ≤ i
    → front ++ nodes_from (count - i) firsts rest ≡ total → front ≡ total
unfolding nodes_from
no_more_nodes front count i firsts rest total le h =
    let k : count - i ≡ 0 = omega arith in
    sym (append-nil front) ∙ rw k at h

-- Where the nodes fill one place and are not too few or too many, it is left to each of them whether they keep the rules.
pub ruled : (page : CutPage) → 3 ≤ length page.nodes.items → length page.nodes.items ≤ 127 → IsTrue (open_places 1 page.nodes.items)
    → All (λ node. IsTrue (node_fits node)) page.nodes.items ↔ IsCutPage page
ruled page some few filled =
    let sized = entries-filled 1 page.nodes.items filled in
    (λ each. record { some = omega (arith, sized); few = omega (arith, sized); filled = filled; nodes = each }, λ p. p.nodes)

half : (m n : ℕ) → m + 1 ≡ 2 * n → (m + 1) / 2 ≡ n
half m n h = omega (arith, h)

-- What is written in turn is the page: the front, the nodes, their borders and zeros.
pub written : (nodes items : List CutNode) → nodes ≡ items → IsTrue (open_places 1 items) → (p0 p1 p2 p3 : List ℕ) (end : ℕ)
    → take 16 p0 ≡ front 11 0 ((length nodes + 1) / 2) 0 0
    → take (16 + length nodes * 16) p1 ≡ take 16 p0 ++ flat_map node_bytes nodes
    → end ≡ (16 + length nodes * 16) + cut_count nodes * 28
    → take ((16 + length nodes * 16) + cut_count nodes * 28) p2 ≡ take (16 + length nodes * 16) p1 ++ flat_map border_bytes nodes
    → p3 ≡ padded (take end p2)
    → p3 ≡ padded (front 11 0 (entry_count items) 0 0 ++ (flat_map node_bytes items ++ flat_map border_bytes items))
written nodes items same filled p0 p1 p2 p3 end h0 h1 is_end h2 h3 =
    let firsts : List ℕ = flat_map node_bytes nodes in
    let borders : List ℕ = flat_map border_bytes nodes in
    let sized : length nodes + 1 ≡ 2 * entry_count nodes = ap (λ (ns : List CutNode). length ns + 1) same ∙ entries-filled 1 items filled ∙ ap (λ (ns : List CutNode). 2 * entry_count ns) (sym same) in
    let count : (length nodes + 1) / 2 ≡ entry_count nodes = half (length nodes) (entry_count nodes) sized in
    h3 ∙ ap (λ (n : ℕ). padded (take n p2)) is_end ∙ ap padded h2
    ∙ ap (λ (b : List ℕ). padded (b ++ borders)) h1
    ∙ ap (λ (b : List ℕ). padded ((b ++ firsts) ++ borders)) h0
    ∙ ap (λ (n : ℕ). padded ((front 11 0 n 0 0 ++ firsts) ++ borders)) count
    ∙ ap padded (append_assoc (front 11 0 (entry_count nodes) 0 0) firsts borders)
    ∙ ap (λ (ns : List CutNode). padded (front 11 0 (entry_count ns) 0 0 ++ (flat_map node_bytes ns ++ flat_map border_bytes ns))) same
