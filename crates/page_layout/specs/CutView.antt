-- Pages of cuts that have borders, read in place.
use Rattle.std.specs.Prelude.{◌≡◌, ℕ, zero, suc, ◌+◌, ◌-◌, ◌*◌, ◌<◌, ◌≤◌, List, [], ◌∷◌, length, take, drop, get_or, slice_index, Bool, true, false, ◌==◌, if◌then◌else◌, refl}
use Rattle.std.proofs.Common.{sym, ap, ◌∙◌, subst, arith}
use Rattle.std.proofs.lemmas.List.{drop-drop}
use Rattle.bw_types.specs.declared.tree.Tree.{Tree}
use Rattle.page_layout.specs.Numbers.{number_in}
use Rattle.page_layout.specs.Counted.{body_of}
use Rattle.page_layout.specs.declared.cut_page.CutNode.{CutNode}
use Rattle.page_layout.specs.declared.cut_page.CutNode.TheVariants.{Entry, Cut}
use Rattle.page_layout.specs.declared.cut_page.CutPage.{CutPage}
use Rattle.page_layout.specs.declared.cut_view.CutStep.{CutStep}
use Rattle.page_layout.specs.declared.cut_view.CutStep.TheVariants.{Leads, Parts}
use Rattle.page_layout.specs.CutPageLaws.{has_room}
use Rattle.page_layout.specs.CutPage.{IsCutPage, cut_count, cut_one, no_tree, border_at, node_at, past_border, nodes_from, count_in, cut_page_in}

-- a node without its border
abbrev pub step_of : CutNode → CutStep
step_of (Entry child) = Leads child
step_of (Cut dimension key low border) = Parts dimension key low

-- the border of a cut
abbrev pub border_of : CutNode → Tree
border_of (Entry child) = no_tree
border_of (Cut dimension key low border) = border

-- what the first 16 bytes may spell
abbrev pub step_at : List ℕ → CutStep
step_at bytes =
    if slice_index bytes 0 == 0 then Leads (number_in 8 (drop 8 bytes))
    else Parts (slice_index bytes 1) (number_in 8 (drop 8 bytes)) (number_in 4 (drop 4 bytes))

step_if : (test : Bool) (child dimension key low : ℕ) (border : Tree)
    → (if test then Leads child else Parts dimension key low) ≡ step_of (if test then Entry child else Cut dimension key low border)
step_if true child dimension key low border = refl
step_if false child dimension key low border = refl

border_if : (test : Bool) (child dimension key low : ℕ) (border : Tree) → cut_one (if test then Entry child else Cut dimension key low border) ≡ 1
    → border ≡ border_of (if test then Entry child else Cut dimension key low border)
border_if true child dimension key low border h = absurd (omega (arith, h))
border_if false child dimension key low border h = refl

past_if : (test : Bool) (child dimension key low : ℕ) (border : Tree) (k : ℕ) (b : List ℕ)
    → drop (k * 28) (if test then b else drop 28 b) ≡ drop ((cut_one (if test then Entry child else Cut dimension key low border) + k) * 28) b
past_if true child dimension key low border k b =
    let order : k * 28 ≡ (0 + k) * 28 = omega arith in
    ap (λ (n : ℕ). drop n b) order
past_if false child dimension key low border k b =
    let order : 28 + k * 28 ≡ (1 + k) * 28 = omega arith in
    drop-drop (k * 28) 28 b ∙ ap (λ (n : ℕ). drop n b) order

pub length-nodes_from : (n : ℕ) (a b : List ℕ) → length (nodes_from n a b) ≡ n
unfolding nodes_from
length-nodes_from zero a b = refl
length-nodes_from (suc n) a b = ap suc (length-nodes_from n (drop 16 a) (past_border a b))

-- The node at a place has the border that follows those of the cuts before it.
pub node_place : (n : ℕ) (a b : List ℕ) (i : ℕ) (d : CutNode) → i < n
    → get_or (nodes_from n a b) i d ≡ node_at (drop (i * 16) a) (drop (cut_count (take i (nodes_from n a b)) * 28) b)
unfolding nodes_from
node_place zero a b i d h = absurd (omega arith)
node_place (suc n) a b zero d h = refl
node_place (suc n) a b (suc i) d h =
    let rest : List CutNode = nodes_from n (drop 16 a) (past_border a b) in
    let order : 16 + i * 16 ≡ suc i * 16 = omega arith in
    let first : drop (i * 16) (drop 16 a) ≡ drop (suc i * 16) a = drop-drop (i * 16) 16 a ∙ ap (λ (k : ℕ). drop k a) order in
    let second : drop (cut_count (take i rest) * 28) (past_border a b) ≡ drop ((cut_one (node_at a b) + cut_count (take i rest)) * 28) b =
    past_if (slice_index a 0 == 0) (number_in 8 (drop 8 a)) (slice_index a 1) (number_in 8 (drop 8 a)) (number_in 4 (drop 4 a)) (border_at b) (cut_count (take i rest)) b in
    node_place n (drop 16 a) (past_border a b) i d (omega arith) ∙ (λ j. node_at (first j) (second j))

pub cuts_before : (i : ℕ) (nodes : List CutNode) → cut_count (take i nodes) ≤ cut_count nodes
cuts_before zero nodes = omega arith
cuts_before (suc i) [] = omega arith
cuts_before (suc i) (node ∷ nodes) = omega (arith, cuts_before i nodes)

pub length-its_nodes : (page : List ℕ) → length (cut_page_in page).nodes.items ≡ 2 * count_in page - 1
length-its_nodes page = length-nodes_from (2 * count_in page - 1) (body_of page) (drop ((2 * count_in page - 1) * 16) (body_of page))

its_place : (page : List ℕ) (value : CutPage) (place : ℕ) → cut_page_in page ≡ value → place < length value.nodes.items → (d : CutNode)
    → node_at (drop (place * 16) (body_of page)) (drop (cut_count (take place value.nodes.items) * 28) (drop ((2 * count_in page - 1) * 16) (body_of page))) ≡ get_or value.nodes.items place d
its_place page value place is_value lt d =
    let n : ℕ = 2 * count_in page - 1 in
    let within : place < length (cut_page_in page).nodes.items = subst (λ (v : CutPage). place < length v.nodes.items) (sym is_value) lt in
    let there = node_place n (body_of page) (drop (n * 16) (body_of page)) place d (omega (arith, within, length-its_nodes page)) in
    ap (λ (v : CutPage). node_at (drop (place * 16) (body_of page)) (drop (cut_count (take place v.nodes.items) * 28) (drop (n * 16) (body_of page)))) (sym is_value)
    ∙ sym there ∙ ap (λ (v : CutPage). get_or v.nodes.items place d) is_value

pub step_on : (page : List ℕ) (value : CutPage) (place : ℕ) (step : CutStep) → cut_page_in page ≡ value → place < length value.nodes.items
    → step ≡ step_at (drop (place * 16) (body_of page)) → (d : CutNode) → step ≡ step_of (get_or value.nodes.items place d)
step_on page value place step is_value lt is_step d =
    let a : List ℕ = drop (place * 16) (body_of page) in
    let b : List ℕ = drop (cut_count (take place value.nodes.items) * 28) (drop ((2 * count_in page - 1) * 16) (body_of page)) in
    is_step ∙ step_if (slice_index a 0 == 0) (number_in 8 (drop 8 a)) (slice_index a 1) (number_in 8 (drop 8 a)) (number_in 4 (drop 4 a)) (border_at b)
    ∙ ap step_of (its_place page value place is_value lt d)

pub border_on : (page : List ℕ) (value : CutPage) (place before at : ℕ) (border : Tree) → cut_page_in page ≡ value → place < length value.nodes.items
    → before ≡ cut_count (take place value.nodes.items) → at ≡ 16 + (2 * count_in page - 1) * 16 + before * 28 → border ≡ border_at (drop at page)
    → (d : CutNode) → cut_one (get_or value.nodes.items place d) ≡ 1 → border ≡ border_of (get_or value.nodes.items place d)
border_on page value place before at border is_value lt is_before is_at is_border d is_cut =
    let n : ℕ = (2 * count_in page - 1) * 16 in
    let k : ℕ = cut_count (take place value.nodes.items) * 28 in
    let a : List ℕ = drop (place * 16) (body_of page) in
    let b : List ℕ = drop k (drop n (body_of page)) in
    let order : at ≡ 16 + (n + k) = omega (arith, is_at, is_before) in
    let there : drop at page ≡ b = ap (λ (m : ℕ). drop m page) order ∙ sym (drop-drop (n + k) 16 page) ∙ sym (drop-drop k n (drop 16 page)) in
    let node = its_place page value place is_value lt d in
    is_border ∙ ap border_at there
    ∙ border_if (slice_index a 0 == 0) (number_in 8 (drop 8 a)) (slice_index a 1) (number_in 8 (drop 8 a)) (number_in 4 (drop 4 a)) (border_at b) (ap cut_one node ∙ is_cut)
    ∙ ap border_of node

-- A page that keeps its rules has room for the border of a cut.
pub border_room : (page : List ℕ) (value : CutPage) (place before nodes : ℕ) → cut_page_in page ≡ value → IsCutPage value
    → before ≡ cut_count (take place value.nodes.items) → nodes ≡ 2 * count_in page - 1 → 16 + nodes * 16 + before * 28 ≤ 4096
border_room page value place before nodes is_value keeps is_before is_nodes =
    let len : length value.nodes.items ≡ 2 * count_in page - 1 = ap (λ (v : CutPage). length v.nodes.items) (sym is_value) ∙ length-its_nodes page in
    omega (arith, len, is_before, is_nodes, cuts_before place value.nodes.items, has_room value keeps)
