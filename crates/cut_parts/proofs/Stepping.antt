-- Nodes of a page of cuts, walked one at a time.
use Rattle.std.proofs.Common.{◌≡◌, ℕ, zero, suc, ◌+◌, ◌-◌, ◌<◌, ◌≤◌, List, [], ◌∷◌, length, take, drop, get_or, refl, sym, ap, ◌∙◌, arith}
use Rattle.std.proofs.Math.Seq.{drop-cons}
use Rattle.bw_types.specs.declared.tree.Tree.{Tree}
use Rattle.page_layout.specs.CutPage.{IsCutPage, cut_count, cut_one}
use Rattle.page_layout.specs.CutPageLaws.{counts-add, entries-filled}
use Rattle.page_layout.specs.CutView.{border_of, cuts_before, step_of}
use Rattle.page_layout.specs.declared.cut_page.CutNode.{CutNode}
use Rattle.page_layout.specs.declared.cut_page.CutNode.TheVariants.{Entry, Cut}
use Rattle.page_layout.specs.declared.cut_page.CutPage.{CutPage}
use Rattle.page_layout.specs.declared.cut_view.CutStep.TheVariants.{Leads, Parts}
use Rattle.cut_parts.specs.Damage.{after_parts}
use Rattle.cut_parts.specs.Places.{IsPlace}

-- What a step says of its node.
pub entry_of_step : (node : CutNode) (child : ℕ) → Leads child ≡ step_of node → node ≡ Entry child
entry_of_step (Entry other) child h = cc
entry_of_step (Cut dimension key low border) child h = cc

pub cut_of_step : (node : CutNode) (dimension key low : ℕ) → Parts dimension key low ≡ step_of node → cut_one node ≡ 1
cut_of_step (Entry child) dimension key low h = cc
cut_of_step (Cut d k l border) dimension key low h = refl

pub cut_with_border : (node : CutNode) (dimension key low : ℕ) (border : Tree) → Parts dimension key low ≡ step_of node → border ≡ border_of node
    → node ≡ Cut dimension key low border
cut_with_border (Entry child) dimension key low border h is_border = cc
cut_with_border (Cut d k l other) dimension key low border h is_border = cc

-- One more node counts one more cut where it is one.
count_next : (place : ℕ) (nodes : List CutNode) (d : CutNode) → place < length nodes
    → cut_count (take (suc place) nodes) ≡ cut_one (get_or nodes place d) + cut_count (take place nodes)
count_next place [] d h = absurd (omega arith)
count_next zero (node ∷ nodes) d h = refl
count_next (suc place) (node ∷ nodes) d h =
    omega (arith, count_next place nodes d (omega arith))

pub next_place : (nodes : List CutNode) (place before next now : ℕ) (d : CutNode) → IsPlace nodes place before → place < length nodes
    → next ≡ place + 1 → now ≡ cut_one (get_or nodes place d) + before → IsPlace nodes next now
next_place nodes place before next now d at lt is_next is_now =
    let order : suc place ≡ next = omega (arith, is_next) in
    record {
      within = omega (arith, lt, is_next);
      before = omega (arith, is_now, at.before, count_next place nodes d lt) ∙ ap (λ (n : ℕ). cut_count (take n nodes)) order;
    }

pub first_node : (nodes : List CutNode) (place next : ℕ) (d node : CutNode) → place < length nodes → next ≡ place + 1 → get_or nodes place d ≡ node
    → drop place nodes ≡ node ∷ drop next nodes
first_node nodes place next d node lt is_next is_node =
    let order : suc place ≡ next = omega (arith, is_next) in
    drop-cons nodes place d lt ∙ ap (λ (n : ℕ). get_or nodes place d ∷ drop n nodes) order ∙ ap (λ (x : CutNode). x ∷ drop next nodes) is_node

-- So many cuts stand before a place in a page, whose nodes are at most 127.
pub few_before : (page : CutPage) (place before : ℕ) → IsCutPage page → IsPlace page.nodes.items place before → (before ≤ 127) × (length page.nodes.items ≤ 127)
few_before page place before rules at =
    let nodes : List CutNode = page.nodes.items in
    let sized = entries-filled 1 nodes rules.filled in
    (omega (arith, sized, rules.few, at.before, cuts_before place nodes, counts-add nodes), omega (arith, sized, rules.few))

-- How an entry and a cut change the number of parts that are still to be walked.
pub past_entry : (nodes total : List CutNode) (place parts : ℕ) (d : CutNode) (child : ℕ) → place < length nodes → 0 < parts
    → get_or nodes place d ≡ Entry child → after_parts parts (drop place nodes) ≡ total → after_parts (parts - 1) (drop (place + 1) nodes) ≡ total
past_entry nodes total place zero d child lt some is h = absurd (omega arith)
past_entry nodes total place (suc parts) d child lt some is h =
    let at : drop place nodes ≡ Entry child ∷ drop (place + 1) nodes = first_node nodes place (place + 1) d (Entry child) lt refl is in
    let less : suc parts - 1 ≡ parts = omega arith in
    ap (λ (n : ℕ). after_parts n (drop (place + 1) nodes)) less ∙ ap (λ (ns : List CutNode). after_parts (suc parts) ns) (sym at) ∙ h

pub past_cut : (nodes total : List CutNode) (place parts : ℕ) (node : CutNode) (d : CutNode) → place < length nodes → 0 < parts
    → get_or nodes place d ≡ node → cut_one node ≡ 1 → after_parts parts (drop place nodes) ≡ total → after_parts (parts + 1) (drop (place + 1) nodes) ≡ total
past_cut nodes total place zero node d lt some is is_cut h = absurd (omega arith)
past_cut nodes total place (suc parts) (Entry child) d lt some is is_cut h = absurd (omega (arith, is_cut))
past_cut nodes total place (suc parts) (Cut dimension key low border) d lt some is is_cut h =
    let node : CutNode = Cut dimension key low border in
    let at : drop place nodes ≡ node ∷ drop (place + 1) nodes = first_node nodes place (place + 1) d node lt refl is in
    let more : suc parts + 1 ≡ suc (suc parts) = omega arith in
    ap (λ (n : ℕ). after_parts n (drop (place + 1) nodes)) more ∙ ap (λ (ns : List CutNode). after_parts (suc parts) ns) (sym at) ∙ h

-- Where no part is left to be walked, or no node, the rest is what follows.
pub walked_all : (nodes total : List CutNode) (place parts : ℕ) → parts ≡ 0 → after_parts parts (drop place nodes) ≡ total → drop place nodes ≡ total
walked_all nodes total place parts none h = ap (λ (n : ℕ). after_parts n (drop place nodes)) (sym none) ∙ h

drop_all : (nodes : List CutNode) (place : ℕ) → length nodes ≤ place → drop place nodes ≡ []
drop_all [] zero h = refl
drop_all [] (suc place) h = refl
drop_all (node ∷ nodes) zero h = absurd (omega arith)
drop_all (node ∷ nodes) (suc place) h = drop_all nodes place (omega arith)

after_none : (parts : ℕ) → after_parts parts [] ≡ []
after_none zero = refl
after_none (suc parts) = refl

pub no_more_nodes : (nodes : List CutNode) (place : ℕ) → length nodes ≤ place → drop place nodes ≡ []
no_more_nodes nodes place h = drop_all nodes place h

pub walked_off : (nodes total : List CutNode) (place parts : ℕ) → length nodes ≤ place → after_parts parts (drop place nodes) ≡ total → drop place nodes ≡ total
walked_off nodes total place parts le h =
    drop_all nodes place le ∙ sym (after_none parts) ∙ ap (λ (ns : List CutNode). after_parts parts ns) (sym (drop_all nodes place le)) ∙ h
