use Rattle.std.proofs.Common.{rules, ap, sym, subst, ◌∙◌, ◌≡◌, ◌++◌, ◌∷◌, ◌-◌, ◌<◌, List, ℕ, length, IsTrue, Ok, Err, true, false, arith}
use Rattle.std.specs.Prelude.{IsPermutation}
use Rattle.std.proofs.lemmas.Bool.{false≢true}
use Rattle.bw_types.specs.declared.point.Point.{Point}
use Rattle.ports.specs.Pages.{PageMap}
use Rattle.ports.specs.declared.page.PageFault.{PageFault}
use Rattle.page_layout.specs.declared.cut_page.CutNode.{CutNode}
use Rattle.page_layout.specs.declared.cut_page.CutNode.TheVariants.{Entry, Cut}
use Rattle.cut_parts.specs.Damage.{after_parts}
use Rattle.cut_parts.specs.Standing.{PartBalanced, PartStands}
use Rattle.image_check.specs.Walked.{AreLow, BeginWalked, BeginWithNone}
use Rattle.image_check.proofs.Cuts.{first_node}
use Rattle.image_check.proofs.Walks.{border_refused, cut_walked, empty_refused, entry_refused, entry_walked, high_refused, highs_refused, leaf_refused, leaf_walked, low_refused, no_page, page_refused, page_walked, sliced, sound_refused}
use Rattle.image_check.proofs.walking.+walks.Goals as goal

pub walk_cut-returns-then-not-is_sound-clause-none : goal.walk_cut-returns-then-not-is_sound-clause-none
walk_cut-returns-then-not-is_sound-clause-none g t c = λ e tells part rest nodes_are inside stands balance.
    let b = g.B.BorderTree in
    let m : PageMap = g.P.Pages.map c.args.pages.now in
    let begun : Cut c.in-Cut.dimension c.in-Cut.key c.in-Cut.low c.in-Cut.border ∷ c.in-Some.rest.now ≡ c.args.nodes.now = search rules in
    sound_refused b c.laws_of_borders.ensures.laws m c.args.count c.in-Cut.dimension c.in-Cut.key c.in-Cut.low c.in-Cut.border c.args.nodes.now c.in-Some.rest.now begun
    (λ sound. let yes : c.is_sound.result ≡ true = c.is_sound.ensures.1 sound in let wrong : c.is_sound.result ≡ false = c.if-not-is_sound.true in false≢true (sym wrong ∙ yes)) part rest nodes_are stands balance

pub walk_cut-returns-then-not-branch-clause-none : goal.walk_cut-returns-then-not-branch-clause-none
walk_cut-returns-then-not-branch-clause-none g t c = λ e tells part rest nodes_are inside stands balance.
    let b = g.B.BorderTree in
    let m : PageMap = g.P.Pages.map c.args.pages.now in
    let begun : Cut c.in-Cut.dimension c.in-Cut.key c.in-Cut.low c.in-Cut.border ∷ c.in-Some.rest.now ≡ c.args.nodes.now = search rules in
    low_refused b c.laws_of_borders.ensures.laws m c.args.count c.in-Cut.dimension c.in-Cut.key c.in-Cut.low c.in-Cut.border c.args.nodes.now c.in-Some.rest.now begun
    (c.in_ok-walk_nodes.ensures.none (ap Ok c.if-not-branch.true) tells) part rest nodes_are stands balance

pub walk_cut-returns-then-not-branch-2-clause-none : goal.walk_cut-returns-then-not-branch-2-clause-none
walk_cut-returns-then-not-branch-2-clause-none g t c = λ e tells part rest nodes_are inside stands balance.
    let b = g.B.BorderTree in
    let m : PageMap = g.P.Pages.map c.args.pages.now in
    let begun : Cut c.in-Cut.dimension c.in-Cut.key c.in-Cut.low c.in-Cut.border ∷ c.in-Some.rest.now ≡ c.args.nodes.now = search rules in
    let read = c.in_ok-walk_nodes.ensures.reads.read in
    let old : List Point = c.args.found.now.items in
    let mid : List Point = c.walk_nodes.new.found.items in
    let lows : List Point = c.behind-lows.result.now in
    border_refused b c.laws_of_borders.ensures.laws m c.args.count c.in-Cut.dimension c.in-Cut.key c.in-Cut.low c.in-Cut.border c.args.nodes.now c.in-Some.rest.now begun
    old mid c.args.named.now.items c.walk_nodes.new.named.items c.len-before.result lows (search rules)
    (sliced c.len-before.result lows c.as_slice.result.now mid c.behind-lows.ensures c.as_slice.ensures.value)
    (c.in_ok-walk_nodes.ensures.walked (ap Ok c.if-not-branch.false) tells)
    (λ low.
    let wrong : c.in_ok-are_low.field-0 ≡ false = c.if-not-branch-2.true in
    let yes : c.in_ok-are_low.field-0 ≡ true = (c.in_ok-are_low.ensures.low (read.tells ∙ tells)).1
    (subst (λ (a : PageMap). AreLow b a c.in-Cut.dimension c.in-Cut.key c.in-Cut.low c.in-Cut.border lows) (sym read.map) low) in
    false≢true (sym wrong ∙ yes))
    part rest nodes_are stands balance

pub walk_cut-returns-then-not-branch-3-clause-none : goal.walk_cut-returns-then-not-branch-3-clause-none
walk_cut-returns-then-not-branch-3-clause-none g t c = λ e tells part rest nodes_are inside stands balance.
    let b = g.B.BorderTree in
    let m : PageMap = g.P.Pages.map c.args.pages.now in
    let begun : Cut c.in-Cut.dimension c.in-Cut.key c.in-Cut.low c.in-Cut.border ∷ c.in-Some.rest.now ≡ c.args.nodes.now = search rules in
    let first = c.in_ok-walk_nodes.ensures.reads.read in
    let second = c.in_ok-are_low.ensures.reads.read in
    let rest_of : ℕ = c.args.count - c.in-Cut.low in
    let none : BeginWithNone b (g.P.Pages.map c.are_low.new.pages) rest_of c.after_part-high.result.now =
    c.in_ok-walk_nodes-2.ensures.none (ap Ok c.if-not-branch-3.true) (second.tells ∙ (first.tells ∙ tells)) in
    high_refused b c.laws_of_borders.ensures.laws m c.args.count c.in-Cut.dimension c.in-Cut.key c.in-Cut.low c.in-Cut.border c.args.nodes.now c.in-Some.rest.now begun
    (subst (λ (ns : List CutNode). BeginWithNone b m rest_of ns) c.after_part-high.ensures
    (subst (λ (a : PageMap). BeginWithNone b a rest_of c.after_part-high.result.now) (second.map ∙ first.map) none))
    part rest nodes_are stands balance

pub walk_cut-returns-clause-walked : goal.walk_cut-returns-clause-walked
walk_cut-returns-clause-walked g t c = λ e tells.
    let b = g.B.BorderTree in
    let m : PageMap = g.P.Pages.map c.args.pages.now in
    let begun : Cut c.in-Cut.dimension c.in-Cut.key c.in-Cut.low c.in-Cut.border ∷ c.in-Some.rest.now ≡ c.args.nodes.now = search rules in
    let sound = c.is_sound.ensures.0 c.if-not-is_sound.false in
    let first = c.in_ok-walk_nodes.ensures.reads.read in
    let second = c.in_ok-are_low.ensures.reads.read in
    let rest_of : ℕ = c.args.count - c.in-Cut.low in
    let old : List Point = c.args.found.now.items in
    let mid : List Point = c.walk_nodes.new.found.items in
    let new : List Point = c.walk_nodes-2.new.found.items in
    let names : List ℕ = c.args.named.now.items in
    let names_1 : List ℕ = c.walk_nodes.new.named.items in
    let names_2 : List ℕ = c.are_low.new.named.items in
    let names_3 : List ℕ = c.walk_nodes-2.new.named.items in
    let lows : List Point = c.behind-lows.result.now in
    let low : AreLow b m c.in-Cut.dimension c.in-Cut.key c.in-Cut.low c.in-Cut.border lows =
    subst (λ (a : PageMap). AreLow b a c.in-Cut.dimension c.in-Cut.key c.in-Cut.low c.in-Cut.border lows) first.map
    ((c.in_ok-are_low.ensures.low (first.tells ∙ tells)).0 c.if-not-branch-2.false) in
    let border : IsPermutation (names_1 ++ b.footprint m c.in-Cut.border) names_2 =
    subst (λ (a : PageMap). IsPermutation (names_1 ++ b.footprint a c.in-Cut.border) names_2) first.map
    (c.in_ok-are_low.ensures.named (ap Ok c.if-not-branch-2.false) (first.tells ∙ tells) sound.few) in
    let there : BeginWalked b (g.P.Pages.map c.are_low.new.pages) rest_of c.after_part-high.result.now mid new names_2 names_3 =
    c.in_ok-walk_nodes-2.ensures.walked (ap Ok c.if-not-branch-3.false) (second.tells ∙ (first.tells ∙ tells)) in
    let high : BeginWalked b m rest_of (after_parts 1 c.in-Some.rest.now) mid new names_2 names_3 =
    subst (λ (ns : List CutNode). BeginWalked b m rest_of ns mid new names_2 names_3) c.after_part-high.ensures
    (subst (λ (a : PageMap). BeginWalked b a rest_of c.after_part-high.result.now mid new names_2 names_3) (second.map ∙ first.map) there) in
    let yes : IsTrue c.are_high.result = cc in
    cut_walked b c.laws_of_borders.ensures.laws m c.args.count c.in-Cut.dimension c.in-Cut.key c.in-Cut.low c.in-Cut.border c.args.nodes.now c.in-Some.rest.now begun
    old mid new names names_1 names_2 names_3 c.len-before.result c.len-middle.result lows c.behind-highs.result.now sound (search rules)
    (sliced c.len-before.result lows c.as_slice.result.now mid c.behind-lows.ensures c.as_slice.ensures.value) (search rules)
    (sliced c.len-middle.result c.behind-highs.result.now c.as_slice-2.result.now new c.behind-highs.ensures c.as_slice-2.ensures.value)
    (c.in_ok-walk_nodes.ensures.walked (ap Ok c.if-not-branch.false) tells) low border high (c.are_high.ensures.0 yes)

pub walk_cut-returns-clause-none : goal.walk_cut-returns-clause-none
walk_cut-returns-clause-none g t c = λ e tells part rest nodes_are inside stands balance.
    let b = g.B.BorderTree in
    let m : PageMap = g.P.Pages.map c.args.pages.now in
    let begun : Cut c.in-Cut.dimension c.in-Cut.key c.in-Cut.low c.in-Cut.border ∷ c.in-Some.rest.now ≡ c.args.nodes.now = search rules in
    let first = c.in_ok-walk_nodes.ensures.reads.read in
    let second = c.in_ok-are_low.ensures.reads.read in
    let rest_of : ℕ = c.args.count - c.in-Cut.low in
    let mid : List Point = c.walk_nodes.new.found.items in
    let new : List Point = c.walk_nodes-2.new.found.items in
    let names_2 : List ℕ = c.are_low.new.named.items in
    let names_3 : List ℕ = c.walk_nodes-2.new.named.items in
    let there : BeginWalked b (g.P.Pages.map c.are_low.new.pages) rest_of c.after_part-high.result.now mid new names_2 names_3 =
    c.in_ok-walk_nodes-2.ensures.walked (ap Ok c.if-not-branch-3.false) (second.tells ∙ (first.tells ∙ tells)) in
    let high : BeginWalked b m rest_of (after_parts 1 c.in-Some.rest.now) mid new names_2 names_3 =
    subst (λ (ns : List CutNode). BeginWalked b m rest_of ns mid new names_2 names_3) c.after_part-high.ensures
    (subst (λ (a : PageMap). BeginWalked b a rest_of c.after_part-high.result.now mid new names_2 names_3) (second.map ∙ first.map) there) in
    highs_refused b c.laws_of_borders.ensures.laws m c.args.count c.in-Cut.dimension c.in-Cut.key c.in-Cut.low c.in-Cut.border c.args.nodes.now c.in-Some.rest.now begun
    mid new names_2 names_3 c.len-middle.result c.behind-highs.result.now (search rules)
    (sliced c.len-middle.result c.behind-highs.result.now c.as_slice-2.result.now new c.behind-highs.ensures c.as_slice-2.ensures.value) high
    (λ points. let yes : IsTrue c.are_high.result = c.are_high.ensures.1 points in absurd cc)
    part rest nodes_are stands balance

pub walk_nodes-returns-in-None-clause-none : goal.walk_nodes-returns-in-None-clause-none
walk_nodes-returns-in-None-clause-none g t c = λ e tells.
    let zero : length c.args.nodes.now ≡ 0 = search rules in
    empty_refused g.B.BorderTree (g.P.Pages.map c.args.pages.now) c.args.count c.args.nodes.now zero

pub walk_nodes-returns-in-Some-Entry-clause-walked : goal.walk_nodes-returns-in-Some-Entry-clause-walked
walk_nodes-returns-in-Some-Entry-clause-walked g t c = λ e tells.
    let first = first_node c.args.nodes.now (Entry c.in-Some-Entry.child) (search rules) (search rules) in
    entry_walked g.B.BorderTree (g.P.Pages.map c.args.pages.now) c.args.count c.in-Some-Entry.child c.args.nodes.now first.0
    c.args.found.now.items c.walk_page.new.found.items c.args.named.now.items c.walk_page.new.named.items first.1 (c.walk_page.ensures.walked e tells)

pub walk_nodes-returns-in-Some-Entry-clause-none : goal.walk_nodes-returns-in-Some-Entry-clause-none
walk_nodes-returns-in-Some-Entry-clause-none g t c = λ e tells.
    let first = first_node c.args.nodes.now (Entry c.in-Some-Entry.child) (search rules) (search rules) in
    entry_refused g.B.BorderTree (g.P.Pages.map c.args.pages.now) c.args.count c.in-Some-Entry.child c.args.nodes.now first.0 first.1 (c.walk_page.ensures.none e tells)

pub walk_page-returns-then-count-le64-clause-walked : goal.walk_page-returns-then-count-le64-clause-walked
walk_page-returns-then-count-le64-clause-walked g t c = λ e tells.
    let k = c.walk_leaf.ensures.walked e tells in
    leaf_walked g.B.BorderTree (g.P.Pages.map c.args.pages.now) c.args.count c.args.page k.0 c.args.found.now.items c.walk_leaf.new.found.items
    c.args.named.now.items c.push_page.new.named.items c.if-count-le64.true k.1 k.2 k.3 k.4 k.5 c.in_ok-push_page.ensures

pub walk_page-returns-then-count-le64-clause-none : goal.walk_page-returns-then-count-le64-clause-none
walk_page-returns-then-count-le64-clause-none g t c = λ e tells.
    leaf_refused g.B.BorderTree (g.P.Pages.map c.args.pages.now) c.args.count c.args.page c.if-count-le64.true (c.walk_leaf.ensures.none e tells)

pub walk_page-returns-in-Err-Damaged-clause-none : goal.walk_page-returns-in-Err-Damaged-clause-none
walk_page-returns-in-Err-Damaged-clause-none g t c = λ e tells.
    let why = c.read_cuts.ensures.damaged c.in-Err-Damaged.field-0-0 (c.in-Err-Damaged.is ∙ ap (λ (fault : PageFault). Err fault) c.in-Err-Damaged.field-0-is) in
    no_page g.B.BorderTree (g.P.Pages.map c.args.pages.now) c.args.count c.args.page (omega (arith, c.if-count-le64.false)) (why.1 tells)

pub walk_page-returns-in-Ok-clause-walked : goal.walk_page-returns-in-Ok-clause-walked
walk_page-returns-in-Ok-clause-walked g t c = λ e tells.
    let b = g.B.BorderTree in
    let m : PageMap = g.P.Pages.map c.args.pages.now in
    let n : ℕ = c.args.count in
    let read = c.in-Ok.ensures.reads.read in
    let nodes : List CutNode = c.read_cuts.new.cuts.nodes.items in
    let old : List Point = c.args.found.now.items in
    let new : List Point = c.walk_cut.new.found.items in
    let between : List ℕ = c.push_page.new.named.items in
    let after : List ℕ = c.walk_cut.new.named.items in
    let there : BeginWalked b (g.P.Pages.map c.read_cuts.new.pages) n c.as_slice.result.now old new between after = c.walk_cut.ensures.walked e (read.tells ∙ tells) in
    page_walked b m n c.args.page nodes old new c.args.named.now.items between after (c.in-Ok.ensures.found tells) c.in-Ok.ensures.nodes c.in-Ok.ensures.many.0 c.in_ok-push_page.ensures
    (subst (λ (ns : List CutNode). BeginWalked b m n ns old new between after) c.as_slice.ensures.value
    (subst (λ (a : PageMap). BeginWalked b a n c.as_slice.result.now old new between after) read.map there))

pub walk_page-returns-in-Ok-clause-none : goal.walk_page-returns-in-Ok-clause-none
walk_page-returns-in-Ok-clause-none g t c = λ e tells.
    let b = g.B.BorderTree in
    let m : PageMap = g.P.Pages.map c.args.pages.now in
    let n : ℕ = c.args.count in
    let read = c.in-Ok.ensures.reads.read in
    let nodes : List CutNode = c.read_cuts.new.cuts.nodes.items in
    let many : 64 < n = omega (arith, c.if-count-le64.false) in
    page_refused b m n c.args.page nodes many (c.in-Ok.ensures.found tells)
    (λ part rest nodes_are inside stands balance. c.walk_cut.ensures.none e (read.tells ∙ tells) part rest (c.as_slice.ensures.value ∙ nodes_are) inside
    (subst (λ (a : PageMap). PartStands b a n part) (sym read.map) stands) (subst (λ (a : PageMap). PartBalanced b a part) (sym read.map) balance))
