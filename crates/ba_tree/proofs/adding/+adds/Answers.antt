use Rattle.std.proofs.Common.{◌≡◌, ◌+◌, ◌-◌, ◌<◌, ◌≤◌, ◌⊎◌, ◌∷◌, [], ℕ, List, length, None, refl, sym, ap, ◌∙◌, subst, arith, IsSome, slice_index, Option, get_or, drop, Err, inl, inr, rules}
use Rattle.std.specs.Prelude.{IfSome}
use Rattle.std.proofs.lemmas.Bool.{false≢true}
use Rattle.bw_types.specs.Without.{without_dimension}
use Rattle.ports.specs.Pages.{PageMap}
use Rattle.ports.specs.declared.page.StageFault.{StageFault}
use Rattle.ports.specs.declared.page.StageFault.TheVariants.{Damaged}
use Rattle.page_layout.specs.declared.cut_page.CutNode.{CutNode}
use Rattle.page_layout.specs.declared.cut_page.CutNode.TheVariants.{Cut, Entry}
use Rattle.cut_parts.specs.Parts.{IsBalancedCut, points_of}
use Rattle.cut_parts.specs.Borders.{OthersStay}
use Rattle.cut_parts.specs.Damage.{BeforeCut, BeforePage, BeforePart}
use Rattle.cut_parts.specs.Reach.{ChangesAt, GoesHigh, GoesLow, IsDamagedAnew, IsDamagedAt, IsDamagedAtBorder, IsDamagedFrom, IsMadeAnew, IsOfPartThere, LeadsFrom}
use Rattle.cut_parts.specs.Spelling.{first_page}
use Rattle.cut_parts.specs.Standing.{PartBalanced, part_pages}
use Rattle.page_layout.specs.Footprint.{NamesNoneTwice}
use Rattle.ba_tree.specs.Additions.{IsAddedAs, MayBegin, MayTake, nodes_after}
use Rattle.ba_tree.specs.Growing.{border_growth, inner_growth, page_growth}
use Rattle.ba_tree.specs.declared.change.Change.{Change}
use Rattle.cut_parts.proofs.Staying.{stay_more, stay_then}
use Rattle.ba_tree.proofs.Coming.{behind_set, comes_at_cut, comes_cut, comes_entry, comes_here, comes_high, comes_in, comes_low, comes_no_cut, comes_no_node, comes_none, goes_anew, node_first, none_from, stay_at}
use Rattle.ba_tree.proofs.Begun.{leaf_held}
use Rattle.ba_tree.proofs.Going.{well_as, well_then, went_then}
use Rattle.ba_tree.proofs.Growing.{CutAt, cut_at, entry_taken, leaf_cut, leaf_grown, went_high, went_low}
use Rattle.ba_tree.proofs.Naming.{begins_low, begins_more, begins_taken, named_alone}
use Rattle.ba_tree.proofs.NewPoints.{with_new}
use Rattle.ba_tree.proofs.Numbers.{anew_number, high_number, inner_number, leaf_number, low_number, page_number}
use Rattle.ba_tree.proofs.OnTheWay.{after_low, begins_with, border_balanced, cut_many, cut_sound, high_side, is_inside, is_within, low_side, no_entry, takes_border}
use Rattle.ba_tree.proofs.Pieces.{grown_in_page, in_page, page_stored}
use Rattle.ba_tree.proofs.Within.{some_there}
use Rattle.ba_tree.proofs.adding.+adds.Goals.{cut_add-then-goes_low, cut_add-else-goes_low}
use Rattle.ba_tree.proofs.adding.+adds.Goals as goal

pub cut_add-returns-in_default-clause-well : goal.cut_add-returns-in_default-clause-well
cut_add-returns-in_default-clause-well g t c = λ tells part front rest is at take inside balanced.
    let b = g.B.BorderTree in
    let m0 : PageMap = g.S.Pages.map c.args.stage.now in
    let nodes : List CutNode = c.args.cuts.now.nodes.items in
    let n : ℕ = c.args.count in
    let p = c.args.point.now in
    let node : (c.args.place < length nodes) × ((d : CutNode) → c.in_default.field-0 ≡ get_or nodes c.args.place d) =
    subst (λ (o : Option CutNode). IfSome o (λ node. (c.args.place < length nodes) × ((d : CutNode) → node ≡ get_or nodes c.args.place d))) c.in_default.is c.node_at.ensures.node in
    let entry : (child : ℕ) × (c.in_default.field-0 ≡ Entry child) = search rules in
    absurd (no_entry part nodes front rest c.args.place entry.0 is at node.0 (λ d. sym entry.1 ∙ node.1 d) inside)

pub cut_add-returns-then-not-is_sound-clause-well : goal.cut_add-returns-then-not-is_sound-clause-well
cut_add-returns-then-not-is_sound-clause-well g t c = λ tells part front rest is at take inside balanced.
    let b = g.B.BorderTree in
    let m0 : PageMap = g.S.Pages.map c.args.stage.now in
    let nodes : List CutNode = c.args.cuts.now.nodes.items in
    let n : ℕ = c.args.count in
    let p = c.args.point.now in
    let laws = c.border_laws.ensures.laws in
    let cut = c.in-Some-Cut in
    let found : CutAt part nodes front rest c.args.place cut.dimension cut.key cut.low cut.border =
    cut_at part nodes front rest c.args.place cut.dimension cut.key cut.low cut.border is at cut.ensures.node.0 (λ d. sym cut.field-0-is ∙ cut.ensures.node.1 d) in
    absurd (false≢true (sym c.if-not-is_sound.true ∙ c.is_sound.ensures.1
    (cut_sound b laws m0 part nodes front rest c.args.place n cut.dimension cut.key cut.low cut.border found take.stood)))

pub cut_add-returns-in-Err-clause-well : goal.cut_add-returns-in-Err-clause-well
cut_add-returns-in-Err-clause-well g t c = λ tells part front rest is at take inside balanced.
    let b = g.B.BorderTree in
    let m0 : PageMap = g.S.Pages.map c.args.stage.now in
    let nodes : List CutNode = c.args.cuts.now.nodes.items in
    let n : ℕ = c.args.count in
    let p = c.args.point.now in
    well_as g.S.Pages _ _ c.args.stage.now c.part_anew.new.stage _ _ (c.in-Err.ensures.well tells part front rest is at take) (anew_number b c.border_laws.ensures.laws n) (λ f e. cc)

pub cut_add-returns-in-Err-part_add-clause-well : goal.cut_add-returns-in-Err-part_add-clause-well
cut_add-returns-in-Err-part_add-clause-well g t c = λ tells part front rest is at take inside balanced.
    let b = g.B.BorderTree in
    let m0 : PageMap = g.S.Pages.map c.args.stage.now in
    let nodes : List CutNode = c.args.cuts.now.nodes.items in
    let n : ℕ = c.args.count in
    let p = c.args.point.now in
    let laws = c.border_laws.ensures.laws in
    let cut = c.in-Some-Cut in
    let found : CutAt part nodes front rest c.args.place cut.dimension cut.key cut.low cut.border =
    cut_at part nodes front rest c.args.place cut.dimension cut.key cut.low cut.border is at cut.ensures.node.0 (λ d. sym cut.field-0-is ∙ cut.ensures.node.1 d) in
    let sound = c.is_sound.ensures.0 c.if-not-is_sound.false in
    let less : cut.low < n = sound.balanced.some_high in
    let beyond : cut.key ≤ slice_index p.keys cut.dimension = rw c.from.ensures at c.if-not-goes_low.true in
    let low_is : c.if-goes_low.low_after ≡ cut.low = elim c.if-goes_low.branch [
      | cut_add-then-goes_low w ↦ absurd (let below = w.if-goes_low.true in let above = c.if-not-goes_low.true in omega (arith, below, above))
      | cut_add-else-goes_low w ↦ w.low_after-is
    ] in
    let stays : IsBalancedCut (n + 1) cut.low = subst (λ (k : ℕ). IsBalancedCut (n + 1) k) low_is (c.is_balanced.ensures.0 c.if-not-is_balanced.false) in
    let high : ℕ = c.high_place-high.result in
    let high_is = c.high_place-high.ensures.place ∙ ap (λ (ns : List CutNode). length nodes - length ns) (after_low part nodes front rest c.args.place cut.dimension cut.key cut.low cut.border found at) in
    let side = high_side b laws m0 part nodes front rest c.args.place high n cut.dimension cut.key cut.low cut.border p found at take high_is in
    well_as g.S.Pages _ _ c.args.stage.now c.part_add.new.stage _ _ (c.in-Err-part_add.ensures.well tells side.side side.before side.others side.is side.at side.takes (side.balance balanced))
    (high_number b laws n cut.low less stays) (λ f e. cc)

pub cut_add-returns-in-Ok-part_add-clause-well : goal.cut_add-returns-in-Ok-part_add-clause-well
cut_add-returns-in-Ok-part_add-clause-well g t c = λ tells part front rest is at take inside balanced.
    let b = g.B.BorderTree in
    let m0 : PageMap = g.S.Pages.map c.args.stage.now in
    let nodes : List CutNode = c.args.cuts.now.nodes.items in
    let n : ℕ = c.args.count in
    let p = c.args.point.now in
    let laws = c.border_laws.ensures.laws in
    let cut = c.in-Some-Cut in
    let found : CutAt part nodes front rest c.args.place cut.dimension cut.key cut.low cut.border =
    cut_at part nodes front rest c.args.place cut.dimension cut.key cut.low cut.border is at cut.ensures.node.0 (λ d. sym cut.field-0-is ∙ cut.ensures.node.1 d) in
    let sound = c.is_sound.ensures.0 c.if-not-is_sound.false in
    let less : cut.low < n = sound.balanced.some_high in
    let beyond : cut.key ≤ slice_index p.keys cut.dimension = rw c.from.ensures at c.if-not-goes_low.true in
    let low_is : c.if-goes_low.low_after ≡ cut.low = elim c.if-goes_low.branch [
      | cut_add-then-goes_low w ↦ absurd (let below = w.if-goes_low.true in let above = c.if-not-goes_low.true in omega (arith, below, above))
      | cut_add-else-goes_low w ↦ w.low_after-is
    ] in
    let stays : IsBalancedCut (n + 1) cut.low = subst (λ (k : ℕ). IsBalancedCut (n + 1) k) low_is (c.is_balanced.ensures.0 c.if-not-is_balanced.false) in
    let high : ℕ = c.high_place-high.result in
    let high_is = c.high_place-high.ensures.place ∙ ap (λ (ns : List CutNode). length nodes - length ns) (after_low part nodes front rest c.args.place cut.dimension cut.key cut.low cut.border found at) in
    let side = high_side b laws m0 part nodes front rest c.args.place high n cut.dimension cut.key cut.low cut.border p found at take high_is in
    well_as g.S.Pages _ _ c.args.stage.now c.part_add.new.stage _ _ (c.in-Ok-part_add.ensures.well tells side.side side.before side.others side.is side.at side.takes (side.balance balanced))
    (high_number b laws n cut.low less stays) (λ f e. cc)

pub cut_add-returns-in-Ok-part_add-clause-added : goal.cut_add-returns-in-Ok-part_add-clause-added
cut_add-returns-in-Ok-part_add-clause-added g t c = λ tells part front rest is at take inside.
    let b = g.B.BorderTree in
    let m0 : PageMap = g.S.Pages.map c.args.stage.now in
    let nodes : List CutNode = c.args.cuts.now.nodes.items in
    let n : ℕ = c.args.count in
    let p = c.args.point.now in
    let laws = c.border_laws.ensures.laws in
    let cut = c.in-Some-Cut in
    let found : CutAt part nodes front rest c.args.place cut.dimension cut.key cut.low cut.border =
    cut_at part nodes front rest c.args.place cut.dimension cut.key cut.low cut.border is at cut.ensures.node.0 (λ d. sym cut.field-0-is ∙ cut.ensures.node.1 d) in
    let sound = c.is_sound.ensures.0 c.if-not-is_sound.false in
    let less : cut.low < n = sound.balanced.some_high in
    let beyond : cut.key ≤ slice_index p.keys cut.dimension = rw c.from.ensures at c.if-not-goes_low.true in
    let low_is : c.if-goes_low.low_after ≡ cut.low = elim c.if-goes_low.branch [
      | cut_add-then-goes_low w ↦ absurd (let below = w.if-goes_low.true in let above = c.if-not-goes_low.true in omega (arith, below, above))
      | cut_add-else-goes_low w ↦ w.low_after-is
    ] in
    let stays : IsBalancedCut (n + 1) cut.low = subst (λ (k : ℕ). IsBalancedCut (n + 1) k) low_is (c.is_balanced.ensures.0 c.if-not-is_balanced.false) in
    let high : ℕ = c.high_place-high.result in
    let high_is = c.high_place-high.ensures.place ∙ ap (λ (ns : List CutNode). length nodes - length ns) (after_low part nodes front rest c.args.place cut.dimension cut.key cut.low cut.border found at) in
    went_high b laws m0 (g.S.Pages.map c.part_add.new.stage) part nodes c.part_add.new.cuts.nodes.items front rest c.args.place high n cut.dimension cut.key cut.low cut.border p
    found at take stays beyond high_is (c.in-Ok-part_add.ensures.added tells)

pub cut_add-returns-in-Err-border_add-clause-well : goal.cut_add-returns-in-Err-border_add-clause-well
cut_add-returns-in-Err-border_add-clause-well g t c = λ tells part front rest is at take inside balanced.
    let b = g.B.BorderTree in
    let m0 : PageMap = g.S.Pages.map c.args.stage.now in
    let nodes : List CutNode = c.args.cuts.now.nodes.items in
    let n : ℕ = c.args.count in
    let p = c.args.point.now in
    let laws = c.border_laws.ensures.laws in
    let cut = c.in-Some-Cut in
    let found : CutAt part nodes front rest c.args.place cut.dimension cut.key cut.low cut.border =
    cut_at part nodes front rest c.args.place cut.dimension cut.key cut.low cut.border is at cut.ensures.node.0 (λ d. sym cut.field-0-is ∙ cut.ensures.node.1 d) in
    let sound = c.is_sound.ensures.0 c.if-not-is_sound.false in
    let less : cut.low < n = sound.balanced.some_high in
    let leaf : Option ℕ = c.entry_at-leaf.result in
    let takes = takes_border b laws m0 part nodes front rest c.args.place n cut.dimension cut.key cut.low cut.border p leaf found at take c.entry_at-leaf.ensures.page in
    let below : slice_index p.keys cut.dimension < cut.key = rw c.from.ensures at c.if-not-goes_low.false in
    let low_is : c.if-goes_low.low_after ≡ cut.low + 1 = elim c.if-goes_low.branch [
      | cut_add-then-goes_low w ↦ w.low_after-is
      | cut_add-else-goes_low w ↦ absurd (let above = w.if-goes_low.false in let under = c.if-not-goes_low.false in omega (arith, above, under))
    ] in
    let stays : IsBalancedCut (n + 1) (cut.low + 1) = subst (λ (k : ℕ). IsBalancedCut (n + 1) k) low_is (c.is_balanced.ensures.0 c.if-not-is_balanced.false) in
    let number = low_number b laws n cut.low less stays in
    well_as g.S.Pages _ _ c.args.stage.now c.border_add.new.stage _ _ (c.in-Err-border_add.ensures.well tells found.low_side takes
    (border_balanced b laws m0 part nodes front rest c.args.place cut.dimension cut.key cut.low cut.border found balanced)) (omega (arith, number)) (λ f e. cc)

pub cut_add-returns-in-Err-part_add-2-clause-well : goal.cut_add-returns-in-Err-part_add-2-clause-well
cut_add-returns-in-Err-part_add-2-clause-well g t c = λ tells part front rest is at take inside balanced.
    let b = g.B.BorderTree in
    let m0 : PageMap = g.S.Pages.map c.args.stage.now in
    let nodes : List CutNode = c.args.cuts.now.nodes.items in
    let n : ℕ = c.args.count in
    let p = c.args.point.now in
    let laws = c.border_laws.ensures.laws in
    let cut = c.in-Some-Cut in
    let found : CutAt part nodes front rest c.args.place cut.dimension cut.key cut.low cut.border =
    cut_at part nodes front rest c.args.place cut.dimension cut.key cut.low cut.border is at cut.ensures.node.0 (λ d. sym cut.field-0-is ∙ cut.ensures.node.1 d) in
    let sound = c.is_sound.ensures.0 c.if-not-is_sound.false in
    let less : cut.low < n = sound.balanced.some_high in
    let leaf : Option ℕ = c.entry_at-leaf.result in
    let takes = takes_border b laws m0 part nodes front rest c.args.place n cut.dimension cut.key cut.low cut.border p leaf found at take c.entry_at-leaf.ensures.page in
    let below : slice_index p.keys cut.dimension < cut.key = rw c.from.ensures at c.if-not-goes_low.false in
    let low_is : c.if-goes_low.low_after ≡ cut.low + 1 = elim c.if-goes_low.branch [
      | cut_add-then-goes_low w ↦ w.low_after-is
      | cut_add-else-goes_low w ↦ absurd (let above = w.if-goes_low.false in let under = c.if-not-goes_low.false in omega (arith, above, under))
    ] in
    let stays : IsBalancedCut (n + 1) (cut.low + 1) = subst (λ (k : ℕ). IsBalancedCut (n + 1) k) low_is (c.is_balanced.ensures.0 c.if-not-is_balanced.false) in
    let m1 : PageMap = g.S.Pages.map c.border_add.new.stage in
    let after = c.in-Ok-border_add.border in
    let told = c.in-Ok-border_add.ensures.changes.went_on.tells ∙ tells in
    let grown = c.in-Ok-border_add.ensures.grown tells found.low_side takes in
    let first = c.in-Ok-border_add.ensures.well tells found.low_side takes
    (border_balanced b laws m0 part nodes front rest c.args.place cut.dimension cut.key cut.low cut.border found balanced) in
    let side = low_side b laws m0 m1 part nodes c.set_cut.new.page.nodes.items front rest c.args.place n cut.dimension cut.key cut.low cut.border after p found at take grown c.set_cut.ensures.set in
    well_then g.S.Pages (border_growth b cut.low) (page_growth b cut.low) _ c.args.stage.now c.border_add.new.stage c.part_add-in-Ok-border_add.new.stage _ _ tells first.changes.went_on
    (c.in-Err-part_add-2.ensures.well told side.side side.before side.others side.is side.at side.takes (side.balance balanced))
    (low_number b laws n cut.low less stays) (λ f e. cc)

pub cut_add-returns-in-Ok-part_add-2-clause-well : goal.cut_add-returns-in-Ok-part_add-2-clause-well
cut_add-returns-in-Ok-part_add-2-clause-well g t c = λ tells part front rest is at take inside balanced.
    let b = g.B.BorderTree in
    let m0 : PageMap = g.S.Pages.map c.args.stage.now in
    let nodes : List CutNode = c.args.cuts.now.nodes.items in
    let n : ℕ = c.args.count in
    let p = c.args.point.now in
    let laws = c.border_laws.ensures.laws in
    let cut = c.in-Some-Cut in
    let found : CutAt part nodes front rest c.args.place cut.dimension cut.key cut.low cut.border =
    cut_at part nodes front rest c.args.place cut.dimension cut.key cut.low cut.border is at cut.ensures.node.0 (λ d. sym cut.field-0-is ∙ cut.ensures.node.1 d) in
    let sound = c.is_sound.ensures.0 c.if-not-is_sound.false in
    let less : cut.low < n = sound.balanced.some_high in
    let leaf : Option ℕ = c.entry_at-leaf.result in
    let takes = takes_border b laws m0 part nodes front rest c.args.place n cut.dimension cut.key cut.low cut.border p leaf found at take c.entry_at-leaf.ensures.page in
    let below : slice_index p.keys cut.dimension < cut.key = rw c.from.ensures at c.if-not-goes_low.false in
    let low_is : c.if-goes_low.low_after ≡ cut.low + 1 = elim c.if-goes_low.branch [
      | cut_add-then-goes_low w ↦ w.low_after-is
      | cut_add-else-goes_low w ↦ absurd (let above = w.if-goes_low.false in let under = c.if-not-goes_low.false in omega (arith, above, under))
    ] in
    let stays : IsBalancedCut (n + 1) (cut.low + 1) = subst (λ (k : ℕ). IsBalancedCut (n + 1) k) low_is (c.is_balanced.ensures.0 c.if-not-is_balanced.false) in
    let m1 : PageMap = g.S.Pages.map c.border_add.new.stage in
    let after = c.in-Ok-border_add.border in
    let told = c.in-Ok-border_add.ensures.changes.went_on.tells ∙ tells in
    let grown = c.in-Ok-border_add.ensures.grown tells found.low_side takes in
    let first = c.in-Ok-border_add.ensures.well tells found.low_side takes
    (border_balanced b laws m0 part nodes front rest c.args.place cut.dimension cut.key cut.low cut.border found balanced) in
    let side = low_side b laws m0 m1 part nodes c.set_cut.new.page.nodes.items front rest c.args.place n cut.dimension cut.key cut.low cut.border after p found at take grown c.set_cut.ensures.set in
    well_then g.S.Pages (border_growth b cut.low) (page_growth b cut.low) _ c.args.stage.now c.border_add.new.stage c.part_add-in-Ok-border_add.new.stage _ _ tells first.changes.went_on
    (c.in-Ok-part_add-2.ensures.well told side.side side.before side.others side.is side.at side.takes (side.balance balanced))
    (low_number b laws n cut.low less stays) (λ f e. cc)

pub cut_add-returns-in-Ok-part_add-2-clause-added : goal.cut_add-returns-in-Ok-part_add-2-clause-added
cut_add-returns-in-Ok-part_add-2-clause-added g t c = λ tells part front rest is at take inside.
    let b = g.B.BorderTree in
    let m0 : PageMap = g.S.Pages.map c.args.stage.now in
    let nodes : List CutNode = c.args.cuts.now.nodes.items in
    let n : ℕ = c.args.count in
    let p = c.args.point.now in
    let laws = c.border_laws.ensures.laws in
    let cut = c.in-Some-Cut in
    let found : CutAt part nodes front rest c.args.place cut.dimension cut.key cut.low cut.border =
    cut_at part nodes front rest c.args.place cut.dimension cut.key cut.low cut.border is at cut.ensures.node.0 (λ d. sym cut.field-0-is ∙ cut.ensures.node.1 d) in
    let sound = c.is_sound.ensures.0 c.if-not-is_sound.false in
    let less : cut.low < n = sound.balanced.some_high in
    let leaf : Option ℕ = c.entry_at-leaf.result in
    let takes = takes_border b laws m0 part nodes front rest c.args.place n cut.dimension cut.key cut.low cut.border p leaf found at take c.entry_at-leaf.ensures.page in
    let below : slice_index p.keys cut.dimension < cut.key = rw c.from.ensures at c.if-not-goes_low.false in
    let low_is : c.if-goes_low.low_after ≡ cut.low + 1 = elim c.if-goes_low.branch [
      | cut_add-then-goes_low w ↦ w.low_after-is
      | cut_add-else-goes_low w ↦ absurd (let above = w.if-goes_low.false in let under = c.if-not-goes_low.false in omega (arith, above, under))
    ] in
    let stays : IsBalancedCut (n + 1) (cut.low + 1) = subst (λ (k : ℕ). IsBalancedCut (n + 1) k) low_is (c.is_balanced.ensures.0 c.if-not-is_balanced.false) in
    let m1 : PageMap = g.S.Pages.map c.border_add.new.stage in
    let after = c.in-Ok-border_add.border in
    let told = c.in-Ok-border_add.ensures.changes.went_on.tells ∙ tells in
    let grown = c.in-Ok-border_add.ensures.grown tells found.low_side takes in
    went_low b laws m0 m1 (g.S.Pages.map c.part_add-in-Ok-border_add.new.stage) part nodes c.set_cut.new.page.nodes.items c.part_add-in-Ok-border_add.new.cuts.nodes.items front rest c.args.place n
    cut.dimension cut.key cut.low cut.border after p found at take stays below grown c.set_cut.ensures.set (c.in-Ok-part_add-2.ensures.added told)

pub page_add-returns-in-Ok-clause-added : goal.page_add-returns-in-Ok-clause-added
page_add-returns-in-Ok-clause-added g t c = λ tells part begins take.
    let b = g.B.BorderTree in
    let laws = c.border_laws.ensures.laws in
    let m0 : PageMap = g.S.Pages.map c.args.stage.now in
    let page : ℕ = c.args.page in
    let n : ℕ = c.args.count in
    let p = c.args.point.now in
    leaf_grown b laws m0 (g.S.Pages.map c.leaf_add.new.stage) part page n p begins c.if-count-lt64.true take (c.in-Ok.ensures.put tells) (c.in-Ok.ensures.change tells)

pub page_add-returns-in-Err-leaf_split-clause-well : goal.page_add-returns-in-Err-leaf_split-clause-well
page_add-returns-in-Err-leaf_split-clause-well g t c = λ tells part begins take balanced.
    let b = g.B.BorderTree in
    let laws = c.border_laws.ensures.laws in
    let m0 : PageMap = g.S.Pages.map c.args.stage.now in
    let page : ℕ = c.args.page in
    let n : ℕ = c.args.count in
    let p = c.args.point.now in
    let full : n ≡ 64 = c.if-count-eq64.true in
    let held = leaf_held b m0 part page n (omega (arith, full)) take.stood begins in
    let may = with_new _ (points_of part) p take.may_be take.new c.requires.keys c.requires.version take.three in
    let number = leaf_number b laws n full in
    well_as g.S.Pages _ _ c.args.stage.now c.leaf_split.new.stage _ _ (c.in-Err-leaf_split.ensures.well tells (points_of part) held.0 (held.1 ∙ full) may) (omega (arith, number)) (λ f e. cc)

pub page_add-returns-in-Ok-leaf_split-clause-added : goal.page_add-returns-in-Ok-leaf_split-clause-added
page_add-returns-in-Ok-leaf_split-clause-added g t c = λ tells part begins take.
    let b = g.B.BorderTree in
    let laws = c.border_laws.ensures.laws in
    let m0 : PageMap = g.S.Pages.map c.args.stage.now in
    let page : ℕ = c.args.page in
    let n : ℕ = c.args.count in
    let p = c.args.point.now in
    let m1 : PageMap = g.S.Pages.map c.leaf_split.new.stage in
    let cut = c.in-Ok-leaf_split.cut in
    subst (λ (change : Change). IsAddedAs b m0 m1 n part p (nodes_after change page)) (sym c.raised.ensures)
    (leaf_cut b laws m0 m1 part page cut.high cut.dimension cut.key n p begins c.if-count-eq64.true take (c.in-Ok-leaf_split.ensures.split tells))

pub page_add-returns-in-Err-cut_add-clause-well : goal.page_add-returns-in-Err-cut_add-clause-well
page_add-returns-in-Err-cut_add-clause-well g t c = λ tells part begins take balanced.
    let b = g.B.BorderTree in
    let laws = c.border_laws.ensures.laws in
    let m0 : PageMap = g.S.Pages.map c.args.stage.now in
    let page : ℕ = c.args.page in
    let n : ℕ = c.args.count in
    let p = c.args.point.now in
    let m1 : PageMap = g.S.Pages.map c.stage_cuts.new.stage in
    let same : m1 ≡ m0 = c.in-Ok-stage_cuts.ensures.map in
    let not_few = c.if-count-lt64.false in
    let not_full = c.if-count-eq64.false in
    let many : 64 < n = omega (arith, not_few, not_full) in
    let holds = c.in-Ok-stage_cuts.ensures.found tells in
    let inner = in_page b laws m0 page n part c.stage_cuts.new.cuts.nodes.items p begins many c.in-Ok-stage_cuts.ensures.many.0 take holds in
    let takes : MayTake b m1 n inner.inner p = subst (λ (m : PageMap). MayTake b m n inner.inner p) (sym same) inner.takes in
    let read = c.in-Ok-stage_cuts.ensures.well tells c.stage_cuts.new.cuts.nodes.items holds in
    let told = read.changes.went_on.tells ∙ tells in
    let number = page_number b laws n many in
    let inner_balanced = subst (λ (m : PageMap). PartBalanced b m inner.inner) (sym same) (inner.balance balanced) in
    well_then g.S.Pages 0 (inner_growth b n) _ c.args.stage.now c.stage_cuts.new.stage c.cut_add.new.stage _ _ tells read.changes.went_on
    (c.in-Err-cut_add.ensures.well told inner.inner [] [] inner.is refl takes inner.inside inner_balanced) (omega (arith, number)) (λ f e. cc)

pub page_add-returns-in-Err-store-clause-well : goal.page_add-returns-in-Err-store-clause-well
page_add-returns-in-Err-store-clause-well g t c = λ tells part begins take balanced.
    let b = g.B.BorderTree in
    let laws = c.border_laws.ensures.laws in
    let m0 : PageMap = g.S.Pages.map c.args.stage.now in
    let page : ℕ = c.args.page in
    let n : ℕ = c.args.count in
    let p = c.args.point.now in
    let m1 : PageMap = g.S.Pages.map c.stage_cuts.new.stage in
    let same : m1 ≡ m0 = c.in-Ok-stage_cuts.ensures.map in
    let not_few = c.if-count-lt64.false in
    let not_full = c.if-count-eq64.false in
    let many : 64 < n = omega (arith, not_few, not_full) in
    let holds = c.in-Ok-stage_cuts.ensures.found tells in
    let inner = in_page b laws m0 page n part c.stage_cuts.new.cuts.nodes.items p begins many c.in-Ok-stage_cuts.ensures.many.0 take holds in
    let takes : MayTake b m1 n inner.inner p = subst (λ (m : PageMap). MayTake b m n inner.inner p) (sym same) inner.takes in
    let read = c.in-Ok-stage_cuts.ensures.well tells c.stage_cuts.new.cuts.nodes.items holds in
    let told = read.changes.went_on.tells ∙ tells in
    let number = page_number b laws n many in
    let m2 : PageMap = g.S.Pages.map c.cut_add.new.stage in
    let here : IsSome (m1 page) = subst (λ (m : PageMap). IsSome (m page)) (sym same) (some_there m0 page holds.bytes holds.there) in
    let once = subst (λ (m : PageMap). NamesNoneTwice (page ∷ part_pages b m inner.inner)) (sym same) inner.once in
    let grown = grown_in_page b laws m1 m2 page n inner.inner c.cut_add.new.cuts.nodes.items p once here
    (c.in-Ok-cut_add.ensures.added told inner.inner [] [] inner.is refl takes inner.inside) in
    let inner_balanced = subst (λ (m : PageMap). PartBalanced b m inner.inner) (sym same) (inner.balance balanced) in
    let first = c.in-Ok-cut_add.ensures.well told inner.inner [] [] inner.is refl takes inner.inside inner_balanced in
    let went = went_then g.S.Pages 0 (inner_growth b n) (inner_growth b n) c.args.stage.now c.stage_cuts.new.stage c.cut_add.new.stage read.changes.went_on first.changes.went_on (omega arith) in
    let still = went.tells ∙ tells in
    well_then g.S.Pages (inner_growth b n) 1 _ c.args.stage.now c.cut_add.new.stage c.store.new.stage _ _ tells went
    (c.in-Err-store.ensures.well still grown.here) (omega (arith, number)) (λ f e. cc)

pub page_add-returns-in-Ok-store-clause-well : goal.page_add-returns-in-Ok-store-clause-well
page_add-returns-in-Ok-store-clause-well g t c = λ tells part begins take balanced.
    let b = g.B.BorderTree in
    let laws = c.border_laws.ensures.laws in
    let m0 : PageMap = g.S.Pages.map c.args.stage.now in
    let page : ℕ = c.args.page in
    let n : ℕ = c.args.count in
    let p = c.args.point.now in
    let m1 : PageMap = g.S.Pages.map c.stage_cuts.new.stage in
    let same : m1 ≡ m0 = c.in-Ok-stage_cuts.ensures.map in
    let not_few = c.if-count-lt64.false in
    let not_full = c.if-count-eq64.false in
    let many : 64 < n = omega (arith, not_few, not_full) in
    let holds = c.in-Ok-stage_cuts.ensures.found tells in
    let inner = in_page b laws m0 page n part c.stage_cuts.new.cuts.nodes.items p begins many c.in-Ok-stage_cuts.ensures.many.0 take holds in
    let takes : MayTake b m1 n inner.inner p = subst (λ (m : PageMap). MayTake b m n inner.inner p) (sym same) inner.takes in
    let read = c.in-Ok-stage_cuts.ensures.well tells c.stage_cuts.new.cuts.nodes.items holds in
    let told = read.changes.went_on.tells ∙ tells in
    let number = page_number b laws n many in
    let m2 : PageMap = g.S.Pages.map c.cut_add.new.stage in
    let here : IsSome (m1 page) = subst (λ (m : PageMap). IsSome (m page)) (sym same) (some_there m0 page holds.bytes holds.there) in
    let once = subst (λ (m : PageMap). NamesNoneTwice (page ∷ part_pages b m inner.inner)) (sym same) inner.once in
    let grown = grown_in_page b laws m1 m2 page n inner.inner c.cut_add.new.cuts.nodes.items p once here
    (c.in-Ok-cut_add.ensures.added told inner.inner [] [] inner.is refl takes inner.inside) in
    let inner_balanced = subst (λ (m : PageMap). PartBalanced b m inner.inner) (sym same) (inner.balance balanced) in
    let first = c.in-Ok-cut_add.ensures.well told inner.inner [] [] inner.is refl takes inner.inside inner_balanced in
    let went = went_then g.S.Pages 0 (inner_growth b n) (inner_growth b n) c.args.stage.now c.stage_cuts.new.stage c.cut_add.new.stage read.changes.went_on first.changes.went_on (omega arith) in
    let still = went.tells ∙ tells in
    well_then g.S.Pages (inner_growth b n) 1 _ c.args.stage.now c.cut_add.new.stage c.store.new.stage _ _ tells went
    (c.in-Ok-store.ensures.well still grown.here) (omega (arith, number)) (λ f e. cc)

pub page_add-returns-in-Ok-store-clause-added : goal.page_add-returns-in-Ok-store-clause-added
page_add-returns-in-Ok-store-clause-added g t c = λ tells part begins take.
    let b = g.B.BorderTree in
    let laws = c.border_laws.ensures.laws in
    let m0 : PageMap = g.S.Pages.map c.args.stage.now in
    let page : ℕ = c.args.page in
    let n : ℕ = c.args.count in
    let p = c.args.point.now in
    let m1 : PageMap = g.S.Pages.map c.stage_cuts.new.stage in
    let same : m1 ≡ m0 = c.in-Ok-stage_cuts.ensures.map in
    let not_few = c.if-count-lt64.false in
    let not_full = c.if-count-eq64.false in
    let many : 64 < n = omega (arith, not_few, not_full) in
    let holds = c.in-Ok-stage_cuts.ensures.found tells in
    let inner = in_page b laws m0 page n part c.stage_cuts.new.cuts.nodes.items p begins many c.in-Ok-stage_cuts.ensures.many.0 take holds in
    let takes : MayTake b m1 n inner.inner p = subst (λ (m : PageMap). MayTake b m n inner.inner p) (sym same) inner.takes in
    let read = c.in-Ok-stage_cuts.ensures.well tells c.stage_cuts.new.cuts.nodes.items holds in
    let told = read.changes.went_on.tells ∙ tells in
    let number = page_number b laws n many in
    let m2 : PageMap = g.S.Pages.map c.cut_add.new.stage in
    let here : IsSome (m1 page) = subst (λ (m : PageMap). IsSome (m page)) (sym same) (some_there m0 page holds.bytes holds.there) in
    let once = subst (λ (m : PageMap). NamesNoneTwice (page ∷ part_pages b m inner.inner)) (sym same) inner.once in
    let grown = grown_in_page b laws m1 m2 page n inner.inner c.cut_add.new.cuts.nodes.items p once here
    (c.in-Ok-cut_add.ensures.added told inner.inner [] [] inner.is refl takes inner.inside) in
    let still = c.in-Ok-cut_add.ensures.changes.went_on.tells ∙ told in
    let own : part_pages b m1 part ≡ page ∷ part_pages b m1 inner.inner = subst (λ (m : PageMap). part_pages b m part ≡ page ∷ part_pages b m inner.inner) (sym same) inner.own in
    let balance : PartBalanced b m1 part → PartBalanced b m1 inner.inner = subst (λ (m : PageMap). PartBalanced b m part → PartBalanced b m inner.inner) (sym same) inner.balance in
    let m3 : PageMap = g.S.Pages.map c.store.new.stage in
    subst (λ (m : PageMap). IsAddedAs b m m3 n part p (nodes_after c.in-Ok-store.change page)) same
    (page_stored b laws m1 m2 m3 page n part inner.inner grown.grown p (nodes_after c.in-Ok-store.change page) here once own inner.same balance grown.added
    (c.in-Ok-store.ensures.stored still (n + 1) grown.grown grown.is grown.added.stood grown.once))

pub part_add-returns-in-None-clause-well : goal.part_add-returns-in-None-clause-well
part_add-returns-in-None-clause-well g t c = λ tells part front rest is at take balanced.
    let b = g.B.BorderTree in
    let m0 : PageMap = g.S.Pages.map c.args.stage.now in
    let nodes : List CutNode = c.args.cuts.now.nodes.items in
    let n : ℕ = c.args.count in
    let p = c.args.point.now in
    let within = is_within part nodes front rest c.args.place is at in
    let none = c.in-None.ensures.none refl in
    absurd (omega (arith, within, none))

pub part_add-returns-in-Err-clause-well : goal.part_add-returns-in-Err-clause-well
part_add-returns-in-Err-clause-well g t c = λ tells part front rest is at take balanced.
    let b = g.B.BorderTree in
    let m0 : PageMap = g.S.Pages.map c.args.stage.now in
    let nodes : List CutNode = c.args.cuts.now.nodes.items in
    let n : ℕ = c.args.count in
    let p = c.args.point.now in
    let cut = c.in-Some-Cut in
    let found : CutAt part nodes front rest c.args.place cut.field-0-0 cut.field-0-1 cut.field-0-2 cut.field-0-3 =
    cut_at part nodes front rest c.args.place cut.field-0-0 cut.field-0-1 cut.field-0-2 cut.field-0-3 is at cut.ensures.node.0 (λ d. sym cut.field-0-is ∙ cut.ensures.node.1 d) in
    let inside : first_page part ≡ None = is_inside part nodes front rest c.args.place cut.field-0-0 cut.field-0-1 cut.field-0-2 cut.field-0-3 found in
    let laws = c.border_laws.ensures.laws in
    well_as g.S.Pages _ _ c.args.stage.now c.cut_add.new.stage _ _ (c.in-Err.ensures.well tells part front rest is at take inside balanced)
    (inner_number b laws n (cut_many b laws m0 part nodes front rest c.args.place n cut.field-0-0 cut.field-0-1 cut.field-0-2 cut.field-0-3 found take.stood)) (λ f e. cc)

pub part_add-returns-in-Ok-clause-well : goal.part_add-returns-in-Ok-clause-well
part_add-returns-in-Ok-clause-well g t c = λ tells part front rest is at take balanced.
    let b = g.B.BorderTree in
    let m0 : PageMap = g.S.Pages.map c.args.stage.now in
    let nodes : List CutNode = c.args.cuts.now.nodes.items in
    let n : ℕ = c.args.count in
    let p = c.args.point.now in
    let cut = c.in-Some-Cut in
    let found : CutAt part nodes front rest c.args.place cut.field-0-0 cut.field-0-1 cut.field-0-2 cut.field-0-3 =
    cut_at part nodes front rest c.args.place cut.field-0-0 cut.field-0-1 cut.field-0-2 cut.field-0-3 is at cut.ensures.node.0 (λ d. sym cut.field-0-is ∙ cut.ensures.node.1 d) in
    let inside : first_page part ≡ None = is_inside part nodes front rest c.args.place cut.field-0-0 cut.field-0-1 cut.field-0-2 cut.field-0-3 found in
    let laws = c.border_laws.ensures.laws in
    well_as g.S.Pages _ _ c.args.stage.now c.cut_add.new.stage _ _ (c.in-Ok.ensures.well tells part front rest is at take inside balanced)
    (inner_number b laws n (cut_many b laws m0 part nodes front rest c.args.place n cut.field-0-0 cut.field-0-1 cut.field-0-2 cut.field-0-3 found take.stood)) (λ f e. cc)

pub part_add-returns-in-Ok-clause-added : goal.part_add-returns-in-Ok-clause-added
part_add-returns-in-Ok-clause-added g t c = λ tells part front rest is at take.
    let b = g.B.BorderTree in
    let m0 : PageMap = g.S.Pages.map c.args.stage.now in
    let nodes : List CutNode = c.args.cuts.now.nodes.items in
    let n : ℕ = c.args.count in
    let p = c.args.point.now in
    let cut = c.in-Some-Cut in
    let found : CutAt part nodes front rest c.args.place cut.field-0-0 cut.field-0-1 cut.field-0-2 cut.field-0-3 =
    cut_at part nodes front rest c.args.place cut.field-0-0 cut.field-0-1 cut.field-0-2 cut.field-0-3 is at cut.ensures.node.0 (λ d. sym cut.field-0-is ∙ cut.ensures.node.1 d) in
    let inside : first_page part ≡ None = is_inside part nodes front rest c.args.place cut.field-0-0 cut.field-0-1 cut.field-0-2 cut.field-0-3 found in
    c.in-Ok.ensures.added tells part front rest is at take inside

pub part_add-returns-in-Err-page_add-clause-well : goal.part_add-returns-in-Err-page_add-clause-well
part_add-returns-in-Err-page_add-clause-well g t c = λ tells part front rest is at take balanced.
    let b = g.B.BorderTree in
    let m0 : PageMap = g.S.Pages.map c.args.stage.now in
    let nodes : List CutNode = c.args.cuts.now.nodes.items in
    let n : ℕ = c.args.count in
    let p = c.args.point.now in
    let entry = c.in-Some-Entry in
    let within = entry.ensures.node.0 in
    let read = λ (d : CutNode). sym entry.field-0-is ∙ entry.ensures.node.1 d in
    let begins = begins_with part nodes front rest c.args.place entry.child is at within read in
    well_as g.S.Pages _ _ c.args.stage.now c.page_add.new.stage _ _ (c.in-Err-page_add.ensures.well tells part begins take balanced) (omega arith) (λ f e. cc)

pub part_add-returns-in-Ok-page_add-clause-well : goal.part_add-returns-in-Ok-page_add-clause-well
part_add-returns-in-Ok-page_add-clause-well g t c = λ tells part front rest is at take balanced.
    let b = g.B.BorderTree in
    let m0 : PageMap = g.S.Pages.map c.args.stage.now in
    let nodes : List CutNode = c.args.cuts.now.nodes.items in
    let n : ℕ = c.args.count in
    let p = c.args.point.now in
    let entry = c.in-Some-Entry in
    let within = entry.ensures.node.0 in
    let read = λ (d : CutNode). sym entry.field-0-is ∙ entry.ensures.node.1 d in
    let begins = begins_with part nodes front rest c.args.place entry.child is at within read in
    well_as g.S.Pages _ _ c.args.stage.now c.page_add.new.stage _ _ (c.in-Ok-page_add.ensures.well tells part begins take balanced) (omega arith) (λ f e. cc)

pub part_add-returns-in-Ok-page_add-clause-added : goal.part_add-returns-in-Ok-page_add-clause-added
part_add-returns-in-Ok-page_add-clause-added g t c = λ tells part front rest is at take.
    let b = g.B.BorderTree in
    let m0 : PageMap = g.S.Pages.map c.args.stage.now in
    let nodes : List CutNode = c.args.cuts.now.nodes.items in
    let n : ℕ = c.args.count in
    let p = c.args.point.now in
    let entry = c.in-Some-Entry in
    let within = entry.ensures.node.0 in
    let read = λ (d : CutNode). sym entry.field-0-is ∙ entry.ensures.node.1 d in
    entry_taken b m0 (g.S.Pages.map c.page_add.new.stage) part nodes c.take_change.new.cuts.nodes.items front rest c.args.place entry.child n c.in-Ok-page_add.change p is at within read
    (λ begins. c.in-Ok-page_add.ensures.added tells part begins take) c.take_change.ensures.taken

-- ---- whatever the pages hold

pub cut_add-returns-then-not-is_sound-clause-damaged : goal.cut_add-returns-then-not-is_sound-clause-damaged
cut_add-returns-then-not-is_sound-clause-damaged g t c = λ damaged e tells.
    let b = g.B.BorderTree in
    let m0 : PageMap = g.S.Pages.map c.args.stage.now in
    let page : ℕ = c.args.page in
    let n : ℕ = c.args.count in
    let p = c.args.point.now in
    let nodes : List CutNode = c.args.cuts.now.nodes.items in
    let here : List CutNode = drop c.args.place nodes in
    let others : List CutNode = drop (c.args.place + 1) nodes in
    let cut = c.in-Some-Cut in
    let first : here ≡ Cut cut.dimension cut.key cut.low cut.border ∷ others =
    node_first nodes c.args.place (Cut cut.dimension cut.key cut.low cut.border) cut.ensures.node.0 (λ d. sym cut.field-0-is ∙ cut.ensures.node.1 d) in
    let same : damaged ≡ page = cc in
    inl (comes_at_cut b (IsDamagedAt b p damaged) p m0 n page cut.dimension cut.key cut.low cut.border here others first
    (inl (same, λ sound. false≢true (sym c.if-not-is_sound.true ∙ c.is_sound.ensures.1 sound))))

pub cut_add-returns-in-Err-clause-damaged : goal.cut_add-returns-in-Err-clause-damaged
cut_add-returns-in-Err-clause-damaged g t c = λ damaged e tells.
    let b = g.B.BorderTree in
    let m0 : PageMap = g.S.Pages.map c.args.stage.now in
    let page : ℕ = c.args.page in
    let n : ℕ = c.args.count in
    let p = c.args.point.now in
    let nodes : List CutNode = c.args.cuts.now.nodes.items in
    let here : List CutNode = drop c.args.place nodes in
    let others : List CutNode = drop (c.args.place + 1) nodes in
    let cut = c.in-Some-Cut in
    let first : here ≡ Cut cut.dimension cut.key cut.low cut.border ∷ others =
    node_first nodes c.args.place (Cut cut.dimension cut.key cut.low cut.border) cut.ensures.node.0 (λ d. sym cut.field-0-is ∙ cut.ensures.node.1 d) in
    let goes : (GoesLow p cut.dimension cut.key × (c.if-goes_low.low_after ≡ cut.low + 1)) ⊎ (GoesHigh p cut.dimension cut.key × (c.if-goes_low.low_after ≡ cut.low)) = elim c.if-goes_low.branch [
      | cut_add-then-goes_low w ↦ let below : slice_index p.keys cut.dimension < cut.key = rw c.from.ensures at w.if-goes_low.true in inl (below, w.low_after-is)
      | cut_add-else-goes_low w ↦ let beyond : cut.key ≤ slice_index p.keys cut.dimension = rw c.from.ensures at w.if-goes_low.false in inr (beyond, w.low_after-is)
    ] in
    let anew : IsMadeAnew p n cut.dimension cut.key cut.low = goes_anew p n cut.dimension cut.key cut.low c.if-goes_low.low_after goes
    (λ balanced. false≢true (sym c.if-not-is_balanced.true ∙ c.is_balanced.ensures.1 balanced)) in
    let sound = c.is_sound.ensures.0 c.if-not-is_sound.false in
    let is : c.in-Err.fault ≡ Damaged damaged = cc in
    elim (c.part_anew.ensures.damaged damaged (c.in-Err.is ∙ ap (λ (fault : StageFault). Err fault) is) tells) [
      | inl found ↦ inl (comes_at_cut b (IsDamagedAt b p damaged) p m0 n page cut.dimension cut.key cut.low cut.border here others first
          (inr (sound, inr (anew, subst (λ (ns : List CutNode). IsDamagedAnew b p damaged m0 n page ns) first found))))
      | inr unordered ↦ inr unordered
    ]

pub cut_add-returns-in-Ok-clause-apart : goal.cut_add-returns-in-Ok-clause-apart
cut_add-returns-in-Ok-clause-apart g t c = λ tells.
    let b = g.B.BorderTree in
    let m0 : PageMap = g.S.Pages.map c.args.stage.now in
    let page : ℕ = c.args.page in
    let n : ℕ = c.args.count in
    let p = c.args.point.now in
    let nodes : List CutNode = c.args.cuts.now.nodes.items in
    let here : List CutNode = drop c.args.place nodes in
    let others : List CutNode = drop (c.args.place + 1) nodes in
    let cut = c.in-Some-Cut in
    let first : here ≡ Cut cut.dimension cut.key cut.low cut.border ∷ others =
    node_first nodes c.args.place (Cut cut.dimension cut.key cut.low cut.border) cut.ensures.node.0 (λ d. sym cut.field-0-is ∙ cut.ensures.node.1 d) in
    let goes : (GoesLow p cut.dimension cut.key × (c.if-goes_low.low_after ≡ cut.low + 1)) ⊎ (GoesHigh p cut.dimension cut.key × (c.if-goes_low.low_after ≡ cut.low)) = elim c.if-goes_low.branch [
      | cut_add-then-goes_low w ↦ let below : slice_index p.keys cut.dimension < cut.key = rw c.from.ensures at w.if-goes_low.true in inl (below, w.low_after-is)
      | cut_add-else-goes_low w ↦ let beyond : cut.key ≤ slice_index p.keys cut.dimension = rw c.from.ensures at w.if-goes_low.false in inr (beyond, w.low_after-is)
    ] in
    let anew : IsMadeAnew p n cut.dimension cut.key cut.low = goes_anew p n cut.dimension cut.key cut.low c.if-goes_low.low_after goes
    (λ balanced. false≢true (sym c.if-not-is_balanced.true ∙ c.is_balanced.ensures.1 balanced)) in
    let sound = c.is_sound.ensures.0 c.if-not-is_sound.false in
    stay_more (IsOfPartThere b m0 n here) (LeadsFrom b p m0 n (BeforeCut page here)) m0 (g.S.Pages.map c.part_anew.new.stage) (c.in-Ok.ensures.apart tells)
    (λ q x. comes_at_cut b (ChangesAt b p q) p m0 n page cut.dimension cut.key cut.low cut.border here others first (sound, inr (anew, subst (λ (ns : List CutNode). IsOfPartThere b m0 n ns q) first x)))

pub cut_add-returns-in-Err-part_add-clause-damaged : goal.cut_add-returns-in-Err-part_add-clause-damaged
cut_add-returns-in-Err-part_add-clause-damaged g t c = λ damaged e tells.
    let b = g.B.BorderTree in
    let m0 : PageMap = g.S.Pages.map c.args.stage.now in
    let page : ℕ = c.args.page in
    let n : ℕ = c.args.count in
    let p = c.args.point.now in
    let nodes : List CutNode = c.args.cuts.now.nodes.items in
    let here : List CutNode = drop c.args.place nodes in
    let others : List CutNode = drop (c.args.place + 1) nodes in
    let cut = c.in-Some-Cut in
    let first : here ≡ Cut cut.dimension cut.key cut.low cut.border ∷ others =
    node_first nodes c.args.place (Cut cut.dimension cut.key cut.low cut.border) cut.ensures.node.0 (λ d. sym cut.field-0-is ∙ cut.ensures.node.1 d) in
    let sound = c.is_sound.ensures.0 c.if-not-is_sound.false in
    let beyond : cut.key ≤ slice_index p.keys cut.dimension = rw c.from.ensures at c.if-not-goes_low.true in
    let low_is : c.if-goes_low.low_after ≡ cut.low = elim c.if-goes_low.branch [
      | cut_add-then-goes_low w ↦ absurd (let below = w.if-goes_low.true in let above = c.if-not-goes_low.true in omega (arith, below, above))
      | cut_add-else-goes_low w ↦ w.low_after-is
    ] in
    let stays : IsBalancedCut (n + 1) cut.low = subst (λ (k : ℕ). IsBalancedCut (n + 1) k) low_is (c.is_balanced.ensures.0 c.if-not-is_balanced.false) in
    let highs : List CutNode = drop c.high_place-high.result nodes in
    let after = c.high_place-high.ensures.rest in
    let is : c.in-Err-part_add.fault ≡ Damaged damaged = cc in
    elim (c.part_add.ensures.damaged damaged (c.in-Err-part_add.is ∙ ap (λ (fault : StageFault). Err fault) is) tells) [
      | inl found ↦ inl (comes_high b (IsDamagedAt b p damaged) p m0 n page cut.dimension cut.key cut.low cut.border here others first highs sound beyond stays after found)
      | inr unordered ↦ inr unordered
    ]

pub cut_add-returns-in-Ok-part_add-clause-apart : goal.cut_add-returns-in-Ok-part_add-clause-apart
cut_add-returns-in-Ok-part_add-clause-apart g t c = λ tells.
    let b = g.B.BorderTree in
    let m0 : PageMap = g.S.Pages.map c.args.stage.now in
    let page : ℕ = c.args.page in
    let n : ℕ = c.args.count in
    let p = c.args.point.now in
    let nodes : List CutNode = c.args.cuts.now.nodes.items in
    let here : List CutNode = drop c.args.place nodes in
    let others : List CutNode = drop (c.args.place + 1) nodes in
    let cut = c.in-Some-Cut in
    let first : here ≡ Cut cut.dimension cut.key cut.low cut.border ∷ others =
    node_first nodes c.args.place (Cut cut.dimension cut.key cut.low cut.border) cut.ensures.node.0 (λ d. sym cut.field-0-is ∙ cut.ensures.node.1 d) in
    let sound = c.is_sound.ensures.0 c.if-not-is_sound.false in
    let beyond : cut.key ≤ slice_index p.keys cut.dimension = rw c.from.ensures at c.if-not-goes_low.true in
    let low_is : c.if-goes_low.low_after ≡ cut.low = elim c.if-goes_low.branch [
      | cut_add-then-goes_low w ↦ absurd (let below = w.if-goes_low.true in let above = c.if-not-goes_low.true in omega (arith, below, above))
      | cut_add-else-goes_low w ↦ w.low_after-is
    ] in
    let stays : IsBalancedCut (n + 1) cut.low = subst (λ (k : ℕ). IsBalancedCut (n + 1) k) low_is (c.is_balanced.ensures.0 c.if-not-is_balanced.false) in
    let highs : List CutNode = drop c.high_place-high.result nodes in
    let after = c.high_place-high.ensures.rest in
    stay_more (LeadsFrom b p m0 (n - cut.low) (BeforePart page highs)) (LeadsFrom b p m0 n (BeforeCut page here)) m0 (g.S.Pages.map c.part_add.new.stage) (c.in-Ok-part_add.ensures.apart tells)
    (λ q x. comes_high b (ChangesAt b p q) p m0 n page cut.dimension cut.key cut.low cut.border here others first highs sound beyond stays after x)

pub cut_add-returns-in-Err-border_add-clause-damaged : goal.cut_add-returns-in-Err-border_add-clause-damaged
cut_add-returns-in-Err-border_add-clause-damaged g t c = λ damaged e tells.
    let b = g.B.BorderTree in
    let m0 : PageMap = g.S.Pages.map c.args.stage.now in
    let page : ℕ = c.args.page in
    let n : ℕ = c.args.count in
    let p = c.args.point.now in
    let nodes : List CutNode = c.args.cuts.now.nodes.items in
    let here : List CutNode = drop c.args.place nodes in
    let others : List CutNode = drop (c.args.place + 1) nodes in
    let cut = c.in-Some-Cut in
    let first : here ≡ Cut cut.dimension cut.key cut.low cut.border ∷ others =
    node_first nodes c.args.place (Cut cut.dimension cut.key cut.low cut.border) cut.ensures.node.0 (λ d. sym cut.field-0-is ∙ cut.ensures.node.1 d) in
    let sound = c.is_sound.ensures.0 c.if-not-is_sound.false in
    let below : slice_index p.keys cut.dimension < cut.key = rw c.from.ensures at c.if-not-goes_low.false in
    let low_is : c.if-goes_low.low_after ≡ cut.low + 1 = elim c.if-goes_low.branch [
      | cut_add-then-goes_low w ↦ w.low_after-is
      | cut_add-else-goes_low w ↦ absurd (let above = w.if-goes_low.false in let under = c.if-not-goes_low.false in omega (arith, above, under))
    ] in
    let stays : IsBalancedCut (n + 1) (cut.low + 1) = subst (λ (k : ℕ). IsBalancedCut (n + 1) k) low_is (c.is_balanced.ensures.0 c.if-not-is_balanced.false) in
    let is : c.in-Err-border_add.fault ≡ Damaged damaged = cc in
    elim (c.border_add.ensures.damaged damaged (c.in-Err-border_add.is ∙ ap (λ (fault : StageFault). Err fault) is) tells) [
      | inl found ↦ inl (comes_at_cut b (IsDamagedAt b p damaged) p m0 n page cut.dimension cut.key cut.low cut.border here others first
          (inr (sound, inl ((below, stays), subst (λ (o : Option ℕ). IsDamagedAtBorder b p damaged m0 page o cut.dimension cut.low cut.border) c.entry_at-leaf.ensures.entry found))))
      | inr unordered ↦ inr unordered
    ]

pub cut_add-returns-in-Err-part_add-2-clause-damaged : goal.cut_add-returns-in-Err-part_add-2-clause-damaged
cut_add-returns-in-Err-part_add-2-clause-damaged g t c = λ damaged e tells.
    let b = g.B.BorderTree in
    let m0 : PageMap = g.S.Pages.map c.args.stage.now in
    let page : ℕ = c.args.page in
    let n : ℕ = c.args.count in
    let p = c.args.point.now in
    let nodes : List CutNode = c.args.cuts.now.nodes.items in
    let here : List CutNode = drop c.args.place nodes in
    let others : List CutNode = drop (c.args.place + 1) nodes in
    let cut = c.in-Some-Cut in
    let first : here ≡ Cut cut.dimension cut.key cut.low cut.border ∷ others =
    node_first nodes c.args.place (Cut cut.dimension cut.key cut.low cut.border) cut.ensures.node.0 (λ d. sym cut.field-0-is ∙ cut.ensures.node.1 d) in
    let sound = c.is_sound.ensures.0 c.if-not-is_sound.false in
    let below : slice_index p.keys cut.dimension < cut.key = rw c.from.ensures at c.if-not-goes_low.false in
    let low_is : c.if-goes_low.low_after ≡ cut.low + 1 = elim c.if-goes_low.branch [
      | cut_add-then-goes_low w ↦ w.low_after-is
      | cut_add-else-goes_low w ↦ absurd (let above = w.if-goes_low.false in let under = c.if-not-goes_low.false in omega (arith, above, under))
    ] in
    let stays : IsBalancedCut (n + 1) (cut.low + 1) = subst (λ (k : ℕ). IsBalancedCut (n + 1) k) low_is (c.is_balanced.ensures.0 c.if-not-is_balanced.false) in
    let m1 : PageMap = g.S.Pages.map c.border_add.new.stage in
    let went = c.in-Ok-border_add.ensures.changes.went_on in
    let leaves = c.in-Ok-border_add.ensures.apart tells in
    let changed : List CutNode = c.set_cut.new.page.nodes.items in
    let lows : List CutNode = drop (c.args.place + 1) changed in
    let same : lows ≡ others = ap (λ (ns : List CutNode). drop (c.args.place + 1) ns) c.set_cut.ensures.set
    ∙ behind_set nodes c.args.place (Cut cut.dimension cut.key (cut.low + 1) c.in-Ok-border_add.border) in
    let is : c.in-Err-part_add-2.fault ≡ Damaged damaged = cc in
    elim (c.part_add-in-Ok-border_add.ensures.damaged damaged (c.in-Err-part_add-2.is ∙ ap (λ (fault : StageFault). Err fault) is) (went.tells ∙ tells)) [
      | inl found ↦ inl (comes_low b (IsDamagedAt b p damaged) p m0 n page cut.dimension cut.key cut.low cut.border here others first m1 lows sound (below, stays) leaves same found)
      | inr unordered ↦ inr (λ order. unordered (went.free_in_order tells order))
    ]

pub cut_add-returns-in-Ok-part_add-2-clause-apart : goal.cut_add-returns-in-Ok-part_add-2-clause-apart
cut_add-returns-in-Ok-part_add-2-clause-apart g t c = λ tells.
    let b = g.B.BorderTree in
    let m0 : PageMap = g.S.Pages.map c.args.stage.now in
    let page : ℕ = c.args.page in
    let n : ℕ = c.args.count in
    let p = c.args.point.now in
    let nodes : List CutNode = c.args.cuts.now.nodes.items in
    let here : List CutNode = drop c.args.place nodes in
    let others : List CutNode = drop (c.args.place + 1) nodes in
    let cut = c.in-Some-Cut in
    let first : here ≡ Cut cut.dimension cut.key cut.low cut.border ∷ others =
    node_first nodes c.args.place (Cut cut.dimension cut.key cut.low cut.border) cut.ensures.node.0 (λ d. sym cut.field-0-is ∙ cut.ensures.node.1 d) in
    let sound = c.is_sound.ensures.0 c.if-not-is_sound.false in
    let below : slice_index p.keys cut.dimension < cut.key = rw c.from.ensures at c.if-not-goes_low.false in
    let low_is : c.if-goes_low.low_after ≡ cut.low + 1 = elim c.if-goes_low.branch [
      | cut_add-then-goes_low w ↦ w.low_after-is
      | cut_add-else-goes_low w ↦ absurd (let above = w.if-goes_low.false in let under = c.if-not-goes_low.false in omega (arith, above, under))
    ] in
    let stays : IsBalancedCut (n + 1) (cut.low + 1) = subst (λ (k : ℕ). IsBalancedCut (n + 1) k) low_is (c.is_balanced.ensures.0 c.if-not-is_balanced.false) in
    let m1 : PageMap = g.S.Pages.map c.border_add.new.stage in
    let went = c.in-Ok-border_add.ensures.changes.went_on in
    let leaves = c.in-Ok-border_add.ensures.apart tells in
    let changed : List CutNode = c.set_cut.new.page.nodes.items in
    let lows : List CutNode = drop (c.args.place + 1) changed in
    let same : lows ≡ others = ap (λ (ns : List CutNode). drop (c.args.place + 1) ns) c.set_cut.ensures.set
    ∙ behind_set nodes c.args.place (Cut cut.dimension cut.key (cut.low + 1) c.in-Ok-border_add.border) in
    stay_then (λ q. (64 < cut.low) × b.may_change m0 cut.border (without_dimension cut.dimension p) q) (LeadsFrom b p m1 cut.low (BeforePart page lows)) (LeadsFrom b p m0 n (BeforeCut page here)) m0 m1
    (g.S.Pages.map c.part_add-in-Ok-border_add.new.stage) leaves (c.in-Ok-part_add-2.ensures.apart (went.tells ∙ tells))
    (λ q x. comes_at_cut b (ChangesAt b p q) p m0 n page cut.dimension cut.key cut.low cut.border here others first (sound, inl ((below, stays), x)))
    (λ q x. comes_low b (ChangesAt b p q) p m0 n page cut.dimension cut.key cut.low cut.border here others first m1 lows sound (below, stays) leaves same x)

pub part_add-returns-in-None-clause-damaged : goal.part_add-returns-in-None-clause-damaged
part_add-returns-in-None-clause-damaged g t c = λ damaged e tells.
    let b = g.B.BorderTree in
    let m0 : PageMap = g.S.Pages.map c.args.stage.now in
    let page : ℕ = c.args.page in
    let n : ℕ = c.args.count in
    let p = c.args.point.now in
    let nodes : List CutNode = c.args.cuts.now.nodes.items in
    let here : List CutNode = drop c.args.place nodes in
    let others : List CutNode = drop (c.args.place + 1) nodes in
    let same : damaged ≡ page = cc in
    inl (comes_none b (IsDamagedAt b p damaged) p m0 n page here (none_from nodes c.args.place (c.in-None.ensures.none refl)) same)

pub part_add-returns-in-Err-clause-damaged : goal.part_add-returns-in-Err-clause-damaged
part_add-returns-in-Err-clause-damaged g t c = λ damaged e tells.
    let b = g.B.BorderTree in
    let m0 : PageMap = g.S.Pages.map c.args.stage.now in
    let page : ℕ = c.args.page in
    let n : ℕ = c.args.count in
    let p = c.args.point.now in
    let nodes : List CutNode = c.args.cuts.now.nodes.items in
    let here : List CutNode = drop c.args.place nodes in
    let others : List CutNode = drop (c.args.place + 1) nodes in
    let cut = c.in-Some-Cut in
    let first : here ≡ Cut cut.field-0-0 cut.field-0-1 cut.field-0-2 cut.field-0-3 ∷ others =
    node_first nodes c.args.place (Cut cut.field-0-0 cut.field-0-1 cut.field-0-2 cut.field-0-3) cut.ensures.node.0 (λ d. sym cut.field-0-is ∙ cut.ensures.node.1 d) in
    let is : c.in-Err.fault ≡ Damaged damaged = cc in
    elim (c.cut_add.ensures.damaged damaged (c.in-Err.is ∙ ap (λ (fault : StageFault). Err fault) is) tells) [
      | inl found ↦ inl (comes_cut b (IsDamagedAt b p damaged) p m0 n page cut.field-0-0 cut.field-0-1 cut.field-0-2 cut.field-0-3 here others first found)
      | inr unordered ↦ inr unordered
    ]

pub part_add-returns-in-Ok-clause-apart : goal.part_add-returns-in-Ok-clause-apart
part_add-returns-in-Ok-clause-apart g t c = λ tells.
    let b = g.B.BorderTree in
    let m0 : PageMap = g.S.Pages.map c.args.stage.now in
    let page : ℕ = c.args.page in
    let n : ℕ = c.args.count in
    let p = c.args.point.now in
    let nodes : List CutNode = c.args.cuts.now.nodes.items in
    let here : List CutNode = drop c.args.place nodes in
    let others : List CutNode = drop (c.args.place + 1) nodes in
    let cut = c.in-Some-Cut in
    let first : here ≡ Cut cut.field-0-0 cut.field-0-1 cut.field-0-2 cut.field-0-3 ∷ others =
    node_first nodes c.args.place (Cut cut.field-0-0 cut.field-0-1 cut.field-0-2 cut.field-0-3) cut.ensures.node.0 (λ d. sym cut.field-0-is ∙ cut.ensures.node.1 d) in
    stay_more (LeadsFrom b p m0 n (BeforeCut page here)) (LeadsFrom b p m0 n (BeforePart page here)) m0 (g.S.Pages.map c.cut_add.new.stage) (c.in-Ok.ensures.apart tells)
    (λ q x. comes_cut b (ChangesAt b p q) p m0 n page cut.field-0-0 cut.field-0-1 cut.field-0-2 cut.field-0-3 here others first x)

pub part_add-returns-in-Err-page_add-clause-damaged : goal.part_add-returns-in-Err-page_add-clause-damaged
part_add-returns-in-Err-page_add-clause-damaged g t c = λ damaged e tells.
    let b = g.B.BorderTree in
    let m0 : PageMap = g.S.Pages.map c.args.stage.now in
    let page : ℕ = c.args.page in
    let n : ℕ = c.args.count in
    let p = c.args.point.now in
    let nodes : List CutNode = c.args.cuts.now.nodes.items in
    let here : List CutNode = drop c.args.place nodes in
    let others : List CutNode = drop (c.args.place + 1) nodes in
    let entry = c.in-Some-Entry in
    let first : here ≡ Entry entry.child ∷ others = node_first nodes c.args.place (Entry entry.child) entry.ensures.node.0 (λ d. sym entry.field-0-is ∙ entry.ensures.node.1 d) in
    let is : c.in-Err-page_add.fault ≡ Damaged damaged = cc in
    elim (c.page_add.ensures.damaged damaged (c.in-Err-page_add.is ∙ ap (λ (fault : StageFault). Err fault) is) tells) [
      | inl found ↦ inl (comes_entry b (IsDamagedAt b p damaged) p m0 n page entry.child here others first found)
      | inr unordered ↦ inr unordered
    ]

pub part_add-returns-in-Ok-page_add-clause-apart : goal.part_add-returns-in-Ok-page_add-clause-apart
part_add-returns-in-Ok-page_add-clause-apart g t c = λ tells.
    let b = g.B.BorderTree in
    let m0 : PageMap = g.S.Pages.map c.args.stage.now in
    let page : ℕ = c.args.page in
    let n : ℕ = c.args.count in
    let p = c.args.point.now in
    let nodes : List CutNode = c.args.cuts.now.nodes.items in
    let here : List CutNode = drop c.args.place nodes in
    let others : List CutNode = drop (c.args.place + 1) nodes in
    let entry = c.in-Some-Entry in
    let first : here ≡ Entry entry.child ∷ others = node_first nodes c.args.place (Entry entry.child) entry.ensures.node.0 (λ d. sym entry.field-0-is ∙ entry.ensures.node.1 d) in
    stay_more (LeadsFrom b p m0 n (BeforePage entry.child)) (LeadsFrom b p m0 n (BeforePart page here)) m0 (g.S.Pages.map c.page_add.new.stage) (c.in-Ok-page_add.ensures.apart tells)
    (λ q x. comes_entry b (ChangesAt b p q) p m0 n page entry.child here others first x)

pub page_add-returns-in-Err-clause-damaged : goal.page_add-returns-in-Err-clause-damaged
page_add-returns-in-Err-clause-damaged g t c = λ damaged e tells.
    let b = g.B.BorderTree in
    let m0 : PageMap = g.S.Pages.map c.args.stage.now in
    let page : ℕ = c.args.page in
    let n : ℕ = c.args.count in
    let p = c.args.point.now in
    let is : c.in-Err.fault ≡ Damaged damaged = cc in
    let few = c.if-count-lt64.true in
    let found = c.leaf_add.ensures.damaged damaged (c.in-Err.is ∙ ap (λ (fault : StageFault). Err fault) is) tells in
    inl (comes_here b (IsDamagedAt b p damaged) p m0 n page (inl (found.0, inl (omega (arith, few), found.1))))

pub page_add-returns-in-Ok-clause-apart : goal.page_add-returns-in-Ok-clause-apart
page_add-returns-in-Ok-clause-apart g t c = λ tells.
    let b = g.B.BorderTree in
    let m0 : PageMap = g.S.Pages.map c.args.stage.now in
    let page : ℕ = c.args.page in
    let n : ℕ = c.args.count in
    let p = c.args.point.now in
    stay_more (λ q. q ≡ page) (LeadsFrom b p m0 n (BeforePage page)) m0 (g.S.Pages.map c.leaf_add.new.stage)
    (stay_at page (page ∷ []) m0 (g.S.Pages.map c.leaf_add.new.stage) (c.in-Ok.ensures.change tells)) (λ q x. comes_here b (ChangesAt b p q) p m0 n page x)

pub page_add-returns-in-Err-leaf_split-clause-damaged : goal.page_add-returns-in-Err-leaf_split-clause-damaged
page_add-returns-in-Err-leaf_split-clause-damaged g t c = λ damaged e tells.
    let b = g.B.BorderTree in
    let m0 : PageMap = g.S.Pages.map c.args.stage.now in
    let page : ℕ = c.args.page in
    let n : ℕ = c.args.count in
    let p = c.args.point.now in
    let full : n ≡ 64 = c.if-count-eq64.true in
    let is : c.in-Err-leaf_split.fault ≡ Damaged damaged = cc in
    elim (c.leaf_split.ensures.damaged damaged (c.in-Err-leaf_split.is ∙ ap (λ (fault : StageFault). Err fault) is) tells) [
      | inl found ↦ inl (comes_here b (IsDamagedAt b p damaged) p m0 n page (elim found.1 [
        | inl none ↦ inl (found.0, inl (omega (arith, full), λ points held counted. none points held (counted ∙ full)))
        | inr none ↦ inr (found.0, inl (full, none))
      ]))
      | inr unordered ↦ inr unordered
    ]

pub page_add-returns-in-Ok-leaf_split-clause-apart : goal.page_add-returns-in-Ok-leaf_split-clause-apart
page_add-returns-in-Ok-leaf_split-clause-apart g t c = λ tells.
    let b = g.B.BorderTree in
    let m0 : PageMap = g.S.Pages.map c.args.stage.now in
    let page : ℕ = c.args.page in
    let n : ℕ = c.args.count in
    let p = c.args.point.now in
    let m1 : PageMap = g.S.Pages.map c.leaf_split.new.stage in
    stay_more (λ q. q ≡ page) (LeadsFrom b p m0 n (BeforePage page)) m0 m1 (stay_at page (page ∷ c.in-Ok-leaf_split.cut.high ∷ []) m0 m1 (c.in-Ok-leaf_split.ensures.change tells))
    (λ q x. comes_here b (ChangesAt b p q) p m0 n page x)

pub page_add-returns-in-Err-stage_cuts-clause-damaged : goal.page_add-returns-in-Err-stage_cuts-clause-damaged
page_add-returns-in-Err-stage_cuts-clause-damaged g t c = λ damaged e tells.
    let b = g.B.BorderTree in
    let m0 : PageMap = g.S.Pages.map c.args.stage.now in
    let page : ℕ = c.args.page in
    let n : ℕ = c.args.count in
    let p = c.args.point.now in
    let not_few = c.if-count-lt64.false in
    let not_full = c.if-count-eq64.false in
    let many : 64 < n = omega (arith, not_few, not_full) in
    let is : c.in-Err-stage_cuts.fault ≡ Damaged damaged = cc in
    let found = c.stage_cuts.ensures.damaged damaged (c.in-Err-stage_cuts.is ∙ ap (λ (fault : StageFault). Err fault) is) in
    inl (comes_here b (IsDamagedAt b p damaged) p m0 n page (inl (found.0, inr (many, found.1 tells))))

pub page_add-returns-in-Err-cut_add-clause-damaged : goal.page_add-returns-in-Err-cut_add-clause-damaged
page_add-returns-in-Err-cut_add-clause-damaged g t c = λ damaged e tells.
    let b = g.B.BorderTree in
    let m0 : PageMap = g.S.Pages.map c.args.stage.now in
    let page : ℕ = c.args.page in
    let n : ℕ = c.args.count in
    let p = c.args.point.now in
    let not_few = c.if-count-lt64.false in
    let not_full = c.if-count-eq64.false in
    let many : 64 < n = omega (arith, not_few, not_full) in
    let m1 : PageMap = g.S.Pages.map c.stage_cuts.new.stage in
    let same : m1 ≡ m0 = c.in-Ok-stage_cuts.ensures.map in
    let went = c.in-Ok-stage_cuts.ensures.grows.went_on in
    let told = went.tells ∙ tells in
    let nodes : List CutNode = c.stage_cuts.new.cuts.nodes.items in
    let held = c.in-Ok-stage_cuts.ensures.found tells in
    let is : c.in-Err-cut_add.fault ≡ Damaged damaged = cc in
    elim (c.cut_add.ensures.damaged damaged (c.in-Err-cut_add.is ∙ ap (λ (fault : StageFault). Err fault) is) told) [
      | inl found ↦ inl (comes_in b (IsDamagedAt b p damaged) p m0 n page nodes many held
          (subst (λ (a : PageMap). IsDamagedFrom b p a n (BeforeCut page nodes) damaged) same found))
      | inr unordered ↦ inr (λ order. unordered (went.free_in_order tells order))
    ]

pub page_add-returns-in-Err-store-clause-damaged : goal.page_add-returns-in-Err-store-clause-damaged
page_add-returns-in-Err-store-clause-damaged g t c = λ damaged e tells.
    let b = g.B.BorderTree in
    let m0 : PageMap = g.S.Pages.map c.args.stage.now in
    let page : ℕ = c.args.page in
    let n : ℕ = c.args.count in
    let p = c.args.point.now in
    let not_few = c.if-count-lt64.false in
    let not_full = c.if-count-eq64.false in
    let many : 64 < n = omega (arith, not_few, not_full) in
    let m1 : PageMap = g.S.Pages.map c.stage_cuts.new.stage in
    let same : m1 ≡ m0 = c.in-Ok-stage_cuts.ensures.map in
    let went = c.in-Ok-stage_cuts.ensures.grows.went_on in
    let told = went.tells ∙ tells in
    let nodes : List CutNode = c.stage_cuts.new.cuts.nodes.items in
    let held = c.in-Ok-stage_cuts.ensures.found tells in
    let m2 : PageMap = g.S.Pages.map c.cut_add.new.stage in
    let left : OthersStay (LeadsFrom b p m0 n (BeforeCut page nodes)) m0 m2 =
    subst (λ (a : PageMap). OthersStay (LeadsFrom b p a n (BeforeCut page nodes)) a m2) same (c.in-Ok-cut_add.ensures.apart told) in
    let then = c.in-Ok-cut_add.ensures.changes.went_on in
    let is : c.in-Err-store.fault ≡ Damaged damaged = cc in
    elim (c.store.ensures.damaged damaged (c.in-Err-store.is ∙ ap (λ (fault : StageFault). Err fault) is) (then.tells ∙ told)) [
      | inl found ↦ inl (comes_here b (IsDamagedAt b p damaged) p m0 n page (inr (found.0, inr (many, (nodes, held, (m2, left, found.1))))))
      | inr unordered ↦ inr (λ order. unordered (then.free_in_order told (went.free_in_order tells order)))
    ]

pub page_add-returns-in-Ok-store-clause-apart : goal.page_add-returns-in-Ok-store-clause-apart
page_add-returns-in-Ok-store-clause-apart g t c = λ tells.
    let b = g.B.BorderTree in
    let m0 : PageMap = g.S.Pages.map c.args.stage.now in
    let page : ℕ = c.args.page in
    let n : ℕ = c.args.count in
    let p = c.args.point.now in
    let not_few = c.if-count-lt64.false in
    let not_full = c.if-count-eq64.false in
    let many : 64 < n = omega (arith, not_few, not_full) in
    let m1 : PageMap = g.S.Pages.map c.stage_cuts.new.stage in
    let same : m1 ≡ m0 = c.in-Ok-stage_cuts.ensures.map in
    let went = c.in-Ok-stage_cuts.ensures.grows.went_on in
    let told = went.tells ∙ tells in
    let nodes : List CutNode = c.stage_cuts.new.cuts.nodes.items in
    let held = c.in-Ok-stage_cuts.ensures.found tells in
    let m2 : PageMap = g.S.Pages.map c.cut_add.new.stage in
    let left : OthersStay (LeadsFrom b p m0 n (BeforeCut page nodes)) m0 m2 =
    subst (λ (a : PageMap). OthersStay (LeadsFrom b p a n (BeforeCut page nodes)) a m2) same (c.in-Ok-cut_add.ensures.apart told) in
    let then = c.in-Ok-cut_add.ensures.changes.went_on in
    stay_then (LeadsFrom b p m0 n (BeforeCut page nodes)) (λ q. q ≡ page) (LeadsFrom b p m0 n (BeforePage page)) m0 m2 (g.S.Pages.map c.store.new.stage) left
    (c.in-Ok-store.ensures.apart (then.tells ∙ told))
    (λ q x. comes_in b (ChangesAt b p q) p m0 n page nodes many held x) (λ q x. comes_here b (ChangesAt b p q) p m0 n page x)

pub cut_add-returns-in_default-clause-damaged : goal.cut_add-returns-in_default-clause-damaged
cut_add-returns-in_default-clause-damaged g t c = λ damaged e tells.
    let b = g.B.BorderTree in
    let m0 : PageMap = g.S.Pages.map c.args.stage.now in
    let p = c.args.point.now in
    let nodes : List CutNode = c.args.cuts.now.nodes.items in
    let here : List CutNode = drop c.args.place nodes in
    let others : List CutNode = drop (c.args.place + 1) nodes in
    let node : (c.args.place < length nodes) × ((d : CutNode) → c.in_default.field-0 ≡ get_or nodes c.args.place d) =
    subst (λ (o : Option CutNode). IfSome o (λ node. (c.args.place < length nodes) × ((d : CutNode) → node ≡ get_or nodes c.args.place d))) c.in_default.is c.node_at.ensures.node in
    let entry : (child : ℕ) × (c.in_default.field-0 ≡ Entry child) = search rules in
    let first : here ≡ Entry entry.0 ∷ others = node_first nodes c.args.place (Entry entry.0) node.0 (λ d. sym entry.1 ∙ node.1 d) in
    let same : damaged ≡ c.args.page = cc in
    inl (comes_no_cut b (IsDamagedAt b p damaged) p m0 c.args.count c.args.page entry.0 here others first same)

pub cut_add-returns-in_default-2-clause-damaged : goal.cut_add-returns-in_default-2-clause-damaged
cut_add-returns-in_default-2-clause-damaged g t c = λ damaged e tells.
    let b = g.B.BorderTree in
    let m0 : PageMap = g.S.Pages.map c.args.stage.now in
    let p = c.args.point.now in
    let nodes : List CutNode = c.args.cuts.now.nodes.items in
    let same : damaged ≡ c.args.page = cc in
    inl (comes_no_node b (IsDamagedAt b p damaged) p m0 c.args.count c.args.page (drop c.args.place nodes) (none_from nodes c.args.place (c.node_at.ensures.none c.in_default.is)) same)

pub cut_add-returns-in-Ok-clause-begins : goal.cut_add-returns-in-Ok-clause-begins
cut_add-returns-in-Ok-clause-begins g t c = λ tells.
    let b = g.B.BorderTree in
    let m0 : PageMap = g.S.Pages.map c.args.stage.now in
    let page : ℕ = c.args.page in
    let n : ℕ = c.args.count in
    let p = c.args.point.now in
    let nodes : List CutNode = c.args.cuts.now.nodes.items in
    let here : List CutNode = drop c.args.place nodes in
    let others : List CutNode = drop (c.args.place + 1) nodes in
    let cut = c.in-Some-Cut in
    let first : here ≡ Cut cut.dimension cut.key cut.low cut.border ∷ others =
    node_first nodes c.args.place (Cut cut.dimension cut.key cut.low cut.border) cut.ensures.node.0 (λ d. sym cut.field-0-is ∙ cut.ensures.node.1 d) in
    let goes : (GoesLow p cut.dimension cut.key × (c.if-goes_low.low_after ≡ cut.low + 1)) ⊎ (GoesHigh p cut.dimension cut.key × (c.if-goes_low.low_after ≡ cut.low)) = elim c.if-goes_low.branch [
      | cut_add-then-goes_low w ↦ let below : slice_index p.keys cut.dimension < cut.key = rw c.from.ensures at w.if-goes_low.true in inl (below, w.low_after-is)
      | cut_add-else-goes_low w ↦ let beyond : cut.key ≤ slice_index p.keys cut.dimension = rw c.from.ensures at w.if-goes_low.false in inr (beyond, w.low_after-is)
    ] in
    let anew : IsMadeAnew p n cut.dimension cut.key cut.low = goes_anew p n cut.dimension cut.key cut.low c.if-goes_low.low_after goes
    (λ balanced. false≢true (sym c.if-not-is_balanced.true ∙ c.is_balanced.ensures.1 balanced)) in
    let sound = c.is_sound.ensures.0 c.if-not-is_sound.false in
    let cuts : List CutNode = c.part_anew.new.cuts.nodes.items in
    begins_more (IsOfPartThere b m0 n here) (LeadsFrom b p m0 n (BeforeCut page here)) m0 nodes cuts (c.in-Ok.ensures.begins tells)
    (λ q x. comes_at_cut b (ChangesAt b p q) p m0 n page cut.dimension cut.key cut.low cut.border here others first (sound, inr (anew, subst (λ (ns : List CutNode). IsOfPartThere b m0 n ns q) first x)))

pub cut_add-returns-in-Ok-part_add-clause-begins : goal.cut_add-returns-in-Ok-part_add-clause-begins
cut_add-returns-in-Ok-part_add-clause-begins g t c = λ tells.
    let b = g.B.BorderTree in
    let m0 : PageMap = g.S.Pages.map c.args.stage.now in
    let page : ℕ = c.args.page in
    let n : ℕ = c.args.count in
    let p = c.args.point.now in
    let nodes : List CutNode = c.args.cuts.now.nodes.items in
    let here : List CutNode = drop c.args.place nodes in
    let others : List CutNode = drop (c.args.place + 1) nodes in
    let cut = c.in-Some-Cut in
    let first : here ≡ Cut cut.dimension cut.key cut.low cut.border ∷ others =
    node_first nodes c.args.place (Cut cut.dimension cut.key cut.low cut.border) cut.ensures.node.0 (λ d. sym cut.field-0-is ∙ cut.ensures.node.1 d) in
    let sound = c.is_sound.ensures.0 c.if-not-is_sound.false in
    let beyond : cut.key ≤ slice_index p.keys cut.dimension = rw c.from.ensures at c.if-not-goes_low.true in
    let low_is : c.if-goes_low.low_after ≡ cut.low = elim c.if-goes_low.branch [
      | cut_add-then-goes_low w ↦ absurd (let below = w.if-goes_low.true in let above = c.if-not-goes_low.true in omega (arith, below, above))
      | cut_add-else-goes_low w ↦ w.low_after-is
    ] in
    let stays : IsBalancedCut (n + 1) cut.low = subst (λ (k : ℕ). IsBalancedCut (n + 1) k) low_is (c.is_balanced.ensures.0 c.if-not-is_balanced.false) in
    let highs : List CutNode = drop c.high_place-high.result nodes in
    let after = c.high_place-high.ensures.rest in
    begins_more (LeadsFrom b p m0 (n - cut.low) (BeforePart page highs)) (LeadsFrom b p m0 n (BeforeCut page here)) m0 nodes c.part_add.new.cuts.nodes.items (c.in-Ok-part_add.ensures.begins tells)
    (λ q x. comes_high b (ChangesAt b p q) p m0 n page cut.dimension cut.key cut.low cut.border here others first highs sound beyond stays after x)

pub cut_add-returns-in-Ok-part_add-2-clause-begins : goal.cut_add-returns-in-Ok-part_add-2-clause-begins
cut_add-returns-in-Ok-part_add-2-clause-begins g t c = λ tells.
    let b = g.B.BorderTree in
    let m0 : PageMap = g.S.Pages.map c.args.stage.now in
    let page : ℕ = c.args.page in
    let n : ℕ = c.args.count in
    let p = c.args.point.now in
    let nodes : List CutNode = c.args.cuts.now.nodes.items in
    let here : List CutNode = drop c.args.place nodes in
    let others : List CutNode = drop (c.args.place + 1) nodes in
    let cut = c.in-Some-Cut in
    let first : here ≡ Cut cut.dimension cut.key cut.low cut.border ∷ others =
    node_first nodes c.args.place (Cut cut.dimension cut.key cut.low cut.border) cut.ensures.node.0 (λ d. sym cut.field-0-is ∙ cut.ensures.node.1 d) in
    let sound = c.is_sound.ensures.0 c.if-not-is_sound.false in
    let below : slice_index p.keys cut.dimension < cut.key = rw c.from.ensures at c.if-not-goes_low.false in
    let low_is : c.if-goes_low.low_after ≡ cut.low + 1 = elim c.if-goes_low.branch [
      | cut_add-then-goes_low w ↦ w.low_after-is
      | cut_add-else-goes_low w ↦ absurd (let above = w.if-goes_low.false in let under = c.if-not-goes_low.false in omega (arith, above, under))
    ] in
    let stays : IsBalancedCut (n + 1) (cut.low + 1) = subst (λ (k : ℕ). IsBalancedCut (n + 1) k) low_is (c.is_balanced.ensures.0 c.if-not-is_balanced.false) in
    let m1 : PageMap = g.S.Pages.map c.border_add.new.stage in
    let went = c.in-Ok-border_add.ensures.changes.went_on in
    let leaves = c.in-Ok-border_add.ensures.apart tells in
    let changed : List CutNode = c.set_cut.new.page.nodes.items in
    let lows : List CutNode = drop (c.args.place + 1) changed in
    let same : lows ≡ others = ap (λ (ns : List CutNode). drop (c.args.place + 1) ns) c.set_cut.ensures.set
    ∙ behind_set nodes c.args.place (Cut cut.dimension cut.key (cut.low + 1) c.in-Ok-border_add.border) in
    begins_low (λ q. (64 < cut.low) × b.may_change m0 cut.border (without_dimension cut.dimension p) q) (LeadsFrom b p m1 cut.low (BeforePart page lows)) (LeadsFrom b p m0 n (BeforeCut page here)) m0 m1
    nodes changed c.part_add-in-Ok-border_add.new.cuts.nodes.items c.args.place (Cut cut.dimension cut.key (cut.low + 1) c.in-Ok-border_add.border) refl c.set_cut.ensures.set leaves
    (c.in-Ok-part_add-2.ensures.begins (went.tells ∙ tells))
    (λ q x. comes_at_cut b (ChangesAt b p q) p m0 n page cut.dimension cut.key cut.low cut.border here others first (sound, inl ((below, stays), x)))
    (λ q x. comes_low b (ChangesAt b p q) p m0 n page cut.dimension cut.key cut.low cut.border here others first m1 lows sound (below, stays) leaves same x)

pub part_add-returns-in-Ok-clause-begins : goal.part_add-returns-in-Ok-clause-begins
part_add-returns-in-Ok-clause-begins g t c = λ tells.
    let b = g.B.BorderTree in
    let m0 : PageMap = g.S.Pages.map c.args.stage.now in
    let page : ℕ = c.args.page in
    let n : ℕ = c.args.count in
    let p = c.args.point.now in
    let nodes : List CutNode = c.args.cuts.now.nodes.items in
    let here : List CutNode = drop c.args.place nodes in
    let others : List CutNode = drop (c.args.place + 1) nodes in
    let cut = c.in-Some-Cut in
    let first : here ≡ Cut cut.field-0-0 cut.field-0-1 cut.field-0-2 cut.field-0-3 ∷ others =
    node_first nodes c.args.place (Cut cut.field-0-0 cut.field-0-1 cut.field-0-2 cut.field-0-3) cut.ensures.node.0 (λ d. sym cut.field-0-is ∙ cut.ensures.node.1 d) in
    begins_more (LeadsFrom b p m0 n (BeforeCut page here)) (LeadsFrom b p m0 n (BeforePart page here)) m0 nodes c.cut_add.new.cuts.nodes.items (c.in-Ok.ensures.begins tells)
    (λ q x. comes_cut b (ChangesAt b p q) p m0 n page cut.field-0-0 cut.field-0-1 cut.field-0-2 cut.field-0-3 here others first x)

pub part_add-returns-in-Ok-page_add-clause-begins : goal.part_add-returns-in-Ok-page_add-clause-begins
part_add-returns-in-Ok-page_add-clause-begins g t c = λ tells.
    let b = g.B.BorderTree in
    let m0 : PageMap = g.S.Pages.map c.args.stage.now in
    let page : ℕ = c.args.page in
    let n : ℕ = c.args.count in
    let p = c.args.point.now in
    let nodes : List CutNode = c.args.cuts.now.nodes.items in
    let here : List CutNode = drop c.args.place nodes in
    let others : List CutNode = drop (c.args.place + 1) nodes in
    let entry = c.in-Some-Entry in
    let first : here ≡ Entry entry.child ∷ others = node_first nodes c.args.place (Entry entry.child) entry.ensures.node.0 (λ d. sym entry.field-0-is ∙ entry.ensures.node.1 d) in
    let changed : List CutNode = c.take_change.new.cuts.nodes.items in
    begins_more (LeadsFrom b p m0 n (BeforePage entry.child)) (LeadsFrom b p m0 n (BeforePart page here)) m0 nodes changed
    (begins_taken (LeadsFrom b p m0 n (BeforePage entry.child)) m0 nodes changed c.args.place entry.child c.in-Ok-page_add.change entry.ensures.node.0 (λ d. sym entry.field-0-is ∙ entry.ensures.node.1 d)
    c.in-Ok-page_add.ensures.fits (c.in-Ok-page_add.ensures.named tells) c.take_change.ensures.taken)
    (λ q x. comes_entry b (ChangesAt b p q) p m0 n page entry.child here others first x)

pub page_add-returns-in-Ok-store-clause-named : goal.page_add-returns-in-Ok-store-clause-named
page_add-returns-in-Ok-store-clause-named g t c = λ tells first alone.
    let b = g.B.BorderTree in
    let m0 : PageMap = g.S.Pages.map c.args.stage.now in
    let page : ℕ = c.args.page in
    let n : ℕ = c.args.count in
    let p = c.args.point.now in
    let not_few = c.if-count-lt64.false in
    let not_full = c.if-count-eq64.false in
    let many : 64 < n = omega (arith, not_few, not_full) in
    let m1 : PageMap = g.S.Pages.map c.stage_cuts.new.stage in
    let same : m1 ≡ m0 = c.in-Ok-stage_cuts.ensures.map in
    let went = c.in-Ok-stage_cuts.ensures.grows.went_on in
    let told = went.tells ∙ tells in
    let nodes : List CutNode = c.stage_cuts.new.cuts.nodes.items in
    let held = c.in-Ok-stage_cuts.ensures.found tells in
    let m2 : PageMap = g.S.Pages.map c.cut_add.new.stage in
    let left : OthersStay (LeadsFrom b p m0 n (BeforeCut page nodes)) m0 m2 =
    subst (λ (a : PageMap). OthersStay (LeadsFrom b p a n (BeforeCut page nodes)) a m2) same (c.in-Ok-cut_add.ensures.apart told) in
    let begins : MayBegin (LeadsFrom b p m0 n (BeforeCut page nodes)) m0 nodes c.cut_add.new.cuts.nodes.items =
    subst (λ (a : PageMap). MayBegin (LeadsFrom b p a n (BeforeCut page nodes)) a nodes c.cut_add.new.cuts.nodes.items) same (c.in-Ok-cut_add.ensures.begins told) in
    named_alone (LeadsFrom b p m0 n (BeforeCut page nodes)) (LeadsFrom b p m0 n (BeforePage page)) m0 nodes c.cut_add.new.cuts.nodes.items page first c.in-Ok-stage_cuts.ensures.nodes
    c.in-Ok-stage_cuts.ensures.many.0 begins (c.in-Ok-store.ensures.alone first alone) (λ q x. comes_in b (ChangesAt b p q) p m0 n page nodes many held x)
