use Rattle.std.proofs.Common.{rules, ap, sym, subst, ◌∙◌, ◌≡◌, ◌++◌, ◌∷◌, ◌-◌, List, [], ℕ, suc, length, inl, inr, Err, arith, append_assoc}
use Rattle.std.proofs.lemmas.Bool.{false≢true}
use Rattle.std.proofs.lemmas.Result.{on_ok_weaker}
use Rattle.bw_types.specs.declared.point.Point.{Point}
use Rattle.ports.specs.Pages.{PageMap}
use Rattle.ports.specs.declared.page.PageFault.{PageFault}
use Rattle.page_layout.specs.declared.cut_page.CutNode.{CutNode}
use Rattle.page_layout.specs.declared.cut_page.CutNode.TheVariants.{Entry, Cut}
use Rattle.cut_parts.specs.Damage.{BeforeCut, BeforePart}
use Rattle.cut_parts.specs.Parts.{points_of}
use Rattle.cut_parts.specs.Reach.{IsDamagedForCollect, IsNotAsTold}
use Rattle.cut_parts.specs.Spelling.{nodes_of}
use Rattle.cut_parts.specs.Standing.{PartStands}
use Rattle.cut_parts.proofs.PartNodes.{IsCutOf, cut_of, entry_of}
use Rattle.ba_tree.specs.Collected.{IsCollected}
use Rattle.ba_tree.proofs.Cuts.{cut_is_sound, first_node, in_page, sides_of}
use Rattle.ba_tree.proofs.There.{cut_there, entry_there, leaf_there, page_points, page_there, no_nodes, some_node, walks_at_cut, walks_cut, walks_entry, walks_here, walks_high, walks_in, walks_low}
use Rattle.ba_tree.proofs.collecting.+collects.Goals as goal

pub collect_cut-returns-in-Ok-collect_nodes-clause-points : goal.collect_cut-returns-in-Ok-collect_nodes-clause-points
collect_cut-returns-in-Ok-collect_nodes-clause-points g t c = λ tells part rest nodes_are stands.
    let b = g.B.BorderTree in
    let m : PageMap = g.P.Pages.map c.args.pages.now in
    let begun : Cut c.in-Cut.dimension c.in-Cut.key c.in-Cut.low c.in-Cut.border ∷ c.in-Some.rest.now ≡ c.args.nodes.now = search rules in
    let cut : IsCutOf part c.in-Cut.dimension c.in-Cut.key c.in-Cut.low c.in-Cut.border c.in-Some.rest.now rest =
    cut_of part c.in-Cut.dimension c.in-Cut.key c.in-Cut.low c.in-Cut.border c.in-Some.rest.now rest (begun ∙ nodes_are) in
    let sides = sides_of b m c.args.count c.in-Cut.dimension c.in-Cut.key c.in-Cut.low c.in-Cut.border part c.in-Some.rest.now rest cut stands in
    let read = c.in-Ok.ensures.reads.read in
    let after : c.after_part-high.result.now ≡ nodes_of cut.high_side ++ rest = c.after_part-high.ensures.part cut.low_side (nodes_of cut.high_side ++ rest) cut.nodes_are in
    let first = c.in-Ok.ensures.points tells cut.low_side (nodes_of cut.high_side ++ rest) cut.nodes_are sides.low_stands in
    let second = c.in-Ok-collect_nodes.ensures.points (read.tells ∙ tells) cut.high_side rest after
    (subst (λ (n : PageMap). PartStands b n (c.args.count - c.in-Cut.low) cut.high_side) (sym read.map) sides.high_stands) in
    let old : List Point = c.args.points.now.items in
    second ∙ ap (λ (ps : List Point). ps ++ points_of cut.high_side) first ∙ append_assoc old (points_of cut.low_side) (points_of cut.high_side)
    ∙ ap (λ (ps : List Point). old ++ ps) (sym sides.points)

pub collect_nodes-returns-in-Err-clause-sound : goal.collect_nodes-returns-in-Err-clause-sound
collect_nodes-returns-in-Err-clause-sound g t c = λ part rest damaged tells nodes_are stands e.
    let first = first_node c.args.nodes.now (Entry c.in-Some-Entry.child) (search rules) (search rules) in
    let begins = entry_of part c.in-Some-Entry.child first.0 rest (sym first.1 ∙ nodes_are) in
    c.collect_page.ensures.sound part damaged tells begins.0 stands (c.in-Err.is ∙ e)

pub collect_page-returns-in-Err-clause-sound : goal.collect_page-returns-in-Err-clause-sound
collect_page-returns-in-Err-clause-sound g t c = λ part damaged tells begins stands e.
    let b = g.B.BorderTree in
    let m : PageMap = g.P.Pages.map c.args.pages.now in
    let read = c.in-Ok.ensures.reads.read in
    let at = in_page b m c.args.count c.args.page c.read_cuts.new.cuts.nodes.items part begins c.if-count-le64.false (c.in-Ok.ensures.found tells) stands in
    c.collect_cut.ensures.sound at.cut [] damaged (read.tells ∙ tells) (c.as_slice.ensures.value ∙ at.nodes_are) at.inside
    (subst (λ (n : PageMap). PartStands b n c.args.count at.cut) (sym read.map) at.stands) (c.in-Err.is ∙ e)

pub collect_page-returns-in-Ok-collect_cut-clause-points : goal.collect_page-returns-in-Ok-collect_cut-clause-points
collect_page-returns-in-Ok-collect_cut-clause-points g t c = λ tells part begins stands.
    let b = g.B.BorderTree in
    let m : PageMap = g.P.Pages.map c.args.pages.now in
    let read = c.in-Ok.ensures.reads.read in
    let at = in_page b m c.args.count c.args.page c.read_cuts.new.cuts.nodes.items part begins c.if-count-le64.false (c.in-Ok.ensures.found tells) stands in
    c.in-Ok-collect_cut.ensures.points (read.tells ∙ tells) at.cut [] (c.as_slice.ensures.value ∙ at.nodes_are)
    (subst (λ (n : PageMap). PartStands b n c.args.count at.cut) (sym read.map) at.stands)
    ∙ ap (λ (ps : List Point). c.args.points.now.items ++ ps) at.points

pub collect_cut-returns-then-not-is_sound-clause-sound : goal.collect_cut-returns-then-not-is_sound-clause-sound
collect_cut-returns-then-not-is_sound-clause-sound g t c = λ part rest damaged tells nodes_are inside stands e.
    let b = g.B.BorderTree in
    let m : PageMap = g.P.Pages.map c.args.pages.now in
    let begun : Cut c.in-Cut.dimension c.in-Cut.key c.in-Cut.low c.in-Cut.border ∷ c.in-Some.rest.now ≡ c.args.nodes.now = search rules in
    let cut : IsCutOf part c.in-Cut.dimension c.in-Cut.key c.in-Cut.low c.in-Cut.border c.in-Some.rest.now rest =
    cut_of part c.in-Cut.dimension c.in-Cut.key c.in-Cut.low c.in-Cut.border c.in-Some.rest.now rest (begun ∙ nodes_are) in
    let sound = cut_is_sound b c.laws_of_borders.ensures m c.args.count c.in-Cut.dimension c.in-Cut.key c.in-Cut.low c.in-Cut.border part c.in-Some.rest.now rest cut stands in
    absurd (false≢true (sym c.if-not-is_sound.true ∙ c.is_sound.ensures.1 sound))

pub collect_cut-returns-then-not-is_sound-clause-damaged : goal.collect_cut-returns-then-not-is_sound-clause-damaged
collect_cut-returns-then-not-is_sound-clause-damaged g t c = λ damaged e tells.
    let dims : ℕ = suc g.B.BorderTree.DIMS in
    let m : PageMap = g.P.Pages.map c.args.pages.now in
    let begun : Cut c.in-Cut.dimension c.in-Cut.key c.in-Cut.low c.in-Cut.border ∷ c.in-Some.rest.now ≡ c.args.nodes.now = search rules in
    let same : damaged ≡ c.args.page = cc in
    walks_at_cut dims (IsNotAsTold dims damaged m) m c.args.count c.args.page c.in-Cut.dimension c.in-Cut.key c.in-Cut.low c.in-Cut.border c.args.nodes.now c.in-Some.rest.now (sym begun)
    (same, λ sound. false≢true (sym c.if-not-is_sound.true ∙ c.is_sound.ensures.1 sound))

pub collect_cut-returns-in-Err-clause-damaged : goal.collect_cut-returns-in-Err-clause-damaged
collect_cut-returns-in-Err-clause-damaged g t c = λ damaged e tells.
    let dims : ℕ = suc g.B.BorderTree.DIMS in
    let m : PageMap = g.P.Pages.map c.args.pages.now in
    let begun : Cut c.in-Cut.dimension c.in-Cut.key c.in-Cut.low c.in-Cut.border ∷ c.in-Some.rest.now ≡ c.args.nodes.now = search rules in
    let sound = c.is_sound.ensures.0 c.if-not-is_sound.false in
    walks_low dims (IsNotAsTold dims damaged m) m c.args.count c.args.page c.in-Cut.dimension c.in-Cut.key c.in-Cut.low c.in-Cut.border c.args.nodes.now c.in-Some.rest.now (sym begun) sound
    (c.collect_nodes.ensures.damaged damaged (c.in-Err.is ∙ e) tells)

pub collect_cut-returns-in-Err-collect_nodes-clause-sound : goal.collect_cut-returns-in-Err-collect_nodes-clause-sound
collect_cut-returns-in-Err-collect_nodes-clause-sound g t c = λ part rest damaged tells nodes_are inside stands e.
    let b = g.B.BorderTree in
    let m : PageMap = g.P.Pages.map c.args.pages.now in
    let begun : Cut c.in-Cut.dimension c.in-Cut.key c.in-Cut.low c.in-Cut.border ∷ c.in-Some.rest.now ≡ c.args.nodes.now = search rules in
    let cut : IsCutOf part c.in-Cut.dimension c.in-Cut.key c.in-Cut.low c.in-Cut.border c.in-Some.rest.now rest =
    cut_of part c.in-Cut.dimension c.in-Cut.key c.in-Cut.low c.in-Cut.border c.in-Some.rest.now rest (begun ∙ nodes_are) in
    let sides = sides_of b m c.args.count c.in-Cut.dimension c.in-Cut.key c.in-Cut.low c.in-Cut.border part c.in-Some.rest.now rest cut stands in
    let read = c.in-Ok.ensures.reads.read in
    let after : c.after_part-high.result.now ≡ nodes_of cut.high_side ++ rest = c.after_part-high.ensures.part cut.low_side (nodes_of cut.high_side ++ rest) cut.nodes_are in
    c.collect_nodes-in-Ok.ensures.sound cut.high_side rest damaged (read.tells ∙ tells) after
    (subst (λ (n : PageMap). PartStands b n (c.args.count - c.in-Cut.low) cut.high_side) (sym read.map) sides.high_stands) (c.in-Err-collect_nodes.is ∙ e)

pub collect_cut-returns-in-Err-collect_nodes-clause-damaged : goal.collect_cut-returns-in-Err-collect_nodes-clause-damaged
collect_cut-returns-in-Err-collect_nodes-clause-damaged g t c = λ damaged e tells.
    let dims : ℕ = suc g.B.BorderTree.DIMS in
    let m : PageMap = g.P.Pages.map c.args.pages.now in
    let begun : Cut c.in-Cut.dimension c.in-Cut.key c.in-Cut.low c.in-Cut.border ∷ c.in-Some.rest.now ≡ c.args.nodes.now = search rules in
    let sound = c.is_sound.ensures.0 c.if-not-is_sound.false in
    let read = c.in-Ok.ensures.reads.read in
    let high : List CutNode = c.after_part-high.result.now in
    walks_high dims (IsNotAsTold dims damaged m) m c.args.count c.args.page c.in-Cut.dimension c.in-Cut.key c.in-Cut.low c.in-Cut.border c.args.nodes.now c.in-Some.rest.now high (sym begun) sound
    c.after_part-high.ensures.after
    (subst (λ (a : PageMap). IsDamagedForCollect dims a (c.args.count - c.in-Cut.low) (BeforePart c.args.page high) damaged) read.map
    (c.collect_nodes-in-Ok.ensures.damaged damaged (c.in-Err-collect_nodes.is ∙ e) (read.tells ∙ tells)))

pub collect_cut-returns-in-Ok-collect_nodes-clause-there : goal.collect_cut-returns-in-Ok-collect_nodes-clause-there
collect_cut-returns-in-Ok-collect_nodes-clause-there g t c = λ tells.
    let dims : ℕ = suc g.B.BorderTree.DIMS in
    let m : PageMap = g.P.Pages.map c.args.pages.now in
    let n : ℕ = c.args.count in
    let begun : Cut c.in-Cut.dimension c.in-Cut.key c.in-Cut.low c.in-Cut.border ∷ c.in-Some.rest.now ≡ c.args.nodes.now = search rules in
    let sound = c.is_sound.ensures.0 c.if-not-is_sound.false in
    let read = c.in-Ok.ensures.reads.read in
    let high : List CutNode = c.after_part-high.result.now in
    let old : List Point = c.args.points.now.items in
    let mid : List Point = c.collect_nodes.new.points.items in
    let last : List Point = c.collect_nodes-in-Ok.new.points.items in
    let first : IsCollected m c.in-Cut.low c.in-Some.rest.now old mid = c.in-Ok.ensures.there tells in
    let second : IsCollected m (n - c.in-Cut.low) high mid last =
    subst (λ (a : PageMap). IsCollected a (n - c.in-Cut.low) high mid last) read.map (c.in-Ok-collect_nodes.ensures.there (read.tells ∙ tells)) in
    record {
      is = cut_there m dims n c.in-Cut.dimension c.in-Cut.key c.in-Cut.low c.in-Cut.border c.args.nodes.now c.in-Some.rest.now high (sym begun) sound first.is
          c.after_part-high.ensures.after second.is;
      points = second.points ∙ ap (λ (ps : List Point). ps ++ points_of second.is.part) first.points ∙ append_assoc old (points_of first.is.part) (points_of second.is.part);
    }

pub collect_nodes-returns-in-Err-clause-damaged : goal.collect_nodes-returns-in-Err-clause-damaged
collect_nodes-returns-in-Err-clause-damaged g t c = λ damaged e tells.
    let dims : ℕ = suc g.B.BorderTree.DIMS in
    let m : PageMap = g.P.Pages.map c.args.pages.now in
    let first = first_node c.args.nodes.now (Entry c.in-Some-Entry.child) (search rules) (search rules) in
    walks_entry dims (IsNotAsTold dims damaged m) m c.args.count c.args.page c.in-Some-Entry.child c.args.nodes.now first.0 first.1
    (c.collect_page.ensures.damaged damaged (c.in-Err.is ∙ e) tells)

pub collect_nodes-returns-in-Ok-clause-there : goal.collect_nodes-returns-in-Ok-clause-there
collect_nodes-returns-in-Ok-clause-there g t c = λ tells.
    let m : PageMap = g.P.Pages.map c.args.pages.now in
    let first = first_node c.args.nodes.now (Entry c.in-Some-Entry.child) (search rules) (search rules) in
    let k = c.in-Ok.ensures.there tells in
    record { is = entry_there m c.in-Some-Entry.child c.args.count c.args.nodes.now first.0 first.1 k.is; points = k.points }

pub collect_page-returns-then-count-le64-clause-there : goal.collect_page-returns-then-count-le64-clause-there
collect_page-returns-then-count-le64-clause-there g t c = on_ok_weaker c.collect_leaf.result (λ told tells.
    let m : PageMap = g.P.Pages.map c.args.pages.now in
    let k = told tells in
    record { is = leaf_there m c.args.page c.args.count k.0 [] k.1 k.2 k.3 c.if-count-le64.true; points = k.4 }) c.collect_leaf.ensures.there

pub collect_page-returns-then-count-le64-clause-damaged : goal.collect_page-returns-then-count-le64-clause-damaged
collect_page-returns-then-count-le64-clause-damaged g t c = λ damaged e tells.
    let dims : ℕ = suc g.B.BorderTree.DIMS in
    let m : PageMap = g.P.Pages.map c.args.pages.now in
    let why = c.collect_leaf.ensures.damaged damaged e in
    walks_here dims (IsNotAsTold dims damaged m) m c.args.count c.args.page (why.0, inl (c.if-count-le64.true, why.1 tells))

pub collect_page-returns-in-Err-Damaged-clause-damaged : goal.collect_page-returns-in-Err-Damaged-clause-damaged
collect_page-returns-in-Err-Damaged-clause-damaged g t c = λ damaged e tells.
    let dims : ℕ = suc g.B.BorderTree.DIMS in
    let m : PageMap = g.P.Pages.map c.args.pages.now in
    let why = c.read_cuts.ensures.damaged c.in-Err-Damaged.damaged (c.in-Err-Damaged.is ∙ ap (λ (fault : PageFault). Err fault) c.in-Err-Damaged.field-0-is) in
    let same : damaged ≡ c.args.page = (let is : c.in-Err-Damaged.damaged ≡ damaged = cc in sym is ∙ why.0) in
    walks_here dims (IsNotAsTold dims damaged m) m c.args.count c.args.page (same, inr (omega (arith, c.if-count-le64.false), why.1 tells))

pub collect_page-returns-in-Err-clause-damaged : goal.collect_page-returns-in-Err-clause-damaged
collect_page-returns-in-Err-clause-damaged g t c = λ damaged e tells.
    let dims : ℕ = suc g.B.BorderTree.DIMS in
    let m : PageMap = g.P.Pages.map c.args.pages.now in
    let read = c.in-Ok.ensures.reads.read in
    let nodes : List CutNode = c.read_cuts.new.cuts.nodes.items in
    walks_in dims (IsNotAsTold dims damaged m) m c.args.count c.args.page nodes (omega (arith, c.if-count-le64.false)) (c.in-Ok.ensures.found tells)
    (subst (λ (ns : List CutNode). IsDamagedForCollect dims m c.args.count (BeforeCut c.args.page ns) damaged) c.as_slice.ensures.value
    (subst (λ (a : PageMap). IsDamagedForCollect dims a c.args.count (BeforeCut c.args.page c.as_slice.result.now) damaged) read.map
    (c.collect_cut.ensures.damaged damaged (c.in-Err.is ∙ e) (read.tells ∙ tells))))

pub collect_page-returns-in-Ok-collect_cut-clause-there : goal.collect_page-returns-in-Ok-collect_cut-clause-there
collect_page-returns-in-Ok-collect_cut-clause-there g t c = λ tells.
    let m : PageMap = g.P.Pages.map c.args.pages.now in
    let n : ℕ = c.args.count in
    let read = c.in-Ok.ensures.reads.read in
    let nodes : List CutNode = c.read_cuts.new.cuts.nodes.items in
    let old : List Point = c.args.points.now.items in
    let last : List Point = c.collect_cut.new.points.items in
    let found : IsCollected (g.P.Pages.map c.read_cuts.new.pages) n c.as_slice.result.now old last = c.in-Ok-collect_cut.ensures.there (read.tells ∙ tells) in
    let k : IsCollected m n nodes old last = subst (λ (ns : List CutNode). IsCollected m n ns old last) c.as_slice.ensures.value
    (subst (λ (a : PageMap). IsCollected a n c.as_slice.result.now old last) read.map found) in
    let held = c.in-Ok.ensures.found tells in
    record {
      is = page_there m c.args.page n nodes held c.in-Ok.ensures.nodes c.in-Ok.ensures.many.0 k.is;
      points = k.points ∙ ap (λ (ps : List Point). old ++ ps) (sym (page_points m c.args.page n nodes held c.in-Ok.ensures.nodes c.in-Ok.ensures.many.0 k.is));
    }

pub collect_nodes-returns-in-None-clause-sound : goal.collect_nodes-returns-in-None-clause-sound
collect_nodes-returns-in-None-clause-sound g t c = λ part rest damaged tells nodes_are stands e.
    let zero : length c.args.nodes.now ≡ 0 = search rules in
    some_node part rest (sym (no_nodes c.args.nodes.now zero) ∙ nodes_are)

pub collect_nodes-returns-in-Err-collect_cut-clause-damaged : goal.collect_nodes-returns-in-Err-collect_cut-clause-damaged
collect_nodes-returns-in-Err-collect_cut-clause-damaged g t c = λ damaged e tells.
    let dims : ℕ = suc g.B.BorderTree.DIMS in
    let m : PageMap = g.P.Pages.map c.args.pages.now in
    let cut = c.in-Some-Cut in
    let first = first_node c.args.nodes.now (Cut cut.field-0-0 cut.field-0-1 cut.field-0-2 cut.field-0-3) (search rules) (search rules) in
    walks_cut dims (IsNotAsTold dims damaged m) m c.args.count c.args.page cut.field-0-0 cut.field-0-1 cut.field-0-2 cut.field-0-3 c.args.nodes.now first.0 first.1
    (c.collect_cut.ensures.damaged damaged (c.in-Err-collect_cut.is ∙ e) tells)
