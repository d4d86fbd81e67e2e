use Rattle.std.proofs.Common.{rules, sym, subst, ap, ◌∙◌, ◌≡◌, ◌++◌, ◌∷◌, ◌-◌, List, [], ℕ, suc, length, Err, arith}
use Rattle.std.proofs.lemmas.Bool.{false≢true}
use Rattle.ports.specs.Pages.{PageMap}
use Rattle.ports.specs.declared.page.StageFault.{StageFault}
use Rattle.ports.specs.declared.page.StageFault.TheVariants.{Damaged}
use Rattle.page_layout.specs.declared.cut_page.CutNode.{CutNode}
use Rattle.page_layout.specs.declared.cut_page.CutNode.TheVariants.{Entry, Cut}
use Rattle.cut_parts.specs.Damage.{BeforeCut}
use Rattle.cut_parts.specs.Reach.{IsDamagedForDrop, IsDropped}
use Rattle.cut_parts.specs.Parts.{border_points, points_of}
use Rattle.cut_parts.specs.Spelling.{nodes_of}
use Rattle.cut_parts.specs.Standing.{part_pages}
use Rattle.cut_parts.proofs.PartNodes.{IsCutOf, cut_of, entry_of}
use Rattle.ba_tree.proofs.Cuts.{cut_is_sound, first_node, in_page, sides_of}
use Rattle.ba_tree.proofs.Gone as gone
use Rattle.ba_tree.proofs.Leaving.{cut_dropped, cut_left, high_left, low_left, page_dropped}
use Rattle.ba_tree.proofs.Refusing.{cut_refused, cuts_refused, drops_border, drops_cut, drops_entry, drops_high, drops_in, drops_low, leaf_refused}
use Rattle.ba_tree.proofs.There.{no_nodes, some_node}
use Rattle.ba_tree.proofs.dropping.+drops.Goals as goal

pub drop_cut-returns-in-Err-drop_nodes-clause-sound : goal.drop_cut-returns-in-Err-drop_nodes-clause-sound
drop_cut-returns-in-Err-drop_nodes-clause-sound g t c = λ part rest damaged tells nodes_are inside stands once e.
    let b = g.B.BorderTree in
    let m : PageMap = g.S.Pages.map c.args.stage.now in
    let begun : Cut c.in-Cut.dimension c.in-Cut.key c.in-Cut.low c.in-Cut.border ∷ c.in-Some.rest.now ≡ c.args.nodes.now = search rules in
    let cut : IsCutOf part c.in-Cut.dimension c.in-Cut.key c.in-Cut.low c.in-Cut.border c.in-Some.rest.now rest =
    cut_of part c.in-Cut.dimension c.in-Cut.key c.in-Cut.low c.in-Cut.border c.in-Some.rest.now rest (begun ∙ nodes_are) in
    let sides = sides_of b m c.args.count c.in-Cut.dimension c.in-Cut.key c.in-Cut.low c.in-Cut.border part c.in-Some.rest.now rest cut stands in
    let first = c.in-Ok.ensures.dropped tells (border_points c.in-Cut.dimension (points_of cut.low_side)) sides.few sides.many in
    let low = low_left b c.laws_of_borders.ensures m c.args.count c.in-Cut.dimension c.in-Cut.low c.in-Cut.border part cut.low_side cut.high_side sides once
    (g.S.Pages.map c.drop_border.new.stage) first in
    c.drop_nodes.ensures.sound cut.low_side (nodes_of cut.high_side ++ rest) damaged (c.in-Ok.ensures.changes.went_on.tells ∙ tells) cut.nodes_are low.stands low.once
    (c.in-Err-drop_nodes.is ∙ e)

pub drop_cut-returns-in-Err-drop_nodes-2-clause-sound : goal.drop_cut-returns-in-Err-drop_nodes-2-clause-sound
drop_cut-returns-in-Err-drop_nodes-2-clause-sound g t c = λ part rest damaged tells nodes_are inside stands once e.
    let b = g.B.BorderTree in
    let m : PageMap = g.S.Pages.map c.args.stage.now in
    let begun : Cut c.in-Cut.dimension c.in-Cut.key c.in-Cut.low c.in-Cut.border ∷ c.in-Some.rest.now ≡ c.args.nodes.now = search rules in
    let cut : IsCutOf part c.in-Cut.dimension c.in-Cut.key c.in-Cut.low c.in-Cut.border c.in-Some.rest.now rest =
    cut_of part c.in-Cut.dimension c.in-Cut.key c.in-Cut.low c.in-Cut.border c.in-Some.rest.now rest (begun ∙ nodes_are) in
    let sides = sides_of b m c.args.count c.in-Cut.dimension c.in-Cut.key c.in-Cut.low c.in-Cut.border part c.in-Some.rest.now rest cut stands in
    let after : c.after_part.result.now ≡ nodes_of cut.high_side ++ rest = c.after_part.ensures.part cut.low_side (nodes_of cut.high_side ++ rest) cut.nodes_are in
    let first = c.in-Ok.ensures.dropped tells (border_points c.in-Cut.dimension (points_of cut.low_side)) sides.few sides.many in
    let low = low_left b c.laws_of_borders.ensures m c.args.count c.in-Cut.dimension c.in-Cut.low c.in-Cut.border part cut.low_side cut.high_side sides once
    (g.S.Pages.map c.drop_border.new.stage) first in
    let told_mid = c.in-Ok.ensures.changes.went_on.tells ∙ tells in
    let second = c.in-Ok-drop_nodes.ensures.dropped told_mid cut.low_side (nodes_of cut.high_side ++ rest) cut.nodes_are low.stands low.once in
    let high = high_left b c.laws_of_borders.ensures m c.args.count c.in-Cut.dimension c.in-Cut.low c.in-Cut.border part cut.low_side cut.high_side sides once
    (g.S.Pages.map c.drop_border.new.stage) (g.S.Pages.map c.drop_nodes.new.stage) first second in
    c.drop_nodes-2.ensures.sound cut.high_side rest damaged (c.in-Ok-drop_nodes.ensures.changes.went_on.tells ∙ told_mid) after high.stands high.once
    (c.in-Err-drop_nodes-2.is ∙ e)

pub drop_cut-returns-in-Ok-drop_nodes-2-clause-dropped : goal.drop_cut-returns-in-Ok-drop_nodes-2-clause-dropped
drop_cut-returns-in-Ok-drop_nodes-2-clause-dropped g t c = λ tells part rest nodes_are stands once.
    let b = g.B.BorderTree in
    let m : PageMap = g.S.Pages.map c.args.stage.now in
    let begun : Cut c.in-Cut.dimension c.in-Cut.key c.in-Cut.low c.in-Cut.border ∷ c.in-Some.rest.now ≡ c.args.nodes.now = search rules in
    let cut : IsCutOf part c.in-Cut.dimension c.in-Cut.key c.in-Cut.low c.in-Cut.border c.in-Some.rest.now rest =
    cut_of part c.in-Cut.dimension c.in-Cut.key c.in-Cut.low c.in-Cut.border c.in-Some.rest.now rest (begun ∙ nodes_are) in
    let sides = sides_of b m c.args.count c.in-Cut.dimension c.in-Cut.key c.in-Cut.low c.in-Cut.border part c.in-Some.rest.now rest cut stands in
    let after : c.after_part.result.now ≡ nodes_of cut.high_side ++ rest = c.after_part.ensures.part cut.low_side (nodes_of cut.high_side ++ rest) cut.nodes_are in
    let first = c.in-Ok.ensures.dropped tells (border_points c.in-Cut.dimension (points_of cut.low_side)) sides.few sides.many in
    let low = low_left b c.laws_of_borders.ensures m c.args.count c.in-Cut.dimension c.in-Cut.low c.in-Cut.border part cut.low_side cut.high_side sides once
    (g.S.Pages.map c.drop_border.new.stage) first in
    let told_mid = c.in-Ok.ensures.changes.went_on.tells ∙ tells in
    let second = c.in-Ok-drop_nodes.ensures.dropped told_mid cut.low_side (nodes_of cut.high_side ++ rest) cut.nodes_are low.stands low.once in
    let high = high_left b c.laws_of_borders.ensures m c.args.count c.in-Cut.dimension c.in-Cut.low c.in-Cut.border part cut.low_side cut.high_side sides once
    (g.S.Pages.map c.drop_border.new.stage) (g.S.Pages.map c.drop_nodes.new.stage) first second in
    let third = c.in-Ok-drop_nodes-2.ensures.dropped (c.in-Ok-drop_nodes.ensures.changes.went_on.tells ∙ told_mid) cut.high_side rest after high.stands high.once in
    cut_dropped b c.laws_of_borders.ensures m c.args.count c.in-Cut.dimension c.in-Cut.low c.in-Cut.border part cut.low_side cut.high_side sides once
    (g.S.Pages.map c.drop_border.new.stage) (g.S.Pages.map c.drop_nodes.new.stage) (g.S.Pages.map c.drop_nodes-2.new.stage) first second third

pub drop_nodes-returns-in-Err-clause-sound : goal.drop_nodes-returns-in-Err-clause-sound
drop_nodes-returns-in-Err-clause-sound g t c = λ part rest damaged tells nodes_are stands once e.
    let first = first_node c.args.nodes.now (Entry c.in-Some-Entry.child) (search rules) (search rules) in
    let begins = entry_of part c.in-Some-Entry.child first.0 rest (sym first.1 ∙ nodes_are) in
    c.drop_page.ensures.sound part damaged tells begins.0 stands once (c.in-Err.is ∙ e)

pub drop_page-returns-in-Err-drop_cut-clause-sound : goal.drop_page-returns-in-Err-drop_cut-clause-sound
drop_page-returns-in-Err-drop_cut-clause-sound g t c = λ part damaged tells begins stands once e.
    let b = g.B.BorderTree in
    let m : PageMap = g.S.Pages.map c.args.stage.now in
    let nodes : List CutNode = c.free_cuts.new.cuts.nodes.items in
    let freed = c.in-Ok-free_cuts.ensures.freed tells in
    let at = in_page b m c.args.count c.args.page nodes part begins c.if-count-le64.false freed.0 stands in
    let left = cut_left b c.laws_of_borders.ensures m c.args.count c.args.page nodes part at once (g.S.Pages.map c.free_cuts.new.stage) freed.1 in
    c.drop_cut.ensures.sound at.cut [] damaged (c.in-Ok-free_cuts.ensures.changes.went_on.tells ∙ tells) (c.as_slice.ensures.value ∙ at.nodes_are) at.inside
    left.stands left.once (c.in-Err-drop_cut.is ∙ e)

pub drop_page-returns-in-Ok-drop_cut-clause-dropped : goal.drop_page-returns-in-Ok-drop_cut-clause-dropped
drop_page-returns-in-Ok-drop_cut-clause-dropped g t c = λ tells part begins stands once.
    let b = g.B.BorderTree in
    let m : PageMap = g.S.Pages.map c.args.stage.now in
    let nodes : List CutNode = c.free_cuts.new.cuts.nodes.items in
    let freed = c.in-Ok-free_cuts.ensures.freed tells in
    let at = in_page b m c.args.count c.args.page nodes part begins c.if-count-le64.false freed.0 stands in
    let left = cut_left b c.laws_of_borders.ensures m c.args.count c.args.page nodes part at once (g.S.Pages.map c.free_cuts.new.stage) freed.1 in
    page_dropped b c.laws_of_borders.ensures m c.args.count c.args.page nodes part at once (g.S.Pages.map c.free_cuts.new.stage) (g.S.Pages.map c.drop_cut.new.stage) freed.1
    (c.in-Ok-drop_cut.ensures.dropped (c.in-Ok-free_cuts.ensures.changes.went_on.tells ∙ tells) at.cut [] (c.as_slice.ensures.value ∙ at.nodes_are) left.stands left.once)

-- ---- whatever the pages hold

pub drop_cut-returns-then-not-is_sound-clause-sound : goal.drop_cut-returns-then-not-is_sound-clause-sound
drop_cut-returns-then-not-is_sound-clause-sound g t c = λ part rest damaged tells nodes_are inside stands once e.
    let b = g.B.BorderTree in
    let dims : ℕ = suc b.DIMS in
    let n : ℕ = c.args.count in
    let m : PageMap = g.S.Pages.map c.args.stage.now in
    let begun : Cut c.in-Cut.dimension c.in-Cut.key c.in-Cut.low c.in-Cut.border ∷ c.in-Some.rest.now ≡ c.args.nodes.now = search rules in
    let cut : IsCutOf part c.in-Cut.dimension c.in-Cut.key c.in-Cut.low c.in-Cut.border c.in-Some.rest.now rest =
    cut_of part c.in-Cut.dimension c.in-Cut.key c.in-Cut.low c.in-Cut.border c.in-Some.rest.now rest (begun ∙ nodes_are) in
    let sound = cut_is_sound b c.laws_of_borders.ensures m n c.in-Cut.dimension c.in-Cut.key c.in-Cut.low c.in-Cut.border part c.in-Some.rest.now rest cut stands in
    absurd (false≢true (sym c.if-not-is_sound.true ∙ c.is_sound.ensures.1 sound))

pub drop_cut-returns-then-not-is_sound-clause-damaged : goal.drop_cut-returns-then-not-is_sound-clause-damaged
drop_cut-returns-then-not-is_sound-clause-damaged g t c = λ damaged e tells first freed lost.
    let b = g.B.BorderTree in
    let dims : ℕ = suc b.DIMS in
    let n : ℕ = c.args.count in
    let m : PageMap = g.S.Pages.map c.args.stage.now in
    let begun : Cut c.in-Cut.dimension c.in-Cut.key c.in-Cut.low c.in-Cut.border ∷ c.in-Some.rest.now ≡ c.args.nodes.now = search rules in
    let same : damaged ≡ c.args.page = cc in
    cut_refused b damaged first freed n c.args.page c.in-Cut.dimension c.in-Cut.key c.in-Cut.low c.in-Cut.border c.args.nodes.now c.in-Some.rest.now (sym begun)
    same (λ sound. false≢true (sym c.if-not-is_sound.true ∙ c.is_sound.ensures.1 sound))

pub drop_cut-returns-in-Err-clause-damaged : goal.drop_cut-returns-in-Err-clause-damaged
drop_cut-returns-in-Err-clause-damaged g t c = λ damaged e tells first freed lost.
    let b = g.B.BorderTree in
    let dims : ℕ = suc b.DIMS in
    let n : ℕ = c.args.count in
    let m : PageMap = g.S.Pages.map c.args.stage.now in
    let begun : Cut c.in-Cut.dimension c.in-Cut.key c.in-Cut.low c.in-Cut.border ∷ c.in-Some.rest.now ≡ c.args.nodes.now = search rules in
    drops_border b damaged first freed n c.args.page c.in-Cut.dimension c.in-Cut.key c.in-Cut.low c.in-Cut.border c.args.nodes.now c.in-Some.rest.now (sym begun)
    (c.is_sound.ensures.0 c.if-not-is_sound.false) (c.drop_border.ensures.damaged damaged (c.in-Err.is ∙ e) tells first freed lost)

pub drop_cut-returns-in-Err-drop_nodes-clause-damaged : goal.drop_cut-returns-in-Err-drop_nodes-clause-damaged
drop_cut-returns-in-Err-drop_nodes-clause-damaged g t c = λ damaged e tells first freed lost.
    let b = g.B.BorderTree in
    let dims : ℕ = suc b.DIMS in
    let n : ℕ = c.args.count in
    let m : PageMap = g.S.Pages.map c.args.stage.now in
    let begun : Cut c.in-Cut.dimension c.in-Cut.key c.in-Cut.low c.in-Cut.border ∷ c.in-Some.rest.now ≡ c.args.nodes.now = search rules in
    let sound = c.is_sound.ensures.0 c.if-not-is_sound.false in
    let own : List ℕ = b.footprint first c.in-Cut.border in
    let border = c.in-Ok.ensures.gone tells first freed lost sound.few in
    let more = gone.lost_more freed own first m (g.S.Pages.map c.drop_border.new.stage) lost border.1 in
    drops_low b damaged first freed n c.args.page c.in-Cut.dimension c.in-Cut.key c.in-Cut.low c.in-Cut.border c.args.nodes.now c.in-Some.rest.now (sym begun) sound
    (c.drop_nodes.ensures.damaged damaged (c.in-Err-drop_nodes.is ∙ e) (c.in-Ok.ensures.changes.went_on.tells ∙ tells) first (freed ++ own) more)

pub drop_cut-returns-in-Err-drop_nodes-2-clause-damaged : goal.drop_cut-returns-in-Err-drop_nodes-2-clause-damaged
drop_cut-returns-in-Err-drop_nodes-2-clause-damaged g t c = λ damaged e tells first freed lost.
    let b = g.B.BorderTree in
    let dims : ℕ = suc b.DIMS in
    let n : ℕ = c.args.count in
    let m : PageMap = g.S.Pages.map c.args.stage.now in
    let begun : Cut c.in-Cut.dimension c.in-Cut.key c.in-Cut.low c.in-Cut.border ∷ c.in-Some.rest.now ≡ c.args.nodes.now = search rules in
    let sound = c.is_sound.ensures.0 c.if-not-is_sound.false in
    let own : List ℕ = b.footprint first c.in-Cut.border in
    let border = c.in-Ok.ensures.gone tells first freed lost sound.few in
    let m1 : PageMap = g.S.Pages.map c.drop_border.new.stage in
    let m2 : PageMap = g.S.Pages.map c.drop_nodes.new.stage in
    let more = gone.lost_more freed own first m m1 lost border.1 in
    let told = c.in-Ok.ensures.changes.went_on.tells ∙ tells in
    let lows : IsDropped b first m1 m2 c.in-Cut.low c.in-Some.rest.now = c.in-Ok-drop_nodes.ensures.gone told first (freed ++ own) more in
    let left : List ℕ = part_pages b first lows.is.part in
    let last = gone.lost_more (freed ++ own) left first m1 m2 more lows.change in
    drops_high b damaged first freed n c.args.page c.in-Cut.dimension c.in-Cut.key c.in-Cut.low c.in-Cut.border c.args.nodes.now c.in-Some.rest.now (sym begun)
    c.after_part.result.now sound lows.is c.after_part.ensures.after
    (c.drop_nodes-2.ensures.damaged damaged (c.in-Err-drop_nodes-2.is ∙ e) (c.in-Ok-drop_nodes.ensures.changes.went_on.tells ∙ told) first ((freed ++ own) ++ left) last)

pub drop_cut-returns-in-Ok-drop_nodes-2-clause-gone : goal.drop_cut-returns-in-Ok-drop_nodes-2-clause-gone
drop_cut-returns-in-Ok-drop_nodes-2-clause-gone g t c = λ tells first freed lost.
    let b = g.B.BorderTree in
    let dims : ℕ = suc b.DIMS in
    let n : ℕ = c.args.count in
    let m : PageMap = g.S.Pages.map c.args.stage.now in
    let begun : Cut c.in-Cut.dimension c.in-Cut.key c.in-Cut.low c.in-Cut.border ∷ c.in-Some.rest.now ≡ c.args.nodes.now = search rules in
    let sound = c.is_sound.ensures.0 c.if-not-is_sound.false in
    let own : List ℕ = b.footprint first c.in-Cut.border in
    let border = c.in-Ok.ensures.gone tells first freed lost sound.few in
    let m1 : PageMap = g.S.Pages.map c.drop_border.new.stage in
    let m2 : PageMap = g.S.Pages.map c.drop_nodes.new.stage in
    let m3 : PageMap = g.S.Pages.map c.drop_nodes-2.new.stage in
    let more = gone.lost_more freed own first m m1 lost border.1 in
    let told = c.in-Ok.ensures.changes.went_on.tells ∙ tells in
    let lows : IsDropped b first m1 m2 c.in-Cut.low c.in-Some.rest.now = c.in-Ok-drop_nodes.ensures.gone told first (freed ++ own) more in
    let left : List ℕ = part_pages b first lows.is.part in
    let last = gone.lost_more (freed ++ own) left first m1 m2 more lows.change in
    let highs : IsDropped b first m2 m3 (n - c.in-Cut.low) c.after_part.result.now =
    c.in-Ok-drop_nodes-2.ensures.gone (c.in-Ok-drop_nodes.ensures.changes.went_on.tells ∙ told) first ((freed ++ own) ++ left) last in
    gone.cut_dropped b first m m1 m2 m3 n c.in-Cut.dimension c.in-Cut.key c.in-Cut.low c.in-Cut.border c.args.nodes.now c.in-Some.rest.now c.after_part.result.now (sym begun) sound
    border.0 border.1 lows c.after_part.ensures.after highs

pub drop_nodes-returns-in-None-clause-sound : goal.drop_nodes-returns-in-None-clause-sound
drop_nodes-returns-in-None-clause-sound g t c = λ part rest damaged tells nodes_are stands once e.
    let zero : length c.args.nodes.now ≡ 0 = search rules in
    some_node part rest (sym (no_nodes c.args.nodes.now zero) ∙ nodes_are)

pub drop_nodes-returns-in-Err-clause-damaged : goal.drop_nodes-returns-in-Err-clause-damaged
drop_nodes-returns-in-Err-clause-damaged g t c = λ damaged e tells first freed lost.
    let b = g.B.BorderTree in
    let begun = first_node c.args.nodes.now (Entry c.in-Some-Entry.child) (search rules) (search rules) in
    drops_entry b damaged first freed c.args.count c.args.page c.in-Some-Entry.child c.args.nodes.now begun.0 begun.1
    (c.drop_page.ensures.damaged damaged (c.in-Err.is ∙ e) tells first freed lost)

pub drop_nodes-returns-in-Ok-clause-gone : goal.drop_nodes-returns-in-Ok-clause-gone
drop_nodes-returns-in-Ok-clause-gone g t c = λ tells first freed lost.
    let begun = first_node c.args.nodes.now (Entry c.in-Some-Entry.child) (search rules) (search rules) in
    gone.entry_dropped g.B.BorderTree first (g.S.Pages.map c.args.stage.now) (g.S.Pages.map c.drop_page.new.stage) c.in-Some-Entry.child c.args.count c.args.nodes.now begun.0 begun.1
    (c.in-Ok.ensures.gone tells first freed lost)

pub drop_nodes-returns-in-Err-drop_cut-clause-damaged : goal.drop_nodes-returns-in-Err-drop_cut-clause-damaged
drop_nodes-returns-in-Err-drop_cut-clause-damaged g t c = λ damaged e tells first freed lost.
    let b = g.B.BorderTree in
    let cut = c.in-Some-Cut in
    let begun = first_node c.args.nodes.now (Cut cut.field-0-0 cut.field-0-1 cut.field-0-2 cut.field-0-3) (search rules) (search rules) in
    drops_cut b damaged first freed c.args.count c.args.page cut.field-0-0 cut.field-0-1 cut.field-0-2 cut.field-0-3 c.args.nodes.now begun.0 begun.1
    (c.drop_cut.ensures.damaged damaged (c.in-Err-drop_cut.is ∙ e) tells first freed lost)

pub drop_page-returns-in-Err-clause-damaged : goal.drop_page-returns-in-Err-clause-damaged
drop_page-returns-in-Err-clause-damaged g t c = λ damaged e tells first freed lost.
    let why = c.free_leaf.ensures.damaged damaged (c.in-Err.is ∙ e) in
    leaf_refused g.B.BorderTree damaged first freed c.args.count (g.S.Pages.map c.args.stage.now) c.args.page lost c.if-count-le64.true why.0 (why.1 tells)

pub drop_page-returns-in-Ok-clause-gone : goal.drop_page-returns-in-Ok-clause-gone
drop_page-returns-in-Ok-clause-gone g t c = λ tells first freed lost.
    let k = c.in-Ok.ensures.held tells in
    gone.leaf_dropped g.B.BorderTree first freed (g.S.Pages.map c.args.stage.now) (g.S.Pages.map c.free_leaf.new.stage) c.args.page c.args.count k.0 lost k.1 k.2 k.3 c.if-count-le64.true
    (c.in-Ok.ensures.freed tells)

pub drop_page-returns-in-Err-free_cuts-clause-damaged : goal.drop_page-returns-in-Err-free_cuts-clause-damaged
drop_page-returns-in-Err-free_cuts-clause-damaged g t c = λ damaged e tells first freed lost.
    let is : c.in-Err-free_cuts.fault ≡ Damaged damaged = cc in
    let why = c.free_cuts.ensures.damaged damaged (c.in-Err-free_cuts.is ∙ ap (λ (fault : StageFault). Err fault) is) in
    cuts_refused g.B.BorderTree damaged first freed c.args.count (g.S.Pages.map c.args.stage.now) c.args.page lost (omega (arith, c.if-count-le64.false)) why.0 (why.1 tells)

pub drop_page-returns-in-Err-drop_cut-clause-damaged : goal.drop_page-returns-in-Err-drop_cut-clause-damaged
drop_page-returns-in-Err-drop_cut-clause-damaged g t c = λ damaged e tells first freed lost.
    let b = g.B.BorderTree in
    let m : PageMap = g.S.Pages.map c.args.stage.now in
    let m1 : PageMap = g.S.Pages.map c.free_cuts.new.stage in
    let nodes : List CutNode = c.free_cuts.new.cuts.nodes.items in
    let taken = c.in-Ok-free_cuts.ensures.freed tells in
    let held = gone.holds_first _ _ freed first m c.args.page nodes lost taken.0 in
    let more = gone.lost_more freed (c.args.page ∷ []) first m m1 lost (gone.one_freed m m1 c.args.page taken.1) in
    drops_in b damaged first freed c.args.count c.args.page nodes (omega (arith, c.if-count-le64.false)) held
    (subst (λ (ns : List CutNode). IsDamagedForDrop b first (freed ++ (c.args.page ∷ [])) c.args.count (BeforeCut c.args.page ns) damaged) c.as_slice.ensures.value
    (c.drop_cut.ensures.damaged damaged (c.in-Err-drop_cut.is ∙ e) (c.in-Ok-free_cuts.ensures.changes.went_on.tells ∙ tells) first (freed ++ (c.args.page ∷ [])) more))

pub drop_page-returns-in-Ok-drop_cut-clause-gone : goal.drop_page-returns-in-Ok-drop_cut-clause-gone
drop_page-returns-in-Ok-drop_cut-clause-gone g t c = λ tells first freed lost.
    let b = g.B.BorderTree in
    let m : PageMap = g.S.Pages.map c.args.stage.now in
    let m1 : PageMap = g.S.Pages.map c.free_cuts.new.stage in
    let m2 : PageMap = g.S.Pages.map c.drop_cut.new.stage in
    let nodes : List CutNode = c.free_cuts.new.cuts.nodes.items in
    let taken = c.in-Ok-free_cuts.ensures.freed tells in
    let are = c.in-Ok-free_cuts.ensures.nodes in
    let more = gone.lost_more freed (c.args.page ∷ []) first m m1 lost (gone.one_freed m m1 c.args.page taken.1) in
    let below : IsDropped b first m1 m2 c.args.count nodes = subst (λ (ns : List CutNode). IsDropped b first m1 m2 c.args.count ns) c.as_slice.ensures.value
    (c.in-Ok-drop_cut.ensures.gone (c.in-Ok-free_cuts.ensures.changes.went_on.tells ∙ tells) first (freed ++ (c.args.page ∷ [])) more) in
    gone.page_dropped b first freed m m1 m2 c.args.page c.args.count nodes lost taken.0 are.0 are.1 taken.1 below
