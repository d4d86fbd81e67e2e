use Rattle.std.proofs.Common.{◌≡◌, ◌-◌, ◌++◌, [], List, length, take, drop, inr, sym, ap, ◌∙◌, subst, arith}
use Rattle.std.proofs.lemmas.List.{take_rest}
use Rattle.bw_types.specs.declared.point.Point.{Point}
use Rattle.ports.specs.FrameLaws.{Replaces-same}
use Rattle.ports.specs.Pages.{PageMap}
use Rattle.page_layout.specs.Footprint.{NamesNoneTwice}
use Rattle.page_layout.specs.declared.cut_page.CutNode.{CutNode}
use Rattle.cut_parts.specs.Damage.{BeforePart}
use Rattle.cut_parts.specs.Reach.{IsDamagedForDrop, IsDropped}
use Rattle.cut_parts.specs.Spelling.{nodes_of}
use Rattle.cut_parts.specs.Standing.{PartStands, part_pages}
use Rattle.ba_tree.specs.Collected.{IsCollected}
use Rattle.ba_tree.proofs.Going.{read_on, well_then}
use Rattle.ba_tree.proofs.anew.take_part.Goals as goal

pub returns-in-Err-drop_nodes-clause-damaged : goal.returns-in-Err-drop_nodes-clause-damaged
returns-in-Err-drop_nodes-clause-damaged g c = λ damaged e tells.
    let b = g.B.BorderTree in
    let m : PageMap = g.S.Pages.map c.args.stage.now in
    let slice : List CutNode = c.as_slice.result.now in
    let from : take (length slice - c.args.place) (drop c.args.place slice) ≡ drop c.args.place c.args.cuts.now.nodes.items =
    take_rest slice c.args.place ∙ ap (λ (ns : List CutNode). drop c.args.place ns) c.as_slice.ensures.value in
    let read = c.in-Ok.ensures.reads.read in
    let m1 : PageMap = g.S.Pages.map c.collect_nodes.new.pages in
    inr (subst (λ (ns : List CutNode). IsDamagedForDrop b m [] c.args.count (BeforePart c.args.page ns) damaged) from
    (subst (λ (a : PageMap). IsDamagedForDrop b a [] c.args.count (BeforePart c.args.page (take (length slice - c.args.place) (drop c.args.place slice))) damaged) read.map
    (c.drop_nodes.ensures.damaged damaged (c.in-Err-drop_nodes.is ∙ e) (read.tells ∙ tells) m1 [] (Replaces-same [] m1))))

pub returns-in-Err-drop_nodes-clause-well : goal.returns-in-Err-drop_nodes-clause-well
returns-in-Err-drop_nodes-clause-well g c = λ tells part rest here stood once.
    let b = g.B.BorderTree in
    let slice : List CutNode = c.as_slice.result.now in
    let from : take (length slice - c.args.place) (drop c.args.place slice) ≡ nodes_of part ++ rest =
    take_rest slice c.args.place ∙ ap (λ (ns : List CutNode). drop c.args.place ns) c.as_slice.ensures.value ∙ here in
    let read = c.in-Ok.ensures.reads.read in
    well_then g.S.Pages 0 0 0 c.args.stage.now c.collect_nodes.new.pages c.drop_nodes.new.stage _ _ tells (read_on g.S.Pages _ _ _ read)
    (record {
      changes = c.in-Err-drop_nodes.ensures.changes;
      sound = λ order page e. c.in-Err-drop_nodes.ensures.sound part rest page (read.tells ∙ tells) from
          (subst (λ (a : PageMap). PartStands b a c.args.count part) (sym read.map) stood)
          (subst (λ (a : PageMap). NamesNoneTwice (part_pages b a part)) (sym read.map) once) e;
    }) (omega arith) (λ f e. cc)

pub returns-in-Ok-drop_nodes-clause-there : goal.returns-in-Ok-drop_nodes-clause-there
returns-in-Ok-drop_nodes-clause-there g c = λ tells.
    let m : PageMap = g.S.Pages.map c.args.stage.now in
    let slice : List CutNode = c.as_slice.result.now in
    let from : take (length slice - c.args.place) (drop c.args.place slice) ≡ drop c.args.place c.args.cuts.now.nodes.items =
    take_rest slice c.args.place ∙ ap (λ (ns : List CutNode). drop c.args.place ns) c.as_slice.ensures.value in
    let old : List Point = c.args.points.now.items in
    let new : List Point = c.collect_nodes.new.points.items in
    subst (λ (ns : List CutNode). IsCollected m c.args.count ns old new) from (c.in-Ok.ensures.there tells)

pub returns-in-Ok-drop_nodes-clause-gone : goal.returns-in-Ok-drop_nodes-clause-gone
returns-in-Ok-drop_nodes-clause-gone g c = λ tells.
    let b = g.B.BorderTree in
    let m : PageMap = g.S.Pages.map c.args.stage.now in
    let slice : List CutNode = c.as_slice.result.now in
    let from : take (length slice - c.args.place) (drop c.args.place slice) ≡ drop c.args.place c.args.cuts.now.nodes.items =
    take_rest slice c.args.place ∙ ap (λ (ns : List CutNode). drop c.args.place ns) c.as_slice.ensures.value in
    let read = c.in-Ok.ensures.reads.read in
    let m1 : PageMap = g.S.Pages.map c.collect_nodes.new.pages in
    let m2 : PageMap = g.S.Pages.map c.drop_nodes.new.stage in
    subst (λ (ns : List CutNode). IsDropped b m m m2 c.args.count ns) from
    (subst (λ (a : PageMap). IsDropped b a a m2 c.args.count (take (length slice - c.args.place) (drop c.args.place slice))) read.map
    (c.in-Ok-drop_nodes.ensures.gone (read.tells ∙ tells) m1 [] (Replaces-same [] m1)))
