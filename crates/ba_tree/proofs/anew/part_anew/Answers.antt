use Rattle.std.proofs.Common.{◌≡◌, ℕ, suc, true, inl, inr, Err, List, [], ◌∷◌, ◌++◌, drop, sym, ap, ◌∙◌, subst, arith}
use Rattle.std.proofs.lemmas.List.Sorted.{IsPermutation-refl, IsPermutation-to_front}
use Rattle.std.specs.Prelude.{IsPermutation}
use Rattle.bw_types.specs.declared.point.Point.{Point}
use Rattle.ports.specs.Frame.{names_page}
use Rattle.ports.specs.Pages.{PageMap}
use Rattle.ports.specs.declared.page.StageFault.{StageFault}
use Rattle.ports.specs.declared.page.StageFault.TheVariants.{Damaged}
use Rattle.page_layout.specs.declared.cut_page.CutNode.{CutNode}
use Rattle.cut_parts.specs.Borders.{MayBeBuilt, OthersStay}
use Rattle.cut_parts.specs.Parts.{points_of}
use Rattle.cut_parts.specs.Reach.{IsDropped, IsOfPartThere}
use Rattle.cut_parts.specs.Spelling.{nodes_of}
use Rattle.cut_parts.specs.Standing.{part_pages}
use Rattle.cut_parts.proofs.Staying.{stay_by, stay_more, stay_then}
use Rattle.ba_tree.proofs.Coming.{stay_all}
use Rattle.ba_tree.proofs.MadeAnew.{again_may, made_anew, share_of}
use Rattle.ba_tree.proofs.Going.{well_then}
use Rattle.ba_tree.proofs.Naming.{begins_anew, begins_named, given_out}
use Rattle.ba_tree.proofs.Places.{drop_all_front}
use Rattle.ba_tree.proofs.anew.part_anew.Goals as goal

pub returns-clause-added : goal.returns-clause-added
returns-clause-added g c = λ tells part front rest is at take_p.
    let b = g.B.BorderTree in
    let nodes : List CutNode = c.args.cuts.now.nodes.items in
    let here : drop c.args.place nodes ≡ nodes_of part ++ rest = ap (λ (ns : List CutNode). drop c.args.place ns) is ∙ drop_all_front front (nodes_of part ++ rest) c.args.place at in
    let taken = c.in-Ok.ensures.taken tells part rest here take_p.stood take_p.once in
    let there = c.in-Ok.ensures.changes.went_on.tells ∙ tells in
    let all : c.as_mut_slice.result.now ≡ points_of part ++ (c.args.point.now ∷ []) =
    c.as_mut_slice.ensures.value ∙ c.in-Ok-push.ensures.items ∙ ap (λ (ps : List Point). ps ++ (c.args.point.now ∷ [])) (taken.0 ∙ ap (λ (ps : List Point). ps ++ points_of part) c.new-points.ensures.items) in
    let order = subst (λ (ps : List Point). IsPermutation ps (c.args.point.now ∷ points_of part)) (sym all) (IsPermutation-to_front (points_of part) c.args.point.now) in
    made_anew b (g.S.Pages.map c.args.stage.now) (g.S.Pages.map c.take_part.new.stage) (g.S.Pages.map c.build_again.new.stage) part nodes c.replace_part.new.page.nodes.items front rest
    c.args.place c.args.count c.in-Ok-build_again.child c.args.point.now is at take_p taken.1
    (c.in-Ok-build_again.ensures.built there (c.args.point.now ∷ points_of part) order)
    c.replace_part.ensures.set

pub returns-in-Err-build_again-clause-well : goal.returns-in-Err-build_again-clause-well
returns-in-Err-build_again-clause-well g c = λ tells part front rest is at take_p.
    let b = g.B.BorderTree in
    let nodes : List CutNode = c.args.cuts.now.nodes.items in
    let here : drop c.args.place nodes ≡ nodes_of part ++ rest = ap (λ (ns : List CutNode). drop c.args.place ns) is ∙ drop_all_front front (nodes_of part ++ rest) c.args.place at in
    let taken = c.in-Ok.ensures.taken tells part rest here take_p.stood take_p.once in
    let there = c.in-Ok.ensures.changes.went_on.tells ∙ tells in
    let all : c.as_mut_slice.result.now ≡ points_of part ++ (c.args.point.now ∷ []) =
    c.as_mut_slice.ensures.value ∙ c.in-Ok-push.ensures.items ∙ ap (λ (ps : List Point). ps ++ (c.args.point.now ∷ [])) (taken.0 ∙ ap (λ (ps : List Point). ps ++ points_of part) c.new-points.ensures.items) in
    let number = share_of b part c.args.count c.args.point.now c.as_mut_slice.result.now take_p.stood.shape all in
    well_then g.S.Pages 0 _ _ c.args.stage.now c.take_part.new.stage c.build_again.new.stage _ _ tells c.in-Ok.ensures.changes.went_on
    (c.in-Err-build_again.ensures.well there (again_may b.DIMS part c.args.point.now c.as_mut_slice.result.now take_p.may_be take_p.new c.requires.keys c.requires.version take_p.three all))
    (omega (arith, number)) (λ f e. cc)

pub returns-clause-well : goal.returns-clause-well
returns-clause-well g c = λ tells part front rest is at take_p.
    let b = g.B.BorderTree in
    let nodes : List CutNode = c.args.cuts.now.nodes.items in
    let here : drop c.args.place nodes ≡ nodes_of part ++ rest = ap (λ (ns : List CutNode). drop c.args.place ns) is ∙ drop_all_front front (nodes_of part ++ rest) c.args.place at in
    let taken = c.in-Ok.ensures.taken tells part rest here take_p.stood take_p.once in
    let there = c.in-Ok.ensures.changes.went_on.tells ∙ tells in
    let all : c.as_mut_slice.result.now ≡ points_of part ++ (c.args.point.now ∷ []) =
    c.as_mut_slice.ensures.value ∙ c.in-Ok-push.ensures.items ∙ ap (λ (ps : List Point). ps ++ (c.args.point.now ∷ [])) (taken.0 ∙ ap (λ (ps : List Point). ps ++ points_of part) c.new-points.ensures.items) in
    let number = share_of b part c.args.count c.args.point.now c.as_mut_slice.result.now take_p.stood.shape all in
    well_then g.S.Pages 0 _ _ c.args.stage.now c.take_part.new.stage c.build_again.new.stage _ _ tells c.in-Ok.ensures.changes.went_on
    (c.in-Ok-build_again.ensures.well there (again_may b.DIMS part c.args.point.now c.as_mut_slice.result.now take_p.may_be take_p.new c.requires.keys c.requires.version take_p.three all))
    (omega (arith, number)) (λ f e. cc)

pub returns-in-Err-build_again-clause-damaged : goal.returns-in-Err-build_again-clause-damaged
returns-in-Err-build_again-clause-damaged g c = λ damaged e tells.
    let b = g.B.BorderTree in
    let k = c.in-Ok.ensures.there tells in
    let went = c.in-Ok.ensures.changes.went_on in
    let all : c.as_mut_slice.result.now ≡ points_of k.is.part ++ (c.args.point.now ∷ []) =
    c.as_mut_slice.ensures.value ∙ c.in-Ok-push.ensures.items ∙ ap (λ (ps : List Point). ps ++ (c.args.point.now ∷ [])) (k.points ∙ ap (λ (ps : List Point). ps ++ points_of k.is.part) c.new-points.ensures.items) in
    let is : c.in-Err-build_again.fault ≡ Damaged damaged = cc in
    elim (c.build_again.ensures.damaged damaged (c.in-Err-build_again.is ∙ ap (λ (fault : StageFault). Err fault) is) (went.tells ∙ tells)) [
      | inl none ↦ inl (inr (inr (none.0, (k.is, λ may. none.1 (subst (λ (ps : List Point). MayBeBuilt (suc b.DIMS) ps) (sym all) may)))))
      | inr unordered ↦ inr (λ order. unordered (went.free_in_order tells order))
    ]

pub returns-clause-apart : goal.returns-clause-apart
returns-clause-apart g c = λ tells.
    let b = g.B.BorderTree in
    let m0 : PageMap = g.S.Pages.map c.args.stage.now in
    let m1 : PageMap = g.S.Pages.map c.take_part.new.stage in
    let m2 : PageMap = g.S.Pages.map c.build_again.new.stage in
    let n : ℕ = c.args.count in
    let nodes : List CutNode = drop c.args.place c.args.cuts.now.nodes.items in
    let k : IsDropped b m0 m0 m1 n nodes = c.in-Ok.ensures.gone tells in
    let points : List Point = c.as_mut_slice.result.now in
    let built = c.in-Ok-build_again.ensures.built (c.in-Ok.ensures.changes.went_on.tells ∙ tells) points (IsPermutation-refl points) in
    stay_then (IsOfPartThere b m0 n nodes) (λ p. ⊥) (IsOfPartThere b m0 n nodes) m0 m1 m2
    (stay_more (λ p. names_page (part_pages b m0 k.is.part) p ≡ true) (IsOfPartThere b m0 n nodes) m0 m1 (stay_by (part_pages b m0 k.is.part) [] m0 m1 k.change) (λ p named. (k.is, named)))
    (stay_all (part_pages b m2 built.part) m1 m2 built.is.change) (λ p x. x) (λ p x. absurd x)

pub returns-clause-begins : goal.returns-clause-begins
returns-clause-begins g c = λ tells.
    let b = g.B.BorderTree in
    let m0 : PageMap = g.S.Pages.map c.args.stage.now in
    let m1 : PageMap = g.S.Pages.map c.take_part.new.stage in
    let m2 : PageMap = g.S.Pages.map c.build_again.new.stage in
    let n : ℕ = c.args.count in
    let nodes : List CutNode = c.args.cuts.now.nodes.items in
    let may : ℕ → Type 0 = IsOfPartThere b m0 n (drop c.args.place nodes) in
    let k : IsDropped b m0 m0 m1 n (drop c.args.place nodes) = c.in-Ok.ensures.gone tells in
    let left : OthersStay may m0 m1 =
    stay_more (λ p. names_page (part_pages b m0 k.is.part) p ≡ true) may m0 m1 (stay_by (part_pages b m0 k.is.part) [] m0 m1 k.change) (λ p named. (k.is, named)) in
    let child : ℕ = c.in-Ok-build_again.child in
    let points : List Point = c.as_mut_slice.result.now in
    let built = c.in-Ok-build_again.ensures.built (c.in-Ok.ensures.changes.went_on.tells ∙ tells) points (IsPermutation-refl points) in
    begins_anew may m0 nodes c.replace_part.new.page.nodes.items c.args.place child c.requires.place
    (given_out may m0 m1 m2 (part_pages b m2 built.part) child left built.is.change (begins_named b m2 built.part child built.begins)) c.replace_part.ensures.set
