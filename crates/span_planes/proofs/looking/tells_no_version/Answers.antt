use Rattle.std.proofs.Common.{sym, ◌∙◌}
use Rattle.std.proofs.lemmas.Bool.Decides.{not_from_Decides}
use Rattle.span_planes.proofs.SameValues.{meta_decides, params_decides}
use Rattle.span_planes.proofs.ToldNone.{none_is_told, told_none}
use Rattle.span_planes.proofs.looking.tells_no_version.Goals as goal

pub returns-then-eq-clause-yes : goal.returns-then-eq-clause-yes
returns-then-eq-clause-yes c = λ is.
    told_none c.args.params.now c.args.read.now c.args.meta.now c.first_meta.result c.first_meta.ensures
    ((params_decides c.args.read.now c.plain.result c.eq.result c.eq.ensures).0 c.if-eq.true ∙ c.plain.ensures)
    ((meta_decides c.args.meta.now _ c.eq-then-eq.result c.eq-then-eq.ensures).0 is)

pub returns-then-eq-clause-no : goal.returns-then-eq-clause-no
returns-then-eq-clause-no c = λ is none.
    not_from_Decides c.eq-then-eq.result (meta_decides c.args.meta.now _ c.eq-then-eq.result c.eq-then-eq.ensures) is
    (none_is_told c.args.params.now c.args.read.now c.args.meta.now c.first_meta.result c.first_meta.ensures none)

pub returns-else-eq-clause-no : goal.returns-else-eq-clause-no
returns-else-eq-clause-no c = λ is none.
    not_from_Decides c.eq.result (params_decides c.args.read.now c.plain.result c.eq.result c.eq.ensures) c.if-eq.false
    (none.own ∙ sym c.plain.ensures)
