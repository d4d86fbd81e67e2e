use Rattle.std.proofs.Common.{◌∙◌, ℕ, true, List, [], ◌∷◌, ap}
use Rattle.bw_types.specs.declared.params.Params.{Params}
use Rattle.row_machine.specs.Serving.{MayServe}
use Rattle.csv_rows.specs.Machine.{State, begun, replies, state_after}
use Rattle.line_reader.specs.Lines.{lines}
use Rattle.row_machine.proofs.Acknowledging.{silent_lines}
use Rattle.row_machine.proofs.Housing.{after_goes_on}
use Rattle.row_machine.proofs.Replies.{replies-append, state_after-append}
use Rattle.row_machine.proofs.laws.machine_laws.Goals as goal

may_all : (params : Params) (ls : List (List ℕ)) → MayServe true params ls
may_all params [] = tt
may_all params (line ∷ ls) = (tt, may_all params ls)

pub returns-clause-may : goal.returns-clause-may
returns-clause-may c = may_all

pub returns-clause-goes_on : goal.returns-clause-goes_on
returns-clause-goes_on c = λ params h bytes. after_goes_on params 1 (begun h) (lines bytes)

pub returns-clause-lines_go_on : goal.returns-clause-lines_go_on
returns-clause-lines_go_on c = λ params h ls. after_goes_on params 1 (begun h) ls

pub returns-clause-silent : goal.returns-clause-silent
returns-clause-silent c = silent_lines

pub returns-clause-text : goal.returns-clause-text
returns-clause-text c = λ params h first second whole.
    ap (replies params 1 (begun h)) (c.lines_join.ensures first second whole) ∙ replies-append params 1 (begun h) (lines first) (lines second)

pub returns-clause-after : goal.returns-clause-after
returns-clause-after c = λ params h first second whole.
    ap (λ (s : State). s.history) (ap (state_after params 1 (begun h)) (c.lines_join.ensures first second whole) ∙ state_after-append params 1 (begun h) (lines first) (lines second))
