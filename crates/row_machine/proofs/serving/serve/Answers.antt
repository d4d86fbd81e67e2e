use Rattle.std.proofs.Common.{◌≡◌, ◌∙◌, ℕ, List, ◌++◌, inr, ap, subst, sym, true, Ok, Err, arith}
use Rattle.ports.specs.Count.{Rose}
use Rattle.bw_types.specs.declared.params.Params.{Params}
use Rattle.row_machine.specs.Outbox.{gathered}
use Rattle.ports.specs.Written.{WritesPart}
use Rattle.row_machine.specs.Serving.{LastsBeyond}
use Rattle.row_machine.specs.declared.desk.Desk.{Desk}
use Rattle.row_machine.specs.declared.ending.Ending.{Ending}
use Rattle.row_machine.specs.declared.ending.Ending.TheVariants.{Fine, ReadFault, InputLimit, PageLimit}
use Rattle.row_machine.specs.Housed.{IsHouseEnding}
use Rattle.row_machine.proofs.Commits.{commit_line, commit_breaks}
use Rattle.row_machine.proofs.Lined.{not_both}
use Rattle.row_machine.proofs.Served.{LineLaws}
use Rattle.row_machine.proofs.Going.{closes_like, closes_same, going_first, going_on, going_ends, going_ends_lasting, going_put, going_stops, going_stops_lasting, house_never, input_passes, put_so, never_by_input, never_fine_house}
use Rattle.row_machine.proofs.serving.serve.Goals as goal

pub lines-init : goal.lines-init
lines-init g c = going_first g.H.House c.args.desk _ _ _ _ _ c.requires c.new-reader.ensures c.new-outbox.ensures.empty

pub lines-preserved-in-Ok-None : goal.lines-preserved-in-Ok-None
lines-preserved-in-Ok-None g c =
    let laws : LineLaws = record { join = c.lines_join.ensures; whole = c.whole_joins.ensures; passed = c.whole_part_of_passed.ensures } in
    let put : c.put_due.result ≡ true = c.if-not-put_due.false in
    going_on g.H.House laws _ _ _ _ _ _ _ _ _ _ _ _ _ _
    (going_put g.H.House _ _ _ _ _ _ _ _ _ _ _ _ c.lines.invariant
    (put_so g.K.Sink.written _ _ _ _ _ (c.put_due.ensures.due put))
    (record { faults = c.put_due.ensures.calm put; tells = c.put_due.ensures.tells put })
    (c.put_due.ensures.more put) (c.put_due.ensures.same put))
    c.serve_line.ensures.params c.serve_line.ensures.limit c.in-Ok-None.ensures.goes_on
    (record { faults = c.in-Ok-None.ensures.source.0; tells = c.in-Ok-None.ensures.source.1 })
    c.serve_line.ensures.device_tells c.serve_line.ensures.faults
    c.serve_line.ensures.seen_end
    (λ e. ((c.serve_line.ensures.stays e).0, ap g.S.Source.left (c.serve_line.ensures.stays e).1))
    c.serve_line.ensures.counts
    (rw c.in-Ok-None.field-0-is at c.in-Ok-None.ensures.lasts)
    (c.in-Ok-None.ensures.served c.in-Ok-None.field-0-is)

pub lines-preserved : goal.lines-preserved
lines-preserved g c =
    let laws : LineLaws = record { join = c.lines_join.ensures; whole = c.whole_joins.ensures; passed = c.whole_part_of_passed.ensures } in
    let put : c.put_due.result ≡ true = c.if-not-put_due.false in
    let commits = rw c.in-Ok-Some.field-0-is at c.in-Ok-Some.ensures.commits in
    let same : c.serve_line.new.desk ≡ c.lines.desk = commits.2 in
    going_on g.H.House laws _ _ _ _ _ _ _ _ _ _ _ _ _ _
    (going_put g.H.House _ _ _ _ _ _ _ _ _ _ _ _ c.lines.invariant
    (put_so g.K.Sink.written _ _ _ _ _ (c.put_due.ensures.due put))
    (record { faults = c.put_due.ensures.calm put; tells = c.put_due.ensures.tells put })
    (c.put_due.ensures.more put) (c.put_due.ensures.same put))
    (c.in-Ok.ensures.params ∙ c.serve_line.ensures.params) c.serve_line.ensures.limit c.in-Ok-Some.ensures.goes_on
    (record { faults = c.in-Ok-Some.ensures.source.0; tells = c.in-Ok-Some.ensures.source.1 })
    (c.in-Ok.ensures.device_tells ∙ c.serve_line.ensures.device_tells)
    (let a = c.serve_line.ensures.faults in let b = c.in-Ok.ensures.faults in omega (arith, a, b))
    c.serve_line.ensures.seen_end
    (λ e. ((c.serve_line.ensures.stays e).0, ap g.S.Source.left (c.serve_line.ensures.stays e).1))
    c.serve_line.ensures.counts
    (λ h stands.
    subst (λ (d : Desk g.row.H.Denot g.row.H-Device.Denot g.H.House). LastsBeyond g.H.House d.params h (g.H.House.device d.house) (Ok c.in-Ok.next)) same
    (c.in-Ok.ensures.lasts h (subst (λ (d : Desk g.row.H.Denot g.row.H-Device.Denot g.H.House). g.H.House.stands true (g.H.House.device d.house) d.params h) (sym same) stands)))
    (λ told. commit_line g.H.House _ c.in-Ok-Some.session _ _ _ _ c.serve_line.new.desk _ _ _ _ same commits.3 (commits.4 told) c.in-Ok.next c.in-Ok.ensures.serves)

pub returns-then-not-put_due-clause-ends : goal.returns-then-not-put_due-clause-ends
returns-then-not-put_due-clause-ends g c =
    let laws : LineLaws = record { join = c.lines_join.ensures; whole = c.whole_joins.ensures; passed = c.whole_part_of_passed.ensures } in
    going_stops g.H.House laws _ _ _ _ _ _ _ _ _ _ _ _ _ c.lines.invariant
    c.ended.ensures.ending c.ended.ensures.disk (c.put_due.ensures.part c.if-not-put_due.true)

pub returns-in-Err-clause-ends : goal.returns-in-Err-clause-ends
returns-in-Err-clause-ends g c =
    let laws : LineLaws = record { join = c.lines_join.ensures; whole = c.whole_joins.ensures; passed = c.whole_part_of_passed.ensures } in
    let put : c.put_due.result ≡ true = c.if-not-put_due.false in
    going_ends g.H.House laws _ _ _ _
    (record { tells = g.S.Source.tells c.serve_line.new.source; bytes = g.S.Source.left c.serve_line.new.source; faults = g.S.Source.faults c.serve_line.new.source })
    _ _ _ _ c.serve_line.new.reader _ _ _ (record { ending = c.in-Err.ending; device = g.H.House.device c.serve_line.new.desk.house }) c.close-in-Err.result
    (going_put g.H.House _ _ _ _ _ _ _ _ _ _ _ _ c.lines.invariant
    (put_so g.K.Sink.written _ _ _ _ _ (c.put_due.ensures.due put))
    (record { faults = c.put_due.ensures.calm put; tells = c.put_due.ensures.tells put })
    (c.put_due.ensures.more put) (c.put_due.ensures.same put))
    (closes_like c.ended-in-Err.result _ c.close-in-Err.result c.ended-in-Err.ensures.ending c.ended-in-Err.ensures.disk
    (record { device = c.close-in-Err.ensures.device; ending = c.close-in-Err.ensures.ending }))
    c.in-Err.ensures.ended
    (λ b. ap (λ (d : Desk g.row.H.Denot g.row.H-Device.Denot g.H.House). g.H.House.device d.house) (c.in-Err.ensures.between b))
    (λ e told. ((c.in-Err.ensures.end e).1 told).1)
    (input_passes c.in-Err.ending (λ e told still. ((c.in-Err.ensures.read_fault e).0, (c.in-Err.ensures.read_fault e).2 told still))
    (λ taken e told still. ((c.in-Err.ensures.input_limit taken e).0, ((c.in-Err.ensures.input_limit taken e).3 told).1)))
    c.in-Err.ensures.breaks
    c.serve_line.ensures.seen_end
    (λ e. ((c.serve_line.ensures.stays e).0, ap g.S.Source.left (c.serve_line.ensures.stays e).1))
    (λ e. (c.in-Err.ensures.end e).0)
    (λ told still. subst (λ (text : List ℕ). WritesPart (g.K.Sink.written c.put_due.new.sink) (g.K.Sink.written c.close-in-Err.new.sink) text) c.in-Err.ensures.unsaid (c.close-in-Err.ensures.part told still))
    (λ flushed told. c.close-in-Err.ensures.flushed flushed told ∙ ap (λ (text : List ℕ). g.K.Sink.written c.put_due.new.sink ++ text) c.in-Err.ensures.unsaid)

pub returns-in-Err-serve_commit-clause-ends : goal.returns-in-Err-serve_commit-clause-ends
returns-in-Err-serve_commit-clause-ends g c =
    let laws : LineLaws = record { join = c.lines_join.ensures; whole = c.whole_joins.ensures; passed = c.whole_part_of_passed.ensures } in
    let put : c.put_due.result ≡ true = c.if-not-put_due.false in
    let commits = rw c.in-Ok-Some.field-0-is at c.in-Ok-Some.ensures.commits in
    going_ends g.H.House laws _ _ _ _
    (record { tells = g.S.Source.tells c.serve_line.new.source; bytes = g.S.Source.left c.serve_line.new.source; faults = g.S.Source.faults c.serve_line.new.source })
    _ _ _ _ c.serve_line.new.reader _ _ _ c.in-Err-serve_commit.ran c.close.result
    (going_put g.H.House _ _ _ _ _ _ _ _ _ _ _ _ c.lines.invariant
    (put_so g.K.Sink.written _ _ _ _ _ (c.put_due.ensures.due put))
    (record { faults = c.put_due.ensures.calm put; tells = c.put_due.ensures.tells put })
    (c.put_due.ensures.more put) (c.put_due.ensures.same put))
    (record { device = c.close.ensures.device; ending = c.close.ensures.ending })
    (inr c.in-Err-serve_commit.ensures.within)
    (λ b. absurd (not_both c.in-Err-serve_commit.ran.ending c.in-Err-serve_commit.ensures.within b))
    (λ e. absurd (never_fine_house c.in-Err-serve_commit.ran.ending c.in-Err-serve_commit.ensures.within e))
    (λ i. absurd (never_by_input c.in-Err-serve_commit.ran.ending c.in-Err-serve_commit.ensures.within i))
    (λ w told. commit_breaks g.H.House _ c.in-Ok-Some.session _ _ _ _ c.serve_line.new.desk _ _ (gathered c.serve_commit.new.outbox) c.serve_commit.new.outbox.is_urgent commits.2 commits.3 (commits.4 told) c.in-Err-serve_commit.ran c.in-Ok-Some.ensures.goes_on.stopped c.in-Err-serve_commit.ensures.serves)
    c.serve_line.ensures.seen_end
    (λ e. ((c.serve_line.ensures.stays e).0, ap g.S.Source.left (c.serve_line.ensures.stays e).1))
    (λ e. absurd (never_fine_house c.in-Err-serve_commit.ran.ending c.in-Err-serve_commit.ensures.within e))
    (λ told still. subst (λ (text : List ℕ). WritesPart (g.K.Sink.written c.put_due.new.sink) (g.K.Sink.written c.close.new.sink) text) (c.in-Err-serve_commit.ensures.unsaid ∙ commits.3) (c.close.ensures.part told still))
    (λ flushed told. c.close.ensures.flushed flushed told ∙ ap (λ (text : List ℕ). g.K.Sink.written c.put_due.new.sink ++ text) (c.in-Err-serve_commit.ensures.unsaid ∙ commits.3))

pub returns-then-not-put_due-clause-lasts : goal.returns-then-not-put_due-clause-lasts
returns-then-not-put_due-clause-lasts g c = going_stops_lasting g.H.House _ _ _ _ _ _ _ _ _ _ _ c.lines.invariant c.ended.ensures.ending c.ended.ensures.disk

pub returns-in-Err-clause-lasts : goal.returns-in-Err-clause-lasts
returns-in-Err-clause-lasts g c =
    going_ends_lasting g.H.House _ _ _ _ _ _ _ _ _ _ (record { ending = c.in-Err.ending; device = g.H.House.device c.serve_line.new.desk.house }) c.close-in-Err.result c.lines.invariant
    (closes_like c.ended-in-Err.result _ c.close-in-Err.result c.ended-in-Err.ensures.ending c.ended-in-Err.ensures.disk
    (record { device = c.close-in-Err.ensures.device; ending = c.close-in-Err.ensures.ending }))
    c.in-Err.ensures.ended
    (λ b. ap (λ (d : Desk g.row.H.Denot g.row.H-Device.Denot g.H.House). g.H.House.device d.house) (c.in-Err.ensures.between b))
    c.in-Err.ensures.lasts

pub returns-in-Err-serve_commit-clause-lasts : goal.returns-in-Err-serve_commit-clause-lasts
returns-in-Err-serve_commit-clause-lasts g c =
    let commits = rw c.in-Ok-Some.field-0-is at c.in-Ok-Some.ensures.commits in
    let same : c.serve_line.new.desk ≡ c.lines.desk = commits.2 in
    going_ends_lasting g.H.House _ _ _ _ _ _ _ _ _ _ c.in-Err-serve_commit.ran c.close.result c.lines.invariant
    (record { device = c.close.ensures.device; ending = c.close.ensures.ending })
    (inr c.in-Err-serve_commit.ensures.within)
    (λ b. absurd (not_both c.in-Err-serve_commit.ran.ending c.in-Err-serve_commit.ensures.within b))
    (λ h stands.
    subst (λ (d : Desk g.row.H.Denot g.row.H-Device.Denot g.H.House). LastsBeyond g.H.House d.params h (g.H.House.device d.house) (Err c.in-Err-serve_commit.ran)) same
    (c.in-Err-serve_commit.ensures.lasts h (subst (λ (d : Desk g.row.H.Denot g.row.H-Device.Denot g.H.House). g.H.House.stands true (g.H.House.device d.house) d.params h) (sym same) stands)))

pub serve_commit-requires-clause-some : goal.serve_commit-requires-clause-some
serve_commit-requires-clause-some g c = let commits = rw c.in-Ok-Some.field-0-is at c.in-Ok-Some.ensures.commits in commits.0

pub serve_commit-requires-clause-sixteen : goal.serve_commit-requires-clause-sixteen
serve_commit-requires-clause-sixteen g c = let commits = rw c.in-Ok-Some.field-0-is at c.in-Ok-Some.ensures.commits in commits.1

pub returns-in-Err-serve_commit-clause-at_end : goal.returns-in-Err-serve_commit-clause-at_end
returns-in-Err-serve_commit-clause-at_end g c = λ e. absurd (house_never c.in-Err-serve_commit.ran c.close.result (record { device = c.close.ensures.device; ending = c.close.ensures.ending }) c.in-Err-serve_commit.ensures.within Fine (λ f. cc) (λ none. none) e)

pub returns-in-Err-serve_commit-clause-read_fault : goal.returns-in-Err-serve_commit-clause-read_fault
returns-in-Err-serve_commit-clause-read_fault g c = λ e. absurd (house_never c.in-Err-serve_commit.ran c.close.result (record { device = c.close.ensures.device; ending = c.close.ensures.ending }) c.in-Err-serve_commit.ensures.within ReadFault (λ f. cc) (λ none. none) e)

pub returns-in-Err-serve_commit-clause-input_limit : goal.returns-in-Err-serve_commit-clause-input_limit
returns-in-Err-serve_commit-clause-input_limit g c = λ taken e. absurd (house_never c.in-Err-serve_commit.ran c.close.result (record { device = c.close.ensures.device; ending = c.close.ensures.ending }) c.in-Err-serve_commit.ensures.within (InputLimit taken) (λ f. cc) (λ none. none) e)

pub returns-in-Err-serve_commit-clause-write_fault : goal.returns-in-Err-serve_commit-clause-write_fault
returns-in-Err-serve_commit-clause-write_fault g c = λ e.
    let put : c.put_due.result ≡ true = c.if-not-put_due.false in
    subst (λ (n : ℕ). Rose n (g.K.Sink.faults c.close.new.sink)) (c.put_due.ensures.calm put ∙ c.lines.invariant.sink_calm.faults)
    (c.close.ensures.write_fault e (λ f. subst (λ (s : Ending). IsHouseEnding s) f c.in-Err-serve_commit.ensures.within))

pub returns-in-Err-clause-at_limit : goal.returns-in-Err-clause-at_limit
returns-in-Err-clause-at_limit g c = λ allotted e.
    c.in-Err.ensures.at_limit allotted
    (closes_same (record { ending = c.in-Err.ending; device = g.H.House.device c.serve_line.new.desk.house }) c.close-in-Err.result
    (closes_like c.ended-in-Err.result _ c.close-in-Err.result c.ended-in-Err.ensures.ending c.ended-in-Err.ensures.disk
    (record { device = c.close-in-Err.ensures.device; ending = c.close-in-Err.ensures.ending })) (PageLimit allotted) (λ f. cc) e)
    ∙ ap (λ (p : Params). p.pages) c.lines.invariant.params

pub returns-in-Err-serve_commit-clause-at_limit : goal.returns-in-Err-serve_commit-clause-at_limit
returns-in-Err-serve_commit-clause-at_limit g c = λ allotted e.
    c.in-Err-serve_commit.ensures.at_limit allotted
    (closes_same c.in-Err-serve_commit.ran c.close.result (record { device = c.close.ensures.device; ending = c.close.ensures.ending }) (PageLimit allotted) (λ f. cc) e)
    ∙ ap (λ (p : Params). p.pages) (c.serve_line.ensures.params ∙ c.lines.invariant.params)
