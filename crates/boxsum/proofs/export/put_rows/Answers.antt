use Rattle.std.proofs.Common.{◌≡◌, List, true, ◌++◌, sym, ◌∙◌, subst}
use Rattle.bw_types.specs.Fits.{IsInRange}
use Rattle.bw_types.specs.declared.params.Params.{Params}
use Rattle.ports.specs.Written.{WritesPart}
use Rattle.page_warehouse.specs.Events.{AreEventsOf}
use Rattle.page_warehouse.specs.declared.event.Event.{Event}
use Rattle.history_text.specs.Rows.{rows_of}
use Rattle.page_warehouse.specs.Shown.{params_in}
use Rattle.boxsum.proofs.Exported.{gathers_nothing, gathers_pages, gathers_undamaged, whole_is_part}
use Rattle.boxsum.proofs.Opened.{writes_nothing}
use Rattle.boxsum.proofs.export.put_rows.Goals as goal

pub returns-in-Err-clause-part : goal.returns-in-Err-clause-part
returns-in-Err-clause-part g c = λ h held told still. writes_nothing (g.K.Sink.written c.args.sink.now) (rows_of (params_in c.args.house.now) h)

pub returns-in-Err-clause-undamaged : goal.returns-in-Err-clause-undamaged
returns-in-Err-clause-undamaged g c = λ h area page held.
    gathers_undamaged c.in-Err.fault c.from.result area page c.from.ensures (λ p e. c.gather.ensures.sound h p held (let is = c.in-Err.is in cc))

pub returns-in-Ok-write_history-clause-fine : goal.returns-in-Ok-write_history-clause-fine
returns-in-Ok-write_history-clause-fine g c = λ h held fine told.
    let events = subst (λ (es : List Event). AreEventsOf es h) (sym c.deref.ensures.value) (c.in-Ok.ensures.events h held) in
    let wrote = c.in-Ok-write_history.ensures.wrote h events (c.last-last.ensures.held true h held) told in
    (wrote.0, subst (λ (p : Params). g.K.Sink.written c.write_history.new.sink ≡ g.K.Sink.written c.args.sink.now ++ rows_of p h) c.params-params.ensures.value wrote.1)

pub returns-in-Ok-write_history-clause-part : goal.returns-in-Ok-write_history-clause-part
returns-in-Ok-write_history-clause-part g c = λ h held told still.
    let events = subst (λ (es : List Event). AreEventsOf es h) (sym c.deref.ensures.value) (c.in-Ok.ensures.events h held) in
    let wrote = c.in-Ok-write_history.ensures.wrote h events (c.last-last.ensures.held true h held) told in
    whole_is_part (g.K.Sink.written c.args.sink.now) (g.K.Sink.written c.write_history.new.sink) (rows_of (params_in c.args.house.now) h)
    (subst (λ (p : Params). g.K.Sink.written c.write_history.new.sink ≡ g.K.Sink.written c.args.sink.now ++ rows_of p h) c.params-params.ensures.value wrote.1)

pub returns-in-Ok-write_history-clause-rebuilds : goal.returns-in-Ok-write_history-clause-rebuilds
returns-in-Ok-write_history-clause-rebuilds g c = λ h held fine.
    let events = subst (λ (es : List Event). AreEventsOf es h) (sym c.deref.ensures.value) (c.in-Ok.ensures.events h held) in
    c.rows_rebuild.ensures (params_in c.args.house.now) h (subst IsInRange c.params-params.ensures.value c.params-params.ensures.in_range) held.1.lawful (c.in-Ok-write_history.ensures.sizes h events)

pub returns-clause-part : goal.returns-clause-part
returns-clause-part g c = λ h held told still.
    let events = subst (λ (es : List Event). AreEventsOf es h) (sym c.deref.ensures.value) (c.in-Ok.ensures.events h held) in
    let front = c.in-Err-write_history.ensures.part h events (c.last-last.ensures.held true h held) told still in
    subst (λ (p : Params). WritesPart (g.K.Sink.written c.args.sink.now) (g.K.Sink.written c.write_history.new.sink) (rows_of p h)) c.params-params.ensures.value front

pub returns-in-Err-clause-pages : goal.returns-in-Err-clause-pages
returns-in-Err-clause-pages g c = λ page. gathers_pages c.in-Err.fault c.from.result page c.from.ensures

pub returns-in-Err-clause-some : goal.returns-in-Err-clause-some
returns-in-Err-clause-some g c =
    let not = gathers_nothing c.in-Err.fault c.from.result c.from.ensures in
    record { fine = λ e. absurd (not.0 e); part = λ e. absurd (not.1 e) }

-- the rows are those of the history that the events make
pub returns-in-Ok-write_history-clause-some : goal.returns-in-Ok-write_history-clause-some
returns-in-Ok-write_history-clause-some g c = record {
  fine = λ e told.
      let made = c.in-Ok.ensures.told in
      let events = subst (λ (es : List Event). AreEventsOf es made.0) (sym c.deref.ensures.value) made.1 in
      let wrote = c.in-Ok-write_history.ensures.wrote made.0 events (c.last-last.ensures.value ∙ sym made.2.version) told in
      (wrote.0, (made.0, made.2, subst (λ (p : Params). g.K.Sink.written c.write_history.new.sink ≡ g.K.Sink.written c.args.sink.now ++ rows_of p made.0) c.params-params.ensures.value wrote.1));
  part = λ e. cc;
}

pub returns-clause-some : goal.returns-clause-some
returns-clause-some g c = record {
  fine = λ e. cc;
  part = λ e told still.
      let made = c.in-Ok.ensures.told in
      let events = subst (λ (es : List Event). AreEventsOf es made.0) (sym c.deref.ensures.value) made.1 in
      let front = c.in-Err-write_history.ensures.part made.0 events (c.last-last.ensures.value ∙ sym made.2.version) told still in
      (made.0, made.2, subst (λ (p : Params). WritesPart (g.K.Sink.written c.args.sink.now) (g.K.Sink.written c.write_history.new.sink) (rows_of p made.0)) c.params-params.ensures.value front);
}
