use Rattle.std.proofs.Common.{◌∙◌, ◌≢◌, ◌≤◌, ℕ, true, [], refl, sym, ap, subst, arith}
use Rattle.line_reader.specs.Lines.{lines}
use Rattle.page_disk.specs.declared.disk.Area.{Area}
use Rattle.row_machine.specs.declared.ending.Ending.{Ending}
use Rattle.row_machine.specs.declared.ending.Ending.TheVariants as ending
use Rattle.row_machine.specs.Serving.{IsFlushed}
use Rattle.boxsum.specs.declared.status.Status.TheVariants as status
use Rattle.boxsum.proofs.Endings.{ending_of, ends_between, flushes, input_ending, input_flushes, no_ending, only_fine, port_cause, run_ends, scratch_ends}
use Rattle.boxsum.proofs.Scratch.{ends_at, whole_text}
use Rattle.boxsum.proofs.running.scratch_on.Goals as goal

pub returns-clause-may_end : goal.returns-clause-may_end
returns-clause-may_end g c =
    let lasts = c.serve.ensures.lasts [] (ap (λ x. x.history) (c.new-desk.ensures.house ∙ c.new.ensures)) in
    scratch_ends c.serve.result.ending c.from.result c.from.ensures
    (λ so. let no : 1 ≤ 0 = c.serve.ensures.disk_fault so in omega arith)
    (λ page so. lasts.undamaged page so)
    (λ allotted so. (lasts.page_limit allotted so).2)

pub returns-clause-causes : goal.returns-clause-causes
returns-clause-causes g c = port_cause g.S.Source g.K.Sink c.args.source.now c.serve.new.source c.args.sink.now c.serve.new.sink
    c.serve.result.ending c.from.result c.from.ensures c.serve.ensures.read_fault c.serve.ensures.write_fault c.serve.ensures.input_limit

pub returns-clause-answers : goal.returns-clause-answers
returns-clause-answers g c =
    let lasts = c.serve.ensures.lasts [] (ap (λ x. x.history) (c.new-desk.ensures.house ∙ c.new.ensures)) in
    let undamaged : (area : Area) (page : ℕ) → c.from.result ≢ status.Damaged area page = λ area page so. lasts.undamaged page (ending_of c.serve.result.ending (ending.Damaged page) c.from.result (status.Damaged area page) c.from.ensures so refl) in
    record {
      answers = record {
        fine = λ fine told tells.
            let ended = ending_of c.serve.result.ending ending.Fine c.from.result status.Fine c.from.ensures fine refl in
            let still = c.serve.ensures.tells (subst (λ (x : Ending). IsFlushed x) (sym ended) tt) tells in (
              still,
              (c.ends_laws.ensures.fine _ _ _ _ _ _ _ _ _ _ _ _ (ends_at _ true (g.K.Sink.tells c.args.sink.now) (g.K.Sink.tells c.serve.new.sink) (g.S.Source.tells c.serve.new.source)
                  (g.S.Source.left c.args.source.now) (g.S.Source.left c.serve.new.source) c.serve.result (g.K.Sink.written c.args.sink.now) (g.K.Sink.written c.serve.new.sink)
                  [] c.new-desk.result.params c.args.params.now c.new-desk.result.house c.new.result c.new-desk.result.sessions
                  (c.new-desk.ensures.params ∙ ap (λ x. x.params) c.new.ensures) c.new-desk.ensures.house c.new-desk.ensures.sessions
                  (c.serve.ensures.ends told true []) (c.machine_laws.ensures.may c.args.params.now (lines (g.S.Source.left c.args.source.now))) (ap (λ x. x.history) c.new.ensures)) ended).wrote tells still,
            );
        part = λ told tells still. c.ends_laws.ensures.part _ _ _ _ _ _ _ _ _ _ _ _ (ends_at _ true (g.K.Sink.tells c.args.sink.now) (g.K.Sink.tells c.serve.new.sink) (g.S.Source.tells c.serve.new.source)
            (g.S.Source.left c.args.source.now) (g.S.Source.left c.serve.new.source) c.serve.result (g.K.Sink.written c.args.sink.now) (g.K.Sink.written c.serve.new.sink)
            [] c.new-desk.result.params c.args.params.now c.new-desk.result.house c.new.result c.new-desk.result.sessions
            (c.new-desk.ensures.params ∙ ap (λ x. x.params) c.new.ensures) c.new-desk.ensures.house c.new-desk.ensures.sessions
            (c.serve.ensures.ends told true []) (c.machine_laws.ensures.may c.args.params.now (lines (g.S.Source.left c.args.source.now))) (ap (λ x. x.history) c.new.ensures)) tells still;
        whole_lines = λ why told left_told tells.
            let ended = input_ending c.serve.result.ending c.from.result c.from.ensures why in
            let still = c.serve.ensures.tells (input_flushes c.serve.result.ending ended) tells in (
              still,
              whole_text _ true (g.K.Sink.tells c.args.sink.now) (g.K.Sink.tells c.serve.new.sink) (g.S.Source.tells c.serve.new.source)
                  (g.S.Source.left c.args.source.now) (g.S.Source.left c.serve.new.source) c.serve.result (g.K.Sink.written c.args.sink.now) (g.K.Sink.written c.serve.new.sink) c.args.params.now [] tells still (c.ends_laws.ensures.input _ _ _ _ _ _ _ _ _ _ _ _ (ends_at _ true (g.K.Sink.tells c.args.sink.now) (g.K.Sink.tells c.serve.new.sink) (g.S.Source.tells c.serve.new.source)
                  (g.S.Source.left c.args.source.now) (g.S.Source.left c.serve.new.source) c.serve.result (g.K.Sink.written c.args.sink.now) (g.K.Sink.written c.serve.new.sink)
                  [] c.new-desk.result.params c.args.params.now c.new-desk.result.house c.new.result c.new-desk.result.sessions
                  (c.new-desk.ensures.params ∙ ap (λ x. x.params) c.new.ensures) c.new-desk.ensures.house c.new-desk.ensures.sessions
                  (c.serve.ensures.ends told true []) (c.machine_laws.ensures.may c.args.params.now (lines (g.S.Source.left c.args.source.now))) (ap (λ x. x.history) c.new.ensures)) ended left_told),
            );
        undamaged = undamaged;
        complete = λ told short source sink other limit.
            only_fine c.from.result (run_ends c.serve.result.ending c.from.result c.from.ensures)
            (λ so. no_ending c.serve.result.ending c.from.result status.NoWarehouse c.from.ensures so refl)
            (λ so. source (c.serve.ensures.read_fault (ending_of c.serve.result.ending ending.ReadFault c.from.result status.ReadFault c.from.ensures so refl)))
            (λ so. sink (c.serve.ensures.write_fault (ending_of c.serve.result.ending ending.WriteFault c.from.result status.WriteFault c.from.ensures so refl)))
            other undamaged
            (λ taken so. let i = (c.serve.ensures.input_limit taken (ending_of c.serve.result.ending (ending.InputLimit taken) c.from.result (status.InputLimit taken) c.from.ensures so refl)).1 told in omega arith)
            limit;
      };
      at_end = λ fine told. c.serve.ensures.at_end (ending_of c.serve.result.ending ending.Fine c.from.result status.Fine c.from.ensures fine refl) told;
      served = λ told.
          let e = (ends_at _ true (g.K.Sink.tells c.args.sink.now) (g.K.Sink.tells c.serve.new.sink) (g.S.Source.tells c.serve.new.source)
          (g.S.Source.left c.args.source.now) (g.S.Source.left c.serve.new.source) c.serve.result (g.K.Sink.written c.args.sink.now) (g.K.Sink.written c.serve.new.sink)
          [] c.new-desk.result.params c.args.params.now c.new-desk.result.house c.new.result c.new-desk.result.sessions
          (c.new-desk.ensures.params ∙ ap (λ x. x.params) c.new.ensures) c.new-desk.ensures.house c.new-desk.ensures.sessions
          (c.serve.ensures.ends told true []) (c.machine_laws.ensures.may c.args.params.now (lines (g.S.Source.left c.args.source.now))) (ap (λ x. x.history) c.new.ensures)) in
          record {
            served = e.served;
            cut_off = e.begun;
            rest = e.rest;
            cut = e.cut;
            one = e.one;
            none_cut_off = λ ends. e.between (ends_between c.serve.result.ending c.from.result c.from.ensures ends);
            all = λ fine. e.fine (ending_of c.serve.result.ending ending.Fine c.from.result status.Fine c.from.ensures fine refl);
            whole_lines = λ why. e.taken (input_ending c.serve.result.ending c.from.result c.from.ensures why);
            read = e.read;
            part = e.wrote;
            wrote = λ sink disk tells.
                let flushed = flushes c.serve.result.ending c.from.result c.from.ensures sink disk in
                let still = c.serve.ensures.tells flushed tells in (still, e.flushed flushed tells still);
            put = e.put;
          };
    }
