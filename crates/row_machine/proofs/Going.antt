-- The invariant of the loop over lines.
use Rattle.std.proofs.Common.{◌≡◌, ℕ, ◌+◌, ◌≤◌, Bool, false, IsTrue, List, [], ◌++◌, length, ◌⊎◌, inl, inr, Option, None, Some, Ok, true, sym, ◌∙◌, ap, refl, arith, subst}
use Rattle.std.proofs.lemmas.List.{append-nil}
use Rattle.std.specs.Prelude.{⊤}
use Rattle.bw_types.specs.declared.params.Params.{Params}
use Rattle.bw_types.specs.History.{History}
use Rattle.bw_types.specs.Fits.{IsInRange}
use Rattle.warehouse.specs.declared.house.House.{Ghosts}
use Rattle.row_machine.specs.declared.desk.Desk.{Desk}
use Rattle.line_reader.specs.Reader.{ReaderState, to_come, unless_stopped}
use Rattle.line_reader.specs.declared.lines.Line.{Line}
use Rattle.line_reader.specs.declared.lines.Line.TheVariants.{End}
use Rattle.row_machine.specs.declared.serving.TheConstants.{INPUT_LIMIT}
use Rattle.ports.specs.Written.{WritesMore, WritesPart}
use Rattle.row_machine.specs.Serving.{TakesWhole, MayGoOn, MayServe, SeenEnd, GoesOn, ServesLine, IsBetweenLines, IsFlushed, IsInputEnding, BreaksOff, Ends, Lasts, LastsBeyond, LastsSoFar, state_at}
use Rattle.row_machine.specs.Housed.{IsHouseEnding}
use Rattle.row_machine.specs.declared.ending.RunEnd.{RunEnd}
use Rattle.row_machine.specs.declared.ending.Ending.{Ending}
use Rattle.row_machine.specs.declared.ending.Ending.TheVariants.{Fine, ReadFault, WriteFault, NoMemory, InputLimit, DiskFault, Damaged, PageLimit}
use Rattle.line_reader.specs.Lines.{lines, PassesNoLineFeed}
use Rattle.csv_rows.specs.Machine.{replies}
use Rattle.row_machine.proofs.Lined.{not_both}
use Rattle.row_machine.proofs.Parts.{more_twice, nothing_more, part_of_all}
use Rattle.row_machine.proofs.Putting.{Puts, puts_between, puts_due, puts_line, puts_nothing, puts_within}
use Rattle.row_machine.proofs.Served.{LineLaws, served_whole}
use Rattle.row_machine.proofs.Reached.{Reached, coming_may, reached_nothing, reached_line}
use Rattle.row_machine.proofs.EndsLaws.{Written, ends_between, ends_within}
use Rattle.row_machine.proofs.Lasting.{lasts_at_first, lasts_between, lasts_on, lasts_within}

-- what is known of a port at a moment: whether it tells, its bytes and its faults
pub record Port : Type 0 where
  pub tells : Bool
  pub bytes : List ℕ
  pub faults : ℕ

-- from one moment to the other the port did not fail, and still tells if it told
pub record Calm (old new : Port) : Type 0 where
  pub faults : new.faults ≡ old.faults
  pub tells : IsTrue old.tells → IsTrue new.tells

pub calm_twice : (a b c : Port) → Calm a b → Calm b c → Calm a c
calm_twice a b c f g = record { faults = g.faults ∙ f.faults; tells = λ t. g.tells (f.tells t) }

-- Between two lines: source and sink at entry and now, the replies that are gathered, what tells that no version waits among them,
-- the machine at entry and now, the reader and the next line's number.
pub record Going {H D : Type 0} (g : Ghosts H D) (first now : Desk H D g) (source source' sink sink' : Port) (gathered : List ℕ) (calm : Type 0) (reader : ReaderState) (number : ℕ) : Type 0 where
  pub params : now.params ≡ first.params
  pub range : IsInRange first.params
  pub limit : reader.limit ≡ INPUT_LIMIT
  pub taken : reader.taken ≤ reader.limit
  pub number_small : number + length reader.pending ≤ reader.taken + 1
  pub may_go_on : MayGoOn reader.stopped
  pub seen_end : SeenEnd reader source.tells source'.bytes
  pub source_calm : Calm source source'
  pub sink_calm : Calm sink sink'
  pub more : IsTrue sink.tells → WritesMore sink.bytes sink'.bytes
  pub device_tells : g.tells (g.device now.house) ≡ g.tells (g.device first.house)
  pub faults : g.faults (g.device first.house) ≤ g.faults (g.device now.house)
  pub counts : IsTrue source.tells → reader.taken + length source'.bytes ≡ length source.bytes
  pub lasts : (h : History) → g.stands true (g.device first.house) first.params h → LastsSoFar g first.params h (g.device first.house) (g.device now.house)
  pub reached : IsTrue source.tells → (whole : Bool) (h : History) → MayServe whole first.params (lines source.bytes) → g.stands whole (g.device first.house) first.params h
      → (reached : Reached g whole sink.tells first.params h first now number source.bytes (to_come reader source'.bytes) reader.stopped sink.bytes (sink'.bytes ++ gathered))
      × Puts calm sink.tells first.params (state_at g h first) (lines reached.served.given) sink.bytes sink'.bytes

-- a reader that may go on has not stopped, or has stopped at the end
pub going_or_ended : (stopped : Option Line) → MayGoOn stopped → (stopped ≡ None) ⊎ (stopped ≡ Some End)
going_or_ended None m = inl refl
going_or_ended (Some answer) m = inr (ap Some m)

-- nothing is to come for a reader that has stopped
pub nothing_to_come : (reader : ReaderState) (left : List ℕ) → reader.stopped ≡ Some End → to_come reader left ≡ []
nothing_to_come reader left e = stopped_at reader.stopped e
  where
    stopped_at : (s : Option Line) → s ≡ Some End → unless_stopped s (reader.pending ++ left) ≡ []
    stopped_at s f = rw f refl

-- what is to come is what was passed of it, and what the source has left
pub come_passes : (reader : ReaderState) (left : List ℕ) → MayGoOn reader.stopped → (reader.stopped ≡ Some End → left ≡ []) → (passed : List ℕ) × (to_come reader left ≡ passed ++ left)
come_passes reader left may seen = passes_at reader.stopped may seen
  where
    passes_at : (s : Option Line) → MayGoOn s → (s ≡ Some End → left ≡ []) → (passed : List ℕ) × (unless_stopped s (reader.pending ++ left) ≡ passed ++ left)
    passes_at None m e = (reader.pending, refl)
    passes_at (Some answer) m e = ([], sym (e (ap Some m)))

-- where a run ends between two lines, what was to come was passed, or nothing was
pub passes_between : (ending : Ending) (come left : List ℕ) → IsBetweenLines ending → (ending ≡ Fine → come ≡ left) → (IsInputEnding ending → PassesNoLineFeed come left) → (passed : List ℕ) × (come ≡ passed ++ left)
passes_between Fine come left b fine input = ([], fine refl)
passes_between ReadFault come left b fine input = ((input tt).passed, (input tt).cut)
passes_between (InputLimit taken) come left b fine input = ((input tt).passed, (input tt).cut)
passes_between WriteFault come left b fine input = absurd b
passes_between NoMemory come left b fine input = absurd b
passes_between DiskFault come left b fine input = absurd b
passes_between (Damaged page) come left b fine input = absurd b
passes_between (PageLimit allotted) come left b fine input = absurd b

-- the end is seen as before, or it is seen now
pub seen_after : (source source' source'' : Port) (reader reader' : ReaderState) → MayGoOn reader.stopped → Calm source source' → SeenEnd reader source.tells source'.bytes
    → (reader.stopped ≡ None → SeenEnd reader' source'.tells source''.bytes)
    → (reader.stopped ≡ Some End → (reader' ≡ reader) × (source''.bytes ≡ source'.bytes))
    → SeenEnd reader' source.tells source''.bytes
seen_after source source' source'' reader reader' may calm seen now stays = elim (going_or_ended reader.stopped may) [
  | inl open_ ↦ (λ e. ((now open_ e).0, λ told. (now open_ e).1 (calm.tells told)))
  | inr ended ↦ (λ e. ((rw ((stays ended).0) (seen ended).0), λ told. (stays ended).1 ∙ (seen ended).1 told))
]

-- what was gathered is put, or stays gathered
pub going_put : {H D : Type 0} (g : Ghosts H D) (first now : Desk H D g) (source source' sink sink' sink'' : Port) (gathered gathered' : List ℕ) (calm : Type 0) (reader : ReaderState) (number : ℕ)
    → Going g first now source source' sink sink' gathered calm reader number
    → ((sink''.bytes ≡ sink'.bytes) × calm) ⊎ (IsTrue sink'.tells → sink''.bytes ≡ sink'.bytes ++ gathered)
    → Calm sink' sink'' → (IsTrue sink'.tells → WritesMore sink'.bytes sink''.bytes) → (IsTrue sink'.tells → sink''.bytes ++ gathered' ≡ sink'.bytes ++ gathered)
    → Going g first now source source' sink sink'' gathered' ⊤ reader number
going_put g first now source source' sink sink' sink'' gathered gathered' calm reader number o due still more same = record {
  params = o.params;
  range = o.range;
  limit = o.limit;
  taken = o.taken;
  number_small = o.number_small;
  may_go_on = o.may_go_on;
  seen_end = o.seen_end;
  source_calm = o.source_calm;
  sink_calm = calm_twice sink sink' sink'' o.sink_calm still;
  more = λ told. more_twice sink.bytes sink'.bytes sink''.bytes (o.more told) (more (o.sink_calm.tells told));
  device_tells = o.device_tells;
  faults = o.faults;
  counts = o.counts;
  lasts = o.lasts;
  reached = λ told whole h may stands.
      let held = o.reached told whole h may stands in
      let r = held.0 in (
        record {
          state = r.state;
          at = r.at;
          served = record {
            given = r.served.given;
            cut = r.served.cut;
            ends = r.served.ends;
            nothing = r.served.nothing;
            number = r.served.number;
            state = r.served.state;
            wrote = λ told. same (o.sink_calm.tells told) ∙ r.served.wrote told;
          };
          goes = r.goes;
          reads = r.reads;
          quiet = r.quiet;
          charge = r.charge;
          any_moment = r.any_moment;
          settled = r.settled;
        },
        puts_due calm sink.tells first.params (state_at g h first) (lines r.served.given) sink.bytes sink'.bytes sink''.bytes held.1
            (elim due [
              | inl kept ↦ inl kept
              | inr all ↦ inr (λ wrote. all (o.sink_calm.tells wrote) ∙ r.served.wrote wrote)
            ]),
      );
}

-- what the outbox says of the replies that are due: nothing was put, or all was
pub put_so : {K P Q : Type 0} (written : K → List ℕ) (old new : K) (gathered : List ℕ) (calm told : Type 0)
    → ((new ≡ old) × P × calm) ⊎ (Q × (told → written new ≡ written old ++ gathered))
    → ((written new ≡ written old) × calm) ⊎ (told → written new ≡ written old ++ gathered)
put_so written old new gathered calm told due = elim due [ inl kept ↦ inl (ap written kept.0, kept.2) | inr all ↦ inr all.1 ]

-- one line more
pub going_on : {H D : Type 0} (g : Ghosts H D) (laws : LineLaws) (first now now' : Desk H D g) (source source' source'' sink sink' : Port) (gathered gathered' : List ℕ) (is_urgent : Bool) (reader reader' : ReaderState) (number : ℕ)
    → Going g first now source source' sink sink' gathered ⊤ reader number
    → now'.params ≡ now.params → reader'.limit ≡ reader.limit → GoesOn reader reader' → Calm source' source''
    → g.tells (g.device now'.house) ≡ g.tells (g.device now.house) → g.faults (g.device now.house) ≤ g.faults (g.device now'.house)
    → (reader.stopped ≡ None → SeenEnd reader' source'.tells source''.bytes)
    → (reader.stopped ≡ Some End → (reader' ≡ reader) × (source''.bytes ≡ source'.bytes))
    → (IsTrue source'.tells → IsTrue source''.tells → reader'.taken + length source''.bytes ≡ reader.taken + length source'.bytes)
    → ((h : History) → g.stands true (g.device now.house) now.params h → LastsBeyond g now.params h (g.device now.house) (Ok now'))
    → (IsTrue source'.tells → (whole : Bool) (h : History) → MayServe whole now.params (lines (to_come reader source'.bytes)) → g.stands whole (g.device now.house) now.params h
    → ServesLine g whole now.params number (to_come reader source'.bytes) (to_come reader' source''.bytes) reader'.stopped h now now' gathered gathered' is_urgent)
    → Going g first now' source source'' sink sink' gathered' (is_urgent ≡ false) reader' (number + 1)
going_on g laws first now now' source source' source'' sink sink' gathered gathered' is_urgent reader reader' number o params limit goes calm tells faults seen stays counts lasts serves = record {
  params = params ∙ o.params;
  range = o.range;
  limit = limit ∙ o.limit;
  taken = goes.taken;
  number_small = omega (arith, o.number_small, goes.used);
  may_go_on = goes.stopped;
  seen_end = seen_after source source' source'' reader reader' o.may_go_on o.source_calm o.seen_end seen stays;
  source_calm = calm_twice source source' source'' o.source_calm calm;
  sink_calm = o.sink_calm;
  more = o.more;
  device_tells = tells ∙ o.device_tells;
  faults = omega (arith, o.faults, faults);
  counts = λ told. counts (o.source_calm.tells told) (calm.tells (o.source_calm.tells told)) ∙ o.counts told;
  lasts = λ h stands.
      let so_far = o.lasts h stands in
      lasts_on g first.params h _ _ _ so_far
      (subst (λ (p : Params). LastsSoFar g p so_far.sure (g.device now.house) (g.device now'.house)) o.params
      (lasts so_far.sure (subst (λ (p : Params). g.stands true (g.device now.house) p so_far.sure) (sym o.params) so_far.stands)));
  reached = λ told whole h may stands.
      let held = o.reached told whole h may stands in
      let r = held.0 in
      let may' : MayServe whole first.params (lines (to_come reader source'.bytes)) =
      coming_may laws whole sink.tells first.params (state_at g h first) r.state number source.bytes (to_come reader source'.bytes) reader.stopped sink.bytes (sink'.bytes ++ gathered) r.served may in
      let next = reached_line g laws whole sink.tells first.params h first now now' number source.bytes (to_come reader source'.bytes) (to_come reader' source''.bytes) reader.stopped reader'.stopped sink.bytes sink'.bytes gathered gathered' is_urgent
      r (nothing_to_come reader' source''.bytes)
      (subst (λ (p : Params). ServesLine g whole p number (to_come reader source'.bytes) (to_come reader' source''.bytes) reader'.stopped r.state.history now now' gathered gathered' is_urgent) o.params
      (serves (o.source_calm.tells told) whole r.state.history
      (subst (λ (p : Params). MayServe whole p (lines (to_come reader source'.bytes))) (sym o.params) may')
      (subst (λ (p : Params). g.stands whole (g.device now.house) p r.state.history) (sym o.params) r.at.stands))) in (
        next.0,
        puts_line sink.tells is_urgent first.params (state_at g h first) r.state number (lines r.served.given) (lines next.0.served.given) next.1 sink.bytes sink'.bytes
            held.1 r.served.number r.served.state next.2 next.3,
      );
}

-- before the first line
pub going_first : {H D : Type 0} (g : Ghosts H D) (first : Desk H D g) (source sink : Port) (gathered : List ℕ) (calm : Type 0) (reader : ReaderState) → IsInRange first.params
    → reader ≡ record { text = []; pending = []; taken = 0; limit = INPUT_LIMIT; stopped = None } → gathered ≡ []
    → Going g first first source source sink sink gathered calm reader 1
going_first g first source sink gathered calm reader range e none = subst (λ (r : ReaderState). Going g first first source source sink sink gathered calm r 1) (sym e) (record {
  params = refl;
  range = range;
  limit = refl;
  taken = omega arith;
  number_small = omega arith;
  may_go_on = tt;
  seen_end = λ f. absurd cc;
  source_calm = record { faults = refl; tells = λ t. t };
  sink_calm = record { faults = refl; tells = λ t. t };
  more = λ told. nothing_more sink.bytes sink.bytes refl;
  device_tells = refl;
  faults = omega arith;
  counts = λ told. omega arith;
  lasts = λ h stands. lasts_at_first g first.params h (g.device first.house) stands;
  reached = λ told whole h may stands. subst (λ (b : List ℕ). (reached : Reached g whole sink.tells first.params h first first 1 source.bytes source.bytes None sink.bytes b)
      × Puts calm sink.tells first.params (state_at g h first) (lines reached.served.given) sink.bytes sink.bytes)
      (sym (append-nil sink.bytes) ∙ ap (λ (t : List ℕ). sink.bytes ++ t) (sym none))
      (reached_nothing g whole sink.tells first.params h first source.bytes sink.bytes stands, puts_nothing calm sink.tells first.params (state_at g h first) sink.bytes);
})

-- What was written when the run ends, of the replies that were written before and those that were gathered.
written_so : {H D : Type 0} (g : Ghosts H D) (whole : Bool) (params : Params) (h : History) (first now : Desk H D g) (n : ℕ) (input come left : List ℕ) (stopped : Option Line) (sink sink' : Port) (gathered : List ℕ) (tells' still : Bool) (written' : List ℕ) (ending : Ending)
    → (r : Reached g whole sink.tells params h first now n input come stopped sink.bytes (sink'.bytes ++ gathered)) → (IsTrue sink.tells → IsTrue sink'.tells)
    → (IsTrue sink.tells → WritesMore sink.bytes sink'.bytes)
    → (IsInputEnding ending → IsTrue still → TakesWhole input left (lines r.served.given))
    → (IsTrue sink'.tells → IsTrue tells' → WritesPart sink'.bytes written' gathered)
    → (IsFlushed ending → IsTrue sink'.tells → written' ≡ sink'.bytes ++ gathered)
    → Written sink.tells tells' still ending params (state_at g h first) input left (lines r.served.given) sink.bytes written'
written_so g whole params h first now n input come left stopped sink sink' gathered tells' still written' ending r told more taken part flushed = record {
  taken = taken;
  wrote = λ t still. part_of_all sink.bytes sink'.bytes written' gathered (replies params 1 (state_at g h first) (lines r.served.given)) (more t) (r.served.wrote t) (part (told t) still);
  flushed = λ f t still. flushed f (told t) ∙ r.served.wrote t;
}

-- the sink fails, between two lines
pub going_stops : {H D : Type 0} (g : Ghosts H D) (laws : LineLaws) (first now : Desk H D g) (source source' sink sink' : Port) (gathered : List ℕ) (calm : Type 0) (reader : ReaderState) (number : ℕ) (tells' : Bool) (written' : List ℕ) (ran : RunEnd D)
    → Going g first now source source' sink sink' gathered calm reader number
    → ran.ending ≡ WriteFault → ran.device ≡ g.device now.house → (IsTrue sink'.tells → IsTrue tells' → WritesPart sink'.bytes written' gathered)
    → IsTrue source.tells → (whole : Bool) (h : History) → MayServe whole first.params (lines source.bytes) → g.stands whole (g.device first.house) first.params h
    → Ends g whole sink.tells tells' source'.tells first.params (state_at g h first) source.bytes source'.bytes (g.device first.house) ran sink.bytes written'
going_stops g laws first now source source' sink sink' gathered calm reader number tells' written' ran o why device part told whole h may stands =
    let held = o.reached told whole h may stands in
    let r = held.0 in
    ends_between g laws whole sink.tells tells' source'.tells first.params h first now number source.bytes (to_come reader source'.bytes) source'.bytes reader.stopped sink.bytes (sink'.bytes ++ gathered) written' ran r
    device (λ f. absurd (let no : WriteFault ≡ Fine = sym why ∙ f in cc)) (λ w. subst (λ (s : Ending). IsHouseEnding s) why w)
    (λ still. come_passes reader source'.bytes o.may_go_on (λ e. (o.seen_end e).1 told))
    (written_so g whole first.params h first now number source.bytes (to_come reader source'.bytes) source'.bytes reader.stopped sink sink' gathered tells' source'.tells written' ran.ending r o.sink_calm.tells o.more
    (λ i. absurd (subst (λ (s : Ending). IsInputEnding s) why i)) part (λ f. absurd (subst (λ (s : Ending). IsFlushed s) why f)))
    (λ tells still. puts_between calm sink.tells first.params (state_at g h first) (lines r.served.given) sink.bytes sink'.bytes written' gathered held.1 tells (part (o.sink_calm.tells tells) still))

-- what closing a run does to its ending
pub record Closes {D : Type 0} (ended ran : RunEnd D) : Type 0 where
  pub device : ran.device ≡ ended.device
  pub ending : (ran.ending ≡ ended.ending) ⊎ ((ran.ending ≡ WriteFault) × (ended.ending ≡ DiskFault → ⊥))

-- an ending may be given by its parts
pub closes_like : {D : Type 0} (given ended ran : RunEnd D) → given.ending ≡ ended.ending → given.device ≡ ended.device → Closes given ran → Closes ended ran
closes_like given ended ran why device c = record {
  device = c.device ∙ device;
  ending = elim c.ending [ inl same ↦ inl (same ∙ why) | inr wrote ↦ inr (wrote.0, λ e. wrote.1 (why ∙ e)) ];
}

pub closes_same : {D : Type 0} (ended ran : RunEnd D) → Closes ended ran → (s : Ending) → (WriteFault ≡ s → ⊥) → ran.ending ≡ s → ended.ending ≡ s
closes_same ended ran c s other e = elim c.ending [
  | inl same ↦ sym same ∙ e
  | inr wrote ↦ absurd (other (sym wrote.0 ∙ e))
]

pub ended_by_input : {D : Type 0} (ended ran : RunEnd D) → Closes ended ran → IsInputEnding ran.ending → IsInputEnding ended.ending
ended_by_input ended ran c i = elim c.ending [
  | inl same ↦ subst (λ (s : Ending). IsInputEnding s) same i
  | inr wrote ↦ absurd (subst (λ (s : Ending). IsInputEnding s) wrote.0 i)
]

house_both : {D : Type 0} (ended ran : RunEnd D) → Closes ended ran → IsHouseEnding ran.ending → IsHouseEnding ended.ending
house_both ended ran c w = elim c.ending [
  | inl same ↦ subst (λ (s : Ending). IsHouseEnding s) same w
  | inr wrote ↦ absurd (subst (λ (s : Ending). IsHouseEnding s) wrote.0 w)
]

pub between_both : {D : Type 0} (ended ran : RunEnd D) → Closes ended ran → IsHouseEnding ended.ending → IsBetweenLines ran.ending → ⊥
between_both ended ran c w b = elim c.ending [
  | inl same ↦ not_both ended.ending w (subst (λ (s : Ending). IsBetweenLines s) same b)
  | inr wrote ↦ subst (λ (s : Ending). IsBetweenLines s) wrote.0 b
]

disk_stays : {D : Type 0} (ended ran : RunEnd D) → Closes ended ran → ended.ending ≡ DiskFault → ran.ending ≡ DiskFault
disk_stays ended ran c e = elim c.ending [ inl same ↦ same ∙ e | inr wrote ↦ absurd (wrote.1 e) ]

-- the run ends between two lines or in one, and the replies that are gathered are put
pub going_ends : {H D : Type 0} (g : Ghosts H D) (laws : LineLaws) (first now : Desk H D g) (source source' source'' sink sink' : Port) (gathered : List ℕ) (reader reader' : ReaderState) (number : ℕ) (tells' : Bool) (written' : List ℕ) (ended ran : RunEnd D)
    → Going g first now source source' sink sink' gathered ⊤ reader number
    → Closes ended ran
    → (IsBetweenLines ended.ending ⊎ IsHouseEnding ended.ending)
    → (IsBetweenLines ended.ending → ended.device ≡ g.device now.house)
    → (ended.ending ≡ Fine → IsTrue source'.tells → to_come reader source'.bytes ≡ [])
    → (IsInputEnding ended.ending → IsTrue source'.tells → IsTrue source''.tells → (reader.stopped ≡ None) × PassesNoLineFeed (to_come reader source'.bytes) source''.bytes)
    → (IsHouseEnding ended.ending → IsTrue source'.tells → (whole : Bool) (h : History) → MayServe whole now.params (lines (to_come reader source'.bytes)) → g.stands whole (g.device now.house) now.params h
    → BreaksOff g whole now.params number (to_come reader source'.bytes) (to_come reader' source''.bytes) reader'.stopped h now ended)
    → (reader.stopped ≡ None → SeenEnd reader' source'.tells source''.bytes)
    → (reader.stopped ≡ Some End → (reader' ≡ reader) × (source''.bytes ≡ source'.bytes))
    → (ended.ending ≡ Fine → reader'.stopped ≡ Some End)
    → (IsTrue sink'.tells → IsTrue tells' → WritesPart sink'.bytes written' gathered)
    → (IsFlushed ran.ending → IsTrue sink'.tells → written' ≡ sink'.bytes ++ gathered)
    → IsTrue source.tells → (whole : Bool) (h : History) → MayServe whole first.params (lines source.bytes) → g.stands whole (g.device first.house) first.params h
    → Ends g whole sink.tells tells' source''.tells first.params (state_at g h first) source.bytes source''.bytes (g.device first.house) ran sink.bytes written'
going_ends g laws first now source source' source'' sink sink' gathered reader reader' number tells' written' ended ran o closes why between fine input breaks seen stays at_end part flushed told whole h may stands =
    let held = o.reached told whole h may stands in
    let r = held.0 in
    let told' = o.source_calm.tells told in
    let seen' : SeenEnd reader' source.tells source''.bytes = seen_after source source' source'' reader reader' o.may_go_on o.source_calm o.seen_end seen stays in
    let written = written_so g whole first.params h first now number source.bytes (to_come reader source'.bytes) source''.bytes reader.stopped sink sink' gathered tells' source''.tells written' ran.ending r o.sink_calm.tells o.more
    (λ i still.
    let p = input (ended_by_input ended ran closes i) told' still in
    served_whole laws sink.tells first.params (state_at g h first) r.state number source.bytes (to_come reader source'.bytes) source''.bytes reader.stopped sink.bytes (sink'.bytes ++ gathered) r.served p.0 p.1)
    part flushed in
    elim why [
      | inl b ↦ ends_between g laws whole sink.tells tells' source''.tells first.params h first now number source.bytes (to_come reader source'.bytes) source''.bytes reader.stopped sink.bytes (sink'.bytes ++ gathered) written' ran r
          (closes.device ∙ between b) (λ f. fine (closes_same ended ran closes Fine (λ e. cc) f) told')
          (λ w. not_both ended.ending (house_both ended ran closes w) b)
          (λ still. passes_between ended.ending (to_come reader source'.bytes) source''.bytes b
          (λ e. let none : source''.bytes ≡ [] = (seen' (at_end e)).1 told in fine e told' ∙ sym none)
          (λ i. (input i told' still).1)) written
          (λ tells still. puts_between ⊤ sink.tells first.params (state_at g h first) (lines r.served.given) sink.bytes sink'.bytes written' gathered held.1 tells (part (o.sink_calm.tells tells) still))
      | inr w ↦ let broke : BreaksOff g whole first.params number (to_come reader source'.bytes) (to_come reader' source''.bytes) reader'.stopped r.state.history now ended =
          subst (λ (p : Params). BreaksOff g whole p number (to_come reader source'.bytes) (to_come reader' source''.bytes) reader'.stopped r.state.history now ended) o.params
          (breaks w told' whole r.state.history
          (subst (λ (p : Params). MayServe whole p (lines (to_come reader source'.bytes))) (sym o.params)
          (coming_may laws whole sink.tells first.params (state_at g h first) r.state number source.bytes (to_come reader source'.bytes) reader.stopped sink.bytes (sink'.bytes ++ gathered) r.served may))
          (subst (λ (p : Params). g.stands whole (g.device now.house) p r.state.history) (sym o.params) r.at.stands)) in
          ends_within g laws whole sink.tells tells' source''.tells first.params h first now number source.bytes (to_come reader source'.bytes) source''.bytes reader.stopped sink.bytes (sink'.bytes ++ gathered) written' ran ended (to_come reader' source''.bytes) reader'.stopped r
          broke (λ e. nothing_to_come reader' source''.bytes e) (λ still. come_passes reader' source''.bytes broke.goes (λ e. (seen' e).1 told))
          closes.device (λ e. disk_stays ended ran closes e)
          (λ b. between_both ended ran closes w b)
          (λ page e. closes_same ended ran closes (Damaged page) (λ f. cc) e) (λ allotted e. closes_same ended ran closes (PageLimit allotted) (λ f. cc) e) written
          (λ tells still. puts_within sink.tells first.params (state_at g h first) (lines r.served.given) broke.line sink.bytes sink'.bytes written' gathered held.1 tells
          (part (o.sink_calm.tells tells) still))
    ]

-- the sink fails between two lines, over whatever source
pub going_stops_lasting : {H D : Type 0} (g : Ghosts H D) (first now : Desk H D g) (source source' sink sink' : Port) (gathered : List ℕ) (calm : Type 0) (reader : ReaderState) (number : ℕ) (ran : RunEnd D)
    → Going g first now source source' sink sink' gathered calm reader number
    → ran.ending ≡ WriteFault → ran.device ≡ g.device now.house
    → (h : History) → g.stands true (g.device first.house) first.params h → Lasts g first.params h (g.device first.house) ran
going_stops_lasting g first now source source' sink sink' gathered calm reader number ran o why device h stands =
    lasts_between g first.params h _ _ ran (o.lasts h stands) device (λ w. subst (λ (s : Ending). IsHouseEnding s) why w)

-- the run ends between two lines or in one, over whatever source
pub going_ends_lasting : {H D : Type 0} (g : Ghosts H D) (first now : Desk H D g) (source source' sink sink' : Port) (gathered : List ℕ) (calm : Type 0) (reader : ReaderState) (number : ℕ) (ended ran : RunEnd D)
    → Going g first now source source' sink sink' gathered calm reader number
    → Closes ended ran
    → (IsBetweenLines ended.ending ⊎ IsHouseEnding ended.ending)
    → (IsBetweenLines ended.ending → ended.device ≡ g.device now.house)
    → ((h : History) → g.stands true (g.device now.house) now.params h → IsHouseEnding ended.ending → Lasts g now.params h (g.device now.house) ended)
    → (h : History) → g.stands true (g.device first.house) first.params h → Lasts g first.params h (g.device first.house) ran
going_ends_lasting g first now source source' sink sink' gathered calm reader number ended ran o closes why between lasts h stands =
    let so_far = o.lasts h stands in
    elim why [
      | inl b ↦ lasts_between g first.params h _ _ ran so_far (closes.device ∙ between b) (λ w. not_both ended.ending (house_both ended ran closes w) b)
      | inr w ↦ lasts_within g first.params h _ _ ended ran so_far
          (subst (λ (p : Params). Lasts g p so_far.sure (g.device now.house) ended) o.params
          (lasts so_far.sure (subst (λ (p : Params). g.stands true (g.device now.house) p so_far.sure) (sym o.params) so_far.stands) w))
          closes.device (λ e. disk_stays ended ran closes e)
          (λ page e. closes_same ended ran closes (Damaged page) (λ f. cc) e) (λ allotted e. closes_same ended ran closes (PageLimit allotted) (λ f. cc) e)
    ]

-- what is known at each of the two endings by the input is known at both
pub input_passes : {P Q : Type 0} (ending : Ending) → (ending ≡ ReadFault → P → Q) → ((taken : ℕ) → ending ≡ InputLimit taken → P → Q) → IsInputEnding ending → P → Q
input_passes ReadFault f l i = f refl
input_passes (InputLimit taken) f l i = l taken refl
input_passes Fine f l i = absurd i
input_passes WriteFault f l i = absurd i
input_passes NoMemory f l i = absurd i
input_passes DiskFault f l i = absurd i
input_passes (Damaged page) f l i = absurd i
input_passes (PageLimit allotted) f l i = absurd i

-- a house does not end a run by its input
pub never_by_input : (ending : Ending) → IsHouseEnding ending → IsInputEnding ending → ⊥
never_by_input ReadFault w i = w
never_by_input (InputLimit taken) w i = w
never_by_input Fine w i = i
never_by_input WriteFault w i = i
never_by_input NoMemory w i = i
never_by_input DiskFault w i = i
never_by_input (Damaged page) w i = i
never_by_input (PageLimit allotted) w i = i

-- nor by its end
pub never_fine_house : (ending : Ending) → IsHouseEnding ending → ending ≡ Fine → ⊥
never_fine_house ending w e = subst (λ (s : Ending). IsHouseEnding s) e w

-- a run that a house ended ends so, or in the output
pub house_never : {D : Type 0} (ended ran : RunEnd D) → Closes ended ran → IsHouseEnding ended.ending → (s : Ending) → (WriteFault ≡ s → ⊥) → (IsHouseEnding s → ⊥) → ran.ending ≡ s → ⊥
house_never ended ran c w s other none e = none (subst (λ (s : Ending). IsHouseEnding s) (closes_same ended ran c s other e) w)
