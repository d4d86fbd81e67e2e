use Rattle.std.proofs.Common.{◌≡◌, ◌+◌, ◌*◌, ◌%◌, ◌^◌, true, length, Err, refl, ap, subst, ◌∙◌, rules, arith}
use Rattle.std.proofs.lemmas.Result.{err_from_is_err_and}
use Rattle.bw_types.specs.Fits.{ends_fit}
use Rattle.bw_types.specs.History.{changes}
use Rattle.bw_types.specs.declared.params.Params.{Params}
use Rattle.history_laws.specs.Entries.{history_entries}
use Rattle.ports.specs.declared.page.PageFault.TheVariants.{Damaged}
use Rattle.page_space.specs.Shown.{map_of}
use Rattle.span_planes.specs.Shown.{space_in}
use Rattle.span_planes.specs.SpanHolds.{without_degree}
use Rattle.span_planes.specs.SpanPoints.{dated_weight, plain_weight, span_points}
use Rattle.span_planes.proofs.FittingEntries.{history_fits}
use Rattle.span_planes.proofs.OpenSpans.{few_events, own_halves, own_params, own_range}
use Rattle.span_planes.proofs.SpanReads.{exit_error, read_then}
use Rattle.span_planes.proofs.SpanTotals.{up_to_said}
use Rattle.span_planes.proofs.SpanTrees.{both_halves, cost_under, one_half, points_of_changes, said_under}
use Rattle.span_planes.proofs.spans.Spans.up_to.Goals as goal

pub returns-in_err-plain-clause-sound : goal.returns-in_err-plain-clause-sound
returns-in_err-plain-clause-sound g c = λ params h page holds e.
    let halves = own_halves c.holds_one.ensures.one c.args.self.now c.is_held.ensures.held params h holds (map_of (space_in c.args.self.now)) c.params-params.result c.as_slice.result.now
    c.split_at.result.0.now c.split_at.result.1.now c.len.result refl c.params-params.ensures.value c.as_slice.ensures.value c.len.ensures.value c.split_at.ensures.front c.split_at.ensures.back in
    let p = err_from_is_err_and c.from_residual.result c.from_residual.ensures.1 in
    let same = exit_error c.from_residual.result c.in_err-plain.field-0.0 (Damaged page) p e in
    c.in_err-plain.ensures.sound (span_points params plain_weight (history_entries h)) page holds.0 halves.plain (ap Err same)

pub returns-in_err-plain-clause-cost : goal.returns-in_err-plain-clause-cost
returns-in_err-plain-clause-cost g c = λ params h holds.
    let halves = own_halves c.holds_one.ensures.one c.args.self.now c.is_held.ensures.held params h holds (map_of (space_in c.args.self.now)) c.params-params.result c.as_slice.result.now
    c.split_at.result.0.now c.split_at.result.1.now c.len.result refl c.params-params.ensures.value c.as_slice.ensures.value c.len.ensures.value c.split_at.ensures.front c.split_at.ensures.back in
    one_half _ _ _
    (cost_under c.params-params.result params halves.params_are g.X.DomIndex (length (changes h)) _ _
    (c.in_err-plain.ensures.cost holds.0 (span_points params plain_weight (history_entries h)) (length (changes h)) halves.plain halves.plain_balanced
    (λ subset _. points_of_changes c.entries_are_changes.ensures params plain_weight h holds.1.lawful subset)))

pub returns-in_err-dated-clause-sound : goal.returns-in_err-dated-clause-sound
returns-in_err-dated-clause-sound g c = λ params h page holds e.
    let later = own_halves c.holds_one.ensures.one c.args.self.now c.is_held.ensures.held params h holds (map_of c.met.new.pages) c.params-params.result c.as_slice.result.now
    c.split_at.result.0.now c.split_at.result.1.now c.len.result c.met.ensures.reads.read.map c.params-params.ensures.value c.as_slice.ensures.value c.len.ensures.value c.split_at.ensures.front c.split_at.ensures.back in
    let p = err_from_is_err_and c.from_residual-in_err-dated.result c.from_residual-in_err-dated.ensures.1 in
    let same = exit_error c.from_residual-in_err-dated.result c.in_err-dated.field-0.0 (Damaged page) p e in
    c.in_err-dated.ensures.sound (span_points params dated_weight (history_entries h)) page (c.met.ensures.reads.read.tells ∙ holds.0) later.dated (ap Err same)

pub returns-in_err-dated-clause-cost : goal.returns-in_err-dated-clause-cost
returns-in_err-dated-clause-cost g c = λ params h holds.
    let halves = own_halves c.holds_one.ensures.one c.args.self.now c.is_held.ensures.held params h holds (map_of (space_in c.args.self.now)) c.params-params.result c.as_slice.result.now
    c.split_at.result.0.now c.split_at.result.1.now c.len.result refl c.params-params.ensures.value c.as_slice.ensures.value c.len.ensures.value c.split_at.ensures.front c.split_at.ensures.back in
    let later = own_halves c.holds_one.ensures.one c.args.self.now c.is_held.ensures.held params h holds (map_of c.met.new.pages) c.params-params.result c.as_slice.result.now
    c.split_at.result.0.now c.split_at.result.1.now c.len.result c.met.ensures.reads.read.map c.params-params.ensures.value c.as_slice.ensures.value c.len.ensures.value c.split_at.ensures.front c.split_at.ensures.back in
    both_halves _ _ _ _
    (cost_under c.params-params.result params halves.params_are g.X.DomIndex (length (changes h)) _ _
    (c.in_ok-plain.ensures.cost holds.0 (span_points params plain_weight (history_entries h)) (length (changes h)) halves.plain halves.plain_balanced
    (λ subset _. points_of_changes c.entries_are_changes.ensures params plain_weight h holds.1.lawful subset)))
    (cost_under c.params-params.result params later.params_are g.X.DomIndex (length (changes h)) _ _
    (c.in_err-dated.ensures.cost (c.met.ensures.reads.read.tells ∙ holds.0) (span_points params dated_weight (history_entries h)) (length (changes h)) later.dated later.dated_balanced
    (λ subset _. points_of_changes c.entries_are_changes.ensures params dated_weight h holds.1.lawful subset)))

pub returns-clause-value : goal.returns-clause-value
returns-clause-value g c = λ params h holds.
    let halves = own_halves c.holds_one.ensures.one c.args.self.now c.is_held.ensures.held params h holds (map_of (space_in c.args.self.now)) c.params-params.result c.as_slice.result.now
    c.split_at.result.0.now c.split_at.result.1.now c.len.result refl c.params-params.ensures.value c.as_slice.ensures.value c.len.ensures.value c.split_at.ensures.front c.split_at.ensures.back in
    let later = own_halves c.holds_one.ensures.one c.args.self.now c.is_held.ensures.held params h holds (map_of c.met.new.pages) c.params-params.result c.as_slice.result.now
    c.split_at.result.0.now c.split_at.result.1.now c.len.result c.met.ensures.reads.read.map c.params-params.ensures.value c.as_slice.ensures.value c.len.ensures.value c.split_at.ensures.front c.split_at.ensures.back in
    let range = own_range c.holds_one.ensures.one c.args.self.now c.is_held.ensures.held params h holds c.is_held.ensures.roots.in_range in
    let ends : ends_fit (without_degree params) c.args.query.now.low c.args.query.now.high ≡ true =
    subst (λ (p : Params). ends_fit p c.args.query.now.low c.args.query.now.high ≡ true) (own_params c.holds_one.ensures.one c.args.self.now c.is_held.ensures.held params h holds) c.requires in
    let few = few_events c.holds_one.ensures.one c.args.self.now c.is_held.ensures.held params h holds c.lawful_histories_have_room.ensures c.is_held.ensures.roots.in_range in
    let early = c.ranges.version.fits in
    up_to_said c.entries_meet_by_corners.ensures.sums params c.args.query.now c.args.version range ends c.entries_give_answers.ensures.sum h (history_fits params h holds.1.lawful few)
    c.in_ok-plain.plain c.in_ok-dated.dated c.res_mul.result c.res_neg.result c.res_add.result (omega (arith, early))
    (said_under c.params-params.result params halves.params_are plain_weight (history_entries h) c.args.query.now c.args.version c.in_ok-plain.plain
    (c.in_ok-plain.ensures.sum holds.0 (span_points params plain_weight (history_entries h)) halves.plain))
    (said_under c.params-params.result params later.params_are dated_weight (history_entries h) c.args.query.now c.args.version c.in_ok-dated.dated
    (c.in_ok-dated.ensures.sum (c.met.ensures.reads.read.tells ∙ holds.0) (span_points params dated_weight (history_entries h)) later.dated))
    (c.res_mul.ensures ∙ ap (λ n. ((n + 1) * c.in_ok-plain.plain) % 2 ^ 128) c.from.ensures) c.res_neg.ensures c.res_add.ensures

pub returns-clause-reads : goal.returns-clause-reads
returns-clause-reads g c = record {
  read = read_then _ _ _ _ (space_in c.args.self.now) c.met.new.pages c.met-2.new.pages c.met.ensures.reads.read c.met-2.ensures.reads.read (omega arith);
  disk = search rules;
}

pub returns-clause-cost : goal.returns-clause-cost
returns-clause-cost g c = λ params h holds.
    let halves = own_halves c.holds_one.ensures.one c.args.self.now c.is_held.ensures.held params h holds (map_of (space_in c.args.self.now)) c.params-params.result c.as_slice.result.now
    c.split_at.result.0.now c.split_at.result.1.now c.len.result refl c.params-params.ensures.value c.as_slice.ensures.value c.len.ensures.value c.split_at.ensures.front c.split_at.ensures.back in
    let later = own_halves c.holds_one.ensures.one c.args.self.now c.is_held.ensures.held params h holds (map_of c.met.new.pages) c.params-params.result c.as_slice.result.now
    c.split_at.result.0.now c.split_at.result.1.now c.len.result c.met.ensures.reads.read.map c.params-params.ensures.value c.as_slice.ensures.value c.len.ensures.value c.split_at.ensures.front c.split_at.ensures.back in
    both_halves _ _ _ _
    (cost_under c.params-params.result params halves.params_are g.X.DomIndex (length (changes h)) _ _
    (c.in_ok-plain.ensures.cost holds.0 (span_points params plain_weight (history_entries h)) (length (changes h)) halves.plain halves.plain_balanced
    (λ subset _. points_of_changes c.entries_are_changes.ensures params plain_weight h holds.1.lawful subset)))
    (cost_under c.params-params.result params later.params_are g.X.DomIndex (length (changes h)) _ _
    (c.in_ok-dated.ensures.cost (c.met.ensures.reads.read.tells ∙ holds.0) (span_points params dated_weight (history_entries h)) (length (changes h)) later.dated later.dated_balanced
    (λ subset _. points_of_changes c.entries_are_changes.ensures params dated_weight h holds.1.lawful subset)))
