use Rattle.std.proofs.Common.{◌≡◌, ◌+◌, ◌∙◌, length, ap, arith, rules, ℕ, None}
use Rattle.std.proofs.lemmas.List.{drop_all}
use Rattle.line_reader.specs.Intake.{IntakeState}
use Rattle.line_reader.proofs.SkipLemmas.{skipped_line, skipped_more, skipped_ended}
use Rattle.line_reader.proofs.CalmLemmas.{IsCalm-trans}
use Rattle.line_reader.proofs.lines.cutting.skip_line.Goals as goal

pub returns-in-Some-clause-line : goal.returns-in-Some-clause-line
returns-in-Some-clause-line g c =
    λ told.
    let tells = c.loop-intake.invariant.calm.still_tells told in
    skipped_line None _ c.loop-intake.intake c.fill.new.self _ _ c.held-in-loop-intake.result.now _ c.in-Some.at (c.loop-intake.invariant.skips told)
    c.loop-intake.invariant.empty
    (c.in_ok-fill.ensures.none_lost tells (c.in_ok-fill.ensures.calm.still_tells tells))
    c.held-in-loop-intake.ensures c.in-Some.ensures (ap (λ (s : IntakeState). s.held) c.advance-in-Some.ensures)

pub returns-in-Some-clause-ended : goal.returns-in-Some-clause-ended
returns-in-Some-clause-ended g c =
    λ told.
    let tells = c.loop-intake.invariant.calm.still_tells told in
    skipped_ended _ c.loop-intake.intake c.fill.new.self _ _ c.held-in-loop-intake.result.now c.in-Some.at (c.loop-intake.invariant.skips told)
    c.loop-intake.invariant.empty
    (c.in_ok-fill.ensures.none_lost tells (c.in_ok-fill.ensures.calm.still_tells tells))
    c.held-in-loop-intake.ensures c.in-Some.ensures

pub loop-intake-preserved : goal.loop-intake-preserved
loop-intake-preserved g c =
    let after = c.advance-in-loop-intake.ensures in
    let took : c.advance-in-loop-intake.new.self.taken ≡ c.fill.new.self.taken = ap (λ (s : IntakeState). s.taken) after in
    record {
      empty = ap (λ (s : IntakeState). s.held) after ∙ drop_all _ c.fill.new.self.held (omega (arith, ap length c.held-in-loop-intake-2.ensures));
      calm = IsCalm-trans _ _ _ _ _ _ c.loop-intake.invariant.calm c.in_ok-fill.ensures.calm;
      skips =
          λ told.
          let tells = c.loop-intake.invariant.calm.still_tells told in
          skipped_more _ c.loop-intake.intake c.fill.new.self _ _ c.held-in-loop-intake.result.now (c.loop-intake.invariant.skips told)
          c.loop-intake.invariant.empty
          (c.in_ok-fill.ensures.none_lost tells (c.in_ok-fill.ensures.calm.still_tells tells))
          c.held-in-loop-intake.ensures c.in_default.ensures;
      counts =
          λ told.
          let tells = c.loop-intake.invariant.calm.still_tells told in
          ap (λ (n : ℕ). n + length (g.S.Source.left c.fill.new.source)) took
          ∙ (c.in_ok-fill.ensures.none_lost tells (c.in_ok-fill.ensures.calm.still_tells tells)).counts
          ∙ c.loop-intake.invariant.counts told;
      later = search rules;
      within_limit = search rules;
      limit = search rules;
    }
