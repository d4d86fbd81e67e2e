use Rattle.std.proofs.Common.{ℕ, List, [], ◌++◌, Option, Some, refl, subst, sym}
use Rattle.line_reader.specs.Reader.{TakesLongLine}
use Rattle.line_reader.specs.declared.lines.Line.{Line}
use Rattle.line_reader.specs.declared.lines.Line.TheVariants.{End}
use Rattle.line_reader.proofs.ReaderLemmas.{Cuts-ended}
use Rattle.line_reader.proofs.SkipLemmas.{line_end_stands, skips_all}
use Rattle.line_reader.proofs.lines.cutting.cut_line.Goals as goal

pub returns-in-Ok-Some-clause-line : goal.returns-in-Ok-Some-clause-line
returns-in-Ok-Some-clause-line g c =
    λ told.
    let lost = c.in-Ok-Some.ensures.none_lost told (c.in-Ok-Some.ensures.calm.still_tells told) in
    Cuts-ended _ c.line_at.result.answer _ c.find_line_feed.new.intake.held (g.S.Source.left c.find_line_feed.new.source) c.held.result.now c.in-Ok-Some.at
    c.line_at.result.text_len c.line_at.result.used c.line_at.result.stopped
    lost.bytes c.held.ensures (rw c.in-Ok-Some.field-0-is at c.in-Ok-Some.ensures.found)
    c.line_at.ensures.is_line c.line_at.ensures.long c.line_at.ensures.text c.line_at.ensures.within c.line_at.ensures.used c.line_at.ensures.stopped

pub returns-in-Ok-Some-clause-end_seen : goal.returns-in-Ok-Some-clause-end_seen
returns-in-Ok-Some-clause-end_seen g c =
    λ told none.
    let lost = c.in-Ok-Some.ensures.none_lost told (c.in-Ok-Some.ensures.calm.still_tells told) in
    absurd (line_end_stands _ c.find_line_feed.new.intake.held (g.S.Source.left c.find_line_feed.new.source) c.in-Ok-Some.at lost.bytes
    (rw c.in-Ok-Some.field-0-is at c.in-Ok-Some.ensures.found) none)

pub returns-in-Err-End-skip_line-clause-line : goal.returns-in-Err-End-skip_line-clause-line
returns-in-Err-End-skip_line-clause-line g c =
    λ told.
    let tells = c.in-Ok-None.ensures.calm.still_tells told in
    let lost = c.in-Ok-None.ensures.none_lost told tells in
    let ended : Option Line = Some End in
    let stops = rw c.in-Err-End-skip_line.field-0-is at c.in-Err-End-skip_line.ensures.stops in
    rw c.long-in-Err-End-skip_line.ensures
    (subst (λ (before : List ℕ). TakesLongLine 4096 before [] ended) (sym lost.bytes)
    (skips_all ended (c.find_line_feed.new.intake.held ++ g.S.Source.left c.find_line_feed.new.source) (g.S.Source.left c.skip_line.new.source) refl
    (c.in-Err-End-skip_line.ensures.in_line tells (stops.0.still_tells tells)) (stops.2 tells)))
