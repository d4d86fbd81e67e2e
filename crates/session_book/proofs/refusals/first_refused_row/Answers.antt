-- Each row in turn: what `judge` says of it, with how its id stands, carries the invariant on or is the first refusal.
use Rattle.std.proofs.Common.{IsTrue, get_or, refl, subst, sym, ◌∙◌, arith}
use Rattle.session_book.proofs.Rows.{IsSoFar-accepted, mass-more, first_refused_row-judged, blank_row}
use Rattle.session_book.proofs.refusals.first_refused_row.Goals as goal

pub returns-in-Ok-Some-clause-ok : goal.returns-in-Ok-Some-clause-ok
returns-in-Ok-Some-clause-ok g c = λ tells past lives total.
    first_refused_row-judged c.args.params.now (g.V.Seen.life_of c.args.seen.now) (g.V.Seen.life_of c.loop-i.seen) past c.args.rows.now c.loop-i.i blank_row c.loop-i.batch c.judge.new.self c.row_id.result c.in_ok-standing.standing c.in-Ok-Some.field-0
    (omega arith) (c.loop-i.invariant.so_far tells past lives total) c.row_id.ensures (omega arith) c.loop-i.invariant.life_of
    (c.in_ok-standing.ensures.ok (c.loop-i.invariant.tells tells)) c.in-Ok-Some.ensures.ok c.in-Ok-Some.reason c.in-Ok-Some.field-0-is

pub loop-i-preserved : goal.loop-i-preserved
loop-i-preserved g c = record {
  faults = omega (arith, c.in_ok-standing.ensures.faults, c.loop-i.invariant.faults);
  tells = λ told. c.in_ok-standing.ensures.tells (c.loop-i.invariant.tells told);
  life_of = c.in_ok-standing.ensures.life_of ∙ c.loop-i.invariant.life_of;
  may_blame = λ page may. c.loop-i.invariant.may_blame page (c.in_ok-standing.ensures.may_blame page may);
  stays = g.met.V.Seen.stays_on c.args.seen.now c.loop-i.seen c.standing.new.seen c.loop-i.invariant.stays c.in_ok-standing.ensures.stays;
  mass = c.in-Ok-None.ensures.mass;
  total = mass-more c.args.params.now c.args.rows.now c.loop-i.i (get_or c.args.rows.now c.loop-i.i blank_row) blank_row c.args.mass c.loop-i.batch.mass c.judge.new.self.mass (omega arith) refl c.loop-i.invariant.total (c.in-Ok-None.ensures.total c.in-Ok-None.field-0-is);
  so_far = λ tells past lives total.
      IsSoFar-accepted c.args.params.now (g.V.Seen.life_of c.args.seen.now) (g.V.Seen.life_of c.loop-i.seen) past c.args.rows.now c.loop-i.i blank_row c.loop-i.batch c.judge.new.self c.row_id.result c.in_ok-standing.standing c.in-Ok-None.field-0
      (omega arith) (c.loop-i.invariant.so_far tells past lives total) c.row_id.ensures (omega arith) c.loop-i.invariant.life_of
      (c.in_ok-standing.ensures.ok (c.loop-i.invariant.tells tells)) c.in-Ok-None.ensures.ok c.in-Ok-None.field-0-is;
}
