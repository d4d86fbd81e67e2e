use Rattle.std.proofs.Common.{◌∙◌}
use Rattle.page_space.proofs.Opened.{never_damaged, never_no_memory, opened_is, refused_is}
use Rattle.page_space.proofs.space.Space.open_on.Goals as goal

pub returns-in-Ok-clause-opened : goal.returns-in-Ok-clause-opened
returns-in-Ok-clause-opened g c = opened_is c.open_settled.result c.settle.new.disk c.args.disk
    (c.open_settled.ensures.reads.tells ∙ c.settle.ensures.writes.tells) c.open_settled.ensures.reads.image c.in-Ok.ensures.same c.in-Ok.ensures.journal

pub returns-in-Ok-clause-refused : goal.returns-in-Ok-clause-refused
returns-in-Ok-clause-refused g c = refused_is c.open_settled.result c.settle.new.disk c.args.disk c.settling_laws.ensures.one c.settle.ensures.writes.tells
    c.open_settled.ensures.reads.image c.open_settled.ensures.reads.moments c.in-Ok.ensures.same c.in-Ok.ensures.idle c.in-Ok.ensures.settled
    c.open_settled.ensures.not_empty c.open_settled.ensures.not_bad c.open_settled.ensures.damaged c.open_settled.ensures.no_memory

pub returns-in-Ok-clause-any_moment : goal.returns-in-Ok-clause-any_moment
returns-in-Ok-clause-any_moment g c = λ told pages settles. rw c.open_settled.ensures.reads.moments (c.settle.ensures.any_moment told pages settles)

pub returns-in-Ok-clause-untouched : goal.returns-in-Ok-clause-untouched
returns-in-Ok-clause-untouched g c = λ told calm. record {
  image = c.open_settled.ensures.reads.image ∙ c.settle.ensures.untouched told calm;
  moments = rw c.open_settled.ensures.reads.moments (c.settle.ensures.untouched_moments told calm);
}

pub returns-in-Err-clause-refused : goal.returns-in-Err-clause-refused
returns-in-Err-clause-refused g c = record {
  empty = c.in-Err.ensures.empty;
  bad_journal = c.in-Err.ensures.bad;
  damaged = never_damaged c.in-Err.fault _ c.in-Err.ensures.only.0;
  no_memory = never_no_memory c.in-Err.fault _ c.in-Err.ensures.only.1;
  stands = λ differs told pages stands. rw (c.in-Err.ensures.refused differs told) stands;
  settled = c.in-Err.ensures.refused_settled;
}

pub returns-in-Err-clause-untouched : goal.returns-in-Err-clause-untouched
returns-in-Err-clause-untouched g c = λ told calm. record {
  image = c.settle.ensures.untouched told calm;
  moments = c.settle.ensures.untouched_moments told calm;
}
