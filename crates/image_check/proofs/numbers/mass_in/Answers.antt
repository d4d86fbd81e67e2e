use Rattle.std.proofs.Common.{◌+◌, ◌<◌, [], false, pos, get_or, arith}
use Rattle.bw_types.specs.Mass.{mass_limit}
use Rattle.bw_types.specs.Refusals.{added_mass}
use Rattle.page_warehouse.specs.Events.{change_in}
use Rattle.page_warehouse.specs.declared.event.Event.{Event}
use Rattle.image_check.proofs.Masses.{fits_at, front_mass, mass_more}
use Rattle.image_check.proofs.numbers.mass_in.Goals as goal

-- an event of zeros
abbrev no_event : Event
no_event = record { event = 0; version = 0; add = false; object = record { id = 0; low = []; high = []; weight = pos 0; coeffs = [] } }

pub returns-in_err-total-clause-none : goal.returns-in_err-total-clause-none
returns-in_err-total-clause-none c = λ e fit low.
    let here = fits_at c.args.params.now c.args.events.now c.loop-event.event-index no_event c.loop-event-test.true fit in
    let more = mass_more c.args.params.now c.args.events.now c.loop-event.event-index no_event c.loop-event-test.true in
    let most = front_mass c.args.params.now c.args.events.now (c.loop-event.event-index + 1) in
    let small : c.loop-event.total + added_mass c.args.params.now (change_in (get_or c.args.events.now c.loop-event.event-index no_event)) < mass_limit = omega (arith, more, most, low, c.loop-event.invariant.total) in
    c.with_mass.ensures.none c.in_err-total.was here small
