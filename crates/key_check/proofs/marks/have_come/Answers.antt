use Rattle.std.proofs.Common.{◌-◌, length, sym}
use Rattle.std.proofs.lemmas.Option.{get_or_from_slice_get}
use Rattle.key_check.proofs.Marking.{by_last, nonempty}
use Rattle.key_check.proofs.marks.have_come.Goals as goal

pub returns-in-Some : goal.returns-in-Some
returns-in-Some c =
    by_last c.args.versions.now c.args.version c.in-Some.last.now c.requires (nonempty c.args.versions.now c.in-Some.last.now (sym c.in-Some.ensures.value))
    (λ d. sym (get_or_from_slice_get c.args.versions.now (length c.args.versions.now - 1) c.in-Some.last.now d (sym c.in-Some.ensures.value)))
