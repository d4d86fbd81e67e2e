use Rattle.std.proofs.Common.{inl, inr, sym, ◌∙◌, ap}
use Rattle.mv_pages.specs.Alive.{is_alive_from}
use Rattle.mv_pages.specs.Edits.{put_in}
use Rattle.mv_pages.proofs.Found.{found, found_none}
use Rattle.mv_pages.proofs.add.take_in.Goals as goal

pub returns-in-Some-clause-taken : goal.returns-in-Some-clause-taken
returns-in-Some-clause-taken c =
    let r = found (is_alive_from c.args.version c.args.low) c.as_slice.result.now c.in-Some.index (sym c.in-Some.ensures) in
    let whole = sym c.as_slice.ensures.value ∙ r.3 in
    inl (r.0, r.1, r.2, whole, r.5, c.raise.ensures.changed r.0 r.2 r.1 whole r.4)

pub returns-in-None-clause-taken : goal.returns-in-None-clause-taken
returns-in-None-clause-taken c =
    let none = found_none (is_alive_from c.args.version c.args.low) c.as_slice.result.now (sym c.in-None.ensures) in
    inr (rw c.as_slice.ensures.value at none, c.put_in.ensures.items ∙ ap (λ x. put_in x c.args.entries.now.items) c.new_entry.ensures)
