use Rattle.std.proofs.Common.{◌≤◌, length, take, arith, sym, ◌∙◌, ap}
use Rattle.std.proofs.lemmas.List.{drop-take, length-take-le}
use Rattle.line_reader.proofs.BufferLemmas.{take-written}
use Rattle.line_reader.proofs.lines.intake.move_to_front.Goals as goal

pub returns : goal.returns
returns c =
    let fits : c.args.len ≤ length c.split_at_mut-front.result.0.now = omega arith in
    take-written c.args.len c.copy_from_slice.new.self _ _
    (c.copy_from_slice.ensures.len ∙ length-take-le c.args.len c.split_at_mut-front.result.0.now fits)
    ∙ c.copy_from_slice.ensures.after
    ∙ ap (take c.args.len) c.split_at_mut-front.ensures.back
    ∙ sym (drop-take c.args.start c.args.len c.args.buffer.now)
