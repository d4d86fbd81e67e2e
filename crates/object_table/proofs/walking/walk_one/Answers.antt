use Rattle.std.proofs.Common.{List, ◌∙◌, ap, slice_get}
use Rattle.bw_types.specs.declared.dated.Dated.{Dated}
use Rattle.object_table.proofs.Nexts.{first_next}
use Rattle.object_table.proofs.walking.walk_one.Goals as goal

pub returns-in-Ok-clause-next : goal.returns-in-Ok-clause-next
returns-in-Ok-clause-next g c = λ tells lives s.
    c.copied.ensures ∙ c.first.ensures.value ∙ ap (λ (ds : List Dated). slice_get ds 0) c.as_slice.ensures.value
    ∙ first_next c.args.sought lives c.walk_in.new.found.items (c.in-Ok.ensures.next tells lives s)
