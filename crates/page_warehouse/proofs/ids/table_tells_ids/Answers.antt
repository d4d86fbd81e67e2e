use Rattle.std.proofs.Common.{sym, ◌∙◌, ap, refl}
use Rattle.std.proofs.lemmas.List.Sorted.{IsPermutation-sym}
use Rattle.bw_types.specs.Lives.{lives}
use Rattle.page_warehouse.specs.Ids.{life_told}
use Rattle.object_table.specs.Lives.{last_life}
use Rattle.page_warehouse.proofs.Lasts.{lasts_are_greatest}
use Rattle.page_warehouse.proofs.Told.{told_by_last}
use Rattle.page_warehouse.proofs.ids.table_tells_ids.Goals as goal

pub returns-clause-greatest : goal.returns-clause-greatest
returns-clause-greatest c = lasts_are_greatest

pub returns-clause-ids : goal.returns-clause-ids
returns-clause-ids c = λ form pages table kept h id stands same.
    sym (ap life_told (c.last_life_laws.ensures.in_any_order form pages table kept (lives h) id stands (IsPermutation-sym kept (lives h) same) (lasts_are_greatest h)))
    ∙ told_by_last c.last_life_laws.ensures.none c.last_lives_tell.ensures.live c.last_lives_tell.ensures.added c.last_lives_tell.ensures.last h id (last_life id (lives h)) refl
