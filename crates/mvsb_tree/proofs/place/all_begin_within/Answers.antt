use Rattle.std.proofs.Common.{◌&&◌, Bool, sym, ap, ◌∙◌}
use Rattle.std.specs.List.{list_all}
use Rattle.mvsb_tree.specs.Damage.{not_past}
use Rattle.mvsb_tree.proofs.Within.{within_both}
use Rattle.mvsb_tree.proofs.place.all_begin_within.Goals as goal

pub returns-then-none_begins_below : goal.returns-then-none_begins_below
returns-then-none_begins_below c =
    c.none_begins_past.ensures ∙ ap (λ (b : Bool). b && list_all (not_past c.args.place) c.args.view.now.entries.items) (sym c.if-none_begins_below.true ∙ c.none_begins_below.ensures)
    ∙ within_both c.args.place c.args.view.now.entries.items

pub returns-else-none_begins_below : goal.returns-else-none_begins_below
returns-else-none_begins_below c =
    c.if-none_begins_below.false ∙ ap (λ (b : Bool). b && list_all (not_past c.args.place) c.args.view.now.entries.items) (sym c.if-none_begins_below.false ∙ c.none_begins_below.ensures)
    ∙ within_both c.args.place c.args.view.now.entries.items
