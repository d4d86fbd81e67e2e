use Rattle.std.proofs.Common.{◌<◌, ◌∷◌, [], List, length, sym, subst, arith}
use Rattle.page_layout.specs.declared.cut_page.CutNode.{CutNode}
use Rattle.cut_parts.specs.PageRegions.{entry_regions}
use Rattle.cut_parts.proofs.Entries.{all_counted}
use Rattle.cut_parts.proofs.searching.region_of.Goals as goal

pub region_in-requires-clause-within : goal.region_in-requires-clause-within
region_in-requires-clause-within c =
    subst (λ (ns : List CutNode). c.args.index < length (entry_regions (c.args.region.now ∷ []) ns)) (sym c.as_slice.ensures.value)
    (omega (arith, c.requires.within, all_counted (c.args.region.now ∷ []) c.args.page.now.nodes.items c.requires.nodes.filled))
