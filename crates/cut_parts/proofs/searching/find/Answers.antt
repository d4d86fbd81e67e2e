use Rattle.std.proofs.Common.{◌∷◌, [], List, subst}
use Rattle.page_layout.specs.declared.cut_page.CutNode.{CutNode}
use Rattle.cut_parts.specs.PageRegions.{IsOnlyFor, LieInside, entry_regions}
use Rattle.cut_parts.proofs.searching.find.Goals as goal

pub returns-clause-only : goal.returns-clause-only
returns-clause-only c =
    subst (λ (ns : List CutNode). LieInside (c.args.region.now ∷ []) ns → IsOnlyFor c.args.keys.now (entry_regions (c.args.region.now ∷ []) ns) c.find_in.result.0)
    c.as_slice.ensures.value c.find_in.ensures.only
