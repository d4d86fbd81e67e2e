use Rattle.std.proofs.Common.{rules, ◌≡◌, ◌+◌, ◌-◌, ◌<◌, ◌≤◌, ◌∷◌, [], ℕ, suc, length, List, sym, ap, ◌∙◌, subst, arith, length-append}
use Rattle.bw_types.specs.Regions.{above_cut, below_cut}
use Rattle.bw_types.specs.declared.region.Region.{Region}
use Rattle.cut_parts.specs.PageRegions.{HasRegion, entry_regions}
use Rattle.page_layout.specs.declared.cut_page.CutNode.{CutNode}
use Rattle.page_layout.specs.declared.cut_page.CutNode.TheVariants.{Cut}
use Rattle.cut_parts.proofs.Entries.{at_cut, fewer, has_high, has_low, high_filled, high_fit, split_at_cut}
use Rattle.cut_parts.proofs.searching.+region_in.Goals as goal

pub region_in-requires : goal.region_in-requires
region_in-requires t c =
    let dimension : ℕ = c.in-Cut.dimension in
    let rest : List CutNode = c.in-Some.rest.now in
    let high : List CutNode = c.split_part.result.1.now in
    let region : Region = c.args.region.now in
    let places : ℕ = c.requires.whole.0 in
    let begun : Cut dimension c.in-Cut.key c.in-Cut.low c.in-Cut.border ∷ rest ≡ c.args.nodes.now = search rules in
    let at = at_cut dimension c.in-Cut.key c.in-Cut.low c.in-Cut.border c.args.nodes.now rest places begun c.requires.whole.1 c.requires.fit in
    let split = split_at_cut dimension c.in-Cut.key c.in-Cut.low c.in-Cut.border c.args.nodes.now rest c.split_part.result.0.now high places region begun
    c.split_part.ensures.whole c.split_part.ensures.after at in
    let within : c.args.index < length (entry_regions (c.below_cut.result ∷ []) rest) =
    subst (λ (r : Region). c.args.index < length (entry_regions (r ∷ []) rest)) (sym c.below_cut.ensures) (omega (arith, c.if-index-before.true, c.entries_of-before.ensures, split.sized)) in
    (search rules, ((suc places, at.filled), (at.fit, within)))

pub region_in-requires-in-Cut : goal.region_in-requires-in-Cut
region_in-requires-in-Cut t c =
    let dimension : ℕ = c.in-Cut.dimension in
    let rest : List CutNode = c.in-Some.rest.now in
    let high : List CutNode = c.split_part.result.1.now in
    let region : Region = c.args.region.now in
    let places : ℕ = c.requires.whole.0 in
    let begun : Cut dimension c.in-Cut.key c.in-Cut.low c.in-Cut.border ∷ rest ≡ c.args.nodes.now = search rules in
    let at = at_cut dimension c.in-Cut.key c.in-Cut.low c.in-Cut.border c.args.nodes.now rest places begun c.requires.whole.1 c.requires.fit in
    let split = split_at_cut dimension c.in-Cut.key c.in-Cut.low c.in-Cut.border c.args.nodes.now rest c.split_part.result.0.now high places region begun
    c.split_part.ensures.whole c.split_part.ensures.after at in
    let sized : length high ≤ length rest = fewer rest c.split_part.result.0.now high c.split_part.ensures.whole in
    let all : suc (length rest) ≡ length c.args.nodes.now = ap (λ (ns : List CutNode). length ns) begun in
    let lows : List Region = entry_regions (below_cut region dimension c.in-Cut.key ∷ []) rest in
    let highs : List Region = entry_regions (above_cut region dimension c.in-Cut.key ∷ []) high in
    let both : length (entry_regions (region ∷ []) c.args.nodes.now) ≡ length lows + length highs = ap (λ (rs : List Region). length rs) split.whole ∙ length-append lows highs in
    let within : c.args.index - c.entries_of-before.result < length (entry_regions (c.above_cut.result ∷ []) high) =
    subst (λ (r : Region). c.args.index - c.entries_of-before.result < length (entry_regions (r ∷ []) high)) (sym c.above_cut.ensures)
    (omega (arith, c.requires.within, c.if-index-before.false, c.entries_of-before.ensures, split.sized, both)) in
    let after = c.split_part.ensures.after in
    (omega (arith, sized, all), ((places, high_filled dimension places rest high after at), (high_fit dimension places rest high after at, within)))

pub returns-then-index-before : goal.returns-then-index-before
returns-then-index-before t c =
    let dimension : ℕ = c.in-Cut.dimension in
    let rest : List CutNode = c.in-Some.rest.now in
    let high : List CutNode = c.split_part.result.1.now in
    let region : Region = c.args.region.now in
    let places : ℕ = c.requires.whole.0 in
    let begun : Cut dimension c.in-Cut.key c.in-Cut.low c.in-Cut.border ∷ rest ≡ c.args.nodes.now = search rules in
    let at = at_cut dimension c.in-Cut.key c.in-Cut.low c.in-Cut.border c.args.nodes.now rest places begun c.requires.whole.1 c.requires.fit in
    let split = split_at_cut dimension c.in-Cut.key c.in-Cut.low c.in-Cut.border c.args.nodes.now rest c.split_part.result.0.now high places region begun
    c.split_part.ensures.whole c.split_part.ensures.after at in
    let lows : List Region = entry_regions (below_cut region dimension c.in-Cut.key ∷ []) rest in
    let highs : List Region = entry_regions (above_cut region dimension c.in-Cut.key ∷ []) high in
    let found : HasRegion lows c.args.index c.region_in.result =
    subst (λ (r : Region). HasRegion (entry_regions (r ∷ []) rest) c.args.index c.region_in.result) c.below_cut.ensures c.region_in.ensures in
    subst (λ (rs : List Region). HasRegion rs c.args.index c.region_in.result) (sym split.whole) (has_low lows highs c.args.index c.region_in.result found)

pub returns-else-index-before : goal.returns-else-index-before
returns-else-index-before t c =
    let dimension : ℕ = c.in-Cut.dimension in
    let rest : List CutNode = c.in-Some.rest.now in
    let high : List CutNode = c.split_part.result.1.now in
    let region : Region = c.args.region.now in
    let places : ℕ = c.requires.whole.0 in
    let begun : Cut dimension c.in-Cut.key c.in-Cut.low c.in-Cut.border ∷ rest ≡ c.args.nodes.now = search rules in
    let at = at_cut dimension c.in-Cut.key c.in-Cut.low c.in-Cut.border c.args.nodes.now rest places begun c.requires.whole.1 c.requires.fit in
    let split = split_at_cut dimension c.in-Cut.key c.in-Cut.low c.in-Cut.border c.args.nodes.now rest c.split_part.result.0.now high places region begun
    c.split_part.ensures.whole c.split_part.ensures.after at in
    let place : ℕ = c.args.index - c.entries_of-before.result in
    let lows : List Region = entry_regions (below_cut region dimension c.in-Cut.key ∷ []) rest in
    let highs : List Region = entry_regions (above_cut region dimension c.in-Cut.key ∷ []) high in
    let found : HasRegion highs place c.region_in-in-Cut.result =
    subst (λ (r : Region). HasRegion (entry_regions (r ∷ []) high) place c.region_in-in-Cut.result) c.above_cut.ensures c.region_in-in-Cut.ensures in
    let all : c.args.index ≡ length lows + place = omega (arith, c.if-index-before.false, c.entries_of-before.ensures, split.sized) in
    subst (λ (rs : List Region). HasRegion rs c.args.index c.region_in-in-Cut.result) (sym split.whole) (has_high lows highs place c.args.index c.region_in-in-Cut.result all found)
