use Rattle.std.proofs.Common.{rules, ◌≡◌, ◌+◌, ◌/◌, ◌<◌, ◌≤◌, ◌∷◌, [], ℕ, suc, length, slice_index, get_or, List, ap, subst, arith}
use Rattle.bw_types.specs.Regions.{above_cut, below_cut}
use Rattle.bw_types.specs.declared.region.Region.{Region}
use Rattle.cut_parts.specs.PageRegions.{entry_regions}
use Rattle.page_layout.specs.declared.cut_page.CutNode.{CutNode}
use Rattle.page_layout.specs.declared.cut_page.CutNode.TheVariants.{Cut}
use Rattle.cut_parts.proofs.Entries.{IsCutIn, IsFound, at_cut, fewer, high_filled, high_fit, high_found, low_found, some_entries}
use Rattle.cut_parts.proofs.searching.+find_in.Goals as goal

pub find_in-requires : goal.find_in-requires
find_in-requires t c =
    let begun : Cut c.in-Cut.dimension c.in-Cut.key c.in-Cut.low c.in-Cut.border ∷ c.in-Some.rest.now ≡ c.args.nodes.now = search rules in
    let at = at_cut c.in-Cut.dimension c.in-Cut.key c.in-Cut.low c.in-Cut.border c.args.nodes.now c.in-Some.rest.now c.requires.whole.0 begun c.requires.whole.1 c.requires.fit in
    (search rules, ((suc c.requires.whole.0, at.filled), at.fit))

pub find_in-place-requires : goal.find_in-place-requires
find_in-place-requires t c =
    let rest : List CutNode = c.in-Some.rest.now in
    let high : List CutNode = c.split_part.result.1.now in
    let begun : Cut c.in-Cut.dimension c.in-Cut.key c.in-Cut.low c.in-Cut.border ∷ rest ≡ c.args.nodes.now = search rules in
    let places : ℕ = c.requires.whole.0 in
    let at = at_cut c.in-Cut.dimension c.in-Cut.key c.in-Cut.low c.in-Cut.border c.args.nodes.now rest places begun c.requires.whole.1 c.requires.fit in
    let sized : length high ≤ length rest = fewer rest c.split_part.result.0.now high c.split_part.ensures.whole in
    let all : suc (length rest) ≡ length c.args.nodes.now = ap (λ (ns : List CutNode). length ns) begun in
    (omega (arith, sized, all), ((places, high_filled c.in-Cut.dimension places rest high c.split_part.ensures.after at), high_fit c.in-Cut.dimension places rest high c.split_part.ensures.after at))

pub returns-then-keys-from-clause-entry : goal.returns-then-keys-from-clause-entry
returns-then-keys-from-clause-entry t c =
    let dimension : ℕ = c.in-Cut.dimension in
    let rest : List CutNode = c.in-Some.rest.now in
    let region : Region = c.args.region.now in
    let keys : List ℕ = c.args.keys.now in
    let begun : Cut dimension c.in-Cut.key c.in-Cut.low c.in-Cut.border ∷ rest ≡ c.args.nodes.now = search rules in
    let at = at_cut dimension c.in-Cut.key c.in-Cut.low c.in-Cut.border c.args.nodes.now rest c.requires.whole.0 begun c.requires.whole.1 c.requires.fit in
    let cut : IsCutIn region dimension = record { dims = at.dims; low = c.has_three_keys.ensures.low; high = c.has_three_keys.ensures.high } in
    let below : slice_index keys dimension < c.in-Cut.key = omega (arith, c.if-keys-from.true, ap (λ (n : ℕ). get_or keys n 0) c.from.ensures) in
    let found : IsFound rest (below_cut region dimension c.in-Cut.key) keys c.find_in.result.0 c.find_in.result.1 =
    subst (λ (r : Region). IsFound rest r keys c.find_in.result.0 c.find_in.result.1) c.below_cut.ensures
    record { entry = c.find_in.ensures.entry; holds = c.find_in.ensures.holds; only = c.find_in.ensures.only } in
    (subst (λ (ns : List CutNode). IsFound ns region keys c.find_in.result.0 c.find_in.result.1) begun
    (low_found dimension c.in-Cut.key c.in-Cut.low c.in-Cut.border rest region keys c.find_in.result.0 c.find_in.result.1 cut below found)).entry

pub returns-then-keys-from-clause-only : goal.returns-then-keys-from-clause-only
returns-then-keys-from-clause-only t c =
    let dimension : ℕ = c.in-Cut.dimension in
    let rest : List CutNode = c.in-Some.rest.now in
    let region : Region = c.args.region.now in
    let keys : List ℕ = c.args.keys.now in
    let begun : Cut dimension c.in-Cut.key c.in-Cut.low c.in-Cut.border ∷ rest ≡ c.args.nodes.now = search rules in
    let at = at_cut dimension c.in-Cut.key c.in-Cut.low c.in-Cut.border c.args.nodes.now rest c.requires.whole.0 begun c.requires.whole.1 c.requires.fit in
    let cut : IsCutIn region dimension = record { dims = at.dims; low = c.has_three_keys.ensures.low; high = c.has_three_keys.ensures.high } in
    let below : slice_index keys dimension < c.in-Cut.key = omega (arith, c.if-keys-from.true, ap (λ (n : ℕ). get_or keys n 0) c.from.ensures) in
    let found : IsFound rest (below_cut region dimension c.in-Cut.key) keys c.find_in.result.0 c.find_in.result.1 =
    subst (λ (r : Region). IsFound rest r keys c.find_in.result.0 c.find_in.result.1) c.below_cut.ensures
    record { entry = c.find_in.ensures.entry; holds = c.find_in.ensures.holds; only = c.find_in.ensures.only } in
    (subst (λ (ns : List CutNode). IsFound ns region keys c.find_in.result.0 c.find_in.result.1) begun
    (low_found dimension c.in-Cut.key c.in-Cut.low c.in-Cut.border rest region keys c.find_in.result.0 c.find_in.result.1 cut below found)).only

pub returns-else-keys-from-clause-entry : goal.returns-else-keys-from-clause-entry
returns-else-keys-from-clause-entry t c =
    let dimension : ℕ = c.in-Cut.dimension in
    let rest : List CutNode = c.in-Some.rest.now in
    let high : List CutNode = c.split_part.result.1.now in
    let region : Region = c.args.region.now in
    let keys : List ℕ = c.args.keys.now in
    let place : ℕ = c.find_in-place.result.0 in
    let begun : Cut dimension c.in-Cut.key c.in-Cut.low c.in-Cut.border ∷ rest ≡ c.args.nodes.now = search rules in
    let at = at_cut dimension c.in-Cut.key c.in-Cut.low c.in-Cut.border c.args.nodes.now rest c.requires.whole.0 begun c.requires.whole.1 c.requires.fit in
    let cut : IsCutIn region dimension = record { dims = at.dims; low = c.has_three_keys.ensures.low; high = c.has_three_keys.ensures.high } in
    let from : c.in-Cut.key ≤ slice_index keys dimension = omega (arith, c.if-keys-from.false, ap (λ (n : ℕ). get_or keys n 0) c.from.ensures) in
    let before : length (entry_regions (below_cut region dimension c.in-Cut.key ∷ []) rest) ≡ length c.split_part.result.0.now / 2 + 1 =
    some_entries (suc c.requires.whole.0) (below_cut region dimension c.in-Cut.key) rest c.split_part.result.0.now high c.split_part.ensures.whole c.split_part.ensures.after at.filled in
    let total : c.entries_of.result + place ≡ length (entry_regions (below_cut region dimension c.in-Cut.key ∷ []) rest) + place = omega (arith, before, c.entries_of.ensures) in
    let found : IsFound high (above_cut region dimension c.in-Cut.key) keys place c.find_in-place.result.1 =
    subst (λ (r : Region). IsFound high r keys place c.find_in-place.result.1) c.above_cut.ensures
    record { entry = c.find_in-place.ensures.entry; holds = c.find_in-place.ensures.holds; only = c.find_in-place.ensures.only } in
    (subst (λ (ns : List CutNode). IsFound ns region keys (c.entries_of.result + place) c.find_in-place.result.1) begun
    (high_found dimension c.in-Cut.key c.in-Cut.low c.in-Cut.border rest high region keys place (c.entries_of.result + place) c.find_in-place.result.1 cut from c.split_part.ensures.after total found)).entry

pub returns-else-keys-from-clause-only : goal.returns-else-keys-from-clause-only
returns-else-keys-from-clause-only t c =
    let dimension : ℕ = c.in-Cut.dimension in
    let rest : List CutNode = c.in-Some.rest.now in
    let high : List CutNode = c.split_part.result.1.now in
    let region : Region = c.args.region.now in
    let keys : List ℕ = c.args.keys.now in
    let place : ℕ = c.find_in-place.result.0 in
    let begun : Cut dimension c.in-Cut.key c.in-Cut.low c.in-Cut.border ∷ rest ≡ c.args.nodes.now = search rules in
    let at = at_cut dimension c.in-Cut.key c.in-Cut.low c.in-Cut.border c.args.nodes.now rest c.requires.whole.0 begun c.requires.whole.1 c.requires.fit in
    let cut : IsCutIn region dimension = record { dims = at.dims; low = c.has_three_keys.ensures.low; high = c.has_three_keys.ensures.high } in
    let from : c.in-Cut.key ≤ slice_index keys dimension = omega (arith, c.if-keys-from.false, ap (λ (n : ℕ). get_or keys n 0) c.from.ensures) in
    let before : length (entry_regions (below_cut region dimension c.in-Cut.key ∷ []) rest) ≡ length c.split_part.result.0.now / 2 + 1 =
    some_entries (suc c.requires.whole.0) (below_cut region dimension c.in-Cut.key) rest c.split_part.result.0.now high c.split_part.ensures.whole c.split_part.ensures.after at.filled in
    let total : c.entries_of.result + place ≡ length (entry_regions (below_cut region dimension c.in-Cut.key ∷ []) rest) + place = omega (arith, before, c.entries_of.ensures) in
    let found : IsFound high (above_cut region dimension c.in-Cut.key) keys place c.find_in-place.result.1 =
    subst (λ (r : Region). IsFound high r keys place c.find_in-place.result.1) c.above_cut.ensures
    record { entry = c.find_in-place.ensures.entry; holds = c.find_in-place.ensures.holds; only = c.find_in-place.ensures.only } in
    (subst (λ (ns : List CutNode). IsFound ns region keys (c.entries_of.result + place) c.find_in-place.result.1) begun
    (high_found dimension c.in-Cut.key c.in-Cut.low c.in-Cut.border rest high region keys place (c.entries_of.result + place) c.find_in-place.result.1 cut from c.split_part.ensures.after total found)).only
