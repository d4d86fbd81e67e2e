-- What the trees of spans say at a query's corners: what the entries that meet it weigh together, as a residue.
use Rattle.std.proofs.Common.{◌≡◌, ℕ, ◌+◌, ◌*◌, ◌%◌, ◌-◌, ◌^◌, ◌<◌, Bool, true, false, nat_le, nat_abs, drop, ◌&&◌, ◌==◌, if◌then◌else◌, List, [], ◌∷◌, map, get_or, ℤ, pos, neg_ℤ, ◌+ℤ◌, ◌-ℤ◌, ◌*ℤ◌, refl, sym, ap, ◌∙◌, arith, lit<}
use Rattle.std.specs.List.{All, list_all, sum_by}
use Rattle.std.proofs.Math.Nat.{add-mod-mod, mod-lt}
use Rattle.std.proofs.lemmas.Int.{ints}
use Rattle.std.proofs.lemmas.List.Elements.{All-map}
use Rattle.std.proofs.lemmas.List.Sums.{sum_by-cons}
use Rattle.bw_types.specs.Answers.{sum_at}
use Rattle.bw_types.specs.Fits.{IsInRange, coefficient_count, ends_fit, object_fits}
use Rattle.bw_types.specs.History.{History}
use Rattle.bw_types.specs.Meets.{meets}
use Rattle.bw_types.specs.ResidueLaws.{residue_is_below, residue_of_opposite, residue_of_product, residue_of_small, residue_of_sum}
use Rattle.bw_types.specs.Residues.{opposite_residue, residue}
use Rattle.bw_types.specs.Tally.{int_sum_by}
use Rattle.bw_types.specs.declared.object.Object.{Object}
use Rattle.bw_types.specs.declared.params.Params.{Params}
use Rattle.bw_types.specs.declared.point.Point.{Point}
use Rattle.bw_types.specs.declared.query.Query.{Query}
use Rattle.corner_weights.specs.Entries.{Entry, EntryFits, SumsMeetByCorners, corner_point, met_weight, sum_at_corner, weight_at}
use Rattle.corner_weights.specs.Subsets.{residue_signed_by}
use Rattle.corner_weights.specs.SumLaws.{sum_below_of_equal}
use Rattle.corner_weights.specs.Sums.{residue_sum_below}
use Rattle.corner_forest.specs.Answers.{where_met}
use Rattle.corner_forest.specs.Corners.{value_at}
use Rattle.corner_forest.specs.Entries.{corner_count, entered_residue}
use Rattle.history_laws.specs.Answers.{SumByEntries}
use Rattle.history_laws.specs.Entries.{history_entries}
use Rattle.corner_weights.specs.PlaneSums.{Entered, EnteredFits, counts_at}
use Rattle.span_planes.specs.SpanHolds.{without_degree}
use Rattle.span_planes.specs.SpanPoints.{dated_weight, plain_weight, span_points}
use Rattle.span_planes.specs.SpanSums.{dated_sum, sum_up_to}

-- the object without its coefficients, of which no corner tells
abbrev bare : Object → Object
bare o = record o { coeffs = [] }

abbrev bare_entry : (Entered → ℕ) → Entered → Entry
bare_entry weight e = record { object = bare e.object; number = e.event; version = e.version; weight = weight e }

-- so it fits whatever the degree
bare_fits : (params : Params) (o : Object) → object_fits params o ≡ true → object_fits (without_degree params) (bare o) ≡ true
bare_fits params o fits =
    whatever_else (ends_fit params o.low o.high && (list_all (λ x. x == 0) (drop params.dims o.low) && list_all (λ x. x == 0) (drop params.dims o.high)))
    (list_all (λ c. nat_abs c == 0) (drop (coefficient_count params) o.coeffs)) fits
  where
    whatever_else : (a b : Bool) → (a && b) ≡ true → (a && true) ≡ true
    whatever_else true b e = refl
    whatever_else false b e = e

bare_points : (params : Params) (weight : Entered → ℕ) (subset : ℕ) (es : List Entered) → span_points params weight es subset ≡ map (corner_point params.dims subset) (map (bare_entry weight) es)
bare_points params weight subset [] = refl
bare_points params weight subset (e ∷ es) = ap (λ (ps : List Point). corner_point params.dims subset (bare_entry weight e) ∷ ps) (bare_points params weight subset es)

-- the residue, with the sign of the entry
abbrev weight_of : (Entered → ℤ) → Entered → ℕ
weight_of given e = entered_residue e.minus (residue (given e))

small_weight : (minus : Bool) (x : ℤ) → entered_residue minus (residue x) < 2 ^ 128
small_weight true x = mod-lt (2 ^ 128 - residue x) (lit< tt)
small_weight false x = residue_is_below x

each_fits : (params : Params) (given : Entered → ℤ) (es : List Entered) → All (EnteredFits params) es → All (EntryFits (without_degree params)) (map (bare_entry (weight_of given)) es)
each_fits params given es all =
    All-map (EntryFits (without_degree params)) (bare_entry (weight_of given)) es
    (λ i d lt. let fits = all i d lt in let early = fits.1 in
    (bare_fits params (get_or es i d).object fits.0, omega (arith, early), small_weight (get_or es i d).minus (given (get_or es i d))))

zero_residue : residue (pos 0) ≡ 0
zero_residue = residue_of_small 0 (lit< tt)

-- what one entry gives
one : (b t m : Bool) (x : ℤ)
    → (if b then (if t then entered_residue m (residue x) else 0) else 0) ≡ residue ((if t then (if m then neg_ℤ (pos 1) else pos 1) else pos 0) *ℤ (if b then x else pos 0))
one false true true x = sym zero_residue
one false true false x = sym zero_residue
one false false m x = sym zero_residue
one true false m x = let none : pos 0 *ℤ x ≡ pos 0 = omega (arith, ints) in sym zero_residue ∙ ap residue (sym none)
one true true false x = let same : pos 1 *ℤ x ≡ x = omega (arith, ints) in ap residue (sym same)
one true true true x =
    let turned : neg_ℤ (pos 1) *ℤ x ≡ neg_ℤ x = omega (arith, ints) in
    sym (residue_of_opposite x) ∙ ap residue (sym turned)

met_residue : (params : Params) (q : Query) (version : ℕ) (given : Entered → ℤ) (es : List Entered)
    → met_weight params.dims q version (map (bare_entry (weight_of given)) es) % 2 ^ 128 ≡ residue (int_sum_by (λ e. counts_at version e *ℤ where_met params q (given e) e.object) es)
met_residue params q version given [] = sym zero_residue
met_residue params q version given (e ∷ es) =
    let f : Entry → ℕ = λ x. if meets params.dims q x.object then weight_at version x else 0 in
    let entry : Entry = bare_entry (weight_of given) e in
    let entries : List Entry = map (bare_entry (weight_of given)) es in
    let rest : ℕ = sum_by f entries in
    let mine : ℤ = counts_at version e *ℤ where_met params q (given e) e.object in
    let first : f entry ≡ residue mine = one (meets params.dims q e.object) (nat_le e.version version) e.minus (given e) in
    let later = met_residue params q version given es in
    ap (λ (n : ℕ). n % 2 ^ 128) (sum_by-cons f entry entries) ∙ sym (add-mod-mod (f entry) rest (2 ^ 128)) ∙ ap (λ (n : ℕ). (n + rest % 2 ^ 128) % 2 ^ 128) first
    ∙ ap (λ (n : ℕ). (residue mine + n) % 2 ^ 128) later
    ∙ sym (residue_of_sum mine (int_sum_by (λ f. counts_at version f *ℤ where_met params q (given f) f.object) es))

-- a weight times a version, where it is met
abbrev dated_given : Entered → ℤ
dated_given e = pos e.version *ℤ e.object.weight

met_times : (met : Bool) (n : ℕ) (x : ℤ) → (if met then pos n *ℤ x else pos 0) ≡ pos n *ℤ (if met then x else pos 0)
met_times true n x = refl
met_times false n x = omega (arith, ints)

dated_given_sum : (params : Params) (q : Query) (version : ℕ) (es : List Entered) → int_sum_by (λ e. counts_at version e *ℤ where_met params q (dated_given e) e.object) es
    ≡ int_sum_by (λ e. counts_at version e *ℤ (pos e.version *ℤ where_met params q e.object.weight e.object)) es
dated_given_sum params q version [] = refl
dated_given_sum params q version (e ∷ es) =
    ap (λ (z : ℤ). counts_at version e *ℤ z +ℤ int_sum_by (λ f. counts_at version f *ℤ where_met params q (dated_given f) f.object) es) (met_times (meets params.dims q e.object) e.version e.object.weight)
    ∙ ap (λ (z : ℤ). counts_at version e *ℤ (pos e.version *ℤ where_met params q e.object.weight e.object) +ℤ z) (dated_given_sum params q version es)

-- The trees say at the corners of a query what these entries give.
abbrev pub IsSaid : Params → (Entered → ℕ) → List Entered → Query → ℕ → ℕ → Type 0
IsSaid params weight es q version total =
    total ≡ residue_sum_below (corner_count params) (λ subset. residue_signed_by subset (value_at params.dims q version (span_points params weight es subset) subset))

module _ (law : SumsMeetByCorners) (params : Params) (q : Query) (version : ℕ) (range : IsInRange (without_degree params)) (ends : ends_fit (without_degree params) q.low q.high ≡ true) where
  said : (given : Entered → ℤ) (es : List Entered) (total : ℕ) → All (EnteredFits params) es → IsSaid params (weight_of given) es q version total
      → total ≡ residue (int_sum_by (λ e. counts_at version e *ℤ where_met params q (given e) e.object) es)
  said given es total fits is_total =
      let at : (s : ℕ) → s < corner_count params → residue_signed_by s (value_at params.dims q version (span_points params (weight_of given) es s) s)
      ≡ residue_signed_by s (sum_at_corner params.dims q version (map (bare_entry (weight_of given)) es) s) =
      λ s lt. ap (λ (ps : List Point). residue_signed_by s (value_at params.dims q version ps s)) (bare_points params (weight_of given) s es) in
      is_total ∙ sum_below_of_equal (corner_count params) _ _ at
      ∙ law (without_degree params) q version (map (bare_entry (weight_of given)) es) range ends (each_fits params given es fits)
      ∙ met_residue params q version given es

  module _ (sums : SumByEntries) (h : History) (fits : All (EnteredFits params) (history_entries h)) where
    plain_said : (total : ℕ) → IsSaid params plain_weight (history_entries h) q version total → total ≡ residue (sum_at params h version q)
    plain_said total is_total = said (λ e. e.object.weight) (history_entries h) total fits is_total ∙ ap residue (sums params h version q)

    dated_said : (total : ℕ) → IsSaid params dated_weight (history_entries h) q version total → total ≡ residue (dated_sum params h version q)
    dated_said total is_total = said dated_given (history_entries h) total fits is_total ∙ ap residue (dated_given_sum params q version (history_entries h))

    -- the sum up to the version, from what both halves of the trees say
    pub up_to_said : (plain dated times less whole : ℕ) → version < 2 ^ 32 → IsSaid params plain_weight (history_entries h) q version plain → IsSaid params dated_weight (history_entries h) q version dated
        → times ≡ ((version + 1) * plain) % 2 ^ 128 → less ≡ opposite_residue dated → whole ≡ (times + less) % 2 ^ 128 → whole ≡ residue (sum_up_to params h version q)
    up_to_said plain dated times less whole few said_plain said_dated is_times is_less is_whole =
        let at : ℤ = sum_at params h version q in
        let late : ℤ = dated_sum params h version q in
        let number : residue (pos (version + 1)) ≡ version + 1 = residue_of_small (version + 1) (omega (arith, few)) in
        let product : times ≡ residue (pos (version + 1) *ℤ at) =
        is_times ∙ ap (λ (n : ℕ). ((version + 1) * n) % 2 ^ 128) (plain_said plain said_plain) ∙ ap (λ (n : ℕ). (n * residue at) % 2 ^ 128) (sym number)
        ∙ sym (residue_of_product (pos (version + 1)) at) in
        let opposite : less ≡ residue (neg_ℤ late) = is_less ∙ ap opposite_residue (dated_said dated said_dated) ∙ sym (residue_of_opposite late) in
        is_whole ∙ ap (λ (n : ℕ). (n + less) % 2 ^ 128) product ∙ ap (λ (n : ℕ). (residue (pos (version + 1) *ℤ at) + n) % 2 ^ 128) opposite
        ∙ sym (residue_of_sum (pos (version + 1) *ℤ at) (neg_ℤ late)) ∙ ap residue (difference (pos (version + 1) *ℤ at) late)
      where
        difference : (x y : ℤ) → x +ℤ neg_ℤ y ≡ x -ℤ y
        difference x y = omega (arith, ints)
