-- What the entries that meet a query weigh together, as a residue and as a signed number.
use Rattle.std.proofs.Common.{◌≡◌, ℕ, ◌+◌, ◌-◌, ◌%◌, ◌^◌, ◌<◌, Bool, true, false, nat_le, if◌then◌else◌, List, [], ◌∷◌, map, get_or, ℤ, pos, neg_ℤ, ◌*ℤ◌, refl, sym, ap, ◌∙◌, arith, lit<}
use Rattle.std.specs.List.{All, sum_by}
use Rattle.std.proofs.Math.Nat.{add-mod-mod, mod-lt}
use Rattle.std.proofs.lemmas.Int.{ints}
use Rattle.std.proofs.lemmas.List.Elements.{All-map}
use Rattle.std.proofs.lemmas.List.Sums.{sum_by-cons}
use Rattle.bw_types.specs.Meets.{meets}
use Rattle.bw_types.specs.Residues.{residue, opposite_residue}
use Rattle.bw_types.specs.ResidueLaws.{residue_of_sum, residue_of_opposite, residue_of_small, residue_is_below}
use Rattle.bw_types.specs.Fits.{IsInRange, ends_fit}
use Rattle.bw_types.specs.Tally.{int_sum_by}
use Rattle.bw_types.specs.declared.params.Params.{Params}
use Rattle.bw_types.specs.declared.point.Point.{Point}
use Rattle.bw_types.specs.declared.query.Query.{Query}
use Rattle.corner_weights.specs.Entries.{Entry, EntryFits, SumsMeetByCorners, met_weight, sum_at_corner, weight_at}
use Rattle.corner_weights.specs.Subsets.{residue_signed_by}
use Rattle.corner_weights.specs.Sums.{residue_sum_below}
use Rattle.corner_weights.specs.SumLaws.{sum_below_of_equal}
use Rattle.corner_weights.specs.PlaneSums.{Entered, EnteredFits, counts_at}
use Rattle.corner_forest.specs.Answers.{where_met, sum_of, count_of}
use Rattle.corner_forest.specs.Corners.{value_at}
use Rattle.corner_forest.specs.Entries.{as_met, corner_count, entered_residue, root_points, sum_and_count}
use Rattle.corner_forest.proofs.Totals.{both_of}
use Rattle.corner_forest.proofs.TreePoints.{root_met}

-- an entry with the weight of this residue
abbrev weighed : (Entered → ℕ) → Entered → Entry
weighed number e = record { object = e.object; number = e.event; version = e.version; weight = entered_residue e.minus (number e) }

zero_residue : residue (pos 0) ≡ 0
zero_residue = residue_of_small 0 (lit< tt)

-- what one entry gives
one : (b t m : Bool) (n : ℕ) (x : ℤ) → n ≡ residue x
    → (if b then (if t then entered_residue m n else 0) else 0) ≡ residue ((if t then (if m then neg_ℤ (pos 1) else pos 1) else pos 0) *ℤ (if b then x else pos 0))
one false true true n x e = sym zero_residue
one false true false n x e = sym zero_residue
one false false m n x e = sym zero_residue
one true false m n x e = let none : pos 0 *ℤ x ≡ pos 0 = omega (arith, ints) in sym zero_residue ∙ ap residue (sym none)
one true true false n x e = let same : pos 1 *ℤ x ≡ x = omega (arith, ints) in e ∙ ap residue (sym same)
one true true true n x e =
    let turned : neg_ℤ (pos 1) *ℤ x ≡ neg_ℤ x = omega (arith, ints) in
    ap opposite_residue e ∙ sym (residue_of_opposite x) ∙ ap residue (sym turned)

pub met_residue : (params : Params) (q : Query) (version : ℕ) (number : Entered → ℕ) (given : Entered → ℤ) → ((e : Entered) → number e ≡ residue (given e)) → (es : List Entered)
    → met_weight params.dims q version (map (weighed number) es) % 2 ^ 128 ≡ residue (int_sum_by (λ e. counts_at version e *ℤ where_met params q (given e) e.object) es)
met_residue params q version number given same [] = sym zero_residue
met_residue params q version number given same (e ∷ es) =
    let f : Entry → ℕ = λ x. if meets params.dims q x.object then weight_at version x else 0 in
    let here : ℕ = f (weighed number e) in
    let rest : ℕ = sum_by f (map (weighed number) es) in
    let first : here ≡ residue (counts_at version e *ℤ where_met params q (given e) e.object) =
    one (meets params.dims q e.object) (nat_le e.version version) e.minus (number e) (given e) (same e) in
    let later = met_residue params q version number given same es in
    let whole : sum_by f (map (weighed number) (e ∷ es)) ≡ here + rest = sum_by-cons f (weighed number e) (map (weighed number) es) in
    ap (λ (n : ℕ). n % 2 ^ 128) whole ∙ sym (add-mod-mod here rest (2 ^ 128)) ∙ ap (λ (n : ℕ). (n + rest % 2 ^ 128) % 2 ^ 128) first
    ∙ ap (λ (n : ℕ). (residue (counts_at version e *ℤ where_met params q (given e) e.object) + n) % 2 ^ 128) later
    ∙ sym (residue_of_sum (counts_at version e *ℤ where_met params q (given e) e.object) (int_sum_by (λ f. counts_at version f *ℤ where_met params q (given f) f.object) es))

below : (m : Bool) (n : ℕ) → n < 2 ^ 128 → entered_residue m n < 2 ^ 128
below true n h = mod-lt (2 ^ 128 - n) (lit< tt)
below false n h = h

each_fits : (params : Params) (number : Entered → ℕ) → ((e : Entered) → number e < 2 ^ 128) → (es : List Entered) → All (EnteredFits params) es → All (EntryFits params) (map (weighed number) es)
each_fits params number small es all =
    All-map (EntryFits params) (weighed number) es (λ i d lt. let fits = all i d lt in let early = fits.1 in (fits.0, omega (arith, early), below (get_or es i d).minus (number (get_or es i d)) (small (get_or es i d))))

pub met_by_corners : SumsMeetByCorners → (params : Params) (q : Query) (version : ℕ) (es : List Entered) (total : ℕ) → IsInRange params → ends_fit params q.low q.high ≡ true
    → All (EnteredFits params) es
    → total ≡ residue_sum_below (corner_count params) (λ s. residue_signed_by s (value_at params.dims q version (root_points params es s) s))
    → total ≡ residue (sum_and_count (sum_of params es version q) (count_of params es version q))
met_by_corners law params q version es total range fits all is_total =
    let given : Entered → ℤ = λ e. sum_and_count e.object.weight (pos 1) in
    let at : (s : ℕ) → s < corner_count params → residue_signed_by s (value_at params.dims q version (root_points params es s) s)
    ≡ residue_signed_by s (sum_at_corner params.dims q version (map as_met es) s) =
    λ s lt. ap (λ (ps : List Point). residue_signed_by s (value_at params.dims q version ps s)) (root_met params s es lt) in
    is_total ∙ sum_below_of_equal (corner_count params) _ _ at
    ∙ law params q version (map as_met es) range fits (each_fits params (λ e. residue (given e)) (λ e. residue_is_below (given e)) es all)
    ∙ met_residue params q version (λ e. residue (given e)) given (λ e. refl) es
    ∙ ap residue (both_of params q version es)
