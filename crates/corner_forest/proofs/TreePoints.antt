-- The points of entries in each tree.
use Rattle.std.proofs.Common.{◌≡◌, ℕ, ◌+◌, ◌-◌, ◌<◌, Bool, true, false, nat_lt, if◌then◌else◌, List, [], ◌∷◌, ◌++◌, length, map, refl, ap, ◌∙◌, arith}
use Rattle.std.specs.List.{range_with_len}
use Rattle.std.proofs.lemmas.List.{length-map}
use Rattle.std.proofs.lemmas.Bool.{lt-ltb, le-ltb}
use Rattle.bw_types.specs.declared.params.Params.{Params}
use Rattle.bw_types.specs.declared.point.Point.{Point}
use Rattle.corner_weights.specs.Entries.{corner_point}
use Rattle.corner_weights.specs.PlaneSums.{Entered, plane_point, plane_points}
use Rattle.corner_forest.specs.Entries.{as_met, corner_count, entry_points, root_points}

-- the points that a tree of each kind gets
shaped : ℕ → Bool → Point → (ℕ → Point) → List Point
shaped n boxes a p = map (λ corner. if boxes then a else p corner) (range_with_len 0 (if boxes then 1 else n))

as_shaped : (params : Params) (k : ℕ) (e : Entered) → entry_points params k e
    ≡ shaped (corner_count params) (nat_lt k (corner_count params)) (corner_point params.dims k (as_met e)) (λ corner. plane_point params (k - corner_count params) corner e)
unfolding shaped
as_shaped params k e = refl

one : (n : ℕ) (a : Point) (p : ℕ → Point) → shaped n true a p ≡ a ∷ []
unfolding shaped
one n a p = refl

many : (n : ℕ) (a : Point) (p : ℕ → Point) → shaped n false a p ≡ map p (range_with_len 0 n)
unfolding shaped
many n a p = refl

met_points : (params : Params) (k : ℕ) (e : Entered) → k < corner_count params → entry_points params k e ≡ corner_point params.dims k (as_met e) ∷ []
met_points params k e lt =
    let n = corner_count params in
    let a = corner_point params.dims k (as_met e) in
    let p : ℕ → Point = λ corner. plane_point params (k - n) corner e in
    as_shaped params k e ∙ ap (λ (t : Bool). shaped n t a p) (lt-ltb k n lt) ∙ one n a p

planed_points : (params : Params) (k : ℕ) (e : Entered)
    → entry_points params (corner_count params + k) e ≡ map (λ corner. plane_point params k corner e) (range_with_len 0 (corner_count params))
planed_points params k e =
    let n = corner_count params in
    let a = corner_point params.dims (n + k) (as_met e) in
    let p : ℕ → Point = λ corner. plane_point params (n + k - n) corner e in
    let back : n + k - n ≡ k = omega arith in
    as_shaped params (n + k) e ∙ ap (λ (t : Bool). shaped n t a p) (le-ltb (n + k) n (omega arith)) ∙ many n a p
    ∙ ap (λ (i : ℕ). map (λ corner. plane_point params i corner e) (range_with_len 0 n)) back

pub root_met : (params : Params) (k : ℕ) (es : List Entered) → k < corner_count params → root_points params es k ≡ map (corner_point params.dims k) (map as_met es)
root_met params k [] lt = refl
root_met params k (e ∷ es) lt =
    ap (λ (ps : List Point). ps ++ root_points params es k) (met_points params k e lt) ∙ ap (λ (ps : List Point). corner_point params.dims k (as_met e) ∷ ps) (root_met params k es lt)

pub root_planed : (params : Params) (k : ℕ) (es : List Entered) → root_points params es (corner_count params + k) ≡ plane_points params k es
root_planed params k [] = refl
root_planed params k (e ∷ es) =
    ap (λ (ps : List Point). ps ++ root_points params es (corner_count params + k)) (planed_points params k e)
    ∙ ap (λ (ps : List Point). map (λ corner. plane_point params k corner e) (range_with_len 0 (corner_count params)) ++ ps) (root_planed params k es)

pub met_count : (params : Params) (es : List Entered) (k : ℕ) → k < corner_count params → length (root_points params es k) ≡ length es
met_count params es k lt =
    ap (λ (ps : List Point). length ps) (root_met params k es lt) ∙ length-map (map as_met es) (corner_point params.dims k) ∙ length-map es as_met
