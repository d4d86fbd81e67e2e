-- The corners of points with opposite weights make the points' dominance sum 0.
use Rattle.std.proofs.Common.{◌≡◌, ◌↔◌, ℕ, ◌+◌, ◌%◌, ◌^◌, ◌<◌, Bool, true, false, ◌&&◌, nat_le, cond, List, [], ◌∷◌, ◌++◌, suc, length, map, take, slice_index, refl, sym, ◌∙◌, ap, append_assoc, get_or, arith, lit<}
use Rattle.std.specs.List.{All, sum_by}
use Rattle.std.proofs.Math.Bool.{and-true}
use Rattle.std.proofs.Math.Dec.{leb-zero}
use Rattle.std.proofs.lemmas.List.{map_more}
use Rattle.std.proofs.lemmas.List.Elements.{All-append, All-map}
use Rattle.std.proofs.lemmas.List.Sums.{sum_by-cons, sum_by-append}
use Rattle.bw_types.specs.Dominance.{dominance_sum, dominated_weight, is_dominated, keys_at_most}
use Rattle.bw_types.specs.Residues.{opposite_residue}
use Rattle.bw_types.specs.declared.point.Point.{Point}
use Rattle.key_check.specs.declared.corner.Corner.{Corner}
use Rattle.key_check.specs.Sums.{SumOverKeys, SumOverVersions, Vanish, corner_sum, counts_at, opposite_corner, weight_at}

first_key : (keys : List ℕ) (key : ℕ) → keys_at_most (take 1 keys) (key ∷ []) ≡ nat_le (slice_index keys 0) key
first_key [] key = sym (leb-zero key)
first_key (k ∷ keys) key = and-true (nat_le k key)

same_test : (key version : ℕ) (p : Point) → is_dominated 1 (key ∷ []) version p ≡ counts_at key version (opposite_corner true p)
same_test key version p = ap (λ (b : Bool). nat_le p.version version && b) (first_key p.keys key)

same_test_over_versions : (version : ℕ) (p : Point) → is_dominated 0 [] version p ≡ counts_at 0 version (opposite_corner false p)
same_test_over_versions version p = ap (λ (b : Bool). nat_le p.version version && b) (sym (leb-zero 0))

cancels : (b : Bool) (w : ℕ) → w < 2 ^ 128 → (cond b (opposite_residue w) 0 + cond b w 0) % 2 ^ 128 ≡ 0
cancels true w h = omega arith
cancels false w h = refl

-- The corners take away from the sum at a place what the points add there.
pub opposites_cancel : (keyed : Bool) (key version dims : ℕ) (keys : List ℕ) (points : List Point)
    → ((p : Point) → is_dominated dims keys version p ≡ counts_at key version (opposite_corner keyed p)) → All (λ p. p.weight < 2 ^ 128) points
    → (corner_sum (map (opposite_corner keyed) points) key version + dominance_sum dims points keys version) % 2 ^ 128 ≡ 0
opposites_cancel keyed key version dims keys [] same all = refl
opposites_cancel keyed key version dims keys (p ∷ points) same all =
    let rest = opposites_cancel keyed key version dims keys points same (λ k d h. all (suc k) d (omega arith)) in
    let fits : p.weight < 2 ^ 128 = all 0 p (omega arith) in
    let here : (weight_at key version (opposite_corner keyed p) + cond (is_dominated dims keys version p) p.weight 0) % 2 ^ 128 ≡ 0 =
    ap (λ (b : Bool). (weight_at key version (opposite_corner keyed p) + cond b p.weight 0) % 2 ^ 128) (same p)
    ∙ cancels (counts_at key version (opposite_corner keyed p)) p.weight fits in
    let a = sum_by-cons (weight_at key version) (opposite_corner keyed p) (map (opposite_corner keyed) points) in
    let b = sum_by-cons (λ (q : Point). cond (is_dominated dims keys version q) q.weight 0) p points in
    omega (arith, a, b, here, rest)

equal_from : (x y z : ℕ) → (y % 2 ^ 128 + z % 2 ^ 128) % 2 ^ 128 ≡ 0 → (x + y) % 2 ^ 128 ≡ 0 → x % 2 ^ 128 ≡ z % 2 ^ 128
equal_from x y z cancel e = omega arith

equal_to : (x y z : ℕ) → (y % 2 ^ 128 + z % 2 ^ 128) % 2 ^ 128 ≡ 0 → x % 2 ^ 128 ≡ z % 2 ^ 128 → (x + y) % 2 ^ 128 ≡ 0
equal_to x y z cancel e = omega arith

-- The corners with the opposite points behind them vanish at a place exactly where the sums are the same there.
same_where : (keyed : Bool) (key version dims : ℕ) (keys : List ℕ) (corners : List Corner) (points : List Point)
    → ((p : Point) → is_dominated dims keys version p ≡ counts_at key version (opposite_corner keyed p)) → All (λ p. p.weight < 2 ^ 128) points
    → (corner_sum (corners ++ map (opposite_corner keyed) points) key version ≡ 0) ↔ (corner_sum corners key version ≡ dominance_sum dims points keys version)
same_where keyed key version dims keys corners points same all =
    let a = sum_by-append (weight_at key version) corners (map (opposite_corner keyed) points) in
    let cancel = opposites_cancel keyed key version dims keys points same all in
    let x = sum_by (weight_at key version) corners in
    let y = sum_by (weight_at key version) (map (opposite_corner keyed) points) in
    let z = dominated_weight dims points keys version in (
      λ e. equal_from x y z cancel (sym (ap (λ (n : ℕ). n % 2 ^ 128) a) ∙ e),
      λ e. ap (λ (n : ℕ). n % 2 ^ 128) a ∙ equal_to x y z cancel e,
    )

pub over_keys : (corners : List Corner) (points : List Point) → All (λ p. p.weight < 2 ^ 128) points
    → Vanish (corners ++ map (opposite_corner true) points) ↔ SumOverKeys corners points
over_keys corners points all = (
  λ gone key version k v. (same_where true key version 1 (key ∷ []) corners points (same_test key version) all).0 (gone key version k v),
  λ same key version k v. (same_where true key version 1 (key ∷ []) corners points (same_test key version) all).1 (same key version k v),
)

at_key_zero : (key version : ℕ) (corners : List Corner) → All (λ c. c.key ≡ 0) corners → sum_by (weight_at key version) corners ≡ sum_by (weight_at 0 version) corners
at_key_zero key version [] all = refl
at_key_zero key version (c ∷ corners) all =
    let rest = at_key_zero key version corners (λ k d h. all (suc k) d (omega arith)) in
    let k : c.key ≡ 0 = all 0 c (omega arith) in
    let tests : counts_at key version c ≡ counts_at 0 version c =
    ap (λ (n : ℕ). nat_le c.version version && nat_le n key) k ∙ ap (λ (b : Bool). nat_le c.version version && b) (leb-zero key ∙ sym (leb-zero 0)) ∙ sym (ap (λ (n : ℕ). nat_le c.version version && nat_le n 0) k) in
    let here : weight_at key version c ≡ weight_at 0 version c = ap (λ (b : Bool). cond b c.weight 0) tests in
    omega (arith, sum_by-cons (weight_at key version) c corners, sum_by-cons (weight_at 0 version) c corners)

keys_are_zero : (points : List Point) → All (λ c. c.key ≡ 0) (map (opposite_corner false) points)
keys_are_zero points = All-map (λ (c : Corner). c.key ≡ 0) (opposite_corner false) points (λ k d h. refl)

pub over_versions : (corners : List Corner) (points : List Point) → All (λ c. c.key ≡ 0) corners → All (λ p. p.weight < 2 ^ 128) points
    → Vanish (corners ++ map (opposite_corner false) points) ↔ SumOverVersions corners points
over_versions corners points zero all =
    let both = All-append (λ (c : Corner). c.key ≡ 0) corners (map (opposite_corner false) points) zero (keys_are_zero points) in (
      λ gone version v. (same_where false 0 version 0 [] corners points (same_test_over_versions version) all).0 (gone 0 version (lit< tt) v),
      λ same key version k v. ap (λ (n : ℕ). n % 2 ^ 128) (at_key_zero key version (corners ++ map (opposite_corner false) points) both)
          ∙ (same_where false 0 version 0 [] corners points (same_test_over_versions version) all).1 (same version v),
    )

pub opposite_is : (w r : ℕ) → w < 2 ^ 128 → r < 2 ^ 128 → (r + w) % 2 ^ 128 ≡ 0 → r ≡ opposite_residue w
opposite_is w r hw hr e = omega arith

-- One more point: its opposite goes behind the corners.
pub pushed_more : (keyed : Bool) (old now new : List Corner) (points : List Point) (done : ℕ) (none : Point) (c : Corner) → done < length points
    → now ≡ old ++ map (opposite_corner keyed) (take done points) → new ≡ now ++ c ∷ [] → c ≡ opposite_corner keyed (get_or points done none)
    → new ≡ old ++ map (opposite_corner keyed) (take (done + 1) points)
pushed_more keyed old now new points done none c h e n is =
    n ∙ ap (λ (x : Corner). now ++ x ∷ []) is ∙ ap (λ (cs : List Corner). cs ++ opposite_corner keyed (get_or points done none) ∷ []) e
    ∙ append_assoc old (map (opposite_corner keyed) (take done points)) (opposite_corner keyed (get_or points done none) ∷ [])
    ∙ ap (λ (cs : List Corner). old ++ cs) (sym (map_more (opposite_corner keyed) points done none h))
