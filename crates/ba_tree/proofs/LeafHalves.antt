-- A leaf that was split into two.
use Rattle.std.proofs.Common.{◌≡◌, ℕ, ◌<◌, ◌≤◌, ◌==◌, false, List, [], ◌∷◌, length, take, drop, sym, ap, subst, ◌∙◌, arith, length-drop}
use Rattle.std.specs.Prelude.{IsPermutation, slice_index}
use Rattle.std.specs.List.{All}
use Rattle.std.proofs.lemmas.List.{length-take, take-append-drop}
use Rattle.std.proofs.lemmas.List.Sorted.{IsPermutation-sym, IsPermutation-trans, length_permutation}
use Rattle.bw_types.specs.declared.point.Point.{Point}
use Rattle.ports.specs.Frame.{Replaces}
use Rattle.ports.specs.Pages.{PageMap}
use Rattle.cut_parts.specs.Spelling.{HoldsLeaf}
use Rattle.ba_tree.specs.Additions.{IsLeafSplit}
use Rattle.ba_tree.proofs.Within.{not_named, some_there, two_pages}

pub halves_put : (m0 m1 m2 m3 : PageMap) (page high : ℕ) (lows highs : List Point) → m1 ≡ m0 → HoldsLeaf m2 page lows → Replaces (page ∷ []) (page ∷ []) m1 m2
    → HoldsLeaf m3 high highs → Replaces [] (high ∷ []) m2 m3
    → HoldsLeaf m3 page lows × HoldsLeaf m3 high highs × ((high == page) ≡ false) × Replaces (page ∷ []) (page ∷ high ∷ []) m0 m3
halves_put m0 m1 m2 m3 page high lows highs same holds change made new =
    let first : Replaces (page ∷ []) (page ∷ []) m0 m2 = subst (λ (m : PageMap). Replaces (page ∷ []) (page ∷ []) m m2) same change in
    let two = two_pages page high m0 m2 m3 first (some_there m2 page holds.bytes holds.there) new in
    (record { bytes = holds.bytes; there = two.agree ∙ holds.there; spelled = holds.spelled; is = holds.is }, made, not_named high page two.once.0, two.change)

pub leaf_halves : (dims : ℕ) (m0 m1 : PageMap) (page high dimension key : ℕ) (points all fitted cut : List Point) (point : Point) → length points ≡ 64 → all ≡ point ∷ points
    → IsPermutation all fitted → IsPermutation fitted cut → dimension < dims
    → All (λ p. slice_index p.keys dimension < key) (take 32 cut) → All (λ p. key ≤ slice_index p.keys dimension) (drop 32 cut)
    → HoldsLeaf m1 page (take 32 cut) × HoldsLeaf m1 high (drop 32 cut) × ((high == page) ≡ false) × Replaces (page ∷ []) (page ∷ high ∷ []) m0 m1
    → IsLeafSplit dims m0 m1 page high dimension key points point
leaf_halves dims m0 m1 page high dimension key points all fitted cut point full is first second lt below from put =
    let long : length cut ≡ 65 = omega (arith, length_permutation all fitted first, length_permutation fitted cut second, ap (λ (ps : List Point). length ps) is, full) in
    record {
      lows = take 32 cut;
      highs = drop 32 cut;
      low_holds = put.0;
      high_holds = put.1;
      few_low = omega (arith, length-take 32 cut, long);
      few_high = omega (arith, length-drop 32 cut, long);
      same = subst (λ (ps : List Point). IsPermutation ps (point ∷ points)) (sym (take-append-drop 32 cut))
          (subst (λ (ps : List Point). IsPermutation cut ps) is (IsPermutation-sym all cut (IsPermutation-trans all fitted cut first second)));
      in_dims = lt;
      below = below;
      from = from;
      other = put.2;
      change = put.3;
    }
