-- How the sum of corners in their order goes on from one to the next.
use Rattle.std.proofs.Common.{◌≡◌, ◌≢◌, ℕ, zero, suc, ◌+◌, ◌*◌, ◌%◌, ◌^◌, ◌<◌, ◌≤◌, Bool, true, false, ◌&&◌, nat_le, cond, List, [], ◌∷◌, length, take, get_or, refl, sym, ◌∙◌, ap, subst, zero-add, arith, inl, inr}
use Rattle.std.specs.List.{sum_by}
use Rattle.std.specs.List.Sorted.{IsNonDecreasingBy}
use Rattle.std.proofs.Math.Nat.{mod-eq_of_lt}
use Rattle.std.proofs.lemmas.List.Sums.{fold_more, sum_by-cons}
use Rattle.std.proofs.lemmas.Bool.{le-leb}
use Rattle.std.proofs.lemmas.Bool.Decides.{leb_tells}
use Rattle.std.proofs.lemmas.List.{get_or_default, take_all}
use Rattle.key_check.specs.declared.corner.Corner.{Corner}
use Rattle.key_check.specs.Sums.{Vanish, corner_sum, counts_at, rank, weight_at}

-- Up to a place the sum is that of one corner alone, and none that follows has a lower rank.
pub record Scanned (corners : List Corner) (done : ℕ) (last : Corner) : Type 0 where
  pub sums : (key version : ℕ) → corner_sum (take done corners) key version ≡ weight_at key version last
  pub later : (i : ℕ) (d : Corner) → done ≤ i → i < length corners → rank last ≤ rank (get_or corners i d)
  pub version : last.version < 2 ^ 32
  pub key : last.key < 2 ^ 64
  pub weight : last.weight < 2 ^ 128

nothing : (b : Bool) (w : ℕ) → w ≡ 0 → w ≡ cond b w 0
nothing true w e = refl
nothing false w e = e

pub here : (corners : List Corner) (i : ℕ) (c : Corner) → i < length corners → (d : Corner) → get_or corners i c ≡ get_or corners i d
here corners i c h d = get_or_default corners i c d h

pub begin : (corners : List Corner) (last : Corner) → last.version ≡ 0 → last.key ≡ 0 → last.weight ≡ 0 → Scanned corners 0 last
begin corners last v k w = record {
  sums = λ key version. sym w ∙ nothing (counts_at key version last) last.weight w;
  later = λ i d low high. omega arith;
  version = omega arith;
  key = omega arith;
  weight = omega arith;
}

both : (b : Bool) (x y : ℕ) → (cond b x 0 + cond b y 0) % 2 ^ 128 ≡ cond b ((x + y) % 2 ^ 128) 0
both true x y = refl
both false x y = refl

mod_left : (x y : ℕ) → (x % 2 ^ 128 + y) % 2 ^ 128 ≡ (x + y) % 2 ^ 128
mod_left x y = omega arith

one_more : (key version done : ℕ) (corners : List Corner) (d : Corner) → done < length corners
    → corner_sum (take (done + 1) corners) key version ≡ (corner_sum (take done corners) key version + weight_at key version (get_or corners done d)) % 2 ^ 128
one_more key version done corners d h =
    ap (λ (n : ℕ). n % 2 ^ 128) (fold_more (λ a x. a + weight_at key version x) 0 corners done d h)
    ∙ sym (mod_left (sum_by (weight_at key version) (take done corners)) (weight_at key version (get_or corners done d)))

same_version : (a b k l : ℕ) → k < 2 ^ 64 → l < 2 ^ 64 → a * 2 ^ 64 + k ≡ b * 2 ^ 64 + l → a ≡ b
same_version a b k l hk hl e = omega arith

same_key : (a b k l : ℕ) → k < 2 ^ 64 → l < 2 ^ 64 → a * 2 ^ 64 + k ≡ b * 2 ^ 64 + l → k ≡ l
same_key a b k l hk hl e = omega arith

pub step_same : (corners : List Corner) (done : ℕ) (last c : Corner) → Scanned corners done last → done < length corners
    → ((d : Corner) → c ≡ get_or corners done d) → rank c ≡ rank last → c.key < 2 ^ 64
    → Scanned corners (done + 1) (record last { weight = (last.weight + c.weight) % 2 ^ 128 })
step_same corners done last c s h at e fits =
    let v : c.version ≡ last.version = same_version c.version last.version c.key last.key fits s.key e in
    let k : c.key ≡ last.key = same_key c.version last.version c.key last.key fits s.key e in
    record {
      sums = λ key version.
          one_more key version done corners c h
          ∙ ap (λ (x : ℕ). (x + weight_at key version (get_or corners done c)) % 2 ^ 128) (s.sums key version)
          ∙ ap (λ (x : Corner). (weight_at key version last + weight_at key version x) % 2 ^ 128) (sym (at c))
          ∙ ap (λ (x : ℕ). (weight_at key version last + cond (nat_le x version && nat_le c.key key) c.weight 0) % 2 ^ 128) v
          ∙ ap (λ (x : ℕ). (weight_at key version last + cond (nat_le last.version version && nat_le x key) c.weight 0) % 2 ^ 128) k
          ∙ both (counts_at key version last) last.weight c.weight;
      later = λ i d low high. s.later i d (omega arith) high;
      version = s.version;
      key = s.key;
      weight = omega arith;
    }

zero_weight : (b : Bool) (w : ℕ) → w ≡ 0 → cond b w 0 ≡ 0
zero_weight true w e = e
zero_weight false w e = refl

small : (b : Bool) (w : ℕ) → w < 2 ^ 128 → cond b w 0 % 2 ^ 128 ≡ cond b w 0
small true w h = mod-eq_of_lt h
small false w h = refl

pub step_on : (corners : List Corner) (done : ℕ) (last c : Corner) → IsNonDecreasingBy rank corners → Scanned corners done last → done < length corners
    → ((d : Corner) → c ≡ get_or corners done d) → last.weight ≡ 0 → c.version < 2 ^ 32 → c.key < 2 ^ 64 → c.weight < 2 ^ 128
    → Scanned corners (done + 1) c
step_on corners done last c up s h at zero_is fits_version fits_key fits_weight =
    record {
      sums = λ key version.
          one_more key version done corners c h
          ∙ ap (λ (x : ℕ). (x + weight_at key version (get_or corners done c)) % 2 ^ 128) (s.sums key version ∙ zero_weight (counts_at key version last) last.weight zero_is)
          ∙ ap (λ (x : ℕ). x % 2 ^ 128) (zero-add (weight_at key version (get_or corners done c)))
          ∙ ap (λ (x : Corner). weight_at key version x % 2 ^ 128) (sym (at c))
          ∙ small (counts_at key version c) c.weight fits_weight;
      later = λ i d low high. subst (λ (x : Corner). rank x ≤ rank (get_or corners i d)) (sym (at d)) (up done i d (omega arith) high);
      version = fits_version;
      key = fits_key;
      weight = fits_weight;
    }

-- a corner of a higher rank does not count at one of a lower
not_there : (a b : Corner) → rank a < rank b → counts_at a.key a.version b ≡ false
not_there a b h = elim (leb_tells b.version a.version) [
  | inl p ↦ elim (leb_tells b.key a.key) [ inl q ↦ absurd (omega (arith, p.1, q.1)) | inr q ↦ rw (p.0, q.0) refl ]
  | inr p ↦ rw p.0 refl
]

none_counts : (f : Corner → ℕ) (corners : List Corner) → ((i : ℕ) (d : Corner) → i < length corners → f (get_or corners i d) ≡ 0) → sum_by f corners ≡ 0
none_counts f [] all = refl
none_counts f (c ∷ corners) all =
    let first : f c ≡ 0 = all 0 c (omega arith) in
    let rest : sum_by f corners ≡ 0 = none_counts f corners (λ i d h. all (suc i) d (omega arith)) in
    omega (arith, sum_by-cons f c corners)

rest_counts_not : (f : Corner → ℕ) (done : ℕ) (corners : List Corner) → ((i : ℕ) (d : Corner) → done ≤ i → i < length corners → f (get_or corners i d) ≡ 0)
    → sum_by f corners ≡ sum_by f (take done corners)
rest_counts_not f zero corners all = none_counts f corners (λ i d h. all i d (omega arith) h)
rest_counts_not f (suc done) [] all = refl
rest_counts_not f (suc done) (c ∷ corners) all =
    sum_by-cons f c corners ∙ ap (λ (x : ℕ). f c + x) (rest_counts_not f done corners (λ i d low h. all (suc i) d (omega arith) (omega arith)))
    ∙ sym (sum_by-cons f c (take done corners))

there : (a : Corner) → weight_at a.key a.version a ≡ a.weight
there a = rw (le-leb a.version a.version (omega arith), le-leb a.key a.key (omega arith)) refl

-- The sum at the last corner is its weight, where those that follow have a higher rank.
sum_there : (corners : List Corner) (done : ℕ) (last : Corner) → Scanned corners done last
    → ((i : ℕ) (d : Corner) → done ≤ i → i < length corners → rank last < rank (get_or corners i d))
    → corner_sum corners last.key last.version ≡ last.weight
sum_there corners done last s above =
    ap (λ (x : ℕ). x % 2 ^ 128) (rest_counts_not (weight_at last.key last.version) done corners
    (λ i d low high. ap (λ (b : Bool). cond b (get_or corners i d).weight 0) (not_there last (get_or corners i d) (above i d low high))))
    ∙ s.sums last.key last.version ∙ there last

pub is_seen : (corners : List Corner) (done : ℕ) (last c : Corner) → IsNonDecreasingBy rank corners → Scanned corners done last → done < length corners
    → ((d : Corner) → c ≡ get_or corners done d) → rank c ≢ rank last → last.weight ≢ 0 → Vanish corners → ⊥
is_seen corners done last c up s h at differs some all =
    some (sym (sum_there corners done last s (λ i d low high.
    let first : rank last ≤ rank (get_or corners done d) = s.later done d (omega arith) h in
    let on : rank (get_or corners done d) ≤ rank (get_or corners i d) = up done i d low high in
    let at_place : rank c ≡ rank (get_or corners done d) = ap rank (at d) in
    omega arith)) ∙ all last.key last.version s.key s.version)

pub at_end_zero : (corners : List Corner) (done : ℕ) (last : Corner) → Scanned corners done last → length corners ≤ done → last.weight ≡ 0 → Vanish corners
at_end_zero corners done last s end e = λ key version _ _.
    ap (λ (cs : List Corner). corner_sum cs key version) (sym (take_all done corners end)) ∙ s.sums key version ∙ zero_weight (counts_at key version last) last.weight e

pub at_end_some : (corners : List Corner) (done : ℕ) (last : Corner) → Scanned corners done last → length corners ≤ done → Vanish corners → last.weight ≡ 0
at_end_some corners done last s end all =
    sym (sum_there corners done last s (λ i d low high. absurd (omega arith))) ∙ all last.key last.version s.key s.version
