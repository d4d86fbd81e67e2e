-- How many pages the halves of a part take.
use Rattle.std.proofs.Common.{◌≡◌, ℕ, zero, suc, ◌+◌, ◌-◌, ◌*◌, ◌/◌, ◌^◌, ◌<◌, ◌≤◌, ◌==◌, false, arith, ap, ◌∙◌, sym}
use Rattle.std.proofs.Math.Nat.{add-mul, mul-add, mul-le-mul_left, pow-suc}
use Rattle.std.proofs.lemmas.Nat.{mul-le}
use Rattle.bw_types.specs.Depths.{NeverFalls, depth, depth_within, most_of_side}
use Rattle.bw_types.specs.DepthLaws.{depth_grows, depth_step}

-- a side of a cut goes less deep
pub less_deep : (n side : ℕ) → 64 < n → 5 * side ≤ 3 * n → side ≤ n → suc (depth side) ≤ depth n
less_deep zero side many share le = absurd (omega (arith, many))
less_deep (suc n) side many share le =
    let step = depth_step n (suc n) many in
    let inner : depth side ≤ depth_within n (most_of_side (suc n)) = depth_grows side n side (most_of_side (suc n)) (omega (arith, share)) (omega (arith, share, many)) in
    omega (arith, step, inner)

module _ (share : ℕ → ℕ) (rises : NeverFalls share) where
  abbrev borders : ℕ → ℕ
  borders n = n * (depth n * share n)

  -- the borders in a side, of which each lies one cut deeper in the part
  side_borders : (n side deep : ℕ) → 64 < n → 5 * side ≤ 3 * n → side ≤ n → depth n ≡ suc deep → borders side ≤ side * (deep * share n)
  side_borders n side deep many few le is =
      let less : suc (depth side) ≤ depth n = less_deep n side many few le in
      let lower : depth side ≤ deep = omega (arith, less, is) in
      let more = mul-le (depth side) (share side) deep (share n) lower (rises side n le) in
      mul-le-mul_left {m = depth side * share side} {n = deep * share n} side more

  both_borders : (n low high deep : ℕ) → 64 < n → low + high ≡ n → 5 * low ≤ 3 * n → 5 * high ≤ 3 * n → depth n ≡ suc deep
      → low * share low + (borders low + borders high) ≤ borders n
  both_borders n low high deep many whole lows highs is =
      let s : ℕ = share n in
      let x : ℕ = deep * s in
      let a : low * share low ≤ n * s = mul-le low (share low) n s (omega (arith, whole)) (rises low n (omega (arith, whole))) in
      let b : borders low ≤ low * x = side_borders n low deep many lows (omega (arith, whole)) is in
      let c : borders high ≤ high * x = side_borders n high deep many highs (omega (arith, whole)) is in
      let d : low * x + high * x ≡ n * x = sym (add-mul low high x) ∙ ap (λ (k : ℕ). k * x) whole in
      let next : suc deep ≡ 1 + deep = omega arith in
      let one : 1 * s ≡ s = omega arith in
      let e : depth n * s ≡ s + x = ap (λ (k : ℕ). k * s) (is ∙ next) ∙ add-mul 1 deep s ∙ ap (λ (k : ℕ). k + x) one in
      let f : borders n ≡ n * s + n * x = ap (λ (k : ℕ). n * k) e ∙ mul-add n s x in
      omega (arith, a, b, c, d, f)

  depth_some : (n : ℕ) → 64 < n → (deep : ℕ) × (depth n ≡ suc deep)
  depth_some zero many = absurd (omega (arith, many))
  depth_some (suc n) many = (depth_within n (most_of_side (suc n)), depth_step n (suc n) many)

  -- the pages of both halves and of the border between them
  pub halves_few : (n low high : ℕ) → 64 < n → low ≡ n / 2 → low + high ≡ n
      → (low * share low + (2 * low - 1 + borders low)) + (2 * high - 1 + borders high) ≤ 2 * n - 2 + borders n
  halves_few n low high many half whole =
      let deep = depth_some n many in
      let all = both_borders n low high deep.0 many whole (omega (arith, half, many)) (omega (arith, half, many, whole)) deep.1 in
      omega (arith, all, half, many, whole)

  -- what is given out before the high half
  pub low_few : (n low high : ℕ) → 64 < n → low ≡ n / 2 → low + high ≡ n → low * share low + (2 * low - 1 + borders low) ≤ 2 * n - 2 + borders n
  low_few n low high many half whole = let all = halves_few n low high many half whole in omega (arith, all)

  pub border_few : (n low high : ℕ) → 64 < n → low ≡ n / 2 → low + high ≡ n → low * share low ≤ 2 * n - 2 + borders n
  border_few n low high many half whole = let all = halves_few n low high many half whole in omega (arith, all)

-- twice as many entries at one halving more
pub twice : (halvings : ℕ) → 1 ≤ halvings → 2 ^ halvings ≡ 2 * 2 ^ (halvings - 1)
twice zero some = absurd (omega (arith, some))
twice (suc h) some =
    let e = pow-suc 2 h in
    let before : suc h - 1 ≡ h = omega arith in
    let same : 2 ^ (suc h - 1) ≡ 2 ^ h = ap (λ (k : ℕ). 2 ^ k) before in
    omega (arith, e, same)

pub one_at_least : (h : ℕ) → 1 ≤ 2 ^ h
one_at_least zero = omega arith
one_at_least (suc h) = let e = pow-suc 2 h in let ih = one_at_least h in omega (arith, e, ih)

-- a part of more points than `least` can be halved
pub some_halving : (least halvings n : ℕ) → least < n → n ≤ least * 2 ^ halvings → 1 ≤ halvings
some_halving least zero n more most = absurd (omega (arith, more, most))
some_halving least (suc h) n more most = omega arith

pub half_most : (least halvings n half : ℕ) → 1 ≤ halvings → n ≤ least * 2 ^ halvings → 2 * half ≤ n + 1 → half ≤ least * 2 ^ (halvings - 1)
half_most least halvings n half some most few =
    let e : least * 2 ^ halvings ≡ least * (2 ^ (halvings - 1) + 2 ^ (halvings - 1)) = ap (λ (k : ℕ). least * k) (let t = twice halvings some in omega (arith, t)) in
    let d = mul-add least (2 ^ (halvings - 1)) (2 ^ (halvings - 1)) in
    omega (arith, e, d, most, few)

pub some_items : (n : ℕ) → (n == 0) ≡ false → 1 ≤ n
some_items zero is = absurd cc
some_items (suc n) is = omega arith
