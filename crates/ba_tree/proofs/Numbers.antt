-- How many page numbers an addition gives out: from the parts of a cut to the cut.
use Rattle.std.proofs.Common.{◌≡◌, ℕ, zero, suc, ◌+◌, ◌-◌, ◌*◌, ◌<◌, ◌≤◌, ◌==◌, false, inl, inr, refl, sym, arith}
use Rattle.std.proofs.lemmas.Bool.{cases_lt, eq-eqb, le-leb, le-ltb, lt-leb, lt-ltb, ne_eqb}
use Rattle.std.proofs.Math.Nat.{suc-mul}
use Rattle.std.proofs.lemmas.Nat.{mul-le}
use Rattle.bw_types.specs.Depths.{depth, depth_within, most_of_side, share_above}
use Rattle.bw_types.specs.DepthLaws.{depth_grows, depth_step, shares_never_fall}
use Rattle.cut_parts.specs.Parts.{IsBalancedCut}
use Rattle.cut_parts.specs.Standing.{HaveLaws, cuts_share}
use Rattle.cut_parts.specs.declared.border_tree.BorderTree.{Ghosts}
use Rattle.ba_tree.specs.Growing.{border_growth, inner_growth, page_growth, root_growth}

-- a side of a cut is less deep
side_depth : (m n : ℕ) → 64 < n → 5 * m ≤ 3 * n → m < n → suc (depth m) ≤ depth n
side_depth m zero many share less = absurd (omega arith)
side_depth m (suc n) many share less =
    let step = depth_step n (suc n) many in
    let inner : depth m ≤ depth_within n (most_of_side (suc n)) = depth_grows m n m (most_of_side (suc n)) (omega arith) (omega arith) in
    omega (arith, step, inner)

once_more : (d x : ℕ) → suc d * x ≡ x + d * x
once_more d x = omega (arith, suc-mul d x)

module _ {B : Type 0} (g : Ghosts B) (laws : HaveLaws g) where
  some_growth : (n : ℕ) → 64 < n + 1 → 1 ≤ inner_growth g n
  some_growth n many =
      let deep = side_depth 0 (n + 1) many (omega arith) (omega arith) in
      let first = mul-le 1 1 (depth (n + 1)) (1 + g.growth n) (omega (arith, deep)) (omega arith) in
      omega (arith, first)

  -- a side of more than 64 points
  deep_side : (m n : ℕ) → 64 < n + 1 → 5 * (m + 1) ≤ 3 * (n + 1) → m < n → g.growth m + (1 + inner_growth g m) ≤ inner_growth g n
  deep_side m n many share less =
      let deep = side_depth (m + 1) (n + 1) many share (omega arith) in
      let more = laws.growth_rises m n (omega arith) in
      let path = mul-le (suc (depth (m + 1))) (1 + g.growth m) (depth (n + 1)) (1 + g.growth n) deep (omega (arith, more)) in
      let whole = once_more (depth (m + 1)) (1 + g.growth m) in
      let anew = mul-le (m + 1) (share_above g.share (m + 1)) (n + 1) (share_above g.share (n + 1)) (omega arith) (shares_never_fall g.share laws.share_rises (m + 1) (n + 1) (omega arith)) in
      omega (arith, path, whole, anew)

  page_none : (n : ℕ) → n < 64 → page_growth g n ≡ 0
  page_none n few = rw (lt-ltb n 64 few) refl

  page_full : (n : ℕ) → n ≡ 64 → page_growth g n ≡ 1
  page_full n full = rw (le-ltb n 64 (omega (arith, full)), le-leb n 64 (omega (arith, full))) refl

  page_few : (n : ℕ) → n ≤ 64 → page_growth g n ≤ 1
  page_few n few = elim (cases_lt n 64) [
    | inl less ↦ let none = page_none n less in omega (arith, none)
    | inr full ↦ let one = page_full n (omega (arith, few, full)) in omega (arith, one)
  ]

  page_many : (n : ℕ) → 64 < n → page_growth g n ≡ 1 + inner_growth g n
  page_many n many = rw (le-ltb n 64 (omega (arith, many)), lt-leb n 64 many) refl

  pub anew_number : (n : ℕ) → (n + 1) * cuts_share g (n + 1) ≤ inner_growth g n
  anew_number n = omega arith

  pub low_number : (n low : ℕ) → low < n → IsBalancedCut (n + 1) (low + 1) → border_growth g low + page_growth g low ≤ inner_growth g n
  low_number n low less cut = elim (cases_lt 64 low) [
    | inl more ↦
        let other : (low == 64) ≡ false = ne_eqb low 64 (λ e. omega (arith, more, e)) in
        let border : border_growth g low ≡ g.growth low = rw (le-ltb low 64 (omega (arith, more)), other) refl in
        let page = page_many low more in
        let side = deep_side low n cut.many cut.low_share less in
        omega (arith, border, page, side)
    | inr few ↦ elim (cases_lt low 64) [
      | inl fewer ↦
          let border : border_growth g low ≡ 0 = rw (lt-ltb low 64 fewer) refl in
          let page = page_few low few in
          let some = some_growth n cut.many in
          omega (arith, border, page, some)
      | inr full ↦
          let is : low ≡ 64 = omega (arith, few, full) in
          let border : border_growth g low ≡ 65 * g.share 65 = rw (le-ltb low 64 full, eq-eqb low 64 is) refl in
          let page = page_few low few in
          let deep = side_depth 0 (n + 1) cut.many (omega arith) (omega arith) in
          let first = mul-le 1 1 (depth (n + 1)) (1 + g.growth n) (omega (arith, deep)) (omega arith) in
          omega (arith, border, page, first)
    ]
  ]

  pub high_number : (n low : ℕ) → low < n → IsBalancedCut (n + 1) low → page_growth g (n - low) ≤ inner_growth g n
  high_number n low less cut = elim (cases_lt 64 (n - low)) [
    | inl more ↦
        let page = page_many (n - low) more in
        let some = cut.some_low in
        let share = cut.high_share in
        let side = deep_side (n - low) n cut.many (omega (arith, share, less)) (omega (arith, some, less)) in
        omega (arith, page, side)
    | inr few ↦
        let page = page_few (n - low) few in
        let some = some_growth n cut.many in
        omega (arith, page, some)
  ]

  -- a part that begins with a page
  pub page_number : (n : ℕ) → 64 < n → inner_growth g n + 1 ≡ page_growth g n
  page_number n many = let page = page_many n many in omega (arith, page)

  pub leaf_number : (n : ℕ) → n ≡ 64 → 1 ≡ page_growth g n
  leaf_number n full = sym (page_full n full)

  pub inner_number : (n : ℕ) → 64 < n → inner_growth g n ≤ page_growth g n
  inner_number n many = let page = page_many n many in omega (arith, page)

  -- the tree: its page, and a new root where that is split
  pub root_none : (n : ℕ) → n < 64 → 0 ≡ root_growth g n
  root_none n few = rw (lt-ltb n 64 few) refl

  pub root_number : (n : ℕ) → 64 ≤ n → page_growth g n + 1 ≡ root_growth g n
  root_number n many = rw (le-ltb n 64 many) refl

  pub page_within : (n : ℕ) → page_growth g n ≤ root_growth g n
  page_within n = elim (cases_lt n 64) [
    | inl few ↦ let page = page_none n few in omega (arith, page)
    | inr many ↦ let root = root_number n many in omega (arith, root)
  ]

  pub tree_number : (n : ℕ) → root_growth g n ≤ 3 + inner_growth g n
  tree_number n = elim (cases_lt n 64) [
    | inl few ↦ let none = root_none n few in omega (arith, none)
    | inr some ↦
        let root = root_number n some in
        elim (cases_lt 64 n) [
          | inl more ↦ let page = page_many n more in omega (arith, root, page)
          | inr few ↦ let page = page_few n few in omega (arith, root, page)
        ]
  ]
