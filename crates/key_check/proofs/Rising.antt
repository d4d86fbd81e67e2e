-- How the sum of corners rises.
use Rattle.std.proofs.Common.{◌≡◌, ℕ, Bool, true, ◌+◌, ◌%◌, ◌^◌, ◌<◌, ◌≤◌, ◌&&◌, IsTrue, List, nat_le, nat_lt, cond, Option, ap, arith}
use Rattle.std.proofs.lemmas.Bool.{and_from, and_parts, le-leb, lt-ltb, leb-true, ltb-true}
use Rattle.key_check.specs.declared.corner.Corner.{Corner}
use Rattle.key_check.specs.Sums.{corner_sum}
use Rattle.mvsb_tree.specs.Stands.{ends_after}
use Rattle.key_check.specs.Cells.{Adds, is_within, weight_within}

-- Bounds.

pub within_yes : (from to low : ℕ) (high : Option ℕ) (v k : ℕ) → from ≤ v → v < to → low ≤ k → IsTrue (ends_after high k) → is_within from to low high v k ≡ true
within_yes from to low high v k a b c d =
    and_from (nat_le from v && nat_lt v to) (nat_le low k && ends_after high k)
    (and_from (nat_le from v) (nat_lt v to) (le-leb from v a) (lt-ltb v to b))
    (and_from (nat_le low k) (ends_after high k) (le-leb low k c) d)

pub record Within (from to low : ℕ) (high : Option ℕ) (v k : ℕ) : Type 0 where
  pub from_v : from ≤ v
  pub to_v : v < to
  pub low_k : low ≤ k
  pub high_k : IsTrue (ends_after high k)

pub within_parts : (from to low : ℕ) (high : Option ℕ) (v k : ℕ) → is_within from to low high v k ≡ true → Within from to low high v k
within_parts from to low high v k e =
    let p = and_parts (nat_le from v && nat_lt v to) (nat_le low k && ends_after high k) e in
    let a = and_parts (nat_le from v) (nat_lt v to) p.0 in
    let b = and_parts (nat_le low k) (ends_after high k) p.1 in
    record { from_v = leb-true from v a.0; to_v = ltb-true v to a.1; low_k = leb-true low k b.0; high_k = b.1 }

pub counts : (from to low : ℕ) (high : Option ℕ) (weight k v : ℕ) → Within from to low high v k → weight_within from to low high weight k v ≡ weight
counts from to low high weight k v w = ap (λ (b : Bool). cond b weight 0) (within_yes from to low high v k w.from_v w.to_v w.low_k w.high_k)

-- Sums.

both_more : (a b c f g h : ℕ) → b ≡ (a + f) % 2 ^ 128 → c ≡ (b + g) % 2 ^ 128 → h % 2 ^ 128 ≡ (f + g) % 2 ^ 128 → c ≡ (a + h) % 2 ^ 128
both_more a b c f g h p q r = omega arith

pub adds_both : (f g h : ℕ → ℕ → ℕ) (a b c : List Corner) → Adds f a b → Adds g b c
    → ((key version : ℕ) → key < 2 ^ 64 → version < 2 ^ 32 → h key version % 2 ^ 128 ≡ (f key version + g key version) % 2 ^ 128) → Adds h a c
adds_both f g h a b c p q r = λ key version k v.
    both_more (corner_sum a key version) (corner_sum b key version) (corner_sum c key version) (f key version) (g key version) (h key version) (p key version k v) (q key version k v) (r key version k v)
