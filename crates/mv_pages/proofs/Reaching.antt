-- When an entry reaches a key at a version.
use Rattle.std.proofs.Common.{◌≡◌, ℕ, ◌<◌, ◌≤◌, ◌==◌, true, false, ◌||◌, nat_lt, nat_le, arith}
use Rattle.std.proofs.lemmas.Bool.{and_from, and_left, and_right, or_left, or_right, or_from, le-leb, lt-leb, lt-ltb, le-ltb, eq-eqb, ne_eqb}
use Rattle.page_layout.specs.declared.mv_node.MvEntry.{MvEntry}
use Rattle.mv_pages.specs.Alive.{is_alive, reaches, is_alive_from}

pub alive-open : (v : ℕ) (e : MvEntry) → e.start ≤ v → e.end ≡ 4294967295 → is_alive v e ≡ true
alive-open v e s o = and_from (nat_le e.start v) (nat_lt v e.end || e.end == 4294967295) (le-leb e.start v s) (or_right (nat_lt v e.end) (e.end == 4294967295) (eq-eqb e.end 4294967295 o))

pub alive-within : (v : ℕ) (e : MvEntry) → e.start ≤ v → v < e.end → is_alive v e ≡ true
alive-within v e s h = and_from (nat_le e.start v) (nat_lt v e.end || e.end == 4294967295) (le-leb e.start v s) (or_left (nat_lt v e.end) (e.end == 4294967295) (lt-ltb v e.end h))

pub alive-early : (v : ℕ) (e : MvEntry) → v < e.start → is_alive v e ≡ false
alive-early v e h = and_left (nat_le e.start v) (nat_lt v e.end || e.end == 4294967295) (lt-leb e.start v h)

pub alive-over : (v : ℕ) (e : MvEntry) → e.end ≤ v → e.end < 4294967295 → is_alive v e ≡ false
alive-over v e h less =
    and_right (nat_le e.start v) (nat_lt v e.end || e.end == 4294967295)
    (or_from (nat_lt v e.end) (e.end == 4294967295) (le-ltb v e.end h) (ne_eqb e.end 4294967295 (λ same. omega (arith, same, less))))

pub reaches-alive : (q v : ℕ) (e : MvEntry) → e.low ≤ q → is_alive v e ≡ true → reaches q v e ≡ true
reaches-alive q v e h a = and_from (nat_le e.low q) (is_alive v e) (le-leb e.low q h) a

pub reaches-below : (q v : ℕ) (e : MvEntry) → q < e.low → reaches q v e ≡ false
reaches-below q v e h = and_left (nat_le e.low q) (is_alive v e) (lt-leb e.low q h)

pub reaches-dead : (q v : ℕ) (e : MvEntry) → is_alive v e ≡ false → reaches q v e ≡ false
reaches-dead q v e h = and_right (nat_le e.low q) (is_alive v e) h

pub from-alive : (v low : ℕ) (e : MvEntry) → e.low ≡ low → is_alive v e ≡ true → is_alive_from v low e ≡ true
from-alive v low e h a = and_from (e.low == low) (is_alive v e) (eq-eqb e.low low h) a

pub from-other : (v low : ℕ) (e : MvEntry) → (e.low ≡ low → ⊥) → is_alive_from v low e ≡ false
from-other v low e h = and_left (e.low == low) (is_alive v e) (ne_eqb e.low low h)

pub from-dead : (v low : ℕ) (e : MvEntry) → is_alive v e ≡ false → is_alive_from v low e ≡ false
from-dead v low e h = and_right (e.low == low) (is_alive v e) h
