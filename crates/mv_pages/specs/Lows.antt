-- The lows of the entries of a node that are alive at a version. They cut its keys into intervals: each key
-- belongs to the last low at or below it, up to the next one.
use Rattle.std.specs.Prelude.{◌≡◌, ℕ, ◌==◌, ◌&&◌, ◌||◌, Bool, true, nat_lt, nat_le, cond, List, [], ◌∷◌, Option, Some, None, IfSome, map, option_map}
use Rattle.page_layout.specs.declared.mv_node.MvEntry.{MvEntry}
use Rattle.page_layout.specs.declared.mv_node.MvNode.{MvNode}
use Rattle.mv_pages.specs.declared.path.Reached.{Reached}
use Rattle.mv_pages.specs.Alive.{alive_at, child_of, or_later}
use Rattle.mv_pages.specs.Edits.{Cut}

-- the lows of the entries that are alive at the version, in their order
abbrev pub alive_lows : List MvEntry → ℕ → List ℕ
alive_lows entries version = map (λ e. e.low) (alive_at entries version)

-- the lows with one put in at its place; where it is one of them, they are as they were
abbrev pub with_low : ℕ → List ℕ → List ℕ
with_low low [] = low ∷ []
with_low low (l ∷ lows) = cond (nat_lt low l) (low ∷ (l ∷ lows)) (cond (low == l) (l ∷ lows) (l ∷ with_low low lows))

-- the lows with a cut put in, where there is one
abbrev pub with_cut : Option Cut → List ℕ → List ℕ
with_cut None lows = lows
with_cut (Some second) lows = with_low second.0 lows

-- the last of the lows that is at or below the key, if any
abbrev pub low_at : List ℕ → ℕ → Option ℕ
low_at [] key = None
low_at (low ∷ lows) key = or_later (cond (nat_le low key) (Some low) None) (low_at lows key)

-- the first of the lows that is above the key, if any
abbrev pub low_above : List ℕ → ℕ → Option ℕ
low_above [] key = None
low_above (low ∷ lows) key = cond (nat_lt key low) (Some low) (low_above lows key)

-- the low is above the last one, where there is one
abbrev pub follows : Option ℕ → ℕ → Bool
follows None low = true
follows (Some last) low = nat_lt last low

-- each of the lows is above the one before it, and the first above the last one of before, where there is one
abbrev pub ascend_from : Option ℕ → List ℕ → Bool
ascend_from last [] = true
ascend_from last (low ∷ lows) = follows last low && ascend_from (Some low) lows

-- each of the lows is above the one before it
abbrev pub ascend : List ℕ → Bool
ascend lows = ascend_from None lows

-- where an entry begins, if there is one
abbrev pub low_of : Option MvEntry → Option ℕ
low_of None = None
low_of (Some e) = Some e.low

-- This is the child to which the node leads at the key and the version, with the keys that lead to it.
pub record IsReached (node : MvNode) (key version : ℕ) (reached : Option Reached) : Type 0 where
  pub child : option_map (λ r. r.child) reached ≡ child_of node key version
  pub low : IfSome reached (λ r. Some r.low ≡ low_at (alive_lows node.entries.items version) key)
  pub next : IfSome reached (λ r. r.next ≡ low_above (alive_lows node.entries.items version) key)

-- the entry starts at or before the version, and if it is closed, it ends there or before
abbrev pub is_past : ℕ → MvEntry → Bool
is_past version e = nat_le e.start version && (e.end == 4294967295 || nat_le e.end version)

-- the greater of two lows, or the one that there is
abbrev pub greater_low : Option ℕ → Option ℕ → Option ℕ
greater_low None other = other
greater_low (Some low) None = Some low
greater_low (Some low) (Some other) = cond (nat_lt low other) (Some other) (Some low)

-- the lesser of two lows, or the one that there is
abbrev pub lesser_low : Option ℕ → Option ℕ → Option ℕ
lesser_low None other = other
lesser_low (Some low) None = Some low
lesser_low (Some low) (Some other) = cond (nat_lt low other) (Some low) (Some other)
