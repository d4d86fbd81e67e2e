-- The edits of entries in memory.
use Rattle.sb_tree.proofs.Common.{◌≡◌, ◌≢◌, ℕ, zero, suc, ◌-◌, ◌<◌, ◌≤◌, inr, List, [], ◌∷◌, ◌++◌, length, get_or, take, drop, sym, arith, All, get_or-take, length-take, get_or_default, take-append-drop, SbEntry, IsCut, leaf_entry, TakesIn}
use Rattle.sb_tree.proofs.Order.{Ascends}

pub ascending_at : (es : List SbEntry) (i j : ℕ) (d : SbEntry) → Ascends es → i < j → j < length es → (get_or es i d).low < (get_or es j d).low
ascending_at [] i j d a less h = absurd (omega (arith, h))
ascending_at (e ∷ es) i zero d a less h = absurd (omega (arith, less))
ascending_at (e ∷ es) zero (suc j) d a less h = a.0 j d (omega (arith, h))
ascending_at (e ∷ es) (suc i) (suc j) d a less h = ascending_at es i j d a.1 (omega (arith, less)) (omega (arith, h))

-- Where the last of those that have begun does not begin at the version, they all begin before it.
pub all_before_cut : (es : List SbEntry) (k v : ℕ) (d : SbEntry) → Ascends es → IsCut es k v → (1 ≤ k → (get_or es (k - 1) d).low ≢ v) → All (λ e. e.low < v) (take k es)
all_before_cut es k v d a c other = grind (arith, length-take, get_or-take, get_or_default, ascending_at)

pub takes_in_new : (es new shown : List SbEntry) (k v x : ℕ) (d : SbEntry) → shown ≡ es → Ascends es → IsCut shown k v → (1 ≤ k → (get_or shown (k - 1) d).low ≢ v)
    → new ≡ take k es ++ (leaf_entry v x ∷ drop k es) → TakesIn es new v x
takes_in_new es new shown k v x d same a c other made =
    let cut = rw same at c in
    let other2 = rw same at other in
    inr (take k es, drop k es, sym (take-append-drop k es), all_before_cut es k v d a cut other2, cut.later, made)
