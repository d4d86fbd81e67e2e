-- Entries at a later version.
use Rattle.std.proofs.Common.{◌≡◌, ℕ, ◌<◌, ◌≤◌, ◌==◌, ◌&&◌, inl, inr, Bool, cond, List, [], ◌∷◌, refl, sym, ap, ◌∙◌, arith}
use Rattle.std.specs.List.{All}
use Rattle.std.proofs.lemmas.Bool.{cases_Bool}
use Rattle.std.proofs.lemmas.List.Elements.{All-head, All-tail}
use Rattle.std.proofs.lemmas.List.Sums.{sum_by-cons}
use Rattle.page_layout.specs.declared.mv_node.MvEntry.{MvEntry}
use Rattle.mv_pages.specs.Alive.{is_alive, alive_one, alive_count, IsPastOf, IsChangeable}
use Rattle.mv_pages.proofs.Order.{All-map}
use Rattle.mv_pages.proofs.Copying.{dead_later, alive_later}

same_alive : (v w : ℕ) (e : MvEntry) → v < 4294967295 → v ≤ w → IsPastOf v e → is_alive w e ≡ is_alive v e
same_alive v w e last late past = elim (cases_Bool (is_alive v e)) [
  | inl alive ↦ alive_later v w e last late past alive ∙ sym alive
  | inr dead ↦ dead_later v w e last late past dead ∙ sym dead
]

pub later_count : (v w low : ℕ) (es : List MvEntry) → v < 4294967295 → v ≤ w → All (IsPastOf v) es → alive_count es w low ≡ alive_count es v low
later_count v w low [] last late past = refl
later_count v w low (e ∷ es) last late past =
    let rest = later_count v w low es last late (All-tail (IsPastOf v) e es past) in
    let here : alive_one w low e ≡ alive_one v low e = ap (λ (b : Bool). cond (e.low == low && b) 1 0) (same_alive v w e last late (All-head (IsPastOf v) e es past)) in
    omega (arith, sum_by-cons (alive_one w low) e es, sum_by-cons (alive_one v low) e es, rest, here)

later_past : (v w : ℕ) (e : MvEntry) → v ≤ w → IsPastOf v e → IsPastOf w e
later_past v w e late past = (omega (arith, past.0, late), elim past.1 [ inl o ↦ inl o | inr over ↦ inr (omega (arith, over, late)) ])

pub later_changeable : (v w : ℕ) (es : List MvEntry) → v ≤ w → w < 4294967295 → IsChangeable v es → IsChangeable w es
later_changeable v w es late last can = record {
  last = last;
  past = All-map (IsPastOf v) (IsPastOf w) es (λ e past. later_past v w e late past) can.past;
  once = λ low. omega (arith, later_count v w low es can.last late can.past, can.once low);
}
