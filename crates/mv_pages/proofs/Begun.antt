-- The entries that begin at or below a key, which stand before all others.
use Rattle.std.proofs.Common.{◌≡◌, ℕ, suc, ◌+◌, ◌-◌, ◌<◌, ◌≤◌, nat_lt, nat_le, true, false, List, ◌∷◌, ◌++◌, length, get_or, take, drop, Some, refl, sym, ap, ◌∙◌, subst, arith, drop-cons, get_or-drop, length-drop}
use Rattle.std.specs.List.{All}
use Rattle.std.proofs.lemmas.Bool.{and_left, and_right, lt-leb, le-leb, le-ltb}
use Rattle.std.proofs.lemmas.List.{get_or-take, length-append, length-take, length-take-le, take-append-drop}
use Rattle.std.proofs.lemmas.List.Elements.{All-cons}
use Rattle.page_layout.specs.declared.mv_node.MvEntry.{MvEntry}
use Rattle.mv_pages.specs.Alive.{IsBegunCount, is_alive, is_beyond, reaches, value_of}
use Rattle.mv_pages.specs.Edits.{IsPathIndex}
use Rattle.mv_pages.proofs.Copying.{below_value}
use Rattle.mv_pages.proofs.Order.{Ordered, lows_after}

-- An entry that begins at or below the key reaches it where it is alive, and is not beyond it.
pub reaches_begun : (key v : ℕ) (e : MvEntry) → e.low ≤ key → reaches key v e ≡ is_alive v e
reaches_begun key v e le = rw (le-leb e.low key le) refl

not_beyond : (key v : ℕ) (e : MvEntry) → e.low ≤ key → is_beyond key v e ≡ false
not_beyond key v e le = and_left (nat_lt key e.low) (is_alive v e) (le-ltb key e.low le)

-- None of those that have begun is beyond the key, and each of the others begins above it.
pub none_beyond : (key v n : ℕ) (es : List MvEntry) → IsBegunCount es key n → All (λ e. is_beyond key v e ≡ false) (take n es)
none_beyond key v n es begun = λ k d h. not_beyond key v (get_or (take n es) k d) (begun.below k d h)

pub begins_above : (key n i : ℕ) (es : List MvEntry) (e : MvEntry) → IsBegunCount es key n → n ≤ i → i < length es → ((d : MvEntry) → e ≡ get_or es i d) → key < e.low
begins_above key n i es e begun past within is_e =
    let place : n + (i - n) ≡ i = omega arith in
    let rest = length-drop n es in
    subst (λ (f : MvEntry). key < f.low) (get_or-drop n es (i - n) e ∙ ap (λ (j : ℕ). get_or es j e) place ∙ sym (is_e e)) (begun.above (i - n) e (omega arith))

pub all_begun : (key : ℕ) (es : List MvEntry) (n : ℕ) → length es ≤ n → All (λ e. e.low ≤ key) (take n es) → IsBegunCount es key n
all_begun key es n whole below = record {
  below = below;
  above = λ k d h. let none = length-drop n es in absurd (omega (arith, h));
}

module _ (key v : ℕ) (es : List MvEntry) (order : Ordered es) (i : ℕ) (e : MvEntry) (within : i < length es) (is_e : (d : MvEntry) → e ≡ get_or es i d) (above : key < e.low) where
  abbrev after : List MvEntry
  after = drop (suc i) es

  whole : es ≡ take i es ++ (e ∷ after)
  whole = sym (take-append-drop i es) ∙ ap (λ (l : List MvEntry). take i es ++ l) (drop-cons es i e within) ∙ ap (λ (f : MvEntry). take i es ++ (f ∷ after)) (sym (is_e e))

  order_here : Ordered (take i es ++ (e ∷ after))
  order_here = subst Ordered whole order

  -- The first entry above the key, and those after it, count for nothing there.
  pub begun_value : value_of (take i es) key v ≡ value_of es key v
  begun_value = below_value key v v (take i es) e after order_here above ∙ ap (λ (l : List MvEntry). value_of l key v) (sym whole)

  rest_above : All (λ f. key < f.low) (e ∷ after)
  rest_above =
      let lows = lows_after (take i es) e after order_here in
      All-cons (λ f. key < f.low) e after above (λ k d h. omega (arith, lows k d h, above))

  pub begun_count : All (λ f. f.low ≤ key) (take i es) → IsBegunCount es key i
  begun_count below = record {
    below = below;
    above = subst (All (λ f. key < f.low)) (sym (drop-cons es i e within ∙ ap (λ (f : MvEntry). f ∷ after) (sym (is_e e)))) rest_above;
  }

-- Among those that have begun, the last that is alive is looked for from the back: those behind are passed over.
abbrev pub PassedOver : List MvEntry → ℕ → ℕ → ℕ → Type 0
PassedOver es key v rest = All (λ f. reaches key v f ≡ false) (drop rest es)

pub passed_above : (key v n : ℕ) (es : List MvEntry) → IsBegunCount es key n → PassedOver es key v n
passed_above key v n es begun = λ k d h. and_left _ _ (lt-leb (get_or (drop n es) k d).low key (begun.above k d h))

module _ (key v : ℕ) (es : List MvEntry) (i : ℕ) (e : MvEntry) (within : i < length es) (is_e : (d : MvEntry) → e ≡ get_or es i d) (passed : PassedOver es key v (suc i)) where
  pub passed_one : is_alive v e ≡ false → PassedOver es key v i
  passed_one dead =
      subst (All (λ f. reaches key v f ≡ false)) (sym (drop-cons es i e within ∙ ap (λ (f : MvEntry). f ∷ drop (suc i) es) (sym (is_e e))))
      (All-cons (λ f. reaches key v f ≡ false) e (drop (suc i) es) (and_right (nat_le e.low key) (is_alive v e) dead) passed)

  pub last_begun : (n : ℕ) → IsBegunCount es key n → i < n → is_alive v e ≡ true → IsPathIndex es key v (Some i)
  last_begun n begun below alive =
      let begins : e.low ≤ key = subst (λ (f : MvEntry). f.low ≤ key) (get_or-take n es i e below ∙ sym (is_e e)) (begun.below i e (omega (arith, length-take n es, below, within))) in (
        take i es,
        e,
        drop (suc i) es,
        sym (take-append-drop i es) ∙ ap (λ (l : List MvEntry). take i es ++ l) (drop-cons es i e within ∙ ap (λ (f : MvEntry). f ∷ drop (suc i) es) (sym (is_e e))),
        length-take-le i es (omega (arith, within)),
        reaches_begun key v e begins ∙ alive,
        passed,
      )

pub index_fits : (key v i : ℕ) (es : List MvEntry) → IsPathIndex es key v (Some i) → i < length es
index_fits key v i es t =
    let long = ap (λ (l : List MvEntry). length l) t.3 ∙ length-append t.0 (t.1 ∷ t.2) in
    omega (arith, long, t.4)
