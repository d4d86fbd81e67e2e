-- A node's lows once a low is put in.
use Rattle.std.proofs.Common.{◌≡◌, ℕ, ◌≤◌, ◌==◌, inl, inr, Bool, IsTrue, nat_le, List, [], ◌∷◌, length, Option, Some, None, IsSome, cond, refl, sym, ap, ◌∙◌, subst, arith}
use Rattle.std.specs.List.{All}
use Rattle.std.proofs.lemmas.Bool.{and_right, cases_Bool, cond-false}
use Rattle.std.proofs.lemmas.List.{length-map}
use Rattle.page_layout.specs.declared.mv_node.MvNode.{MvNode}
use Rattle.page_layout.specs.declared.mv_node.MvEntry.{MvEntry}
use Rattle.mv_pages.specs.Alive.{alive_at, child_of, child_reached, is_alive, or_later, path_child}
use Rattle.mv_pages.specs.Edits.{Cut, OfCut}
use Rattle.mv_pages.specs.Lows.{alive_lows, ascend, with_cut, with_low}
use Rattle.mvsb_tree.specs.Stands.{ends_after, first_of}
use Rattle.mvsb_tree.specs.Ways.{LowsCut}
use Rattle.mvsb_tree.proofs.Nodes.{some_same}

abbrev pub FirstStays : Type 0
FirstStays = (low first : ℕ) (lows : List ℕ) → first ≤ low → (rest : List ℕ) × (with_low low (first ∷ lows) ≡ first ∷ rest)

abbrev pub EachStays : Type 0
EachStays = (test : ℕ → Bool) (low : ℕ) (lows : List ℕ) → IsTrue (test low) → All (λ l. IsTrue (test l)) lows → All (λ l. IsTrue (test l)) (with_low low lows)

abbrev pub StaysLong : Type 0
StaysLong = (low : ℕ) (lows : List ℕ) → length lows ≤ length (with_low low lows)

begins_put : FirstStays → (lows : List ℕ) (low key : ℕ) → first_of lows ≡ Some low → low ≤ key → first_of (with_low key lows) ≡ Some low
begins_put law [] low key first le = absurd (let h : ◌≡◌ {A = Option ℕ} None (Some low) = first in cc)
begins_put law (l ∷ lows) low key first le =
    let same : l ≡ low = some_same l low first in
    let d = law key l lows (omega (arith, same, le)) in
    ap first_of d.1 ∙ first

pub lows_put : (key : ℕ) → FirstStays → EachStays → StaysLong → ((lows : List ℕ) → IsTrue (ascend lows) → IsTrue (ascend (with_low key lows)))
    → (lows : List ℕ) (low : ℕ) (high : Option ℕ) (least : ℕ) → LowsCut lows low high least → low ≤ key → IsTrue (ends_after high key) → LowsCut (with_low key lows) low high least
lows_put key first each long up lows low high least cut le before =
    let more = long key lows in
    record {
      differ = up lows cut.differ;
      begins = begins_put first lows low key cut.begins le;
      ends = each (ends_after high) key lows before cut.ends;
      filled = omega (arith, cut.filled, more);
    }

pub lows_put_cut : (second : Option Cut) → FirstStays → EachStays → StaysLong → ((low : ℕ) (lows : List ℕ) → IsTrue (ascend lows) → IsTrue (ascend (with_low low lows)))
    → (lows : List ℕ) (low : ℕ) (high : Option ℕ) (least : ℕ) → LowsCut lows low high least → OfCut second (λ cut. (low ≤ cut) × IsTrue (ends_after high cut)) → LowsCut (with_cut second lows) low high least
lows_put_cut None first each long up lows low high least cut fits = cut
lows_put_cut (Some second) first each long up lows low high least cut fits = lows_put second.0 first each long (up second.0) lows low high least cut fits.0 fits.1

pub each_put_cut : (second : Option Cut) → EachStays → (test : ℕ → Bool) (lows : List ℕ) → OfCut second (λ cut. IsTrue (test cut)) → All (λ l. IsTrue (test l)) lows → All (λ l. IsTrue (test l)) (with_cut second lows)
each_put_cut None each test lows fits all = all
each_put_cut (Some second) each test lows fits all = each test second.0 lows fits all

pub long_put_cut : (second : Option Cut) → StaysLong → (lows : List ℕ) → length lows ≤ length (with_cut second lows)
long_put_cut None long lows = omega arith
long_put_cut (Some second) long lows = long second.0 lows

-- Where a path leads somewhere, an entry is alive.
living_path : (es : List MvEntry) (key v : ℕ) → IsSome (path_child es key v) → 1 ≤ length (alive_at es v)
living_path [] key v some = absurd (let h : IsSome {T = ℕ} None = some in cc)
living_path (e ∷ es) key v some = elim (cases_Bool (is_alive v e)) [
  | inl lives ↦ let cons : alive_at (e ∷ es) v ≡ e ∷ alive_at es v = rw lives refl in subst (λ (xs : List MvEntry). 1 ≤ length xs) (sym cons) (omega arith)
  | inr dead ↦
      let skip : alive_at (e ∷ es) v ≡ alive_at es v = rw dead refl in
      let here : child_reached key v e ≡ None = ap (λ (b : Bool). cond b (Some e.child) None) (and_right (nat_le e.low key) (is_alive v e) dead) in
      let rest : IsSome (path_child es key v) = subst IsSome (ap (λ (o : Option ℕ). or_later o (path_child es key v)) here ∙ none_later (path_child es key v)) some in
      subst (λ (xs : List MvEntry). 1 ≤ length xs) (sym skip) (living_path es key v rest)
]
  where
    none_later : (o : Option ℕ) → or_later None o ≡ o
    none_later None = refl
    none_later (Some x) = refl

child_path : (node : MvNode) (key v : ℕ) → IsSome (child_of node key v) → IsSome (path_child node.entries.items key v)
child_path node key v some = elim (cases_Bool (node.level == 1)) [
  | inl leaf ↦ absurd (let h : IsSome {T = ℕ} None = subst IsSome (ap (λ (b : Bool). cond b None (path_child node.entries.items key v)) leaf) some in cc)
  | inr index ↦ subst IsSome (cond-false (node.level == 1) None (path_child node.entries.items key v) index) some
]

-- A node that is changed has living entries, and so some entries.
pub lows_alive : (es : List MvEntry) (v : ℕ) → length (alive_lows es v) ≡ length (alive_at es v)
lows_alive es v = length-map (alive_at es v) (λ (e : MvEntry). e.low)

pub living_child : (node : MvNode) (key v : ℕ) → IsSome (child_of node key v) → 1 ≤ length (alive_lows node.entries.items v)
living_child node key v some =
    let alive = living_path node.entries.items key v (child_path node key v some) in
    omega (arith, alive, lows_alive node.entries.items v)

pub some_living : (es : List MvEntry) (v : ℕ) → 1 ≤ length (alive_at es v) → 1 ≤ length es
some_living [] v some = some
some_living (e ∷ es) v some = omega arith
