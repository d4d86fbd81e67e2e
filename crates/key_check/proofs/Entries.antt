-- What the corners of a node's entries come to within a piece.
use Rattle.std.proofs.Common.{◌≡◌, ℕ, zero, suc, Bool, true, false, ◌+◌, ◌%◌, ◌^◌, ◌<◌, ◌≤◌, ◌&&◌, IsTrue, List, [], ◌∷◌, length, take, nat_le, max, cond, get_or, refl, sym, ◌∙◌, ap, subst, arith, inl, inr}
use Rattle.std.specs.List.{All, sum_by}
use Rattle.std.proofs.lemmas.Bool.{and_from, and_parts, cases_Bool, le-leb, leb-true, false≢true}
use Rattle.std.proofs.lemmas.List.{take_all, take_more}
use Rattle.std.proofs.lemmas.List.Elements.{All-head, All-tail}
use Rattle.std.proofs.lemmas.List.Sums.{sum_by-append, sum_by-cons}
use Rattle.page_layout.specs.declared.mv_node.MvEntry.{MvEntry}
use Rattle.key_check.specs.declared.corner.Corner.{Corner}
use Rattle.mv_pages.specs.Alive.{counted, is_alive, value_of}
use Rattle.mv_pages.specs.Lows.{alive_lows}
use Rattle.mv_pages.proofs.LivingLows.{lows_cons, lows_skip}
use Rattle.mvsb_tree.specs.Stands.{ends_after}
use Rattle.key_check.specs.Cells.{Adds, entries_total, is_within, life_in, weight_within}
use Rattle.key_check.specs.Pieces.{StandsThroughout, is_in_piece}
use Rattle.key_check.specs.declared.piece.Piece.{Piece}
use Rattle.key_check.proofs.Cells.{alive_ends, alive_within, begins_alive}
use Rattle.key_check.proofs.Leads.{inside_cut}
use Rattle.key_check.proofs.Rising.{adds_both, counts, within_parts, within_yes}

-- What holds of each low that lives holds of each entry that does.
pub living : (P : ℕ → Type 0) (es : List MvEntry) (i : ℕ) (d : MvEntry) (v : ℕ) → i < length es → is_alive v (get_or es i d) ≡ true → All P (alive_lows es v) → P (get_or es i d).low
living P [] i d v h lives all = absurd (omega (arith, h))
living P (e ∷ es) zero d v h lives all = All-head P e.low (alive_lows es v) (subst (All P) (lows_cons v e es lives) all)
living P (e ∷ es) (suc i) d v h lives all = living P es i d v (omega (arith, h)) lives (elim (cases_Bool (is_alive v e)) [
  | inl here ↦ All-tail P e.low (alive_lows es v) (subst (All P) (lows_cons v e es here) all)
  | inr gone ↦ subst (All P) (lows_skip v e es gone) all
])

-- An entry that lives within the piece begins in its interval.
pub life_begins : (es : List MvEntry) (i : ℕ) (d : MvEntry) (piece : Piece) → i < length es → StandsThroughout es piece
    → (life_in piece (get_or es i d)).from < (life_in piece (get_or es i d)).to → IsTrue (ends_after piece.high (get_or es i d).low)
life_begins es i d piece h stands some =
    let e : MvEntry = get_or es i d in
    let v : ℕ = max piece.from e.start in
    let cut = stands v (omega arith) (omega (arith, some)) in
    living (λ l. IsTrue (ends_after piece.high l)) es i d v h (alive_within e v (omega arith) (omega (arith, some))) cut.ends

entry_counts : (piece : Piece) (e : MvEntry) (key v : ℕ) → v < 2 ^ 32 → piece.to ≤ 2 ^ 32 → (piece.from ≤ v → v < piece.to → is_alive v e ≡ true → piece.low ≤ e.low)
    → weight_within (life_in piece e).from (life_in piece e).to e.low piece.high e.value key v ≡ cond (is_in_piece piece v key) (counted key v e) 0
entry_counts piece e key v small most from = elim (cases_Bool (is_within (life_in piece e).from (life_in piece e).to e.low piece.high v key)) [
  | inl here ↦
      let w = within_parts (life_in piece e).from (life_in piece e).to e.low piece.high v key here in
      let b = w.from_v in
      let t = w.to_v in
      let l = w.low_k in
      let lives : is_alive v e ≡ true = alive_within e v (omega (arith, b)) (omega (arith, t)) in
      let low : piece.low ≤ e.low = from (omega (arith, b)) (omega (arith, t)) lives in
      let in_it : is_in_piece piece v key ≡ true = within_yes piece.from piece.to piece.low piece.high v key (omega (arith, b)) (omega (arith, t)) (omega (arith, low, l)) w.high_k in
      counts (life_in piece e).from (life_in piece e).to e.low piece.high e.value key v w
      ∙ sym (ap (λ (x : Bool). cond x (counted key v e) 0) in_it ∙ ap (λ (x : Bool). cond x e.value 0) (and_from (nat_le e.low key) (is_alive v e) (le-leb e.low key l) lives))
  | inr away ↦
      ap (λ (x : Bool). cond x e.value 0) away ∙ sym (elim (cases_Bool (is_in_piece piece v key)) [
        | inr out ↦ ap (λ (x : Bool). cond x (counted key v e) 0) out
        | inl in_it ↦ ap (λ (x : Bool). cond x (counted key v e) 0) in_it ∙ elim (cases_Bool (nat_le e.low key && is_alive v e)) [
          | inr unreached ↦ ap (λ (x : Bool). cond x e.value 0) unreached
          | inl reaches ↦
              let p = within_parts piece.from piece.to piece.low piece.high v key in_it in
              let r = and_parts (nat_le e.low key) (is_alive v e) reaches in
              let a = p.from_v in
              let z = p.to_v in
              let s = begins_alive e v r.1 in
              let f = alive_ends e v small r.1 in
              absurd (false≢true (sym away ∙ within_yes (life_in piece e).from (life_in piece e).to e.low piece.high v key (omega (arith, a, s)) (omega (arith, z, f)) (leb-true e.low key r.0) p.high_k))
        ]
      ])
]

one_more : (b : Bool) (total before one : ℕ) → total ≡ before + (one + 0) → cond b total 0 % 2 ^ 128 ≡ (cond b before 0 + cond b one 0) % 2 ^ 128
one_more true total before one e = omega arith
one_more false total before one e = refl

pub entries_more : (es : List MvEntry) (i : ℕ) (d : MvEntry) (piece : Piece) (a b c : List Corner) → i < length es → StandsThroughout es piece → piece.to ≤ 2 ^ 32
    → Adds (entries_total piece (take i es)) a b
    → Adds (weight_within (life_in piece (get_or es i d)).from (life_in piece (get_or es i d)).to (get_or es i d).low piece.high (get_or es i d).value) b c
    → Adds (entries_total piece (take (i + 1) es)) a c
entries_more es i d piece a b c h stands most p q =
    let e : MvEntry = get_or es i d in
    adds_both (entries_total piece (take i es)) (weight_within (life_in piece e).from (life_in piece e).to e.low piece.high e.value) (entries_total piece (take (i + 1) es)) a b c p q
    (λ key v _ small.
    let here = entry_counts piece e key v small most (λ from before lives.
    let cut = stands v from before in
    living (λ l. piece.low ≤ l) es i d v h lives (inside_cut (alive_lows es v) piece.low piece.high piece.least cut).from) in
    let whole : value_of (take (i + 1) es) key v ≡ value_of (take i es) key v + (counted key v e + 0) =
    ap (sum_by (counted key v)) (take_more es i d h) ∙ sum_by-append (counted key v) (take i es) (e ∷ []) ∙ ap (λ (n : ℕ). value_of (take i es) key v + n) (sum_by-cons (counted key v) e []) in
    one_more (is_in_piece piece v key) (value_of (take (i + 1) es) key v) (value_of (take i es) key v) (counted key v e) whole
    ∙ ap (λ (n : ℕ). (entries_total piece (take i es) key v + n) % 2 ^ 128) (sym here))

pub entries_all : (es : List MvEntry) (i : ℕ) (piece : Piece) (a b : List Corner) → length es ≤ i → Adds (entries_total piece (take i es)) a b → Adds (entries_total piece es) a b
entries_all es i piece a b h p = subst (λ (x : List MvEntry). Adds (entries_total piece x) a b) (take_all i es h) p
