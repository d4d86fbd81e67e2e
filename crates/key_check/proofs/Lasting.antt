-- Between the versions at which an entry starts or ends the alive lows stay the same.
use Rattle.std.proofs.Common.{◌≡◌, ℕ, Bool, zero, suc, ◌<◌, ◌≤◌, ◌==◌, ◌||◌, ◌&&◌, nat_lt, nat_le, cond, true, false, List, [], ◌∷◌, map, refl, sym, ◌∙◌, ap, subst, arith, inl, inr}
use Rattle.std.specs.List.{All, list_any}
use Rattle.std.proofs.lemmas.Bool.{cases_Bool, cases_lt, eq-eqb, eqb-true, le-leb, lt-leb, or_cases, or_parts, false≢true}
use Rattle.std.proofs.lemmas.Bool.Decides.{leb_tells}
use Rattle.page_layout.specs.declared.mv_node.MvEntry.{MvEntry}
use Rattle.mv_pages.specs.Alive.{alive_at, is_alive}
use Rattle.mv_pages.specs.Lows.{alive_lows}
use Rattle.mvsb_tree.specs.Ways.{LowsCut}
use Rattle.key_check.specs.Pieces.{StandsAt, StandsThroughout}
use Rattle.key_check.specs.declared.piece.Piece.{Piece}

-- An entry starts or ends at the version.
abbrev pub turns : ℕ → MvEntry → Bool
turns v e = e.start == v || e.end == v

starts_alike : (start v : ℕ) → (start == suc v) ≡ false → nat_le start (suc v) ≡ nat_le start v
starts_alike start v other = elim (leb_tells start v) [
  | inl p ↦ le-leb start (suc v) (omega (arith, p.1)) ∙ sym p.0
  | inr p ↦ elim (cases_lt (suc v) start) [
    | inl above ↦ lt-leb start (suc v) above ∙ sym p.0
    | inr below ↦ absurd (false≢true (sym other ∙ eq-eqb start (suc v) (omega (arith, p.1, below))))
  ]
]

ends_alike : (end v : ℕ) → (end == suc v) ≡ false → nat_lt (suc v) end ≡ nat_lt v end
ends_alike end v other = elim (leb_tells (suc v) end) [
  | inl p ↦ elim (cases_lt (suc v) end) [
    | inl above ↦ le-leb (suc (suc v)) end (omega (arith, above)) ∙ sym p.0
    | inr below ↦ absurd (false≢true (sym other ∙ eq-eqb end (suc v) (omega (arith, p.1, below))))
  ]
  | inr p ↦ lt-leb (suc (suc v)) end (omega (arith, p.1)) ∙ sym p.0
]

alive_alike : (e : MvEntry) (v : ℕ) → turns (suc v) e ≡ false → is_alive (suc v) e ≡ is_alive v e
alive_alike e v still =
    let parts = or_parts (e.start == suc v) (e.end == suc v) still in
    ap (λ (b : Bool). b && (nat_lt (suc v) e.end || e.end == 4294967295)) (starts_alike e.start v parts.0)
    ∙ ap (λ (b : Bool). nat_le e.start v && (b || e.end == 4294967295)) (ends_alike e.end v parts.1)

alive_alike_all : (entries : List MvEntry) (v : ℕ) → list_any (turns (suc v)) entries ≡ false → alive_at entries (suc v) ≡ alive_at entries v
alive_alike_all [] v still = refl
alive_alike_all (e ∷ entries) v still =
    let parts = or_parts (turns (suc v) e) (list_any (turns (suc v)) entries) still in
    ap (λ (b : Bool). cond b (e ∷ alive_at entries (suc v)) (alive_at entries (suc v))) (alive_alike e v parts.0)
    ∙ ap (λ (es : List MvEntry). cond (is_alive v e) (e ∷ es) es) (alive_alike_all entries v parts.1)

lows_alike : (entries : List MvEntry) (v : ℕ) → list_any (turns (suc v)) entries ≡ false → alive_lows entries (suc v) ≡ alive_lows entries v
lows_alike entries v still = ap (λ (es : List MvEntry). map (λ (x : MvEntry). x.low) es) (alive_alike_all entries v still)

-- Where the entry turns inside the piece, the lows stand.
abbrev pub StandsAtTurns : List MvEntry → Piece → MvEntry → Type 0
StandsAtTurns entries piece e = (piece.from ≤ e.start → e.start < piece.to → StandsAt entries piece e.start) × (piece.from ≤ e.end → e.end < piece.to → StandsAt entries piece e.end)

-- An entry that turns inside the piece, if the lows stand wherever one does, leaves them standing.
turned : (entries shown : List MvEntry) (piece : Piece) (v : ℕ)
    → All (StandsAtTurns entries piece) shown
    → list_any (turns v) shown ≡ true → piece.from ≤ v → v < piece.to → StandsAt entries piece v
turned entries [] piece v all turn from to = absurd (false≢true turn)
turned entries (e ∷ shown) piece v all turn from to = elim (or_cases (turns v e) (list_any (turns v) shown) turn) [
  | inl here ↦ elim (or_cases (e.start == v) (e.end == v) here) [
    | inl start ↦
        let at : e.start ≡ v = eqb-true e.start v start in
        subst (λ (n : ℕ). StandsAt entries piece n) at ((all 0 e (omega arith)).0 (omega (arith, from, at)) (omega (arith, to, at)))
    | inr end ↦
        let at : e.end ≡ v = eqb-true e.end v end in
        subst (λ (n : ℕ). StandsAt entries piece n) at ((all 0 e (omega arith)).1 (omega (arith, from, at)) (omega (arith, to, at)))
  ]
  | inr later ↦ turned entries shown piece v (λ k d h. all (suc k) d (omega (arith, h))) later from to
]

pub lasts : (entries : List MvEntry) (piece : Piece) → StandsAt entries piece piece.from
    → All (StandsAtTurns entries piece) entries
    → StandsThroughout entries piece
lasts entries piece first all zero from to = subst (λ (n : ℕ). StandsAt entries piece n) (omega (arith, from)) first
lasts entries piece first all (suc v) from to = elim (cases_lt v piece.from) [
  | inl below ↦ subst (λ (n : ℕ). StandsAt entries piece n) (omega (arith, from, below)) first
  | inr above ↦ elim (cases_Bool (list_any (turns (suc v)) entries)) [
    | inl turn ↦ turned entries entries piece (suc v) all turn from to
    | inr still ↦ subst (λ (ls : List ℕ). LowsCut ls piece.low piece.high piece.least) (sym (lows_alike entries v still)) (lasts entries piece first all v above (omega (arith, to)))
  ]
]
