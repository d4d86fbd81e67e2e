-- What the search for a line feed in the rest of some bytes says of them all.
use Rattle.std.proofs.Common.{◌≡◌, ℕ, ◌+◌, ◌<◌, ◌≤◌, Bool, true, false, List, ◌++◌, length, take, drop, get_or, slice_index, arith, sym, ◌∙◌, ap, inl, inr, length-take, length-drop}
use Rattle.std.proofs.Math.Seq.{take-add}
use Rattle.std.proofs.lemmas.List.{take-append-drop, get_or-take, get_or-drop}
use Rattle.std.proofs.lemmas.List.Elements.{All-append, All-from_get_or, All-same}
use Rattle.std.proofs.lemmas.Bool.{cases_Bool}
use Rattle.memchr.specs.Find.{Nowhere, NoneBefore, Passes, is_byte}
use Rattle.line_reader.specs.Lines.{is_line_feed, HasNoLineFeed}
use Rattle.line_reader.specs.Intake.{IsLineEnd}

not_passed : (t : Bool) → (t ≡ true → ⊥) → t ≡ false
not_passed t never = elim (cases_Bool t) [ inl passed ↦ absurd (never passed) | inr is ↦ is ]

none_up_to : (rest : List ℕ) (n : ℕ) → n ≤ length rest → Nowhere (Passes (is_byte 10) rest) 0 n → HasNoLineFeed (take n rest)
none_up_to rest n within nowhere =
    All-from_get_or (λ byte. is_line_feed byte ≡ false) (take n rest) 0
    (λ i below.
    let i_below : i < n = omega (arith, length-take n rest) in
    ap is_line_feed (get_or-take n rest i 0 i_below) ∙ not_passed (is_line_feed (get_or rest i 0)) (nowhere i (omega arith) i_below))

in_front : (held : List ℕ) (scanned n : ℕ) → HasNoLineFeed (take scanned held) → HasNoLineFeed (take n (drop scanned held)) → HasNoLineFeed (take (scanned + n) held)
in_front held scanned n first second =
    let P : ℕ → Type 0 = λ byte. is_line_feed byte ≡ false in
    All-same P (take (scanned + n) held) (take scanned held ++ take n (drop scanned held)) (take-add scanned n held)
    (All-append P (take scanned held) (take n (drop scanned held)) first second)

pub none_found : (held rest : List ℕ) (scanned : ℕ) → rest ≡ drop scanned held → HasNoLineFeed (take scanned held) → Nowhere (Passes (is_byte 10) rest) 0 (length rest) → HasNoLineFeed held
none_found held rest scanned is first nowhere =
    let P : ℕ → Type 0 = λ byte. is_line_feed byte ≡ false in
    let second : HasNoLineFeed rest =
    All-from_get_or P rest 0 (λ i below. not_passed (is_line_feed (get_or rest i 0)) (nowhere i (omega arith) below)) in
    All-same P held (take scanned held ++ rest) (sym (take-append-drop scanned held) ∙ ap (λ (l : List ℕ). take scanned held ++ l) (sym is))
    (All-append P (take scanned held) rest first second)

pub line_end_found : (held rest : List ℕ) (scanned k : ℕ) → rest ≡ drop scanned held → HasNoLineFeed (take scanned held) → NoneBefore (Passes (is_byte 10) rest) 0 (length rest) k → Passes (is_byte 10) rest k → IsLineEnd held (scanned + k)
line_end_found held rest scanned k is first before here =
    let len : length rest ≡ length (drop scanned held) = ap length is in
    record {
      within = omega (arith, before.high, len, length-drop scanned held);
      is = ap is_line_feed (sym (get_or-drop scanned held k 0) ∙ ap (λ (l : List ℕ). slice_index l k) (sym is)) ∙ here;
      first =
          in_front held scanned k first
          (All-same (λ byte. is_line_feed byte ≡ false) (take k (drop scanned held)) (take k rest) (ap (take k) (sym is))
          (none_up_to rest k (omega (arith, before.high)) before.before));
    }
