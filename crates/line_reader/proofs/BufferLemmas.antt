-- What a move and a read leave in a buffer.
use Rattle.std.proofs.Common.{◌≡◌, ℕ, ◌+◌, ◌≤◌, List, ◌++◌, Result, Ok, Err, length, take, drop, arith, sym, ◌∙◌, ap, append_assoc, length-take, length-drop, length-append}
use Rattle.std.proofs.lemmas.List.{take_at, drop_at, drop-take, take-append-le, take-append-drop, take-take, drop-append-le}
use Rattle.std.specs.Result.{IfOk}
use Rattle.line_reader.specs.Intake.{LosesNothing, IntakeState}
use borrow.Rule.Slice.PartMut.{put_mid, post_of}

pub take-written : (n : ℕ) (x a b : List ℕ) → length x ≡ n → take n ((x ++ a) ++ b) ≡ x
take-written n x a b len = ap (take n) (append_assoc x a b) ∙ take_at x (a ++ b) n len

-- the bytes that were put at a place of the buffer
pub between-put_mid : (at n k : ℕ) (buffer new : List ℕ) → at ≤ length buffer → n ≤ length new → drop at (take (at + n) (put_mid at k buffer new)) ≡ take n new
between-put_mid at n k buffer new within short =
    drop-take at n (put_mid at k buffer new)
    ∙ ap (take n) (drop_at (take at buffer) (new ++ post_of at k buffer) at (omega (arith, length-take at buffer)))
    ∙ take-append-le n new (post_of at k buffer) short

-- what a source gave into the middle of a buffer, as it stands there
pub given-put_mid : {E : Type 0} (r : Result ℕ E) (T : Type 0) (at k : ℕ) (buffer new left left' : List ℕ) → at ≤ length buffer → IfOk r (λ n. n ≤ length new) → IfOk r (λ n. T → left ≡ take n new ++ left') → IfOk r (λ n. T → left ≡ drop at (take (at + n) (put_mid at k buffer new)) ++ left')
given-put_mid (Ok n) T at k buffer new left left' within bound taken =
    λ told. taken told ∙ ap (λ (l : List ℕ). l ++ left') (sym (between-put_mid at n k buffer new within bound))
given-put_mid (Err e) T at k buffer new left left' within bound taken = tt

-- what is held, and n bytes more behind it
pub held-more : (buffer buffer' : List ℕ) (start end n : ℕ) → start ≤ end → end + n ≤ length buffer' → take end buffer' ≡ take end buffer → drop start (take (end + n) buffer') ≡ drop start (take end buffer) ++ drop end (take (end + n) buffer')
held-more buffer buffer' start end n ordered within same =
    let all = take (end + n) buffer' in
    let front : take end all ≡ take end buffer = take-take end (end + n) buffer' (omega arith) ∙ same in
    let fits : start ≤ length (take end all) = omega (arith, length-take end all, length-take (end + n) buffer') in
    ap (drop start) (sym (take-append-drop end all))
    ∙ drop-append-le start (take end all) (drop end all) fits
    ∙ ap (λ (l : List ℕ). drop start l ++ drop end all) front

pub bytes-more : (buffer buffer' : List ℕ) (start end n : ℕ) (left left' : List ℕ) → start ≤ end → end + n ≤ length buffer' → take end buffer' ≡ take end buffer → left ≡ drop end (take (end + n) buffer') ++ left' → drop start (take end buffer) ++ left ≡ drop start (take (end + n) buffer') ++ left'
bytes-more buffer buffer' start end n left left' ordered within same came =
    ap (λ (l : List ℕ). drop start (take end buffer) ++ l) came
    ∙ sym (append_assoc (drop start (take end buffer)) (drop end (take (end + n) buffer')) left')
    ∙ ap (λ (l : List ℕ). l ++ left') (sym (held-more buffer buffer' start end n ordered within same))

pub counts-more : (buffer' : List ℕ) (end n taken : ℕ) (left left' : List ℕ) → end + n ≤ length buffer' → left ≡ drop end (take (end + n) buffer') ++ left' → (taken + n) + length left' ≡ taken + length left
counts-more buffer' end n taken left left' within came =
    let len : length left ≡ length (drop end (take (end + n) buffer')) + length left' = ap length came ∙ length-append (drop end (take (end + n) buffer')) left' in
    omega (arith, len, length-drop end (take (end + n) buffer'), length-take (end + n) buffer')

pub loses_nothing-more : (old new : IntakeState) (buffer buffer' : List ℕ) (start end n taken : ℕ) (left left' : List ℕ) → drop start (take end buffer) ≡ old.held → taken ≡ old.taken → drop start (take (end + n) buffer') ≡ new.held → taken + n ≡ new.taken → start ≤ end → end + n ≤ length buffer' → take end buffer' ≡ take end buffer → left ≡ drop end (take (end + n) buffer') ++ left' → LosesNothing old new left left'
loses_nothing-more old new buffer buffer' start end n taken left left' held took held' took' ordered within same came =
    record {
      bytes =
          ap (λ (l : List ℕ). l ++ left) (sym held) ∙ bytes-more buffer buffer' start end n left left' ordered within same came
          ∙ ap (λ (l : List ℕ). l ++ left') held';
      counts =
          ap (λ (k : ℕ). k + length left') (sym took') ∙ counts-more buffer' end n taken left left' within came
          ∙ ap (λ (k : ℕ). k + length left) took;
    }
