-- Bytes that are all 0, one number of them after another.
use Rattle.std.proofs.Common.{◌≡◌, ℕ, suc, ◌+◌, ◌-◌, ◌≤◌, ◌↔◌, ◌++◌, List, [], ◌∷◌, length, drop, slice_index, refl, sym, subst, ap, ◌∙◌, length-drop, arith, All}
use Rattle.std.proofs.lemmas.List.Elements.{All-cons, All-nil}
use Rattle.std.proofs.lemmas.List.{replicate-append-replicate}
use Rattle.page_layout.specs.Bytes.{AreBytes}
use Rattle.page_layout.specs.Numbers.{spelled, number_in, zeros, number_in-spelled, drop-zeros}
use Rattle.page_layout.specs.Respelled.{respelled}

-- They are all 0.
abbrev pub AllZero : List ℕ → Type 0
AllZero bytes = bytes ≡ zeros (length bytes)

zeros-append : (n m : ℕ) → zeros n ++ zeros m ≡ zeros (n + m)
unfolding zeros
zeros-append n m = replicate-append-replicate n m 0

none_spelled : spelled 16 0 ≡ zeros 16
unfolding spelled zeros
none_spelled = refl

first_zeros : (bytes : List ℕ) → AreBytes bytes → 16 ≤ length bytes → number_in 16 bytes ≡ 0 → bytes ≡ zeros 16 ++ drop 16 bytes
first_zeros bytes h room none =
    sym (respelled 16 bytes h room) ∙ ap (λ (x : ℕ). spelled 16 x ++ drop 16 bytes) none ∙ ap (λ (z : List ℕ). z ++ drop 16 bytes) none_spelled

-- zeros are the number 0
pub zero_number : (bytes : List ℕ) → 16 ≤ length bytes → AllZero bytes → number_in 16 bytes ≡ 0
zero_number bytes room all =
    let parts : 16 + (length bytes - 16) ≡ length bytes = omega arith in
    let whole : bytes ≡ spelled 16 0 ++ zeros (length bytes - 16) =
    all ∙ ap zeros (sym parts) ∙ sym (zeros-append 16 (length bytes - 16)) ∙ ap (λ (z : List ℕ). z ++ zeros (length bytes - 16)) (sym none_spelled) in
    ap (λ (b : List ℕ). number_in 16 b) whole ∙ number_in-spelled 16 0 (zeros (length bytes - 16)) (omega arith)

-- what follows sixteen zeros decides
pub next_zeros : (bytes : List ℕ) → AreBytes bytes → 16 ≤ length bytes → number_in 16 bytes ≡ 0 → AllZero bytes ↔ AllZero (drop 16 bytes)
next_zeros bytes h room none =
    let len : length (drop 16 bytes) ≡ length bytes - 16 = length-drop 16 bytes in
    let parts : 16 + length (drop 16 bytes) ≡ length bytes = omega (arith, len) in (
      λ all. ap (λ (b : List ℕ). drop 16 b) all ∙ drop-zeros 16 (length bytes) ∙ ap zeros (sym len),
      λ rest. first_zeros bytes h room none ∙ ap (λ (z : List ℕ). zeros 16 ++ z) rest ∙ zeros-append 16 (length (drop 16 bytes)) ∙ ap zeros parts,
    )

-- all bytes are 0 where each is
pub each_zero : (bytes : List ℕ) → All (λ (byte : ℕ). byte ≡ 0) bytes ↔ AllZero bytes
unfolding zeros
each_zero [] = (λ _. refl, λ _. All-nil (λ (byte : ℕ). byte ≡ 0))
each_zero (x ∷ xs) =
    let rest = each_zero xs in (
      λ each. ap (λ (b : ℕ). b ∷ xs) (each 0 x (omega arith)) ∙ ap (λ (bs : List ℕ). 0 ∷ bs) (rest.0 (λ k d h. each (suc k) d (omega arith))),
      λ all. All-cons (λ (byte : ℕ). byte ≡ 0) x xs (ap (λ (bs : List ℕ). slice_index bs 0) all) (rest.1 (ap (λ (bs : List ℕ). drop 1 bs) all)),
    )

pub same_rest : {P : Type 0} {rest skipped : List ℕ} → skipped ≡ rest → P ↔ AllZero rest → P ↔ AllZero skipped
same_rest {P} e f = subst (λ (b : List ℕ). P ↔ AllZero b) (sym e) f
