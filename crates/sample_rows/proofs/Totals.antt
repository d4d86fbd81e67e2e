-- The total of the answers, line by line.
use Rattle.std.proofs.Common.{◌≡◌, ℕ, ◌+◌, ◌-◌, ◌<◌, ◌==◌, nat_lt, Bool, true, cond, List, map, take, drop, length, Option, Some, None, inl, inr, pos, ◌+ℤ◌, sym, ◌∙◌, ap, subst, position, arith}
use Rattle.std.proofs.lemmas.Bool.{cases_lt}
use Rattle.std.proofs.lemmas.Bool.Decides.{nat_tests}
use Rattle.std.proofs.lemmas.List.{length-drop, take_all}
use Rattle.std.proofs.lemmas.List.Quantifiers.{position-Some}
use Rattle.std.proofs.lemmas.List.Sums.{fails_before_first, position_or_len_is}
use Rattle.std.proofs.lemmas.List.Splits.{slice_split_first, slice_split_none}
use Rattle.std.specs.List.{position_or_len}
use Rattle.sample_rows.specs.Summary.{answer_in, answers_in, total_of}

-- what stands before the first line feed is a line
pub cut_line : (bytes : List ℕ) (at : ℕ) → position (λ b. b == 10) bytes ≡ Some at → answers_in bytes ≡ answer_in (take at bytes) +ℤ answers_in (drop (at + 1) bytes)
cut_line bytes at e =
    let found = position-Some (λ (b : ℕ). b == 10) bytes at 0 e in
    let same : position_or_len (λ (b : ℕ). b == 10) bytes ≡ at = position_or_len_is (λ (b : ℕ). b == 10) bytes at 0 (omega (arith, found.0)) found.2 (λ _. found.1) in
    ap (λ (parts : List (List ℕ)). total_of (map answer_in parts)) (slice_split_first (λ (b : ℕ). b == 10) bytes 0 (subst (λ (n : ℕ). n < length bytes) (sym same) found.0))
    ∙ ap (λ (n : ℕ). answer_in (take n bytes) +ℤ answers_in (drop (n + 1) bytes)) same

-- what stands before the first line feed is a line, and less is left
pub cut_there : (bytes : List ℕ) (at : ℕ) (place : Option ℕ) → place ≡ position (λ b. b == 10) bytes → place ≡ Some at
    → (answers_in bytes ≡ answer_in (take at bytes) +ℤ answers_in (take (length bytes - (at + 1)) (drop (at + 1) bytes)))
    × (length (take (length bytes - (at + 1)) (drop (at + 1) bytes)) < length bytes)
cut_there bytes at place is e =
    let found = position-Some (λ (b : ℕ). b == 10) bytes at 0 (sym is ∙ e) in
    let left : length (drop (at + 1) bytes) ≡ length bytes - (at + 1) = length-drop (at + 1) bytes in
    let whole : take (length bytes - (at + 1)) (drop (at + 1) bytes) ≡ drop (at + 1) bytes = take_all (length bytes - (at + 1)) (drop (at + 1) bytes) (omega (arith, left)) in (
      cut_line bytes at (sym is ∙ e) ∙ ap (λ (u : List ℕ). answer_in (take at bytes) +ℤ answers_in u) (sym whole),
      subst (λ (u : List ℕ). length u < length bytes) (sym whole) (omega (arith, left, found.0)),
    )

-- bytes without a line feed are one line
pub last_line : (bytes : List ℕ) → position (λ b. b == 10) bytes ≡ None → answers_in bytes ≡ answer_in bytes +ℤ pos 0
last_line bytes e =
    let place = position_or_len (λ (b : ℕ). b == 10) bytes in
    elim (cases_lt place (length bytes)) [
      | inl under ↦
          let test : nat_lt place (length bytes) ≡ true = grind (arith, nat_tests) in
          let bad : Some place ≡ None = sym (ap (λ (b : Bool). cond b (Some place) None) test) ∙ e in
          cc
      | inr over ↦
          ap (λ (parts : List (List ℕ)). total_of (map answer_in parts))
          (slice_split_none (λ (b : ℕ). b == 10) bytes (λ k d small. fails_before_first (λ (b : ℕ). b == 10) bytes k d (omega (arith, small, over))))
    ]
