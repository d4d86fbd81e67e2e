-- Numbers as bytes, the highest first, and fronts of pages filled up with zeros.
use Rattle.std.specs.Prelude.{◌≡◌, ℕ, ◌-◌, ◌+◌, ◌<◌, ◌^◌, List, ◌++◌, length, drop, replicate}
use Rattle.std.proofs.Common.{ap, sym, ◌∙◌}
use Rattle.std.proofs.lemmas.List.{drop_at, drop-drop, drop-replicate, length-replicate}
use Rattle.byteorder.specs.Endian.{big_bytes, big_number}
use Rattle.byteorder.specs.Numbers.{length-bytes_high_first, big_number-reads_back}

-- the number in n bytes, the highest first
unfoldable pub spelled : ℕ → ℕ → List ℕ
spelled n x = big_bytes n x

-- the number in the first n bytes, the highest first
unfoldable pub number_in : ℕ → List ℕ → ℕ
number_in n bytes = big_number n bytes

-- n zeros
unfoldable pub zeros : ℕ → List ℕ
zeros n = replicate n 0

-- the page that begins with these bytes, and has zeros after them
abbrev pub padded : List ℕ → List ℕ
padded front = front ++ zeros (4096 - length front)

pub length-spelled : (n x : ℕ) → length (spelled n x) ≡ n
unfolding spelled
length-spelled n x = length-bytes_high_first n x

pub number_in-spelled : (n x : ℕ) (rest : List ℕ) → x < 256 ^ n → number_in n (spelled n x ++ rest) ≡ x
unfolding spelled number_in
number_in-spelled n x rest h = big_number-reads_back n x rest h

pub past-spelled : (n x : ℕ) (rest : List ℕ) → drop n (spelled n x ++ rest) ≡ rest
past-spelled n x rest = drop_at (spelled n x) rest n (length-spelled n x)

-- past the first n bytes, and m more
pub past_more : (n m x : ℕ) (rest : List ℕ) → drop (n + m) (spelled n x ++ rest) ≡ drop m rest
past_more n m x rest = sym (drop-drop m n (spelled n x ++ rest)) ∙ ap (λ (bytes : List ℕ). drop m bytes) (past-spelled n x rest)

-- past a first part of n bytes, and m more
pub past_part : (part rest : List ℕ) (n m : ℕ) → length part ≡ n → drop (n + m) (part ++ rest) ≡ drop m rest
past_part part rest n m sized = sym (drop-drop m n (part ++ rest)) ∙ ap (λ (bytes : List ℕ). drop m bytes) (drop_at part rest n sized)

-- past the part that stands at place k
pub next_part : (whole part rest : List ℕ) (k n : ℕ) → drop k whole ≡ part ++ rest → length part ≡ n → drop (k + n) whole ≡ rest
next_part whole part rest k n at sized = sym (drop-drop n k whole) ∙ ap (λ (bytes : List ℕ). drop n bytes) at ∙ drop_at part rest n sized

-- past the number that stands at place k
pub next_number : (whole : List ℕ) (x : ℕ) (rest : List ℕ) (k n : ℕ) → drop k whole ≡ spelled n x ++ rest → drop (k + n) whole ≡ rest
next_number whole x rest k n at = next_part whole (spelled n x) rest k n at (length-spelled n x)

-- the number that stands at place k
pub number_at : (whole : List ℕ) (x : ℕ) (rest : List ℕ) (k n : ℕ) → drop k whole ≡ spelled n x ++ rest → x < 256 ^ n → number_in n (drop k whole) ≡ x
number_at whole x rest k n at fits = ap (λ (bytes : List ℕ). number_in n bytes) at ∙ number_in-spelled n x rest fits

pub length-zeros : (n : ℕ) → length (zeros n) ≡ n
unfolding zeros
length-zeros n = length-replicate n 0

pub drop-zeros : (m n : ℕ) → drop m (zeros n) ≡ zeros (n - m)
unfolding zeros
drop-zeros m n = drop-replicate m n 0
