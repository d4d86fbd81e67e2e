-- The lines of bytes that begin with a line and its line feed.
use Rattle.std.proofs.Common.{◌≡◌, ℕ, ◌-◌, ◌<◌, ◌≤◌, Bool, true, false, ◌&&◌, ◌||◌, ◌==◌, nat_lt, List, [], ◌∷◌, ◌++◌, length, get_or, map, take, zero, suc, refl, sym, ◌∙◌, ap, subst, arith, if◌then◌else◌, inl, inr, ltb-true}
use Rattle.std.specs.List.{All, list_any, onto_first, slice_split}
use Rattle.std.specs.Str.Lines.{strip_carriage_return}
use Rattle.std.proofs.lemmas.Bool.{and_from, and_parts, cases_Bool, ne_eqb, or_from}
use Rattle.std.proofs.lemmas.List.Elements.{All-cons, All-nil}
use Rattle.std.proofs.lemmas.List.Splits.{slice_split_at, slice_split-cons_yes, slice_split-cons_no}
use Rattle.line_reader.specs.Lines.{is_line_feed, lines, without_empty_last}

-- each byte is greater than this one
abbrev pub all_above : ℕ → List ℕ → Bool
all_above low [] = true
all_above low (b ∷ bytes) = nat_lt low b && all_above low bytes

-- greater ones, and then greater ones
pub above_append : (low : ℕ) (xs ys : List ℕ) → all_above low xs ≡ true → all_above low ys ≡ true → all_above low (xs ++ ys) ≡ true
above_append low [] ys e f = f
above_append low (x ∷ xs) ys e f =
    let both = and_parts (nat_lt low x) (all_above low xs) e in
    and_from (nat_lt low x) (all_above low (xs ++ ys)) both.0 (above_append low xs ys both.1 f)

-- a greater byte is another one
above_other : (low byte x : ℕ) → byte ≤ low → nat_lt low x ≡ true → (x == byte) ≡ false
above_other low byte x small e = let more : low < x = ltb-true low x e in ne_eqb x byte (λ same. omega arith)

-- a byte that is not greater is none of them
pub each_other : (low byte : ℕ) (xs : List ℕ) → byte ≤ low → all_above low xs ≡ true → All (λ b. (b == byte) ≡ false) xs
each_other low byte [] small e = All-nil (λ b. (b == byte) ≡ false)
each_other low byte (x ∷ xs) small e =
    let both = and_parts (nat_lt low x) (all_above low xs) e in
    All-cons (λ b. (b == byte) ≡ false) x xs (above_other low byte x small both.0) (each_other low byte xs small both.1)

-- nor is one of two such bytes
pub neither_among : (low one two : ℕ) (xs : List ℕ) → one ≤ low → two ≤ low → all_above low xs ≡ true → list_any (λ b. (b == one) || (b == two)) xs ≡ false
neither_among low one two [] small small' e = refl
neither_among low one two (x ∷ xs) small small' e =
    let both = and_parts (nat_lt low x) (all_above low xs) e in
    or_from ((x == one) || (x == two)) (list_any (λ b. (b == one) || (b == two)) xs)
    (or_from (x == one) (x == two) (above_other low one x small both.0) (above_other low two x small' both.0))
    (neither_among low one two xs small small' both.1)

-- a byte that is not greater does not pass as one of them
pub not_among : (low byte : ℕ) (xs : List ℕ) → byte ≤ low → all_above low xs ≡ true → list_any (λ b. b == byte) xs ≡ false
not_among low byte [] small e = refl
not_among low byte (x ∷ xs) small e =
    let both = and_parts (nat_lt low x) (all_above low xs) e in
    or_from (x == byte) (list_any (λ b. b == byte) xs) (above_other low byte x small both.0) (not_among low byte xs small both.1)

-- the byte at a place is no carriage return
no_return : (xs : List ℕ) (at : ℕ) → all_above 43 xs ≡ true → (get_or xs at 0 == 13) ≡ false
no_return [] at e = refl
no_return (x ∷ xs) zero e = above_other 43 13 x (omega arith) (and_parts (nat_lt 43 x) (all_above 43 xs) e).0
no_return (x ∷ xs) (suc at) e = no_return xs at (and_parts (nat_lt 43 x) (all_above 43 xs) e).1

-- so none is dropped at the end of a line
kept_whole : (line : List ℕ) → all_above 43 line ≡ true → strip_carriage_return line ≡ line
kept_whole line e = ap (λ (test : Bool). if test then take (length line - 1) line else line) (no_return line (length line - 1) e)

-- there is at least one part
abbrev HasParts : List (List ℕ) → Type 0
HasParts [] = ⊥
HasParts (part ∷ parts) = Unit {0}

-- there is one once a byte was put to the first
onto_first_has : (b : ℕ) (parts : List (List ℕ)) → HasParts (onto_first b parts)
onto_first_has b [] = tt
onto_first_has b (part ∷ parts) = tt

-- there is one wherever bytes are cut
split_has : (bytes : List ℕ) → HasParts (slice_split is_line_feed bytes)
split_has [] = tt
split_has (b ∷ bytes) =
    elim (cases_Bool (is_line_feed b)) [
      | inl e ↦ subst HasParts (sym (slice_split-cons_yes is_line_feed b bytes e)) tt
      | inr e ↦ subst HasParts (sym (slice_split-cons_no is_line_feed b bytes e)) (onto_first_has b (slice_split is_line_feed bytes))
    ]

-- a part that is not the last stays, whether it has bytes or not
first_stays : (part : List ℕ) (parts : List (List ℕ)) → HasParts parts → without_empty_last (part ∷ parts) ≡ part ∷ without_empty_last parts
first_stays part [] has = absurd has
first_stays [] (next ∷ parts) has = refl
first_stays (b ∷ bytes) (next ∷ parts) has = refl

-- The first line of bytes that begin with a line, of commas and greater bytes alone, and its line feed.
pub first_line : (line rest : List ℕ) → all_above 43 line ≡ true → lines (line ++ 10 ∷ rest) ≡ line ∷ lines rest
first_line line rest e =
    ap (λ (parts : List (List ℕ)). map strip_carriage_return (without_empty_last parts)) (slice_split_at is_line_feed line 10 rest (each_other 43 10 line (omega arith) e) refl)
    ∙ ap (map strip_carriage_return) (first_stays line (slice_split is_line_feed rest) (split_has rest))
    ∙ ap (λ (first : List ℕ). first ∷ lines rest) (kept_whole line e)
