-- What is read of the lines that replies print.
use Rattle.std.proofs.Common.{◌≡◌, ℕ, zero, suc, ◌+◌, ◌/◌, ◌%◌, ◌^◌, ◌<◌, ◌≤◌, Bool, true, false, ◌||◌, ◌==◌, nat_lt, cond, not, List, [], ◌∷◌, ◌++◌, length, drop, map, Option, Some, None, IfSome, ℤ, pos, negsuc, ◌+ℤ◌, neg_ℤ, nat_abs, refl, sym, ◌∙◌, ap, subst, arith, if◌then◌else◌, codes, append_assoc, length-append, decimal, ne_eqb}
use Rattle.std.specs.Fmt.{digit_glyph, digits, digits_onto, signed_decimal}
use Rattle.std.specs.List.{All, position_or_len}
use Rattle.std.specs.Option.{option_map_or}
use Rattle.std.specs.Str.{all_ascii_digits}
use Rattle.std.specs.Str.Parse.{AllDigits, digits_value}
use Rattle.std.proofs.Math.Seq.{drop-append-add}
use Rattle.std.proofs.lemmas.Bool.Decides.{nat_tests}
use Rattle.std.proofs.lemmas.Fmt.{decimal_is_IsNumeral_wide}
use Rattle.std.proofs.lemmas.Int.{ints}
use Rattle.std.proofs.lemmas.List.Elements.{All-cons, All-nil}
use Rattle.std.proofs.lemmas.List.Splits.{slice_split_at}
use Rattle.std.proofs.lemmas.Str.Parse.{digit_from_value, numerals_by_value, tells_all_ascii_digits}
use Rattle.bw_types.specs.declared.query.Kind.{Kind}
use Rattle.bw_types.specs.declared.query.Kind.TheVariants as kind
use Rattle.bw_types.specs.declared.refusal.Reason.{Reason}
use Rattle.bw_types.specs.declared.refusal.Reason.TheVariants.{Used, Unknown, Fresh, Gone, Mass, Events}
use Rattle.csv_rows.specs.Machine.{replied}
use Rattle.csv_rows.specs.Replies.{reply_text}
use Rattle.csv_rows.specs.Words.{kind_word, reason_word}
use Rattle.csv_rows.specs.declared.reply.Reply.{Reply}
use Rattle.csv_rows.specs.declared.reply.Reply.TheVariants.{Version, Refused, Dropped, Answer, Bad, Full, NoVersion}
use Rattle.sample_rows.specs.Summary.{answer_in, answers_in, number_in, total_of, value_after_comma, value_in}
use Rattle.sample_rows.proofs.States.{AnswersWithin}

-- the byte stands among these
abbrev pub has : ℕ → List ℕ → Bool
has byte [] = false
has byte (b ∷ bytes) = (b == byte) || has byte bytes

neither : (a b : Bool) → a ≡ false → b ≡ false → (a || b) ≡ false
neither false b e f = f
neither true b e f = cc

pub left_not : (a b : Bool) → (a || b) ≡ false → a ≡ false
left_not false b e = refl
left_not true b e = e

pub right_not : (a b : Bool) → (a || b) ≡ false → b ≡ false
right_not false b e = e
right_not true b e = cc

pub has-append : (byte : ℕ) (xs ys : List ℕ) → has byte xs ≡ false → has byte ys ≡ false → has byte (xs ++ ys) ≡ false
has-append byte [] ys e f = f
has-append byte (x ∷ xs) ys e f = neither (x == byte) (has byte (xs ++ ys)) (left_not (x == byte) (has byte xs) e) (has-append byte xs ys (right_not (x == byte) (has byte xs) e) f)

pub each_other : (byte : ℕ) (xs : List ℕ) → has byte xs ≡ false → All (λ b. (b == byte) ≡ false) xs
each_other byte [] e = All-nil (λ b. (b == byte) ≡ false)
each_other byte (x ∷ xs) e = All-cons (λ b. (b == byte) ≡ false) x xs (left_not (x == byte) (has byte xs) e) (each_other byte xs (right_not (x == byte) (has byte xs) e))

-- A number is printed in digits.
glyph_other : (byte d : ℕ) → byte < 48 → (digit_glyph false d == byte) ≡ false
glyph_other byte d low = ne_eqb (digit_glyph false d) byte (λ e. over (nat_lt d 10) e)
  where
    over : (test : Bool) → (if test then 48 + d else 87 + d) ≡ byte → ⊥
    over true e = omega arith
    over false e = omega arith

onto_other : (byte k n : ℕ) (acc : List ℕ) → byte < 48 → has byte acc ≡ false → has byte (digits_onto k 10 false n acc) ≡ false
onto_other byte zero n acc low e = e
onto_other byte (suc k) n acc low e =
    let here : has byte (digit_glyph false (n % 10) ∷ acc) ≡ false = neither (digit_glyph false (n % 10) == byte) (has byte acc) (glyph_other byte (n % 10) low) e in
    elim (n / 10 == 0) as (λ test. has byte (if test then digit_glyph false (n % 10) ∷ acc else digits_onto k 10 false (n / 10) (digit_glyph false (n % 10) ∷ acc)) ≡ false) [
      | true ↦ here
      | false ↦ onto_other byte k (n / 10) (digit_glyph false (n % 10) ∷ acc) low here
    ]

pub decimal_other : (byte n : ℕ) → byte < 48 → has byte (decimal n) ≡ false
unfolding digits
decimal_other byte n low = onto_other byte 64 n [] low refl

pub signed_other : (z : ℤ) → has 10 (signed_decimal z) ≡ false
signed_other (pos n) = decimal_other 10 n (omega arith)
signed_other (negsuc n) = decimal_other 10 (suc n) (omega arith)

-- The number that is printed is read.
number_of_digits : (ds : List ℕ) → AllDigits 10 ds → number_in ds ≡ digits_value 10 ds
number_of_digits ds d = ap (λ (test : Bool). if test then digits_value 10 ds else 0) ((numerals_by_value (λ (bytes : List ℕ). all_ascii_digits bytes ≡ true) tells_all_ascii_digits).from ds d)

value_of_digits : (ds : List ℕ) → AllDigits 10 ds → value_in ds ≡ pos (digits_value 10 ds)
value_of_digits [] d = refl
value_of_digits (c ∷ cs) d =
    let range = digit_from_value c d.0 in
    let other : (c == 45) ≡ false = ne_eqb c 45 (λ e. omega arith) in
    ap (λ (test : Bool). if test then neg_ℤ (pos (number_in cs)) else pos (number_in (c ∷ cs))) other ∙ ap pos (number_of_digits (c ∷ cs) d)

pub value_printed : (z : ℤ) → nat_abs z < 10 ^ 64 → value_in (signed_decimal z) ≡ z
value_printed (pos n) small = let numeral = decimal_is_IsNumeral_wide n small in value_of_digits (decimal n) numeral.0.1 ∙ ap pos numeral.1
value_printed (negsuc n) small =
    let numeral = decimal_is_IsNumeral_wide (suc n) small in
    ap (λ (m : ℕ). neg_ℤ (pos m)) (number_of_digits (decimal (suc n)) numeral.0.1 ∙ numeral.1)

-- What stands after the first comma.
place_of_first : (xs ys : List ℕ) → has 44 xs ≡ false → position_or_len (λ b. b == 44) (xs ++ 44 ∷ ys) ≡ length xs
place_of_first [] ys e = refl
place_of_first (x ∷ xs) ys e =
    let first : position_or_len (λ b. b == 44) ((x ∷ xs) ++ 44 ∷ ys) ≡ 1 + position_or_len (λ b. b == 44) (xs ++ 44 ∷ ys) =
    ap (λ (test : Bool). cond (not test) (1 + position_or_len (λ b. b == 44) (xs ++ 44 ∷ ys)) 0) (left_not (x == 44) (has 44 xs) e) in
    let rest = place_of_first xs ys (right_not (x == 44) (has 44 xs) e) in
    omega (arith, first, rest)

after_first : (xs ys : List ℕ) → has 44 xs ≡ false → value_after_comma (xs ++ 44 ∷ ys) ≡ value_in ys
after_first xs ys e =
    let place : position_or_len (λ b. b == 44) (xs ++ 44 ∷ ys) ≡ length xs = place_of_first xs ys e in
    let inside : nat_lt (position_or_len (λ b. b == 44) (xs ++ 44 ∷ ys)) (length (xs ++ 44 ∷ ys)) ≡ true =
    (let long = length-append xs (44 ∷ ys) in grind (arith, nat_tests)) in
    ap (λ (test : Bool). option_map_or (λ at. value_in (drop (at + 1) (xs ++ 44 ∷ ys))) (cond test (Some (position_or_len (λ b. b == 44) (xs ++ 44 ∷ ys))) None) (pos 0)) inside
    ∙ ap (λ (at : ℕ). value_in (drop (at + 1) (xs ++ 44 ∷ ys))) place
    ∙ ap value_in (drop-append-add xs (44 ∷ ys) 1)

-- the line of a reply, without its line feed
abbrev pub reply_line : Reply → List ℕ
reply_line (Version version) = codes "version," ++ decimal version
reply_line (Refused refusal) = codes "refused," ++ decimal refusal.place ++ codes "," ++ reason_word refusal.reason
reply_line (Dropped session) = codes "dropped," ++ decimal session
reply_line (Answer k version value) = kind_word k ++ codes "," ++ decimal version ++ codes "," ++ signed_decimal value
reply_line (Bad line) = codes "bad," ++ decimal line
reply_line (Full line) = codes "full," ++ decimal line
reply_line (NoVersion line) = codes "noversion," ++ decimal line

line_of_text : (r : Reply) (rest : List ℕ) → reply_text r ++ rest ≡ reply_line r ++ 10 ∷ rest
line_of_text (Version version) rest = append_assoc (reply_line (Version version)) (codes "\n") rest
line_of_text (Refused refusal) rest = append_assoc (reply_line (Refused refusal)) (codes "\n") rest
line_of_text (Dropped session) rest = append_assoc (reply_line (Dropped session)) (codes "\n") rest
line_of_text (Answer k version value) rest = append_assoc (reply_line (Answer k version value)) (codes "\n") rest
line_of_text (Bad line) rest = append_assoc (reply_line (Bad line)) (codes "\n") rest
line_of_text (Full line) rest = append_assoc (reply_line (Full line)) (codes "\n") rest
line_of_text (NoVersion line) rest = append_assoc (reply_line (NoVersion line)) (codes "\n") rest

reason_other : (r : Reason) → has 10 (reason_word r) ≡ false
reason_other Used = refl
reason_other Unknown = refl
reason_other Fresh = refl
reason_other Gone = refl
reason_other Mass = refl
reason_other Events = refl

kind_other : (k : Kind) → has 10 (kind_word k) ≡ false
kind_other kind.Sum = refl
kind_other kind.Count = refl
kind_other kind.Integral = refl

pub number_other : (a : List ℕ) (n : ℕ) → has 10 a ≡ false → has 10 (a ++ decimal n) ≡ false
number_other a n e = has-append 10 a (decimal n) e (decimal_other 10 n (omega arith))

line_other : (r : Reply) → has 10 (reply_line r) ≡ false
line_other (Version version) = number_other (codes "version,") version refl
line_other (Refused refusal) =
    has-append 10 (codes "refused," ++ decimal refusal.place ++ codes ",") (reason_word refusal.reason)
    (has-append 10 (codes "refused," ++ decimal refusal.place) (codes ",") (number_other (codes "refused,") refusal.place refl) refl) (reason_other refusal.reason)
line_other (Dropped session) = number_other (codes "dropped,") session refl
line_other (Answer k version value) =
    has-append 10 (kind_word k ++ codes "," ++ decimal version ++ codes ",") (signed_decimal value)
    (has-append 10 (kind_word k ++ codes "," ++ decimal version) (codes ",")
    (number_other (kind_word k ++ codes ",") version (has-append 10 (kind_word k) (codes ",") (kind_other k) refl)) refl) (signed_other value)
line_other (Bad line) = number_other (codes "bad,") line refl
line_other (Full line) = number_other (codes "full,") line refl
line_other (NoVersion line) = number_other (codes "noversion,") line refl

-- the answer of a line is within what its reply answers
answer_of_line : (most : ℕ) (r : Reply) → most < 10 ^ 64 → AnswersWithin most r → nat_abs (answer_in (reply_line r)) ≤ most
answer_of_line most (Version version) small within = omega arith
answer_of_line most (Refused refusal) small within = omega arith
answer_of_line most (Dropped session) small within = omega arith
answer_of_line most (Answer kind.Sum version value) small within =
    let read : answer_in (reply_line (Answer kind.Sum version value)) ≡ value =
    ap value_after_comma (append_assoc (decimal version) (codes ",") (signed_decimal value))
    ∙ after_first (decimal version) (signed_decimal value) (decimal_other 44 version (omega arith)) ∙ value_printed value (omega arith) in
    subst (λ (z : ℤ). nat_abs z ≤ most) (sym read) within
answer_of_line most (Answer kind.Count version value) small within = omega arith
answer_of_line most (Answer kind.Integral version value) small within = omega arith
answer_of_line most (Bad line) small within = omega arith
answer_of_line most (Full line) small within = omega arith
answer_of_line most (NoVersion line) small within = omega arith

add_sizes : (a b : ℤ) → nat_abs (a +ℤ b) ≤ nat_abs a + nat_abs b
add_sizes a b = omega (arith, ints)

-- a reply more
pub reply_more : (most : ℕ) (o : Option Reply) (rest : List ℕ) → most < 10 ^ 64 → IfSome o (AnswersWithin most) → nat_abs (answers_in (replied o ++ rest)) ≤ most + nat_abs (answers_in rest)
reply_more most None rest small within = omega arith
reply_more most (Some r) rest small within =
    let cut : answers_in (reply_text r ++ rest) ≡ answer_in (reply_line r) +ℤ answers_in rest =
    ap answers_in (line_of_text r rest)
    ∙ ap (λ (parts : List (List ℕ)). total_of (map answer_in parts)) (slice_split_at (λ (b : ℕ). b == 10) (reply_line r) 10 rest (each_other 10 (reply_line r) (line_other r)) refl) in
    let first : nat_abs (answer_in (reply_line r)) ≤ most = answer_of_line most r small within in
    let both = add_sizes (answer_in (reply_line r)) (answers_in rest) in
    subst (λ (z : ℤ). nat_abs z ≤ most + nat_abs (answers_in rest)) (sym cut) (omega (arith, both, first))
