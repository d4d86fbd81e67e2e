-- Bytes that are spelled again by what they spell.
use Rattle.std.specs.Prelude.{◌≡◌, ℕ, zero, suc, ◌+◌, ◌-◌, ◌*◌, ◌^◌, ◌/◌, ◌%◌, ◌<◌, ◌≤◌, min, List, [], ◌∷◌, ◌++◌, length, drop, slice_index, get_or, refl}
use Rattle.std.specs.Int.{byte_at, bytes_high_first}
use Rattle.std.specs.List.{flat_map, All}
use Rattle.std.proofs.Common.{ap, sym, ◌∙◌, append_assoc, length-append, length-drop, arith}
use Rattle.std.proofs.lemmas.List.{drop_at, drop-drop}
use Rattle.std.proofs.lemmas.Nat.{div-mul-add}
use Rattle.std.proofs.Math.Nat.{zero-mul, suc-mul, mul_assoc, mul-le-mul_right, div-one, mod-eq_of_lt, pow-succ', one-le-pow, mul-add-div_right, mul-add-mod_self_right}
use Rattle.byteorder.specs.Endian.{big_from}
use Rattle.byteorder.specs.Numbers.{big_from-cons, big_from-lt}
use Rattle.page_layout.specs.Numbers.{spelled, number_in, zeros, length-spelled, length-zeros}
use Rattle.page_layout.specs.Bytes.{AreBytes, bytes-drop}
use Rattle.page_layout.specs.Entries.{entries_at}
use Rattle.page_layout.specs.Counted.{front, counted_page, word_of, double_of, entries_of, regroup, word-counted, double-counted, count-counted}

-- Any bytes of this size at the front are the spelling of the value that is read of them.
abbrev pub Respells : {X : Type 0} → (X → List ℕ) → (List ℕ → X) → ℕ → Type 0
Respells spelling f size = (bytes : List ℕ) → AreBytes bytes → size ≤ length bytes → spelling (f bytes) ++ drop size bytes ≡ bytes

-- the number of entries that a page's front says
abbrev pub count_of : List ℕ → ℕ
count_of page = number_in 2 (drop 2 page)

-- What a page has around its entries: its kind, word and double word, no more entries than these, and zeros after them.
pub record IsFramed (size kind word double most : ℕ) (page : List ℕ) : Type 0 where
  pub is_kind : slice_index page 0 ≡ kind
  pub is_word : word_of page ≡ word
  pub is_double : double_of page ≡ double
  pub few : count_of page ≤ most
  pub tail : drop (16 + count_of page * size) page ≡ zeros (length (drop (16 + count_of page * size) page))

byte_at-pow : (k x : ℕ) → byte_at k x ≡ x / 256 ^ k % 256
byte_at-pow zero x = ap (λ (y : ℕ). y % 256) (sym (div-one x))
byte_at-pow (suc k) x = refl

above_zero : (n : ℕ) → zero < 256 ^ n
above_zero n = let h = one-le-pow n 256 (omega arith) in omega arith

-- the lowest m bytes do not know what stands above them
low_bytes : (m c r : ℕ) → bytes_high_first m (c * 256 ^ m + r) ≡ bytes_high_first m r
low_bytes zero c r = refl
low_bytes (suc m) c r =
    let shift : c * 256 ^ suc m + r ≡ (c * 256) * 256 ^ m + r = ap (λ (p : ℕ). c * p + r) (pow-succ' 256 m) ∙ ap (λ (p : ℕ). p + r) (sym (mul_assoc c 256 (256 ^ m))) in
    let top : byte_at m ((c * 256) * 256 ^ m + r) ≡ byte_at m r =
    byte_at-pow m ((c * 256) * 256 ^ m + r) ∙ ap (λ (q : ℕ). q % 256) (mul-add-div_right (above_zero m) (c * 256) r)
    ∙ mul-add-mod_self_right c 256 (r / 256 ^ m) ∙ sym (byte_at-pow m r) in
    let rest : bytes_high_first m ((c * 256) * 256 ^ m + r) ≡ bytes_high_first m r = low_bytes m (c * 256) r in
    ap (λ (x : ℕ). byte_at m x ∷ bytes_high_first m x) shift ∙ ap (λ (b : ℕ). b ∷ bytes_high_first m ((c * 256) * 256 ^ m + r)) top
    ∙ ap (λ (bs : List ℕ). byte_at m r ∷ bs) rest

-- a number's bytes are spelled again
pub respelled : (n : ℕ) (xs : List ℕ) → AreBytes xs → n ≤ length xs → spelled n (number_in n xs) ++ drop n xs ≡ xs
unfolding spelled number_in
respelled zero xs h room = refl
respelled (suc n) [] h room = absurd (omega arith)
respelled (suc n) (x ∷ xs) h room =
    let r : ℕ = big_from 0 n xs in
    let moved : big_from 1 n (x ∷ xs) ≡ r = big_from-cons 0 n x xs in
    let lt : r < 256 ^ n = big_from-lt 0 n xs (λ k. h (suc k)) in
    let top : byte_at n (x * 256 ^ n + r) ≡ x = byte_at-pow n (x * 256 ^ n + r) ∙ ap (λ (q : ℕ). q % 256) (div-mul-add x (256 ^ n) r lt) ∙ mod-eq_of_lt (h 0) in
    let rest : bytes_high_first n r ++ drop n xs ≡ xs = respelled n xs (λ k. h (suc k)) (omega arith) in
    ap (λ (y : ℕ). byte_at n (x * 256 ^ n + y) ∷ (bytes_high_first n (x * 256 ^ n + y) ++ drop n xs)) moved
    ∙ ap (λ (b : ℕ). b ∷ (bytes_high_first n (x * 256 ^ n + r) ++ drop n xs)) top
    ∙ ap (λ (bs : List ℕ). x ∷ (bs ++ drop n xs)) (low_bytes n x r)
    ∙ ap (λ (bs : List ℕ). x ∷ bs) rest

-- a number of n bytes
pub number_in-lt : (n : ℕ) (xs : List ℕ) → AreBytes xs → number_in n xs < 256 ^ n
unfolding number_in
number_in-lt n xs h = big_from-lt 0 n xs h

-- the same at a place
pub respelled_at : (k n : ℕ) (bytes : List ℕ) → AreBytes bytes → k + n ≤ length bytes → spelled n (number_in n (drop k bytes)) ++ drop (k + n) bytes ≡ drop k bytes
respelled_at k n bytes h room =
    let len = length-drop k bytes in
    ap (λ (b : List ℕ). spelled n (number_in n (drop k bytes)) ++ b) (sym (drop-drop n k bytes))
    ∙ respelled n (drop k bytes) (bytes-drop k bytes h) (omega (arith, len))

pub two_more : (a b : ℕ) (page : List ℕ) → slice_index page 0 ≡ a → slice_index page 1 ≡ b → 2 ≤ length page → a ∷ b ∷ drop 2 page ≡ page
two_more a b [] is_a is_b h = absurd (omega arith)
two_more a b (x ∷ []) is_a is_b h = absurd (omega arith)
two_more a b (x ∷ y ∷ zs) is_a is_b h = ap (λ (n : ℕ). n ∷ b ∷ zs) (sym is_a) ∙ ap (λ (n : ℕ). x ∷ n ∷ zs) (sym is_b)

module _ {X : Type 0} (spelling : X → List ℕ) (f : List ℕ → X) (size : ℕ) (law : Respells spelling f size) where
  pub length-entries_at : (n : ℕ) (bytes : List ℕ) → length (entries_at f size n bytes) ≡ n
  unfolding entries_at
  length-entries_at zero bytes = refl
  length-entries_at (suc n) bytes = ap suc (length-entries_at n (drop size bytes))

  -- the bytes of entries in a row are spelled again
  pub rows-respelled : (n : ℕ) (bytes : List ℕ) → AreBytes bytes → n * size ≤ length bytes
      → flat_map spelling (entries_at f size n bytes) ++ drop (n * size) bytes ≡ bytes
  unfolding entries_at
  rows-respelled zero bytes h room = ap (λ (k : ℕ). drop k bytes) (zero-mul size)
  rows-respelled (suc n) bytes h room =
      let product : suc n * size ≡ n * size + size = suc-mul n size in
      let len = length-drop size bytes in
      let others : List ℕ = flat_map spelling (entries_at f size n (drop size bytes)) in
      let places : suc n * size ≡ size + n * size = omega (arith, product) in
      let next : drop (suc n * size) bytes ≡ drop (n * size) (drop size bytes) = ap (λ (k : ℕ). drop k bytes) places ∙ sym (drop-drop (n * size) size bytes) in
      let rest : others ++ drop (n * size) (drop size bytes) ≡ drop size bytes = rows-respelled n (drop size bytes) (bytes-drop size bytes h) (omega (arith, len, product)) in
      append_assoc (spelling (f bytes)) others (drop (suc n * size) bytes)
      ∙ ap (λ (b : List ℕ). spelling (f bytes) ++ (others ++ b)) next
      ∙ ap (λ (b : List ℕ). spelling (f bytes) ++ b) rest
      ∙ law bytes h (omega (arith, product))

  pub length-rows : (n : ℕ) (bytes : List ℕ) → AreBytes bytes → n * size ≤ length bytes → length (flat_map spelling (entries_at f size n bytes)) ≡ n * size
  length-rows n bytes h room =
      let rows : List ℕ = flat_map spelling (entries_at f size n bytes) in
      let whole : length (rows ++ drop (n * size) bytes) ≡ length bytes = ap length (rows-respelled n bytes h room) in
      omega (arith, whole, length-append rows (drop (n * size) bytes), length-drop (n * size) bytes)

  module _ (kind level word double most : ℕ) (page : List ℕ) (bytes : AreBytes page) (whole : length page ≡ 4096) (room : 16 + most * size ≤ 4096) where
    fits : count_of page ≤ most → count_of page * size ≤ 4080
    fits few = let most_fits : count_of page * size ≤ most * size = mul-le-mul_right size few in omega arith

    body_fits : count_of page ≤ most → count_of page * size ≤ length (drop 16 page)
    body_fits few = omega (arith, fits few, length-drop 16 page, whole)

    all_entries : count_of page ≤ most → entries_of f size most page ≡ entries_at f size (count_of page) (drop 16 page)
    all_entries few = let least : min (count_of page) most ≡ count_of page = omega arith in ap (λ (n : ℕ). entries_at f size n (drop 16 page)) least

    -- the front and the entries of the page fill so many bytes
    length-spelled_part : count_of page ≤ most → length (front kind level (length (entries_of f size most page)) word double ++ flat_map spelling (entries_of f size most page)) ≡ 16 + count_of page * size
    length-spelled_part few =
        let es : List X = entries_at f size (count_of page) (drop 16 page) in
        let rows : length (flat_map spelling es) ≡ count_of page * size = length-rows (count_of page) (drop 16 page) (bytes-drop 16 page bytes) (body_fits few) in
        let start : length (front kind level (length es) word double) ≡ 16 = simp (length-append, length-spelled) in
        ap (λ (xs : List X). length (front kind level (length xs) word double ++ flat_map spelling xs)) (all_entries few)
        ∙ omega (arith, rows, start, length-append (front kind level (length es) word double) (flat_map spelling es))

    -- a page is spelled again, where its kind, word and double word are these, and zeros follow its entries
    pub counted-respelled : slice_index page 1 ≡ level → IsFramed size kind word double most page → page ≡ counted_page spelling kind level word double (entries_of f size most page)
    counted-respelled is_level frame =
        let es : List X = entries_at f size (count_of page) (drop 16 page) in
        let part : length (front kind level (length (entries_of f size most page)) word double ++ flat_map spelling (entries_of f size most page)) ≡ 16 + count_of page * size = length-spelled_part frame.few in
        let pad : zeros (4096 - length (front kind level (length (entries_of f size most page)) word double ++ flat_map spelling (entries_of f size most page))) ≡ drop (count_of page * size) (drop 16 page) =
        ap zeros (omega (arith, part, fits frame.few, length-drop (16 + count_of page * size) page, whole)) ∙ sym frame.tail ∙ sym (drop-drop (count_of page * size) 16 page) in
        let rows : flat_map spelling es ++ drop (count_of page * size) (drop 16 page) ≡ drop 16 page = rows-respelled (count_of page) (drop 16 page) (bytes-drop 16 page bytes) (body_fits frame.few) in
        let after8 : spelled 8 double ++ drop 16 page ≡ drop 8 page =
        ap (λ (n : ℕ). spelled 8 n ++ drop 16 page) (sym frame.is_double) ∙ respelled_at 8 8 page bytes (omega (arith, whole)) in
        let after4 : spelled 4 word ++ drop 8 page ≡ drop 4 page =
        ap (λ (n : ℕ). spelled 4 n ++ drop 8 page) (sym frame.is_word) ∙ respelled_at 4 4 page bytes (omega (arith, whole)) in
        let after2 : spelled 2 (count_of page) ++ drop 4 page ≡ drop 2 page = respelled_at 2 2 page bytes (omega (arith, whole)) in
        sym (ap (λ (b : List ℕ). (front kind level (length (entries_of f size most page)) word double ++ flat_map spelling (entries_of f size most page)) ++ b) pad
        ∙ ap (λ (xs : List X). (front kind level (length xs) word double ++ flat_map spelling xs) ++ drop (count_of page * size) (drop 16 page)) (all_entries frame.few)
        ∙ regroup kind level (length es) word double (flat_map spelling es) (drop (count_of page * size) (drop 16 page))
        ∙ ap (λ (n : ℕ). kind ∷ level ∷ (spelled 2 n ++ (spelled 4 word ++ (spelled 8 double ++ (flat_map spelling es ++ drop (count_of page * size) (drop 16 page)))))) (length-entries_at (count_of page) (drop 16 page))
        ∙ ap (λ (b : List ℕ). kind ∷ level ∷ (spelled 2 (count_of page) ++ (spelled 4 word ++ (spelled 8 double ++ b)))) rows
        ∙ ap (λ (b : List ℕ). kind ∷ level ∷ (spelled 2 (count_of page) ++ (spelled 4 word ++ b))) after8
        ∙ ap (λ (b : List ℕ). kind ∷ level ∷ (spelled 2 (count_of page) ++ b)) after4
        ∙ ap (λ (b : List ℕ). kind ∷ level ∷ b) after2
        ∙ two_more kind level page frame.is_kind is_level (omega (arith, whole)))

    pub counted-framed : most < 2 ^ 16 → word < 2 ^ 32 → double < 2 ^ 64 → page ≡ counted_page spelling kind level word double (entries_of f size most page) → IsFramed size kind word double most page
    counted-framed most_fits word_fits double_fits e =
        let es : List X = entries_of f size most page in
        let spelled_part : List ℕ = front kind level (length es) word double ++ flat_map spelling es in
        let rest : List ℕ = zeros (4096 - length spelled_part) in
        let len : length es ≡ min (count_of page) most = length-entries_at (min (count_of page) most) (drop 16 page) in
        let counts : count_of page ≡ length es = ap (λ (b : List ℕ). number_in 2 (drop 2 b)) e ∙ count-counted kind level (length es) word double (flat_map spelling es) rest (omega (arith, len)) in
        let is_few : count_of page ≤ most = omega (arith, len, counts) in
        let is_rest : drop (16 + count_of page * size) page ≡ rest = ap (λ (b : List ℕ). drop (16 + count_of page * size) b) e ∙ drop_at spelled_part rest (16 + count_of page * size) (length-spelled_part is_few) in
        record {
          is_kind = ap (λ (b : List ℕ). slice_index b 0) e;
          is_word = ap word_of e ∙ word-counted kind level (length es) word double (flat_map spelling es) rest word_fits;
          is_double = ap double_of e ∙ double-counted kind level (length es) word double (flat_map spelling es) rest double_fits;
          few = is_few;
          tail = is_rest ∙ ap zeros (sym (length-zeros (4096 - length spelled_part)) ∙ ap length (sym is_rest));
        }

-- the entry at a place
pub entry_at-place : {X : Type 0} (f : List ℕ → X) (size n : ℕ) (bytes : List ℕ) (i : ℕ) (d : X) → i < n → get_or (entries_at f size n bytes) i d ≡ f (drop (i * size) bytes)
unfolding entries_at
entry_at-place f size zero bytes i d h = absurd (omega arith)
entry_at-place f size (suc n) bytes zero d h = ap (λ (k : ℕ). f (drop k bytes)) (sym (zero-mul size))
entry_at-place f size (suc n) bytes (suc i) d h =
    let product : suc i * size ≡ i * size + size = suc-mul i size in
    let place : size + i * size ≡ suc i * size = omega (arith, product) in
    entry_at-place f size n (drop size bytes) i d (omega arith) ∙ ap f (drop-drop (i * size) size bytes ∙ ap (λ (k : ℕ). drop k bytes) place)

-- as many are read as were asked for
pub length-read : {X : Type 0} (f : List ℕ → X) (size n : ℕ) (bytes : List ℕ) → length (entries_at f size n bytes) ≡ n
unfolding entries_at
length-read f size zero bytes = refl
length-read f size (suc n) bytes = ap suc (length-read f size n (drop size bytes))

-- what is read at the place of an entry is that entry
pub row_place : {X : Type 0} (f : List ℕ → X) (size n : ℕ) (bytes : List ℕ) (xs : List X) → xs ≡ entries_at f size n bytes → (i : ℕ) → i < length xs
    → (x : X) → x ≡ f (drop (i * size) bytes) → (d : X) → x ≡ get_or xs i d
row_place {X = X} f size n bytes xs is_row i lt x is_x d =
    is_x ∙ sym (entry_at-place f size n bytes i d (omega (arith, lt, ap length is_row, length-read f size n bytes))) ∙ ap (λ (ys : List X). get_or ys i d) (sym is_row)

module _ {X : Type 0} (P : X → Type 0) where
  more : (x : X) (xs : List X) → P x → All P xs → (k : ℕ) (d : X) → k < length (x ∷ xs) → P (get_or (x ∷ xs) k d)
  more x xs one all zero d h = one
  more x xs one all (suc k) d h = all k d (omega arith)

  -- entries that are read of bytes have what each value that is read of bytes has
  pub each_of : (f : List ℕ → X) (size : ℕ) → ((bytes : List ℕ) → AreBytes bytes → P (f bytes)) → (n : ℕ) (bytes : List ℕ) → AreBytes bytes → All P (entries_at f size n bytes)
  unfolding entries_at
  each_of f size one zero bytes h = λ k d l. absurd (omega arith)
  each_of f size one (suc n) bytes h = more (f bytes) (entries_at f size n (drop size bytes)) (one bytes h) (each_of f size one n (drop size bytes) (bytes-drop size bytes h))
