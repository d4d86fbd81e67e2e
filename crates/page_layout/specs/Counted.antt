-- Pages of a kind with a level, a count, a word, a double word and as many entries.
use Rattle.std.specs.Prelude.{◌≡◌, ◌≢◌, ◌==◌, false, ℕ, ◌-◌, ◌^◌, ◌<◌, ◌≤◌, min, List, ◌∷◌, ◌++◌, length, drop}
use Rattle.std.specs.List.{flat_map, All}
use Rattle.std.proofs.Common.{sym, ap, ◌∙◌, append_assoc, arith}
use Rattle.std.proofs.lemmas.Bool.{false≢true}
use Rattle.ports.specs.declared.page.TheConstants.{FREE_PAGE}
use Rattle.page_layout.specs.Numbers.{spelled, number_in, zeros, padded, number_in-spelled, past-spelled, past_more}
use Rattle.page_layout.specs.Entries.{entries_at, entries_at-spelled}

-- the common front of 16 bytes
abbrev pub front : ℕ → ℕ → ℕ → ℕ → ℕ → List ℕ
front kind level count word double = kind ∷ level ∷ (spelled 2 count ++ (spelled 4 word ++ spelled 8 double))

-- the page with this front and these entries
abbrev pub counted_page : {X : Type 0} → (X → List ℕ) → ℕ → ℕ → ℕ → ℕ → List X → List ℕ
counted_page spelling kind level word double entries = padded (front kind level (length entries) word double ++ flat_map spelling entries)

-- what follows the front
abbrev pub body_of : List ℕ → List ℕ
body_of page = drop 16 page

-- the word in bytes 4 to 7
abbrev pub word_of : List ℕ → ℕ
word_of page = number_in 4 (drop 4 page)

-- the double word in bytes 8 to 15
abbrev pub double_of : List ℕ → ℕ
double_of page = number_in 8 (drop 8 page)

-- the entries of a page, at most this many
abbrev pub entries_of : {X : Type 0} → (List ℕ → X) → ℕ → ℕ → List ℕ → List X
entries_of f size most page = entries_at f size (min (number_in 2 (drop 2 page)) most) (body_of page)

-- a page as its front and the rest, nested to the right
pub regroup : (kind level count word double : ℕ) (entries pad : List ℕ)
    → (front kind level count word double ++ entries) ++ pad ≡ kind ∷ level ∷ (spelled 2 count ++ (spelled 4 word ++ (spelled 8 double ++ (entries ++ pad))))
regroup kind level count word double entries pad = simp append_assoc

pub word-counted : (kind level count word double : ℕ) (entries pad : List ℕ) → word < 2 ^ 32
    → word_of ((front kind level count word double ++ entries) ++ pad) ≡ word
word-counted kind level count word double entries pad h =
    let rest : List ℕ = spelled 8 double ++ (entries ++ pad) in
    let fits : word < 256 ^ 4 = h in
    let at : drop 4 ((front kind level count word double ++ entries) ++ pad) ≡ spelled 4 word ++ rest =
    ap (λ (bytes : List ℕ). drop 4 bytes) (regroup kind level count word double entries pad)
    ∙ past-spelled 2 count (spelled 4 word ++ rest) in
    ap (λ (bytes : List ℕ). number_in 4 bytes) at ∙ number_in-spelled 4 word rest fits

pub double-counted : (kind level count word double : ℕ) (entries pad : List ℕ) → double < 2 ^ 64
    → double_of ((front kind level count word double ++ entries) ++ pad) ≡ double
double-counted kind level count word double entries pad h =
    let rest : List ℕ = entries ++ pad in
    let fits : double < 256 ^ 8 = h in
    let at : drop 8 ((front kind level count word double ++ entries) ++ pad) ≡ spelled 8 double ++ rest =
    ap (λ (bytes : List ℕ). drop 8 bytes) (regroup kind level count word double entries pad)
    ∙ past_more 2 4 count (spelled 4 word ++ (spelled 8 double ++ rest))
    ∙ past-spelled 4 word (spelled 8 double ++ rest) in
    ap (λ (bytes : List ℕ). number_in 8 bytes) at ∙ number_in-spelled 8 double rest fits

pub body-counted : (kind level count word double : ℕ) (entries pad : List ℕ)
    → body_of ((front kind level count word double ++ entries) ++ pad) ≡ entries ++ pad
body-counted kind level count word double entries pad =
    let rest : List ℕ = entries ++ pad in
    ap (λ (bytes : List ℕ). drop 16 bytes) (regroup kind level count word double entries pad)
    ∙ past_more 2 12 count (spelled 4 word ++ (spelled 8 double ++ rest))
    ∙ past_more 4 8 word (spelled 8 double ++ rest)
    ∙ past-spelled 8 double rest

pub count-counted : (kind level count word double : ℕ) (entries pad : List ℕ) → count < 2 ^ 16
    → number_in 2 (drop 2 ((front kind level count word double ++ entries) ++ pad)) ≡ count
count-counted kind level count word double entries pad h =
    let fits : count < 256 ^ 2 = h in
    let rest : List ℕ = spelled 4 word ++ (spelled 8 double ++ (entries ++ pad)) in
    ap (λ (bytes : List ℕ). number_in 2 (drop 2 bytes)) (regroup kind level count word double entries pad)
    ∙ number_in-spelled 2 count rest fits

pub entries-counted : {X : Type 0} (spelling : X → List ℕ) (f : List ℕ → X) (size : ℕ) (typed : X → Type 0)
    → ((x : X) → typed x → length (spelling x) ≡ size) → ((x : X) (rest : List ℕ) → typed x → f (spelling x ++ rest) ≡ x)
    → (kind level word double most : ℕ) (xs : List X) → length xs ≤ most → most < 2 ^ 16 → All typed xs
    → entries_of f size most (counted_page spelling kind level word double xs) ≡ xs
entries-counted spelling f size typed sized back kind level word double most xs few most_fits all =
    let pad = zeros (4096 - length (front kind level (length xs) word double ++ flat_map spelling xs)) in
    let count : number_in 2 (drop 2 (counted_page spelling kind level word double xs)) ≡ length xs = count-counted kind level (length xs) word double (flat_map spelling xs) pad (omega arith) in
    let body : body_of (counted_page spelling kind level word double xs) ≡ flat_map spelling xs ++ pad = body-counted kind level (length xs) word double (flat_map spelling xs) pad in
    let least : min (length xs) most ≡ length xs = omega arith in
    ap (λ (n : ℕ). entries_at f size (min n most) (body_of (counted_page spelling kind level word double xs))) count
    ∙ ap (λ (n : ℕ). entries_at f size n (body_of (counted_page spelling kind level word double xs))) least
    ∙ ap (λ (b : List ℕ). entries_at f size (length xs) b) body
    ∙ entries_at-spelled spelling f size typed sized back xs pad all

-- A page of another kind does not begin as a free page does.
pub not_free : (kind : ℕ) → (kind == FREE_PAGE) ≡ false → kind ≢ FREE_PAGE
not_free kind differs = λ e. false≢true (sym differs ∙ ap (λ (k : ℕ). k == FREE_PAGE) e)
