-- What a part is that has a content.
use Rattle.std.proofs.Common.{◌≡◌, ℕ, ◌-◌, ◌+◌, Bool, true, false, not, ◌&&◌, cond, eqb, List, [], ◌∷◌, ◌++◌, length, get_or, take, Option, Some, None, option_map, option_and_then, suc, sym, refl, ap, ◌∙◌, arith, eqb-true, leb-true, take_all}
use Rattle.std.proofs.lemmas.Bool.{or_parts, and_parts, and_left, and_right, not-true}
use Rattle.std.proofs.lemmas.List.{take_more}
use Rattle.std.proofs.lemmas.Option.{cond_some}
use Rattle.csv_rows.specs.Fields.{content_of, contents_of, holds_quote, inner_of, is_in_quotes}

-- the last of some bytes, apart from those before it
last-apart : (bs : List ℕ) (n : ℕ) → length bs ≡ n + 1 → bs ≡ take n bs ++ get_or bs n 0 ∷ []
last-apart bs n e = sym (take_all (n + 1) bs (omega arith)) ∙ take_more bs n 0 (omega arith)

-- the same, where it is a double quote at its place after a first byte
ends-quoted : (bs inner : List ℕ) (n last : ℕ) → length bs ≡ n + 1 → last ≡ suc n → take n bs ≡ inner → get_or (34 ∷ bs) last 0 ≡ 34 → bs ≡ inner ++ 34 ∷ []
ends-quoted bs inner n last e at front quote =
    let here : get_or bs n 0 ≡ 34 = rw at at quote in
    rw (here, front) at (last-apart bs n e)

-- a part that begins with a double quote and has a content ends with another one
pub quoted-shape : (rest content : List ℕ) → content_of (34 ∷ rest) ≡ Some content → (rest ≡ content ++ 34 ∷ []) × (holds_quote content ≡ false)
quoted-shape rest content h =
    let part = 34 ∷ rest in
    let found = cond_some (is_in_quotes part && not (holds_quote (inner_of part))) (inner_of part) content h in
    let tests = and_parts (is_in_quotes part) (not (holds_quote (inner_of part))) found.0 in
    let ends = and_parts _ _ tests.0 in
    let front = and_parts _ _ ends.0 in
    let two = leb-true 2 (length part) front.0 in
    let inside : length rest - 1 ≡ length part - 1 - 1 = omega arith in (
      ends-quoted rest content (length rest - 1) (length part - 1) (omega arith) (omega arith) (ap (λ n. take n rest) inside ∙ found.1) (eqb-true _ _ ends.1),
      rw found.1 at (not-true _ tests.1),
    )

-- the content of a part that begins with another byte
plain-content : (quoted : Bool) (part content : List ℕ) (test : Bool) → test ≡ false → cond (not quoted) (Some part) (cond test (Some (inner_of part)) None) ≡ Some content → (quoted ≡ false) × (content ≡ part)
plain-content true part content test e h =
    let none = rw e at h in
    cc
plain-content false part content test e h = (refl, cc)

-- a part that begins with another byte and has a content holds none
pub plain-shape : (b : ℕ) (rest content : List ℕ) → eqb b 34 ≡ false → content_of (b ∷ rest) ≡ Some content → (holds_quote rest ≡ false) × (content ≡ b ∷ rest)
plain-shape b rest content e h =
    let part = b ∷ rest in
    let test = is_in_quotes part && not (holds_quote (inner_of part)) in
    let unquoted : test ≡ false = and_left _ _ (and_left _ _ (and_right _ _ e)) in
    let found = plain-content (holds_quote part) part content test unquoted h in
    ((or_parts (eqb b 34) (holds_quote rest) found.0).1, found.1)

-- two options joined, where there is something
first-of : (one : Option (List ℕ)) (rest : Option (List (List ℕ))) (contents : List (List ℕ)) → option_and_then (λ content. option_map (λ contents. content ∷ contents) rest) one ≡ Some contents
    → (content : List ℕ) × (others : List (List ℕ)) × (one ≡ Some content) × (rest ≡ Some others) × (contents ≡ content ∷ others)
first-of None rest contents h = cc
first-of (Some content) None contents h = cc
first-of (Some content) (Some others) contents h = (content, others, refl, refl, cc)

-- the contents of parts, the first apart
pub first-content : (part : List ℕ) (parts contents : List (List ℕ)) → contents_of (part ∷ parts) ≡ Some contents
    → (content : List ℕ) × (others : List (List ℕ)) × (content_of part ≡ Some content) × (contents_of parts ≡ Some others) × (contents ≡ content ∷ others)
first-content part parts contents h =
    first-of (content_of part) (contents_of parts) contents h
