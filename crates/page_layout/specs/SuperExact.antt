-- When a page is the spelling of the superblock that it may spell.
use Rattle.std.specs.Prelude.{◌≡◌, ℕ, ◌-◌, List, ◌∷◌, ◌++◌, length, take, drop, slice_index, Some, None, ◌==◌, refl}
use Rattle.std.proofs.Common.{sym, ap, ◌∙◌, inl, inr, length-append, length-drop, arith}
use Rattle.std.proofs.lemmas.Bool.{cases_eq, cond-true, cond-false, eq-eqb, ne_eqb}
use Rattle.std.proofs.lemmas.List.{drop_at, take-append-drop}
use Rattle.page_layout.specs.Numbers.{spelled, number_in, zeros, length-spelled, length-zeros}
use Rattle.page_layout.specs.Bytes.{AreBytes}
use Rattle.page_layout.specs.Respelled.{respelled_at}
use Rattle.page_layout.specs.Exact.{next_byte}
use Rattle.page_layout.specs.Super.{magic, format_of, degree_byte, degree_in, super_page, super_in}
use Rattle.page_layout.specs.SuperLaws.{regroup}

-- What the page has where it is exact: the text, the format of its origin, an unnamed byte that is 0, and zeros
-- after the fields.
pub record IsExactSuper (page : List ℕ) : Type 0 where
  pub text : take 8 page ≡ magic
  pub format : slice_index page 8 ≡ format_of (number_in 4 (drop 24 page))
  pub unnamed : slice_index page 11 ≡ 0
  pub tail : drop 28 page ≡ zeros (length (drop 28 page))

-- the byte of the degree that is read of a byte
degree-back : (byte : ℕ) → degree_byte (degree_in byte) ≡ byte
degree-back byte = elim (cases_eq byte 255) [
  | inl none ↦ ap degree_byte (cond-true (byte == 255) None (Some byte) (eq-eqb byte 255 none)) ∙ sym none
  | inr some ↦ ap degree_byte (cond-false (byte == 255) None (Some byte) (ne_eqb byte 255 some))
]

-- the bytes of the fields, with a format and a degree's byte
abbrev fields_of : List ℕ → ℕ → ℕ → List ℕ
fields_of page format degree =
    magic ++ (format ∷ slice_index page 9 ∷ degree ∷ 0 ∷ (spelled 4 (number_in 4 (drop 12 page)) ++ (spelled 8 (number_in 8 (drop 16 page)) ++ spelled 4 (number_in 4 (drop 24 page)))))

module _ (page : List ℕ) (bytes : AreBytes page) (whole : length page ≡ 4096) where
  -- the format and the degree's byte of the superblock that the page may spell
  abbrev its_format : ℕ
  its_format = format_of (number_in 4 (drop 24 page))

  abbrev its_degree : ℕ
  its_degree = degree_byte (degree_in (slice_index page 10))

  abbrev its_fields : List ℕ
  its_fields = fields_of page its_format its_degree

  length-fields : length its_fields ≡ 28
  length-fields = simp (length-append, length-spelled)

  -- the fields and the bytes after them, nested to the right
  nested : (pad : List ℕ) → its_fields ++ pad
      ≡ magic ++ (its_format ∷ slice_index page 9 ∷ its_degree ∷ 0 ∷ (spelled 4 (number_in 4 (drop 12 page)) ++ (spelled 8 (number_in 8 (drop 16 page)) ++ (spelled 4 (number_in 4 (drop 24 page)) ++ pad))))
  nested pad = regroup its_format (slice_index page 9) its_degree (number_in 4 (drop 12 page)) (number_in 8 (drop 16 page)) (number_in 4 (drop 24 page)) pad

  -- An exact page is the spelling of the superblock that it may spell.
  pub exact_there : IsExactSuper page → page ≡ super_page (super_in page)
  exact_there h =
      let dims : ℕ = slice_index page 9 in
      let events : List ℕ = spelled 4 (number_in 4 (drop 12 page)) in
      let pages : List ℕ = spelled 8 (number_in 8 (drop 16 page)) in
      let pad : zeros (4096 - length its_fields) ≡ drop 28 page =
      ap zeros (omega (arith, length-fields, length-drop 28 page, whole)) ∙ sym h.tail in
      let numbers : events ++ (pages ++ (spelled 4 (number_in 4 (drop 24 page)) ++ drop 28 page)) ≡ drop 12 page =
      ap (λ (b : List ℕ). events ++ (pages ++ b)) (respelled_at 24 4 page bytes (omega (arith, whole)))
      ∙ ap (λ (b : List ℕ). events ++ b) (respelled_at 16 8 page bytes (omega (arith, whole)))
      ∙ respelled_at 12 4 page bytes (omega (arith, whole)) in
      sym (ap (λ (b : List ℕ). its_fields ++ b) pad
      ∙ nested (drop 28 page)
      ∙ ap (λ (b : List ℕ). magic ++ (its_format ∷ dims ∷ its_degree ∷ 0 ∷ b)) numbers
      ∙ ap (λ (b : List ℕ). magic ++ (its_format ∷ dims ∷ its_degree ∷ b)) (next_byte 11 0 page h.unnamed (omega (arith, whole)))
      ∙ ap (λ (b : List ℕ). magic ++ (its_format ∷ dims ∷ b)) (next_byte 10 its_degree page (sym (degree-back (slice_index page 10))) (omega (arith, whole)))
      ∙ ap (λ (b : List ℕ). magic ++ (its_format ∷ b)) (next_byte 9 dims page refl (omega (arith, whole)))
      ∙ ap (λ (b : List ℕ). magic ++ b) (next_byte 8 its_format page h.format (omega (arith, whole)))
      ∙ ap (λ (b : List ℕ). b ++ drop 8 page) (sym h.text)
      ∙ take-append-drop 8 page)

  -- And such a spelling is exact.
  pub exact_back : page ≡ super_page (super_in page) → IsExactSuper page
  exact_back e =
      let rest : List ℕ = zeros (4096 - length its_fields) in
      let right = e ∙ nested rest in
      let is_rest : drop 28 page ≡ rest = ap (λ (b : List ℕ). drop 28 b) e ∙ drop_at its_fields rest 28 length-fields in
      record {
        text = ap (λ (b : List ℕ). take 8 b) right;
        format = ap (λ (b : List ℕ). slice_index b 8) right;
        unnamed = ap (λ (b : List ℕ). slice_index b 11) right;
        tail = is_rest ∙ ap zeros (sym (length-zeros (4096 - length its_fields)) ∙ ap length (sym is_rest));
      }
