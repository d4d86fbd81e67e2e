-- Which parts have contents, and the place of a field.
use Rattle.std.proofs.Common.{◌≡◌, ℕ, true, List, [], ◌∷◌, Option, Some, None, is_some, option_map, option_and_then, ◌&&◌, ◌∙◌, sym, refl, zero, suc, slice_get, ◌+◌, drop, add-one}
use Rattle.std.specs.List.{list_all}
use Rattle.csv.specs.Records.{field_at}
use Rattle.csv_rows.specs.Fields.{content_of, contents_of}

is_some-map : {A B : Type 0} (f : A → B) (o : Option A) → is_some (option_map f o) ≡ is_some o
is_some-map f None = refl
is_some-map f (Some x) = refl

-- what an option holds that is not empty
pub some-of : {A : Type 0} (o : Option A) → is_some o ≡ true → (x : A) × (o ≡ Some x)
some-of None h = cc
some-of (Some x) h = (x, refl)

-- the parts have contents where each of them has
pub all-have : (parts : List (List ℕ)) → list_all (λ part. is_some (content_of part)) parts ≡ is_some (contents_of parts)
all-have [] = refl
all-have (part ∷ parts) =
    elim (content_of part) as (λ o. (is_some o && list_all (λ part. is_some (content_of part)) parts) ≡ is_some (option_and_then (λ content. option_map (λ contents. content ∷ contents) (contents_of parts)) o)) [
      | None ↦ refl
      | Some content ↦ all-have parts ∙ sym (is_some-map (λ contents. content ∷ contents) (contents_of parts))
    ]

-- the field at a place, in the words of the list
pub field_at-slice_get : (fields : List (List ℕ)) (i : ℕ) → field_at fields i ≡ slice_get fields i
unfolding field_at
field_at-slice_get [] i = refl
field_at-slice_get (field ∷ fields) zero = refl
field_at-slice_get (field ∷ fields) (suc i) = field_at-slice_get fields i

-- the field after the first, in the words of the list
pub past-first : (fields : List (List ℕ)) (i : ℕ) → field_at fields (i + 1) ≡ slice_get (drop 1 fields) i
past-first fields i = field_at-slice_get fields (i + 1) ∙ after fields i
  where
    after : (fields : List (List ℕ)) (i : ℕ) → slice_get fields (i + 1) ≡ slice_get (drop 1 fields) i
    after [] i = refl
    after (field ∷ fields) i = rw add-one refl
