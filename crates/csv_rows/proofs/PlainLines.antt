-- A line with no double quote has its parts as its fields.
use Rattle.std.proofs.Common.{◌≡◌, ℕ, Bool, true, false, not, cond, eqb, List, [], ◌∷◌, Some, refl}
use Rattle.std.proofs.lemmas.Bool.{and_parts, or_parts}
use Rattle.std.specs.List.{list_all, onto_first}
use Rattle.csv_rows.specs.Fields.{contents_of, holds_quote, parts_of}

-- whether no part holds a double quote
abbrev none-quoted : List (List ℕ) → Bool
none-quoted parts = list_all (λ part. not (holds_quote part)) parts

onto-none : (b : ℕ) (parts : List (List ℕ)) → eqb b 34 ≡ false → none-quoted parts ≡ true → none-quoted (onto_first b parts) ≡ true
onto-none b [] e h = rw e refl
onto-none b (part ∷ parts) e h = rw e h

parts-none : (line : List ℕ) → holds_quote line ≡ false → none-quoted (parts_of line) ≡ true
parts-none [] h = refl
parts-none (b ∷ bs) h =
    let here = or_parts (eqb b 34) (holds_quote bs) h in
    let rest = parts-none bs here.1 in
    elim (eqb b 44) as (λ comma. none-quoted (cond comma ([] ∷ parts_of bs) (onto_first b (parts_of bs))) ≡ true) [
      | true ↦ rest
      | false ↦ onto-none b (parts_of bs) here.0 rest
    ]

own-contents : (parts : List (List ℕ)) → none-quoted parts ≡ true → contents_of parts ≡ Some parts
own-contents [] h = refl
own-contents (part ∷ parts) h =
    let both = and_parts (not (holds_quote part)) (none-quoted parts) h in
    rw (both.0, own-contents parts both.1) refl

pub plain-fields : (line : List ℕ) → holds_quote line ≡ false → contents_of (parts_of line) ≡ Some (parts_of line)
plain-fields line h = own-contents (parts_of line) (parts-none line h)
