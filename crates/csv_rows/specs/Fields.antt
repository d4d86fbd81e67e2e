-- The fields of a line.
use Rattle.std.specs.Prelude.{ℕ, ◌-◌, Bool, not, ◌&&◌, ◌||◌, ◌==◌, nat_le, if◌then◌else◌, List, [], ◌∷◌, length, slice_index, slice_range, Option, Some, None, option_map, slice_get, unwrap_or}
use Rattle.std.specs.List.{list_any, slice_split}
use Rattle.std.specs.Option.{option_and_then}

-- the parts of a line: it is cut at every comma
abbrev pub parts_of : List ℕ → List (List ℕ)
parts_of line = slice_split (λ b. b == 44) line

-- whether bytes hold a double quote
abbrev pub holds_quote : List ℕ → Bool
holds_quote bytes = list_any (λ b. b == 34) bytes

-- whether a part begins with a double quote and ends with another one
abbrev pub is_in_quotes : List ℕ → Bool
is_in_quotes part = nat_le 2 (length part) && (slice_index part 0 == 34) && (slice_index part (length part - 1) == 34)

-- what stands between the first and the last byte of a part
abbrev pub inner_of : List ℕ → List ℕ
inner_of part = slice_range part 1 (length part - 1)

-- the content of a part: a part that holds no double quote is its own content; one in double quotes that holds no
-- other has what stands between them; any other part has none
abbrev pub content_of : List ℕ → Option (List ℕ)
content_of part =
    if not (holds_quote part) then Some part
    else if is_in_quotes part && not (holds_quote (inner_of part)) then Some (inner_of part)
    else None

-- the contents of some parts, in their order, where each of them has one
abbrev pub contents_of : List (List ℕ) → Option (List (List ℕ))
contents_of [] = Some []
contents_of (part ∷ parts) = option_and_then (λ content. option_map (λ contents. content ∷ contents) (contents_of parts)) (content_of part)

-- whether bytes hold a line feed or a carriage return
abbrev pub holds_line_end : List ℕ → Bool
holds_line_end bytes = list_any (λ b. (b == 10) || (b == 13)) bytes

-- the fields of a line, which holds no line feed and no carriage return: the contents of its parts
abbrev pub line_fields : List ℕ → Option (List (List ℕ))
line_fields line = if holds_line_end line then None else contents_of (parts_of line)

-- the field at a place, counted from 0, and an empty one past the last
abbrev pub field_at : List (List ℕ) → ℕ → List ℕ
field_at fields place = unwrap_or (slice_get fields place) []
