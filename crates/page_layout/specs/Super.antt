-- The superblock.
use Rattle.std.specs.Prelude.{ℕ, List, [], ◌∷◌, ◌++◌, drop, slice_index, Option, Some, None, ◌==◌, if◌then◌else◌}
use Rattle.bw_types.specs.Fits.{IsInRange}
use Rattle.page_layout.specs.Numbers.{spelled, number_in, padded}
use Rattle.page_layout.specs.declared.super_page.Super.{Super}

-- the ASCII text BOXSUMWH
abbrev pub magic : List ℕ
magic = 66 ∷ 79 ∷ 88 ∷ 83 ∷ 85 ∷ 77 ∷ 87 ∷ 72 ∷ []

-- 3 for a plain warehouse, whose origin is 0, and 4 for a signed one
abbrev pub format_of : ℕ → ℕ
format_of origin = if origin == 0 then 3 else 4

-- the degree, or 255 for none
abbrev pub degree_byte : Option ℕ → ℕ
degree_byte None = 255
degree_byte (Some degree) = degree

abbrev pub degree_in : ℕ → Option ℕ
degree_in byte = if byte == 255 then None else Some byte

-- What a superblock is: its params are in their ranges, one of the two origins among them.
abbrev pub IsSuper : Super → Type 0
IsSuper value = IsInRange value.params

-- The numbers are those of their types, which the ranges say.
abbrev pub IsTyped : Super → Type 0
IsTyped value = Unit {0}

-- the page that the superblock is spelled by
abbrev pub super_page : Super → List ℕ
super_page value = padded (magic ++ (format_of value.params.origin ∷ value.params.dims ∷ degree_byte value.params.degree ∷ 0 ∷ (spelled 4 value.params.events ++ (spelled 8 value.params.pages ++ spelled 4 value.params.origin))))

-- the superblock that a page may spell
abbrev pub super_in : List ℕ → Super
super_in page = record { params = record { dims = slice_index page 9; degree = degree_in (slice_index page 10); events = number_in 4 (drop 12 page); pages = number_in 8 (drop 16 page); origin = number_in 4 (drop 24 page) } }
