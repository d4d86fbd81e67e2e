-- Free pages, read in place.
use Rattle.std.specs.Prelude.{◌≡◌, ℕ, min, List, [], drop}
use Rattle.std.proofs.Common.{ap, ◌∙◌, append-nil, arith}
use Rattle.page_layout.specs.Numbers.{spelled, number_in, padded}
use Rattle.page_layout.specs.Entries.{entries_at}
use Rattle.page_layout.specs.Counted.{front, counted_page, body_of, entries_of}

no_entries : (page : List ℕ) → entries_of (number_in 8) 8 0 page ≡ []
unfolding entries_at
no_entries page =
    let none : min (number_in 2 (drop 2 page)) 0 ≡ 0 = omega arith in
    ap (λ (n : ℕ). entries_at (number_in 8) 8 n (body_of page)) none

-- a counted page of no entries is its front alone
pub front_alone : (kind level word double : ℕ) (page : List ℕ)
    → counted_page (spelled 8) kind level word double (entries_of (number_in 8) 8 0 page) ≡ padded (front kind level 0 word double)
front_alone kind level word double page =
    ap (λ (xs : List ℕ). counted_page (spelled 8) kind level word double xs) (no_entries page)
    ∙ ap padded (append-nil (front kind level 0 word double))
