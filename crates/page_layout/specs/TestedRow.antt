-- Pages of a kind with a level and entries and nothing else, tested where they stand.
use Rattle.std.specs.Prelude.{◌≡◌, ℕ, ◌≤◌, min, List, length, drop, slice_index}
use Rattle.std.proofs.Common.{sym, ap, ◌∙◌, subst, arith}
use Rattle.page_layout.specs.Numbers.{number_in}
use Rattle.page_layout.specs.Entries.{AreInOrder, entries_at}
use Rattle.page_layout.specs.Counted.{counted_page, entries_of}
use Rattle.page_layout.specs.Respelled.{Respells, length-entries_at}

-- The page spells some entries and at most so many at a level within these bounds: each keeps its rule there,
-- they are in order, and the page is their spelling, with no word and no double word.
pub record SpellsRow {X : Type 0} (spelling : X → List ℕ) (f : List ℕ → X) (size : ℕ) (keeps : ℕ → X → Type 0) (precedes : X → X → Type 0) (kind low high most : ℕ) (page : List ℕ) : Type 0 where
  pub low_level : low ≤ slice_index page 1
  pub high_level : slice_index page 1 ≤ high
  pub some : 1 ≤ length (entries_of f size most page)
  pub few : length (entries_of f size most page) ≤ most
  pub in_order : AreInOrder (keeps (slice_index page 1)) precedes (entries_of f size most page)
  pub spelled : page ≡ counted_page spelling kind (slice_index page 1) 0 0 (entries_of f size most page)

module _ {X : Type 0} (spelling : X → List ℕ) (f : List ℕ → X) (size : ℕ) (law : Respells spelling f size) (keeps : ℕ → X → Type 0) (precedes : X → X → Type 0) (kind low high most : ℕ) (page : List ℕ) where
  pub length-row : length (entries_of f size most page) ≡ min (number_in 2 (drop 2 page)) most
  length-row = length-entries_at spelling f size law (min (number_in 2 (drop 2 page)) most) (drop 16 page)

  module _ (body : List ℕ) (level count : ℕ) (is_level : level ≡ slice_index page 1) (is_count : count ≡ min (number_in 2 (drop 2 page)) most) (is_body : body ≡ drop 16 page) where
    same_row : entries_at f size count body ≡ entries_of f size most page
    same_row = ap (λ (n : ℕ). entries_at f size n body) is_count ∙ ap (λ (b : List ℕ). entries_at f size (min (number_in 2 (drop 2 page)) most) b) is_body

    pub spells_row : low ≤ level → level ≤ high → 1 ≤ count → page ≡ counted_page spelling kind (slice_index page 1) 0 0 (entries_of f size most page)
        → AreInOrder (keeps level) precedes (entries_at f size count body) → SpellsRow spelling f size keeps precedes kind low high most page
    spells_row low_level high_level some is_spelled order = record {
      low_level = omega (arith, low_level, is_level);
      high_level = omega (arith, high_level, is_level);
      some = omega (arith, length-row, some, is_count);
      few = omega (arith, length-row);
      in_order = subst (λ (l : ℕ). AreInOrder (keeps l) precedes (entries_of f size most page)) is_level
          (subst (λ (es : List X). AreInOrder (keeps level) precedes es) same_row order);
      spelled = is_spelled;
    }

    pub row_in_order : SpellsRow spelling f size keeps precedes kind low high most page → AreInOrder (keeps level) precedes (entries_at f size count body)
    row_in_order h = subst (λ (l : ℕ). AreInOrder (keeps l) precedes (entries_at f size count body)) (sym is_level)
        (subst (λ (es : List X). AreInOrder (keeps (slice_index page 1)) precedes es) (sym same_row) h.in_order)
