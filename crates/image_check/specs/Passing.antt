-- What a part of a table is found to be, one page after the other, each seen once.
use Rattle.std.specs.Prelude.{◌≡◌, ℕ, ◌-◌, ◌≤◌, true, List, ◌++◌}
use Rattle.bw_types.specs.declared.dated.Dated.{Dated}
use Rattle.ports.specs.Calls.{WasRead}
use Rattle.ports.specs.Frame.{names_page, AreApart}
use Rattle.ports.specs.declared.pages.Pages.{Ghosts}
use Rattle.page_layout.specs.Footprint.{NamesNoneTwice}

-- The part stands, and of its own pages none was seen and none is named twice.
pub record CanPass (standing : Type 0) (own seen : List ℕ) : Type 0 where
  pub stands : standing
  pub once : NamesNoneTwice own
  pub apart : AreApart seen own

-- The part passed: its objects were put behind the others, and its own pages were seen.
pub record Passed (standing : Type 0) (own : List ℕ) (told before now : List Dated) (seen after : List ℕ) : Type 0 where
  pub can : CanPass standing own seen
  pub kept : now ≡ before ++ told
  pub names : (page : ℕ) → names_page after page ≡ names_page (seen ++ own) page

-- No other pages were seen than those of the part.
abbrev pub SeesOwn : List ℕ → List ℕ → List ℕ → Type 0
SeesOwn own seen after = (page : ℕ) → names_page after page ≡ true → names_page (seen ++ own) page ≡ true

-- The pages were read, by as many gets at most as there are more pages that were seen.
pub record ReadsSeen {P : Type 0} (g : Ghosts P) (seen after : ℕ) (old new : P) : Type 0 where
  pub more : seen ≤ after
  pub read : WasRead g (after - seen) old new
