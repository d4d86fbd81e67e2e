-- What a run of pages holds.
use Rattle.std.specs.Prelude.{◌≡◌, ℕ, ◌-◌, ◌<◌, ◌≤◌, ◌⊎◌, ◌==◌, if◌then◌else◌, List, [], length}
use Rattle.page_disk.specs.declared.run.Run.{Run}
use Rattle.page_disk.specs.Image.{page_at}

-- The page is one of the run.
abbrev pub IsIn : Run → ℕ → Type 0
IsIn run page = (run.first ≤ page) × (page - run.first < length run.pages.items)

-- The run is without pages, or the page is one of it, or the next one while there is room.
abbrev pub IsTaken : Run → ℕ → Type 0
IsTaken run page = (run.pages.items ≡ [])
    ⊎ ((run.first ≤ page) × ((page - run.first ≤ length run.pages.items) × (page - run.first < 64)))

-- where a page that is taken stands among the pages of the run
abbrev pub place_in : Run → ℕ → ℕ
place_in run page = if length run.pages.items == 0 then 0 else page - run.first

-- The page is one of the run, with these bytes.
abbrev pub HoldsPage : Run → ℕ → List ℕ → Type 0
HoldsPage run page bytes = IsIn run page × (page_at run.pages.items (page - run.first) ≡ bytes)

-- The same pages are gathered.
abbrev pub IsSameRun : Run → Run → Type 0
IsSameRun old new = (new.first ≡ old.first) × (new.pages.items ≡ old.pages.items)
