-- The pages of a tree.
use Rattle.std.specs.Prelude.{◌≡◌, ℕ, ◌+◌, ◌≤◌, ◌==◌, ◌||◌, ◌↔◌, false, List, [], ◌∷◌, ◌++◌, IsPermutation}
use Rattle.std.specs.List.{count_by}
use Rattle.ports.specs.Frame.{names_page, AreApart}

-- No page is named twice.
abbrev pub NamesNoneTwice : List ℕ → Type 0
NamesNoneTwice [] = Unit {0}
NamesNoneTwice (page ∷ pages) = (names_page pages page ≡ false) × NamesNoneTwice pages

-- how often the list names the page
abbrev pub times_named : List ℕ → ℕ → ℕ
times_named pages page = count_by (λ p. p == page) pages

-- The page is named more than once.
abbrev pub IsNamedTwice : List ℕ → ℕ → Type 0
IsNamedTwice pages page = 2 ≤ times_named pages page

-- Two lists end to end name a page where one of them does.
abbrev pub NamesByParts : Type 0
NamesByParts = (xs ys : List ℕ) (page : ℕ) → names_page (xs ++ ys) page ≡ (names_page xs page || names_page ys page)

-- Two lists end to end name none twice exactly where neither of them does, and no page is named by both.
abbrev pub NoneTwiceByParts : Type 0
NoneTwiceByParts = (xs ys : List ℕ) → NamesNoneTwice (xs ++ ys) ↔ (NamesNoneTwice xs × NamesNoneTwice ys × AreApart xs ys)

-- Two lists end to end are apart from a third exactly where each of them is.
abbrev pub ApartByParts : Type 0
ApartByParts = (xs ys zs : List ℕ) → AreApart (xs ++ ys) zs ↔ (AreApart xs zs × AreApart ys zs)

-- Of two lists that are apart each is apart from the other.
abbrev pub ApartBothWays : Type 0
ApartBothWays = (xs ys : List ℕ) → AreApart xs ys → AreApart ys xs

-- A list in another order names the same pages, and none twice where it did not before.
abbrev pub OrderIsFree : Type 0
OrderIsFree = (xs ys : List ℕ) → IsPermutation xs ys
    → (NamesNoneTwice xs → NamesNoneTwice ys) × ((page : ℕ) → names_page ys page ≡ names_page xs page)

-- A list names none twice exactly where it names each page once at most.
abbrev pub NoneTwiceCounted : Type 0
NoneTwiceCounted = (xs : List ℕ) → NamesNoneTwice xs ↔ ((page : ℕ) → times_named xs page ≤ 1)

-- Two lists end to end name a page as often as both together.
abbrev pub TimesByParts : Type 0
TimesByParts = (xs ys : List ℕ) (page : ℕ) → times_named (xs ++ ys) page ≡ times_named xs page + times_named ys page
