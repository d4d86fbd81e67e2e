-- The pages of a table and of trees, named by a check and by the definitions.
use Rattle.std.proofs.Common.{◌≡◌, ℕ, List, ◌++◌, sym, ◌∙◌, IsPermutation}
use Rattle.std.proofs.lemmas.List.Sorted.{IsPermutation-sym}
use Rattle.ports.specs.Frame.{AreApart, names_page}
use Rattle.page_layout.specs.Footprint.{NamesNoneTwice}
use Rattle.page_layout.specs.FootprintLaws.{once_apart, once_join, once_permuted, once_right}

abbrev SameNames : List ℕ → List ℕ → Type 0
SameNames xs ys = (p : ℕ) → names_page xs p ≡ names_page ys p

-- Pages under the same names, each once, stand in for one another before others.
pub once_for : (xs ys rest : List ℕ) → SameNames xs ys → NamesNoneTwice ys → NamesNoneTwice (xs ++ rest) → NamesNoneTwice (ys ++ rest)
once_for xs ys rest same once all =
    let apart : AreApart xs rest = once_apart xs rest all in
    once_join ys rest once (once_right xs rest all) (λ p named. apart p (same p ∙ named))

-- What is named, in any order, names no page twice exactly where the table and the trees together name none twice.
pub apart_is : (own table trees named : List ℕ) → NamesNoneTwice own → NamesNoneTwice table → SameNames own table → IsPermutation (own ++ trees) named
    → (NamesNoneTwice named → NamesNoneTwice (table ++ trees)) × (NamesNoneTwice (table ++ trees) → NamesNoneTwice named)
apart_is own table trees named once_own once_table same p = (
  λ once. once_for own table trees same once_table (once_permuted named (own ++ trees) (IsPermutation-sym (own ++ trees) named p) once),
  λ once. once_permuted (own ++ trees) named p (once_for table own trees (λ q. sym (same q)) once_own once),
)
