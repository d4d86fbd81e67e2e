-- How many entries lives have.
use Rattle.std.proofs.Common.{◌≡◌, ◌+◌, true, false, ◌==◌, not, List, [], ◌∷◌, length, refl, ◌∙◌, arith, length-append, if◌then◌else◌}
use Rattle.std.proofs.lemmas.List.Sums.{sum_by-cons}
use Rattle.std.specs.List.{count_by}
use Rattle.bw_types.specs.History.{History, changes}
use Rattle.bw_types.specs.Lawful.{IsLawful}
use Rattle.bw_types.specs.Lives.{lives}
use Rattle.bw_types.specs.declared.dated.Dated.{Dated}
use Rattle.bw_types.specs.declared.params.Params.{Params}
use Rattle.history_laws.specs.Alone.{LivesCountChanges, has_ended}
use Rattle.history_laws.specs.Entries.{begun_entry, ended_entry, entries_of, history_entries, life_entries}

one_life : (d : Dated) → length (life_entries d) ≡ 1 + (if has_ended d then 1 else 0)
one_life d = elim (d.withdrawn == 0) as (λ b. length (if b then begun_entry d ∷ [] else begun_entry d ∷ ended_entry d ∷ []) ≡ 1 + (if not b then 1 else 0)) [ true ↦ refl | false ↦ refl ]

all_lives : (ds : List Dated) → length (entries_of ds) ≡ length ds + count_by has_ended ds
all_lives [] = refl
all_lives (d ∷ ds) =
    omega (arith, length-append (life_entries d) (entries_of ds), one_life d, all_lives ds, sum_by-cons (λ (x : Dated). if has_ended x then 1 else 0) d ds)

pub are_changes : LivesCountChanges → (params : Params) (h : History) → IsLawful params h → length (history_entries h) ≡ length (changes h)
are_changes counted params h l = all_lives (lives h) ∙ counted params h l
