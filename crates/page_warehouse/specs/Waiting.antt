-- Entries that wait for the trees while a batch is entered in the table.
use Rattle.std.specs.Prelude.{◌≡◌, ℕ, ◌^◌, ◌<◌, IsTrue, List, [], ◌∷◌, ◌++◌}
use Rattle.bw_types.specs.Fits.{object_fits}
use Rattle.bw_types.specs.declared.params.Params.{Params}
use Rattle.corner_weights.specs.PlaneSums.{Entered}
use Rattle.corner_forest.specs.Enters.{entry_of}
use Rattle.corner_forest.specs.Entries.{IsNextEntry}
use Rattle.corner_forest.specs.declared.entry.Entry.{Entry as Waiting}

-- the entry that waits, at the version of its batch
abbrev pub entered_at : ℕ → Waiting → Entered
entered_at version w = entry_of w.object w.minus w.event version

-- A forest for these params takes it.
abbrev pub CanWait : Params → Waiting → Type 0
CanWait params w = IsTrue (object_fits params w.object) × (w.event < 2 ^ 28)

-- The second list is the first with this entry besides, at any place.
pub record HasOneMore (before after : List Entered) (e : Entered) : Type 0 where
  pub front : List Entered
  pub back : List Entered
  pub was : before ≡ front ++ back
  pub is : after ≡ front ++ e ∷ back

-- Made as the next one, the entry leads to a list from which the rest goes on.
pub record LeadsThrough (params : Params) (entries : List Entered) (e : Entered) (GoesOn : List Entered → Type 0) : Type 0 where
  pub next : IsNextEntry params entries e
  pub mid : List Entered
  pub more : HasOneMore entries mid e
  pub rest : GoesOn mid

-- Made one after another, each as the next one, these entries lead from the first list to the last.
abbrev pub LeadTo : Params → List Entered → List Entered → List Entered → Type 0
LeadTo params entries [] last = entries ≡ last
LeadTo params entries (e ∷ waiting) last = LeadsThrough params entries e (λ mid. LeadTo params mid waiting last)
