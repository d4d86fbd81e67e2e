-- What the lives of a history become when a batch is put last, change by change.
use Rattle.std.specs.Prelude.{◌≡◌, ◌≤◌, ℕ, ◌+◌, ◌&&◌, ◌==◌, List, [], ◌∷◌, ◌++◌, length, map, if◌then◌else◌}
use Rattle.std.specs.List.{All}
use Rattle.bw_types.specs.History.{History, changes, last_version}
use Rattle.bw_types.specs.Lives.{Numbered, numbered, numbered_batch, life_of, lives_after}
use Rattle.bw_types.specs.declared.change.Change.{Change}
use Rattle.bw_types.specs.declared.change.Change.TheVariants as change
use Rattle.bw_types.specs.declared.dated.Dated.{Dated}

-- the lives that these numbered changes begin
abbrev pub lives_in : List Numbered → List Dated
lives_in ns = lives_after [] ns

-- the life, ended by this withdrawal where it is one of that id and not ended yet
abbrev pub ended_by : Numbered → ℕ → Dated → Dated
ended_by n id d = if d.object.id == id && d.withdrawn == 0 then record d { withdrawn = n.version; withdraw_event = n.event } else d

-- what one change more does to the lives: an add begins one, a withdrawal ends those of its id that are not ended
abbrev pub lives_with : List Numbered → Numbered → Change → List Dated → List Dated
lives_with earlier n (change.Add o) ds = ds ++ life_of earlier n o [] ∷ []
lives_with earlier n (change.Withdraw id) ds = map (ended_by n id) ds

-- one numbered change more, where versions begin at 1
abbrev pub LivesGrow : Type 0
LivesGrow = (earlier : List Numbered) (n : Numbered) → All (λ m. 1 ≤ m.version) earlier → lives_in (earlier ++ n ∷ []) ≡ lives_with earlier n n.change (lives_in earlier)

-- a batch more: its changes get the next version and the next event numbers
abbrev pub NumbersGrow : Type 0
NumbersGrow = (h : History) (batch : List Change) → numbered (h ++ batch ∷ []) ≡ numbered h ++ numbered_batch (last_version h + 1) (length (changes h)) batch
