-- What the lives of a history tell.
use Rattle.std.specs.Prelude.{◌≡◌, ◌⊎◌, ◌≤◌, ℕ, Bool, ◌&&◌, ◌||◌, ◌==◌, nat_le, nat_lt, List, map}
use Rattle.std.specs.List.{All, Contains, filter, list_any}
use Rattle.bw_types.specs.History.{History, changes, live}
use Rattle.bw_types.specs.Lives.{lives}
use Rattle.bw_types.specs.Refusals.{is_live, was_added}
use Rattle.bw_types.specs.declared.dated.Dated.{Dated}
use Rattle.bw_types.specs.declared.object.Object.{Object}

-- the life was begun by this version and not ended by it
abbrev pub is_live_at : ℕ → Dated → Bool
is_live_at version d = nat_le d.added version && (d.withdrawn == 0 || nat_lt version d.withdrawn)

-- the objects of the lives that were live at this version
abbrev pub objects_at : ℕ → List Dated → List Object
objects_at version ds = map (λ d. d.object) (filter (is_live_at version) ds)

-- the lives tell which objects are live at each version
abbrev pub LivesTellLive : Type 0
LivesTellLive = (h : History) (version : ℕ) → live h version ≡ objects_at version (lives h)

-- an id is live at the end where a life of it is not ended
abbrev pub LivesTellIds : Type 0
LivesTellIds = (h : History) (id : ℕ) → is_live id (changes h) ≡ list_any (λ d. d.object.id == id && d.withdrawn == 0) (lives h)

-- an id was added where it has a life
abbrev pub LivesTellAdded : Type 0
LivesTellAdded = (h : History) (id : ℕ) → was_added id (changes h) ≡ list_any (λ d. d.object.id == id) (lives h)

-- the last life of an id tells whether it is live
abbrev pub LastLivesTell : Type 0
LastLivesTell = (h : History) (d : Dated) → Contains (lives h) d
    → ((e : Dated) → Contains (lives h) e → e.object.id ≡ d.object.id → e.life ≤ d.life)
    → is_live d.object.id (changes h) ≡ (d.withdrawn == 0)

-- a life begins at a version from 1 on, and where it has ended, it began no later
pub record IsInOrder (d : Dated) : Type 0 where
  pub begun : 1 ≤ d.added
  pub ended : (d.withdrawn ≡ 0) ⊎ (d.added ≤ d.withdrawn)

-- the lives of a history end no earlier than they began
abbrev pub LivesAreInOrder : Type 0
LivesAreInOrder = (h : History) → All IsInOrder (lives h)
