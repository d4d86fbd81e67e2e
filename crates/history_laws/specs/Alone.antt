-- Lives of a lawful history: an id has one open life at most, and each withdrawal ends one.
use Rattle.std.specs.Prelude.{◌≡◌, ℕ, ◌+◌, ◌≤◌, Bool, ◌&&◌, ◌==◌, not, length}
use Rattle.std.specs.List.{count_by}
use Rattle.bw_types.specs.History.{History, changes}
use Rattle.bw_types.specs.Lawful.{IsLawful}
use Rattle.bw_types.specs.Lives.{lives}
use Rattle.bw_types.specs.declared.dated.Dated.{Dated}
use Rattle.bw_types.specs.declared.params.Params.{Params}

-- a life of the id that is not ended
abbrev pub is_open : ℕ → Dated → Bool
is_open id d = d.object.id == id && d.withdrawn == 0

-- a life that is ended
abbrev pub has_ended : Dated → Bool
has_ended d = not (d.withdrawn == 0)

-- in a lawful history an id has one open life at most
abbrev pub OneOpenLife : Type 0
OneOpenLife = (params : Params) (h : History) (id : ℕ) → IsLawful params h → count_by (is_open id) (lives h) ≤ 1

-- in a lawful history each add begins a life and each withdrawal ends one
abbrev pub LivesCountChanges : Type 0
LivesCountChanges = (params : Params) (h : History) → IsLawful params h → length (lives h) + count_by has_ended (lives h) ≡ length (changes h)
