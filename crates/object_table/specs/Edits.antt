-- How entering and withdrawing change what a table stands for.
use Rattle.std.specs.Prelude.{◌≡◌, ℕ, ◌<◌, ◌==◌, nat_lt, Bool, false, if◌then◌else◌, List, ◌∷◌, ◌++◌, map, Some}
use Rattle.std.specs.List.{All, filter}
use Rattle.std.specs.Option.{option_map_or}
use Rattle.bw_types.specs.declared.dated.Dated.{Dated}
use Rattle.object_table.specs.Keys.{key}
use Rattle.object_table.specs.Lives.{last_life}

-- The life comes after those that its id has.
abbrev pub IsNewLife : List Dated → Dated → Type 0
IsNewLife lives dated = (last : Dated) → last_life dated.object.id lives ≡ Some last → last.life < dated.life

-- the objects, with this one at its place
abbrev pub with_object : Dated → List Dated → List Dated
with_object dated lives = filter (λ d. nat_lt (key d) (key dated)) lives ++ (dated ∷ filter (λ d. nat_lt (key dated) (key d)) lives)

-- The object was put in at its place, and nothing else changed.
pub record IsPutIn (old new : List Dated) (dated : Dated) : Type 0 where
  pub before : List Dated
  pub after : List Dated
  pub was : old ≡ before ++ after
  pub is : new ≡ before ++ (dated ∷ after)
  pub less : All (λ d. key d < key dated) before
  pub more : All (λ d. key dated < key d) after

-- the life as one that was withdrawn in this version, by the event of this number
abbrev pub withdrawn_at : ℕ → ℕ → Dated → Dated
withdrawn_at version event d = record { object = d.object; life = d.life; added = d.added; add_event = d.add_event; withdrawn = version; withdraw_event = event }

-- the object is the last life of the id
abbrev pub is_last_life : ℕ → List Dated → Dated → Bool
is_last_life id lives d = option_map_or (λ last. key last == key d) (last_life id lives) false

-- the objects, of which the last life of the id is withdrawn
abbrev pub with_withdrawal : ℕ → ℕ → ℕ → List Dated → List Dated
with_withdrawal id version event lives = map (λ d. if is_last_life id lives d then withdrawn_at version event d else d) lives

-- The last life of the id was withdrawn, and nothing else changed.
pub record IsMarked (old new : List Dated) (id version event : ℕ) : Type 0 where
  pub before : List Dated
  pub life : Dated
  pub after : List Dated
  pub was : old ≡ before ++ (life ∷ after)
  pub is : new ≡ before ++ (withdrawn_at version event life ∷ after)
  pub own : life.object.id ≡ id
  pub others : All (λ d. (d.object.id == id) ≡ false) after
  pub lives_on : life.withdrawn ≡ 0
  pub earlier : life.added < version

-- The id has a last life, which is not withdrawn and was added before the version.
pub record CanWithdraw (id version : ℕ) (lives : List Dated) : Type 0 where
  pub last : Dated
  pub found : last_life id lives ≡ Some last
  pub lives_on : last.withdrawn ≡ 0
  pub earlier : last.added < version
