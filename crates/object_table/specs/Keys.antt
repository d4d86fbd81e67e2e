-- The order of an object table.
use Rattle.std.specs.Prelude.{ℕ, ◌+◌, ◌*◌, ◌^◌, ◌<◌, List, [], ◌∷◌}
use Rattle.std.specs.List.{All}
use Rattle.bw_types.specs.declared.dated.Dated.{Dated}
use Rattle.page_layout.specs.declared.life_node.LifeEntry.{LifeEntry}

-- Ids and lives as one number: it ascends by id and then life.
abbrev pub key_of : ℕ → ℕ → ℕ
key_of id life = id * 2 ^ 32 + life

abbrev pub key : Dated → ℕ
key dated = key_of dated.object.id dated.life

-- where an entry of an index node begins
abbrev pub low_key : LifeEntry → ℕ
low_key e = key_of e.low_id e.low_life

-- above all keys
abbrev pub key_end : ℕ
key_end = 2 ^ 96

-- the greatest key that a life of the id may have
abbrev pub greatest_key : ℕ → ℕ
greatest_key id = key_of id 4294967295

-- each stands above those before it, by this number
abbrev pub AscendBy : {X : Type 0} → (X → ℕ) → List X → Type 0
AscendBy {X} k [] = Unit {0}
AscendBy {X} k (x ∷ xs) = All (λ y. k x < k y) xs × AscendBy k xs
