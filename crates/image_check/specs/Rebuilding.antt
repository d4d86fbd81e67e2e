-- What is known of each id while the lives of a history are rebuilt, one event back after the other.
use Rattle.std.specs.Prelude.{◌≡◌, ℕ, List, [], ◌∷◌, ◌++◌, reverse}
use Rattle.std.specs.BTreeMap.{BTreeMap, get}
use Rattle.std.specs.List.{count_by}
use Rattle.std.specs.Map.{count_at}
use Rattle.std.specs.Option.{option_map}
use Rattle.std.specs.Ordering.{nat_cmp}
use Rattle.bw_types.specs.History.{adds}
use Rattle.bw_types.specs.Lives.{Numbered, lives_after, withdrawal_of}
use Rattle.bw_types.specs.declared.dated.Dated.{Dated}

-- The map has for each id how often these changes add it.
abbrev pub CountsAdds : BTreeMap ℕ ℕ → List Numbered → Type 0
CountsAdds counts ns = (id : ℕ) → count_at (get nat_cmp counts) id ≡ count_by (λ n. adds id n.change) ns

-- the version and the event number of a change
abbrev pub place_of : Numbered → ℕ × ℕ
place_of n = (n.version, n.event)

-- The map has the first withdrawal of each id that these changes withdraw.
abbrev pub KnowsEnds : BTreeMap ℕ (ℕ × ℕ) → List Numbered → Type 0
KnowsEnds ends ns = (id : ℕ) → get nat_cmp ends id ≡ option_map place_of (withdrawal_of id ns)

-- What is known between the earlier changes and the later ones, and the lives that the later ones begin, last first.
pub record Stands (counts : BTreeMap ℕ ℕ) (ends : BTreeMap ℕ (ℕ × ℕ)) (lives : List Dated) (earlier later : List Numbered) : Type 0 where
  pub counted : CountsAdds counts earlier
  pub known : KnowsEnds ends later
  pub begun : reverse lives ≡ lives_after earlier later

-- From behind the change to before it.
abbrev pub GoesBack : BTreeMap ℕ ℕ → BTreeMap ℕ (ℕ × ℕ) → List Dated → Numbered → BTreeMap ℕ ℕ → BTreeMap ℕ (ℕ × ℕ) → List Dated → Type 0
GoesBack counts ends lives n counts_before ends_before lives_before =
    (earlier later : List Numbered) → Stands counts ends lives (earlier ++ n ∷ []) later → Stands counts_before ends_before lives_before earlier (n ∷ later)
