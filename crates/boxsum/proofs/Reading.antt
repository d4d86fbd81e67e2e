-- An input whose rows commit nothing.
use Rattle.std.proofs.Common.{◌≡◌, ℕ, Bool, true, false, List, [], ◌∷◌, ◌++◌, length, Option, Some, None, refl, subst, nat_lt, nat_le, unwrap_or}
use Rattle.bw_types.specs.History.{last_version}
use Rattle.bw_types.specs.declared.params.Params.{Params}
use Rattle.csv_rows.specs.Input.{input}
use Rattle.csv_rows.specs.Machine.{State, line_step, most_staged, rows_of}
use Rattle.csv_rows.specs.declared.input.Input.{Input}
use Rattle.csv_rows.specs.declared.input.Input.TheVariants.{Stage, Commit, Drop, Ask}
use Rattle.row_machine.specs.Housed.{IsVersion, MayTake}
use Rattle.row_machine.specs.Serving.{MayServe, NextIsVersion}

-- a line that may be taken is no version
no_version : (params : Params) (n : ℕ) (s : State) (i : Option Input) → MayTake false i → IsVersion (line_step params n s i).reply → ⊥
no_version params n s None may is = is
no_version params n s (Some (Commit session)) may is = may
no_version params n s (Some (Drop session)) may is = is
no_version params n s (Some (Stage session r)) may is = by_room (nat_lt (length (rows_of s session)) most_staged) refl
  where
    by_room : (b : Bool) → nat_lt (length (rows_of s session)) most_staged ≡ b → ⊥
    by_room true e = rw e at is
    by_room false e = rw e at is
no_version params n s (Some (Ask version q)) may is = by_version (nat_le (unwrap_or version (last_version s.history)) (last_version s.history)) refl
  where
    by_version : (b : Bool) → nat_le (unwrap_or version (last_version s.history)) (last_version s.history) ≡ b → ⊥
    by_version true e = rw e at is
    by_version false e = rw e at is

pub no_version_next : (params : Params) (n : ℕ) (s : State) (ls : List (List ℕ)) → MayServe false params ls → NextIsVersion params n s ls → ⊥
no_version_next params n s [] may is = is
no_version_next params n s (line ∷ rest) may is = no_version params n s (input params line) may.0 is

may_first : (params : Params) (first rest : List (List ℕ)) → MayServe false params (first ++ rest) → MayServe false params first
may_first params [] rest may = tt
may_first params (line ∷ first) rest may = (may.0, may_first params first rest may.1)

may_later : (params : Params) (first rest : List (List ℕ)) → MayServe false params (first ++ rest) → MayServe false params rest
may_later params [] rest may = may
may_later params (line ∷ first) rest may = may_later params first rest may.1

pub may_within : (params : Params) (served begins rest all : List (List ℕ)) → all ≡ served ++ (begins ++ rest) → MayServe false params all → MayServe false params begins
may_within params served begins rest all cut may =
    may_first params begins rest (may_later params served (begins ++ rest) (subst (λ (ls : List (List ℕ)). MayServe false params ls) cut may))
