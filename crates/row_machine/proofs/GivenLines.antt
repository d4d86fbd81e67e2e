-- How far an input is cut into lines. What is known of an input that a machine serves holds whatever the machine is, so it holds here too.
use Rattle.std.proofs.Common.{◌≡◌, ℕ, ◌+◌, true, false, List, [], ◌∷◌, ◌++◌, length, ◌⊎◌, Option, None, Some, refl}
use Rattle.bw_types.specs.declared.params.Params.{Params}
use Rattle.csv_rows.specs.Machine.{State, state_after, step}
use Rattle.line_reader.specs.Lines.{lines, is_whole, TakesLine, PassesNoLineFeed}
use Rattle.line_reader.specs.declared.lines.Line.{Line}
use Rattle.line_reader.specs.declared.lines.Line.TheVariants.{End}
use Rattle.row_machine.specs.Serving.{TakesLines, TakesWhole}
use Rattle.row_machine.proofs.Served.{LineLaws, OneLine, Served, lines_split, served_line, served_whole, takes_given, takes_one_more}

-- of the input some bytes were given as lines and the others are to come
pub record Given (input come : List ℕ) (stopped : Option Line) : Type 0 where
  pub given : List ℕ
  pub cut : input ≡ given ++ come
  pub ends : (is_whole given ≡ true) ⊎ (stopped ≡ Some End)
  pub nothing : stopped ≡ Some End → come ≡ []

-- any machine: of what it writes nothing is said
abbrev any_params : Params
any_params = record { dims = 1; degree = None; events = 0; pages = 0; origin = 0 }

abbrev any_state : State
any_state = record { history = []; staged = [] }

not_told : (written written' : List ℕ) → false ≡ true → written' ≡ written
not_told written written' told = cc

module _ (laws : LineLaws) (input come : List ℕ) (stopped : Option Line) (r : Given input come stopped) where
  abbrev state_now : State
  state_now = state_after any_params 1 any_state (lines r.given)

  abbrev as_served : Served false any_params any_state state_now (1 + length (lines r.given)) input come stopped [] []
  as_served = record { given = r.given; cut = r.cut; ends = r.ends; nothing = r.nothing; number = refl; state = refl; wrote = λ told. not_told _ _ told }

  -- one line more is given
  pub given_line : (line come' : List ℕ) (stopped' : Option Line) → (stopped' ≡ Some End → come' ≡ []) → TakesLine come line come' stopped'
      → (later : Given input come' stopped') × (lines later.given ≡ lines r.given ++ line ∷ [])
  given_line line come' stopped' nothing takes =
      let n : ℕ = 1 + length (lines r.given) in
      let one : OneLine false any_params n come come' stopped' state_now (step any_params n state_now line).state [] [] = record { line = line; takes = takes; state = refl; wrote = λ told. not_told _ _ told } in
      let more = served_line laws false any_params any_state state_now (step any_params n state_now line).state n input come come' stopped stopped' [] [] [] as_served nothing one in
      (record { given = more.0.given; cut = more.0.cut; ends = more.0.ends; nothing = more.0.nothing }, more.1)

  pub given_and_coming : lines input ≡ lines r.given ++ lines come
  given_and_coming = lines_split laws false any_params any_state state_now _ input come stopped [] [] as_served

  -- what was given was taken, up to the last line feed
  pub given_whole : (left : List ℕ) → stopped ≡ None → PassesNoLineFeed come left → TakesWhole input left (lines r.given)
  given_whole left = served_whole laws false any_params any_state state_now _ input come left stopped [] [] as_served

  -- what was given was taken, with what was passed behind it
  pub given_taken : (left passed : List ℕ) → come ≡ passed ++ left → TakesLines input left (lines r.given)
  given_taken left = takes_given laws false any_params any_state state_now _ input come left stopped [] [] as_served

  -- so was a line more
  pub one_more_taken : (line after left : List ℕ) (stopped' : Option Line) → TakesLine come line after stopped' → (stopped' ≡ Some End → after ≡ [])
      → (passed : List ℕ) → after ≡ passed ++ left → TakesLines input left (lines r.given ++ line ∷ [])
  one_more_taken line after left stopped' = takes_one_more laws false any_params any_state state_now _ input come after left stopped stopped' [] [] line as_served
