-- A run over a house, from what serving its input says.
use Rattle.std.proofs.Common.{◌≡◌, ℕ, Bool, true, List, [], subst}
use Rattle.bw_types.specs.History.{History}
use Rattle.bw_types.specs.declared.params.Params.{Params}
use Rattle.bw_types.specs.declared.row.Row.{Row}
use Rattle.line_reader.specs.Lines.{lines}
use Rattle.csv_rows.specs.Machine.{begun, text}
use Rattle.warehouse.specs.declared.house.House.{Ghosts}
use Rattle.row_machine.specs.declared.ending.RunEnd.{RunEnd}
use Rattle.row_machine.specs.Serving.{Ends, Lasts, MayServe}
use Rattle.row_machine.specs.Ended.{ServedWhole}
use Rattle.boxsum.specs.Runs.{WritesWholeLines}

module _ {H D : Type 0} (g : Ghosts H D) (whole tells tells' still : Bool) (input left : List ℕ) (ran : RunEnd D) (written written' : List ℕ) where
  -- how serving from this history ends, at a desk with these params, this house and nothing staged
  abbrev pub EndsFrom : History → Params → H → List (List Row) → Type 0
  EndsFrom h params house staged = MayServe whole params (lines input) → g.stands whole (g.device house) params h
      → Ends g whole tells tells' still params (record { history = h; staged = staged }) input left (g.device house) ran written written'

  pub ends_at : (h : History) (read params : Params) (at house : H) (staged : List (List Row)) → read ≡ params → at ≡ house → staged ≡ (begun []).staged
      → EndsFrom h read at staged → EndsFrom h params house (begun []).staged
  ends_at h read params at house staged same here nothing e =
      subst (λ (p : Params). EndsFrom h p house (begun []).staged) same
      (subst (λ (x : H). EndsFrom h read x (begun []).staged) here
      (subst (λ (s : List (List Row)). EndsFrom h read at s) nothing e))

  -- the replies to all whole lines are the text of the bytes up to the last line feed
  pub whole_text : (params : Params) (h : History) → tells ≡ true → tells' ≡ true → ServedWhole g whole tells tells' params (begun h) input left ran written written'
      → WritesWholeLines (text params h) input left written written'
  whole_text params h told still' s = record { taken = s.taken; cut = s.cut; wrote = s.served.wrote told still' }

module _ {H D : Type 0} (g : Ghosts H D) (ran : RunEnd D) (h : History) where
  -- the same of what lasts, whatever the source gives
  abbrev pub LastsFrom : Params → H → Type 0
  LastsFrom params house = g.stands true (g.device house) params h → Lasts g params h (g.device house) ran

  pub lasts_at : (read params : Params) (at house : H) → read ≡ params → at ≡ house → LastsFrom read at → LastsFrom params house
  lasts_at read params at house same here l =
      subst (λ (p : Params). LastsFrom p house) same (subst (λ (x : H). LastsFrom read x) here l)
