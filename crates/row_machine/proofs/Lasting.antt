-- What lasts over whatever input: the history only goes on, line by line.
use Rattle.std.proofs.Common.{◌≡◌, ℕ, ◌≤◌, Bool, true, List, ◌⊎◌, inl, inr, Result, Ok, Err, refl, sym, subst, arith}
use Rattle.bw_types.specs.History.{History}
use Rattle.bw_types.specs.declared.params.Params.{Params}
use Rattle.bw_types.specs.declared.row.Row.{Row}
use Rattle.csv_rows.specs.Machine.{Step}
use Rattle.warehouse.specs.declared.house.House.{Ghosts}
use Rattle.row_machine.specs.declared.desk.Desk.{Desk}
use Rattle.row_machine.specs.declared.ending.RunEnd.{RunEnd}
use Rattle.row_machine.specs.declared.ending.Ending.{Ending}
use Rattle.row_machine.specs.declared.ending.Ending.TheVariants.{DiskFault, Damaged, PageLimit}
use Rattle.row_machine.specs.Housed.{GoesOnFrom, IsHouseEnding, Settled, SettledBetween, SettledFrom, OnlyBetween, OnlyFrom}
use Rattle.row_machine.specs.Serving.{Lasts, LastsBeyond, LastsSoFar, ServesText}
use Rattle.row_machine.proofs.Housing.{goes_on_same, goes_on_twice}

-- the one history or the other, of which the second goes on from the first
pub which_goes : (h k sure : History) → (sure ≡ h) ⊎ (sure ≡ k) → GoesOnFrom h k → GoesOnFrom h sure × GoesOnFrom sure k
which_goes h k sure which goes = elim which [
  | inl e ↦ (subst (λ (s : History). GoesOnFrom h s) (sym e) (goes_on_same h), subst (λ (s : History). GoesOnFrom s k) (sym e) goes)
  | inr e ↦ (subst (λ (s : History). GoesOnFrom h s) (sym e) goes, subst (λ (s : History). GoesOnFrom s k) (sym e) (goes_on_same k))
]

module _ {H D : Type 0} (g : Ghosts H D) (params : Params) where
  only_from : (first second : History) (old new : D) → OnlyBetween g params first second old new → OnlyFrom g params first old new
  only_from first second old new f = record {
    later = f.later;
    each = λ t x le left. elim (f.each t x le left) [ inl before ↦ inl before | inr has ↦ inr (record { kept = has.between; keeps = has.keeps; begins = has.begins }) ];
  }

  settled_from : (first second : History) (d : D) → SettledBetween g params first second d → SettledFrom g params first d
  settled_from first second d s = λ x left. record { kept = (s x left).between; keeps = (s x left).keeps; begins = (s x left).begins }

  from_settled : (sure : History) (d : D) → Settled g params sure d → SettledFrom g params sure d
  from_settled sure d s = λ x left. record { kept = sure; keeps = s x left; begins = goes_on_same sure }

  only_from_twice : (first second : History) (a b c : D) → GoesOnFrom first second → OnlyFrom g params first a b → OnlyFrom g params second b c → OnlyFrom g params first a c
  only_from_twice first second a b c goes f s = record {
    later = let p : g.clock (g.moments a) ≤ g.clock (g.moments b) = f.later in
        let q : g.clock (g.moments b) ≤ g.clock (g.moments c) = s.later in omega (arith, p, q);
    each = λ t x le left.
        let p : g.clock (g.moments a) ≤ g.clock (g.moments b) = f.later in
        elim (s.each t x (omega (arith, p, le)) left) [
          | inl before ↦ f.each t x le before
          | inr has ↦ inr (record { kept = has.kept; keeps = has.keeps; begins = goes_on_twice _ _ _ goes has.begins })
        ];
  }

  -- a line that was served, or in which the run ended
  pub text_lasts : (h : History) (t : Step) (rows : List Row) (reading : Type 0) (cost : ℕ) (before : D) (gathered gathered' : List ℕ) (is_urgent : Bool) (result : Result (Desk H D g) (RunEnd D))
      → GoesOnFrom h t.state.history → ServesText g true params h t rows reading cost before gathered gathered' is_urgent result → LastsBeyond g params h before result
  text_lasts h t rows reading cost before gathered gathered' is_urgent (Ok desk) goes s = record {
    sure = t.state.history;
    begins = goes;
    stands = s.at.stands;
    any_moment = only_from _ _ _ _ (s.any_moment refl);
    settled = s.settled refl;
  }
  text_lasts h t rows reading cost before gathered gathered' is_urgent (Err ran) goes b = λ within. record {
    sure = b.sure;
    begins = (which_goes h t.state.history b.sure b.which goes).0;
    stands = b.stands;
    undamaged = b.undamaged;
    page_limit = λ allotted e. let p = b.page_limit allotted e in (p.2, rows, subst (λ (k : History). g.lacks_pages ran.device params k rows) (sym p.1) p.3);
    any_moment = only_from _ _ _ _ (b.any_moment refl);
    settled = λ s. settled_from _ _ _ (b.settled refl s);
  }

  -- before the first line
  pub lasts_at_first : (h : History) (d : D) → g.stands true d params h → LastsSoFar g params h d d
  lasts_at_first h d stands = record {
    sure = h;
    begins = goes_on_same h;
    stands = stands;
    any_moment = record { later = omega arith; each = λ t x le left. inl left };
    settled = λ s. s;
  }

  -- one line more
  pub lasts_on : (h : History) (a b c : D) → (so_far : LastsSoFar g params h a b) → LastsSoFar g params so_far.sure b c → LastsSoFar g params h a c
  lasts_on h a b c f s = record {
    sure = s.sure;
    begins = goes_on_twice _ _ _ f.begins s.begins;
    stands = s.stands;
    any_moment = only_from_twice _ _ _ _ _ f.begins f.any_moment s.any_moment;
    settled = λ settled. s.settled (f.settled settled);
  }

  -- the run ends between two lines, or in the output
  pub lasts_between : (h : History) (a b : D) (ran : RunEnd D) → LastsSoFar g params h a b → ran.device ≡ b → (IsHouseEnding ran.ending → ⊥) → Lasts g params h a ran
  lasts_between h a b ran f device outside = record {
    sure = f.sure;
    begins = f.begins;
    stands = λ other. subst (λ (d : D). g.stands true d params f.sure) (sym device) f.stands;
    undamaged = λ page e. outside (subst (λ (s : Ending). IsHouseEnding s) (sym e) tt);
    page_limit = λ allotted e. absurd (outside (subst (λ (s : Ending). IsHouseEnding s) (sym e) tt));
    any_moment = subst (λ (d : D). OnlyFrom g params h a d) (sym device) f.any_moment;
    settled = λ s. subst (λ (d : D). SettledFrom g params f.sure d) (sym device) (from_settled _ _ (f.settled s));
  }

  -- the run ends in a line, or in the output after it
  pub lasts_within : (h : History) (a b : D) (ended ran : RunEnd D) → (so_far : LastsSoFar g params h a b) → Lasts g params so_far.sure b ended
      → ran.device ≡ ended.device → (ended.ending ≡ DiskFault → ran.ending ≡ DiskFault)
      → ((page : ℕ) → ran.ending ≡ Damaged page → ended.ending ≡ Damaged page) → ((allotted : ℕ) → ran.ending ≡ PageLimit allotted → ended.ending ≡ PageLimit allotted)
      → Lasts g params h a ran
  lasts_within h a b ended ran f l device fault damaged limit = record {
    sure = l.sure;
    begins = goes_on_twice _ _ _ f.begins l.begins;
    stands = λ other. subst (λ (d : D). g.stands true d params l.sure) (sym device) (l.stands (λ e. other (fault e)));
    undamaged = λ page e. l.undamaged page (damaged page e);
    page_limit = λ allotted e. let p = l.page_limit allotted (limit allotted e) in
        (p.0, p.1, subst (λ (d : D). g.lacks_pages d params l.sure p.1) (sym device) p.2);
    any_moment = subst (λ (d : D). OnlyFrom g params h a d) (sym device) (only_from_twice _ _ _ _ _ f.begins f.any_moment l.any_moment);
    settled = λ s. subst (λ (d : D). SettledFrom g params l.sure d) (sym device) (l.settled (f.settled s));
  }
