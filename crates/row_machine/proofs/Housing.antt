-- What a line does to what a crash may leave.
use Rattle.std.proofs.Common.{Option, None, Some, Bool, true, false, nat_lt, nat_le, length, unwrap_or, ◌∷◌, ◌≡◌, ℕ, ◌≤◌, List, [], ◌++◌, ◌+◌, ◌⊎◌, inl, inr, Result, Ok, Err, refl, sym, ◌∙◌, ap, subst, append_assoc, arith}
use Rattle.std.proofs.lemmas.List.{append-nil}
use Rattle.bw_types.specs.History.{History}
use Rattle.bw_types.specs.declared.params.Params.{Params}
use Rattle.bw_types.specs.History.{last_version, flat}
use Rattle.bw_types.specs.Refusals.{first_refusal}
use Rattle.bw_types.specs.declared.refusal.Refusal.{Refusal}
use Rattle.bw_types.specs.declared.query.Query.{Query}
use Rattle.bw_types.specs.declared.row.Row.{Row}
use Rattle.csv_rows.specs.Input.{input}
use Rattle.csv_rows.specs.declared.input.Input.{Input}
use Rattle.csv_rows.specs.declared.input.Input.TheVariants.{Stage, Commit, Drop, Ask}
use Rattle.csv_rows.specs.Machine.{State, step, line_step, stage_step, commit_step, ask_step, rows_of, state_after, most_staged}
use Rattle.warehouse.specs.Committed.{after_commit}
use Rattle.warehouse.specs.Crashes.{OnlyLeaves}
use Rattle.warehouse.specs.declared.house.House.{Ghosts}
use Rattle.row_machine.specs.declared.desk.Taken.{Taken}
use Rattle.row_machine.specs.declared.ending.RunEnd.{RunEnd}
use Rattle.row_machine.specs.declared.ending.Ending.TheVariants.{DiskFault}
use Rattle.row_machine.specs.Housed.{GoesOnFrom, KeepsBetween, KeepsDevice, Settled, SettledAfter, SettledBetween, SettledStill, OnlyBetween, Leaves, device_left}

pub goes_on_same : (h : History) → GoesOnFrom h h
goes_on_same h = record { later = []; goes_on = sym (append-nil h) }

pub goes_on_twice : (a b c : History) → GoesOnFrom a b → GoesOnFrom b c → GoesOnFrom a c
goes_on_twice a b c f g = record {
  later = f.later ++ g.later;
  goes_on = g.goes_on ∙ (ap (λ (t : History). t ++ g.later) f.goes_on ∙ append_assoc a f.later g.later);
}

-- each line keeps the history, or puts a batch last
pub commit_goes_on : (s : State) (session : ℕ) (first : Option Refusal) → GoesOnFrom s.history (commit_step s session first).state.history
commit_goes_on s session (Some refusal) = goes_on_same s.history
commit_goes_on s session None = record { later = flat (rows_of s session) ∷ []; goes_on = refl }

pub commit_history : (s : State) (session : ℕ) (first : Option Refusal) → (commit_step s session first).state.history ≡ after_commit first s.history (rows_of s session)
commit_history s session (Some refusal) = refl
commit_history s session None = refl

pub stage_history : (n : ℕ) (s : State) (session : ℕ) (r : Row) → (stage_step n s session r).state.history ≡ s.history
stage_history n s session r = kept (nat_lt (length (rows_of s session)) most_staged) refl
  where
    kept : (b : Bool) → nat_lt (length (rows_of s session)) most_staged ≡ b → (stage_step n s session r).state.history ≡ s.history
    kept true e = rw e refl
    kept false e = rw e refl

pub ask_history : (params : Params) (n : ℕ) (s : State) (version : ℕ) (q : Query) → (ask_step params n s version q).state.history ≡ s.history
ask_history params n s version q = kept (nat_le version (last_version s.history)) refl
  where
    kept : (b : Bool) → nat_le version (last_version s.history) ≡ b → (ask_step params n s version q).state.history ≡ s.history
    kept true e = rw e refl
    kept false e = rw e refl

goes_on_by : (h h' : History) → h' ≡ h → GoesOnFrom h h'
goes_on_by h h' e = subst (λ (k : History). GoesOnFrom h k) (sym e) (goes_on_same h)

pub line_goes_on : (params : Params) (n : ℕ) (s : State) (i : Option Input) → GoesOnFrom s.history (line_step params n s i).state.history
line_goes_on params n s None = goes_on_same s.history
line_goes_on params n s (Some (Stage session r)) = goes_on_by _ _ (stage_history n s session r)
line_goes_on params n s (Some (Commit session)) = commit_goes_on s session (first_refusal params s.history (rows_of s session))
line_goes_on params n s (Some (Drop session)) = goes_on_same s.history
line_goes_on params n s (Some (Ask version q)) = goes_on_by _ _ (ask_history params n s (unwrap_or version (last_version s.history)) q)

pub step_goes_on : (params : Params) (n : ℕ) (s : State) (line : List ℕ) → GoesOnFrom s.history (step params n s line).state.history
step_goes_on params n s line = line_goes_on params n s (input params line)

-- what lines leave goes on from what they began with
pub after_goes_on : (params : Params) (n : ℕ) (s : State) (ls : List (List ℕ)) → GoesOnFrom s.history (state_after params n s ls).history
after_goes_on params n s [] = goes_on_same s.history
after_goes_on params n s (line ∷ ls) =
    goes_on_twice _ _ _ (step_goes_on params n s line) (after_goes_on params (n + 1) (step params n s line).state ls)

module _ {H D : Type 0} (g : Ghosts H D) where
  pub settled_between : (params : Params) (first h second : History) (d : D) → GoesOnFrom first h → GoesOnFrom h second → Settled g params h d → SettledBetween g params first second d
  settled_between params first h second d begins within settled = λ x left. record { between = h; keeps = settled x left; begins = begins; within = within }

  pub settled_same : (params : Params) (h : History) (old new : D) → g.moments new ≡ g.moments old → Settled g params h old → Settled g params h new
  settled_same params h old new e settled = λ x left. settled x (subst (λ (m : g.Moments). g.now m x) e left)

  pub keeps_device : (d : D) → KeepsDevice g d d
  keeps_device d = (refl, refl)

  pub keeps_twice : (a b c : D) → KeepsDevice g a b → KeepsDevice g b c → KeepsDevice g a c
  keeps_twice a b c f s = (s.0 ∙ f.0, s.1 ∙ f.1)

  pub only_same : (params : Params) (first second : History) (old new : D) → g.moments new ≡ g.moments old → OnlyBetween g params first second old new
  only_same params first second old new e = record {
    later = let same : g.clock (g.moments new) ≡ g.clock (g.moments old) = ap g.clock e in omega (arith, same);
    each = λ t x le left. inl (subst (λ (m : g.Moments). g.since m t x) e left);
  }

  -- a line that changes neither the history nor what a crash may leave
  pub leaves_same : (params : Params) (h h' : History) (before : D) (result : Result (Taken H D g) (RunEnd D)) → h' ≡ h → g.moments (device_left g result) ≡ g.moments before → Leaves g params h h' before result
  leaves_same params h h' before (Ok taken) same e = subst (λ (k : History). Leaves g params h k before (Ok taken)) (sym same) (record {
    any_moment = only_same params h h before _ e;
    settled = λ s. settled_same params h before _ e s;
    kept = λ s. tt;
    lost = λ s. settled_between params h h h _ (goes_on_same h) (goes_on_same h) (settled_same params h before _ e s);
  })
  leaves_same params h h' before (Err ran) same e = subst (λ (k : History). Leaves g params h k before (Err ran)) (sym same) (record {
    any_moment = only_same params h h before _ e;
    settled = λ s. tt;
    kept = λ s other. settled_same params h before _ e s;
    lost = λ s. settled_between params h h h _ (goes_on_same h) (goes_on_same h) (settled_same params h before _ e s);
  })

  -- a line after which a crash may leave the one history or the other
  pub leaves_either : (params : Params) (h h' : History) (before : D) (result : Result (Taken H D g) (RunEnd D)) → GoesOnFrom h h'
      → OnlyLeaves g.clock g.since (λ x. g.keeps x params h ⊎ g.keeps x params h') (g.moments before) (g.moments (device_left g result))
      → (Settled g params h before → (x : g.Image) → g.now (g.moments (device_left g result)) x → g.keeps x params h ⊎ g.keeps x params h')
      → (Settled g params h before → SettledAfter g params h' result)
      → (Settled g params h before → SettledStill g params h result)
      → Leaves g params h h' before result
  leaves_either params h h' before result goes any lost settled kept = record {
    any_moment = record {
      later = any.later;
      each = λ t x le left. elim (any.each t x le left) [ inl old ↦ inl old | inr has ↦ inr (either x has) ];
    };
    settled = settled;
    kept = kept;
    lost = λ s x left. either x (lost s x left);
  }
    where
      either : (x : g.Image) → g.keeps x params h ⊎ g.keeps x params h' → KeepsBetween g params h h' x
      either x has = elim has [
        | inl k ↦ record { between = h; keeps = k; begins = goes_on_same h; within = goes }
        | inr k ↦ record { between = h'; keeps = k; begins = goes; within = goes_on_same h' }
      ]

  -- a line that ends the run, with the device as before
  pub leaves_kept : (params : Params) (h h' : History) (before : D) (ran : RunEnd D) → GoesOnFrom h h' → g.moments ran.device ≡ g.moments before → Leaves g params h h' before (Err ran)
  leaves_kept params h h' before ran goes e = record {
    any_moment = only_same params h h' before _ e;
    settled = λ s. tt;
    kept = λ s other. settled_same params h before _ e s;
    lost = λ s. settled_between params h h h' _ (goes_on_same h) goes (settled_same params h before _ e s);
  }

  -- what a commit leaves at each moment and at its end, where the batch of rows is staged
  record CommitLeaves (before d : D) (h : History) (params : Params) (rows : List Row) : Type 0 where
    any : OnlyLeaves g.clock g.since (λ x. g.keeps x params h ⊎ g.keeps x params (after_commit (first_refusal params h rows) h rows)) (g.moments before) (g.moments d)
    lost : Settled g params h before → (x : g.Image) → g.now (g.moments d) x → g.keeps x params h ⊎ g.keeps x params (after_commit (first_refusal params h rows) h rows)

  pub leaves_lost : (params params' : Params) (s : State) (session : ℕ) (rows : List Row) (before : D) (ran : RunEnd D) → ran.ending ≡ DiskFault → params' ≡ params → rows ≡ rows_of s session
      → OnlyLeaves g.clock g.since (λ x. g.keeps x params' s.history ⊎ g.keeps x params' (after_commit (first_refusal params' s.history rows) s.history rows)) (g.moments before) (g.moments ran.device)
      → (Settled g params' s.history before → (x : g.Image) → g.now (g.moments ran.device) x → g.keeps x params' s.history ⊎ g.keeps x params' (after_commit (first_refusal params' s.history rows) s.history rows))
      → Leaves g params s.history (commit_step s session (first_refusal params s.history (rows_of s session))).state.history before (Err ran)
  leaves_lost params params' s session rows before ran failed same staged any lost =
      let made : CommitLeaves before ran.device s.history params' rows = record { any = any; lost = lost } in
      let moved : CommitLeaves before ran.device s.history params (rows_of s session) =
      subst (λ (p : Params). CommitLeaves before ran.device s.history p (rows_of s session)) same
      (subst (λ (r : List Row). CommitLeaves before ran.device s.history params' r) staged made) in
      subst (λ (k : History). Leaves g params s.history k before (Err ran)) (sym (commit_history s session (first_refusal params s.history (rows_of s session))))
      (leaves_either params s.history _ before (Err ran)
      (subst (λ (k : History). GoesOnFrom s.history k) (commit_history s session (first_refusal params s.history (rows_of s session))) (commit_goes_on s session (first_refusal params s.history (rows_of s session))))
      moved.any moved.lost (λ settled. tt) (λ settled other. absurd (other failed)))

  -- two stretches of calls, one after the other
  pub only_twice : (params : Params) (a b c : History) (first second third : D) → GoesOnFrom a b → GoesOnFrom b c
      → OnlyBetween g params a b first second → OnlyBetween g params b c second third → OnlyBetween g params a c first third
  only_twice params a b c first second third ab bc f s = record {
    later = let p : g.clock (g.moments first) ≤ g.clock (g.moments second) = f.later in
        let q : g.clock (g.moments second) ≤ g.clock (g.moments third) = s.later in omega (arith, p, q);
    each = λ t x le left.
        let p : g.clock (g.moments first) ≤ g.clock (g.moments second) = f.later in
        elim (s.each t x (omega (arith, p, le)) left) [
          | inl before ↦ elim (f.each t x le before) [
            | inl entry ↦ inl entry
            | inr has ↦ inr (record { between = has.between; keeps = has.keeps; begins = has.begins; within = goes_on_twice _ _ _ has.within bc })
          ]
          | inr has ↦ inr (record { between = has.between; keeps = has.keeps; begins = goes_on_twice _ _ _ ab has.begins; within = has.within })
        ];
  }

  -- more may come after a stretch of calls
  pub only_wider : (params : Params) (a b c : History) (first second : D) → GoesOnFrom b c → OnlyBetween g params a b first second → OnlyBetween g params a c first second
  only_wider params a b c first second bc f = record {
    later = f.later;
    each = λ t x le left. elim (f.each t x le left) [
      | inl entry ↦ inl entry
      | inr has ↦ inr (record { between = has.between; keeps = has.keeps; begins = has.begins; within = goes_on_twice _ _ _ has.within bc })
    ];
  }

  pub settled_wider : (params : Params) (a b c : History) (d : D) → GoesOnFrom b c → SettledBetween g params a b d → SettledBetween g params a c d
  settled_wider params a b c d bc s = λ x left.
      record { between = (s x left).between; keeps = (s x left).keeps; begins = (s x left).begins; within = goes_on_twice _ _ _ (s x left).within bc }
