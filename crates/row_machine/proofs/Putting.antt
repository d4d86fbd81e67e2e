-- At most one batch is in the history of which no reply is put yet: that of the last line that was served.
use Rattle.std.proofs.Common.{◌≡◌, ◌⊎◌, ℕ, ◌+◌, ◌≤◌, Bool, false, IsTrue, List, [], ◌∷◌, ◌++◌, length, Option, None, Some, inl, inr, sym, ◌∙◌, ap, append_assoc, arith, refl, unwrap_or}
use Rattle.std.proofs.lemmas.List.{append-nil}
use Rattle.std.specs.Prelude.{⊤}
use Rattle.bw_types.specs.History.{last_version}
use Rattle.bw_types.specs.Refusals.{first_refusal}
use Rattle.bw_types.specs.declared.params.Params.{Params}
use Rattle.bw_types.specs.declared.refusal.Refusal.{Refusal}
use Rattle.csv_rows.specs.Input.{input}
use Rattle.csv_rows.specs.Machine.{State, commit_step, line_step, replies, rows_of, state_after, step}
use Rattle.csv_rows.specs.declared.input.Input.{Input}
use Rattle.csv_rows.specs.declared.input.Input.TheVariants.{Stage, Commit, Drop, Ask}
use Rattle.row_machine.specs.Housed.{IsVersion}
use Rattle.ports.specs.Written.{WritesPart}
use Rattle.row_machine.specs.Serving.{LastMayPut, PutNothing, PutsAllButOne}
use Rattle.row_machine.proofs.Housing.{ask_history, stage_history}
use Rattle.row_machine.proofs.Served.{after_line}

-- a line puts no batch into the history where its reply is no version
commit_none : (s : State) (session : ℕ) (first : Option Refusal) → (IsVersion (commit_step s session first).reply → ⊥) → length (commit_step s session first).state.history ≤ length s.history
commit_none s session (Some refusal) other = omega arith
commit_none s session None other = absurd (other tt)

line_none : (params : Params) (n : ℕ) (s : State) (i : Option Input) → (IsVersion (line_step params n s i).reply → ⊥) → length (line_step params n s i).state.history ≤ length s.history
line_none params n s None other = omega arith
line_none params n s (Some (Stage session r)) other = let same = ap length (stage_history n s session r) in omega (arith, same)
line_none params n s (Some (Commit session)) other = commit_none s session (first_refusal params s.history (rows_of s session)) other
line_none params n s (Some (Drop session)) other = omega arith
line_none params n s (Some (Ask version q)) other = let same = ap length (ask_history params n s (unwrap_or version (last_version s.history)) q) in omega (arith, same)

-- Of the lines served the replies to the first are put. Those to the others wait: none of these but the last put a batch into the history,
-- and that did not where it is known.
pub record Puts (none_waits : Type 0) (tells : Bool) (params : Params) (begin : State) (served : List (List ℕ)) (before now : List ℕ) : Type 0 where
  pub first : List (List ℕ)
  pub waiting : List (List ℕ)
  pub cut : served ≡ first ++ waiting
  pub wrote : IsTrue tells → now ≡ before ++ replies params 1 begin first
  pub last : PutNothing params begin first waiting ⊎ LastMayPut params begin first waiting
  pub none : none_waits → PutNothing params begin first waiting

nothing_later : (params : Params) (begin : State) (first : List (List ℕ)) → PutNothing params begin first []
nothing_later params begin first = let same = ap (λ (ls : List (List ℕ)). length (state_after params 1 begin ls).history) (append-nil first) in omega (arith, same)

-- all replies are put
puts_all : (none_waits : Type 0) (tells : Bool) (params : Params) (begin : State) (served : List (List ℕ)) (before now : List ℕ)
    → (IsTrue tells → now ≡ before ++ replies params 1 begin served) → Puts none_waits tells params begin served before now
puts_all none_waits tells params begin served before now all = record {
  first = served;
  waiting = [];
  cut = sym (append-nil served);
  wrote = all;
  last = inl (nothing_later params begin served);
  none = λ known. nothing_later params begin served;
}

pub puts_nothing : (none_waits : Type 0) (tells : Bool) (params : Params) (begin : State) (before : List ℕ) → Puts none_waits tells params begin [] before before
puts_nothing none_waits tells params begin before = puts_all none_waits tells params begin [] before before (λ told. sym (append-nil before))

-- after replies that were due are put, none waits that is a version
pub puts_due : (none_waits : Type 0) (tells : Bool) (params : Params) (begin : State) (served : List (List ℕ)) (before now now' : List ℕ)
    → Puts none_waits tells params begin served before now
    → ((now' ≡ now) × none_waits) ⊎ (IsTrue tells → now' ≡ before ++ replies params 1 begin served)
    → Puts ⊤ tells params begin served before now'
puts_due none_waits tells params begin served before now now' p due = elim due [
  | inl kept ↦ record {
    first = p.first;
    waiting = p.waiting;
    cut = p.cut;
    wrote = λ told. kept.0 ∙ p.wrote told;
    last = p.last;
    none = λ known. p.none kept.1;
  }
  | inr all ↦ puts_all ⊤ tells params begin served before now' all
]

-- one line more
pub puts_line : (tells is_urgent : Bool) (params : Params) (begin state : State) (n : ℕ) (served served' : List (List ℕ)) (line before now : List ℕ)
    → Puts ⊤ tells params begin served before now
    → n ≡ 1 + length served → state ≡ state_after params 1 begin served → served' ≡ served ++ line ∷ []
    → (is_urgent ≡ false → IsVersion (step params n state line).reply → ⊥)
    → Puts (is_urgent ≡ false) tells params begin served' before now
puts_line tells is_urgent params begin state n served served' line before now p number reached more urgent =
    let so_far = p.none tt in
    record {
      first = p.first;
      waiting = p.waiting ++ line ∷ [];
      cut = more ∙ (ap (λ (ls : List (List ℕ)). ls ++ line ∷ []) p.cut ∙ append_assoc p.first p.waiting (line ∷ []));
      wrote = p.wrote;
      last = inr (record { before = p.waiting; line = line; cut = refl; nothing = so_far });
      none = λ calm.
          let served_so = ap (λ (ls : List (List ℕ)). length (state_after params 1 begin ls).history) p.cut in
          let all = ap (λ (ls : List (List ℕ)). length (state_after params 1 begin ls).history)
          (ap (λ (ls : List (List ℕ)). ls ++ line ∷ []) p.cut ∙ append_assoc p.first p.waiting (line ∷ [])) in
          let begun = ap (λ (s : State). length s.history) reached in
          let after = ap (λ (s : State). length s.history) (after_line params begin state n served line number reached) in
          let adds = line_none params n state (input params line) (urgent calm) in
          omega (arith, so_far, served_so, all, begun, after, adds);
    }

-- the run ends, and of what was gathered a part is put
all_but_one : (none_waits : Type 0) (tells : Bool) (params : Params) (begin : State) (served begun : List (List ℕ)) (before now written' gathered : List ℕ)
    → (p : Puts none_waits tells params begin served before now) → IsTrue tells → WritesPart now written' gathered
    → PutNothing params begin p.first p.waiting ⊎ ((begun ≡ []) × LastMayPut params begin p.first p.waiting)
    → PutsAllButOne params begin served begun before written'
all_but_one none_waits tells params begin served begun before now written' gathered p told part last = record {
  first = p.first;
  later = p.waiting;
  more = part.out;
  cut = p.cut;
  wrote = part.wrote ∙ (ap (λ (t : List ℕ). t ++ part.out) (p.wrote told) ∙ append_assoc before (replies params 1 begin p.first) part.out);
  last = last;
}

-- between two lines
pub puts_between : (none_waits : Type 0) (tells : Bool) (params : Params) (begin : State) (served : List (List ℕ)) (before now written' gathered : List ℕ)
    → Puts none_waits tells params begin served before now → IsTrue tells → WritesPart now written' gathered
    → PutsAllButOne params begin served [] before written'
puts_between none_waits tells params begin served before now written' gathered p told part =
    all_but_one none_waits tells params begin served [] before now written' gathered p told part
    (elim p.last [ inl nothing ↦ inl nothing | inr last ↦ inr (refl, last) ])

-- in a line
pub puts_within : (tells : Bool) (params : Params) (begin : State) (served : List (List ℕ)) (line before now written' gathered : List ℕ)
    → Puts ⊤ tells params begin served before now → IsTrue tells → WritesPart now written' gathered
    → PutsAllButOne params begin served (line ∷ []) before written'
puts_within tells params begin served line before now written' gathered p told part =
    all_but_one ⊤ tells params begin served (line ∷ []) before now written' gathered p told part (inl (p.none tt))
