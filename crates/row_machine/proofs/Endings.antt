-- What follows from how a run ended.
use Rattle.std.proofs.Common.{◌≡◌, ℕ, ◌+◌, Bool, true, IsTrue, List, [], ◌∷◌, ◌++◌, length, inl, inr, refl, sym, ◌∙◌, ap, subst, append_assoc, arith, length-append}
use Rattle.std.proofs.lemmas.List.{append-nil}
use Rattle.bw_types.specs.History.{History}
use Rattle.bw_types.specs.declared.params.Params.{Params}
use Rattle.line_reader.specs.Lines.{lines}
use Rattle.csv_rows.specs.Machine.{State, replies, state_after}
use Rattle.warehouse.specs.declared.house.House.{Ghosts}
use Rattle.row_machine.specs.declared.ending.RunEnd.{RunEnd}
use Rattle.row_machine.specs.declared.ending.Ending.{Ending}
use Rattle.row_machine.specs.declared.ending.Ending.TheVariants.{Fine, ReadFault, WriteFault, NoMemory, InputLimit, DiskFault, Damaged, PageLimit}
use Rattle.row_machine.specs.Housed.{GoesOnFrom, Settled}
use Rattle.ports.specs.Written.{WritesPart}
use Rattle.row_machine.specs.Serving.{Ends, IsBetweenLines, IsFlushed, IsInputEnding}
use Rattle.row_machine.specs.Ended.{Served, ServedWhole, WithinAll}
use Rattle.row_machine.proofs.Housing.{after_goes_on, goes_on_twice, only_wider, settled_wider}
use Rattle.row_machine.proofs.Lasting.{which_goes}
use Rattle.row_machine.proofs.Replies.{replies-append, state_after-append}

no_batches : (h : History) → length h ≡ 0 → h ≡ []
no_batches [] e = refl
no_batches (b ∷ bs) e = absurd (omega arith)

-- a history that goes on from another one, from which that goes on too, is the same
same_history : (a b : History) → GoesOnFrom a b → GoesOnFrom b a → b ≡ a
same_history a b f g =
    let more : length b ≡ length a + length f.later = ap length f.goes_on ∙ length-append a f.later in
    let less : length a ≡ length b + length g.later = ap length g.goes_on ∙ length-append b g.later in
    f.goes_on ∙ (ap (λ (t : History). a ++ t) (no_batches f.later (omega arith)) ∙ append-nil a)

-- where the input ends a run, it ends between two lines, all replies are put, and the device did not fail
input_between : (ending : Ending) → IsInputEnding ending → IsBetweenLines ending × IsFlushed ending
input_between ReadFault i = (tt, tt)
input_between (InputLimit taken) i = (tt, tt)
input_between Fine i = absurd i
input_between WriteFault i = absurd i
input_between NoMemory i = absurd i
input_between DiskFault i = absurd i
input_between (Damaged page) i = absurd i
input_between (PageLimit allotted) i = absurd i

between_calm : (ending : Ending) → IsBetweenLines ending → ending ≡ DiskFault → ⊥
between_calm ending b e = subst (λ (s : Ending). IsBetweenLines s) e b

module _ {H D : Type 0} (g : Ghosts H D) (whole tells tells' still : Bool) (params : Params) (begin : State) (input left : List ℕ) (before : D) (ran : RunEnd D) (written written' : List ℕ) where
  pub in_part : Ends g whole tells tells' still params begin input left before ran written written' → IsTrue tells → IsTrue tells'
      → WritesPart written written' (replies params 1 begin (lines input))
  in_part e told still' =
      let part = e.wrote told still' in
      let later : List ℕ = replies params (1 + length e.served) (state_after params 1 begin e.served) (e.begun ++ e.rest) in
      record {
        out = part.out;
        rest = part.rest ++ later;
        wrote = part.wrote;
        part = ap (replies params 1 begin) e.cut ∙ (replies-append params 1 begin e.served (e.begun ++ e.rest)
            ∙ (ap (λ (t : List ℕ). t ++ later) part.part ∙ append_assoc part.out part.rest later));
      }

  -- between two lines the history that is sure is that after the lines served
  pub sure_between : (e : Ends g whole tells tells' still params begin input left before ran written written') → IsBetweenLines ran.ending
      → e.sure ≡ (state_after params 1 begin e.served).history
  sure_between e b = elim e.which [
    | inl same ↦ same
    | inr begun ↦ begun ∙ ap (λ (ls : List (List ℕ)). (state_after params 1 begin ls).history) (ap (λ (ls : List (List ℕ)). e.served ++ ls) (e.between b) ∙ append-nil e.served)
  ]

  -- the lines served whole, where the run ends between two lines
  served_so_far : (e : Ends g whole tells tells' still params begin input left before ran written written') → IsBetweenLines ran.ending → IsFlushed ran.ending
      → Served g whole tells tells' params begin e.served ran written written'
  served_so_far e between flushed = record {
    wrote = λ told still'. e.flushed flushed told still';
    stands = subst (λ (h : History). g.stands whole ran.device params h) (sure_between e between) (e.stands (between_calm ran.ending between));
  }

  -- at the end all lines were served
  all_served : (e : Ends g whole tells tells' still params begin input left before ran written written') → ran.ending ≡ Fine → e.served ≡ lines input
  all_served e fine =
      let none = e.between (subst (λ (s : Ending). IsBetweenLines s) (sym fine) tt) in
      sym (e.cut ∙ (ap (λ (t : List (List ℕ)). e.served ++ t) (ap (λ (t : List (List ℕ)). t ++ e.rest) none ∙ e.fine fine) ∙ append-nil e.served))

  pub fine_serves : Ends g whole tells tells' still params begin input left before ran written written' → ran.ending ≡ Fine
      → Served g whole tells tells' params begin (lines input) ran written written'
  fine_serves e fine =
      subst (λ (ls : List (List ℕ)). Served g whole tells tells' params begin ls ran written written') (all_served e fine)
      (served_so_far e (subst (λ (s : Ending). IsBetweenLines s) (sym fine) tt) (subst (λ (s : Ending). IsFlushed s) (sym fine) tt))

  pub input_serves : Ends g whole tells tells' still params begin input left before ran written written' → IsInputEnding ran.ending → IsTrue still
      → ServedWhole g whole tells tells' params begin input left ran written written'
  input_serves e i told =
      let taken = e.taken i told in
      let ends = input_between ran.ending i in
      record {
        taken = taken.taken;
        cut = taken.cut;
        served = subst (λ (ls : List (List ℕ)). Served g whole tells tells' params begin ls ran written written') taken.whole (served_so_far e ends.0 ends.1);
      }

module _ {H D : Type 0} (g : Ghosts H D) (tells tells' still : Bool) (params : Params) (begin : State) (input left : List ℕ) (before : D) (ran : RunEnd D) (written written' : List ℕ) where
  pub fine_settles : Ends g true tells tells' still params begin input left before ran written written' → ran.ending ≡ Fine
      → Settled g params begin.history before → Settled g params (state_after params 1 begin (lines input)).history ran.device
  fine_settles e fine settled = λ x left_so.
      let all : History = (state_after params 1 begin (lines input)).history in
      let between = subst (λ (s : Ending). IsBetweenLines s) (sym fine) tt in
      let served : (ls : List (List ℕ)) → ls ≡ e.served → (state_after params 1 begin ls).history ≡ all =
      λ ls is. ap (λ (ms : List (List ℕ)). (state_after params 1 begin ms).history) (is ∙ all_served g true tells tells' still params begin input left before ran written written' e fine) in
      let sure : e.sure ≡ all = sure_between g true tells tells' still params begin input left before ran written written' e between ∙ served e.served refl in
      let begun : e.served ++ e.begun ≡ e.served = ap (λ (ls : List (List ℕ)). e.served ++ ls) (e.between between) ∙ append-nil e.served in
      let k = e.settled refl settled x left_so in
      let same : k.between ≡ all = same_history all k.between (subst (λ (h : History). GoesOnFrom h k.between) sure k.begins)
      (subst (λ (h : History). GoesOnFrom k.between h) (served (e.served ++ e.begun) begun) k.within) in
      subst (λ (h : History). g.keeps x params h) same k.keeps

  -- whatever is sure, or may be left, lies between the first history and the last
  pub within_all : (e : Ends g true tells tells' still params begin input left before ran written written') → WithinAll g params begin input before e.sure ran
  within_all e =
      let both = e.served ++ e.begun in
      let step : GoesOnFrom (state_after params 1 begin e.served).history (state_after params 1 begin both).history =
      subst (λ (s : State). GoesOnFrom (state_after params 1 begin e.served).history s.history) (sym (state_after-append params 1 begin e.served e.begun)) (after_goes_on params (1 + length e.served) (state_after params 1 begin e.served) e.begun) in
      let lines_are : lines input ≡ both ++ e.rest = e.cut ∙ sym (append_assoc e.served e.begun e.rest) in
      let rest : GoesOnFrom (state_after params 1 begin both).history (state_after params 1 begin (lines input)).history =
      subst (λ (s : State). GoesOnFrom (state_after params 1 begin both).history s.history) (sym (ap (state_after params 1 begin) lines_are ∙ state_after-append params 1 begin both e.rest)) (after_goes_on params (1 + length both) (state_after params 1 begin both) e.rest) in
      let sure = which_goes (state_after params 1 begin e.served).history (state_after params 1 begin both).history e.sure e.which step in
      record {
        begins = goes_on_twice _ _ _ (after_goes_on params 1 begin e.served) sure.0;
        within = goes_on_twice _ _ _ sure.1 rest;
        any_moment = only_wider g params _ _ _ _ _ rest (e.any_moment refl);
        settled = λ s. settled_wider g params _ _ _ _ rest (e.settled refl s);
      }
