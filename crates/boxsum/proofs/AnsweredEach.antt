-- Lines of an input were answered and none changed anything: which they were, and what was written, by the status.
use Rattle.std.proofs.Common.{◌≡◌, ◌≢◌, ℕ, ◌+◌, ◌≤◌, IsTrue, List, [], ◌∷◌, ◌++◌, length, inl, refl, sym, ◌∙◌, ap, subst, append_assoc, add-zero, arith}
use Rattle.std.proofs.lemmas.List.{append-nil}
use Rattle.ports.specs.Written.{WritesPart}
use Rattle.ports.specs.declared.Source.{Ghosts as SourceGhosts}
use Rattle.ports.specs.declared.Sink.{Ghosts as SinkGhosts}
use Rattle.line_reader.specs.Lines.{lines}
use Rattle.page_disk.specs.declared.disk.Area.{Area}
use Rattle.row_machine.specs.Answering.{AnswersLines, replies_by, reply_within}
use Rattle.row_machine.specs.Serving.{IsFlushed}
use Rattle.row_machine.specs.declared.ending.Ending.{Ending}
use Rattle.row_machine.specs.declared.ending.Ending.TheVariants as ending
use Rattle.boxsum.specs.Answering.{AnswersEach}
use Rattle.boxsum.specs.Ran.{HasPortCause, WritesText}
use Rattle.boxsum.specs.Statuses.{status_of}
use Rattle.boxsum.specs.declared.status.Status.{Status}
use Rattle.boxsum.specs.declared.status.Status.TheVariants as status
use Rattle.boxsum.proofs.Endings.{ending_of, ends_between, flushes, input_ending, input_flushes, no_ending, only_fine, run_ends}

module _ (reply : ℕ → List ℕ → List ℕ) where
  -- after some lines the replies go on from the number that these lines leave
  replies_by-append : (n : ℕ) (xs ys : List (List ℕ)) → replies_by reply n (xs ++ ys) ≡ replies_by reply n xs ++ replies_by reply (n + length xs) ys
  replies_by-append n [] ys = ap (λ (m : ℕ). replies_by reply m ys) (sym (add-zero n))
  replies_by-append n (x ∷ xs) ys =
      let number : n + 1 + length xs ≡ n + length (x ∷ xs) = omega arith in
      ap (λ (t : List ℕ). reply_within reply n x ++ t) (replies_by-append (n + 1) xs ys)
      ∙ (sym (append_assoc (reply_within reply n x) (replies_by reply (n + 1) xs) (replies_by reply (n + 1 + length xs) ys))
      ∙ ap (λ (m : ℕ). (reply_within reply n x ++ replies_by reply (n + 1) xs) ++ replies_by reply m ys) number)

  -- what is a part of the replies to the first lines is a part of the replies to all
  part_of_all : (before after : List ℕ) (all first later : List (List ℕ)) → all ≡ first ++ later → WritesPart before after (replies_by reply 1 first) → WritesPart before after (replies_by reply 1 all)
  part_of_all before after all first later cut w = record {
    out = w.out;
    rest = w.rest ++ replies_by reply (1 + length first) later;
    wrote = w.wrote;
    part = ap (replies_by reply 1) cut
        ∙ (replies_by-append 1 first later
        ∙ (ap (λ (t : List ℕ). t ++ replies_by reply (1 + length first) later) w.part
        ∙ append_assoc w.out w.rest (replies_by reply (1 + length first) later)));
  }

-- where none was begun and none is left, all were answered
all_answered : (all answered begun rest : List (List ℕ)) → all ≡ answered ++ (begun ++ rest) → begun ≡ [] → rest ≡ [] → answered ≡ all
all_answered all answered begun rest cut none over =
    sym (cut ∙ (ap (λ (ls : List (List ℕ)). answered ++ (ls ++ rest)) none ∙ (ap (λ (ls : List (List ℕ)). answered ++ ls) over ∙ append-nil answered)))

module _ {S K : Type 0} (s : SourceGhosts S) (k : SinkGhosts K) (source source' : S) (sink sink' : K) (e : Ending) where
  -- The lines of the source were answered, from so many reads to so many.
  abbrev pub AnswersSource : (ℕ → List ℕ → List ℕ) → (List ℕ → ℕ) → ℕ → ℕ → Type 0
  AnswersSource reply cost first last =
      AnswersLines reply cost (k.tells sink) (k.tells sink') (s.tells source') (s.left source) (s.left source') e (k.written sink) (k.written sink') first last

module _ {S K : Type 0} (s : SourceGhosts S) (k : SinkGhosts K) (source source' : S) (sink sink' : K) (e : Ending) (ended : Status) (is : ended ≡ status_of e)
    (reply : ℕ → List ℕ → List ℕ) (cost : List ℕ → ℕ) (flushed : IsFlushed e → IsTrue (k.tells sink) → IsTrue (k.tells sink')) where
  -- which lines were answered, by the status
  pub answers_each : (first last from : ℕ) → first ≤ from → AnswersSource s k source source' sink sink' e reply cost first last
      → AnswersEach reply cost (s.left source) (s.left source') (s.tells source') ended (k.tells sink) (k.tells sink') (k.written sink) (k.written sink') from last
  answers_each first last from opening a = record {
    answered = a.answered;
    cut_off = a.begun;
    rest = a.rest;
    cut = a.cut;
    one = a.one;
    none_cut_off = λ ends. a.between (ends_between e ended is ends);
    all = λ fine. a.fine (ending_of e ending.Fine ended status.Fine is fine refl);
    whole_lines = λ why. a.taken (input_ending e ended is why);
    read = a.read;
    part = a.wrote;
    wrote = λ put disk tells. let all = flushes e ended is put disk in (flushed all tells, a.flushed all tells);
    most = let most = a.reads in omega (arith, most, opening);
  }

  -- and what was written of the text of all of them: where the input ends, that of all whole lines that were taken
  pub writes_text : (first last : ℕ) → (IsTrue (s.tells source) → AnswersSource s k source source' sink sink' e reply cost first last) → ((page : ℕ) → e ≢ ending.Damaged page) → HasPortCause s k source source' sink sink' ended
      → WritesText s k source source' sink sink' ended (λ bytes. replies_by reply 1 (lines bytes))
  writes_text first last answered sound causes =
      let undamaged : (area : Area) (page : ℕ) → ended ≢ status.Damaged area page =
      λ area page so. sound page (ending_of e (ending.Damaged page) ended (status.Damaged area page) is so refl) in
      record {
        fine = λ fine told tells.
            let a = answered told in
            let so = ending_of e ending.Fine ended status.Fine is fine refl in
            let all = subst (λ (x : Ending). IsFlushed x) (sym so) tt in (
              flushed all tells,
              a.flushed all tells ∙ ap (λ (ls : List (List ℕ)). k.written sink ++ replies_by reply 1 ls)
                  (all_answered (lines (s.left source)) a.answered a.begun a.rest a.cut (a.between (ends_between e ended is (inl fine))) (a.fine so)),
            );
        part = λ told tells still. let a = answered told in part_of_all reply (k.written sink) (k.written sink') (lines (s.left source)) a.answered (a.begun ++ a.rest) a.cut (a.wrote tells still);
        whole_lines = λ why told left_told tells.
            let a = answered told in
            let so = input_ending e ended is why in
            let all = input_flushes e so in
            let w = a.taken so left_told in
            (flushed all tells, record { taken = w.taken; cut = w.cut; wrote = a.flushed all tells ∙ ap (λ (ls : List (List ℕ)). k.written sink ++ replies_by reply 1 ls) w.whole });
        undamaged = undamaged;
        complete = λ told short source sink other limit.
            only_fine ended (run_ends e ended is) (λ so. no_ending e ended status.NoWarehouse is so refl)
            (λ so. source (causes.read_fault so)) (λ so. sink (causes.write_fault so)) other undamaged
            (λ taken so. let over = (causes.input_limit taken so).1 told in omega arith) limit;
      }
