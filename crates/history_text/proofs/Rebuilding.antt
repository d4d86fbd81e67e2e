-- The machine of the rows, on the rows of a history: it makes the history again.
use Rattle.std.proofs.Common.{◌≡◌, ℕ, suc, ◌+◌, ◌<◌, ◌≤◌, Bool, true, false, ◌==◌, is_none, List, [], ◌∷◌, ◌++◌, length, map, replicate, Option, Some, None, refl, sym, ◌∙◌, ap, ap₂, arith, if◌then◌else◌, codes, append_assoc, append-nil, lt-ltb, leb-true}
use Rattle.std.specs.List.{AllByRecursion, flat_map, list_all, range_with_len}
use Rattle.std.proofs.lemmas.Bool.{and_parts}
use Rattle.std.proofs.lemmas.List.{length_push}
use Rattle.std.proofs.lemmas.List.Elements.{recursion_from_All}
use Rattle.bw_types.specs.Fits.{IsInRange, row_fits}
use Rattle.bw_types.specs.History.{History, changes, flat, last_version}
use Rattle.bw_types.specs.Lawful.{AreLawfulAfter, IsLawfulBatch, staged_rows}
use Rattle.bw_types.specs.Refusals.{first_refusal}
use Rattle.bw_types.specs.declared.change.Change.{Change}
use Rattle.bw_types.specs.declared.change.Change.TheVariants as change
use Rattle.bw_types.specs.declared.params.Params.{Params}
use Rattle.bw_types.specs.declared.row.Row.{Row}
use Rattle.bw_types.specs.declared.row.Row.TheVariants as row
use Rattle.csv_rows.specs.Input.{input}
use Rattle.csv_rows.specs.Machine.{State, Step, commit_step, line_step, replied, replies, state_after, step}
use Rattle.csv_rows.specs.Replies.{reply_text}
use Rattle.csv_rows.specs.declared.input.Input.TheVariants.{Stage}
use Rattle.csv_rows.specs.declared.reply.Reply.TheVariants.{Version, Full}
use Rattle.history_laws.proofs.Staging.{flat_staged}
use Rattle.line_reader.specs.Lines.{lines}
use Rattle.history_text.specs.Rebuilt.{ChangeHasSizes, RowsRebuild}
use Rattle.history_text.specs.Rows.{batch_text, row_text, rows_of}
use Rattle.history_text.proofs.LinesApart.{first_line}
use Rattle.history_text.proofs.RowFields.{row_above, row_is_line, row_line}
use Rattle.history_text.proofs.RowsRead.{RowHasSizes, commit_read, row_read}

-- a history with these rows staged in session 1
abbrev held : History → List Row → State
held g rows = record { history = g; staged = rows ∷ replicate 15 [] }

-- a row more is staged, or none
abbrev more_staged : History → List Row → Row → Step
more_staged g rows r = record { state = held g (rows ++ r ∷ []); reply = None }

-- the session is full
abbrev none_more : ℕ → History → List Row → Step
none_more n g rows = record { state = held g rows; reply = Some (Full n) }

-- the step on the line of a row
stage_read : (params : Params) (n : ℕ) (g : History) (rows : List Row) (r : Row) (line : List ℕ) → input params line ≡ Some (Stage 1 r) → length rows < 4096
    → step params n (held g rows) line ≡ more_staged g rows r
stage_read params n g rows r line is few =
    ap (line_step params n (held g rows)) is ∙ ap (λ (test : Bool). if test then more_staged g rows r else none_more n g rows) (lt-ltb (length rows) 4096 few)

-- the batch is put last, and its version is replied
abbrev committed : History → List Change → Step
committed g batch = record { state = held (g ++ batch ∷ []) []; reply = Some (Version (last_version g + 1)) }

-- the step on a commit that is not refused
commit_step_is : (params : Params) (n : ℕ) (g : History) (rows : List Row) → first_refusal params g rows ≡ None → step params n (held g rows) (codes "commit,1") ≡ committed g (flat rows)
commit_step_is params n g rows none = ap (line_step params n (held g rows)) (commit_read params) ∙ ap (commit_step (held g rows) 1) none

-- From one state the lines reply this text, and then what the later lines reply from the later state on.
record LeadsTo (params : Params) (n : ℕ) (s : State) (ls : List (List ℕ)) (out : List ℕ) (m : ℕ) (t : State) (more : List (List ℕ)) : Type 0 where
  said : replies params n s ls ≡ out ++ replies params m t more
  left : state_after params n s ls ≡ state_after params m t more

-- the line of the row is read as that row in session 1
abbrev IsRead : Params → Row → Type 0
IsRead params r = input params (row_line params r) ≡ Some (Stage 1 r)

-- the lines of some rows stage them
rows_lead : (params : Params) (g : History) (rows before : List Row) (n : ℕ) (more : List (List ℕ)) → AllByRecursion (IsRead params) rows → length before + length rows ≤ 4096
    → LeadsTo params n (held g before) (map (row_line params) rows ++ more) [] (n + length rows) (held g (before ++ rows)) more
rows_lead params g [] before n more are few =
    let same : n ≡ n + 0 = omega arith in
    record {
      said = ap₂ (λ (k : ℕ) (b : List Row). replies params k (held g b) more) same (sym (append-nil before));
      left = ap₂ (λ (k : ℕ) (b : List Row). state_after params k (held g b) more) same (sym (append-nil before));
    }
rows_lead params g (r ∷ rows) before n more are few =
    let one = stage_read params n g before r (row_line params r) are.0 (omega arith) in
    let longer : length (before ++ r ∷ []) ≡ length before + 1 = length_push before r in
    let rest = rows_lead params g rows (before ++ r ∷ []) (n + 1) more are.1 (omega (arith, longer, few)) in
    let number : (n + 1) + length rows ≡ n + suc (length rows) = omega arith in
    record {
      said = ap (λ (t : Step). replied t.reply ++ replies params (n + 1) t.state (map (row_line params) rows ++ more)) one ∙ rest.said
          ∙ ap₂ (λ (k : ℕ) (b : List Row). replies params k (held g b) more) number (append_assoc before (r ∷ []) rows);
      left = ap (λ (t : Step). state_after params (n + 1) t.state (map (row_line params) rows ++ more)) one ∙ rest.left
          ∙ ap₂ (λ (k : ℕ) (b : List Row). state_after params k (held g b) more) number (append_assoc before (r ∷ []) rows);
    }

-- the lines of the texts of some rows
rows_lines : (params : Params) (rows : List Row) (rest : List ℕ) → lines (flat_map (row_text params) rows ++ rest) ≡ map (row_line params) rows ++ lines rest
rows_lines params [] rest = refl
rows_lines params (r ∷ rows) rest =
    let others = flat_map (row_text params) rows in
    ap lines (append_assoc (row_text params r) others rest ∙ ap (λ (l : List ℕ). l ++ (others ++ rest)) (row_is_line params r) ∙ append_assoc (row_line params r) (10 ∷ []) (others ++ rest))
    ∙ first_line (row_line params r) (others ++ rest) (row_above params r)
    ∙ ap (λ (ls : List (List ℕ)). row_line params r ∷ ls) (rows_lines params rows rest)

-- the lines of the text of a batch
batch_lines : (params : Params) (batch : List Change) (rest : List ℕ) → lines (batch_text params batch ++ rest) ≡ map (row_line params) (staged_rows batch) ++ (codes "commit,1" ∷ lines rest)
batch_lines params batch rest =
    ap lines (append_assoc (flat_map (row_text params) (staged_rows batch)) (codes "commit,1\n") rest)
    ∙ rows_lines params (staged_rows batch) (codes "commit,1\n" ++ rest)
    ∙ ap (λ (ls : List (List ℕ)). map (row_line params) (staged_rows batch) ++ ls) (first_line (codes "commit,1") rest refl)

-- The rows of a lawful batch have sizes, as its changes have, and are read.
staged_sizes : (cs : List Change) → AllByRecursion ChangeHasSizes cs → AllByRecursion RowHasSizes (staged_rows cs)
staged_sizes [] sizes = tt
staged_sizes (change.Add o ∷ cs) sizes = (sizes.0, staged_sizes cs sizes.1)
staged_sizes (change.Withdraw id ∷ []) sizes = (sizes.0, tt)
staged_sizes (change.Withdraw id ∷ change.Withdraw other ∷ cs) sizes = (sizes.0, staged_sizes (change.Withdraw other ∷ cs) sizes.1)
staged_sizes (change.Withdraw id ∷ change.Add o ∷ cs) sizes =
    elim (o.id == id) as (λ test. AllByRecursion RowHasSizes (if test then row.Move o ∷ staged_rows cs else row.Withdraw id ∷ row.Add o ∷ staged_rows cs)) [
      | true ↦ (sizes.1.0, staged_sizes cs sizes.1.1)
      | false ↦ (sizes.0, (sizes.1.0, staged_sizes cs sizes.1.1))
    ]

-- each row that fits is read
rows_read : (params : Params) (rows : List Row) → IsInRange params → AllByRecursion RowHasSizes rows → list_all (row_fits params) rows ≡ true → AllByRecursion (IsRead params) rows
rows_read params [] range sizes fit = tt
rows_read params (r ∷ rows) range sizes fit =
    let both = and_parts (row_fits params r) (list_all (row_fits params) rows) fit in
    (row_read params r range sizes.0 both.0, rows_read params rows range sizes.1 both.1)

-- there is no refusal
none_is : {A : Type 0} (o : Option A) → is_none o ≡ true → o ≡ None
none_is None e = refl
none_is (Some a) e = absurd cc

-- the text of a lawful batch puts it last
batch_leads : (params : Params) (n : ℕ) (g : History) (batch : List Change) (rest : List ℕ) → IsInRange params → IsLawfulBatch params g batch → AllByRecursion ChangeHasSizes batch
    → LeadsTo params n (held g []) (lines (batch_text params batch ++ rest)) (reply_text (Version (last_version g + 1))) (n + length (staged_rows batch) + 1) (held (g ++ batch ∷ []) []) (lines rest)
batch_leads params n g batch rest range lawful sizes =
    let rows = staged_rows batch in
    let few : length rows ≤ 4096 = leb-true (length rows) 4096 lawful.size in
    let are = rows_read params rows range (staged_sizes batch sizes) lawful.fits in
    let cut = batch_lines params batch rest in
    let staged = rows_lead params g rows [] n (codes "commit,1" ∷ lines rest) are (omega (arith, few)) in
    let m = n + length rows in
    let commit : step params m (held g rows) (codes "commit,1") ≡ committed g batch =
    commit_step_is params m g rows (none_is (first_refusal params g rows) lawful.accepted) ∙ ap (committed g) (flat_staged batch) in
    record {
      said = ap (replies params n (held g [])) cut ∙ staged.said ∙ ap (λ (t : Step). replied t.reply ++ replies params (m + 1) t.state (lines rest)) commit;
      left = ap (state_after params n (held g [])) cut ∙ staged.left ∙ ap (λ (t : Step). state_after params (m + 1) t.state (lines rest)) commit;
    }

-- the changes of a front, and those behind it
first_sizes : (xs ys : List Change) → AllByRecursion ChangeHasSizes (xs ++ ys) → AllByRecursion ChangeHasSizes xs × AllByRecursion ChangeHasSizes ys
first_sizes [] ys sizes = (tt, sizes)
first_sizes (x ∷ xs) ys sizes = let both = first_sizes xs ys sizes.1 in ((sizes.0, both.0), both.1)

-- the replies with versions, from one on
abbrev version_text : ℕ → List ℕ
version_text version = reply_text (Version version)

-- The rows of a history that is lawful after another one put it behind that, and each version is replied.
record RebuildsBehind (params : Params) (n : ℕ) (g h : History) : Type 0 where
  said : replies params n (held g []) (lines (rows_of params h)) ≡ flat_map version_text (range_with_len (last_version g + 1) (last_version h))
  left : (state_after params n (held g []) (lines (rows_of params h))).history ≡ g ++ h

-- one batch after the other
rebuilds : (params : Params) (n : ℕ) (g h : History) → IsInRange params → AreLawfulAfter params g h → AllByRecursion ChangeHasSizes (changes h) → RebuildsBehind params n g h
rebuilds params n g [] range lawful sizes = record { said = refl; left = sym (append-nil g) }
rebuilds params n g (batch ∷ batches) range lawful sizes =
    let both = first_sizes batch (changes batches) sizes in
    let first = batch_leads params n g batch (rows_of params batches) range lawful.0 both.0 in
    let m = n + length (staged_rows batch) + 1 in
    let rest = rebuilds params m (g ++ batch ∷ []) batches range lawful.1 both.1 in
    let longer : last_version (g ++ batch ∷ []) ≡ last_version g + 1 = length_push g batch in
    record {
      said = first.said ∙ ap (λ (l : List ℕ). version_text (last_version g + 1) ++ l)
          (rest.said ∙ ap (λ (version : ℕ). flat_map version_text (range_with_len (version + 1) (last_version batches))) longer);
      left = ap (λ (t : State). t.history) first.left ∙ rest.left ∙ append_assoc g (batch ∷ []) batches;
    }

-- The rows of a lawful history make it again.
pub rows_rebuild : RowsRebuild
rows_rebuild params h range lawful sizes =
    let whole = rebuilds params 1 [] h range lawful (recursion_from_All ChangeHasSizes (changes h) sizes) in
    record { history = whole.left; replies = whole.said }
