-- What a read of the line that comes next does to a reader that is kept.
use Rattle.std.proofs.Common.{◌≡◌, ℕ, ◌+◌, ◌≤◌, true, List, [], ◌∷◌, ◌++◌, length, drop, Option, Some, None, sym, ap, ◌∙◌, arith, append_assoc, inl}
use Rattle.std.proofs.lemmas.List.{drop-drop, length-append, length-drop}
use Rattle.std.proofs.Math.Seq.{drop-append_seam}
use Rattle.csv.specs.Machine.{next_record}
use Rattle.csv.specs.Reading.{ReadRecord, ReadsNext, default_config, is_flexible, pending_of, took_first}
use Rattle.csv.specs.declared.parser.State.{State}
use Rattle.csv.specs.declared.parser.State.TheVariants as st
use Rattle.csv.specs.declared.reader.Reader.{Reader}
use Rattle.csv_rows.specs.Feed.{Stands}
use Rattle.csv_rows.specs.Fields.{line_fields}
use Rattle.csv_rows.proofs.CsvReads.{has-fields, reads-line}

-- what is read where what comes next is known
found-next : (text rest : List ℕ) (fields read : List (List ℕ)) (s : State) (left : Option (List ℕ)) → next_record default_config st.StartRecord [] [] text ≡ Some (read, st.StartRecord, rest)
    → ReadsNext default_config st.StartRecord (Some text) left true fields s → (left ≡ Some rest) × (s ≡ st.StartRecord) × (fields ≡ read)
found-next text rest fields read s None e h = absurd h
found-next text rest fields read s (Some ys) e h =
    let found = rw e at h in
    (ap Some found.3, found.2, found.1)

-- the reader stands behind the line, whose fields it has given
pub reads-next : {R : Type 0} (rem : R → Option (List ℕ)) (a b : Reader R) (text line rest : List ℕ) (fields contents : List (List ℕ)) → Stands rem a text → text ≡ 44 ∷ line ++ 10 ∷ rest → line_fields line ≡ Some contents
    → is_flexible b ≡ is_flexible a → took_first b ≡ true → ReadRecord rem a b true fields
    → Stands rem b rest × (fields ≡ [] ∷ contents)
reads-next rem a b text line rest fields contents stands begins has flexible first r =
    let (config, trim, loose, ready, state, source) = stands in
    let (whole, found) = has-fields line contents has in
    let next : next_record default_config st.StartRecord [] [] text ≡ Some ([] ∷ contents, st.StartRecord, rest) = rw begins (reads-line rest line contents whole found) in
    let (left, at_start, are) = found-next text rest fields ([] ∷ contents) b.state (pending_of (rem b.rdr) b) next (rw (config, state, source) at r.0) in
    ((r.2 ∙ config, r.3 ∙ trim, flexible ∙ loose, inl first, at_start, rw r.1 left), are)

-- the text behind the line
pub behind-line : (text line rest : List ℕ) (at : ℕ) → drop at text ≡ 44 ∷ line ++ 10 ∷ rest → drop (at + (length line + 2)) text ≡ rest
behind-line text line rest at e =
    let parts : drop at text ≡ (44 ∷ line ++ 10 ∷ []) ++ rest = e ∙ ap (λ l. 44 ∷ l) (sym (append_assoc line (10 ∷ []) rest)) in
    let size : length (44 ∷ line ++ 10 ∷ []) ≡ length line + 2 = omega (arith, length-append line (10 ∷ [])) in
    sym (drop-drop (length line + 2) at text) ∙ ap (drop (length line + 2)) parts ∙ ap (λ n. drop n ((44 ∷ line ++ 10 ∷ []) ++ rest)) (sym size) ∙ drop-append_seam (44 ∷ line ++ 10 ∷ []) rest

-- the text holds the line
pub within-text : (text line rest : List ℕ) (at : ℕ) → at ≤ length text → drop at text ≡ 44 ∷ line ++ 10 ∷ rest → at + (length line + 2) ≤ length text
within-text text line rest at inside e =
    let size : length (drop at text) ≡ length (44 ∷ line ++ 10 ∷ rest) = ap length e in
    omega (arith, size, length-drop at text, length-append line (10 ∷ rest), inside)
