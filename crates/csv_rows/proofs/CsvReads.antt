-- How `csv` reads a line whose parts have contents, and a line feed behind it.
use Rattle.std.proofs.Common.{◌≡◌, ℕ, ◌⊎◌, Bool, true, false, cond, eqb, inl, inr, List, [], ◌∷◌, ◌++◌, Option, Some, None, refl, sym, ap, ◌∙◌, eqb-true, ap₂, append-nil, append_assoc, ◌||◌}
use Rattle.std.proofs.lemmas.Bool.{cases_Bool, or_parts}
use Rattle.std.specs.List.{onto_first}
use Rattle.csv.specs.Machine.{next_record, step, fields_after, field_after, is_end}
use Rattle.csv.specs.Reading.{default_config, strip_bom}
use Rattle.csv.specs.declared.parser.State.{State}
use Rattle.csv.specs.declared.parser.State.TheVariants as st
use Rattle.csv.specs.declared.parser.Action.{Action}
use Rattle.csv.specs.declared.parser.Action.TheVariants as act
use Rattle.csv_rows.specs.Fields.{content_of, contents_of, holds_line_end, holds_quote, line_fields, parts_of}
use Rattle.csv_rows.proofs.QuotedParts.{first-content, plain-shape, quoted-shape}

-- what the rest of a part adds to the field at hand, by the reader's state
abbrev Adds : State → List ℕ → List ℕ → Type 0
Adds st.StartField rest content = content_of rest ≡ Some content
Adds st.InField rest content = (holds_quote rest ≡ false) × (content ≡ rest)
Adds st.InQuoted rest content = (rest ≡ content ++ 34 ∷ []) × (holds_quote content ≡ false)
Adds st.AfterQuote rest content = (rest ≡ []) × (content ≡ [])
Adds _ rest content = ⊥

-- one byte that ends no record
goes-on : (s t : State) (a : Action) (fields : List (List ℕ)) (field : List ℕ) (b : ℕ) (bs : List ℕ) → step default_config s b ≡ (t, a) → is_end a ≡ false
    → next_record default_config s fields field (b ∷ bs) ≡ next_record default_config t (fields_after a fields field) (field_after a b field) bs
unfolding next_record
goes-on s t a fields field b bs e n = rw (e, n) refl

-- the line feed behind the line
at-end : (after : List ℕ) (s : State) (fields : List (List ℕ)) (field content : List ℕ) → Adds s [] content → next_record default_config s fields field (10 ∷ after) ≡ Some (fields ++ (field ++ content) ∷ [], st.StartRecord, after)
unfolding next_record
at-end after st.StartField fields field content h =
    let none : content ≡ [] = cc in
    rw (none, append-nil field) refl
at-end after st.InField fields field content h = rw (h.1, append-nil field) refl
at-end after st.AfterQuote fields field content h = rw (h.1, append-nil field) refl
at-end after st.InQuoted fields field [] h = cc
at-end after st.InQuoted fields field (c ∷ content) h = cc
at-end after _ fields field content h = elim h [ ]

-- the steps at a byte that is no comma and no line end
plain-step : (s : State) (b : ℕ) → (s ≡ st.StartField) ⊎ (s ≡ st.InField) → eqb b 44 ≡ false → eqb b 34 ≡ false → eqb b 10 ≡ false → eqb b 13 ≡ false → step default_config s b ≡ (st.InField, act.Copy)
plain-step s b h comma quote feed return = elim h [ inl e ↦ rw (e, quote, comma, return, feed) refl | inr e ↦ rw (e, comma, return, feed) refl ]

inner-step : (b : ℕ) → eqb b 34 ≡ false → step default_config st.InQuoted b ≡ (st.InQuoted, act.Copy)
inner-step b quote = rw quote refl

comma-step : (s : State) (content : List ℕ) → Adds s [] content → step default_config s 44 ≡ (st.StartField, act.EndField)
comma-step st.StartField content h = refl
comma-step st.InField content h = refl
comma-step st.AfterQuote content h = refl
comma-step st.InQuoted [] h = cc
comma-step st.InQuoted (c ∷ content) h = cc
comma-step _ content h = elim h [ ]

-- what the rest of a part with no byte adds
adds-none : (s : State) (content : List ℕ) → Adds s [] content → content ≡ []
adds-none st.StartField content h = cc
adds-none st.InField content h = h.1
adds-none st.AfterQuote content h = h.1
adds-none st.InQuoted [] h = refl
adds-none st.InQuoted (c ∷ content) h = cc
adds-none _ content h = elim h [ ]

-- the parts of a line, the first apart
a-part : (line : List ℕ) → (part : List ℕ) × (parts : List (List ℕ)) × (parts_of line ≡ part ∷ parts)
a-part [] = ([], [], refl)
a-part (b ∷ bs) =
    let (part, parts, e) = a-part bs in
    elim (eqb b 44) as (λ comma. (part : List ℕ) × (parts : List (List ℕ)) × (cond comma ([] ∷ parts_of bs) (onto_first b (parts_of bs)) ≡ part ∷ parts)) [
      | true ↦ ([], parts_of bs, refl)
      | false ↦ (b ∷ part, parts, rw e refl)
    ]

-- what the line's rest reads as
abbrev Reads : List ℕ → State → List (List ℕ) → List ℕ → List ℕ → List (List ℕ) → Type 0
Reads after s fields field line read = next_record default_config s fields field (line ++ 10 ∷ after) ≡ Some (read, st.StartRecord, after)

-- a state, and the field at hand, go on through a byte that is no comma
through : (s : State) (b : ℕ) (rest content : List ℕ) → Adds s (b ∷ rest) content → eqb b 44 ≡ false → eqb b 10 ≡ false → eqb b 13 ≡ false
    → (t : State) × (a : Action) × (more : List ℕ) × (step default_config s b ≡ (t, a)) × (is_end a ≡ false) × Adds t rest more
    × ((fields : List (List ℕ)) (field : List ℕ) → (fields_after a fields field ≡ fields) × (field_after a b field ++ more ≡ field ++ content))
through st.StartField b rest content h comma feed return =
    elim (cases_Bool (eqb b 34)) [
      | inl quote ↦
          let is : b ≡ 34 = eqb-true b 34 quote in
          (st.InQuoted, act.Skip, content, rw quote refl, refl, quoted-shape rest content (rw is at h), λ fields field. (refl, refl))
      | inr quote ↦
          let (none, own) = plain-shape b rest content quote h in (
            st.InField,
            act.Copy,
            rest,
            plain-step st.StartField b (inl refl) comma quote feed return,
            refl,
            (none, refl),
            λ fields field. (refl, append_assoc field (b ∷ []) rest ∙ ap (λ c. field ++ c) (sym own)),
          )
    ]
through st.InField b rest content h comma feed return =
    let none = or_parts (eqb b 34) (holds_quote rest) h.0 in (
      st.InField,
      act.Copy,
      rest,
      plain-step st.InField b (inr refl) comma none.0 feed return,
      refl,
      (none.1, refl),
      λ fields field. (refl, append_assoc field (b ∷ []) rest ∙ ap (λ c. field ++ c) (sym h.1)),
    )
through st.InQuoted b rest [] h comma feed return =
    let is : b ≡ 34 = cc in
    let last : rest ≡ [] = cc in
    (st.AfterQuote, act.Skip, [], rw is refl, refl, (last, refl), λ fields field. (refl, refl))
through st.InQuoted b rest (c ∷ content) h comma feed return =
    let is : b ≡ c = cc in
    let left : rest ≡ content ++ 34 ∷ [] = cc in
    let none = or_parts (eqb c 34) (holds_quote content) h.1 in (
      st.InQuoted,
      act.Copy,
      content,
      rw is (inner-step c none.0),
      refl,
      (left, none.1),
      λ fields field. (refl, append_assoc field (b ∷ []) content ∙ ap (λ d. field ++ d ∷ content) is),
    )
through st.AfterQuote b rest content h comma feed return = cc
through _ b rest content h comma feed return = elim h [ ]

-- a comma, and then what the rest reads as
reads-comma : (after : List ℕ) (s : State) (fields : List (List ℕ)) (field bs content c : List ℕ) (contents cs : List (List ℕ)) → Adds s [] content → contents ≡ c ∷ cs
    → Reads after st.StartField (fields ++ field ∷ []) [] bs ((fields ++ field ∷ []) ++ c ∷ cs)
    → Reads after s fields field (44 ∷ bs) (fields ++ (field ++ content) ∷ contents)
reads-comma after s fields field bs content c contents cs ended both rest =
    let own : field ≡ field ++ content = rw (adds-none s content ended) (sym (append-nil field)) in
    let same : (fields ++ field ∷ []) ++ c ∷ cs ≡ fields ++ (field ++ content) ∷ contents = append_assoc fields (field ∷ []) (c ∷ cs) ∙ ap₂ (λ content contents. fields ++ content ∷ contents) own (sym both) in
    goes-on s st.StartField act.EndField fields field 44 (bs ++ 10 ∷ after) (comma-step s content ended) refl ∙ rest ∙ ap (λ read. Some (read, st.StartRecord, after)) same

-- a byte that is no comma, and then what the rest reads as
reads-on : (after : List ℕ) (s t : State) (a : Action) (fields : List (List ℕ)) (field : List ℕ) (b : ℕ) (bs more content : List ℕ) (contents : List (List ℕ)) → step default_config s b ≡ (t, a) → is_end a ≡ false
    → fields_after a fields field ≡ fields → field_after a b field ++ more ≡ field ++ content
    → Reads after t (fields_after a fields field) (field_after a b field) bs (fields_after a fields field ++ (field_after a b field ++ more) ∷ contents)
    → Reads after s fields field (b ∷ bs) (fields ++ (field ++ content) ∷ contents)
reads-on after s t a fields field b bs more content contents stepped runs kept joined rest =
    goes-on s t a fields field b (bs ++ 10 ∷ after) stepped runs ∙ rest ∙ ap₂ (λ front own. Some (front ++ own ∷ contents, st.StartRecord, after)) kept joined

-- the rest of a line, from a state whose part and whose other parts have these contents
pub reads-rest : (after line : List ℕ) (s : State) (fields : List (List ℕ)) (field part content : List ℕ) (parts contents : List (List ℕ)) → holds_line_end line ≡ false → parts_of line ≡ part ∷ parts → Adds s part content → contents_of parts ≡ Some contents
    → Reads after s fields field line (fields ++ (field ++ content) ∷ contents)
reads-rest after [] s fields field part content parts contents whole cut h others =
    let none : part ≡ [] = cc in
    let last : parts ≡ [] = cc in
    let no_others = rw last at others in
    let empty : contents ≡ [] = cc in
    rw empty (at-end after s fields field content (rw none at h))
reads-rest after (b ∷ bs) s fields field part content parts contents whole cut h others =
    let (ends, whole_rest) = or_parts (eqb b 10 || eqb b 13) (holds_line_end bs) whole in
    let (feed, return) = or_parts (eqb b 10) (eqb b 13) ends in
    let (p, ps, e) = a-part bs in
    elim (cases_Bool (eqb b 44)) [
      | inl comma ↦
          let is : b ≡ 44 = eqb-true b 44 comma in
          let at_comma = rw comma at cut in
          let none : part ≡ [] = cc in
          let left : parts ≡ p ∷ ps = cc in
          let (c, cs, one, more, both) = first-content p ps contents (rw left at others) in
          let ended = rw none at h in
          rw is (reads-comma after s fields field bs content c contents cs ended both (reads-rest after bs st.StartField (fields ++ field ∷ []) [] p c ps cs whole_rest e one more))
      | inr comma ↦
          let inside = rw (comma, e) at cut in
          let first : part ≡ b ∷ p = cc in
          let left : parts ≡ ps = cc in
          let (t, a, more, stepped, runs, adds, same) = through s b p content (rw first at h) comma feed return in
          let (kept, joined) = same fields field in
          reads-on after s t a fields field b bs more content contents stepped runs kept joined
          (reads-rest after bs t (fields_after a fields field) (field_after a b field) p more ps contents whole_rest e adds (rw left at others))
    ]

-- a comma, a line and a line feed, read from the start of a record
pub reads-line : (after line : List ℕ) (contents : List (List ℕ)) → holds_line_end line ≡ false → contents_of (parts_of line) ≡ Some contents
    → Reads after st.StartRecord [] [] (44 ∷ line) ([] ∷ contents)
reads-line after line contents whole h =
    let (part, parts, e) = a-part line in
    let (content, others, one, more, both) = first-content part parts contents (rw e at h) in
    goes-on-start ∙ reads-rest after line st.StartField ([] ∷ []) [] part content parts others whole e one more ∙ ap (λ read. Some ([] ∷ read, st.StartRecord, after)) (sym both)
  where
    goes-on-start : next_record default_config st.StartRecord [] [] (44 ∷ line ++ 10 ∷ after) ≡ next_record default_config st.StartField ([] ∷ []) [] (line ++ 10 ∷ after)
    goes-on-start = goes-on st.StartRecord st.StartField act.EndField [] [] 44 (line ++ 10 ∷ after) refl refl

-- a text that begins with a comma has no byte order mark
pub no-mark : (line : List ℕ) → strip_bom (44 ∷ line) ≡ 44 ∷ line
unfolding strip_bom
no-mark [] = refl
no-mark (b ∷ []) = refl
no-mark (b ∷ c ∷ line) = refl

-- a line that has fields holds no line end, and its parts have those contents
pub has-fields : (line : List ℕ) (contents : List (List ℕ)) → line_fields line ≡ Some contents → (holds_line_end line ≡ false) × (contents_of (parts_of line) ≡ Some contents)
has-fields line contents h = go (holds_line_end line) (contents_of (parts_of line)) h
  where
    go : (ends : Bool) (found : Option (List (List ℕ))) → cond ends None found ≡ Some contents → (ends ≡ false) × (found ≡ Some contents)
    go true found h = cc
    go false found h = (refl, h)
