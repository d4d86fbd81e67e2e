-- Rows that ask for sums over spans of versions, and what is replied to them.
use Rattle.std.specs.Prelude.{ℕ, ◌+◌, ◌*◌, Bool, ◌&&◌, ◌==◌, nat_le, if◌then◌else◌, List, ◌++◌, length, Option, Some, None, unwrap_or, codes}
use Rattle.std.specs.Fmt.{decimal, signed_decimal}
use Rattle.std.specs.Str.{bytes_eq}
use Rattle.bw_types.specs.Fits.{query_fits}
use Rattle.bw_types.specs.History.{History, last_version}
use Rattle.bw_types.specs.declared.params.Params.{Params}
use Rattle.bw_types.specs.declared.query.Kind.TheVariants.{Sum}
use Rattle.bw_types.specs.declared.query.Query.{Query}
use Rattle.csv_rows.specs.Fields.{field_at}
use Rattle.csv_rows.specs.Input.{ends_at, fields_of_line, given, provided, version_of}
use Rattle.csv_rows.specs.Replies.{reply_text}
use Rattle.csv_rows.specs.declared.reply.Reply.TheVariants.{Bad, NoVersion}
use Rattle.span_planes.specs.Shown.{span_cost}
use Rattle.span_planes.specs.SpanSums.{span_sum}
use Rattle.span_planes.specs.declared.asked.SpanRow.{SpanRow}

-- the row, where its query keeps the rules
abbrev pub asking_span : Params → Option ℕ → Option ℕ → Query → Option SpanRow
asking_span params first last q = provided (query_fits params q) (record { first = first; last = last; query = q })

-- what fields spell: the word, the first and the last version, and the ends of the box, dimension by dimension
abbrev pub span_of : Params → List (List ℕ) → Option SpanRow
span_of params fields =
    if bytes_eq (field_at fields 0) (codes "spansum") && (length fields == 3 + 2 * params.dims)
    then given (version_of (field_at fields 1)) (λ first.
    given (version_of (field_at fields 2)) (λ last.
    given (ends_at params fields 3) (λ low.
    given (ends_at params fields 4) (λ high.
    asking_span params first last (record { kind = Sum; low = low; high = high })))))
    else None

-- what a line asks for, or None where it is bad
abbrev pub span_row : Params → List ℕ → Option SpanRow
span_row params line = given (fields_of_line line) (span_of params)

-- the versions that a row asks for: the last one where none is given
abbrev pub first_asked : History → SpanRow → ℕ
first_asked h row = unwrap_or row.first (last_version h)

abbrev pub last_asked : History → SpanRow → ℕ
last_asked h row = unwrap_or row.last (last_version h)

-- both versions are there
abbrev pub are_there : History → SpanRow → Bool
are_there h row = nat_le (first_asked h row) (last_version h) && nat_le (last_asked h row) (last_version h)

-- the line of a span
abbrev pub span_text : Params → History → SpanRow → List ℕ
span_text params h row =
    codes "spansum," ++ decimal (first_asked h row) ++ codes "," ++ decimal (last_asked h row) ++ codes ","
    ++ signed_decimal (span_sum params h (first_asked h row) (last_asked h row) row.query) ++ codes "\n"

-- the reply to line number n, from what it asks for: that a version is not there comes before that the first is above the last
abbrev pub reply_to_row : Params → History → ℕ → Option SpanRow → List ℕ
reply_to_row params h n None = reply_text (Bad n)
reply_to_row params h n (Some row) =
    if are_there h row
    then (if nat_le (first_asked h row) (last_asked h row) then span_text params h row else reply_text (Bad n))
    else reply_text (NoVersion n)

-- the reply to a line
abbrev pub span_reply : Params → History → ℕ → List ℕ → List ℕ
span_reply params h n line = reply_to_row params h n (span_row params line)

-- the most reads that a row asks for: none where it is bad or no such version is there
abbrev pub row_cost : (ℕ → ℕ → ℕ) → Params → History → Option SpanRow → ℕ
row_cost cost params h None = 0
row_cost cost params h (Some row) =
    if are_there h row && nat_le (first_asked h row) (last_asked h row) then span_cost cost params h else 0

abbrev pub span_line_cost : (ℕ → ℕ → ℕ) → Params → History → List ℕ → ℕ
span_line_cost cost params h line = row_cost cost params h (span_row params line)
