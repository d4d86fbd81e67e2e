-- What is replied to a row that asks for a span, and how many reads it asks for, by whether its versions are there and in order.
use Rattle.std.proofs.Common.{◌≡◌, ℕ, ◌+◌, ◌<◌, ◌≤◌, true, false, ◌&&◌, nat_le, List, ◌++◌, ℤ, Option, Some, refl, ap, ap₂, sym, ◌∙◌, unwrap_or, codes, arith}
use Rattle.std.proofs.lemmas.Bool.{le-leb, lt-leb}
use Rattle.std.specs.Fmt.{decimal, signed_decimal}
use Rattle.bw_types.specs.History.{History, last_version}
use Rattle.bw_types.specs.declared.params.Params.{Params}
use Rattle.csv_rows.specs.Replies.{reply_text}
use Rattle.csv_rows.specs.declared.reply.Reply.TheVariants.{Bad, NoVersion}
use Rattle.span_planes.specs.Shown.{span_cost}
use Rattle.span_planes.specs.SpanHolds.{without_degree}
use Rattle.span_planes.specs.SpanRows.{are_there, first_asked, last_asked, reply_to_row, row_cost, span_row, span_text}
use Rattle.span_planes.specs.SpanSums.{span_sum}
use Rattle.span_planes.specs.declared.asked.SpanRow.{SpanRow}

-- a row asks for sums alone, so that it reads the same without a degree
same_row : (params : Params) (line : List ℕ) → span_row (without_degree params) line ≡ span_row params line
same_row params line = refl

-- what a line asks for under the params of spans is what it asks for under those of the history
pub row_asked : (own params : Params) (line : List ℕ) (row : Option SpanRow) → own ≡ without_degree params → row ≡ span_row own line → row ≡ span_row params line
row_asked own params line row same is = is ∙ ap (λ (p : Params). span_row p line) same ∙ same_row params line

module _ (params : Params) (h : History) (row : SpanRow) (first last newest : ℕ) (is_newest : newest ≡ last_version h) (is_first : first ≡ unwrap_or row.first newest)
    (is_last : last ≡ unwrap_or row.last newest) where
  first_is : first ≡ first_asked h row
  first_is = is_first ∙ ap (unwrap_or row.first) is_newest

  last_is : last ≡ last_asked h row
  last_is = is_last ∙ ap (unwrap_or row.last) is_newest

  -- whether both versions are there
  there_is : (nat_le first newest && nat_le last newest) ≡ are_there h row
  there_is = ap₂ (λ (a b : ℕ). nat_le a newest && nat_le b newest) first_is last_is ∙ ap (λ (n : ℕ). nat_le (first_asked h row) n && nat_le (last_asked h row) n) is_newest

  -- where one is not
  pub none_replied : (n : ℕ) → (nat_le first newest && nat_le last newest) ≡ false → reply_text (NoVersion n) ≡ reply_to_row params h n (Some row)
  none_replied n missing = let there = sym there_is ∙ missing in rw there refl

  -- where both are, and the first is above the last
  pub bad_replied : (n : ℕ) → (nat_le first newest && nat_le last newest) ≡ true → last < first → reply_text (Bad n) ≡ reply_to_row params h n (Some row)
  bad_replied n both over =
      let there = sym there_is ∙ both in
      let test = lt-leb (first_asked h row) (last_asked h row) (omega (arith, first_is, last_is, over)) in
      rw there (rw test refl)

  -- where they are there and in order
  module _ (both : (nat_le first newest && nat_le last newest) ≡ true) (ordered : first ≤ last) where
    in_order : first_asked h row ≤ last_asked h row
    in_order = omega (arith, first_is, last_is, ordered)

    abbrev line_of : ℕ → ℕ → ℤ → List ℕ
    line_of from to value = codes "spansum," ++ decimal from ++ codes "," ++ decimal to ++ codes "," ++ signed_decimal value ++ codes "\n"

    text_is : (value : ℤ) → value ≡ span_sum params h first last row.query → line_of first last value ≡ span_text params h row
    text_is value is =
        ap (line_of first last) is
        ∙ ap (λ (from : ℕ). line_of from last (span_sum params h from last row.query)) first_is
        ∙ ap (λ (to : ℕ). line_of (first_asked h row) to (span_sum params h (first_asked h row) to row.query)) last_is

    replied : (n : ℕ) → span_text params h row ≡ reply_to_row params h n (Some row)
    replied n =
        let test = le-leb (first_asked h row) (last_asked h row) in_order in
        let there = sym there_is ∙ both in
        rw there (rw test refl)

    pub span_replied : (n : ℕ) (old new : List ℕ) (value : ℤ) → value ≡ span_sum params h first last row.query
        → new ≡ old ++ (codes "spansum," ++ decimal first ++ codes "," ++ decimal last ++ codes "," ++ signed_decimal value ++ codes "\n")
        → new ≡ old ++ reply_to_row params h n (Some row)
    span_replied n old new value is put = put ∙ ap (λ t. old ++ t) (text_is value is ∙ replied n)

    -- reads for the two sums
    pub row_reads : (cost : ℕ → ℕ → ℕ) (before after : ℕ) → after ≤ before + span_cost cost params h → after ≤ before + row_cost cost params h (Some row)
    row_reads cost before after most =
        let test = le-leb (first_asked h row) (last_asked h row) in_order in
        let there = sym there_is ∙ both in
        rw there (rw test most)
