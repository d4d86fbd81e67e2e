use Rattle.std.proofs.Common.{◌≡◌, ◌∙◌, ◌-◌, ◌∷◌, [], ◌++◌, arith, drop, length, Some, sym, ap, take, take_all}
use Rattle.std.proofs.lemmas.Bool.Decides.{Decides-eqb}
use Rattle.std.proofs.lemmas.List.{length-drop}
use Rattle.std.proofs.lemmas.Slice.Eq.{starts_is, strip_prefix_is}
use Rattle.csv_rows.proofs.row_reader.RowReader.is_next.Goals as goal

pub returns : goal.returns
returns c h =
    let at = c.self.inside.at in
    let text = c.as_slice.result.now in
    let behind = c.in-Some.behind.now in
    let after = c.in-Some-strip_prefix.after.now in
    let size = length-drop at text in
    let left : take (length text - at) (drop at text) ≡ drop at text = take_all (length text - at) (drop at text) (omega arith) in
    let first = strip_prefix_is Decides-eqb _ _ (Some c.in-Some.behind) c.in-Some.ensures.cases in
    let second = strip_prefix_is Decides-eqb _ _ (Some c.in-Some-strip_prefix.after) c.in-Some-strip_prefix.ensures.cases in
    let third = (starts_is Decides-eqb after (10 ∷ []) c.starts_with.result c.starts_with.ensures.value).0 h in
    let comma : c.as_slice-2.result.now ≡ 44 ∷ [] = c.as_slice-2.ensures in
    let here : drop at c.self.inside.text.items ≡ 44 ∷ behind = ap (drop at) (sym c.as_slice.ensures.value) ∙ sym left ∙ first ∙ ap (λ front. front ++ behind) comma in
    (drop 1 after, sym c.self.view_is ∙ here ∙ ap (λ l. 44 ∷ l) (second ∙ ap (λ l. c.args.line.now ++ l) third))
