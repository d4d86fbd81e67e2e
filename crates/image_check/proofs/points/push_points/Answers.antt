use Rattle.std.proofs.Common.{arith, ◌∙◌, ap, sym, append_assoc, List, ◌++◌, ◌∷◌, [], map}
use Rattle.std.specs.List.{range_with_len}
use Rattle.std.proofs.lemmas.List.FromFn.{map-range_with_len_more}
use Rattle.bw_types.specs.declared.point.Point.{Point}
use Rattle.corner_forest.specs.Enters.{entered_at}
use Rattle.corner_forest.specs.Entries.{entry_point}
use Rattle.image_check.proofs.points.push_points.Goals as goal

pub loop-corner-preserved : goal.loop-corner-preserved
loop-corner-preserved c =
    let point = entry_point c.args.params.now (entered_at c.args.version c.args.entry.now) c.args.place in
    let k = c.loop-corner.corner in
    let before = c.args.points.now.items in
    let own : List Point = map point (range_with_len 0 k) in
    c.in_ok-push_point.ensures.last ∙ ap (λ (ps : List Point). ps ++ c.entry_point-point.result ∷ []) c.loop-corner.invariant
    ∙ append_assoc before own (c.entry_point-point.result ∷ [])
    ∙ ap (λ (p : Point). before ++ (own ++ p ∷ [])) c.entry_point-point.ensures.point
    ∙ ap (λ (ps : List Point). before ++ ps) (sym (map-range_with_len_more point 0 k k (omega arith)))
