use Rattle.std.proofs.Common.{◌≡◌, ◌++◌, ◌∷◌, List, refl, sym, ap, ◌∙◌}
use Rattle.page_layout.specs.CutPage.{cut_one}
use Rattle.page_layout.specs.declared.cut_page.CutNode.{CutNode}
use Rattle.cut_parts.proofs.Walking.{AreSides, first_cut, sides_are}
use Rattle.cut_parts.proofs.splitting.split_first_cut.Goals as goal

pub returns-in-Cut-clause-split : goal.returns-in-Cut-clause-split
returns-in-Cut-clause-split c = λ dimension key count border low_side high_side spelled.
    let low : List CutNode = c.page_of.result.nodes.items in
    let high : List CutNode = c.page_of-in-Cut.result.nodes.items in
    let sides : AreSides c.in_ok-first.rest.now low high = record {
      whole = c.split_part.ensures.whole ∙ (λ i. sym c.page_of.ensures i ++ sym c.page_of-in-Cut.ensures i);
      after = c.page_of-in-Cut.ensures ∙ c.split_part.ensures.after;
    } in
    let first : c.args.page.now.nodes.items ≡ c.in_ok-first.first.now ∷ c.in_ok-first.rest.now = sym c.as_slice.ensures.value ∙ c.in_ok-first.ensures.cases.0 in
    let is = first_cut c.args.page.now.nodes.items c.in_ok-first.rest.now low high c.in_ok-first.first.now dimension key count border low_side high_side first sides spelled in
    ((is.is, is.low_is, is.high_is), refl)

pub returns-in-Cut-clause-nodes : goal.returns-in-Cut-clause-nodes
returns-in-Cut-clause-nodes c = λ are.
    let low : List CutNode = c.page_of.result.nodes.items in
    let high : List CutNode = c.page_of-in-Cut.result.nodes.items in
    let sides : AreSides c.in_ok-first.rest.now low high = record {
      whole = c.split_part.ensures.whole ∙ (λ i. sym c.page_of.ensures i ++ sym c.page_of-in-Cut.ensures i);
      after = c.page_of-in-Cut.ensures ∙ c.split_part.ensures.after;
    } in
    let first : c.args.page.now.nodes.items ≡ c.in_ok-first.first.now ∷ c.in_ok-first.rest.now = sym c.as_slice.ensures.value ∙ c.in_ok-first.ensures.cases.0 in
    let one : cut_one c.in_ok-first.first.now ≡ 1 = ap (λ (node : CutNode). cut_one node) c.in-Cut.is in
    let is = sides_are c.args.page.now.nodes.items c.in_ok-first.rest.now low high c.in_ok-first.first.now first one sides are in
    (is.lows, is.highs, is.fits, is.typed, is.is_cut)
