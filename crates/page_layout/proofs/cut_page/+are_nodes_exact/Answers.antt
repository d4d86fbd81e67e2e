use Rattle.std.proofs.Common.{◌∙◌, sym, ap}
use Rattle.page_layout.specs.CutPage.{node_fits}
use Rattle.page_layout.specs.CutExact.{exact_end, exact_step, no_place_left}
use Rattle.page_layout.proofs.Testing.{never, refused}
use Rattle.page_layout.proofs.cut_page.+are_nodes_exact.Goals as goal

pub returns-then-places-ne0 : goal.returns-then-places-ne0
returns-then-places-ne0 t c =
    let end = exact_end c.args.nodes.now c.args.borders.now c.args.count c.args.places c.if-count-eq0.true in
    never (λ h. c.if-places-ne0.true (end.1 h).0)

pub returns-then-count-eq0 : goal.returns-then-count-eq0
returns-then-count-eq0 t c =
    let end = exact_end c.args.nodes.now c.args.borders.now c.args.count c.args.places c.if-count-eq0.true in
    (λ z. end.0 (c.if-places-ne0.false, c.are_zeros.ensures.0 z), λ h. c.are_zeros.ensures.1 (end.1 h).1)

pub returns-then-places-eq0 : goal.returns-then-places-eq0
returns-then-places-eq0 t c = never (no_place_left c.args.nodes.now c.args.borders.now c.args.count c.args.places c.if-count-eq0.false c.if-places-eq0.true)

pub returns-then-not-is_node_exact : goal.returns-then-not-is_node_exact
returns-then-not-is_node_exact t c =
    let step = exact_step c.args.nodes.now c.args.borders.now c.args.places c.args.count c.if-count-eq0.false c.if-places-eq0.false in
    refused _ c.if-not-is_node_exact.true c.is_node_exact.ensures.1 (λ h. (step.1 h).0.0)

pub returns-then-not-node_fits : goal.returns-then-not-node_fits
returns-then-not-node_fits t c =
    let step = exact_step c.args.nodes.now c.args.borders.now c.args.places c.args.count c.if-count-eq0.false c.if-places-eq0.false in
    refused _ c.if-not-node_fits.true (λ fits. c.node_fits.ensures ∙ ap node_fits c.node_at.ensures.value ∙ fits) (λ h. (step.1 h).0.1)

pub returns : goal.returns
returns t c =
    let step = exact_step c.args.nodes.now c.args.borders.now c.args.places c.args.count c.if-count-eq0.false c.if-places-eq0.false in
    let fits = sym (c.node_fits.ensures ∙ ap node_fits c.node_at.ensures.value) ∙ c.if-not-node_fits.false in
    let others = rw (c.places_after.ensures.value, c.skip.ensures.value, c.past_border.ensures) at c.are_nodes_exact.ensures in (
      λ r. step.0 ((c.is_node_exact.ensures.0 c.if-not-is_node_exact.false, fits), others.0 r),
      λ h. others.1 (step.1 h).1,
    )
