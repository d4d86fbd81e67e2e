use Rattle.std.proofs.Common.{◌∙◌, sym, ap, arith}
use Rattle.std.proofs.lemmas.Bool.{eq-eqb, eqb-true}
use Rattle.page_layout.specs.Numbers.{number_in}
use Rattle.page_layout.specs.CutExact.{entry_exact, cut_exact}
use Rattle.page_layout.proofs.Testing.{never}
use Rattle.page_layout.proofs.cut_page.is_node_exact.Goals as goal

pub returns-then-nodes-eq-ENTRY : goal.returns-then-nodes-eq-ENTRY
returns-then-nodes-eq-ENTRY c =
    let entry = entry_exact c.args.nodes.now c.args.borders.now c.are_bytes.ensures c.requires c.if-nodes-eq-ENTRY.true in
    (λ t. entry.0 (sym c.number_u64.ensures ∙ eqb-true c.number_u64.result 0 t), λ e. eq-eqb c.number_u64.result 0 (c.number_u64.ensures ∙ entry.1 e))

pub returns-then-nodes-ne-CUT : goal.returns-then-nodes-ne-CUT
returns-then-nodes-ne-CUT c =
    let cut = cut_exact c.args.nodes.now c.args.borders.now c.are_bytes.ensures c.requires c.if-nodes-eq-ENTRY.false in
    never (λ e. c.if-nodes-ne-CUT.true (cut.1 e).tag)

pub returns-then-number_u16-ne0 : goal.returns-then-number_u16-ne0
returns-then-number_u16-ne0 c =
    let cut = cut_exact c.args.nodes.now c.args.borders.now c.are_bytes.ensures c.requires c.if-nodes-eq-ENTRY.false in
    never (λ e. c.if-number_u16-ne0.true (c.number_u16.ensures ∙ ap (number_in 2) c.skip.ensures.value ∙ (cut.1 e).unnamed))

pub returns-then-borders-lt28 : goal.returns-then-borders-lt28
returns-then-borders-lt28 c =
    let cut = cut_exact c.args.nodes.now c.args.borders.now c.are_bytes.ensures c.requires c.if-nodes-eq-ENTRY.false in
    never (λ e. omega (arith, c.if-borders-lt28.true, (cut.1 e).room))

pub returns : goal.returns
returns c =
    let cut = cut_exact c.args.nodes.now c.args.borders.now c.are_bytes.ensures c.requires c.if-nodes-eq-ENTRY.false in (
      λ t. cut.0 (record {
        tag = c.if-nodes-ne-CUT.false;
        unnamed = sym (c.number_u16.ensures ∙ ap (number_in 2) c.skip.ensures.value) ∙ c.if-number_u16-ne0.false;
        room = omega (arith, c.if-borders-lt28.false);
        border = c.is_tree_exact.ensures.0 t;
      }),
      λ e. c.is_tree_exact.ensures.1 (cut.1 e).border,
    )
