use Rattle.std.proofs.Common.{ℕ, List, ap, ◌∙◌}
use Rattle.page_layout.specs.Numbers.{number_in}
use Rattle.page_layout.specs.Super.{format_of}
use Rattle.page_layout.specs.SuperExact.{exact_there, exact_back}
use Rattle.page_layout.proofs.super_page.is_exact.Goals as goal

pub returns : goal.returns
returns c =
    let page : List ℕ = c.args.page.now in
    let origin = c.number_u32.ensures ∙ ap (λ (b : List ℕ). number_in 4 b) c.after.ensures.value in
    let zeros = rw c.after-2.ensures.value at c.are_zeros.ensures in (
      λ t. exact_there page c.bytes_of-bytes.ensures.bytes c.bytes_of-bytes.ensures.len (record {
        text = c.has_magic.ensures.0 c.if-not-has_magic.false;
        format = c.if-page-format_of.false ∙ c.format_of.ensures ∙ ap (λ (n : ℕ). format_of n) origin;
        unnamed = c.if-page-ne0.false;
        tail = zeros.0 t;
      }),
      λ e. zeros.1 (exact_back page c.bytes_of-bytes.ensures.bytes c.bytes_of-bytes.ensures.len e).tail,
    )
