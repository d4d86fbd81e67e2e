use Rattle.std.proofs.Common.{◌≡◌, ℕ, List, drop, sym, ap, ◌∙◌}
use Rattle.page_layout.specs.Numbers.{number_in}
use Rattle.page_layout.specs.Meta.{root_count}
use Rattle.page_layout.specs.MetaExact.{exact_there, exact_back}
use Rattle.page_layout.proofs.Testing.{never, refused}
use Rattle.page_layout.proofs.meta.is_exact.Goals as goal

pub returns-then-number_u32-count : goal.returns-then-number_u32-count
returns-then-number_u32-count c =
    let exact = exact_back c.args.page.now c.bytes_of-bytes.ensures.bytes c.bytes_of-bytes.ensures.len in
    never (λ e. c.if-number_u32-count.true (c.number_u32.ensures ∙ ap (λ (b : List ℕ). number_in 4 b) c.after.ensures.value ∙ (exact e).few ∙ sym c.count_in-count.ensures.value))

pub returns-then-not-is_tree_exact : goal.returns-then-not-is_tree_exact
returns-then-not-is_tree_exact c =
    let exact = exact_back c.args.page.now c.bytes_of-bytes.ensures.bytes c.bytes_of-bytes.ensures.len in
    refused _ c.if-not-is_tree_exact.true (rw c.after-2.ensures.value at c.is_tree_exact.ensures).1 (λ e. (exact e).table)

pub returns-then-not-are_roots_exact : goal.returns-then-not-are_roots_exact
returns-then-not-are_roots_exact c =
    let exact = exact_back c.args.page.now c.bytes_of-bytes.ensures.bytes c.bytes_of-bytes.ensures.len in
    refused _ c.if-not-are_roots_exact.true (rw (c.after-3.ensures.value, c.count_in-count.ensures.value) at c.are_roots_exact.ensures).1 (λ e. (exact e).roots)

pub returns : goal.returns
returns c =
    let page : List ℕ = c.args.page.now in
    let is_count = c.count_in-count.ensures.value in
    let said : number_in 4 (drop 76 page) ≡ root_count page =
    ap (λ (b : List ℕ). number_in 4 b) (sym c.after.ensures.value) ∙ sym c.number_u32.ensures ∙ c.if-number_u32-count.false ∙ is_count in
    let table = rw c.after-2.ensures.value at c.is_tree_exact.ensures in
    let roots = rw (c.after-3.ensures.value, is_count) at c.are_roots_exact.ensures in
    let tail = rw (c.after-4.ensures.value, is_count) at c.are_zeros.ensures in (
      λ t. exact_there page c.bytes_of-bytes.ensures.bytes c.bytes_of-bytes.ensures.len (record {
        kind = c.if-page-ne-KIND.false;
        third = c.if-page-ne0.false;
        fourth = c.if-page-ne0-2.false;
        few = said;
        table = table.0 c.if-not-is_tree_exact.false;
        roots = roots.0 c.if-not-are_roots_exact.false;
        tail = tail.0 t;
      }),
      λ e. tail.1 (exact_back page c.bytes_of-bytes.ensures.bytes c.bytes_of-bytes.ensures.len e).tail,
    )
