use Rattle.redo_journal.proofs.Common.{ℕ, ◌+◌, ◌<◌, ◌≤◌, ◌↔◌, List, sym, subst, arith, IsSome, common_steps, PageMap, empty_map, put_page, image_map}
use Rattle.tests_disk.proofs.journal.images_from.Goals as goal

-- The pages from the one number to below the other have images.
abbrev HasRow : PageMap → ℕ → ℕ → Type 0
HasRow map from end = (page : ℕ) → IsSome (map page) ↔ ((from ≤ page) × (page < end))

no_row : (from : ℕ) → HasRow empty_map from from
no_row from = λ page. grind (arith, common_steps)

row_more : (map : PageMap) (from end : ℕ) (bytes : List ℕ) → from ≤ end → HasRow map from end → HasRow (put_page map end bytes) from (end + 1)
row_more map from end bytes le row = λ page. grind (arith, common_steps, row page)

pub loop-page-init : goal.loop-page-init
loop-page-init c = subst (λ (m : PageMap). HasRow m c.args.from c.args.from) (sym c.new-images.ensures.map) (no_row c.args.from)

pub loop-page-preserved : goal.loop-page-preserved
loop-page-preserved c =
    subst (λ (m : PageMap). HasRow m c.args.from (c.loop-page.page + 1)) (sym c.in_ok-put.ensures.ok)
    (row_more (image_map c.loop-page.images) c.args.from c.loop-page.page _ (omega arith) c.loop-page.invariant)
