-- The free page that a page spells.
use Rattle.std.proofs.Common.{◌≡◌, ℕ, ◌-◌, ◌++◌, List, [], length, sym, ap, ◌∙◌, append-nil}
use Rattle.page_layout.specs.declared.free_page.FreePage.{FreePage}
use Rattle.page_layout.specs.Numbers.{zeros}
use Rattle.page_layout.specs.Counted.{front, double_of, double-counted}
use Rattle.page_layout.specs.FreePage.{IsFreePage, IsTyped, free_page_page, free_page_in}

pub free_page_in-page : (free : FreePage) → IsTyped free → IsFreePage free → free_page_in (free_page_page free) ≡ free
free_page_in-page free typed is_free =
    let start : List ℕ = front 9 0 0 0 free.next in
    let pad : List ℕ = zeros (4096 - length start) in
    let next : double_of (free_page_page free) ≡ free.next =
    ap (λ (f : List ℕ). double_of (f ++ pad)) (sym (append-nil start)) ∙ double-counted 9 0 0 0 free.next [] pad typed in
    λ i. record { next = next i }
