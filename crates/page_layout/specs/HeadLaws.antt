-- The head that a page of a head spells.
use Rattle.std.proofs.Common.{◌≡◌, ℕ, ◌<◌, ◌≤◌, ◌^◌, Bool, true, false, List, length, refl, arith}
use Rattle.std.specs.Prelude.{◌==◌, if◌then◌else◌}
use Rattle.page_layout.specs.declared.journal_head.JournalHead.{JournalHead}
use Rattle.page_layout.specs.Numbers.{spelled, number_in, length-spelled, number_in-spelled}
use Rattle.page_layout.specs.Counted.{entries_of, entries-counted}
use Rattle.page_layout.specs.Head.{IsHead, IsTyped, head_page, head_in}

more-is : (more : Bool) → ((if more then 1 else 0) == 1) ≡ more
more-is true = refl
more-is false = refl

pub head_in-page : (head : JournalHead) → IsTyped head → IsHead head → head_in (head_page head) ≡ head
head_in-page head typed is_head =
    let few : length head.homes.items ≤ 500 = is_head.few in
    let homes : entries_of (number_in 8) 8 500 (head_page head) ≡ head.homes.items =
    entries-counted (spelled 8) (number_in 8) 8 (λ (x : ℕ). x < 2 ^ 64) (λ (x : ℕ) h. length-spelled 8 x) (λ (x : ℕ) (rest : List ℕ) h. number_in-spelled 8 x rest h) 8 (if head.more then 1 else 0) 0 0 500 head.homes.items few (omega arith) typed in
    λ i. record { more = more-is head.more i; homes = record { items = homes i } }
