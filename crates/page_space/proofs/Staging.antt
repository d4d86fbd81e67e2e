-- What an image more makes of a stage: of its bytes, its map and its chain.
use Rattle.std.proofs.Common.{◌≡◌, ◌≢◌, ℕ, ◌<◌, ◌≤◌, ◌∷◌, List, Some, IsSome, IsTrue, refl, ap, arith}
use Rattle.std.specs.Prelude.{slice_index}
use Rattle.std.proofs.Math.Path.{fun_ext}
use Rattle.std.proofs.lemmas.Bool.Decides.{nat_tests}
use Rattle.ports.specs.Chain.{TakesFirst}
use Rattle.ports.specs.Pages.{PageMap, empty_map, put_page, remove_page, blank_bytes}
use Rattle.page_disk.specs.Image.{PageList, page_at}
use Rattle.page_layout.specs.FreePage.{IsTyped, free_page_page, next_fits}
use Rattle.page_layout.specs.declared.free_page.FreePage.{FreePage}
use Rattle.page_layout.specs.declared.meta.Meta.{Meta}
use Rattle.redo_journal.specs.Placing.{placed_at}
use Rattle.page_space.specs.Bytes.{PageBytes, bytes_with}
use Rattle.page_space.specs.InUse.{pages_in_use}
use Rattle.page_space.specs.InUseLaws.{in_use-put, in_use-remove, there_in_use}
use Rattle.page_space.specs.Chain.{FreeInOrder, chain_from}
use Rattle.page_space.specs.ChainLaws.{free_kind, order_beside}
use Rattle.page_space.proofs.Walking.{beside_walk, chain_given}

-- The bytes are as before but for this page.
pub placed_with : (old : PageMap) (pages : PageList) (page : ℕ) (bytes : List ℕ)
    → placed_at (put_page old page bytes) pages ≡ bytes_with (placed_at old pages) page bytes
placed_with old pages page bytes = fun_ext (λ p. grind (arith, nat_tests))

-- Without images all is as the disk has it.
pub none_put : (images : PageMap) (pages : PageList) (old new : Meta) → images ≡ empty_map → new ≡ old
    → (pages_in_use (placed_at images pages) new.allotted ≡ pages_in_use (page_at pages) old.allotted)
    × (chain_from (placed_at images pages) new.allotted new.free ≡ chain_from (page_at pages) old.allotted old.free)
    × (FreeInOrder (page_at pages) old.allotted old.free → FreeInOrder (placed_at images pages) new.allotted new.free)
none_put images pages old new none same = rw (none, same) (refl, refl, λ h. h)

pub put_there : (old new : PageMap) (page : ℕ) (bytes : List ℕ) → new ≡ put_page old page bytes → new page ≡ Some bytes
put_there old new page bytes put = rw put (grind (arith, nat_tests))

-- The meta page is neither in use nor free.
pub meta_put : (b c : PageBytes) (bytes : List ℕ) (m first : ℕ) → c ≡ bytes_with b 2 bytes
    → (pages_in_use c m ≡ pages_in_use b m) × (chain_from c m first ≡ chain_from b m first) × (FreeInOrder b m first → FreeInOrder c m first)
meta_put b c bytes m first changed = rw changed (
  fun_ext (λ p. grind (arith, nat_tests)),
  beside_walk b 2 bytes m m first refl refl,
  order_beside b 2 bytes m m first (omega arith) (λ free leads. omega (arith, leads.low)),
)

-- A page in use gets other bytes.
abbrev pub UsedPut : PageBytes → PageBytes → ℕ → List ℕ → Meta → Meta → Type 0
UsedPut b c page image old new =
    (pages_in_use c new.allotted ≡ put_page (pages_in_use b old.allotted) page image)
    × (chain_from c new.allotted new.free ≡ chain_from b old.allotted old.free)
    × (FreeInOrder b old.allotted old.free → FreeInOrder c new.allotted new.free)

pub used_put : (b c : PageBytes) (page : ℕ) (image : List ℕ) (old new : Meta) → new ≡ old → c ≡ bytes_with b page image
    → IsSome (pages_in_use b old.allotted page) → slice_index image 0 ≢ 9 → UsedPut b c page image old new
used_put b c page image old new same changed there kind = let used = there_in_use b old.allotted page there in rw (same, changed) (
  in_use-put b page image old.allotted old.allotted (omega arith) (λ p differs within. within) used.low used.high kind,
  beside_walk b page image old.allotted old.allotted old.free (grind (arith, nat_tests)) (grind (arith, nat_tests)),
  order_beside b page image old.allotted old.allotted old.free (omega arith) (λ free leads. used.kind (free_kind (b page) free leads.is_free)),
)

-- A page is given out, all zeros.
abbrev pub BlankPut : PageBytes → PageBytes → ℕ → ℕ → ℕ → ℕ → List ℕ → Type 0 → Type 0
BlankPut b c page m n first before ordered =
    (pages_in_use c n ≡ put_page (pages_in_use b m) page blank_bytes)
    × (ordered → TakesFirst before page (chain_from c n first) m n) × (ordered → FreeInOrder c n first)

pub blank_put : (b c : PageBytes) (page m n first : ℕ) (before : List ℕ) (ordered : Type 0) → c ≡ bytes_with b page blank_bytes
    → m ≤ n → ((p : ℕ) → page ≢ p → p < n → p < m) → 3 ≤ page → page < n
    → (ordered → TakesFirst before page (chain_from (bytes_with b page blank_bytes) n first) m n)
    → (ordered → FreeInOrder (bytes_with b page blank_bytes) n first) → BlankPut b c page m n first before ordered
unfolding blank_bytes
blank_put b c page m n first before ordered changed more only low high takes order =
    rw changed (in_use-put b page blank_bytes m n more only low high (λ e. omega arith), takes, order)

-- A page in use becomes the first of the free ones.
abbrev pub FreePut : PageBytes → PageBytes → ℕ → Meta → Meta → Type 0
FreePut b c page old new =
    (pages_in_use c new.allotted ≡ remove_page (pages_in_use b old.allotted) page)
    × (FreeInOrder b old.allotted old.free → (chain_from c new.allotted page ≡ page ∷ chain_from b old.allotted old.free) × FreeInOrder c new.allotted page)

pub free_put : (b c : PageBytes) (page : ℕ) (image : List ℕ) (old new : Meta) (free : FreePage) → new ≡ old → c ≡ bytes_with b page image
    → free ≡ record { next = old.free } → IsTrue (next_fits old.free) → IsTyped free → image ≡ free_page_page free → IsSome (pages_in_use b old.allotted page)
    → FreePut b c page old new
free_put b c page image old new free same changed is rules typed spelled there =
    let used = there_in_use b old.allotted page there in
    rw (same, changed) (
      in_use-remove b page image old.allotted old.allotted (omega arith) (λ p differs within. within) (ap (λ (x : List ℕ). slice_index x 0) spelled),
      chain_given b page image old.allotted (record { next = old.free }) used.low used.high (record { rules = rules; typed = rw is at typed; spelled = rw is at spelled })
          (λ f leads. used.kind (free_kind (b page) f leads.is_free)),
    )
