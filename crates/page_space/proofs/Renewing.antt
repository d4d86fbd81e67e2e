-- A cache after its pages are renewed one by one.
use Rattle.std.proofs.Common.{◌≡◌, ℕ, List, ◌∷◌, None, arith}
use Rattle.std.proofs.lemmas.Bool.Decides.{nat_tests}
use Rattle.ports.specs.Pages.{PageMap, empty_map}
use Rattle.page_disk.specs.Image.{PageList}
use Rattle.page_cache.specs.Cache.{Agrees, renewed}
use Rattle.redo_journal.specs.Placing.{ArePlaced, ImageList, map_of}
use Rattle.page_space.specs.Renewed.{renewed_by}

-- Without images all stays.
pub none_renewed : (kept : PageMap) (p : ℕ) → renewed_by kept empty_map p ≡ kept p
none_renewed kept p = grind arith

-- One page is renewed, and the rest comes later.
pub one_renewed : (kept new : PageMap) (page : ℕ) (image : List ℕ) (rest : ImageList) → map_of rest page ≡ None
    → ((p : ℕ) → new p ≡ renewed kept page image p) → (p : ℕ) → renewed_by new (map_of rest) p ≡ renewed_by kept (map_of ((page, image) ∷ rest)) p
one_renewed kept new page image rest once renew p = grind (arith, nat_tests, renew p)

-- A cache that agreed with the area agrees, once it is renewed, with the area in which the images are in their places.
pub renewed_agrees : (images old new : PageMap) (pages after : PageList) → ArePlaced images pages after → ((p : ℕ) → new p ≡ renewed_by old images p)
    → Agrees old pages → Agrees new after
renewed_agrees images old new pages after placed renew agrees page bytes kept = grind (arith, placed, placed.pages page, renew page, agrees page)
