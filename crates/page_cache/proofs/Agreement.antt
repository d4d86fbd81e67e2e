-- How a cache comes to agree with a disk, and does again after a write.
use Rattle.std.proofs.Common.{◌≡◌, ℕ, List, arith}
use Rattle.std.proofs.lemmas.Bool.Decides.{nat_tests}
use Rattle.std.proofs.lemmas.Grind.{elements}
use Rattle.ports.specs.Pages.{PageMap}
use Rattle.page_disk.specs.Image.{PageList, written_at}
use Rattle.page_cache.specs.Cache.{Agrees, renewed}

-- after a page is written to the area and renewed in the cache
pub renewed-agrees : (old new : PageMap) (k : ℕ) (w : List ℕ) → ((p : ℕ) → new p ≡ renewed old k w p)
    → (area : PageList) → Agrees old area → Agrees new (written_at area k w)
renewed-agrees old new k w is area agrees p b h = grind (arith, nat_tests, elements, is p, agrees p)
