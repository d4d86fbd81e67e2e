use Rattle.std.proofs.Common.{◌≡◌, ℕ, length}
use Rattle.page_cache.specs.Cache.{capacity, kept_pages}
use Rattle.redo_journal.specs.Images.{coming, image_map}
use Rattle.redo_journal.specs.Placing.{map_of}
use Rattle.page_space.specs.Renewed.{renewed_by}
use Rattle.page_space.proofs.committing.renew_all.Given as goal

abbrev pub invariant-loop-page : goal.invariant-loop-page
invariant-loop-page l =
    ((p : ℕ) → renewed_by (kept_pages l.cache) (map_of (coming l.rest)) p ≡ renewed_by (kept_pages l.fn.cache) (image_map l.fn.images) p)
    × (capacity l.cache ≡ capacity l.fn.cache)

abbrev pub decreases-loop-page : goal.decreases-loop-page
decreases-loop-page l = length (coming l.rest)
