use Rattle.redo_journal.proofs.Common.{ℕ, ◌<◌, ◌≤◌, ◌↔◌, IsSome, image_map}
use Rattle.tests_disk.proofs.journal.images_from.Given as goal

abbrev pub invariant-loop-page : goal.invariant-loop-page
invariant-loop-page l = (p : ℕ) → IsSome (image_map l.images p) ↔ ((l.from ≤ p) × (p < l.page))
