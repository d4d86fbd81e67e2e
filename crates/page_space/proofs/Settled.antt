-- A disk with nothing to replay stands for its own pages.
use Rattle.std.proofs.Common.{◌≡◌, arith}
use Rattle.std.proofs.lemmas.Bool.Decides.{nat_tests}
use Rattle.page_disk.specs.Image.{Image}
use Rattle.redo_journal.specs.Gates.{gate_of}
use Rattle.redo_journal.specs.declared.gate.Gate.TheVariants.{Idle}
use Rattle.redo_journal.specs.Settled.{SettlesTo}

pub idle_settles : (x : Image) → gate_of x ≡ Idle → SettlesTo x x.pages
idle_settles x h = grind (arith, nat_tests)
