-- A refusal to read, as a stage hands it on.
use Rattle.std.specs.Prelude.{◌≡◌, ◌≢◌, ℕ}
use Rattle.ports.specs.declared.page.PageFault.{PageFault}
use Rattle.ports.specs.declared.page.PageFault.TheVariants as page_fault
use Rattle.ports.specs.declared.page.StageFault.{StageFault}
use Rattle.ports.specs.declared.page.StageFault.TheVariants.{Disk, Damaged, PageLimit, NoMemory}

-- The stage hands on what the read was refused for.
pub record HandsOn (fault : PageFault) (staged : StageFault) : Type 0 where
  pub disk : staged ≡ Disk → fault ≡ page_fault.Disk
  pub damaged : (p : ℕ) → staged ≡ Damaged p → fault ≡ page_fault.Damaged p
  pub page_limit : (n : ℕ) → staged ≢ PageLimit n
  pub no_memory : staged ≢ NoMemory
