-- What a refusal to read was, by the fault at the exit of a `?`.
use Rattle.std.proofs.Common.{◌≡◌, ℕ, Result, Err}
use Rattle.ports.specs.declared.page.PageFault.{PageFault}
use Rattle.ports.specs.declared.page.PageFault.TheVariants as page_fault
use Rattle.page_warehouse.specs.declared.gathering.GatherFault.{GatherFault}
use Rattle.page_warehouse.specs.declared.gathering.GatherFault.TheVariants.{Damaged}
use Rattle.page_warehouse.specs.Faults.{read_fault}

was_damaged : (fault : PageFault) (page : ℕ) → read_fault fault ≡ Damaged page → fault ≡ page_fault.Damaged page
was_damaged page_fault.Disk page is = absurd cc
was_damaged (page_fault.Damaged p) page is = cc

handed_on : {T : Type 0} (r : Result T GatherFault) (fault : PageFault) (asked : GatherFault) → ((y : GatherFault) × (r ≡ Err y) × (y ≡ read_fault fault)) → r ≡ Err asked → read_fault fault ≡ asked
handed_on r fault asked told e =
    let first = told.1 in
    let second = told.2 in
    cc

pub read_damaged : {T : Type 0} (r : Result T GatherFault) (fault : PageFault) (page : ℕ) → ((y : GatherFault) × (r ≡ Err y) × (y ≡ read_fault fault)) → r ≡ Err (Damaged page)
    → fault ≡ page_fault.Damaged page
read_damaged r fault page told e = was_damaged fault page (handed_on r fault (Damaged page) told e)
