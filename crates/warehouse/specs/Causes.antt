-- When a commit may answer what.
use Rattle.std.specs.Prelude.{◌≡◌, Option, Some}
use Rattle.bw_types.specs.declared.refusal.Refusal.{Refusal}
use Rattle.warehouse.specs.declared.fault.ListFault.{ListFault}
use Rattle.warehouse.specs.declared.fault.ListFault.TheVariants.{Refused, NoMemory}

-- a refusal is the first one that there is; want of memory is free
abbrev pub IsCausedBy : Option Refusal → ListFault → Type 0
IsCausedBy first (Refused r) = first ≡ Some r
IsCausedBy first NoMemory = Unit {0}
