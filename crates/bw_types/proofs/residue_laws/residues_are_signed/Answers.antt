use Rattle.bw_types.specs.ResidueLaws.{signed_of_residue, residue_of_signed}
use Rattle.bw_types.proofs.residue_laws.residues_are_signed.Goals as goal

pub returns-clause-of_residue : goal.returns-clause-of_residue
returns-clause-of_residue c = signed_of_residue

pub returns-clause-of_signed : goal.returns-clause-of_signed
returns-clause-of_signed c = residue_of_signed
