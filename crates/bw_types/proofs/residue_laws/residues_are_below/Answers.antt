use Rattle.bw_types.specs.ResidueLaws.{residue_is_below, residue_of_small, residue_of_natural}
use Rattle.bw_types.proofs.residue_laws.residues_are_below.Goals as goal

pub returns-clause-below : goal.returns-clause-below
returns-clause-below c = residue_is_below

pub returns-clause-small : goal.returns-clause-small
returns-clause-small c = residue_of_small

pub returns-clause-natural : goal.returns-clause-natural
returns-clause-natural c = residue_of_natural
