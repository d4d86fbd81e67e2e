use Rattle.bw_types.specs.ResidueLaws.{residue_of_sum, residue_of_product, residue_of_opposite}
use Rattle.bw_types.proofs.residue_laws.residues_follow.Goals as goal

pub returns-clause-sum : goal.returns-clause-sum
returns-clause-sum c = residue_of_sum

pub returns-clause-product : goal.returns-clause-product
returns-clause-product c = residue_of_product

pub returns-clause-opposite : goal.returns-clause-opposite
returns-clause-opposite c = residue_of_opposite
