use Rattle.std.proofs.Common.{refl, sym, IsTrue, arith}
use Rattle.page_space.proofs.Committed.{no_further}
use Rattle.page_space.proofs.Giving.{on_ok}
use Rattle.page_space.proofs.Renewing.{renewed_agrees}
use Rattle.page_space.proofs.Settled.{idle_settles}
use Rattle.page_space.proofs.Walking.{next_chain}
use Rattle.page_space.proofs.Standing.{IsNext, next_of, holds_either}
use Rattle.page_space.proofs.staged.Staged.commit.Goals as goal

pub returns-then-is_err-clause-any_moment : goal.returns-then-is_err-clause-any_moment
returns-then-is_err-clause-any_moment g c = λ told. holds_either c.args.self _ _ told c.requires c.commit.ensures.any_moment

next : (g : _) (c : goal.After-renew_all g) → IsTrue (g.D.Disk.tells c.commit.new.disk) → IsNext c.args.self (g.D.Disk.image c.commit.new.disk).pages
next g c told = next_of c.args.self c.commit.result _ (cc) c.commit.ensures.placed c.requires (cc)

pub invariant_of-result-clause-rules : goal.invariant_of-result-clause-rules
invariant_of-result-clause-rules g c = c.requires.rules

pub invariant_of-result-clause-superblock : goal.invariant_of-result-clause-superblock
invariant_of-result-clause-superblock g c = λ told. (next g c told).superblock.spelled

pub invariant_of-result-clause-roots : goal.invariant_of-result-clause-roots
invariant_of-result-clause-roots g c = λ told. (next g c told).roots.spelled

pub invariant_of-result-clause-there : goal.invariant_of-result-clause-there
invariant_of-result-clause-there g c = λ told. (next g c told).there

pub invariant_of-result-clause-idle : goal.invariant_of-result-clause-idle
invariant_of-result-clause-idle g c = λ told. on_ok c.commit.result _ (cc) c.commit.ensures.idle (cc)

pub invariant_of-result-clause-settled : goal.invariant_of-result-clause-settled
invariant_of-result-clause-settled g c = on_ok c.commit.result _ (cc) c.commit.ensures.settled

pub invariant_of-result-clause-agrees : goal.invariant_of-result-clause-agrees
invariant_of-result-clause-agrees g c = λ told.
    renewed_agrees _ _ _ _ _ (on_ok c.commit.result _ (cc) c.commit.ensures.placed (cc)) c.renew_all.ensures.pages (c.args.self.space.agrees (cc))

-- the space of the stage, at the return
made : (g : _) (c : goal.After-drop-images-2 g) → IsTrue (g.D.Disk.tells c.args.self.space.disk) → IsNext c.args.self (g.D.Disk.image c.commit.new.disk).pages
made g c told = next_of c.args.self c.commit.result _ (cc) c.commit.ensures.placed c.requires told

pub returns-clause-map : goal.returns-clause-map
returns-clause-map g c = λ told. sym (made g c told).in_use

pub returns-clause-chain : goal.returns-clause-chain
returns-clause-chain g c = λ told. next_chain _ _ _ (on_ok c.commit.result _ (cc) c.commit.ensures.placed told) c.args.self.meta.allotted c.args.self.meta.free (made g c told).there

pub returns-clause-in_order : goal.returns-clause-in_order
returns-clause-in_order g c = λ told. (made g c told).in_order

pub returns-clause-holds : goal.returns-clause-holds
returns-clause-holds g c = λ told. let s = made g c told in record {
  pages = (g.D.Disk.image c.commit.new.disk).pages;
  settled = idle_settles (g.D.Disk.image c.commit.new.disk) (on_ok c.commit.result _ (cc) c.commit.ensures.idle told);
  space = record { superblock = s.superblock; roots = s.roots; there = s.there; few = s.few; in_use = refl; in_order = s.in_order };
}

pub returns-clause-lengths : goal.returns-clause-lengths
returns-clause-lengths g c = λ told. (
  no_further _ _ _ _ (on_ok c.commit.result _ (cc) c.commit.ensures.placed told) c.args.self.within,
  omega (arith, on_ok c.commit.result _ (cc) c.commit.ensures.journal told),
)

pub returns-clause-any_moment : goal.returns-clause-any_moment
returns-clause-any_moment g c = λ told. holds_either c.args.self _ _ told c.requires c.commit.ensures.any_moment
