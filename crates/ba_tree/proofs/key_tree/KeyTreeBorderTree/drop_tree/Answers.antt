use Rattle.std.proofs.Common.{inl, inr}
use Rattle.std.proofs.lemmas.Result.{on_ok_weaker}
use Rattle.mvsb_tree.specs.Steps.{tree_pages}
use Rattle.ba_tree.proofs.key_tree.KeyTreeBorderTree.drop_tree.Goals as goal

pub returns-clause-dropped : goal.returns-clause-dropped
returns-clause-dropped g c = on_ok_weaker c.mv_free.result (λ dropped tells points s.
    (c.freed_laws.ensures.dropped (λ pages. tree_pages pages c.args.tree.now) (g.S.Pages.map c.args.stage.now) (g.S.Pages.map c.mv_free.new.stage) (dropped tells)).1) c.mv_free.ensures.dropped

pub returns-clause-damaged : goal.returns-clause-damaged
returns-clause-damaged g c = λ page e tells first freed lost. elim (c.mv_free.ensures.damaged page e tells first freed lost) [
  | inl (inl damaged) ↦ inl damaged
  | inl (inr twice) ↦ inl (inr (inr (inr twice)))
  | inr again ↦ inr again
]
