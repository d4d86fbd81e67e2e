use Rattle.std.proofs.Common.{Some, ap, sym, ◌∙◌, subst, arith}
use Rattle.page_space.specs.MetaSet.{FitsBesideCounts}
use Rattle.page_space.proofs.Staging.{meta_put, put_there}
use Rattle.page_space.proofs.staged.Staged.set_meta.Goals as goal

pub returns-clause-set : goal.returns-clause-set
returns-clause-set g c =
    let fits = subst FitsBesideCounts (sym c.copied-set.ensures.value) c.requires in
    record {
      rules = search (fits, c.args.self.now.first, arith);
      typed = search (c.copied-set.ensures.typed, arith);
      image = put_there _ _ 2 _ c.in_ok-put_image.ensures.ok ∙ ap (λ b. Some b) c.write.ensures;
    }

pub returns-clause-map : goal.returns-clause-map
returns-clause-map g c = (meta_put _ _ _ _ 0 c.in_ok-put_image.ensures.bytes).0

pub returns-clause-chain : goal.returns-clause-chain
returns-clause-chain g c = (meta_put _ _ _ c.args.self.now.meta.allotted c.args.self.now.meta.free c.in_ok-put_image.ensures.bytes).1

pub returns-clause-in_order : goal.returns-clause-in_order
returns-clause-in_order g c = (meta_put _ _ _ c.args.self.now.meta.allotted c.args.self.now.meta.free c.in_ok-put_image.ensures.bytes).2
