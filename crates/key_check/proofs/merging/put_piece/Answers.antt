use Rattle.std.proofs.Common.{List, [], ◌∷◌, ◌++◌, ap, sym, ◌∙◌}
use Rattle.std.proofs.lemmas.List.{append-nil}
use Rattle.key_check.specs.declared.leveled.Leveled.{Leveled}
use Rattle.key_check.proofs.Pushing.{put_longer, put_one}
use Rattle.key_check.proofs.merging.put_piece.Goals as goal

pub returns-in_default : goal.returns-in_default
returns-in_default c =
    put_one c.args.merged.now.items c.push_leveled.new.pieces.items c.args.l
    (c.in_ok-push_leveled.ensures.items ∙ ap (λ (xs : List Leveled). xs ++ c.args.l ∷ []) (sym (c.in_default.ensures.items ∙ append-nil c.pop.new.self.items)))

pub returns-then-not-follows : goal.returns-then-not-follows
returns-then-not-follows c =
    put_one c.args.merged.now.items c.push_leveled-then-not-follows-2.new.pieces.items c.args.l
    (c.in_ok-push_leveled-3.ensures.items ∙ ap (λ (xs : List Leveled). xs ++ c.args.l ∷ []) (c.in_ok-push_leveled-2.ensures.items ∙ sym c.in-Some.ensures.items))

pub returns : goal.returns
returns c =
    put_longer c.args.merged.now.items c.pop.new.self.items c.push_leveled-2.new.pieces.items c.in-Some.last c.args.l (c.follows.ensures c.if-not-follows.false) c.in-Some.ensures.items
    c.in_ok-push_leveled-4.ensures.items
