use Rattle.redo_journal.proofs.Common.{◌≡◌, ℕ, ◌+◌, ◌∷◌, [], ◌++◌, ◌∙◌, List, Option, ap, append_assoc, arith, drop, length, rules, subst, sym, IfSome, common_steps, drop-drop, coming, homes_of}
use Rattle.redo_journal.proofs.committing.next_head.Goals as goal

pub loop-preserved : goal.loop-preserved
loop-preserved c =
    let inv = c.loop.invariant in
    let image : ℕ × List ℕ = (c.unwrap-home.result.0, c.unwrap-home.result.1.now) in
    let rest = coming c.next.new.self in
    let is : coming c.loop.homes ≡ image ∷ rest =
    subst (λ (o : Option _). IfSome o (λ found. coming c.loop.homes ≡ (found.0, found.1.now) ∷ rest)) c.unwrap-home.ensures c.next.ensures.some in
    let size : length (coming c.loop.homes) ≡ length rest + 1 = ap length is ∙ omega arith in
    let pushed : c.push.new.self.items ≡ c.loop.named.items ++ image.0 ∷ [] = search rules in
    record {
      left = omega arith;
      rest = sym (drop-drop 1 c.loop.counter (coming c.args.homes.now)) ∙ ap (drop 1) (inv.rest ∙ is);
      all = ap (λ s. s ++ homes_of rest) pushed
          ∙ (append_assoc c.loop.named.items (image.0 ∷ []) (homes_of rest) ∙ (ap (λ s. c.loop.named.items ++ homes_of s) (sym is) ∙ inv.all));
      len = grind (arith, common_steps);
      typed = grind (arith, common_steps);
    }
