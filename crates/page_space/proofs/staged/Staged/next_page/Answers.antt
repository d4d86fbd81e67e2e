use Rattle.std.proofs.Common.{[], Err, ap, ◌∙◌, arith}
use Rattle.std.proofs.lemmas.Result.{err_from_is_err_and}
use Rattle.ports.specs.Pages.{blank_bytes}
use Rattle.page_space.specs.Bytes.{bytes_with}
use Rattle.page_space.specs.ChainLaws.{order_taken}
use Rattle.page_space.specs.Shown.{staged_bytes}
use Rattle.page_space.proofs.Walking.{chain_taken, chain_longer}
use Rattle.page_space.proofs.staged.Staged.next_page.Goals as goal

pub returns-then-page-ne0-clause-order : goal.returns-then-page-ne0-clause-order
returns-then-page-ne0-clause-order g c = λ told h. (chain_taken _ _ _ _ _ c.next_free.ensures.keeps.meta c.if-page-ne0.true (c.in_ok-free.ensures.only told) h).1

pub returns-then-page-ne0-clause-takes : goal.returns-then-page-ne0-clause-takes
returns-then-page-ne0-clause-takes g c = λ told h. (chain_taken _ _ _ _ _ c.next_free.ensures.keeps.meta c.if-page-ne0.true (c.in_ok-free.ensures.only told) h).0

pub returns-clause-takes : goal.returns-clause-takes
returns-clause-takes g c = λ told h.
    chain_longer (staged_bytes c.args.self.now) (bytes_with (staged_bytes c.args.self.now) c.args.self.now.meta.allotted blank_bytes) c.args.self.now.meta.allotted _ (omega arith)

pub returns-in_err-free-clause-damaged : goal.returns-in_err-free-clause-damaged
returns-in_err-free-clause-damaged g c = λ p e.
    let out = err_from_is_err_and c.from_residual.result c.from_residual.ensures.1 in
    let d = c.next_free.ensures.damaged p (c.in_err-free.was ∙ ap (λ f. Err f) (out.2.damaged p (cc (out.1, e)))) in
    (d.0, λ told h. let first = order_taken (staged_bytes c.args.self.now) [] _ _ c.if-page-ne0.true h in d.1 told first.0 first.1.0)
