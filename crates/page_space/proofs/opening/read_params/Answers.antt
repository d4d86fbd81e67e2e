use Rattle.std.proofs.Common.{◌≤◌, refl, sym, ◌∙◌, arith, length}
use Rattle.std.proofs.lemmas.Option.{none-some}
use Rattle.page_layout.specs.declared.super_page.Super.{Super}
use Rattle.page_space.proofs.opening.read_params.Goals as goal

pub returns-in-None-clause-damaged : goal.returns-in-None-clause-damaged
returns-in-None-clause-damaged g c = (
  refl,
  λ told params s.
      let value : Super = record { params = params } in
      let long : 3 ≤ length (g.D.Disk.image c.args.disk.now).pages = c.requires told in
      none-some value (sym c.in-None.is ∙ c.read.ensures.only value tt s.rules (c.in_ok-page.ensures.ok told (omega arith) ∙ s.spelled)),
)
