use Rattle.std.proofs.Common.{◌≡◌, ◌<◌, true, false, ap, ◌∙◌, sym, refl, subst, arith}
use Rattle.std.specs.List.{list_all}
use Rattle.std.proofs.lemmas.Bool.{eq-eqb, eqb-true}
use Rattle.bw_types.specs.Mass.{mass_limit}
use Rattle.bw_types.specs.Refusals.{total_mass}
use Rattle.image_check.specs.Fitting.{change_fits}
use Rattle.page_warehouse.proofs.EventNumbers.{events_changes, events_count}
use Rattle.image_check.proofs.Masses.{lawful_fit}
use Rattle.image_check.proofs.numbers.numbers_hold.Goals as goal

pub returns-in-Some : goal.returns-in-Some
returns-in-Some c = λ h are last lawful.
    let n = events_count h c.args.events.now are in
    let same = ap (total_mass c.args.params.now) (events_changes h c.args.events.now are) in (
      λ y. record {
        version = sym last;
        events = omega (arith, n, last);
        rows = omega (arith, n);
        mass = sym (eqb-true c.in-Some.total c.args.meta.now.mass y) ∙ (c.in-Some.ensures.some ∙ same);
      },
      λ t. eq-eqb c.in-Some.total c.args.meta.now.mass (c.in-Some.ensures.some ∙ (same ∙ sym t.mass)),
    )

pub returns-in-None : goal.returns-in-None
returns-in-None c = λ h are last lawful.
    let same = events_changes h c.args.events.now are in (
      λ y. let no : false ≡ true = y in absurd cc,
      λ t. absurd (c.in-None.ensures.none refl
          (ap (list_all (change_fits c.args.params.now)) same ∙ lawful_fit c.args.params.now h lawful)
          (subst (λ n. n < mass_limit) (sym (ap (total_mass c.args.params.now) same)) (c.lawful_histories_have_room.ensures c.args.params.now h lawful).mass)),
    )

pub returns-then-meta-count : goal.returns-then-meta-count
returns-then-meta-count c = λ h are last lawful.
    let n = events_count h c.args.events.now are in (
      λ y. let no : false ≡ true = y in absurd cc,
      λ t. absurd (c.if-meta-count.true (omega (arith, t.rows, n))),
    )
