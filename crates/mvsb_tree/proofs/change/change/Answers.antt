use Rattle.std.proofs.Common.{◌≡◌, ◌≤◌, ◌∙◌, ℕ, List, IsTrue, length, ap, sym, subst, arith, rules}
use Rattle.std.specs.List.{All}
use Rattle.mv_pages.specs.Lows.{alive_lows, with_cut}
use Rattle.mvsb_tree.specs.Changed.{cut_of}
use Rattle.mvsb_tree.specs.Ways.{LowsCut}
use Rattle.mvsb_tree.proofs.Putting.{each_put_cut, living_child, long_put_cut, lows_alive, lows_put_cut, some_living}
use Rattle.mvsb_tree.proofs.change.change.Goals as goal

pub returns-clause-storable : goal.returns-clause-storable
returns-clause-storable c =
    let old = c.args.node.now.entries.items in
    let new = c.lead_on.new.node.entries.items in
    let v = c.args.version in
    let lows : alive_lows new v ≡ with_cut (cut_of c.args.replaced) (alive_lows old v) = c.lead_on.ensures.lows ∙ ap (with_cut (cut_of c.args.replaced)) (c.add_beside.ensures.lows_stay v) in
    let some = living_child c.args.node.now c.args.key v c.requires.path in
    let more = long_put_cut (cut_of c.args.replaced) c.low_laws.ensures.fewer (alive_lows old v) in
    let living : 1 ≤ length (alive_lows new v) = subst (λ (ls : List ℕ). 1 ≤ length ls) (sym lows) (omega (arith, some, more)) in
    let alive : 1 ≤ length (Rattle.mv_pages.specs.Alive.alive_at new v) = omega (arith, living, lows_alive new v) in
    let level = c.lead_on.ensures.past.level ∙ c.add_beside.ensures.level in
    let place = c.lead_on.ensures.past.place ∙ c.add_beside.ensures.place in
    let before = c.lead_on.ensures.past.before ∙ c.add_beside.ensures.before in
    record {
      place = omega (arith, place, c.requires.rules.place);
      before = search rules;
      low_level = omega (arith, level, c.requires.rules.low_level);
      high_level = omega (arith, level, c.requires.rules.high_level);
      some = some_living new v alive;
      few = omega (arith, c.lead_on.ensures.few, c.add_beside.ensures.few, c.requires.rules.few);
      entries = c.lead_on.ensures.entries;
      typed = c.lead_on.ensures.typed (c.add_beside.ensures.typed c.requires.typed.entries);
      changeable = c.lead_on.ensures.changeable;
      living = alive;
    }

pub returns-clause-around : goal.returns-clause-around
returns-clause-around c = λ cut q.
    let up = c.low_laws.ensures.alive c.args.node.now.level c.args.version c.args.node.now.entries.items c.requires.rules.entries c.requires.changeable in
    record { at = c.low_laws.ensures.at cut q _ up; above = c.low_laws.ensures.above cut q _ }

pub returns-clause-each : goal.returns-clause-each
returns-clause-each c = λ test mine all.
    let lows = c.lead_on.ensures.lows ∙ ap (with_cut (cut_of c.args.replaced)) (c.add_beside.ensures.lows_stay c.args.version) in
    subst (All (λ (l : ℕ). IsTrue (test l))) (sym lows) (each_put_cut (cut_of c.args.replaced) c.low_laws.ensures.each test _ mine all)

pub returns-clause-cut : goal.returns-clause-cut
returns-clause-cut c = λ low least high cut fits.
    let lows = c.lead_on.ensures.lows ∙ ap (with_cut (cut_of c.args.replaced)) (c.add_beside.ensures.lows_stay c.args.version) in
    subst (λ (ls : List ℕ). LowsCut ls low high least) (sym lows)
    (lows_put_cut (cut_of c.args.replaced) c.low_laws.ensures.first c.low_laws.ensures.each c.low_laws.ensures.fewer c.low_laws.ensures.ascending _ low high least cut fits)
