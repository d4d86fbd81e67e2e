use Rattle.std.proofs.Common.{◌≡◌, ◌≤◌, ℕ, Option, None, cond, ◌==◌, ap, false, arith}
use Rattle.std.proofs.lemmas.Bool.{ne_eqb}
use Rattle.mv_pages.proofs.Typing.{led_typed}
use Rattle.mv_pages.proofs.Children.{anew_value, anew_entries, anew_changeable, anew_alive, anew_lows, anew_past, anew_led, anew_others, lows_anew-early, lows_anew-late}
use Rattle.mv_pages.proofs.child.new_child.Goals as goal

pub returns-clause-value : goal.returns-clause-value
returns-clause-value c = λ q w. anew_value c.args.node.now.level c.args.node.now.entries.items c.lead.new.entries.items c.put_second.new.entries.items c.args.key c.args.version c.args.child c.args.second
    c.requires.entries c.requires.changeable c.lead.ensures.led c.put_second.ensures.items q w

pub returns-clause-past : goal.returns-clause-past
returns-clause-past c = λ q w early. ap (λ (o : Option ℕ). cond (c.args.node.now.level == 1) None o)
    (anew_past c.args.node.now.level c.args.node.now.entries.items c.lead.new.entries.items c.put_second.new.entries.items c.args.key c.args.version c.args.child c.args.second
    c.requires.entries c.requires.changeable c.lead.ensures.led c.put_second.ensures.items q w early)

index_level : (level : ℕ) (o p : Option ℕ) → 2 ≤ level → o ≡ p → cond (level == 1) None o ≡ p
index_level level o p high same = let b : (level == 1) ≡ false = ne_eqb level 1 (λ one. omega (arith, one, high)) in rw b same

pub returns-clause-led : goal.returns-clause-led
returns-clause-led c = λ q w late begins ends. index_level c.args.node.now.level _ _ c.requires.level
    (anew_led c.args.node.now.level c.args.node.now.entries.items c.lead.new.entries.items c.put_second.new.entries.items c.args.key c.args.version c.args.child c.args.second
    c.requires.entries c.requires.changeable c.lead.ensures.led c.put_second.ensures.items c.requires.second q w late begins ends)

pub returns-clause-others : goal.returns-clause-others
returns-clause-others c = λ q w late no. ap (λ (o : Option ℕ). cond (c.args.node.now.level == 1) None o)
    (anew_others c.args.node.now.level c.args.node.now.entries.items c.lead.new.entries.items c.put_second.new.entries.items c.args.key c.args.version c.args.child c.args.second
    c.requires.entries c.requires.changeable c.lead.ensures.led c.put_second.ensures.items c.requires.second q w late no)

pub returns-clause-entries : goal.returns-clause-entries
returns-clause-entries c = anew_entries c.args.node.now.level c.args.node.now.entries.items c.lead.new.entries.items c.put_second.new.entries.items c.args.key c.args.version c.args.child c.args.second
    c.requires.entries c.requires.changeable c.lead.ensures.led c.put_second.ensures.items c.requires.level c.requires.child c.requires.second

pub returns-clause-changeable : goal.returns-clause-changeable
returns-clause-changeable c = anew_changeable c.args.node.now.level c.args.node.now.entries.items c.lead.new.entries.items c.put_second.new.entries.items c.args.key c.args.version c.args.child c.args.second
    c.requires.entries c.requires.changeable c.lead.ensures.led c.put_second.ensures.items c.requires.second

pub returns-clause-alive : goal.returns-clause-alive
returns-clause-alive c = λ low. anew_alive c.args.node.now.level c.args.node.now.entries.items c.lead.new.entries.items c.put_second.new.entries.items c.args.key c.args.version c.args.child c.args.second
    c.requires.entries c.requires.changeable c.lead.ensures.led c.put_second.ensures.items c.requires.second low

pub returns-clause-lows : goal.returns-clause-lows
returns-clause-lows c = λ test all here. anew_lows c.args.node.now.entries.items c.lead.new.entries.items c.put_second.new.entries.items c.args.key c.args.version c.args.child c.args.second test
    c.lead.ensures.led c.put_second.ensures.items all here

pub returns-clause-typed : goal.returns-clause-typed
returns-clause-typed c = λ all. c.put_second.ensures.typed
    (led_typed c.args.node.now.entries.items c.lead.new.entries.items c.args.key c.args.version c.args.child c.lead.ensures.led c.ranges.version.fits c.ranges.child.fits all)

pub returns-clause-lows_before : goal.returns-clause-lows_before
returns-clause-lows_before c = λ w early. lows_anew-early c.args.node.now.level c.args.node.now.entries.items c.lead.new.entries.items c.put_second.new.entries.items c.args.key c.args.version c.args.child c.args.second
    c.requires.entries c.requires.changeable c.lead.ensures.led c.put_second.ensures.items w early

pub returns-clause-lows_from : goal.returns-clause-lows_from
returns-clause-lows_from c = λ w late. lows_anew-late c.args.node.now.level c.args.node.now.entries.items c.lead.new.entries.items c.put_second.new.entries.items c.args.key c.args.version c.args.child c.args.second
    c.requires.entries c.requires.changeable c.lead.ensures.led c.put_second.ensures.items c.requires.second w late
