use Rattle.std.proofs.Common.{IsTrue, take, get_or, sym, ◌∙◌}
use Rattle.std.proofs.lemmas.Bool.{false≢true}
use Rattle.std.proofs.lemmas.List.Elements.{All-more}
use Rattle.page_layout.specs.declared.mv_node.MvEntry.{MvEntry}
use Rattle.mvsb_tree.specs.Stands.{is_marked, is_past}
use Rattle.key_check.specs.Marks.{EntriesKept}
use Rattle.key_check.proofs.Marking.{key_in, past_in}
use Rattle.key_check.proofs.marks.entries_keep.Goals as goal
use Rattle.key_check.proofs.marks.entries_keep.Goals.{else-level-eq1-via-then-level-eq1+else-not-is_key_mark, else-level-eq1-via-else-level-eq1}

abbrev none : MvEntry
none = record { low = 0; start = 0; end = 0; value = 0; child = 0 }

pub returns-then-not-is_past : goal.returns-then-not-is_past
returns-then-not-is_past c = λ points m.
    let e : MvEntry = get_or c.args.entries.now c.loop-e.e-index none in (
      λ never. absurd (false≢true never),
      λ kept. sym c.if-not-is_past.true ∙ c.is_past.ensures ∙ past_in points c.args.marks.now e c.as_slice.result.now m c.as_slice.ensures.value ∙ kept.past c.loop-e.e-index none c.loop-e-test.true,
    )

pub returns-then-not-is_key_mark : goal.returns-then-not-is_key_mark
returns-then-not-is_key_mark c = λ points m.
    let e : MvEntry = get_or c.args.entries.now c.loop-e.e-index none in (
      λ never. absurd (false≢true never),
      λ kept. sym c.if-not-is_key_mark.true ∙ c.is_key_mark.ensures ∙ key_in points c.args.marks.now e.low c.as_slice-then-level-eq1.result.now m c.as_slice-then-level-eq1.ensures.value
          ∙ kept.lows c.if-level-eq1.true c.loop-e.e-index none c.loop-e-test.true,
    )

pub loop-e-preserved : goal.loop-e-preserved
loop-e-preserved c = λ points m.
    let e : MvEntry = get_or c.args.entries.now c.loop-e.e-index none in
    let before : EntriesKept points c.args.level (take c.loop-e.e-index c.args.entries.now) = c.loop-e.invariant points m in
    record {
      past = All-more (λ (x : MvEntry). IsTrue (is_past points x)) c.args.entries.now c.loop-e.e-index none c.loop-e-test.true before.past
          (sym (past_in points c.args.marks.now e c.as_slice.result.now m c.as_slice.ensures.value) ∙ sym c.is_past.ensures ∙ c.if-not-is_past.false);
      lows = λ leaf. elim c.else-level-eq1.branch [
        | else-level-eq1-via-then-level-eq1+else-not-is_key_mark w ↦
            All-more (λ (x : MvEntry). IsTrue (is_marked points x.low)) c.args.entries.now c.loop-e.e-index none c.loop-e-test.true (before.lows leaf)
            (sym (key_in points c.args.marks.now e.low w.as_slice-then-level-eq1.result.now m w.as_slice-then-level-eq1.ensures.value) ∙ sym w.is_key_mark.ensures ∙ w.if-not-is_key_mark.false)
        | else-level-eq1-via-else-level-eq1 w ↦ absurd (w.if-level-eq1.false leaf)
      ];
    }
