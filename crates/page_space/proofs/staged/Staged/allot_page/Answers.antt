use Rattle.std.proofs.Common.{◌≡◌, IsTrue, ap, arith, refl, rules}
use Rattle.std.proofs.lemmas.Result.{err_from_is_err_and}
use Rattle.ports.specs.Pages.{blank_bytes}
use Rattle.page_layout.specs.declared.meta.Meta.{Meta}
use Rattle.redo_journal.specs.Images.{image_map}
use Rattle.redo_journal.specs.Placing.{placed_at}
use Rattle.page_space.specs.Bytes.{bytes_with}
use Rattle.page_space.specs.Shown.{staged_bytes, staged_chain, IsStagedInOrder}
use Rattle.page_space.proofs.Giving.{changes_ok, err_within, fresh_more, on_err, on_ok, put_fresh, put_within, went}
use Rattle.page_space.proofs.Staging.{BlankPut, blank_put, placed_with}
use Rattle.page_space.proofs.Walking.{same_keeps, taken_keeps}
use Rattle.page_space.proofs.staged.Staged.allot_page.Goals as goal

pub invariant_of-self-clause-fresh : goal.invariant_of-self-clause-fresh
invariant_of-self-clause-fresh g c = put_fresh c.put.result _ _ _ _ c.put.ensures.ok c.put.ensures.err _ _ c.next_page.new.self.fresh

pub invariant_of-self-clause-within : goal.invariant_of-self-clause-within
invariant_of-self-clause-within g c = err_within c.put.result _ _ (cc) c.put.ensures.err _ c.next_page.new.self.within

pub invariant_of-self-2-clause-fresh : goal.invariant_of-self-2-clause-fresh
invariant_of-self-2-clause-fresh g c = fresh_more _ _ c.in_ok-next.next.page c.blank_page.result _ _ c.in_ok-next.next.allotted (on_ok c.put.result _ (cc) c.put.ensures.ok)
    (rw (ap (λ (m : Meta). m.allotted) c.next_page.ensures.keeps.meta) c.in_ok-next.ensures.only) c.next_page.new.self.fresh

pub invariant_of-self-2-clause-within : goal.invariant_of-self-2-clause-within
invariant_of-self-2-clause-within g c =
    let same = ap (λ (m : Meta). m.allotted) c.next_page.ensures.keeps.meta in
    let next = c.in_ok-next.ensures in
    put_within c.put.result _ _ _ _ c.put.ensures.ok c.put.ensures.err c.in_ok-next.next.allotted (omega (arith, next.ends.0)) next.ends.1
    (λ p some. let within = c.next_page.new.self.within p some in (within.0, omega (arith, within.1, next.grows.0)))

wrote : (g : _) (c : goal.After-self-4-1 g) → placed_at (image_map c.put.new.self) (g.D.Disk.image c.next_page.new.self.space.disk).pages
    ≡ bytes_with (staged_bytes c.args.self.now) c.in_ok-next.next.page blank_bytes
wrote g c =
    let placed = on_ok c.put.result _ (cc) c.put.ensures.ok in
    let bytes : placed_at (image_map c.put.new.self) (g.D.Disk.image c.next_page.new.self.space.disk).pages
    ≡ bytes_with (staged_bytes c.next_page.new.self) c.in_ok-next.next.page c.blank_page.result = rw placed (placed_with _ _ _ _) in
    cc (bytes, c.next_page.ensures.keeps.bytes)

pub returns-clause-bytes : goal.returns-clause-bytes
returns-clause-bytes g c = wrote g c

put : (g : _) (c : goal.After-self-4-1 g) → IsTrue (g.D.Disk.tells c.args.self.now.space.disk)
    → BlankPut (staged_bytes c.args.self.now) (placed_at (image_map c.put.new.self) (g.D.Disk.image c.next_page.new.self.space.disk).pages)
    c.in_ok-next.next.page c.args.self.now.meta.allotted c.in_ok-next.next.allotted c.in_ok-next.next.free (staged_chain c.args.self.now) (IsStagedInOrder c.args.self.now)
put g c told =
    let next = c.in_ok-next.ensures in
    blank_put _ _ _ _ _ _ _ _ (wrote g c) next.grows.0 next.only next.ends.0 next.ends.1 (next.takes told) (next.order told)

pub returns-clause-ok : goal.returns-clause-ok
returns-clause-ok g c = λ told. (c.in_ok-next.ensures.unused told, (put g c told).0)

pub returns-clause-chain : goal.returns-clause-chain
returns-clause-chain g c = λ told. (put g c told).1

pub returns-clause-changes : goal.returns-clause-changes
returns-clause-changes g c = changes_ok _ 1 _ _ _ (went _ 1 _ _ (search rules) (search rules) (search rules)
    c.in_ok-next.ensures.grows.0 c.in_ok-next.ensures.grows.1 (search rules) (search rules) (λ told. (put g c told).2)
    (λ told h p lost. taken_keeps _ _ _ c.in_ok-next.next.page blank_bytes (put g c told).0 ((put g c told).1 h) p lost))

pub returns-in_err-next-clause-damaged_first : goal.returns-in_err-next-clause-damaged_first
returns-in_err-next-clause-damaged_first g c = λ p e.
    c.next_page.ensures.damaged_first p (let out = err_from_is_err_and c.from_residual.result c.from_residual.ensures.1 in cc (out.1, out.2))

pub returns-then-is_err-clause-changes : goal.returns-then-is_err-clause-changes
returns-then-is_err-clause-changes g c =
    let next = c.next_page.ensures.changes.went_on in
    let same = on_err c.put.result _ (cc) c.put.ensures.err in
    record {
      went_on = went _ 1 _ _ next.tells next.base next.limit next.allotted next.at_most next.gets next.faults
          (λ told h. rw same (next.free_in_order told h))
          (λ told h p lost. next.none_forgotten told h p (same_keeps _ _ _ (rw same) (rw same) refl p lost));
      disk = λ e. absurd cc;
      page_limit = λ n e. absurd cc;
    }
