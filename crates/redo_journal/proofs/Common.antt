-- The names that most proofs of the crate cite, passed on from one place. Declares nothing.
pub use Rattle.std.proofs.Common.{◌≡◌, ℕ, ◌≤◌, Bool, true, false, List, ◌∙◌, ap, refl, length, arith, slice_index, ◌==◌, ◌<◌, subst, None, [], ◌∷◌, Box, IsTrue, nat_lt, ◌+◌, Result, Ok, Err, OnOk, OnErr, ◌⊎◌, inl, inr, sym, rules, ◌≢◌, ◌++◌, IsSome, zero, suc, ◌-◌, subst₂, Some, drop, add-one, length-append, slice_get, slice_index_or, unwrap_or, take, max, ap₂, Option, ◌↔◌, ◌^◌, append_assoc, IfSome, ◌*◌}
pub use Rattle.page_disk.specs.Image.{PageList, Image, area_of, with_area, written_at, page_at, AreWhole}
pub use Rattle.redo_journal.specs.Placing.{ImageList, homes_of, map_of, ArePlaced, with_images, AreWritable, Ascend, bytes_of, with_row, AreInReach}
pub use Rattle.redo_journal.specs.Images.{image_map, image_list, coming}
pub use Rattle.redo_journal.specs.Pending.{AtNewest, KeepsGate, DiffersInGate, IsInPlacing, LeavesArea, BodyPends, HomesPend, SameBody}
pub use Rattle.redo_journal.specs.Groups.{homes_in, last_of, behind, images_at, group_at, HeadAt, HoldsGroups, BreaksAt, HoldsImages}
pub use Rattle.page_disk.specs.Since.{LeavesOnly, LeavesNow}
pub use Rattle.std.proofs.lemmas.Grind.{common_steps}
pub use Rattle.std.proofs.lemmas.Result.{err_from_is_err_and, on_ok_weaker}
pub use Rattle.ports.specs.Pages.{PageMap, empty_map, put_page}
pub use Rattle.redo_journal.specs.Gates.{is_open, IsCreated, is_blank, is_empty, gate_of}
pub use Rattle.std.specs.List.{AllByRecursion, list_all, All}
pub use Rattle.page_disk.specs.SinceLaws.{LeavesOnly-same, LeavesOnly-then, LeavesOnly-moment, left_settled, LeavesOnly-weaken, settled_leaves}
pub use Rattle.std.proofs.lemmas.List.{ext_get_or, get_or_past, append-nil, length-take, length-drop, take-append-drop, length-set, get_or-set_same, get_or-set_other, get_or_append_left, drop-drop}
pub use Rattle.std.proofs.lemmas.Bool.{and_parts, cases_Bool, cases_lt, lt-ltb, eqb-true}
pub use Rattle.page_disk.specs.Calls.{WentOn, Writes}
pub use Rattle.page_disk.specs.Disk.{TellsImage, IsRead}
pub use Rattle.page_disk.specs.Moment.{Moment, AreaMoment, AreaMayBeLeft, MayBeLeft, is_written, counted_in, then_moment, settled_moment, MayBeLeftNow}
pub use Rattle.redo_journal.specs.Committing.{HasGate, IsArmed, IsHeld, IsDone, BeforeOrAfter}
pub use Rattle.redo_journal.specs.Groups.HoldsGroups.{last_group, more_groups}
pub use Rattle.page_disk.specs.declared.disk.Area.TheVariants.{Pages, Journal}
pub use Rattle.std.specs.List.Sorted.{IsStrictlySortedBy}
pub use Rattle.std.specs.Ordering.{nat_cmp}
pub use Rattle.redo_journal.specs.Settled.{SettlesTo, SettlesToOne, HoldsPages}
pub use Rattle.page_layout.specs.declared.journal_head.JournalHead.{JournalHead}
pub use Rattle.redo_journal.specs.Groups.BreaksAt.{breaks_later, breaks_here}
pub use Rattle.page_layout.specs.Head.{IsHead, IsTyped, head_page}
pub use Rattle.redo_journal.specs.Phases.{HasIdleJournal, IsShut, IsWritten, IsEmptyOrCreated}
pub use Rattle.std.specs.declared.cmp.Ordering.TheVariants.{Less}
pub use Rattle.std.proofs.lemmas.Map.Keys.{sorted_head, sorted_tail}
pub use Rattle.redo_journal.specs.Boxed.{unboxed, in_box, ascends}
pub use Rattle.redo_journal.specs.declared.gate.Gate.TheVariants.{Idle, Armed}
pub use Rattle.std.proofs.Math.Seq.{drop-cons, get_or-append_seam}
pub use Rattle.redo_journal.specs.declared.images.Images.{Images}
