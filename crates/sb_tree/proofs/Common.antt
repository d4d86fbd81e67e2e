-- The names that most proof files of the crate cite.
pub use Rattle.std.proofs.Common.{Bool, Err, IsSome, IsTrue, List, None, Option, Result, Some, [], ap, append_assoc, arith, cond, drop, drop-cons, false, get_or, inl, inr, leb, leb-true, length, length-append, length-drop, lit<, lit≤, map, nat_eq, nat_le, refl, rules, subst, suc, sym, take, true, zero, ℕ, ◌%◌, ◌*◌, ◌++◌, ◌+◌, ◌-◌, ◌<◌, ◌==◌, ◌^◌, ◌||◌, ◌∙◌, ◌∷◌, ◌≡◌, ◌≢◌, ◌≤◌, ◌⊎◌}
pub use Rattle.std.proofs.Math.Bool.{and-true}
pub use Rattle.std.proofs.Math.ListN.{get_or-map}
pub use Rattle.std.proofs.Math.Nat.{add-mod-mod, mod-add-mod, mod-lt, mul-le-mul_left, mul_comm, one-le-pow, pow-suc, suc-mul, zero-mul}
pub use Rattle.std.proofs.Math.Seq.{take-suc}
pub use Rattle.std.proofs.lemmas.Bool.{cases_Bool, cases_lt, eq-eqb, eqb-true, le-leb, leb-false, lt-leb, ltb-false, ltb-true, ne_eqb, or_cases, or_from, or_left, or_parts, or_right}
pub use Rattle.std.proofs.lemmas.Bool.Decides.{nat_tests}
pub use Rattle.std.proofs.lemmas.Cmp.{nat_eq_equiv}
pub use Rattle.std.proofs.lemmas.List.{append-nil, drop_all, get_or-drop, get_or-take, get_or_default, length-map, length-take, length-take-le, take-append-drop, take_all, take_more}
pub use Rattle.std.proofs.lemmas.List.Concat.{flat_map-append}
pub use Rattle.std.proofs.lemmas.List.Elements.{All-append, All-cons, All-drop, All-nil, All-push, All-take}
pub use Rattle.std.proofs.lemmas.List.Folds.{list_any-append, list_any_none}
pub use Rattle.std.proofs.lemmas.List.Sorted.{IsNonDecreasingBy-from_all_adjacent, IsPartitionPoint-from_clause, IsPartitionedBy-leb, length_permutation, list_any-IsPermutation, sum_by-IsPermutation}
pub use Rattle.std.proofs.lemmas.List.Sums.{sum_by-append, sum_by-cons}
pub use Rattle.std.proofs.lemmas.Map.Made.{length-le_from_is_member}
pub use Rattle.std.proofs.lemmas.Result.{IfOk-weaker, err_from_is_err_and}
pub use Rattle.std.specs.List.{All, AllAdjacentBelow, AllByRecursion, flat_map, list_any, sum_by}
pub use Rattle.std.specs.Option.{option_map_or}
pub use Rattle.std.specs.Prelude.{IsPermutation}
pub use Rattle.bw_types.specs.Dominance.{dominance_sum, dominated_weight, is_dominated}
pub use Rattle.bw_types.specs.DigitLaws.{digits_are_few, digits_grow, powers_have_digits}
pub use Rattle.bw_types.specs.declared.point.Point.{Point}
pub use Rattle.bw_types.specs.declared.tree.Tree.{Tree}
pub use Rattle.ports.specs.Calls.{WentOn}
pub use Rattle.ports.specs.Faults.{HandsOn}
pub use Rattle.ports.specs.Frame.{AgreeOn, AreApart, AreInMap, Replaces, names_page}
pub use Rattle.ports.specs.FrameLaws.{Replaces-agree, Replaces-apart, Replaces-beside, Replaces-same, names_page-append}
pub use Rattle.ports.specs.Pages.{PageMap, blank_bytes, put_page}
pub use Rattle.ports.specs.declared.page.PageFault.{PageFault}
pub use Rattle.ports.specs.declared.page.StageFault.{StageFault}
pub use Rattle.page_layout.specs.Children.{child_fits}
pub use Rattle.page_layout.specs.Damage.{HoldsNoNode, IsDamagedBelow, NothingBeside}
pub use Rattle.page_layout.specs.Entries.{AreInOrder}
pub use Rattle.page_layout.specs.Footprint.{IsNamedTwice, NamesNoneTwice, times_named}
pub use Rattle.page_layout.specs.FootprintLaws.{apart_sym, flat_more, named_by_neither, named_once, not_twice, once_apart, once_join, once_left, once_right, times_append, times_cons}
pub use Rattle.page_layout.specs.SbNode.{IsSbEntryTyped, IsSbNode, IsTyped, sb_node_in, sb_node_page}
pub use Rattle.page_layout.specs.SbNodeLaws.{sb_node_in-page}
pub use Rattle.page_layout.specs.Spelled.{SpellsNone}
pub use Rattle.page_layout.specs.Totals.{next_total}
pub use Rattle.page_layout.specs.declared.sb_node.SbEntry.{SbEntry}
pub use Rattle.page_layout.specs.declared.sb_node.SbNode.{SbNode}
pub use Rattle.sb_tree.specs.Cut.{BeginLater, HaveBegun, IsCut}
pub use Rattle.sb_tree.specs.Damage.{FitsLevel, FitsPlace, IsDamagedForFree, IsDamagedFrom, IsDamagedInside, IsDamagedOnPath, IsFullBelow, IsInPlace, LeadsTo, low_from, next_from, root_place, sb_pages}
pub use Rattle.sb_tree.specs.Edits.{TakesIn, beside, first_entries, first_half, leaf_entry, raised_entry, raised_first, root_entries, second_entry, second_half}
pub use Rattle.sb_tree.specs.Raised.{IsLowOf, IsRaised, PartsStand, SecondFits, WasFull, added_at, parts_lows, parts_pages, parts_total}
pub use Rattle.sb_tree.specs.Stands.{EachStands, IsBalanced, NodeStands, RootStands, SbStands, StandsBelow, first_low, is_marked}
pub use Rattle.sb_tree.specs.Steps.{begun_value, child_at, child_from, entries_on, lows_below, no_node, node_on, pages_below, total_below, tree_pages}
pub use Rattle.sb_tree.specs.Stored.{IsSecondOf, IsStorable, IsStored, OthersStay, page_of}
pub use Rattle.sb_tree.specs.declared.place.Place.{Place}
pub use Rattle.sb_tree.specs.declared.second.Second.{Second}
