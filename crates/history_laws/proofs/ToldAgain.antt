-- The lives of a history tell it.
use Rattle.std.proofs.Common.{◌≡◌, ◌+◌, List, [], length, map, sym, ◌∙◌, ap, subst, arith, IsPermutation}
use Rattle.std.proofs.lemmas.List.{length-map}
use Rattle.std.proofs.lemmas.List.Sorted.{IsPermutation-sym, length_permutation}
use Rattle.std.specs.List.{count_by, flat_map, range_with_len}
use Rattle.std.specs.List.Sorted.{IsNonDecreasingBy}
use Rattle.bw_types.specs.History.{History, changes, last_version}
use Rattle.bw_types.specs.Lawful.{IsLawful}
use Rattle.bw_types.specs.Lives.{Numbered, numbered, lives}
use Rattle.bw_types.specs.declared.change.Change.{Change}
use Rattle.bw_types.specs.declared.dated.Dated.{Dated}
use Rattle.bw_types.specs.declared.params.Params.{Params}
use Rattle.history_laws.specs.Alone.{LivesCountChanges, has_ended}
use Rattle.history_laws.specs.Lawful.{StagingChangesNoRefusal}
use Rattle.history_laws.specs.Told.{batch_of, by_event, named_by, told}
use Rattle.history_laws.proofs.Batches.{changed_all, cut_again, events_rise, later_without}
use Rattle.history_laws.proofs.EndsLive.{EndLive, lawful_ends}
use Rattle.history_laws.proofs.InOrder.{in_order_is, order_is}
use Rattle.history_laws.proofs.Members.{Among, among_permuted, among_rejoined}
use Rattle.history_laws.proofs.Named.{all_length, all_named, each_named, same_length}

-- a history in which each withdrawal is of a live id, and ends one life
module _ (h : History) (kept : List Dated) (ends : EndLive [] (changes h)) (count : length (lives h) + count_by has_ended (lives h) ≡ length (changes h)) (p : IsPermutation kept (lives h)) where
  -- its lives name each of its changes
  all_there : (x : Numbered) → Among x (numbered h) → Among x (all_named kept)
  all_there x a =
      among_rejoined named_by (lives h) kept x (IsPermutation-sym kept (lives h) p)
      (each_named (numbered h) (later_without 0 1 0 h (omega arith)) (subst (λ (cs : List Change). EndLive [] cs) (sym (changed_all h)) ends) x a)

  -- and as many
  as_many : length (all_named kept) ≡ length (numbered h)
  as_many = omega (arith, same_length kept (lives h) p, all_length (lives h), count, ap length (changed_all h), length-map (numbered h) (λ (n : Numbered). n.change))

  -- so these are its changes
  named_is : by_event (all_named kept) ≡ numbered h
  named_is = order_is (numbered h) (all_named kept) (events_rise h) all_there as_many

  in_order : (ns : List Numbered) → IsPermutation (all_named kept) ns → IsNonDecreasingBy (λ n. n.event) ns → ns ≡ numbered h
  in_order ns q up =
      in_order_is (numbered h) ns (events_rise h) up (λ x a. among_permuted (all_named kept) ns x q (all_there x a))
      (length_permutation (all_named kept) ns q ∙ as_many)

pub told_again : LivesCountChanges → StagingChangesNoRefusal → (params : Params) (h : History) (kept : List Dated) → IsLawful params h → IsPermutation kept (lives h) → told kept (last_version h) ≡ h
told_again counted staged params h kept l p =
    ap (λ (ns : List Numbered). map (batch_of ns) (range_with_len 1 (last_version h))) (named_is h kept (lawful_ends staged params h l) (counted params h l) p) ∙ cut_again h

pub one_told : LivesCountChanges → StagingChangesNoRefusal → (params : Params) (h k : History) (kept : List Dated) → IsLawful params h → IsLawful params k
    → IsPermutation kept (lives h) → IsPermutation kept (lives k) → last_version h ≡ last_version k → h ≡ k
one_told counted staged params h k kept l m p q same =
    sym (told_again counted staged params h kept l p) ∙ (ap (told kept) same ∙ told_again counted staged params k kept m q)

pub named_changes : LivesCountChanges → StagingChangesNoRefusal → (params : Params) (h : History) (kept : List Dated) (ns : List Numbered) → IsLawful params h → IsPermutation kept (lives h)
    → IsPermutation (flat_map named_by kept) ns → IsNonDecreasingBy (λ n. n.event) ns → ns ≡ numbered h
named_changes counted staged params h kept ns l p = in_order h kept (lawful_ends staged params h l) (counted params h l) p ns
