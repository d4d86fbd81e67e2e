-- Each part takes the ones before it, and one part is the first that is broken.
use Rattle.std.proofs.Common.{◌≡◌, ℕ, false, inl, inr, sym, ◌∙◌}
use Rattle.bw_types.specs.History.{History}
use Rattle.bw_types.specs.declared.params.Params.{Params}
use Rattle.page_disk.specs.Image.{Image}
use Rattle.redo_journal.specs.Gates.{is_empty}
use Rattle.history_laws.specs.Telling.{LivesNameChanges}
use Rattle.dom_index.specs.declared.index.DomIndex.{Ghosts}
use Rattle.page_warehouse.specs.Holds.{Holds}
use Rattle.image_check.specs.Judging.{IsKept}
use Rattle.image_check.specs.Laws.{BrokenIsNo, PartsFollow}
use Rattle.image_check.specs.Parts.{HoldsOne, IsBrokenAt, IsHistory}
use Rattle.image_check.proofs.Naming.{kept_is_told}
use Rattle.image_check.proofs.SameSpace.{unordered}

module _ {X : Type 0} (g : Ghosts X) where
  history_of : LivesNameChanges → (x : Image) (params : Params) (h : History) → (held : Holds g x params h) → IsHistory x params held.meta held.pages held.table.kept h
  history_of law x params h held =
      let kept : IsKept params held.meta held.table.kept h = record { tells = held.tells; lawful = held.lawful; weights = held.weights; all = held.table.all } in
      record {
        table = record {
          roots = record { space = unordered x params held.meta held.pages (Unit {0}) held.space; roots = held.trees.forest.count };
          table = held.table.stands;
          told = kept_is_told law params held.meta held.table.kept h kept;
        };
        kept = kept;
        first = held.table.first;
      }

  pub parts_follow : LivesNameChanges → (x : Image) → PartsFollow g x
  parts_follow law x = record {
    history = λ it. (it.0, it.2.meta, it.2.pages, it.2.table.kept, it.1, history_of law x it.0 it.1 it.2);
    table = λ it. (it.0, it.1, it.2, it.3, it.4, it.5.table);
    roots = λ it. (it.0, it.1, it.2, it.5.roots);
    journal = λ it. (it.3.space.pages, it.3.space.settled);
    made = λ it. it.1.made;
  }

module _ {X : Type 0} (g : Ghosts X) (x : Image) (f : PartsFollow g x) where
  no_history : (n : ℕ) → IsBrokenAt g n x → HoldsOne g x → ⊥
  no_history n (inl a) held = a.2 (f.journal (f.roots (f.table (f.history (held)))))
  no_history n (inr (inl a)) held = a.2 (f.roots (f.table (f.history (held))))
  no_history n (inr (inr (inl a))) held = a.2 (f.table (f.history (held)))
  no_history n (inr (inr (inr (inl a)))) held = a.2 (f.history (held))
  no_history n (inr (inr (inr (inr a)))) held = a.2 (held)

  not_empty : (n : ℕ) → IsBrokenAt g n x → is_empty x ≡ false
  not_empty n (inl a) = a.1
  not_empty n (inr (inl a)) = f.made (a.1)
  not_empty n (inr (inr (inl a))) = f.made (f.journal (a.1))
  not_empty n (inr (inr (inr (inl a)))) = f.made (f.journal (f.roots (a.1)))
  not_empty n (inr (inr (inr (inr a)))) = f.made (f.journal (f.roots (f.table (a.1))))

  one_first : (n m : ℕ) → IsBrokenAt g n x → IsBrokenAt g m x → n ≡ m
  one_first n m (inl a) (inl b) = a.0 ∙ sym b.0
  one_first n m (inl a) (inr (inl b)) = absurd (a.2 (b.1))
  one_first n m (inl a) (inr (inr (inl b))) = absurd (a.2 (f.journal (b.1)))
  one_first n m (inl a) (inr (inr (inr (inl b)))) = absurd (a.2 (f.journal (f.roots (b.1))))
  one_first n m (inl a) (inr (inr (inr (inr b)))) = absurd (a.2 (f.journal (f.roots (f.table (b.1)))))
  one_first n m (inr (inl a)) (inl b) = absurd (b.2 (a.1))
  one_first n m (inr (inl a)) (inr (inl b)) = a.0 ∙ sym b.0
  one_first n m (inr (inl a)) (inr (inr (inl b))) = absurd (a.2 (b.1))
  one_first n m (inr (inl a)) (inr (inr (inr (inl b)))) = absurd (a.2 (f.roots (b.1)))
  one_first n m (inr (inl a)) (inr (inr (inr (inr b)))) = absurd (a.2 (f.roots (f.table (b.1))))
  one_first n m (inr (inr (inl a))) (inl b) = absurd (b.2 (f.journal (a.1)))
  one_first n m (inr (inr (inl a))) (inr (inl b)) = absurd (b.2 (a.1))
  one_first n m (inr (inr (inl a))) (inr (inr (inl b))) = a.0 ∙ sym b.0
  one_first n m (inr (inr (inl a))) (inr (inr (inr (inl b)))) = absurd (a.2 (b.1))
  one_first n m (inr (inr (inl a))) (inr (inr (inr (inr b)))) = absurd (a.2 (f.table (b.1)))
  one_first n m (inr (inr (inr (inl a)))) (inl b) = absurd (b.2 (f.journal (f.roots (a.1))))
  one_first n m (inr (inr (inr (inl a)))) (inr (inl b)) = absurd (b.2 (f.roots (a.1)))
  one_first n m (inr (inr (inr (inl a)))) (inr (inr (inl b))) = absurd (b.2 (a.1))
  one_first n m (inr (inr (inr (inl a)))) (inr (inr (inr (inl b)))) = a.0 ∙ sym b.0
  one_first n m (inr (inr (inr (inl a)))) (inr (inr (inr (inr b)))) = absurd (a.2 (b.1))
  one_first n m (inr (inr (inr (inr a)))) (inl b) = absurd (b.2 (f.journal (f.roots (f.table (a.1)))))
  one_first n m (inr (inr (inr (inr a)))) (inr (inl b)) = absurd (b.2 (f.roots (f.table (a.1))))
  one_first n m (inr (inr (inr (inr a)))) (inr (inr (inl b))) = absurd (b.2 (f.table (a.1)))
  one_first n m (inr (inr (inr (inr a)))) (inr (inr (inr (inl b)))) = absurd (b.2 (a.1))
  one_first n m (inr (inr (inr (inr a)))) (inr (inr (inr (inr b)))) = a.0 ∙ sym b.0

  pub broken_is_no : BrokenIsNo g x
  broken_is_no = record { no = no_history; made = not_empty; first = one_first }
