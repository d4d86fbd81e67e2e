-- The entries of lives, life by life.
use Rattle.std.proofs.Common.{◌≡◌, ℕ, ◌+◌, ◌<◌, ◌≤◌, ◌++◌, ◌∷◌, [], true, false, Bool, if◌then◌else◌, List, length, take, drop, get_or, sym, ap, ◌∙◌, subst, arith, drop-cons, add-one}
use Rattle.std.specs.List.{All}
use Rattle.std.proofs.Math.Seq.{drop-append_seam, take-append_seam}
use Rattle.std.proofs.lemmas.Bool.{eq-eqb, ne_eqb}
use Rattle.std.proofs.lemmas.List.{append-nil, take_all, take_more, take-append-drop}
use Rattle.std.proofs.lemmas.List.Concat.{flat_map-append}
use Rattle.std.proofs.lemmas.List.Elements.{All-append, All-cons, All-drop, All-nil, All-take}
use Rattle.bw_types.specs.declared.dated.Dated.{Dated}
use Rattle.corner_weights.specs.PlaneSums.{Entered}
use Rattle.history_laws.specs.Entries.{begun_entry, ended_entry, entries_of, life_entries}

pub one_entry : (d : Dated) → d.withdrawn ≡ 0 → life_entries d ≡ begun_entry d ∷ []
one_entry d e = ap (λ (b : Bool). if b then begun_entry d ∷ [] else begun_entry d ∷ ended_entry d ∷ []) (eq-eqb d.withdrawn 0 e)

pub two_entries : (d : Dated) → (d.withdrawn ≡ 0 → ⊥) → life_entries d ≡ begun_entry d ∷ ended_entry d ∷ []
two_entries d e = ap (λ (b : Bool). if b then begun_entry d ∷ [] else begun_entry d ∷ ended_entry d ∷ []) (ne_eqb d.withdrawn 0 e)

-- the entries of one life more
pub entries_more : (lives : List Dated) (i : ℕ) (d : Dated) → i < length lives → entries_of (take (i + 1) lives) ≡ entries_of (take i lives) ++ life_entries (get_or lives i d)
entries_more lives i d h =
    ap entries_of (take_more lives i d h) ∙ flat_map-append life_entries (take i lives) (get_or lives i d ∷ [])
    ∙ ap (λ (es : List Entered). entries_of (take i lives) ++ es) (append-nil (life_entries (get_or lives i d)))

-- the entries of the first lives, of one, and of the others
entries_around : (lives : List Dated) (i : ℕ) (d : Dated) → i < length lives
    → entries_of lives ≡ entries_of (take i lives) ++ (life_entries (get_or lives i d) ++ entries_of (drop (i + 1) lives))
entries_around lives i d h =
    let next : drop i lives ≡ get_or lives i d ∷ drop (i + 1) lives = drop-cons lives i d h ∙ ap (λ (n : ℕ). get_or lives i d ∷ drop n lives) (sym (add-one i)) in
    ap entries_of (sym (take-append-drop i lives)) ∙ flat_map-append life_entries (take i lives) (drop i lives)
    ∙ ap (λ (ds : List Dated). entries_of (take i lives) ++ entries_of ds) next

module _ (P : Entered → Type 0) where
  first_of : (a b : Entered) (one : Bool) → All P (if one then a ∷ [] else a ∷ b ∷ []) → P a
  first_of a b true all = all 0 a (omega arith)
  first_of a b false all = all 0 a (omega arith)

  pub begun_of : (d : Dated) → All P (life_entries d) → P (begun_entry d)
  begun_of d all = first_of (begun_entry d) (ended_entry d) _ all

  pub ended_of : (d : Dated) → (d.withdrawn ≡ 0 → ⊥) → All P (life_entries d) → P (ended_entry d)
  ended_of d ended all =
      let both = subst (λ (es : List Entered). All P es) (two_entries d ended) all in
      both 1 (ended_entry d) (omega arith)

  pub all_one : (d : Dated) → d.withdrawn ≡ 0 → P (begun_entry d) → All P (life_entries d)
  all_one d lives begun = subst (λ (es : List Entered). All P es) (sym (one_entry d lives)) (All-cons P (begun_entry d) [] begun (All-nil P))

  pub all_two : (d : Dated) → (d.withdrawn ≡ 0 → ⊥) → P (begun_entry d) → P (ended_entry d) → All P (life_entries d)
  all_two d ended begun end =
      subst (λ (es : List Entered). All P es) (sym (two_entries d ended))
      (All-cons P (begun_entry d) (ended_entry d ∷ []) begun (All-cons P (ended_entry d) [] end (All-nil P)))

  pub all_more : (lives : List Dated) (i : ℕ) (d : Dated) → i < length lives → All P (entries_of (take i lives)) → All P (life_entries (get_or lives i d))
      → All P (entries_of (take (i + 1) lives))
  all_more lives i d h before here =
      subst (λ (es : List Entered). All P es) (sym (entries_more lives i d h)) (All-append P (entries_of (take i lives)) (life_entries (get_or lives i d)) before here)

  pub all_at : (lives : List Dated) (i : ℕ) (d : Dated) → i < length lives → All P (entries_of lives) → All P (life_entries (get_or lives i d))
  all_at lives i d h all =
      let before = entries_of (take i lives) in
      let own = life_entries (get_or lives i d) in
      let after = entries_of (drop (i + 1) lives) in
      let split = subst (λ (es : List Entered). All P es) (entries_around lives i d h) all in
      let later = subst (λ (es : List Entered). All P es) (drop-append_seam before (own ++ after)) (All-drop P (length before) (before ++ (own ++ after)) split) in
      subst (λ (es : List Entered). All P es) (take-append_seam own after) (All-take P (length own) (own ++ after) later)

  pub all_taken : (lives : List Dated) (i : ℕ) → length lives ≤ i → All P (entries_of (take i lives)) → All P (entries_of lives)
  all_taken lives i past all = subst (λ (ds : List Dated). All P (entries_of ds)) (take_all i lives past) all
