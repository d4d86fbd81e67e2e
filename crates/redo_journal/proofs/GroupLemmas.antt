-- What holds of the journal's groups.
use Rattle.redo_journal.proofs.Common.{◌≡◌, ℕ, ◌+◌, ◌≤◌, ◌∙◌, ap, ap₂, sym, subst, refl, inl, inr, List, [], ◌∷◌, ◌++◌, length, arith, IsHead, IsTyped, head_page, JournalHead, PageList, page_at, ImageList, homes_of, AreInReach, SameBody, homes_in, last_of, images_at, group_at, HeadAt, HoldsGroups, BreaksAt, last_group, more_groups, breaks_here, breaks_later}

-- no two heads have one spelling
abbrev pub OneSpelling : Type 0
OneSpelling = (head other : JournalHead) → IsTyped head → IsHead head → IsTyped other → IsHead other
    → head_page head ≡ head_page other → head ≡ other

module _ (one : OneSpelling) {len : ℕ} {journal : PageList} where
  pub head_one : {at last : ℕ} {head other : JournalHead} → HeadAt len journal at last head → HeadAt len journal at last other → head ≡ other
  head_one h k = one _ _ h.typed h.rules k.typed k.rules (sym h.spelled ∙ k.spelled)

  -- A journal holds one list of images.
  pub holds_one : {at last : ℕ} {images others : ImageList} → HoldsGroups len journal at last images → HoldsGroups len journal at last others
      → images ≡ others
  holds_one {at} (last_group head h ended) (last_group other k also) = ap (group_at journal at) (head_one h k)
  holds_one (last_group head h ended) (more_groups other images k goes_on rest) = let e = head_one h k in absurd cc
  holds_one (more_groups head images h goes_on rest) (last_group other k ended) = let e = head_one h k in absurd cc
  holds_one {at} (more_groups head images h goes_on rest) (more_groups other others k also more) =
      let e = head_one h k in ap₂ (λ x y. group_at journal at x ++ y) e (holds_one rest (rw (← e) at more))

  -- A journal that holds images breaks no rule.
  pub holds_unbroken : {at last page : ℕ} {images : ImageList} → HoldsGroups len journal at last images → BreaksAt len journal at last page → ⊥
  holds_unbroken (last_group head h ended) (breaks_here none) = none head h
  holds_unbroken (last_group head h ended) (breaks_later other k goes_on rest) = let e = head_one h k in cc
  holds_unbroken (more_groups head images h goes_on rest) (breaks_here none) = none head h
  holds_unbroken (more_groups head images h goes_on rest) (breaks_later other k also more) =
      let e = head_one h k in holds_unbroken rest (rw (← e) at more)

  -- A journal first breaks its rules at one page.
  pub breaks_one : {at last page other : ℕ} → BreaksAt len journal at last page → BreaksAt len journal at last other → page ≡ other
  breaks_one (breaks_here none) (breaks_here also) = refl
  breaks_one (breaks_here none) (breaks_later head h more rest) = absurd (none head h)
  breaks_one (breaks_later head h more rest) (breaks_here none) = absurd (none head h)
  breaks_one (breaks_later head h more rest) (breaks_later next k also back) = let e = head_one h k in breaks_one rest (rw (← e) at back)

-- A longer Pages area reaches further.
pub reach_further : (len more last : ℕ) (homes : List ℕ) → len ≤ more → AreInReach len last homes → AreInReach more last homes
reach_further len more last [] le reach = tt
reach_further len more last (home ∷ homes) le reach =
    (reach.0, elim reach.1 [ inl h ↦ inl (omega arith) | inr h ↦ inr h ], reach_further len more home homes le reach.2)

reach_append : (len last : ℕ) (front back : List ℕ) → AreInReach len last front → AreInReach len (last_of last front) back → AreInReach len last (front ++ back)
reach_append len last [] back f b = b
reach_append len last (home ∷ front) back f b = (f.0, f.1, reach_append len home front back f.2 b)

pub homes_at : (journal : PageList) (at : ℕ) (homes : List ℕ) → homes_of (images_at journal at homes) ≡ homes
homes_at journal at [] = refl
homes_at journal at (home ∷ homes) = ap (λ x. home ∷ x) (homes_at journal (at + 1) homes)

homes-append : (front back : ImageList) → homes_of (front ++ back) ≡ homes_of front ++ homes_of back
homes-append [] back = refl
homes-append (image ∷ front) back = ap (λ x. image.0 ∷ x) (homes-append front back)

pub length-images_at : (journal : PageList) (at : ℕ) (homes : List ℕ) → length (images_at journal at homes) ≡ length homes
length-images_at journal at [] = refl
length-images_at journal at (home ∷ homes) = omega (arith, length-images_at journal (at + 1) homes)

-- The images of a journal are in reach.
pub holds_reach : {len : ℕ} {journal : PageList} {at last : ℕ} {images : ImageList} → HoldsGroups len journal at last images → AreInReach len last (homes_of images)
holds_reach (last_group head h ended) = rw homes_at h.reach
holds_reach {len} {last = last} (more_groups head images h goes_on rest) =
    rw (homes-append, homes_at) (reach_append len last (homes_in head) (homes_of images) h.reach (holds_reach rest))

pub same_still : {old new : PageList} → new ≡ old → SameBody old new
same_still same = record { len = ap length same; behind = λ page h. ap (λ (x : PageList). page_at x page) same }

images_same : {old new : PageList} → SameBody old new → (at : ℕ) (homes : List ℕ) → 1 ≤ at → images_at new at homes ≡ images_at old at homes
images_same same at [] h = refl
images_same same at (home ∷ homes) h =
    ap₂ (λ (bytes : List ℕ) (s : ImageList). (home, bytes) ∷ s) (same.behind at h) (images_same same (at + 1) homes (omega arith))

head_same : {len more : ℕ} {old new : PageList} {at last : ℕ} {head : JournalHead} → SameBody old new → len ≤ more → 1 ≤ at
    → HeadAt len old at last head → HeadAt more new at last head
head_same {len} {more} {last = last} {head = head} same le from h = record {
  rules = h.rules;
  typed = h.typed;
  spelled = same.behind _ from ∙ h.spelled;
  within = omega (arith, same.len);
  reach = reach_further len more last (homes_in head) le h.reach;
}

-- A journal with the same body holds the same images, if the Pages area is no shorter.
pub holds_same : {len more : ℕ} {old new : PageList} {at last : ℕ} {images : ImageList} → HoldsGroups len old at last images
    → SameBody old new → len ≤ more → 1 ≤ at → HoldsGroups more new at last images
holds_same {more = more} {new = new} {at = at} {last = last} (last_group head h ended) same le from =
    subst (HoldsGroups more new at last) (images_same same (at + 1) (homes_in head) (omega arith)) (last_group head (head_same same le from h) ended)
holds_same {more = more} {new = new} {at = at} {last = last} (more_groups head images h goes_on rest) same le from =
    subst (λ x. HoldsGroups more new at last (x ++ images)) (images_same same (at + 1) (homes_in head) (omega arith))
    (more_groups head images (head_same same le from h) goes_on (holds_same rest same le (omega arith)))
