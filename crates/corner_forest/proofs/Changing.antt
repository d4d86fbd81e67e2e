-- One tree of a list changes, and the others stand as they did.
use Rattle.std.proofs.Common.{◌≡◌, ℕ, suc, ◌+◌, ◌<◌, ◌≤◌, inl, inr, List, [], ◌∷◌, ◌++◌, length, refl, sym, ap, ◌∙◌, subst, arith}
use Rattle.bw_types.specs.declared.point.Point.{Point}
use Rattle.bw_types.specs.declared.tree.Tree.{Tree}
use Rattle.ports.specs.Pages.{PageMap}
use Rattle.ports.specs.Frame.{names_page, AgreeOn, AreApart, AreInMap, Replaces}
use Rattle.ports.specs.FrameLaws.{names_page-append, Replaces-agree, Replaces-apart, Replaces-beside, Replaces-same}
use Rattle.page_layout.specs.Footprint.{NamesNoneTwice}
use Rattle.std.proofs.lemmas.Bool.{or_left, or_right, or_cases}
use Rattle.corner_forest.specs.Trees.{EachStands, trees_pages}
use Rattle.page_layout.specs.FootprintLaws.{apart_sym, once_apart, once_join, once_right}

-- points that agree from a place on
pub each_same : (S : Tree → List Point → Type 0) (P Q : ℕ → List Point) (from : ℕ) (ts : List Tree) → ((j : ℕ) → from ≤ j → j < from + length ts → Q j ≡ P j)
    → EachStands S P from ts → EachStands S Q from ts
each_same S P Q from [] same s = tt
each_same S P Q from (t ∷ ts) same s =
    let first : from < from + length (t ∷ ts) = omega arith in (
      subst (λ (ps : List Point). S t ps) (sym (same from (omega arith) first)) s.0,
      each_same S P Q (suc from) ts (λ j low high. same j (omega (arith, low)) (omega (arith, high))) s.1,
    )

agree_left : (xs ys : List ℕ) (a b : PageMap) → AgreeOn (xs ++ ys) a b → AgreeOn xs a b
agree_left xs ys a b h = λ q named. h q (names_page-append xs ys q ∙ or_left (names_page xs q) (names_page ys q) named)

agree_right : (xs ys : List ℕ) (a b : PageMap) → AgreeOn (xs ++ ys) a b → AgreeOn ys a b
agree_right xs ys a b h = λ q named. h q (names_page-append xs ys q ∙ or_right (names_page xs q) (names_page ys q) named)

module _ (S : PageMap → Tree → List Point → Type 0) (pages : PageMap → Tree → List ℕ)
    (by_pages : (m n : PageMap) (t : Tree) (ps : List Point) → S m t ps → AgreeOn (pages m t) m n → S n t ps × (pages n t ≡ pages m t))
    (there : (m : PageMap) (t : Tree) (ps : List Point) → S m t ps → AreInMap m (pages m t))
    (single : (m : PageMap) (t : Tree) (ps : List Point) → S m t ps → NamesNoneTwice (pages m t)) where
  -- Where one tree changed, each tree of the list stands, and the pages changed by those of the list.
  pub record EachChanged (m n : PageMap) (Q : ℕ → List Point) (from : ℕ) (old new : List Tree) : Type 0 where
    pub stands : EachStands (S n) Q from new
    pub once : NamesNoneTwice (trees_pages (pages n) new)
    pub change : Replaces (trees_pages (pages m) old) (trees_pages (pages n) new) m n

  pub each_by_pages : (m n : PageMap) (P : ℕ → List Point) (from : ℕ) (ts : List Tree) → EachStands (S m) P from ts → AgreeOn (trees_pages (pages m) ts) m n
      → EachStands (S n) P from ts × (trees_pages (pages n) ts ≡ trees_pages (pages m) ts)
  each_by_pages m n P from [] s agree = (tt, refl)
  each_by_pages m n P from (t ∷ ts) s agree =
      let first = by_pages m n t (P from) s.0 (agree_left (pages m t) (trees_pages (pages m) ts) m n agree) in
      let rest = each_by_pages m n P (suc from) ts s.1 (agree_right (pages m t) (trees_pages (pages m) ts) m n agree) in
      ((first.0, rest.0), ap (λ (xs : List ℕ). xs ++ trees_pages (pages n) ts) first.1 ∙ ap (λ (xs : List ℕ). pages m t ++ xs) rest.1)

  pub each_there : (m : PageMap) (P : ℕ → List Point) (from : ℕ) (ts : List Tree) → EachStands (S m) P from ts → AreInMap m (trees_pages (pages m) ts)
  each_there m P from [] s = λ q named. cc
  each_there m P from (t ∷ ts) s = λ q named.
      elim (or_cases (names_page (pages m t) q) (names_page (trees_pages (pages m) ts) q) (sym (names_page-append (pages m t) (trees_pages (pages m) ts) q) ∙ named)) [
        | inl here ↦ there m t (P from) s.0 q here
        | inr later ↦ each_there m P (suc from) ts s.1 q later
      ]

  pub change_at : (m n : PageMap) (P Q : ℕ → List Point) (from : ℕ) (done : List Tree) (t u : Tree) (rest : List Tree)
      → EachStands (S m) P from (done ++ t ∷ rest) → NamesNoneTwice (trees_pages (pages m) (done ++ t ∷ rest))
      → S n u (Q (from + length done)) → Replaces (pages m t) (pages n u) m n
      → ((j : ℕ) → (j ≡ from + length done → ⊥) → Q j ≡ P j)
      → EachChanged m n Q from (done ++ t ∷ rest) (done ++ u ∷ rest)
  change_at m n P Q from [] t u rest each none_twice new f same =
      let R : List ℕ = trees_pages (pages m) rest in
      let apart : AreApart R (pages m t) = apart_sym (pages m t) R (once_apart (pages m t) R none_twice) in
      let in_map = each_there m P (suc from) rest each.1 in
      let agree = Replaces-agree R (pages m t) (pages n u) m n f in_map apart in
      let still = each_by_pages m n P (suc from) rest each.1 agree in
      let apart_new : AreApart R (pages n u) = Replaces-apart R (pages m t) (pages n u) m n f in_map apart in
      let here : S n u (Q from) = subst (λ (k : ℕ). S n u (Q k)) (omega arith) new in
      let joined : NamesNoneTwice (pages n u ++ R) = once_join (pages n u) R (single n u (Q from) here) (once_right (pages m t) R none_twice) (apart_sym R (pages n u) apart_new) in
      let whole : Replaces (pages m t ++ R) (pages n u ++ R) m n = Replaces-beside (pages m t) (pages n u) R R m n n f (Replaces-same R n) in
      record {
        stands = (here, each_same (S n) P Q (suc from) rest (λ j low high. same j (λ e. omega (arith, low, e))) still.0);
        once = subst (λ (xs : List ℕ). NamesNoneTwice (pages n u ++ xs)) (sym still.1) joined;
        change = subst (λ (xs : List ℕ). Replaces (pages m t ++ R) (pages n u ++ xs) m n) (sym still.1) whole;
      }
  change_at m n P Q from (h ∷ done) t u rest each none_twice new f same =
      let L : List ℕ = trees_pages (pages m) (done ++ t ∷ rest) in
      let K : List ℕ = trees_pages (pages n) (done ++ u ∷ rest) in
      let further : from + length (h ∷ done) ≡ suc from + length done = omega arith in
      let later = change_at m n P Q (suc from) done t u rest each.1 (once_right (pages m h) L none_twice)
      (subst (λ (k : ℕ). S n u (Q k)) further new) f (λ j other. same j (λ e. other (e ∙ further))) in
      let apart : AreApart (pages m h) L = once_apart (pages m h) L none_twice in
      let in_map = there m h (P from) each.0 in
      let still = by_pages m n h (P from) each.0 (Replaces-agree (pages m h) L K m n later.change in_map apart) in
      let apart_new : AreApart (pages m h) K = Replaces-apart (pages m h) L K m n later.change in_map apart in
      let joined : NamesNoneTwice (pages m h ++ K) = once_join (pages m h) K (single m h (P from) each.0) later.once apart_new in
      let whole : Replaces (pages m h ++ L) (pages m h ++ K) m n = Replaces-beside (pages m h) (pages m h) L K m m n (Replaces-same (pages m h) m) later.change in
      let kept : Q from ≡ P from = same from (λ e. omega (arith, e)) in
      record {
        stands = (subst (λ (ps : List Point). S n h ps) (sym kept) still.0, later.stands);
        once = subst (λ (xs : List ℕ). NamesNoneTwice (xs ++ K)) (sym still.1) joined;
        change = subst (λ (xs : List ℕ). Replaces (pages m h ++ L) (xs ++ K) m n) (sym still.1) whole;
      }
