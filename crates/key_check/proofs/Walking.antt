-- How a walk over the nodes of a tree over versions goes on from one entry to the next.
use Rattle.std.proofs.Common.{◌≡◌, ℕ, zero, suc, ◌+◌, ◌-◌, ◌%◌, ◌^◌, ◌<◌, ◌≤◌, List, [], ◌∷◌, ◌++◌, length, take, drop, get_or, refl, sym, ◌∙◌, ap, subst, arith, append_assoc, drop-cons, add-one}
use Rattle.std.specs.List.{flat_map}
use Rattle.std.proofs.lemmas.List.{append-nil, drop_all, take_all, take_more, take-append-drop}
use Rattle.std.proofs.lemmas.List.Concat.{flat_map-append}
use Rattle.ports.specs.Pages.{PageMap}
use Rattle.page_layout.specs.declared.sb_node.SbEntry.{SbEntry}
use Rattle.sb_tree.specs.Stands.{EachStands, NodeStands, StandsBelow, first_low}
use Rattle.sb_tree.specs.Steps.{entries_on, pages_below}
use Rattle.sb_tree.proofs.Order.{EachStands-join, EachStands-split}
use Rattle.key_check.specs.declared.reached.Reached.{Reached}
use Rattle.key_check.specs.declared.step.Step.{Step}
use Rattle.key_check.specs.Steps.{Walked, after_all, entries_steps, leaf_steps, more, steps_below}

abbrev pub child_steps : ℕ → PageMap → SbEntry → ℕ → List Step
child_steps level m e value = steps_below level m e.child value

abbrev pub child_pages : ℕ → PageMap → SbEntry → List ℕ
child_pages level m e = pages_below level m e.child

abbrev pub ChildStands : ℕ → PageMap → ℕ → ℕ → ℕ → Type 0
ChildStands level m child low high = StandsBelow level m child low high 32

-- The children of the first entries stand, and their steps and pages were put behind.
pub record Going (level : ℕ) (m : PageMap) (reached : Reached) (entries : List SbEntry) (done : ℕ) (steps new_steps : List Step) (named new_named : List ℕ) : Type 0 where
  pub stand : EachStands (ChildStands level m) (take done entries) (first_low (drop done entries) reached.high)
  pub steps_are : new_steps ≡ steps ++ entries_steps (child_steps level m) reached.before (take done entries)
  pub named_are : new_named ≡ (named ++ reached.page ∷ []) ++ flat_map (child_pages level m) (take done entries)

pub steps-append : (own : SbEntry → ℕ → List Step) (before : ℕ) (xs ys : List SbEntry)
    → entries_steps own before (xs ++ ys) ≡ entries_steps own before xs ++ entries_steps own (after_all before xs) ys
steps-append own before [] ys = refl
steps-append own before (x ∷ xs) ys =
    ap (λ (ss : List Step). own x (more before x) ++ ss) (steps-append own (more before x) xs ys)
    ∙ sym (append_assoc (own x (more before x)) (entries_steps own (more before x) xs) (entries_steps own (after_all (more before x) xs) ys))

after-append : (before : ℕ) (xs : List SbEntry) (e : SbEntry) → after_all before (xs ++ e ∷ []) ≡ more (after_all before xs) e
after-append before [] e = refl
after-append before (x ∷ xs) e = after-append (more before x) xs e

pub after_more : (before : ℕ) (entries : List SbEntry) (done : ℕ) (d : SbEntry) → done < length entries
    → after_all before (take (done + 1) entries) ≡ more (after_all before (take done entries)) (get_or entries done d)
after_more before entries done d h = ap (after_all before) (take_more entries done d h) ∙ after-append before (take done entries) (get_or entries done d)

pub steps_more : (own : SbEntry → ℕ → List Step) (before : ℕ) (entries : List SbEntry) (done : ℕ) (d : SbEntry) → done < length entries
    → entries_steps own before (take (done + 1) entries)
    ≡ entries_steps own before (take done entries) ++ own (get_or entries done d) (more (after_all before (take done entries)) (get_or entries done d))
steps_more own before entries done d h =
    ap (entries_steps own before) (take_more entries done d h) ∙ steps-append own before (take done entries) (get_or entries done d ∷ [])
    ∙ ap (λ (ss : List Step). entries_steps own before (take done entries) ++ ss)
    (append-nil (own (get_or entries done d) (more (after_all before (take done entries)) (get_or entries done d))))

-- what is left begins with the next entry
next_of : (entries : List SbEntry) (done : ℕ) (d : SbEntry) → done < length entries → drop done entries ≡ get_or entries done d ∷ drop (done + 1) entries
next_of entries done d h = drop-cons entries done d h ∙ ap (λ (n : ℕ). get_or entries done d ∷ drop n entries) (sym (add-one done))

pub begins : (level : ℕ) (m : PageMap) (reached : Reached) (entries : List SbEntry) (steps : List Step) (named new_named : List ℕ)
    → new_named ≡ named ++ reached.page ∷ [] → Going level m reached entries 0 steps steps named new_named
begins level m reached entries steps named new_named e = record {
  stand = tt;
  steps_are = sym (append-nil steps);
  named_are = e ∙ sym (append-nil (named ++ reached.page ∷ []));
}

module _ (level : ℕ) (m : PageMap) (reached inner : Reached) (entries : List SbEntry) (done : ℕ) (d : SbEntry) (h : done < length entries)
    (page : inner.page ≡ (get_or entries done d).child) (low : inner.low ≡ (get_or entries done d).low) (high : inner.high ≡ first_low (drop (done + 1) entries) reached.high)
    (least : inner.least ≡ 32) where
  pub child_stands : StandsBelow level m inner.page inner.low inner.high inner.least → ChildStands level m (get_or entries done d).child (get_or entries done d).low (first_low (drop (done + 1) entries) reached.high)
  child_stands s =
      subst (λ (n : ℕ). StandsBelow level m (get_or entries done d).child (get_or entries done d).low (first_low (drop (done + 1) entries) reached.high) n) least
      (subst (λ (n : ℕ). StandsBelow level m (get_or entries done d).child (get_or entries done d).low n inner.least) high
      (subst (λ (n : ℕ). StandsBelow level m (get_or entries done d).child n inner.high inner.least) low
      (subst (λ (n : ℕ). StandsBelow level m n inner.low inner.high inner.least) page s)))

  pub stands_child : ChildStands level m (get_or entries done d).child (get_or entries done d).low (first_low (drop (done + 1) entries) reached.high) → StandsBelow level m inner.page inner.low inner.high inner.least
  stands_child s =
      subst (λ (n : ℕ). StandsBelow level m n inner.low inner.high inner.least) (sym page)
      (subst (λ (n : ℕ). StandsBelow level m (get_or entries done d).child n inner.high inner.least) (sym low)
      (subst (λ (n : ℕ). StandsBelow level m (get_or entries done d).child (get_or entries done d).low n inner.least) (sym high)
      (subst (λ (n : ℕ). StandsBelow level m (get_or entries done d).child (get_or entries done d).low (first_low (drop (done + 1) entries) reached.high) n) (sym least) s)))

  pub goes_on : (steps now new : List Step) (named named_now new_named : List ℕ) → inner.before ≡ more (after_all reached.before (take done entries)) (get_or entries done d)
      → Going level m reached entries done steps now named named_now → Walked level m inner now new named_now new_named
      → Going level m reached entries (done + 1) steps new named new_named
  goes_on steps now new named named_now new_named before g w =
      let one : List SbEntry = get_or entries done d ∷ [] in
      let rest : ℕ = first_low (drop (done + 1) entries) reached.high in
      record {
        stand = subst (λ (es : List SbEntry). EachStands (ChildStands level m) es rest) (sym (take_more entries done d h))
            (EachStands-join (ChildStands level m) (take done entries) one rest
            (subst (λ (es : List SbEntry). EachStands (ChildStands level m) (take done entries) (first_low es reached.high)) (next_of entries done d h) g.stand)
            (child_stands w.stands, tt));
        steps_are = w.steps_are ∙ ap (λ (n : ℕ). now ++ steps_below level m n inner.before) page
            ∙ ap (λ (n : ℕ). now ++ steps_below level m (get_or entries done d).child n) before
            ∙ ap (λ (ss : List Step). ss ++ child_steps level m (get_or entries done d) (more (after_all reached.before (take done entries)) (get_or entries done d))) g.steps_are
            ∙ append_assoc steps (entries_steps (child_steps level m) reached.before (take done entries)) (child_steps level m (get_or entries done d) (more (after_all reached.before (take done entries)) (get_or entries done d)))
            ∙ ap (λ (ss : List Step). steps ++ ss) (sym (steps_more (child_steps level m) reached.before entries done d h));
        named_are = w.named_are ∙ ap (λ (n : ℕ). named_now ++ pages_below level m n) page
            ∙ ap (λ (ps : List ℕ). ps ++ child_pages level m (get_or entries done d)) g.named_are
            ∙ append_assoc (named ++ reached.page ∷ []) (flat_map (child_pages level m) (take done entries)) (child_pages level m (get_or entries done d))
            ∙ ap (λ (ps : List ℕ). (named ++ reached.page ∷ []) ++ ps) (sym (ap (flat_map (child_pages level m)) (take_more entries done d h)
            ∙ flat_map-append (child_pages level m) (take done entries) one
            ∙ ap (λ (ps : List ℕ). flat_map (child_pages level m) (take done entries) ++ ps) (append-nil (child_pages level m (get_or entries done d)))));
      }

  pub refused_there : EachStands (ChildStands level m) entries reached.high → (StandsBelow level m inner.page inner.low inner.high inner.least → ⊥) → ⊥
  refused_there all refused =
      let parts = EachStands-split (ChildStands level m) (take done entries) (drop done entries) reached.high
      (subst (λ (es : List SbEntry). EachStands (ChildStands level m) es reached.high) (sym (take-append-drop done entries)) all) in
      let here = subst (λ (es : List SbEntry). EachStands (ChildStands level m) es reached.high) (next_of entries done d h) parts.1 in
      refused (stands_child here.0)

pub ends : (level : ℕ) (m : PageMap) (reached : Reached) (entries : List SbEntry) (done : ℕ) (steps new : List Step) (named new_named : List ℕ)
    → 2 ≤ level → length entries ≤ done → NodeStands m level reached.page reached.low reached.high reached.least → entries_on m reached.page ≡ entries
    → Going (level - 1) m reached entries done steps new named new_named → Walked level m reached steps new named new_named
ends zero m reached entries done steps new named new_named high end s on g = absurd (omega arith)
ends (suc zero) m reached entries done steps new named new_named high end s on g = absurd (omega arith)
ends (suc (suc level)) m reached entries done steps new named new_named high end s on g =
    let l : suc (suc level) - 1 ≡ suc level = omega arith in
    let g1 : Going (suc level) m reached entries done steps new named new_named = subst (λ (n : ℕ). Going n m reached entries done steps new named new_named) l g in
    let all : take done entries ≡ entries_on m reached.page = take_all done entries end ∙ sym on in
    record {
      stands = (
        s,
        subst (λ (es : List SbEntry). EachStands (ChildStands (suc level) m) es reached.high) all
            (subst (λ (es : List SbEntry). EachStands (ChildStands (suc level) m) (take done entries) (first_low es reached.high)) (drop_all done entries end) g1.stand),
      );
      steps_are = g1.steps_are ∙ ap (λ (es : List SbEntry). steps ++ entries_steps (child_steps (suc level) m) reached.before es) all;
      named_are = g1.named_are ∙ append_assoc named (reached.page ∷ []) (flat_map (child_pages (suc level) m) (take done entries))
          ∙ ap (λ (es : List SbEntry). named ++ (reached.page ∷ flat_map (child_pages (suc level) m) es)) all;
    }

pub leaf_ends : (m : PageMap) (level : ℕ) (reached : Reached) (entries : List SbEntry) (steps new : List Step) (named new_named : List ℕ)
    → level ≡ 1 → NodeStands m level reached.page reached.low reached.high reached.least → entries_on m reached.page ≡ entries
    → new ≡ steps ++ entries_steps leaf_steps reached.before entries → new_named ≡ named ++ reached.page ∷ []
    → Walked level m reached steps new named new_named
leaf_ends m level reached entries steps new named new_named e s on is named_is =
    subst (λ (n : ℕ). Walked n m reached steps new named new_named) (sym e) (record {
      stands = subst (λ (n : ℕ). NodeStands m n reached.page reached.low reached.high reached.least) e s;
      steps_are = is ∙ ap (λ (es : List SbEntry). steps ++ entries_steps leaf_steps reached.before es) (sym on);
      named_are = named_is;
    })

pub index_parts : (level : ℕ) (m : PageMap) (page low high least : ℕ) (entries : List SbEntry) → 2 ≤ level → entries_on m page ≡ entries → StandsBelow level m page low high least
    → EachStands (ChildStands (level - 1) m) entries high
index_parts zero m page low high least entries h on s = absurd (omega arith)
index_parts (suc zero) m page low high least entries h on s = absurd (omega arith)
index_parts (suc (suc level)) m page low high least entries h on s =
    let l : suc level ≡ suc (suc level) - 1 = omega arith in
    subst (λ (n : ℕ). EachStands (ChildStands n m) entries high) l (subst (λ (es : List SbEntry). EachStands (ChildStands (suc level) m) es high) on s.1)

pub node_part : (level : ℕ) (m : PageMap) (page low high least : ℕ) → StandsBelow level m page low high least → NodeStands m level page low high least
node_part zero m page low high least s = absurd s
node_part (suc zero) m page low high least s = s
node_part (suc (suc level)) m page low high least s = s.0

-- The same pages under another name.
pub walked_in : (level : ℕ) (a b : PageMap) (reached : Reached) (steps new : List Step) (named new_named : List ℕ) → a ≡ b
    → Walked level a reached steps new named new_named → Walked level b reached steps new named new_named
walked_in level a b reached steps new named new_named e w = subst (λ (m : PageMap). Walked level m reached steps new named new_named) e w

pub refused_in : (level : ℕ) (a b : PageMap) (page low high least : ℕ) → a ≡ b → (StandsBelow level a page low high least → ⊥) → StandsBelow level b page low high least → ⊥
refused_in level a b page low high least e refused s = refused (subst (λ (m : PageMap). StandsBelow level m page low high least) (sym e) s)

pub leaf_more : (own : SbEntry → ℕ → List Step) (before now : ℕ) (entries : List SbEntry) (done : ℕ) (d : SbEntry) (steps old new : List Step) (s : Step) → done < length entries
    → now ≡ after_all before (take done entries) → old ≡ steps ++ entries_steps own before (take done entries) → new ≡ old ++ s ∷ []
    → s ∷ [] ≡ own (get_or entries done d) ((now + (get_or entries done d).value) % 2 ^ 128)
    → new ≡ steps ++ entries_steps own before (take (done + 1) entries)
leaf_more own before now entries done d steps old new s h value is put same =
    put ∙ ap (λ (ss : List Step). old ++ ss) same ∙ ap (λ (n : ℕ). old ++ own (get_or entries done d) (more n (get_or entries done d))) value
    ∙ ap (λ (ss : List Step). ss ++ own (get_or entries done d) (more (after_all before (take done entries)) (get_or entries done d))) is
    ∙ append_assoc steps (entries_steps own before (take done entries)) (own (get_or entries done d) (more (after_all before (take done entries)) (get_or entries done d)))
    ∙ ap (λ (ss : List Step). steps ++ ss) (sym (steps_more own before entries done d h))

pub value_more : (before now : ℕ) (entries : List SbEntry) (done : ℕ) (d : SbEntry) → done < length entries → now ≡ after_all before (take done entries)
    → (now + (get_or entries done d).value) % 2 ^ 128 ≡ after_all before (take (done + 1) entries)
value_more before now entries done d h value = ap (λ (n : ℕ). more n (get_or entries done d)) value ∙ sym (after_more before entries done d h)
