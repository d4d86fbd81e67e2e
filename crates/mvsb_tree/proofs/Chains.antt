-- The chain of places, page by page.
use Rattle.std.proofs.Common.{◌≡◌, ◌≢◌, ℕ, zero, suc, ◌+◌, ◌-◌, ◌<◌, ◌≤◌, ◌==◌, ◌||◌, inl, inr, ◌⊎◌, Bool, true, false, cond, List, [], ◌∷◌, ◌++◌, Option, Some, None, IsSome, refl, sym, ap, ◌∙◌, subst, arith}
use Rattle.std.specs.Option.{option_map_or}
use Rattle.std.proofs.lemmas.Bool.{cases_Bool, or_left, or_right, or_cases, or_parts, eqb-true, eq-eqb, true≢false}
use Rattle.std.proofs.lemmas.List.Sums.{sum_by-append, sum_by-cons}
use Rattle.ports.specs.Pages.{PageMap, remove_page}
use Rattle.ports.specs.Frame.{names_page, AgreeOn, AreApart, AreInMap, Replaces}
use Rattle.ports.specs.FrameLaws.{names_page-append, Replaces-beside, Replaces-free}
use Rattle.page_layout.specs.Damage.{NothingBeside}
use Rattle.page_layout.specs.DamageLaws as laws
use Rattle.page_layout.specs.Footprint.{NamesNoneTwice, IsNamedTwice, times_named}
use Rattle.page_layout.specs.Spelled.{SpellsNone}
use Rattle.page_layout.specs.MvNode.{IsMvNode, IsTyped, mv_node_page, mv_node_in}
use Rattle.page_layout.specs.declared.mv_node.MvNode.{MvNode}
use Rattle.mvsb_tree.specs.Damage.{FitsChain, IsDamagedInChain, LeadsBack, mv_pages}
use Rattle.mvsb_tree.specs.Stands.{ChainStands}
use Rattle.mvsb_tree.specs.Steps.{chain_from, no_node, node_on}
use Rattle.mvsb_tree.proofs.Nodes.{node_on-spelled, same_spelled}

-- the page so many places back
abbrev pub back : ℕ → PageMap → ℕ → ℕ
back zero pages page = page
back (suc n) pages page = back n pages (node_on pages page).before

pub back_more : (n : ℕ) (pages : PageMap) (page : ℕ) → back (n + 1) pages page ≡ (node_on pages (back n pages page)).before
back_more zero pages page = refl
back_more (suc n) pages page =
    let place : suc n + 1 ≡ suc (n + 1) = omega arith in
    ap (λ (k : ℕ). back k pages page) place ∙ back_more n pages (node_on pages page).before

pub chain_more : (n : ℕ) (pages : PageMap) (page : ℕ) → chain_from (n + 1) pages page ≡ chain_from n pages page ++ (back n pages page ∷ [])
chain_more zero pages page = refl
chain_more (suc n) pages page =
    let place : suc n + 1 ≡ suc (n + 1) = omega arith in
    ap (λ (k : ℕ). chain_from k pages page) place ∙ ap (λ (ps : List ℕ). page ∷ ps) (chain_more n pages (node_on pages page).before)

none_some : (bytes : List ℕ) → ◌≡◌ {A = Option (List ℕ)} None (Some bytes) → ⊥
none_some bytes e = cc

-- A page that is still there was not freed.
pub left_there : (freed : List ℕ) (m0 mi : PageMap) (page : ℕ) (bytes : List ℕ) → Replaces freed [] m0 mi → mi page ≡ Some bytes
    → (names_page freed page ≡ false) × (m0 page ≡ Some bytes)
left_there freed m0 mi page bytes r there = elim (cases_Bool (names_page freed page)) [
  | inl gone ↦ absurd (none_some bytes (sym (r.gone page gone refl) ∙ there))
  | inr left ↦ (left, sym (r.others page left refl) ∙ there)
]

pub free_step : (i last page : ℕ) (m0 mi mj : PageMap) → Replaces (chain_from i m0 last) [] m0 mi → page ≡ back i m0 last → mj ≡ remove_page mi page
    → Replaces (chain_from (i + 1) m0 last) [] m0 mj
free_step i last page m0 mi mj r here removed =
    let one : Replaces (page ∷ []) [] mi mj = subst (Replaces (page ∷ []) [] mi) (sym removed) (Replaces-free mi page) in
    let both = Replaces-beside (chain_from i m0 last) [] (page ∷ []) [] m0 mi mj r one in
    let whole : chain_from (i + 1) m0 last ≡ chain_from i m0 last ++ (page ∷ []) = chain_more i m0 last ∙ ap (λ (p : ℕ). chain_from i m0 last ++ (p ∷ [])) (sym here) in
    subst (λ (ps : List ℕ). Replaces ps [] m0 mj) (sym whole) both

-- What holds of each page of the chain holds with one more.
pub chain_all : (P : ℕ → Type 0) (i last page : ℕ) (m0 : PageMap) → ((p : ℕ) → names_page (chain_from i m0 last) p ≡ true → P p) → page ≡ back i m0 last → P page
    → (p : ℕ) → names_page (chain_from (i + 1) m0 last) p ≡ true → P p
chain_all P i last page m0 all here mine p named =
    let whole : chain_from (i + 1) m0 last ≡ chain_from i m0 last ++ (page ∷ []) = chain_more i m0 last ∙ ap (λ (q : ℕ). chain_from i m0 last ++ (q ∷ [])) (sym here) in
    let split = or_cases _ _ (sym (names_page-append (chain_from i m0 last) (page ∷ []) p) ∙ ap (λ (ps : List ℕ). names_page ps p) (sym whole) ∙ named) in
    elim split [
      | inl before ↦ all p before
      | inr last_one ↦ elim (or_cases (page == p) false last_one) [
        | inl same ↦ subst P (eqb-true page p same) mine
        | inr other ↦ absurd (true≢false (sym other))
      ]
    ]

-- A page of the chain that is missing, or spells no node, is damaged.
pub damaged_missing : (m0 mi : PageMap) (places passed last page p : ℕ) → passed < places → Replaces (chain_from passed m0 last) [] m0 mi
    → ((q : ℕ) → names_page (chain_from passed m0 last) q ≡ true → places - passed < (node_on m0 q).place)
    → p ≡ page → SpellsNone mv_pages mi page → IsDamagedInChain m0 (places - passed) page p
damaged_missing m0 mi places passed last page p more r above same none =
    laws.damaged_here FitsChain LeadsBack NothingBeside m0 (places - passed) tt page p (omega (arith, more)) same
    (λ node bytes there fits. elim (cases_Bool (names_page (chain_from passed m0 last) page)) [
      | inl gone ↦
          let is_node : node_on m0 page ≡ node = node_on-spelled m0 page node fits.0.typed fits.0.rules (there ∙ ap (λ (b : List ℕ). Some b) fits.0.spelled) in
          let place : (node_on m0 page).place ≡ places - passed = ap (λ (n : MvNode). n.place) is_node ∙ fits.1 in
          absurd (omega (arith, place, above page gone))
      | inr left ↦ none node bytes (r.others page left refl ∙ there) fits.0
    ])

-- A page of the chain that spells a node of another place is damaged.
pub damaged_misplaced : (m0 mi : PageMap) (places passed last page p : ℕ) (node : MvNode) → passed < places → Replaces (chain_from passed m0 last) [] m0 mi
    → p ≡ page → mi page ≡ Some (mv_node_page node) → IsMvNode node → IsTyped node → node.place ≢ places - passed → IsDamagedInChain m0 (places - passed) page p
damaged_misplaced m0 mi places passed last page p node more r same there rules typed elsewhere =
    laws.damaged_here FitsChain LeadsBack NothingBeside m0 (places - passed) tt page p (omega (arith, more)) same
    (λ other bytes here fits. elsewhere (ap (λ (n : MvNode). n.place)
    (same_spelled m0 page node other bytes typed rules (left_there (chain_from passed m0 last) m0 mi page (mv_node_page node) r there).1 fits.0.typed fits.0.rules fits.0.spelled here) ∙ fits.1))

-- What is damaged further back in the chain is damaged.
pub damaged_back : (m0 : PageMap) (left next page p : ℕ) (node : MvNode) → 1 ≤ left → next + 1 ≡ left → m0 page ≡ Some (mv_node_page node) → IsMvNode node → IsTyped node → node.place ≡ left
    → IsDamagedInChain m0 next node.before p → IsDamagedInChain m0 left page p
damaged_back m0 left next page p node some less there rules typed place below =
    let fewer : next ≡ left - 1 = omega (arith, less) in
    laws.damaged_further FitsChain LeadsBack NothingBeside m0 left tt page p node (mv_node_page node) node.before tt some there (record { spelled = refl; rules = rules; typed = typed }, place) refl
    (subst (λ (l : ℕ). IsDamagedInChain m0 l node.before p) fewer below)

-- Where the node of the page has its place, a page is damaged only further back in the chain.
pub damaged_only_back : (m0 : PageMap) (left next page p : ℕ) (node : MvNode) → next + 1 ≡ left → m0 page ≡ Some (mv_node_page node) → IsMvNode node → IsTyped node → node.place ≡ left
    → IsDamagedInChain m0 left page p → IsDamagedInChain m0 next node.before p
damaged_only_back m0 zero next page p node less there rules typed place d = absurd d
damaged_only_back m0 (suc left) next page p node less there rules typed place (inl d) =
    absurd (d.1 node (mv_node_page node) there (record { spelled = refl; rules = rules; typed = typed }, place))
damaged_only_back m0 (suc left) next page p node less there rules typed place (inr (inl d)) = absurd d.4
damaged_only_back m0 (suc left) next page p node less there rules typed place (inr (inr d)) =
    let same : node ≡ d.0 = same_spelled m0 page node d.0 d.1 typed rules there d.5.0.typed d.5.0.rules d.5.0.spelled d.4 in
    let on : d.2 ≡ node.before = d.6 ∙ ap (λ (n : MvNode). n.before) (sym same) in
    let fewer : left ≡ next = omega (arith, less) in
    subst (λ (l : ℕ). IsDamagedInChain m0 l node.before p) fewer (subst (λ (q : ℕ). IsDamagedInChain m0 left q p) on d.7)

-- A chain that stands is not damaged.
pub chain_undamaged : (places : ℕ) (pages : PageMap) (page p : ℕ) → ChainStands places pages page → IsDamagedInChain pages places page p → ⊥
chain_undamaged zero pages page p s d = d
chain_undamaged (suc places) pages page p s (inl d) = d.1 (node_on pages page) (mv_node_page (node_on pages page)) s.0 (record { spelled = refl; rules = s.1; typed = s.2 }, s.3)
chain_undamaged (suc places) pages page p s (inr (inl d)) = d.4
chain_undamaged (suc places) pages page p s (inr (inr d)) =
    let same : node_on pages page ≡ d.0 = same_spelled pages page (node_on pages page) d.0 d.1 s.2 s.1 s.0 d.5.0.typed d.5.0.rules d.5.0.spelled d.4 in
    let on : d.2 ≡ (node_on pages page).before = d.6 ∙ ap (λ (n : MvNode). n.before) (sym same) in
    chain_undamaged places pages d.2 p (subst (λ (q : ℕ). ChainStands places pages q) (sym on) s.4) d.7

pub same_node : (a b : PageMap) (page : ℕ) → b page ≡ a page → node_on b page ≡ node_on a page
same_node a b page e = ap (λ (o : Option (List ℕ)). option_map_or mv_node_in o no_node) e

pub names_first : (p : ℕ) (ps : List ℕ) → names_page (p ∷ ps) p ≡ true
names_first p ps = or_left (p == p) (names_page ps p) (eq-eqb p p refl)

pub agree_rest : (p : ℕ) (ps : List ℕ) (a b : PageMap) → AgreeOn (p ∷ ps) a b → AgreeOn ps a b
agree_rest p ps a b h = λ q named. h q (or_right (p == q) (names_page ps q) named)

-- The chain depends on its own pages.
pub same_chain : (places : ℕ) (a b : PageMap) (page : ℕ) → AgreeOn (chain_from places a page) a b → chain_from places b page ≡ chain_from places a page
same_chain zero a b page h = refl
same_chain (suc places) a b page h =
    let node : node_on b page ≡ node_on a page = same_node a b page (h page (names_first page (chain_from places a (node_on a page).before))) in
    let rest = same_chain places a b (node_on a page).before (agree_rest page (chain_from places a (node_on a page).before) a b h) in
    ap (λ (n : MvNode). page ∷ chain_from places b n.before) node ∙ ap (λ (ps : List ℕ). page ∷ ps) rest

-- So does what is damaged in it.
pub chain_damage : (places : ℕ) (a b : PageMap) (page p : ℕ) → AgreeOn (chain_from places a page) a b → IsDamagedInChain b places page p → IsDamagedInChain a places page p
chain_damage zero a b page p h d = d
chain_damage (suc places) a b page p h (inl d) =
    let e : b page ≡ a page = h page (names_first page (chain_from places a (node_on a page).before)) in
    inl (d.0, λ node bytes here. d.1 node bytes (e ∙ here))
chain_damage (suc places) a b page p h (inr (inl d)) = absurd d.4
chain_damage (suc places) a b page p h (inr (inr d)) =
    let there : a page ≡ Some d.1 = sym (h page (names_first page (chain_from places a (node_on a page).before))) ∙ d.4 in
    let is : node_on a page ≡ d.0 = node_on-spelled a page d.0 d.5.0.typed d.5.0.rules (there ∙ ap (λ (bytes : List ℕ). Some bytes) d.5.0.spelled) in
    let on : (node_on a page).before ≡ d.2 = ap (λ (n : MvNode). n.before) is ∙ sym d.6 in
    let rest = subst (λ (q : ℕ). AgreeOn (chain_from places a q) a b) on (agree_rest page (chain_from places a (node_on a page).before) a b h) in
    inr (inr (d.0, d.1, d.2, d.3, there, d.5, d.6, chain_damage places a b d.2 p rest d.7))

pub chain_stands : (places : ℕ) (a b : PageMap) (page : ℕ) → AgreeOn (chain_from places a page) a b → ChainStands places a page → ChainStands places b page
chain_stands zero a b page h s = s
chain_stands (suc places) a b page h s =
    let e : b page ≡ a page = h page (names_first page (chain_from places a (node_on a page).before)) in
    let node : node_on b page ≡ node_on a page = same_node a b page e in
    let rest = chain_stands places a b (node_on a page).before (agree_rest page (chain_from places a (node_on a page).before) a b h) s.4 in (
      e ∙ s.0 ∙ ap (λ (n : MvNode). Some (mv_node_page n)) (sym node),
      subst IsMvNode (sym node) s.1,
      subst IsTyped (sym node) s.2,
      ap (λ (n : MvNode). n.place) node ∙ s.3,
      subst (λ (n : MvNode). ChainStands places b n.before) (sym node) rest,
    )

-- The pages of a chain that stands are in the map.
pub chain_there : (places : ℕ) (pages : PageMap) (page : ℕ) → ChainStands places pages page → AreInMap pages (chain_from places pages page)
chain_there zero pages page s = λ p named. absurd (true≢false (sym named))
chain_there (suc places) pages page s = λ p named. elim (or_cases (page == p) (names_page (chain_from places pages (node_on pages page).before) p) named) [
  | inl here ↦ subst (λ (q : ℕ). IsSome (pages q)) (eqb-true page p here) (subst IsSome (sym s.0) refl)
  | inr later ↦ chain_there places pages (node_on pages page).before s.4 p later
]

-- What is damaged in a map that lost pages was damaged before, or is one of those that are lost.
pub chain_left : (places : ℕ) (freed : List ℕ) (m0 mi : PageMap) (page p : ℕ) → Replaces freed [] m0 mi → IsDamagedInChain mi places page p
    → IsDamagedInChain m0 places page p ⊎ ((names_page freed p ≡ true) × (names_page (chain_from places m0 page) p ≡ true))
chain_left zero freed m0 mi page p r d = absurd d
chain_left (suc places) freed m0 mi page p r (inl d) = elim (cases_Bool (names_page freed page)) [
  | inl gone ↦ inr (
    subst (λ (q : ℕ). names_page freed q ≡ true) (sym d.0) gone,
    or_left (page == p) (names_page (chain_from places m0 (node_on m0 page).before) p) (eq-eqb page p (sym d.0)),
  )
  | inr left ↦ inl (inl (d.0, λ node bytes there. d.1 node bytes (r.others page left refl ∙ there)))
]
chain_left (suc places) freed m0 mi page p r (inr (inl d)) = absurd d.4
chain_left (suc places) freed m0 mi page p r (inr (inr d)) =
    let there : m0 page ≡ Some d.1 = (left_there freed m0 mi page d.1 r d.4).1 in
    let is_node : node_on m0 page ≡ d.0 = node_on-spelled m0 page d.0 d.5.0.typed d.5.0.rules (there ∙ ap (λ (bytes : List ℕ). Some bytes) d.5.0.spelled) in
    elim (chain_left places freed m0 mi d.2 p r d.7) [
      | inl below ↦ inl (inr (inr (d.0, d.1, d.2, d.3, there, d.5, d.6, below)))
      | inr both ↦ inr (
        both.0,
        or_right (page == p) _ (ap (λ (q : ℕ). names_page (chain_from places m0 q) p) (ap (λ (n : MvNode). n.before) is_node ∙ sym d.6) ∙ both.1),
      )
    ]

times_cons : (x : ℕ) (xs : List ℕ) (p : ℕ) → times_named (x ∷ xs) p ≡ cond (x == p) 1 0 + times_named xs p
times_cons x xs p = sum_by-cons (λ (y : ℕ). cond (y == p) 1 0) x xs

pub times_append : (xs ys : List ℕ) (p : ℕ) → times_named (xs ++ ys) p ≡ times_named xs p + times_named ys p
times_append xs ys p = sum_by-append (λ (x : ℕ). cond (x == p) 1 0) xs ys

abbrev one_if : Bool → ℕ
one_if b = cond b 1 0

pub named_once : (xs : List ℕ) (p : ℕ) → names_page xs p ≡ true → 1 ≤ times_named xs p
named_once [] p named = absurd (true≢false (sym named))
named_once (x ∷ xs) p named = elim (cases_Bool (x == p)) [
  | inl here ↦ omega (arith, times_cons x xs p, ap one_if here)
  | inr other ↦
      let rest : names_page xs p ≡ true = sym (ap (λ (b : Bool). b || names_page xs p) other) ∙ named in
      omega (arith, times_cons x xs p, named_once xs p rest)
]

unnamed : (xs : List ℕ) (p : ℕ) → names_page xs p ≡ false → times_named xs p ≡ 0
unnamed [] p none = refl
unnamed (x ∷ xs) p none =
    let parts = or_parts (x == p) (names_page xs p) none in
    omega (arith, times_cons x xs p, ap one_if parts.0, unnamed xs p parts.1)

pub not_twice : (xs : List ℕ) (p : ℕ) → NamesNoneTwice xs → times_named xs p ≤ 1
not_twice [] p once = omega arith
not_twice (x ∷ xs) p once = elim (cases_Bool (x == p)) [
  | inl here ↦
      let none : names_page xs p ≡ false = subst (λ (q : ℕ). names_page xs q ≡ false) (eqb-true x p here) once.0 in
      omega (arith, times_cons x xs p, ap one_if here, unnamed xs p none)
  | inr other ↦ omega (arith, times_cons x xs p, ap one_if other, not_twice xs p once.1)
]

-- A page that both lists name is named twice by both together.
pub twice_by_both : (xs ys : List ℕ) (p : ℕ) → names_page xs p ≡ true → names_page ys p ≡ true → IsNamedTwice (xs ++ ys) p
twice_by_both xs ys p a b = omega (arith, times_append xs ys p, named_once xs p a, named_once ys p b)

-- Where no page is named twice, the two parts name no page both.
pub parts_apart : (xs ys : List ℕ) → NamesNoneTwice (xs ++ ys) → AreApart ys xs
parts_apart xs ys once = λ p named. elim (cases_Bool (names_page xs p)) [
  | inl both ↦ absurd (let twice : 2 ≤ times_named (xs ++ ys) p = twice_by_both xs ys p both named in omega (arith, twice, not_twice (xs ++ ys) p once))
  | inr other ↦ other
]
