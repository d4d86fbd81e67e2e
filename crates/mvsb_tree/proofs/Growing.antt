-- How the nodes of a tree grow, step by step.
use Rattle.std.proofs.Common.{◌≡◌, ℕ, zero, suc, ◌+◌, ◌==◌, ◌||◌, inl, inr, true, false, Bool, List, [], ◌∷◌, ◌++◌, Option, Some, None, IsSome, refl, sym, ap, ◌∙◌, subst, arith, append_assoc}
use Rattle.std.proofs.lemmas.Bool.{cases_Bool, or_cases, or_left, or_right, or_parts, or_from, eqb-true, eq-eqb, true≢false}
use Rattle.ports.specs.Pages.{PageMap, put_page}
use Rattle.ports.specs.Frame.{names_page, AgreeOn}
use Rattle.ports.specs.FrameLaws.{names_page-append, Replaces-then}
use Rattle.page_layout.specs.Footprint.{NamesNoneTwice}
use Rattle.page_layout.specs.MvNode.{IsMvNode, IsTyped, mv_node_page}
use Rattle.page_layout.specs.declared.mv_node.MvNode.{MvNode}
use Rattle.mvsb_tree.specs.Grown.{EntriesHold, Grown, NodesHold, PastStays}
use Rattle.mvsb_tree.specs.Stands.{ChainStands}
use Rattle.mvsb_tree.specs.Steps.{chain_from, node_on}
use Rattle.mvsb_tree.proofs.Chains.{chain_stands, chain_there, names_first, same_chain, same_node}
use Rattle.mvsb_tree.proofs.Nodes.{node_on-spelled}

missing : (o : Option (List ℕ)) → o ≡ None → IsSome o → ⊥
missing o none some = (let h : IsSome {T = List ℕ} None = subst IsSome none some in cc)

pub past_same : (version : ℕ) (node : MvNode) → PastStays version node node
past_same version node = record { level = refl; place = refl; before = refl; values = λ key v h. refl; children = λ key v h. refl; lows = λ v h. refl }

pub past_then : (version : ℕ) (a b c : MvNode) → PastStays version a b → PastStays version b c → PastStays version a c
past_then version a b c f g = record {
  level = g.level ∙ f.level;
  place = g.place ∙ f.place;
  before = g.before ∙ f.before;
  values = λ key v h. g.values key v h ∙ f.values key v h;
  children = λ key v h. g.children key v h ∙ f.children key v h;
  lows = λ v h. g.lows v h ∙ f.lows v h;
}

-- the second part of a list of pages
pub named_second : (xs ys all : List ℕ) (p : ℕ) → all ≡ xs ++ ys → names_page ys p ≡ true → names_page all p ≡ true
named_second xs ys all p e named = ap (λ (ps : List ℕ). names_page ps p) e ∙ names_page-append xs ys p ∙ or_right (names_page xs p) (names_page ys p) named

pub named_first : (xs ys all : List ℕ) (p : ℕ) → all ≡ xs ++ ys → names_page xs p ≡ true → names_page all p ≡ true
named_first xs ys all p e named = ap (λ (ps : List ℕ). names_page ps p) e ∙ names_page-append xs ys p ∙ or_left (names_page xs p) (names_page ys p) named

-- Lists that name no page twice, and none both, name none twice together.
pub once_together : (xs ys : List ℕ) → NamesNoneTwice xs → NamesNoneTwice ys → ((p : ℕ) → names_page xs p ≡ true → names_page ys p ≡ false) → NamesNoneTwice (xs ++ ys)
once_together [] ys a b apart = b
once_together (x ∷ xs) ys a b apart = (
  names_page-append xs ys x ∙ or_from (names_page xs x) (names_page ys x) a.0 (apart x (names_first x xs)),
  once_together xs ys a.1 b (λ p named. apart p (or_right (x == p) (names_page xs p) named)),
)

module _ (version : ℕ) (test : ℕ → Bool) (m0 m1 m2 : PageMap) (places0 last0 places1 last1 places2 last2 : ℕ)
    (f : Grown version test m0 m1 places0 last0 places1 last1) (g : Grown version test m1 m2 places1 last1 places2 last2) where
  c0 : List ℕ
  c0 = chain_from places0 m0 last0

  there1 : (p : ℕ) → names_page (chain_from places1 m1 last1) p ≡ true → IsSome (m1 p)
  there1 = chain_there places1 m1 last1 f.stands

  -- A page that the second step made was not there before the first one.
  not_before : (p : ℕ) → names_page g.new p ≡ true → m0 p ≡ None
  not_before p named =
      let none : m1 p ≡ None = g.fresh p named in
      let no_second : names_page (chain_from places1 m1 last1) p ≡ false = elim (cases_Bool (names_page (chain_from places1 m1 last1) p)) [
        | inl yes_named ↦ absurd (missing (m1 p) none (there1 p yes_named))
        | inr other ↦ other
      ] in
      let no_first : names_page (chain_from places0 m0 last0) p ≡ false = elim (cases_Bool (names_page (chain_from places0 m0 last0) p)) [
        | inl yes_named ↦ absurd (true≢false (sym (named_second f.new (chain_from places0 m0 last0) (chain_from places1 m1 last1) p f.chain yes_named) ∙ no_second))
        | inr other ↦ other
      ] in
      sym (f.replaces.others p no_first no_second) ∙ none

  pub grown_then : Grown version test m0 m2 places0 last0 places2 last2
  grown_then = record {
    stands = g.stands;
    hold = g.hold;
    new = g.new ++ f.new;
    chain = g.chain ∙ ap (λ (ps : List ℕ). g.new ++ ps) f.chain ∙ sym (append_assoc g.new f.new (chain_from places0 m0 last0));
    once = once_together g.new f.new g.once f.once (λ p named. elim (cases_Bool (names_page f.new p)) [
      | inl yes_named ↦ absurd (missing (m1 p) (g.fresh p named) (there1 p (named_first f.new (chain_from places0 m0 last0) (chain_from places1 m1 last1) p f.chain yes_named)))
      | inr other ↦ other
    ]);
    fresh = λ p named. elim (or_cases _ _ (sym (names_page-append g.new f.new p) ∙ named)) [
      | inl second ↦ not_before p second
      | inr first ↦ f.fresh p first
    ];
    past = λ p named. past_then version (node_on m0 p) (node_on m1 p) (node_on m2 p) (f.past p named)
        (g.past p (named_second f.new (chain_from places0 m0 last0) (chain_from places1 m1 last1) p f.chain named));
    replaces = Replaces-then (chain_from places0 m0 last0) (chain_from places1 m1 last1) (chain_from places2 m2 last2) m0 m1 m2 f.replaces g.replaces;
  }

-- A chain of which one node is changed, and keeps its place.

put_other : (m : PageMap) (page p : ℕ) (bytes : List ℕ) → (page == p) ≡ false → put_page m page bytes p ≡ m p
put_other m page p bytes other = rw other refl

put_here : (m : PageMap) (page : ℕ) (bytes : List ℕ) → put_page m page bytes page ≡ Some bytes
put_here m page bytes = let same : (page == page) ≡ true = eq-eqb page page refl in rw same refl

module _ (m : PageMap) (page : ℕ) (node : MvNode) (typed : IsTyped node) (rules : IsMvNode node)
    (place : node.place ≡ (node_on m page).place) (before : node.before ≡ (node_on m page).before) where
  after : PageMap
  after = put_page m page (mv_node_page node)

  pub node_after : node_on (put_page m page (mv_node_page node)) page ≡ node
  node_after = node_on-spelled (put_page m page (mv_node_page node)) page node typed rules (put_here m page (mv_node_page node))

  pub node_beside : (p : ℕ) → (page == p) ≡ false → node_on (put_page m page (mv_node_page node)) p ≡ node_on m p
  node_beside p other = same_node m (put_page m page (mv_node_page node)) p (put_other m page p (mv_node_page node) other)

  before_stays : (p : ℕ) → (node_on (put_page m page (mv_node_page node)) p).before ≡ (node_on m p).before
  before_stays p = elim (cases_Bool (page == p)) [
    | inl same ↦ subst (λ (q : ℕ). (node_on (put_page m page (mv_node_page node)) q).before ≡ (node_on m q).before) (eqb-true page p same) (ap (λ (n : MvNode). n.before) node_after ∙ before)
    | inr other ↦ ap (λ (n : MvNode). n.before) (node_beside p other)
  ]

  pub chain_after : (places last : ℕ) → chain_from places (put_page m page (mv_node_page node)) last ≡ chain_from places m last
  chain_after zero last = refl
  chain_after (suc places) last =
      ap (λ (p : ℕ). last ∷ chain_from places (put_page m page (mv_node_page node)) p) (before_stays last) ∙ ap (λ (ps : List ℕ). last ∷ ps) (chain_after places (node_on m last).before)

  pub stands_after : (places last : ℕ) → ChainStands places m last → ChainStands places (put_page m page (mv_node_page node)) last
  stands_after zero last s = s
  stands_after (suc places) last s =
      let rest = subst (λ (p : ℕ). ChainStands places (put_page m page (mv_node_page node)) p) (sym (before_stays last)) (stands_after places (node_on m last).before s.4) in
      elim (cases_Bool (page == last)) [
        | inl same ↦
            let is : page ≡ last = eqb-true page last same in
            let on : node_on (put_page m page (mv_node_page node)) last ≡ node = subst (λ (q : ℕ). node_on (put_page m page (mv_node_page node)) q ≡ node) is node_after in (
              subst (λ (q : ℕ). put_page m page (mv_node_page node) q ≡ Some (mv_node_page node)) is (put_here m page (mv_node_page node)) ∙ ap (λ (n : MvNode). Some (mv_node_page n)) (sym on),
              subst IsMvNode (sym on) rules,
              subst IsTyped (sym on) typed,
              ap (λ (n : MvNode). n.place) on ∙ place ∙ ap (λ (q : ℕ). (node_on m q).place) is ∙ s.3,
              rest,
            )
        | inr other ↦
            let on : node_on (put_page m page (mv_node_page node)) last ≡ node_on m last = node_beside last other in (
              put_other m page last (mv_node_page node) other ∙ s.0 ∙ ap (λ (n : MvNode). Some (mv_node_page n)) (sym on),
              subst IsMvNode (sym on) s.1,
              subst IsTyped (sym on) s.2,
              ap (λ (n : MvNode). n.place) on ∙ s.3,
              rest,
            )
      ]

-- A node of the chain was changed in its page.
pub grown_put : (version : ℕ) (m0 m1 : PageMap) (last page : ℕ) (node : MvNode) → IsTyped node → IsMvNode node → m1 ≡ put_page m0 page (mv_node_page node)
    → PastStays version (node_on m0 page) node
    → (test : ℕ → Bool) (places : ℕ) → ChainStands places m0 last → NodesHold version test m0 (chain_from places m0 last) → names_page (chain_from places m0 last) page ≡ true
    → EntriesHold version test node → Grown version test m0 m1 places last places last
grown_put version m0 m1 last page node typed rules is past test places s h listed holds =
    let after : PageMap = put_page m0 page (mv_node_page node) in
    let chain : chain_from places after last ≡ chain_from places m0 last = chain_after m0 page node typed rules past.place past.before places last in
    let on : node_on after page ≡ node = node_after m0 page node typed rules past.place past.before in
    subst (λ (m : PageMap). Grown version test m0 m places last places last) (sym is) (record {
      stands = stands_after m0 page node typed rules past.place past.before places last s;
      hold = λ p named. elim (cases_Bool (page == p)) [
        | inl same ↦ subst (λ (q : ℕ). EntriesHold version test (node_on after q)) (eqb-true page p same) (subst (EntriesHold version test) (sym on) holds)
        | inr other ↦ subst (EntriesHold version test) (sym (node_beside m0 page node typed rules past.place past.before p other)) (h p (ap (λ (ps : List ℕ). names_page ps p) (sym chain) ∙ named))
      ];
      new = [];
      chain = chain;
      once = tt;
      fresh = λ p named. absurd (true≢false (sym named));
      past = λ p named. elim (cases_Bool (page == p)) [
        | inl same ↦ subst (λ (q : ℕ). PastStays version (node_on m0 q) (node_on after q)) (eqb-true page p same) (subst (PastStays version (node_on m0 page)) (sym on) past)
        | inr other ↦ subst (PastStays version (node_on m0 p)) (sym (node_beside m0 page node typed rules past.place past.before p other)) (past_same version (node_on m0 p))
      ];
      replaces = record {
        others = λ p a b. elim (cases_Bool (page == p)) [
          | inl same ↦ absurd (true≢false (sym (subst (λ (q : ℕ). names_page (chain_from places m0 last) q ≡ true) (eqb-true page p same) listed) ∙ a))
          | inr other ↦ put_other m0 page p (mv_node_page node) other
        ];
        fresh = λ p a b. absurd (true≢false (sym b ∙ ap (λ (ps : List ℕ). names_page ps p) chain ∙ a));
        gone = λ p a b. absurd (true≢false (sym a ∙ ap (λ (ps : List ℕ). names_page ps p) (sym chain) ∙ b));
      };
    })

-- A new page was put to the end of the chain.
pub grown_next : (version : ℕ) (m0 m1 : PageMap) (last page : ℕ) (node : MvNode) → IsTyped node → IsMvNode node → m0 page ≡ None → m1 page ≡ Some (mv_node_page node)
    → ((p : ℕ) → (page == p) ≡ false → m1 p ≡ m0 p) → node.place ≡ (node_on m0 last).place + 1 → node.before ≡ last
    → (test : ℕ → Bool) (places : ℕ) → ChainStands places m0 last → NodesHold version test m0 (chain_from places m0 last) → places ≡ (node_on m0 last).place
    → EntriesHold version test node → Grown version test m0 m1 places last (places + 1) page
grown_next version m0 m1 last page node typed rules none there others place before test places s h is_place holds =
    let apart : (p : ℕ) → IsSome (m0 p) → (page == p) ≡ false = λ p some. elim (cases_Bool (page == p)) [
      | inl same ↦ absurd (missing (m0 p) (subst (λ (q : ℕ). m0 q ≡ None) (eqb-true page p same) none) some)
      | inr other ↦ other
    ] in
    let agree : AgreeOn (chain_from places m0 last) m0 m1 = λ p named. others p (apart p (chain_there places m0 last s p named)) in
    let on : node_on m1 page ≡ node = node_on-spelled m1 page node typed rules there in
    let more : places + 1 ≡ suc places = omega arith in
    let old : chain_from places m1 last ≡ chain_from places m0 last = same_chain places m0 m1 last agree in
    let back : (node_on m1 page).before ≡ last = ap (λ (n : MvNode). n.before) on ∙ before in
    let chain : chain_from (suc places) m1 page ≡ (page ∷ []) ++ chain_from places m0 last = ap (λ (p : ℕ). page ∷ chain_from places m1 p) back ∙ ap (λ (ps : List ℕ). page ∷ ps) old in
    subst (λ (n : ℕ). Grown version test m0 m1 places last n page) (sym more) (record {
      stands = (
        there ∙ ap (λ (n : MvNode). Some (mv_node_page n)) (sym on),
        subst IsMvNode (sym on) rules,
        subst IsTyped (sym on) typed,
        ap (λ (n : MvNode). n.place) on ∙ place ∙ (let e : (node_on m0 last).place + 1 ≡ suc places = omega (arith, is_place) in e),
        subst (λ (p : ℕ). ChainStands places m1 p) (sym back) (chain_stands places m0 m1 last agree s),
      );
      hold = λ p named. elim (cases_Bool (page == p)) [
        | inl same ↦ subst (λ (q : ℕ). EntriesHold version test (node_on m1 q)) (eqb-true page p same) (subst (EntriesHold version test) (sym on) holds)
        | inr other ↦ subst (EntriesHold version test) (sym (same_node m0 m1 p (others p other)))
            (h p (sym (ap (λ (b : Bool). b || names_page (chain_from places m0 last) p) other) ∙ ap (λ (ps : List ℕ). names_page ps p) (sym chain) ∙ named))
      ];
      new = page ∷ [];
      chain = chain;
      once = (refl, tt);
      fresh = λ p named. elim (or_cases (page == p) false named) [
        | inl same ↦ subst (λ (q : ℕ). m0 q ≡ None) (eqb-true page p same) none
        | inr other ↦ absurd (true≢false (sym other))
      ];
      past = λ p named. subst (PastStays version (node_on m0 p)) (sym (same_node m0 m1 p (agree p named))) (past_same version (node_on m0 p));
      replaces = record {
        others = λ p a b.
            let parts = or_parts (page == p) (names_page (chain_from places m0 last) p) (sym (ap (λ (ps : List ℕ). names_page ps p) chain) ∙ b) in others p parts.0;
        fresh = λ p a b. elim (or_cases (page == p) (names_page (chain_from places m0 last) p) (sym (ap (λ (ps : List ℕ). names_page ps p) chain) ∙ b)) [
          | inl same ↦ subst (λ (q : ℕ). m0 q ≡ None) (eqb-true page p same) none
          | inr old_one ↦ absurd (true≢false (sym old_one ∙ a))
        ];
        gone = λ p a b.
            let parts = or_parts (page == p) (names_page (chain_from places m0 last) p) (sym (ap (λ (ps : List ℕ). names_page ps p) chain) ∙ b) in
            absurd (true≢false (sym a ∙ parts.1));
      };
    })
