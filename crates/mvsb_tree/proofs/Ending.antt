-- The end of the chain from call to call, whatever the pages hold.
use Rattle.std.proofs.Common.{◌≡◌, ◌⊎◌, ℕ, ◌+◌, ◌<◌, ◌≤◌, ◌^◌, ◌==◌, ◌||◌, nat_le, if◌then◌else◌, inl, inr, Bool, true, false, List, length, Option, Some, None, IsSome, refl, sym, ap, ◌∙◌, subst, arith}
use Rattle.std.specs.List.{All}
use Rattle.std.proofs.lemmas.Bool.{cases_Bool, eqb-true, le-leb, lt-leb}
use Rattle.ports.specs.Pages.{PageMap, put_page}
use Rattle.page_layout.specs.MvNode.{IsMvEntryTyped, IsMvNode, IsTyped, mv_node_page}
use Rattle.page_layout.specs.Spelled.{SpellsNone}
use Rattle.page_layout.specs.declared.mv_node.MvNode.{MvNode}
use Rattle.mvsb_tree.specs.declared.replaced.Replaced.{Replaced}
use Rattle.mv_pages.specs.Alive.{alive_at}
use Rattle.mvsb_tree.specs.AddDamage.{IsEndDamaged, IsEndOf, IsPlacedAs, KeepsPlaces}
use Rattle.mvsb_tree.specs.Becoming.{new_pages}
use Rattle.mvsb_tree.specs.Damage.{mv_pages}
use Rattle.mvsb_tree.specs.Steps.{node_on}
use Rattle.mvsb_tree.specs.Stored.{IsClosedBy, IsFirstStored, IsLastDamaged, IsNext, IsStored, all_start_at}
use Rattle.mvsb_tree.proofs.Chains.{same_node}
use Rattle.mvsb_tree.proofs.Landing.{next_spells, not_new}
use Rattle.mvsb_tree.proofs.Nodes.{node_on-spelled}
use Rattle.mvsb_tree.proofs.Past.{SpellsNode}

none_some : (o : Option (List ℕ)) → o ≡ None → IsSome o → ⊥
none_some o none some = (let h : IsSome {T = List ℕ} None = subst IsSome none some in cc)

some_or_none : (o : Option (List ℕ)) → IsSome o ⊎ (o ≡ None)
some_or_none None = inr refl
some_or_none (Some bytes) = inl refl

pub end_of_last : (needed : ℕ) (m : PageMap) (last p : ℕ) → 1 ≤ needed → IsLastDamaged m last p → IsEndDamaged needed m last p
end_of_last needed m last p some damaged = (some, inl damaged)

-- What ends the chain later ends it before, by so many places.
pub end_before : (a b : ℕ) (m0 m1 : PageMap) (last0 last1 p : ℕ) → KeepsPlaces a m0 m1 last0 last1 → IsEndDamaged b m1 last1 p → IsEndDamaged (a + b) m0 last0 p
end_before a b m0 m1 last0 last1 p k d = (
  omega (arith, d.0),
  elim k.ends [
    | inl same ↦ before_same same.0 (same.2, same.3) (subst (λ (x : ℕ). IsEndDamaged b m1 x p) same.1 d).1
    | inr new ↦ before_new new d.0 d.1
  ],
)
  where
    missing : m1 p ≡ None → m0 p ≡ None
    missing none = elim (some_or_none (m0 p)) [
      | inl some ↦ absurd (none_some (m1 p) none (k.kept p some).0)
      | inr gone ↦ gone
    ]

    Out : ℕ → PageMap → ℕ → Type 0
    Out needed m last =
        ((p ≡ last) × (SpellsNone mv_pages m last ⊎ ((node_on m last).place ≡ 4294967295)))
        ⊎ (((node_on m last).place < 4294967295) × (4294967295 < (node_on m last).place + needed) × (m p ≡ None))

    before_same : a ≡ 0 → ((node_on m1 last0).place ≡ (node_on m0 last0).place) × (SpellsNone mv_pages m1 last0 → SpellsNone mv_pages m0 last0) → Out b m1 last0 → Out (a + b) m0 last0
    before_same zero_a same (inl here) = inl (
      here.0,
      elim here.1 [
        | inl none ↦ inl (same.1 none)
        | inr full ↦ inr (sym same.0 ∙ full)
      ],
    )
    before_same zero_a same (inr full) = inr (omega (arith, full.0, same.0), omega (arith, full.1, same.0), missing full.2)

    before_new : (1 ≤ a) × (m0 last1 ≡ None) × (SpellsNone mv_pages m1 last1 → ⊥) × ((node_on m1 last1).place ≡ (node_on m0 last0).place + a) → 1 ≤ b → Out b m1 last1 → Out (a + b) m0 last0
    before_new new some (inl here) = elim here.1 [
      | inl none ↦ absurd (new.2 none)
      | inr full ↦ inr (omega (arith, full, new.3, new.0), omega (arith, full, new.3, some), subst (λ (x : ℕ). m0 x ≡ None) (sym here.0) new.1)
    ]
    before_new new some (inr full) = inr (omega (arith, full.0, new.3), omega (arith, full.1, new.3), missing full.2)

pub keeps_then : (a b : ℕ) (m0 m1 m2 : PageMap) (last0 last1 last2 : ℕ) → KeepsPlaces a m0 m1 last0 last1 → KeepsPlaces b m1 m2 last1 last2 → KeepsPlaces (a + b) m0 m2 last0 last2
keeps_then a b m0 m1 m2 last0 last1 last2 f g = record {
  kept = λ page some.
      let first = f.kept page some in
      let second = g.kept page first.0 in
      (second.0, second.1 ∙ first.1);
  ends = elim g.ends [
    | inl same ↦ by_first same.0 same.1 (same.2, same.3)
    | inr new ↦ inr (omega (arith, new.0), missing last2 new.1, new.2, (let e : (node_on m2 last2).place ≡ (node_on m0 last0).place + (a + b) = omega (arith, new.3, reach) in e))
  ];
}
  where
    missing : (p : ℕ) → m1 p ≡ None → m0 p ≡ None
    missing p none = elim (some_or_none (m0 p)) [
      | inl some ↦ absurd (none_some (m1 p) none (f.kept p some).0)
      | inr gone ↦ gone
    ]

    reach : (node_on m1 last1).place ≡ (node_on m0 last0).place + a
    reach = elim f.ends [
      | inl same ↦ (let e : (node_on m1 last1).place ≡ (node_on m0 last0).place = ap (λ (x : ℕ). (node_on m1 x).place) same.1 ∙ same.2 in omega (arith, e, same.0))
      | inr new ↦ new.3
    ]

    by_first : b ≡ 0 → last2 ≡ last1 → ((node_on m2 last1).place ≡ (node_on m1 last1).place) × (SpellsNone mv_pages m2 last1 → SpellsNone mv_pages m1 last1) → IsEndOf (a + b) m0 m2 last0 last2
    by_first none is g_same = elim f.ends [
      | inl same ↦
          let moved = subst (λ (x : ℕ). ((node_on m2 x).place ≡ (node_on m1 x).place) × (SpellsNone mv_pages m2 x → SpellsNone mv_pages m1 x)) same.1 g_same in
          inl (omega (arith, none, same.0), is ∙ same.1, moved.0 ∙ same.2, λ spells_none. same.3 (moved.1 spells_none))
      | inr new ↦ inr (
        omega (arith, new.0),
        ap m0 is ∙ new.1,
        λ spells_none. new.2 (g_same.1 (subst (λ (x : ℕ). SpellsNone mv_pages m2 x) is spells_none)),
        (let e : (node_on m2 last2).place ≡ (node_on m0 last0).place + (a + b) = omega (arith, none, ap (λ (x : ℕ). (node_on m2 x).place) is, g_same.0, new.3) in e),
      )
    ]

spelled_there : (m : PageMap) (page : ℕ) → SpellsNode m page → SpellsNone mv_pages m page → ⊥
spelled_there m page s none = none (node_on m page) (mv_node_page (node_on m page)) s.spelled (record { spelled = refl; rules = s.rules; typed = s.typed })

none_moves : (a b : PageMap) (page : ℕ) → b page ≡ a page → SpellsNone mv_pages b page → SpellsNone mv_pages a page
none_moves a b page same none = λ node bytes there. none node bytes (same ∙ there)

-- A node was put into its page.
pub put_keeps : (m0 m1 : PageMap) (page last : ℕ) (node : MvNode) → m1 ≡ put_page m0 page (mv_node_page node) → IsMvNode node → All IsMvEntryTyped node.entries.items → IsPlacedAs m0 page node → KeepsPlaces 0 m0 m1 last last
put_keeps m0 m1 page last node is rules typed placed =
    let node_typed : IsTyped node = record { place = placed.1; before = placed.2; entries = typed } in
    let there : m1 page ≡ Some (mv_node_page node) = ap (λ (m : PageMap). m page) is ∙ (let same : (page == page) ≡ true = Rattle.std.proofs.lemmas.Bool.eq-eqb page page refl in put_same same) in
    let on : node_on m1 page ≡ node = node_on-spelled m1 page node node_typed rules there in
    let others : (p : ℕ) → (page == p) ≡ false → m1 p ≡ m0 p = λ p other. ap (λ (m : PageMap). m p) is ∙ put_other p other in
    let place : (p : ℕ) → (node_on m1 p).place ≡ (node_on m0 p).place = λ p. elim (cases_Bool (page == p)) [
      | inl same ↦ subst (λ (x : ℕ). (node_on m1 x).place ≡ (node_on m0 x).place) (eqb-true page p same) (ap (λ (n : MvNode). n.place) on ∙ placed.0)
      | inr other ↦ ap (λ (n : MvNode). n.place) (same_node m0 m1 p (others p other))
    ] in
    record {
      kept = λ p some. (
        elim (cases_Bool (page == p)) [
          | inl same ↦ subst (λ (x : ℕ). IsSome (m1 x)) (eqb-true page p same) (subst IsSome (sym there) refl)
          | inr other ↦ subst IsSome (sym (others p other)) some
        ],
        place p,
      );
      ends = inl (
        refl,
        refl,
        place last,
        elim (cases_Bool (page == last)) [
          | inl same ↦ λ none. absurd (subst (λ (x : ℕ). SpellsNone mv_pages m1 x → ⊥) (eqb-true page last same)
              (spelled_there m1 page (record { spelled = there ∙ ap (λ (n : MvNode). Some (mv_node_page n)) (sym on); rules = subst IsMvNode (sym on) rules; typed = subst IsTyped (sym on) node_typed })) none)
          | inr other ↦ none_moves m0 m1 last (others last other)
        ],
      );
    }
  where
    put_same : (page == page) ≡ true → put_page m0 page (mv_node_page node) page ≡ Some (mv_node_page node)
    put_same same = rw same refl

    put_other : (p : ℕ) → (page == p) ≡ false → put_page m0 page (mv_node_page node) p ≡ m0 p
    put_other p other = rw other refl

-- A page was put to the end of the chain.
pub next_keeps : (a b : PageMap) (last : ℕ) (node : MvNode) (page : ℕ) → IsNext a b last node page → All IsMvEntryTyped node.entries.items → KeepsPlaces 1 a b last page
next_keeps a b last node page next typed =
    let spells = next_spells a b last node page next typed in
    record {
      kept = λ p some.
          let same = next.others p (not_new a page p next.fresh some) in
          (subst IsSome (sym same) some, ap (λ (n : MvNode). n.place) (same_node a b p same));
      ends = inr (omega arith, next.fresh, spelled_there b page spells.0, ap (λ (n : MvNode). n.place) spells.1);
    }

-- how many new pages the first of two copies takes
abbrev pub first_pages : Bool → ℕ
first_pages true = 0
first_pages false = 1

-- The first of two copies was stored.
pub first_keeps : (starts : Bool) (a b : PageMap) (page last new_last : ℕ) (node : MvNode) (first : ℕ) → IsPlacedAs a page node → All IsMvEntryTyped node.entries.items
    → IsFirstStored starts a b page last new_last node first → KeepsPlaces (first_pages starts) a b last new_last
first_keeps true a b page last new_last node first placed typed stored =
    subst (λ (x : ℕ). KeepsPlaces 0 a b last x) (sym stored.1) (put_keeps a b page last node stored.2 stored.3 typed placed)
first_keeps false a b page last new_last node first placed typed stored =
    subst (λ (x : ℕ). KeepsPlaces 1 a b last x) (sym stored.0) (next_keeps a b last node first stored.1 typed)

-- how many new pages take a node's part, where it fits its page, has few entries alive, and they all start at the version
abbrev choose : Bool → Bool → Bool → ℕ
choose fits few starts = if fits then 0 else if few || starts then 1 else 2

two_chosen : (starts : Bool) → choose false false starts ≡ first_pages starts + 1
two_chosen true = refl
two_chosen false = refl

pub none_needed : (node : MvNode) (v : ℕ) → length node.entries.items ≤ 96 → new_pages node v ≡ 0
none_needed node v few = ap (λ (fits : Bool). choose fits (nat_le (length (alive_at node.entries.items v)) 48) (all_start_at v node.entries.items)) (le-leb (length node.entries.items) 96 few)

pub one_needed : (node : MvNode) (v : ℕ) → 96 < length node.entries.items → length (alive_at node.entries.items v) ≤ 48 → new_pages node v ≡ 1
one_needed node v full few =
    ap (λ (fits : Bool). choose fits (nat_le (length (alive_at node.entries.items v)) 48) (all_start_at v node.entries.items)) (lt-leb (length node.entries.items) 96 full)
    ∙ ap (λ (lives : Bool). choose false lives (all_start_at v node.entries.items)) (le-leb (length (alive_at node.entries.items v)) 48 few)

pub two_needed : (node : MvNode) (v : ℕ) → 96 < length node.entries.items → 48 < length (alive_at node.entries.items v) → new_pages node v ≡ first_pages (all_start_at v node.entries.items) + 1
two_needed node v full many =
    ap (λ (fits : Bool). choose fits (nat_le (length (alive_at node.entries.items v)) 48) (all_start_at v node.entries.items)) (lt-leb (length node.entries.items) 96 full)
    ∙ ap (λ (lives : Bool). choose false lives (all_start_at v node.entries.items)) (lt-leb (length (alive_at node.entries.items v)) 48 many)
    ∙ two_chosen (all_start_at v node.entries.items)

-- A node was stored.
pub stored_keeps : (a b : PageMap) (page : ℕ) (node : MvNode) (v last new_last : ℕ) (r : Option Replaced) → IsPlacedAs a page node → All IsMvEntryTyped node.entries.items → IsStored a b page node v last new_last r
    → KeepsPlaces (new_pages node v) a b last new_last
stored_keeps a b page node v last new_last None placed typed st =
    subst (λ (n : ℕ). KeepsPlaces n a b last new_last) (sym (none_needed node v st.0))
    (subst (λ (x : ℕ). KeepsPlaces 0 a b last x) (sym st.1) (put_keeps a b page last node st.2 st.3 typed placed))
stored_keeps a b page node v last new_last (Some r) placed typed st = by_second r.second st.1
  where
    by_second : (o : Option (ℕ × ℕ)) → IsClosedBy a b page node v last new_last r.first o → KeepsPlaces (new_pages node v) a b last new_last
    by_second None c =
        subst (λ (n : ℕ). KeepsPlaces n a b last new_last) (sym (one_needed node v st.0 c.1.few))
        (subst (λ (x : ℕ). KeepsPlaces 1 a b last x) (sym c.4) (next_keeps a b last c.0 r.first c.3 c.2))
    by_second (Some pair) t =
        let first_placed : IsPlacedAs a page t.first_node = (
          ap (λ (n : MvNode). n.place) t.copies.first_made ∙ placed.0,
          subst (λ (x : ℕ). x < 2 ^ 32) (sym (ap (λ (n : MvNode). n.place) t.copies.first_made)) placed.1,
          subst (λ (x : ℕ). x < 2 ^ 64) (sym (ap (λ (n : MvNode). n.before) t.copies.first_made)) placed.2,
        ) in
        let starts : Bool = all_start_at v node.entries.items in
        let first = first_keeps starts a t.between page last t.between_last t.first_node r.first first_placed t.typed.0 t.stored in
        let second = next_keeps t.between b t.between_last t.second_node pair.1 t.next t.typed.1 in
        subst (λ (n : ℕ). KeepsPlaces n a b last new_last) (sym (two_needed node v st.0 t.copies.many))
        (subst (λ (x : ℕ). KeepsPlaces (first_pages starts + 1) a b last x) (sym t.ends) (keeps_then (first_pages starts) 1 a t.between b last t.between_last pair.1 first second))

-- The last page is the one of before or was given out, where it is so with what came first and with what came then.
pub ends_at_new : {taken : ℕ} (m0 m1 : PageMap) (last0 last1 last2 : ℕ) → KeepsPlaces taken m0 m1 last0 last1 → (last2 ≡ last1) ⊎ (m1 last2 ≡ None)
    → (last2 ≡ last0) ⊎ (m0 last2 ≡ None)
ends_at_new m0 m1 last0 last1 last2 first (inl same) = elim first.ends [
  | inl kept ↦ inl (same ∙ kept.1)
  | inr new ↦ inr (subst (λ (p : ℕ). m0 p ≡ None) (sym same) new.1)
]
ends_at_new m0 m1 last0 last1 last2 first (inr none) = elim (some_or_none (m0 last2)) [
  | inl some ↦ absurd (none_some (m1 last2) none (first.kept last2 some).0)
  | inr gone ↦ inr gone
]
