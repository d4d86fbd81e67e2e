-- What dropping a part calls damaged.
use Rattle.std.proofs.Common.{◌≡◌, ℕ, suc, ◌-◌, ◌<◌, ◌≤◌, false, inl, inr, List, [], ◌∷◌, ◌++◌, length, refl, sym, ◌∙◌, subst}
use Rattle.std.proofs.lemmas.Bool.{cases_Bool}
use Rattle.bw_types.specs.declared.point.Point.{Point}
use Rattle.bw_types.specs.declared.tree.Tree.{Tree}
use Rattle.ports.specs.Frame.{Replaces, names_page}
use Rattle.ports.specs.Pages.{PageMap}
use Rattle.page_layout.specs.declared.cut_page.CutNode.{CutNode}
use Rattle.page_layout.specs.declared.cut_page.CutNode.TheVariants.{Cut, Entry}
use Rattle.cut_parts.specs.Damage.{IsSoundCut, BeforePage, BeforePart, BeforeCut, after_parts}
use Rattle.cut_parts.specs.Reach.{IsDamagedForDrop, IsThere}
use Rattle.cut_parts.specs.Spelling.{Holds, HoldsCuts, HoldsLeaf}
use Rattle.cut_parts.specs.Standing.{part_pages}
use Rattle.cut_parts.specs.declared.border_tree.BorderTree.{Ghosts}

-- what a page held that was not freed since, it still holds
holds_still : {V : Type 0} (spells : List ℕ → Type 0) (value_in : List ℕ → V) (freed : List ℕ) (first old : PageMap) (page : ℕ) (value : V) → Replaces freed [] first old
    → names_page freed page ≡ false → Holds spells value_in first page value → Holds spells value_in old page value
holds_still spells value_in freed first old page value lost kept held =
    record { bytes = held.bytes; there = lost.others page kept refl ∙ held.there; spelled = held.spelled; is = held.is }

module _ {B : Type 0} (g : Ghosts B) (damaged : ℕ) (first : PageMap) (freed : List ℕ) (n : ℕ) where
  -- A page without a leaf of so many points was freed before, or never had one.
  pub leaf_refused : (old : PageMap) (page : ℕ) → Replaces freed [] first old → n ≤ 64 → damaged ≡ page
      → ((points : List Point) → HoldsLeaf old page points → length points ≡ n → ⊥) → IsDamagedForDrop g first freed n (BeforePage page) damaged
  leaf_refused old page lost few same none = elim (cases_Bool (names_page freed page)) [
    | inl gone ↦ (1, inl (same, gone))
    | inr kept ↦ (1, inr (inl (same, inl (few, λ points held counted. none points (holds_still _ _ freed first old page points lost kept held) counted))))
  ]

  -- and so a page without cuts
  pub cuts_refused : (old : PageMap) (page : ℕ) → Replaces freed [] first old → 64 < n → damaged ≡ page
      → ((nodes : List CutNode) → HoldsCuts old page nodes → ⊥) → IsDamagedForDrop g first freed n (BeforePage page) damaged
  cuts_refused old page lost many same none = elim (cases_Bool (names_page freed page)) [
    | inl gone ↦ (1, inl (same, gone))
    | inr kept ↦ (1, inr (inl (same, inr (many, λ nodes held. none nodes (holds_still _ _ freed first old page nodes lost kept held)))))
  ]

  pub drops_in : (page : ℕ) (nodes : List CutNode) → 64 < n → HoldsCuts first page nodes → IsDamagedForDrop g first (freed ++ (page ∷ [])) n (BeforeCut page nodes) damaged
      → IsDamagedForDrop g first freed n (BeforePage page) damaged
  drops_in page nodes many held drop = (suc drop.0, inr (inr (many, (nodes, held, drop.1))))

  pub drops_entry : (page child : ℕ) (nodes others : List CutNode) → nodes ≡ Entry child ∷ others → IsDamagedForDrop g first freed n (BeforePage child) damaged
      → IsDamagedForDrop g first freed n (BeforePart page nodes) damaged
  drops_entry page child nodes others is drop = subst (λ (ns : List CutNode). IsDamagedForDrop g first freed n (BeforePart page ns) damaged) (sym is) (suc drop.0, drop.1)

  pub drops_cut : (page dimension key low : ℕ) (border : Tree) (nodes others : List CutNode) → nodes ≡ Cut dimension key low border ∷ others
      → IsDamagedForDrop g first freed n (BeforeCut page nodes) damaged → IsDamagedForDrop g first freed n (BeforePart page nodes) damaged
  drops_cut page dimension key low border nodes others is drop =
      let node : CutNode = Cut dimension key low border in
      let d : IsDamagedForDrop g first freed n (BeforeCut page (node ∷ others)) damaged =
      subst (λ (ns : List CutNode). IsDamagedForDrop g first freed n (BeforeCut page ns) damaged) is drop in
      subst (λ (ns : List CutNode). IsDamagedForDrop g first freed n (BeforePart page ns) damaged) (sym is) (suc d.0, d.1)

  module _ (page dimension key low : ℕ) (border : Tree) (nodes others : List CutNode) (is : nodes ≡ Cut dimension key low border ∷ others) where
    at_cut : IsDamagedForDrop g first freed n (BeforeCut page (Cut dimension key low border ∷ others)) damaged → IsDamagedForDrop g first freed n (BeforeCut page nodes) damaged
    at_cut drop = subst (λ (ns : List CutNode). IsDamagedForDrop g first freed n (BeforeCut page ns) damaged) (sym is) drop

    pub cut_refused : damaged ≡ page → (IsSoundCut (suc g.DIMS) n dimension low border → ⊥) → IsDamagedForDrop g first freed n (BeforeCut page nodes) damaged
    cut_refused same none = at_cut (1, inl (same, none))

    pub drops_border : IsSoundCut (suc g.DIMS) n dimension low border → (64 < low) × g.damaged_for_drop first freed border damaged
        → IsDamagedForDrop g first freed n (BeforeCut page nodes) damaged
    drops_border sound refused = at_cut (1, inr (sound, inl refused))

    pub drops_low : IsSoundCut (suc g.DIMS) n dimension low border → IsDamagedForDrop g first (freed ++ g.footprint first border) low (BeforePart page others) damaged
        → IsDamagedForDrop g first freed n (BeforeCut page nodes) damaged
    drops_low sound drop = at_cut (suc drop.0, inr (sound, inr (inl drop.1)))

    pub drops_high : (highs : List CutNode) → IsSoundCut (suc g.DIMS) n dimension low border → (lows : IsThere first low others) → highs ≡ after_parts 1 others
        → IsDamagedForDrop g first ((freed ++ g.footprint first border) ++ part_pages g first lows.part) (n - low) (BeforePart page highs) damaged
        → IsDamagedForDrop g first freed n (BeforeCut page nodes) damaged
    drops_high highs sound lows after drop =
        let lost : List ℕ = (freed ++ g.footprint first border) ++ part_pages g first lows.part in
        let d : IsDamagedForDrop g first lost (n - low) (BeforePart page (after_parts 1 others)) damaged =
        subst (λ (ns : List CutNode). IsDamagedForDrop g first lost (n - low) (BeforePart page ns) damaged) after drop in
        at_cut (suc d.0, inr (sound, inr (inr (lows, d.1))))
