-- Freeing the pages of a table one child after another.
use Rattle.std.proofs.Common.{◌≡◌, ℕ, zero, suc, ◌+◌, ◌-◌, ◌<◌, ◌≤◌, ◌==◌, ◌⊎◌, true, false, inl, inr, List, [], ◌∷◌, ◌++◌, length, get_or, take, drop, map, Option, Some, None, IsSome, refl, sym, ap, ◌∙◌, subst, arith, drop-cons}
use Rattle.std.proofs.Math.ListN.{get_or-map}
use Rattle.std.specs.List.{flat_map}
use Rattle.std.specs.Option.{option_map_or}
use Rattle.std.proofs.lemmas.Bool.{cases_Bool, or_cases, or_left, or_right, eq-eqb}
use Rattle.std.proofs.lemmas.List.{take-append-drop, length-map, get_or_default}
use Rattle.std.proofs.lemmas.List.Concat.{flat_map-append}
use Rattle.ports.specs.Pages.{PageMap}
use Rattle.ports.specs.Frame.{names_page, AgreeOn, AreInMap, Replaces}
use Rattle.ports.specs.FrameLaws.{Replaces-beside, names_page-append}
use Rattle.page_layout.specs.Footprint.{IsNamedTwice, times_named}
use Rattle.page_layout.specs.FootprintLaws.{flat_more, times_append, times_cons, named_once, not_twice}
use Rattle.page_layout.specs.declared.life_node.LifeNode.{LifeNode}
use Rattle.page_layout.specs.declared.life_node.LifeEntry.{LifeEntry}
use Rattle.bw_types.specs.declared.dated.Dated.{Dated}
use Rattle.bw_types.specs.declared.tree.Tree.{Tree}
use Rattle.object_table.specs.declared.form.Form.{Form}
use Rattle.object_table.specs.Keys.{low_key, key_end}
use Rattle.object_table.specs.Nodes.{FitsLevel, node_in, no_node, node_on, entries_in, entries_on}
use Rattle.object_table.specs.Lives.{pages_below, table_pages}
use Rattle.object_table.specs.Stands.{EachStands, first_low, fewest, StandsBelow, RootStands, TableStands}
use Rattle.object_table.specs.Damage.{IsDamagedFrom, IsDamagedForFree}
use Rattle.object_table.proofs.Nodes.{node_on-fits}
use Rattle.object_table.proofs.Frames.{same_pages}
use Rattle.object_table.proofs.Within.{ChildStands}

module _ (form : Form) where
  none_some : {bytes : List ℕ} → ◌≡◌ {A = Option (List ℕ)} None (Some bytes) → ⊥
  none_some e = cc

  -- the pages of an entry's child
  abbrev pub own_pages : ℕ → PageMap → LifeEntry → List ℕ
  own_pages level pages e = pages_below form level pages e.child

  pub flat_nothing : (es : List LifeEntry) (pages : PageMap) → flat_map (own_pages 0 pages) es ≡ []
  flat_nothing [] pages = refl
  flat_nothing (e ∷ es) pages = flat_nothing es pages

  pub pages-step : (level : ℕ) (pages : PageMap) (page : ℕ) → pages_below form (suc level) pages page ≡ page ∷ flat_map (own_pages level pages) (entries_on form pages page)
  pages-step zero pages page = ap (λ (ps : List ℕ). page ∷ ps) (sym (flat_nothing (entries_on form pages page) pages))
  pages-step (suc level) pages page = refl

  pub pages-spelled : (level : ℕ) (pages : PageMap) (page : ℕ) (node : LifeNode) (bytes : List ℕ) → 1 ≤ level → pages page ≡ Some bytes → FitsLevel form level node bytes
      → pages_below form level pages page ≡ page ∷ flat_map (own_pages (level - 1) pages) (entries_in node)
  pages-spelled zero pages page node bytes some there fits = absurd (omega (arith, some))
  pages-spelled (suc level) pages page node bytes some there fits =
      let less : suc level - 1 ≡ level = omega arith in
      rw less (pages-step level pages page ∙ ap (λ (es : List LifeEntry). page ∷ flat_map (own_pages level pages) es) (ap entries_in (node_on-fits form pages page (suc level) node bytes there fits)))

  flat_at : {A : Type 0} (f : LifeEntry → List A) (es : List LifeEntry) (i : ℕ) (d : LifeEntry) → i < length es
      → flat_map f es ≡ flat_map f (take i es) ++ (f (get_or es i d) ++ flat_map f (drop (suc i) es))
  flat_at f es i d h =
      let whole : es ≡ take i es ++ (get_or es i d ∷ drop (suc i) es) = sym (take-append-drop i es) ∙ ap (λ (xs : List LifeEntry). take i es ++ xs) (drop-cons es i d h) in
      ap (flat_map f) whole ∙ flat_map-append f (take i es) (get_or es i d ∷ drop (suc i) es)

  -- A page that is left is as it was.
  pub left_agree : (pages freed : List ℕ) (m0 mi : PageMap) → Replaces freed [] m0 mi → AreInMap mi pages → AgreeOn pages mi m0
  left_agree pages freed m0 mi r there = λ p named. elim (cases_Bool (names_page freed p)) [
    | inl gone ↦ let none : IsSome (mi p) = there p named in let is_none : mi p ≡ None = r.gone p gone refl in absurd cc
    | inr left ↦ sym (r.others p left refl)
  ]

  pub all_in_map : (xs ys : List ℕ) (map : PageMap) → AreInMap map xs → AreInMap map ys → AreInMap map (xs ++ ys)
  all_in_map xs ys map first rest = λ p named. elim (or_cases (names_page xs p) (names_page ys p) (sym (names_page-append xs ys p) ∙ named)) [
    | inl here ↦ first p here
    | inr there ↦ rest p there
  ]

  -- one more child is freed
  pub free_step : (level page : ℕ) (m0 mi mj : PageMap) (es : List LifeEntry) (i : ℕ) (d : LifeEntry) → i < length es
      → Replaces (page ∷ flat_map (own_pages level m0) (take i es)) [] m0 mi
      → AreInMap mi (pages_below form level mi (get_or es i d).child)
      → Replaces (pages_below form level mi (get_or es i d).child) [] mi mj
      → Replaces (page ∷ flat_map (own_pages level m0) (take (i + 1) es)) [] m0 mj
  free_step level page m0 mi mj es i d h r there call =
      let agree = left_agree (pages_below form level mi (get_or es i d).child) (page ∷ flat_map (own_pages level m0) (take i es)) m0 mi r there in
      let same : own_pages level m0 (get_or es i d) ≡ pages_below form level mi (get_or es i d).child = same_pages form level mi m0 (get_or es i d).child agree in
      let more = subst (λ (ps : List ℕ). Replaces ps [] mi mj) (sym same) call in
      let all = Replaces-beside (page ∷ flat_map (own_pages level m0) (take i es)) [] (own_pages level m0 (get_or es i d)) [] m0 mi mj r more in
      subst (λ (ps : List ℕ). Replaces (page ∷ ps) [] m0 mj) (sym (flat_more (own_pages level m0) es i d h)) all

  pub there_step : (level page : ℕ) (m0 mi : PageMap) (es : List LifeEntry) (i : ℕ) (d : LifeEntry) → i < length es
      → Replaces (page ∷ flat_map (own_pages level m0) (take i es)) [] m0 mi
      → AreInMap m0 (page ∷ flat_map (own_pages level m0) (take i es))
      → AreInMap mi (pages_below form level mi (get_or es i d).child)
      → AreInMap m0 (page ∷ flat_map (own_pages level m0) (take (i + 1) es))
  there_step level page m0 mi es i d h r before there =
      let pages : List ℕ = pages_below form level mi (get_or es i d).child in
      let agree = left_agree pages (page ∷ flat_map (own_pages level m0) (take i es)) m0 mi r there in
      let same : own_pages level m0 (get_or es i d) ≡ pages = same_pages form level mi m0 (get_or es i d).child agree in
      let mine : AreInMap m0 pages = λ p named. subst IsSome (sym (agree p named)) (there p named) in
      let all = all_in_map (page ∷ flat_map (own_pages level m0) (take i es)) (own_pages level m0 (get_or es i d)) m0 before (subst (λ (ps : List ℕ). AreInMap m0 ps) (sym same) mine) in
      subst (λ (ps : List ℕ). AreInMap m0 (page ∷ ps)) (sym (flat_more (own_pages level m0) es i d h)) all

  -- A map that lost pages names no page more often.
  flat_fewer : (level : ℕ) (m0 mi : PageMap) (p : ℕ) → ((page : ℕ) → times_named (pages_below form level mi page) p ≤ times_named (pages_below form level m0 page) p)
      → (es : List LifeEntry) → times_named (flat_map (own_pages level mi) es) p ≤ times_named (flat_map (own_pages level m0) es) p
  flat_fewer level m0 mi p fewer [] = omega arith
  flat_fewer level m0 mi p fewer (e ∷ es) =
      omega (
        arith,
        times_append (own_pages level mi e) (flat_map (own_pages level mi) es) p,
        times_append (own_pages level m0 e) (flat_map (own_pages level m0) es) p,
        fewer e.child,
        flat_fewer level m0 mi p fewer es,
      )

  pub fewer_named : (level : ℕ) (freed : List ℕ) (m0 mi : PageMap) (p page : ℕ) → Replaces freed [] m0 mi
      → times_named (pages_below form level mi page) p ≤ times_named (pages_below form level m0 page) p
  fewer_named zero freed m0 mi p page r = omega arith
  fewer_named (suc level) freed m0 mi p page r =
      let first = ap (λ (ps : List ℕ). times_named ps p) (pages-step level mi page) ∙ times_cons page (flat_map (own_pages level mi) (entries_on form mi page)) p in
      let second = ap (λ (ps : List ℕ). times_named ps p) (pages-step level m0 page) ∙ times_cons page (flat_map (own_pages level m0) (entries_on form m0 page)) p in
      elim (cases_Bool (names_page freed page)) [
        | inl gone ↦
            let none : entries_on form mi page ≡ [] = ap (λ (o : Option (List ℕ)). entries_in (option_map_or (node_in form) o no_node)) (r.gone page gone refl) in
            omega (arith, first, second, ap (λ (es : List LifeEntry). times_named (flat_map (own_pages level mi) es) p) none)
        | inr left ↦
            let same : entries_on form mi page ≡ entries_on form m0 page = ap (λ (o : Option (List ℕ)). entries_in (option_map_or (node_in form) o no_node)) (r.others page left refl) in
            omega (
              arith,
              first,
              second,
              ap (λ (es : List LifeEntry). times_named (flat_map (own_pages level mi) es) p) same,
              flat_fewer level m0 mi p (λ q. fewer_named level freed m0 mi p q r) (entries_on form m0 page),
            )
      ]

  -- A page below a child is a page below its parent.
  named_child : (level : ℕ) (map0 : PageMap) (p : ℕ) (es : List LifeEntry) (child k : ℕ) → k < length es → get_or (map (λ (e : LifeEntry). e.child) es) k child ≡ child
      → names_page (pages_below form level map0 child) p ≡ true → names_page (flat_map (own_pages level map0) es) p ≡ true
  named_child level map0 p [] child k h at named = absurd (omega (arith, h))
  named_child level map0 p (e ∷ es) child zero h at named =
      names_page-append (own_pages level map0 e) (flat_map (own_pages level map0) es) p
      ∙ or_left _ _ (ap (λ (c : ℕ). names_page (pages_below form level map0 c) p) at ∙ named)
  named_child level map0 p (e ∷ es) child (suc k) h at named =
      names_page-append (own_pages level map0 e) (flat_map (own_pages level map0) es) p
      ∙ or_right _ _ (named_child level map0 p es child k (omega (arith, h)) at named)

  -- What is damaged in a map that lost pages was damaged before, or is one of those that are lost.
  pub damage_left : (level : ℕ) (freed : List ℕ) (m0 mi : PageMap) (page damaged : ℕ) → Replaces freed [] m0 mi → IsDamagedFrom form mi level page damaged
      → IsDamagedFrom form m0 level page damaged ⊎ ((names_page freed damaged ≡ true) × (names_page (pages_below form level m0 page) damaged ≡ true))
  damage_left zero freed m0 mi page damaged r d = absurd d
  damage_left (suc level) freed m0 mi page damaged r (inl d) = elim (cases_Bool (names_page freed page)) [
    | inl gone ↦ inr (
      subst (λ (q : ℕ). names_page freed q ≡ true) (sym d.0) gone,
      ap (λ (ps : List ℕ). names_page ps damaged) (pages-step level m0 page) ∙ or_left (page == damaged) _ (eq-eqb page damaged (sym d.0)),
    )
    | inr left ↦ inl (inl (d.0, λ node bytes there. d.1 node bytes (r.others page left refl ∙ there)))
  ]
  damage_left (suc level) freed m0 mi page damaged r (inr (inl d)) = absurd d.4
  damage_left (suc level) freed m0 mi page damaged r (inr (inr d)) =
      let left : names_page freed page ≡ false = elim (cases_Bool (names_page freed page)) [
        | inl gone ↦ absurd (none_some (sym (r.gone page gone refl) ∙ d.4))
        | inr left ↦ left
      ] in
      let there : m0 page ≡ Some d.1 = sym (r.others page left refl) ∙ d.4 in
      let entries : entries_on form m0 page ≡ entries_in d.0 = ap entries_in (node_on-fits form m0 page (suc level) d.0 d.1 there d.5) in
      elim (damage_left level freed m0 mi d.2 damaged r d.7) [
        | inl below ↦ inl (inr (inr (d.0, d.1, d.2, d.3, there, d.5, d.6, below)))
        | inr both ↦ inr (
          both.0,
          ap (λ (ps : List ℕ). names_page ps damaged) (pages-step level m0 page)
              ∙ or_right (page == damaged) _ (named_child level m0 damaged (entries_on form m0 page) d.2 d.6.0
              (subst (λ (es : List LifeEntry). d.6.0 < length es) (sym entries) (omega (arith, d.6.1, length-map (entries_in d.0) (λ (e : LifeEntry). e.child))))
              (ap (λ (es : List LifeEntry). get_or (map (λ (e : LifeEntry). e.child) es) d.6.0 d.2) entries ∙ d.6.2) both.1),
        )
      ]

  pub damaged_child : (level : ℕ) (m0 mi : PageMap) (page damaged : ℕ) (node : LifeNode) (bytes : List ℕ) (es : List LifeEntry) (i : ℕ) (d : LifeEntry) → 1 ≤ level
      → m0 page ≡ Some bytes → FitsLevel form level node bytes → es ≡ entries_in node → i < length es
      → Replaces (page ∷ flat_map (own_pages (level - 1) m0) (take i es)) [] m0 mi
      → IsDamagedFrom form mi (level - 1) (get_or es i d).child damaged ⊎ IsNamedTwice (pages_below form (level - 1) mi (get_or es i d).child) damaged
      → IsDamagedFrom form m0 level page damaged ⊎ IsNamedTwice (pages_below form level m0 page) damaged
  damaged_child zero m0 mi page damaged node bytes es i d some there fits same h r call = absurd (omega (arith, some))
  damaged_child (suc level) m0 mi page damaged node bytes es i d some there fits same h r call =
      let less : suc level - 1 ≡ level = omega arith in
      let c : ℕ = (get_or es i d).child in
      let r1 = subst (λ (l : ℕ). Replaces (page ∷ flat_map (own_pages l m0) (take i es)) [] m0 mi) less r in
      let call1 = subst (λ (l : ℕ). IsDamagedFrom form mi l c damaged ⊎ IsNamedTwice (pages_below form l mi c) damaged) less call in
      let f : LifeEntry → List ℕ = own_pages level m0 in
      let freed : List ℕ = page ∷ flat_map f (take i es) in
      let bound : i < length (map (λ (e : LifeEntry). e.child) (entries_in node)) = subst (λ (xs : List LifeEntry). i < length (map (λ (e : LifeEntry). e.child) xs)) same (omega (arith, h, length-map es (λ (e : LifeEntry). e.child))) in
      let at : get_or (map (λ (e : LifeEntry). e.child) (entries_in node)) i c ≡ c = ap (λ (xs : List LifeEntry). get_or (map (λ (e : LifeEntry). e.child) xs) i c) (sym same)
      ∙ get_or_default (map (λ (e : LifeEntry). e.child) es) i c d.child (omega (arith, h, length-map es (λ (e : LifeEntry). e.child))) ∙ get_or-map (λ (e : LifeEntry). e.child) es i d in
      let whole : pages_below form (suc level) m0 page ≡ freed ++ (f (get_or es i d) ++ flat_map f (drop (suc i) es)) =
      pages-step level m0 page ∙ ap (λ (xs : List LifeEntry). page ∷ flat_map f xs) (ap entries_in (node_on-fits form m0 page (suc level) node bytes there fits) ∙ sym same) ∙ ap (λ (ps : List ℕ). page ∷ ps) (flat_at f es i d h) in
      let times : times_named (pages_below form (suc level) m0 page) damaged ≡ times_named freed damaged + (times_named (f (get_or es i d)) damaged + times_named (flat_map f (drop (suc i) es)) damaged) =
      ap (λ (ps : List ℕ). times_named ps damaged) whole ∙ times_append freed (f (get_or es i d) ++ flat_map f (drop (suc i) es)) damaged
      ∙ ap (λ (n : ℕ). times_named freed damaged + n) (times_append (f (get_or es i d)) (flat_map f (drop (suc i) es)) damaged) in
      elim call1 [
        | inl inside ↦ elim (damage_left level freed m0 mi c damaged r1 inside) [
          | inl below ↦ inl (inr (inr (node, bytes, c, tt, there, fits, (i, bound, at), below)))
          | inr both ↦ inr (omega (arith, times, named_once freed damaged both.0, named_once (f (get_or es i d)) damaged both.1))
        ]
        | inr twice ↦ inr (omega (arith, times, twice, fewer_named level freed m0 mi damaged c r1))
      ]

  pub damaged_itself : (level : ℕ) (pages : PageMap) (page damaged : ℕ) → 1 ≤ level → damaged ≡ page
      → ((node : LifeNode) (bytes : List ℕ) → pages page ≡ Some bytes → FitsLevel form level node bytes → ⊥) → IsDamagedFrom form pages level page damaged
  damaged_itself zero pages page damaged some same none = absurd (omega (arith, some))
  damaged_itself (suc level) pages page damaged some same none = inl (same, none)

  -- Where the table stands, no page of it is damaged.
  each_nth : (stands : LifeEntry → ℕ → Type 0) (es : List LifeEntry) (high child k : ℕ) → k < length es → get_or (map (λ (e : LifeEntry). e.child) es) k child ≡ child
      → EachStands stands es high → (e : LifeEntry) × (to : ℕ) × (e.child ≡ child) × stands e to
  each_nth stands [] high child k h at each = absurd (omega (arith, h))
  each_nth stands (e ∷ es) high child zero h at each = (e, first_low es high, at, each.0)
  each_nth stands (e ∷ es) high child (suc k) h at each = each_nth stands es high child k (omega (arith, h)) at each.1

  pub undamaged_inside : (level : ℕ) (pages : PageMap) (page low high least damaged : ℕ) → StandsBelow form level pages page low high least → IsDamagedFrom form pages level page damaged → ⊥
  undamaged_inside zero pages page low high least damaged s d = d
  undamaged_inside (suc zero) pages page low high least damaged s (inl d) = d.1 (node_on form pages page) s.node.bytes s.node.there s.node.fits
  undamaged_inside (suc zero) pages page low high least damaged s (inr (inl d)) = d.4
  undamaged_inside (suc zero) pages page low high least damaged s (inr (inr d)) = d.7
  undamaged_inside (suc (suc level)) pages page low high least damaged s (inl d) = d.1 (node_on form pages page) s.0.node.bytes s.0.node.there s.0.node.fits
  undamaged_inside (suc (suc level)) pages page low high least damaged s (inr (inl d)) = d.4
  undamaged_inside (suc (suc level)) pages page low high least damaged s (inr (inr d)) =
      let same : node_on form pages page ≡ d.0 = node_on-fits form pages page (suc (suc level)) d.0 d.1 d.4 d.5 in
      let at = each_nth (ChildStands form (suc level) pages) (entries_on form pages page) high d.2 d.6.0
      (subst (λ (n : LifeNode). d.6.0 < length (entries_in n)) (sym same) (omega (arith, d.6.1, length-map (entries_in d.0) (λ (e : LifeEntry). e.child))))
      (ap (λ (n : LifeNode). get_or (map (λ (e : LifeEntry). e.child) (entries_in n)) d.6.0 d.2) same ∙ d.6.2) s.1 in
      undamaged_inside (suc level) pages d.2 (low_key at.0) at.1 (fewest form (suc level)) damaged
      (subst (λ (c : ℕ). StandsBelow form (suc level) pages c (low_key at.0) at.1 (fewest form (suc level))) at.2 at.3.0) d.7

  root_undamaged_inside : (levels : ℕ) (pages : PageMap) (root damaged : ℕ) → RootStands form levels pages root → IsDamagedFrom form pages levels root damaged → ⊥
  root_undamaged_inside zero pages root damaged s d = d
  root_undamaged_inside (suc level) pages root damaged s d = undamaged_inside (suc level) pages root 0 key_end 1 damaged s d

  pub undamaged_for_free : (pages : PageMap) (table : Tree) (lives : List Dated) (damaged : ℕ) → TableStands form pages table lives → IsDamagedForFree form pages table damaged → ⊥
  undamaged_for_free pages table lives damaged s (inl d) = root_undamaged_inside table.levels pages table.root damaged s.nodes d
  undamaged_for_free pages table lives damaged s (inr twice) = absurd (omega (arith, twice, not_twice (table_pages form pages table) damaged s.once))
