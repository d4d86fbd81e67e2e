-- The nodes grow, and then the directory changes beside them.
use Rattle.std.proofs.Common.{◌≡◌, ◌≢◌, ℕ, ◌+◌, ◌%◌, ◌^◌, ◌<◌, ◌≤◌, ◌==◌, ◌||◌, inl, inr, true, false, Bool, IsTrue, List, [], ◌∷◌, ◌++◌, length, None, IsSome, if◌then◌else◌, slice_index_or, refl, sym, ap, ◌∙◌, subst, arith, lit≤}
use Rattle.std.specs.List.{All}
use Rattle.std.proofs.lemmas.Bool.{cases_Bool, cases_lt, cond-false, ne_eqb, true≢false}
use Rattle.bw_types.specs.declared.point.Point.{Point}
use Rattle.bw_types.specs.declared.tree.Tree.{Tree}
use Rattle.ports.specs.Pages.{PageMap}
use Rattle.ports.specs.Frame.{names_page, AgreeOn, AreApart, AreInMap, Replaces}
use Rattle.ports.specs.FrameLaws.{names_page-append, Replaces-agree, Replaces-apart, Replaces-beside, Replaces-by_names}
use Rattle.page_layout.specs.Footprint.{NamesNoneTwice}
use Rattle.page_layout.specs.FootprintLaws.{apart_append, apart_sym, once_apart, once_join, once_right}
use Rattle.page_layout.specs.declared.mv_node.MvNode.{MvNode}
use Rattle.sb_tree.specs.Laws as over_versions_laws
use Rattle.sb_tree.specs.Stands.{SbStands}
use Rattle.sb_tree.specs.Steps as over_versions
use Rattle.mvsb_tree.specs.Grown.{EntriesHold, PastStays}
use Rattle.mvsb_tree.specs.Led.{Led}
use Rattle.mvsb_tree.specs.Stands.{ChainStands, IsBalanced, MvStands, StandsOnWay, has_come, is_marked}
use Rattle.mvsb_tree.specs.Steps.{chain_from, directory, node_on, node_pages, place_count, root_at, root_level, total_below, tree_pages}
use Rattle.mvsb_tree.specs.Tops.{RootAdded}
use Rattle.mvsb_tree.specs.Ways.{added_at}
use Rattle.mvsb_tree.proofs.Chains.{chain_stands, chain_there, same_chain, same_node}
use Rattle.mvsb_tree.proofs.Frames.{way_stands, way_total}
use Rattle.mvsb_tree.proofs.Growing.{named_second, once_together}
use Rattle.mvsb_tree.proofs.Landing.{place_is}
use Rattle.mvsb_tree.proofs.Sound.{root_spelled}
use Rattle.mvsb_tree.proofs.Whole.{DirectoryAdded, NodesAdded, come_early, come_with, level_stays, sum_stays}
use Rattle.mvsb_tree.proofs.Counting.{SameLeads, high_root}
use Rattle.bw_types.specs.Digits.{digit_count}
use Rattle.bw_types.specs.DigitLaws.{digits_grow, powers_have_digits}
use Rattle.sb_tree.specs.Stands as over_versions_stands

none_some : (o : Rattle.std.specs.Prelude.Option (List ℕ)) → o ≡ None → IsSome o → ⊥
none_some o none some = (let h : IsSome {T = List ℕ} None = subst IsSome none some in cc)

names_swap : (xs ys : List ℕ) (p : ℕ) → names_page (xs ++ ys) p ≡ names_page (ys ++ xs) p
names_swap xs ys p = names_page-append xs ys p ∙ or_swap (names_page xs p) (names_page ys p) ∙ sym (names_page-append ys xs p)
  where
    or_swap : (a b : Bool) → (a || b) ≡ (b || a)
    or_swap true true = refl
    or_swap true false = refl
    or_swap false true = refl
    or_swap false false = refl

module _ (m0 m1 : PageMap) (old : Tree) (points : List Point) (p : Point) (key v value root top last : ℕ) (s : MvStands m0 old points)
    (all_there : over_versions_laws.PagesAreThere) (by_pages : over_versions_laws.StandsByItsPages)
    (r : RootAdded (is_marked (p ∷ points)) m0 m1 root top v key value (place_count m0 old) old.last last) where
  abbrev dir_before : List ℕ
  dir_before = over_versions.tree_pages m0 (directory old)

  abbrev nodes_before : List ℕ
  nodes_before = chain_from (place_count m0 old) m0 old.last

  abbrev nodes_between : List ℕ
  nodes_between = chain_from r.new_places m1 last

  dir_present : AreInMap m0 dir_before
  dir_present = all_there m0 (directory old) s.changes s.roots

  nodes_there : AreInMap m0 nodes_before
  nodes_there = chain_there (place_count m0 old) m0 old.last s.chain

  -- The nodes' pages, old and new, are apart from the directory's.
  new_apart : AreApart r.grown.new dir_before
  new_apart page named = elim (cases_Bool (names_page dir_before page)) [
    | inl both ↦ absurd (none_some (m0 page) (r.grown.fresh page named) (dir_present page both))
    | inr other ↦ other
  ]

  between_apart : AreApart nodes_between dir_before
  between_apart = subst (λ (xs : List ℕ). AreApart xs dir_before) (sym r.grown.chain) (apart_append r.grown.new nodes_before dir_before new_apart (apart_sym dir_before nodes_before (once_apart dir_before nodes_before s.once)))

  dir_agree : AgreeOn dir_before m0 m1
  dir_agree = Replaces-agree dir_before nodes_before nodes_between m0 m1 r.grown.replaces dir_present (once_apart dir_before nodes_before s.once)

  pub dir_moved : SbStands m1 (directory old) s.changes × (over_versions.tree_pages m1 (directory old) ≡ dir_before)
  dir_moved = by_pages m0 m1 (directory old) s.changes s.roots dir_agree

module _ (m0 m1 m2 : PageMap) (old new : Tree) (points : List Point) (p : Point) (key v value root top last : ℕ) (s : MvStands m0 old points)
    (all_there : over_versions_laws.PagesAreThere) (by_pages : over_versions_laws.StandsByItsPages)
    (past : All (λ q. q.version ≤ v) points) (version_is : p.version ≡ v) (version_fits : v < 2 ^ 32)
    (root_is : root ≡ root_at m0 old v) (three : 3 ≤ top)
    (r : RootAdded (is_marked (p ∷ points)) m0 m1 root top v key value (place_count m0 old) old.last last)
    (roots : Tree) (led_from : (changes : List Point) → SbStands m1 (directory old) changes → Led m1 m2 (directory old) roots changes v root top)
    (new_roots : directory new ≡ roots) (new_last : new.last ≡ last) (no_root : old.levels ≡ 0 → root ≡ 0) where
  abbrev dir0 : List ℕ
  dir0 = over_versions.tree_pages m0 (directory old)

  abbrev chain0 : List ℕ
  chain0 = chain_from (place_count m0 old) m0 old.last

  abbrev chain1 : List ℕ
  chain1 = chain_from r.new_places m1 last

  abbrev dir2 : List ℕ
  dir2 = over_versions.tree_pages m2 (directory new)

  chain0_there : AreInMap m0 chain0
  chain0_there = chain_there (place_count m0 old) m0 old.last s.chain

  chain1_apart : AreApart chain1 dir0
  chain1_apart = between_apart m0 m1 old points p key v value root top last s all_there by_pages r

  pub moved : SbStands m1 (directory old) s.changes × (over_versions.tree_pages m1 (directory old) ≡ dir0)
  moved = dir_moved m0 m1 old points p key v value root top last s all_there by_pages r

  led : Led m1 m2 (directory old) roots s.changes v root top
  led = led_from s.changes moved.0

  pub new_levels : new.levels ≢ 0
  new_levels none = led.some (λ no_levels same. omega (arith, three, same, no_root no_levels)) (sym (ap (λ (t : Tree). t.levels) new_roots) ∙ none)

  pub dir_change : Replaces dir0 dir2 m1 m2
  dir_change = subst (λ (t : Tree). Replaces dir0 (over_versions.tree_pages m2 t) m1 m2) (sym new_roots)
      (subst (λ (xs : List ℕ). Replaces xs (over_versions.tree_pages m2 roots) m1 m2) moved.1 led.replaces)

  chain1_there : AreInMap m1 chain1
  chain1_there = chain_there r.new_places m1 last r.grown.stands

  chain_agree : AgreeOn chain1 m1 m2
  chain_agree = Replaces-agree chain1 dir0 dir2 m1 m2 dir_change chain1_there chain1_apart

  chain2_same : chain_from r.new_places m2 last ≡ chain1
  chain2_same = same_chain r.new_places m1 m2 last chain_agree

  top_named : names_page chain1 top ≡ true
  top_named = (root_spelled (root_level m1 top) m1 chain1 top v 0 0 None 1 (r.ways 0 (omega arith))).listed

  places_is : place_count m2 new ≡ r.new_places
  places_is =
      let stands2 : ChainStands r.new_places m2 last = chain_stands r.new_places m1 m2 last chain_agree r.grown.stands in
      let told : r.new_places ≡ (node_on m2 last).place = place_is r.new_places m2 last top stands2 (ap (λ (xs : List ℕ). names_page xs top) chain2_same ∙ top_named) in
      cond-false (new.levels == 0) 0 (node_on m2 new.last).place (ne_eqb new.levels 0 new_levels) ∙ ap (λ (q : ℕ). (node_on m2 q).place) new_last ∙ sym told

  nodes_are : node_pages m2 new ≡ chain1
  nodes_are = ap (λ (n : ℕ). chain_from n m2 new.last) places_is ∙ ap (λ (q : ℕ). chain_from r.new_places m2 q) new_last ∙ chain2_same

  pub chain_stands2 : ChainStands (place_count m2 new) m2 new.last
  chain_stands2 = subst (λ (n : ℕ). ChainStands n m2 new.last) (sym places_is)
      (subst (λ (q : ℕ). ChainStands r.new_places m2 q) (sym new_last) (chain_stands r.new_places m1 m2 last chain_agree r.grown.stands))

  some_pages : (n : ℕ) → names_page (chain_from n m1 last) top ≡ true → 1 ≤ n
  some_pages Rattle.std.specs.Prelude.zero named = absurd (true≢false (sym named))
  some_pages (Rattle.std.specs.Prelude.suc n) named = omega arith

  pub some_places : 1 ≤ place_count m2 new
  some_places = subst (λ (n : ℕ). 1 ≤ n) (sym places_is) (some_pages r.new_places top_named)

  pub change_whole : Replaces (tree_pages m0 old) (tree_pages m2 new) m0 m2
  change_whole =
      let both = Replaces-beside chain0 chain1 dir0 dir2 m0 m1 m2 r.grown.replaces dir_change in
      let swapped = Replaces-by_names (chain0 ++ dir0) (chain1 ++ dir2) (dir0 ++ chain0) (dir2 ++ chain1) m0 m2 (names_swap dir0 chain0) (names_swap dir2 chain1) both in
      subst (λ (xs : List ℕ). Replaces (dir0 ++ chain0) (dir2 ++ xs) m0 m2) (sym nodes_are) swapped

  pub once_whole : NamesNoneTwice (tree_pages m2 new)
  once_whole =
      let dir_once : NamesNoneTwice dir2 = subst (λ (t : Tree). NamesNoneTwice (over_versions.tree_pages m2 t)) (sym new_roots) led.stands.once in
      let fresh_apart : (page : ℕ) → names_page r.grown.new page ≡ true → names_page chain0 page ≡ false = λ page named. elim (cases_Bool (names_page chain0 page)) [
        | inl both ↦ absurd (none_some (m0 page) (r.grown.fresh page named) (chain0_there page both))
        | inr other ↦ other
      ] in
      let nodes_once : NamesNoneTwice chain1 = subst NamesNoneTwice (sym r.grown.chain) (once_together r.grown.new chain0 r.grown.once (once_right dir0 chain0 s.once) fresh_apart) in
      let apart : AreApart chain1 dir2 = Replaces-apart chain1 dir0 dir2 m1 m2 dir_change chain1_there chain1_apart in
      subst (λ (xs : List ℕ). NamesNoneTwice (dir2 ++ xs)) (sym nodes_are) (once_join dir2 chain1 dir_once nodes_once (apart_sym chain1 dir2 apart))

  node_same : (page : ℕ) → names_page chain1 page ≡ true → node_on m2 page ≡ node_on m1 page
  node_same page named = same_node m1 m2 page (chain_agree page named)

  top_level : root_level m2 top ≡ root_level m1 top
  top_level = ap (λ (n : MvNode). if top == 0 then 0 else n.level) (node_same top top_named)

  pub nodes_added : NodesAdded (is_marked (p ∷ points)) m0 m2 (root_at m0 old v) top v key value (node_pages m0 old) (node_pages m2 new)
  nodes_added = subst (λ (xs : List ℕ). NodesAdded (is_marked (p ∷ points)) m0 m2 (root_at m0 old v) top v key value chain0 xs) (sym nodes_are) (record {
    hold = λ page named. subst (EntriesHold v (is_marked (p ∷ points))) (sym (node_same page named)) (r.grown.hold page named);
    listed = λ page named. named_second r.grown.new chain0 chain1 page r.grown.chain named;
    past = λ page named. subst (PastStays v (node_on m0 page)) (sym (node_same page (named_second r.grown.new chain0 chain1 page r.grown.chain named))) (r.grown.past page named);
    ways = λ q fits. subst (λ (l : ℕ). StandsOnWay l m2 chain1 top v q 0 None 1) (sym top_level) (way_stands (root_level m1 top) m1 m2 chain1 top v q 0 None 1 chain_agree (r.ways q fits));
    totals = λ q fits.
        ap (λ (l : ℕ). total_below l m2 top q v % 2 ^ 128) top_level
        ∙ ap (λ (n : ℕ). n % 2 ^ 128) (way_total (root_level m1 top) m1 m2 chain1 top v q 0 None 1 chain_agree (r.ways q fits)) ∙ r.totals q fits
        ∙ ap (λ (x : ℕ). (total_below (root_level m0 x) m0 x q v + added_at key value q) % 2 ^ 128) root_is;
  })

  changes_past : All (λ c. c.version ≤ v) s.changes
  changes_past = λ k d h. come_early points v (slice_index_or s.changes k d).version past (s.changes_past k d h)

  root_stays : (w : ℕ) → v ≤ w → w < 2 ^ 32 → root_at m0 old w ≡ root_at m0 old v
  root_stays w late fits = s.roots.values w fits ∙ ap (λ (n : ℕ). n % 2 ^ 128) (sum_stays 0 s.changes [] v w changes_past late) ∙ sym (s.roots.values v version_fits)

  middle_root : (w : ℕ) → w < 2 ^ 32 → over_versions.tree_value m1 (directory old) w ≡ root_at m0 old w
  middle_root w fits = moved.0.values w fits ∙ sym (s.roots.values w fits)

  come_more : (w : ℕ) → IsTrue (has_come points w) → IsTrue (has_come (p ∷ points) w)
  come_more w come = come_with points p v w version_is (come_early points v w past come)

  pub directory_added : DirectoryAdded m0 m2 old new (p ∷ points) v top
  directory_added = record {
    changes = led.changes_after;
    stands = subst (λ (t : Tree). SbStands m2 t led.changes_after) (sym new_roots) led.stands;
    come = led.versions (has_come (p ∷ points)) (come_with points p v v version_is (omega arith)) (λ k d h. come_more (slice_index_or s.changes k d).version (s.changes_past k d h));
    early = λ w less. ap (λ (t : Tree). over_versions.tree_value m2 t w) new_roots ∙ led.early w less ∙ middle_root w (omega (arith, less, version_fits));
    late = λ w late fits. ap (λ (t : Tree). over_versions.tree_value m2 t w) new_roots ∙ led.late w late fits (middle_root w fits ∙ root_stays w late fits ∙ sym root_is);
  }

  -- The root is no higher than the count of points allows.
  height_fits : SameLeads → IsBalanced m0 old → root_level m1 top ≤ digit_count 24 (old.count + 1)
  height_fits same b =
      let low : root_level m0 root ≤ digit_count 24 old.count = subst (λ (x : ℕ). root_level m0 x ≤ digit_count 24 old.count) (sym root_is) (b.roots v version_fits) in
      let more : digit_count 24 old.count ≤ digit_count 24 (old.count + 1) = digits_grow 24 old.count (old.count + 1) (lit≤ tt) (omega arith) in
      let count : old.count + 1 ≡ length (p ∷ points) = omega (arith, s.count) in
      elim r.height [
        | inl same_level ↦ omega (arith, same_level, low, more)
        | inr (inl one) ↦
            let power : 24 ^ 0 ≡ 1 = refl in
            let digits = powers_have_digits 24 0 (old.count + 1) (lit≤ tt) (omega (arith, power)) in
            omega (arith, one, digits)
        | inr (inr higher) ↦
            let is : root_level m1 top ≡ Rattle.std.specs.Prelude.suc (root_level m0 root) = omega (arith, higher.0) in
            let digits = high_root m1 chain1 v (p ∷ points) top (root_level m0 root) same r.grown.hold (λ q fits. subst (λ (l : ℕ). StandsOnWay l m1 chain1 top v q 0 None 1) is (r.ways q fits)) higher.1 in
            subst (λ (n : ℕ). root_level m1 top ≤ digit_count 24 n) (sym count) (omega (arith, is, digits))
      ]

  pub balanced_whole : SameLeads → IsBalanced m0 old → over_versions_stands.IsBalanced (directory new) → new.count ≡ old.count + 1 → new.changes ≤ old.changes + 1 → IsBalanced m2 new
  balanced_whole same b dir count changes =
      let d = directory_added in
      let a = nodes_added in
      let more : digit_count 24 old.count ≤ digit_count 24 (old.count + 1) = digits_grow 24 old.count (old.count + 1) (lit≤ tt) (omega arith) in
      record {
        changes = omega (arith, count, changes, b.changes);
        directory = dir;
        roots = λ w fits. subst (λ (n : ℕ). root_level m2 (root_at m2 new w) ≤ digit_count 24 n) (sym count) (elim (cases_lt w v) [
          | inl less ↦
              let level = level_stays m0 m2 chain0 (root_at m0 old w) w 0 v a.past (s.nodes 0 w (omega arith) fits) in
              let at = ap (λ (x : ℕ). root_level m2 x) (d.early w less) in
              let low = b.roots w fits in
              omega (arith, at, level, low, more)
          | inr late ↦
              let at = ap (λ (x : ℕ). root_level m2 x) (d.late w late fits) in
              omega (arith, at, top_level, height_fits same b)
        ]);
      }
