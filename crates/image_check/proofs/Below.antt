-- What the nodes that were read say of the part below them.
use Rattle.std.proofs.Common.{◌≡◌, Bool, not, ℕ, zero, suc, ◌+◌, ◌-◌, ◌<◌, ◌≤◌, List, [], ◌∷◌, ◌++◌, true, false, length, get_or, take, drop, Some, refl, sym, ap, ◌∙◌, subst, arith, drop-cons, length-drop}
use Rattle.std.proofs.lemmas.List.{take-append-drop, take_more, take_all, drop_all, get_or_default}
use Rattle.std.proofs.Math.Seq.{drop-append_seam}
use Rattle.std.proofs.lemmas.List.Concat.{flat_map-append}
use Rattle.bw_types.specs.declared.dated.Dated.{Dated}
use Rattle.ports.specs.Frame.{names_page, AreApart}
use Rattle.ports.specs.Pages.{PageMap}
use Rattle.page_layout.specs.Footprint.{NamesNoneTwice}
use Rattle.page_layout.specs.FootprintLaws.{flat_more, once_left, apart_parts, apart_sym}
use Rattle.page_layout.specs.declared.life_node.LifeNode.{LifeNode}
use Rattle.page_layout.specs.declared.life_node.LifeEntry.{LifeEntry}
use Rattle.object_table.specs.declared.form.Form.{Form}
use Rattle.object_table.specs.Keys.{low_key}
use Rattle.object_table.specs.Lives.{lives_below, pages_below}
use Rattle.object_table.specs.Nodes.{FitsLevel, node_on, objects_in, entries_in, objects_on, entries_on}
use Rattle.object_table.specs.Stands.{NodeStands, KeepsItsLow, StandsBelow, fewest, first_low}
use Rattle.object_table.proofs.Nodes.{node_on-fits}
use Rattle.object_table.proofs.Order.{EachStands-join, EachStands-path}
use Rattle.image_check.specs.Keeping.{LeafKeeps, IndexKeeps}
use Rattle.image_check.specs.Passing.{CanPass, Passed, SeesOwn}
use Rattle.image_check.specs.Reading.{EntryStands, EntriesStand, entry_lives, entry_pages}
use Rattle.image_check.proofs.Passing.{can_rest, page_passes, passed_more, sees_more, sees_first}

apart_front : (xs ys zs : List ℕ) → AreApart xs (ys ++ zs) → AreApart xs ys
apart_front xs ys zs apart = apart_sym ys xs (apart_parts ys zs xs (apart_sym xs (ys ++ zs) apart)).0

-- a page that was added was not seen
pub not_seen : (added named : Bool) → added ≡ not named → added ≡ true → named ≡ false
not_seen added true e f = let no : false ≡ true = sym e ∙ f in absurd cc
not_seen added false e f = refl

-- the same of other values
pub moved : (P : PageMap → ℕ → ℕ → ℕ → Type 0) (m n : PageMap) (a b c x y z : ℕ) → m ≡ n → a ≡ x → b ≡ y → c ≡ z → P m a b c → P n x y z
moved P m n a b c x y z map low high least p =
    subst (λ (w : ℕ). P n x y w) least (subst (λ (w : ℕ). P n x w c) high (subst (λ (w : ℕ). P n w b c) low (subst (λ (w : PageMap). P w a b c) map p)))

-- an element by its place
pub is_entry : (es : List LifeEntry) (i : ℕ) (d : LifeEntry) → i < length es → get_or es i d ≡ get_or es i (get_or es i d)
is_entry es i d lt = get_or_default es i d (get_or es i d) lt

-- all that is left is taken
pub whole_rest : {X : Type 0} (xs : List X) (k : ℕ) → take (length xs - k) (drop k xs) ≡ drop k xs
whole_rest xs k = take_all (length xs - k) (drop k xs) (omega (arith, length-drop k xs))

-- what was put behind the others
pub put_behind : (before told now part : List Dated) (n : ℕ) → now ≡ before ++ told → n ≡ length before → part ≡ drop n now → part ≡ told
put_behind before told now part n all from is =
    is ∙ ap (λ (k : ℕ). drop k now) from ∙ ap (λ (ds : List Dated). drop (length before) ds) all ∙ drop-append_seam before told

module _ (form : Form) (pages : PageMap) where
  -- a page that spells no node of the level
  pub no_node_stands : (level page low high least : ℕ) → ((node : LifeNode) (bytes : List ℕ) → pages page ≡ Some bytes → FitsLevel form level node bytes → ⊥) → StandsBelow form level pages page low high least → ⊥
  no_node_stands zero page low high least none s = s
  no_node_stands (suc zero) page low high least none s = none (node_on form pages page) s.node.bytes s.node.there s.node.fits
  no_node_stands (suc (suc level)) page low high least none s = none (node_on form pages page) s.0.node.bytes s.0.node.there s.0.node.fits

  -- the page that was read
  pub node_stands : (level page : ℕ) (node : LifeNode) (bytes : List ℕ) → pages page ≡ Some bytes → FitsLevel form level node bytes → NodeStands form pages level page
  node_stands level page node bytes there fits = record {
    bytes = bytes;
    there = there;
    fits = subst (λ (n : LifeNode). FitsLevel form level n bytes) (sym (node_on-fits form pages page level node bytes there fits)) fits;
  }

  -- a leaf
  pub leaf_stands : (level page low high least : ℕ) (node : LifeNode) (bytes : List ℕ) → level ≡ 1 → pages page ≡ Some bytes → FitsLevel form level node bytes
      → LeafKeeps (objects_in node) low high least → StandsBelow form level pages page low high least
  leaf_stands zero page low high least node bytes one there fits keeps = absurd (omega (arith, one))
  leaf_stands (suc zero) page low high least node bytes one there fits keeps =
      let same : objects_in node ≡ objects_on form pages page = ap objects_in (sym (node_on-fits form pages page 1 node bytes there fits)) in
      let kept : LeafKeeps (objects_on form pages page) low high least = subst (λ (ds : List Dated). LeafKeeps ds low high least) same keeps in
      record { node = node_stands 1 page node bytes there fits; from = kept.from; ends = kept.ends; filled = kept.filled }
  leaf_stands (suc (suc level)) page low high least node bytes one there fits keeps = absurd (omega (arith, one))

  pub leaf_keeps_to : (level page low high least : ℕ) (node : LifeNode) (bytes : List ℕ) → level ≡ 1 → pages page ≡ Some bytes → FitsLevel form level node bytes
      → StandsBelow form level pages page low high least → LeafKeeps (objects_in node) low high least
  leaf_keeps_to zero page low high least node bytes one there fits s = absurd s
  leaf_keeps_to (suc zero) page low high least node bytes one there fits s =
      let same : objects_on form pages page ≡ objects_in node = ap objects_in (node_on-fits form pages page 1 node bytes there fits) in
      subst (λ (ds : List Dated). LeafKeeps ds low high least) same (record { filled = s.filled; from = s.from; ends = s.ends })
  leaf_keeps_to (suc (suc level)) page low high least node bytes one there fits s = absurd (omega (arith, one))

  pub leaf_lives : (level page : ℕ) (node : LifeNode) (bytes : List ℕ) → level ≡ 1 → pages page ≡ Some bytes → FitsLevel form level node bytes → objects_in node ≡ lives_below form level pages page
  leaf_lives level page node bytes one there fits =
      ap objects_in (sym (node_on-fits form pages page level node bytes there fits)) ∙ ap (λ (n : ℕ). lives_below form n pages page) (sym one)

  pub leaf_pages : (level page : ℕ) → level ≡ 1 → pages_below form level pages page ≡ page ∷ []
  leaf_pages level page one = ap (λ (n : ℕ). pages_below form n pages page) one

  -- an index node
  pub index_stands : (level page low high least : ℕ) (node : LifeNode) (bytes : List ℕ) → 2 ≤ level → pages page ≡ Some bytes → FitsLevel form level node bytes
      → IndexKeeps (entries_in node) low high least → EntriesStand form (level - 1) pages (entries_in node) high → StandsBelow form level pages page low high least
  index_stands zero page low high least node bytes some there fits keeps each = absurd (omega (arith, some))
  index_stands (suc zero) page low high least node bytes some there fits keeps each = absurd (omega (arith, some))
  index_stands (suc (suc level)) page low high least node bytes some there fits keeps each =
      let same : entries_in node ≡ entries_on form pages page = ap entries_in (sym (node_on-fits form pages page (suc (suc level)) node bytes there fits)) in
      let less : suc (suc level) - 1 ≡ suc level = omega arith in
      let kept : IndexKeeps (entries_on form pages page) low high least = subst (λ (es : List LifeEntry). IndexKeeps es low high least) same keeps in
      let below : EntriesStand form (suc level) pages (entries_on form pages page) high =
      subst (λ (es : List LifeEntry). EntriesStand form (suc level) pages es high) same (subst (λ (l : ℕ). EntriesStand form l pages (entries_in node) high) less each) in
      (record { node = node_stands (suc (suc level)) page node bytes there fits; begins = kept.begins; ends = kept.ends; filled = kept.filled }, below)

  pub index_keeps_to : (level page low high least : ℕ) (node : LifeNode) (bytes : List ℕ) → 2 ≤ level → pages page ≡ Some bytes → FitsLevel form level node bytes
      → StandsBelow form level pages page low high least → IndexKeeps (entries_in node) low high least × EntriesStand form (level - 1) pages (entries_in node) high
  index_keeps_to zero page low high least node bytes some there fits s = absurd s
  index_keeps_to (suc zero) page low high least node bytes some there fits s = absurd (omega (arith, some))
  index_keeps_to (suc (suc level)) page low high least node bytes some there fits s =
      let same : entries_on form pages page ≡ entries_in node = ap entries_in (node_on-fits form pages page (suc (suc level)) node bytes there fits) in
      let less : suc level ≡ suc (suc level) - 1 = omega arith in (
        subst (λ (es : List LifeEntry). IndexKeeps es low high least) same (record { filled = s.0.filled; begins = s.0.begins; ends = s.0.ends }),
        subst (λ (l : ℕ). EntriesStand form l pages (entries_in node) high) less (subst (λ (es : List LifeEntry). EntriesStand form (suc level) pages es high) same s.1),
      )

  pub index_lives : (level page : ℕ) (node : LifeNode) (bytes : List ℕ) → 2 ≤ level → pages page ≡ Some bytes → FitsLevel form level node bytes
      → entry_lives form (level - 1) pages (entries_in node) ≡ lives_below form level pages page
  index_lives zero page node bytes some there fits = absurd (omega (arith, some))
  index_lives (suc zero) page node bytes some there fits = absurd (omega (arith, some))
  index_lives (suc (suc level)) page node bytes some there fits =
      let less : suc (suc level) - 1 ≡ suc level = omega arith in
      ap (λ (l : ℕ). entry_lives form l pages (entries_in node)) less
      ∙ ap (λ (n : LifeNode). entry_lives form (suc level) pages (entries_in n)) (sym (node_on-fits form pages page (suc (suc level)) node bytes there fits))

  pub index_pages : (level page : ℕ) (node : LifeNode) (bytes : List ℕ) → 2 ≤ level → pages page ≡ Some bytes → FitsLevel form level node bytes
      → page ∷ entry_pages form (level - 1) pages (entries_in node) ≡ pages_below form level pages page
  index_pages zero page node bytes some there fits = absurd (omega (arith, some))
  index_pages (suc zero) page node bytes some there fits = absurd (omega (arith, some))
  index_pages (suc (suc level)) page node bytes some there fits =
      let less : suc (suc level) - 1 ≡ suc level = omega arith in
      ap (λ (l : ℕ). page ∷ entry_pages form l pages (entries_in node)) less
      ∙ ap (λ (n : LifeNode). page ∷ entry_pages form (suc level) pages (entries_in n)) (sym (node_on-fits form pages page (suc (suc level)) node bytes there fits))

  -- a page is of the part below it
  pub own_page : (level page : ℕ) → 1 ≤ level → (others : List ℕ) × (pages_below form level pages page ≡ page ∷ others)
  own_page zero page some = absurd (omega (arith, some))
  own_page (suc zero) page some = ([], refl)
  own_page (suc (suc level)) page some = (entry_pages form (suc level) pages (entries_on form pages page), refl)

  -- the entries before one, that one, and those behind it
  split_at : (entries : List LifeEntry) (i : ℕ) (d : LifeEntry) → i < length entries → entries ≡ take i entries ++ (get_or entries i d ∷ drop (suc i) entries)
  split_at entries i d lt = sym (take-append-drop i entries) ∙ ap (λ (es : List LifeEntry). take i entries ++ es) (drop-cons entries i d lt)

  module _ (level high : ℕ) (entries : List LifeEntry) (i : ℕ) (e : LifeEntry) (lt : i < length entries) (is : e ≡ get_or entries i e) where
    whole : entries ≡ take i entries ++ (e ∷ drop (i + 1) entries)
    whole =
        let next : suc i ≡ i + 1 = omega arith in
        subst (λ (j : ℕ). entries ≡ take i entries ++ (e ∷ drop j entries)) next
        (subst (λ (x : LifeEntry). entries ≡ take i entries ++ (x ∷ drop (suc i) entries)) (sym is) (split_at entries i e lt))

    more_pages : entry_pages form level pages (take i entries) ++ pages_below form level pages e.child ≡ entry_pages form level pages (take (i + 1) entries)
    more_pages = subst (λ (x : LifeEntry). entry_pages form level pages (take i entries) ++ pages_below form level pages x.child ≡ entry_pages form level pages (take (i + 1) entries)) (sym is)
        (sym (flat_more (λ (x : LifeEntry). pages_below form level pages x.child) entries i e lt))

    more_lives : entry_lives form level pages (take i entries) ++ lives_below form level pages e.child ≡ entry_lives form level pages (take (i + 1) entries)
    more_lives = subst (λ (x : LifeEntry). entry_lives form level pages (take i entries) ++ lives_below form level pages x.child ≡ entry_lives form level pages (take (i + 1) entries)) (sym is)
        (sym (flat_more (λ (x : LifeEntry). lives_below form level pages x.child) entries i e lt))

    -- the entries so far, with one more
    pub each_more : EntriesStand form level pages (take i entries) (first_low (drop i entries) high) → EntryStands form level pages e (first_low (drop (i + 1) entries) high)
        → EntriesStand form level pages (take (i + 1) entries) (first_low (drop (i + 1) entries) high)
    each_more before here =
        let begins : first_low (drop i entries) high ≡ low_key e = ap (λ (es : List LifeEntry). first_low es high) (drop-cons entries i e lt) ∙ ap low_key (sym is) in
        let joined = EachStands-join (EntryStands form level pages) (take i entries) (e ∷ []) (first_low (drop (i + 1) entries) high)
        (subst (λ (n : ℕ). EntriesStand form level pages (take i entries) n) begins before) (here, tt) in
        let same : take i entries ++ (e ∷ []) ≡ take (i + 1) entries = ap (λ (x : LifeEntry). take i entries ++ (x ∷ [])) is ∙ sym (take_more entries i e lt) in
        subst (λ (es : List LifeEntry). EntriesStand form level pages es (first_low (drop (i + 1) entries) high)) same joined

    pub entry_passed : (lives mid kept : List Dated) (seen between after : List ℕ)
        → Passed (EntriesStand form level pages (take i entries) (first_low (drop i entries) high)) (entry_pages form level pages (take i entries)) (entry_lives form level pages (take i entries)) lives mid seen between
        → Passed (StandsBelow form level pages e.child (low_key e) (first_low (drop (i + 1) entries) high) (fewest form level)) (pages_below form level pages e.child) (lives_below form level pages e.child) mid kept between after
        → KeepsItsLow e (lives_below form level pages e.child)
        → Passed (EntriesStand form level pages (take (i + 1) entries) (first_low (drop (i + 1) entries) high)) (entry_pages form level pages (take (i + 1) entries)) (entry_lives form level pages (take (i + 1) entries)) lives kept seen after
    entry_passed lives mid kept seen between after before here keeps =
        let now = passed_more _ _ (entry_pages form level pages (take i entries)) (pages_below form level pages e.child) (entry_lives form level pages (take i entries)) (lives_below form level pages e.child) lives mid kept seen between after
        (EntriesStand form level pages (take (i + 1) entries) (first_low (drop (i + 1) entries) high)) (each_more before.can.stands (here.can.stands, keeps)) before here in
        subst (λ (ds : List Dated). Passed (EntriesStand form level pages (take (i + 1) entries) (first_low (drop (i + 1) entries) high)) (entry_pages form level pages (take (i + 1) entries)) ds lives kept seen after) more_lives
        (subst (λ (ps : List ℕ). Passed (EntriesStand form level pages (take (i + 1) entries) (first_low (drop (i + 1) entries) high)) ps (entry_lives form level pages (take i entries) ++ lives_below form level pages e.child) lives kept seen after) more_pages now)

    own_whole : entry_pages form level pages entries ≡ entry_pages form level pages (take i entries) ++ (pages_below form level pages e.child ++ entry_pages form level pages (drop (i + 1) entries))
    own_whole = ap (entry_pages form level pages) whole ∙ flat_map-append (λ (x : LifeEntry). pages_below form level pages x.child) (take i entries) (e ∷ drop (i + 1) entries)

    -- where the entries can pass, so can this one after those before it
    pub entry_fails : (lives mid : List Dated) (seen between : List ℕ)
        → Passed (EntriesStand form level pages (take i entries) (first_low (drop i entries) high)) (entry_pages form level pages (take i entries)) (entry_lives form level pages (take i entries)) lives mid seen between
        → CanPass (EntriesStand form level pages entries high) (entry_pages form level pages entries) seen
        → CanPass (StandsBelow form level pages e.child (low_key e) (first_low (drop (i + 1) entries) high) (fewest form level)) (pages_below form level pages e.child) between
        × KeepsItsLow e (lives_below form level pages e.child)
    entry_fails lives mid seen between before can =
        let own : List ℕ = pages_below form level pages e.child in
        let rest : List ℕ = entry_pages form level pages (drop (i + 1) entries) in
        let at = EachStands-path (EntryStands form level pages) entries (take i entries) e (drop (i + 1) entries) high whole can.stands in
        let both = can_rest (EntriesStand form level pages (take i entries) (first_low (drop i entries) high)) (StandsBelow form level pages e.child (low_key e) (first_low (drop (i + 1) entries) high) (fewest form level))
        (entry_pages form level pages (take i entries)) (own ++ rest) (entry_lives form level pages (take i entries)) [] lives mid mid seen between [] before
        (subst NamesNoneTwice own_whole can.once) (subst (λ (ps : List ℕ). AreApart seen ps) own_whole can.apart) at.1.0.0 in
        (record { stands = at.1.0.0; once = once_left own rest both.once; apart = apart_front between own rest both.apart }, at.1.0.1)

    -- what was seen up to this entry is of the entries
    pub entry_sees : (seen between after : List ℕ) → SeesOwn (entry_pages form level pages (take i entries)) seen between → SeesOwn (pages_below form level pages e.child) between after
        → SeesOwn (entry_pages form level pages entries) seen after
    entry_sees seen between after first here =
        let own : List ℕ = pages_below form level pages e.child in
        let rest : List ℕ = entry_pages form level pages (drop (i + 1) entries) in
        subst (λ (ps : List ℕ). SeesOwn ps seen after) (sym own_whole)
        (sees_more (entry_pages form level pages (take i entries)) (own ++ rest) seen between after first (sees_first own rest between after here))

  -- all entries passed
  pub all_passed : (level high : ℕ) (entries : List LifeEntry) (i : ℕ) (lives now : List Dated) (seen after : List ℕ) → length entries ≤ i
      → Passed (EntriesStand form level pages (take i entries) (first_low (drop i entries) high)) (entry_pages form level pages (take i entries)) (entry_lives form level pages (take i entries)) lives now seen after
      → Passed (EntriesStand form level pages entries high) (entry_pages form level pages entries) (entry_lives form level pages entries) lives now seen after
  all_passed level high entries i lives now seen after end passed =
      let taken : take i entries ≡ entries = take_all i entries end in
      let left : drop i entries ≡ [] = drop_all i entries end in
      subst (λ (es : List LifeEntry). Passed (EntriesStand form level pages es high) (entry_pages form level pages es) (entry_lives form level pages es) lives now seen after) taken
      (subst (λ (es : List LifeEntry). Passed (EntriesStand form level pages (take i entries) (first_low es high)) (entry_pages form level pages (take i entries)) (entry_lives form level pages (take i entries)) lives now seen after) left passed)

  -- a leaf that was read
  pub leaf_passes : (level page low high least : ℕ) (node : LifeNode) (bytes : List ℕ) (lives now : List Dated) (seen after : List ℕ) → level ≡ 1 → pages page ≡ Some bytes → FitsLevel form level node bytes
      → LeafKeeps (objects_in node) low high least → names_page seen page ≡ false → ((p : ℕ) → names_page after p ≡ names_page (seen ++ page ∷ []) p) → now ≡ lives ++ objects_in node
      → Passed (StandsBelow form level pages page low high least) (pages_below form level pages page) (lives_below form level pages page) lives now seen after
  leaf_passes level page low high least node bytes lives now seen after one there fits keeps new names kept =
      let first = page_passes lives seen after page new names in
      let own = leaf_pages level page one in
      subst (λ (ps : List ℕ). Passed (StandsBelow form level pages page low high least) ps (lives_below form level pages page) lives now seen after) (sym own)
      (record {
        can = record { stands = leaf_stands level page low high least node bytes one there fits keeps; once = first.can.once; apart = first.can.apart };
        kept = kept ∙ ap (λ (ds : List Dated). lives ++ ds) (leaf_lives level page node bytes one there fits);
        names = names;
      })

  -- an index node that was read, and those below it
  pub index_passes : (level page low high least : ℕ) (node : LifeNode) (bytes : List ℕ) (entries : List LifeEntry) (lives now : List Dated) (seen between after : List ℕ)
      → 2 ≤ level → pages page ≡ Some bytes → FitsLevel form level node bytes → entries ≡ entries_in node → IndexKeeps entries low high least
      → names_page seen page ≡ false → ((p : ℕ) → names_page between p ≡ names_page (seen ++ page ∷ []) p)
      → Passed (EntriesStand form (level - 1) pages entries high) (entry_pages form (level - 1) pages entries) (entry_lives form (level - 1) pages entries) lives now between after
      → Passed (StandsBelow form level pages page low high least) (pages_below form level pages page) (lives_below form level pages page) lives now seen after
  index_passes level page low high least node bytes entries lives now seen between after some there fits same keeps new names below =
      let first = page_passes lives seen between page new names in
      let stands = index_stands level page low high least node bytes some there fits (subst (λ (es : List LifeEntry). IndexKeeps es low high least) same keeps)
      (subst (λ (es : List LifeEntry). EntriesStand form (level - 1) pages es high) same below.can.stands) in
      let all = passed_more (Unit {0}) (EntriesStand form (level - 1) pages entries high) (page ∷ []) (entry_pages form (level - 1) pages entries) [] (entry_lives form (level - 1) pages entries) lives lives now seen between after
      (StandsBelow form level pages page low high least) stands first below in
      let own : page ∷ entry_pages form (level - 1) pages entries ≡ pages_below form level pages page =
      ap (λ (es : List LifeEntry). page ∷ entry_pages form (level - 1) pages es) same ∙ index_pages level page node bytes some there fits in
      let told : entry_lives form (level - 1) pages entries ≡ lives_below form level pages page =
      ap (λ (es : List LifeEntry). entry_lives form (level - 1) pages es) same ∙ index_lives level page node bytes some there fits in
      subst (λ (ds : List Dated). Passed (StandsBelow form level pages page low high least) (pages_below form level pages page) ds lives now seen after) told
      (subst (λ (ps : List ℕ). Passed (StandsBelow form level pages page low high least) ps (entry_lives form (level - 1) pages entries) lives now seen after) own all)

  -- where the part can pass, so can the entries of its page
  pub index_fails : (level page low high least : ℕ) (node : LifeNode) (bytes : List ℕ) (entries : List LifeEntry) (lives : List Dated) (seen between : List ℕ)
      → 2 ≤ level → pages page ≡ Some bytes → FitsLevel form level node bytes → entries ≡ entries_in node
      → names_page seen page ≡ false → ((p : ℕ) → names_page between p ≡ names_page (seen ++ page ∷ []) p)
      → CanPass (StandsBelow form level pages page low high least) (pages_below form level pages page) seen
      → IndexKeeps entries low high least × CanPass (EntriesStand form (level - 1) pages entries high) (entry_pages form (level - 1) pages entries) between
  index_fails level page low high least node bytes entries lives seen between some there fits same new names can =
      let keeps = index_keeps_to level page low high least node bytes some there fits can.stands in
      let own : pages_below form level pages page ≡ page ∷ entry_pages form (level - 1) pages entries =
      sym (ap (λ (es : List LifeEntry). page ∷ entry_pages form (level - 1) pages es) same ∙ index_pages level page node bytes some there fits) in
      let each = subst (λ (es : List LifeEntry). EntriesStand form (level - 1) pages es high) (sym same) keeps.1 in (
        subst (λ (es : List LifeEntry). IndexKeeps es low high least) (sym same) keeps.0,
        can_rest (Unit {0}) (EntriesStand form (level - 1) pages entries high) (page ∷ []) (entry_pages form (level - 1) pages entries) [] [] lives lives lives seen between []
            (page_passes lives seen between page new names) (subst NamesNoneTwice own can.once) (subst (λ (ps : List ℕ). AreApart seen ps) own can.apart) each,
      )

  pub index_sees : (level page : ℕ) (node : LifeNode) (bytes : List ℕ) (entries : List LifeEntry) (seen between after : List ℕ)
      → 2 ≤ level → pages page ≡ Some bytes → FitsLevel form level node bytes → entries ≡ entries_in node
      → ((p : ℕ) → names_page between p ≡ names_page (seen ++ page ∷ []) p) → SeesOwn (entry_pages form (level - 1) pages entries) between after
      → SeesOwn (pages_below form level pages page) seen after
  index_sees level page node bytes entries seen between after some there fits same names below =
      let own : page ∷ entry_pages form (level - 1) pages entries ≡ pages_below form level pages page =
      ap (λ (es : List LifeEntry). page ∷ entry_pages form (level - 1) pages es) same ∙ index_pages level page node bytes some there fits in
      subst (λ (ps : List ℕ). SeesOwn ps seen after) own
      (sees_more (page ∷ []) (entry_pages form (level - 1) pages entries) seen between after (λ p named. sym (names p) ∙ named) below)

  -- the page alone was seen
  pub page_sees : (level page : ℕ) (seen after : List ℕ) → 1 ≤ level → ((p : ℕ) → names_page after p ≡ names_page (seen ++ page ∷ []) p) → SeesOwn (pages_below form level pages page) seen after
  page_sees level page seen after some names =
      let own = own_page level page some in
      subst (λ (ps : List ℕ). SeesOwn ps seen after) (sym own.1) (sees_first (page ∷ []) own.0 seen after (λ p named. sym (names p) ∙ named))
