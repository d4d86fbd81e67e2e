-- Pages of cuts, tested where they stand: node by node, each with its border.
use Rattle.std.specs.Prelude.{◌≡◌, ℕ, zero, suc, ◌+◌, ◌-◌, ◌*◌, ◌≤◌, ◌↔◌, min, List, [], ◌∷◌, ◌++◌, length, drop, slice_index, Bool, true, false, ◌==◌, nat_le, if◌then◌else◌, IsTrue, refl}
use Rattle.std.specs.List.{flat_map, All}
use Rattle.std.proofs.Common.{sym, ap, ◌∙◌, subst, append_assoc, length-append, arith}
use Rattle.std.proofs.lemmas.Bool.{le-leb, eq-eqb, ne_eqb}
use Rattle.std.proofs.lemmas.List.{drop_at}
use Rattle.std.proofs.lemmas.List.Elements.{All-cons, All-nil}
use Rattle.bw_types.specs.declared.tree.Tree.{Tree}
use Rattle.page_layout.specs.Numbers.{spelled, number_in, zeros, number_in-spelled, length-zeros}
use Rattle.page_layout.specs.Bytes.{AreBytes, bytes-drop}
use Rattle.page_layout.specs.Counted.{front, body_of, word_of, double_of, regroup, word-counted, double-counted, body-counted, count-counted}
use Rattle.page_layout.specs.Respelled.{count_of, respelled, respelled_at, two_more, number_in-lt}
use Rattle.page_layout.specs.Exact.{IsExact, tree-typed}
use Rattle.page_layout.specs.TreeValue.{tree_bytes, tree_at, IsTreeTyped, length-tree}
use Rattle.page_layout.specs.declared.cut_page.CutNode.{CutNode}
use Rattle.page_layout.specs.declared.cut_page.CutNode.TheVariants.{Entry, Cut}
use Rattle.page_layout.specs.declared.cut_page.CutPage.{CutPage}
use Rattle.page_layout.specs.CutPage.{entry_count, open_places, node_fits, IsCutPage, IsNodeTyped, IsTyped, node_bytes, border_bytes, cut_page_page, no_tree, border_at, node_at, past_border, nodes_from, nodes_in, count_in, cut_page_in}
use Rattle.page_layout.specs.CutPageLaws.{entries-filled, length-node, length-nodes}
use Rattle.page_layout.specs.CutView.{length-nodes_from}

-- The first node is the spelling of what it may spell: its first part, and its border where it is a cut.
abbrev pub IsNodeExact : List ℕ → List ℕ → Type 0
IsNodeExact nodes borders = (node_bytes (node_at nodes borders) ++ drop 16 nodes ≡ nodes) × (border_bytes (node_at nodes borders) ++ past_border nodes borders ≡ borders)

-- how many places are left when the first node has filled one
abbrev pub places_after : ℕ → List ℕ → ℕ
places_after places nodes = if slice_index nodes 0 == 0 then places - 1 else places + 1

-- Nodes fill these places, each keeps its rule, and these bytes are their spelling: of their first parts, which
-- anything may follow, and of their borders, which zeros follow.
pub record AreExact (places : ℕ) (items : List CutNode) (nodes borders : List ℕ) : Type 0 where
  pub filled : IsTrue (open_places places items)
  pub fit : All (λ node. IsTrue (node_fits node)) items
  pub behind : List ℕ
  pub left : ℕ
  pub firsts : flat_map node_bytes items ++ behind ≡ nodes
  pub seconds : flat_map border_bytes items ++ zeros left ≡ borders

-- What a page of cuts has before its nodes: its kind, 2 to 64 entries, and no level, word and double word.
pub record IsCutFront (page : List ℕ) : Type 0 where
  pub some : 2 ≤ count_of page
  pub few : count_of page ≤ 64
  pub kind : slice_index page 0 ≡ 11
  pub level : slice_index page 1 ≡ 0
  pub word : word_of page ≡ 0
  pub double : double_of page ≡ 0

-- What a cut has where it is exact: its tag, two unnamed bytes that are 0, and a border that is exact.
pub record IsCutExact (nodes borders : List ℕ) : Type 0 where
  pub tag : slice_index nodes 0 ≡ 1
  pub unnamed : number_in 2 (drop 2 nodes) ≡ 0
  pub room : 28 ≤ length borders
  pub border : IsExact tree_bytes tree_at 28 borders

two_zeros : (rest : List ℕ) → spelled 2 0 ++ rest ≡ 0 ∷ 0 ∷ rest
unfolding spelled
two_zeros rest = refl

eight_zeros : (rest : List ℕ) → spelled 8 0 ++ rest ≡ 0 ∷ 0 ∷ 0 ∷ 0 ∷ (spelled 4 0 ++ rest)
unfolding spelled
eight_zeros rest = refl

module _ (nodes borders : List ℕ) where
  -- the first node, when it is known whether its tag is that of an entry
  abbrev node_if : Bool → CutNode
  node_if entry = if entry then Entry (number_in 8 (drop 8 nodes)) else Cut (slice_index nodes 1) (number_in 8 (drop 8 nodes)) (number_in 4 (drop 4 nodes)) (border_at borders)

  abbrev ExactIf : Bool → Type 0
  ExactIf entry = (node_bytes (node_if entry) ++ drop 16 nodes ≡ nodes) × (border_bytes (node_if entry) ++ (if entry then borders else drop 28 borders) ≡ borders)

  module _ (bytes : AreBytes nodes) (whole : 16 ≤ length nodes) where
    entry_there : number_in 8 nodes ≡ 0 → ExactIf true
    entry_there none =
        let word : List ℕ = spelled 8 (number_in 8 (drop 8 nodes)) in (
          ap (λ (r : List ℕ). 0 ∷ 0 ∷ 0 ∷ 0 ∷ r) (append_assoc (spelled 4 0) word (drop 16 nodes))
              ∙ ap (λ (r : List ℕ). 0 ∷ 0 ∷ 0 ∷ 0 ∷ (spelled 4 0 ++ r)) (respelled_at 8 8 nodes bytes whole)
              ∙ sym (eight_zeros (drop 8 nodes))
              ∙ ap (λ (n : ℕ). spelled 8 n ++ drop 8 nodes) (sym none)
              ∙ respelled 8 nodes bytes (omega arith),
          refl,
        )

    entry_back : ExactIf true → number_in 8 nodes ≡ 0
    entry_back e =
        let word : List ℕ = spelled 8 (number_in 8 (drop 8 nodes)) in
        ap (λ (b : List ℕ). number_in 8 b) (sym e.0 ∙ ap (λ (r : List ℕ). 0 ∷ 0 ∷ 0 ∷ 0 ∷ r) (append_assoc (spelled 4 0) word (drop 16 nodes)) ∙ sym (eight_zeros (word ++ drop 16 nodes)))
        ∙ number_in-spelled 8 0 (word ++ drop 16 nodes) (omega arith)

    -- An entry is exact where its first eight bytes are 0.
    pub entry_exact : slice_index nodes 0 ≡ 0 → (number_in 8 nodes ≡ 0) ↔ IsNodeExact nodes borders
    entry_exact is_entry = subst (λ (t : Bool). (number_in 8 nodes ≡ 0) ↔ ExactIf t) (sym (eq-eqb (slice_index nodes 0) 0 is_entry)) (entry_there, entry_back)

    its_border : 28 ≤ length borders → border_at borders ≡ tree_at borders
    its_border room = ap (λ (t : Bool). if t then tree_at borders else no_tree) (le-leb 28 (length borders) room)

    cut_there : IsCutExact nodes borders → ExactIf false
    cut_there h =
        let low : List ℕ = spelled 4 (number_in 4 (drop 4 nodes)) in
        let key : List ℕ = spelled 8 (number_in 8 (drop 8 nodes)) in
        let dimension : ℕ = slice_index nodes 1 in
        let after4 : (low ++ key) ++ drop 16 nodes ≡ drop 4 nodes =
        append_assoc low key (drop 16 nodes) ∙ ap (λ (r : List ℕ). low ++ r) (respelled_at 8 8 nodes bytes whole) ∙ respelled_at 4 4 nodes bytes (omega arith) in
        let after2 : 0 ∷ 0 ∷ drop 4 nodes ≡ drop 2 nodes =
        sym (two_zeros (drop 4 nodes)) ∙ ap (λ (n : ℕ). spelled 2 n ++ drop 4 nodes) (sym h.unnamed) ∙ respelled_at 2 2 nodes bytes (omega arith) in (
          ap (λ (r : List ℕ). 1 ∷ dimension ∷ 0 ∷ 0 ∷ r) after4 ∙ ap (λ (r : List ℕ). 1 ∷ dimension ∷ r) after2 ∙ two_more 1 dimension nodes h.tag refl (omega arith),
          ap (λ (t : Tree). tree_bytes t ++ drop 28 borders) (its_border h.room) ∙ h.border,
        )

    cut_back : ExactIf false → IsCutExact nodes borders
    cut_back e =
        let low : List ℕ = spelled 4 (number_in 4 (drop 4 nodes)) in
        let key : List ℕ = spelled 8 (number_in 8 (drop 8 nodes)) in
        let rest : List ℕ = (low ++ key) ++ drop 16 nodes in
        let wide : 28 ≤ length borders = omega (arith, ap length e.1, length-append (tree_bytes (border_at borders)) (drop 28 borders), length-tree (border_at borders)) in
        record {
          tag = ap (λ (b : List ℕ). slice_index b 0) (sym e.0);
          unnamed = ap (λ (b : List ℕ). number_in 2 (drop 2 b)) (sym e.0) ∙ ap (λ (b : List ℕ). number_in 2 b) (sym (two_zeros rest)) ∙ number_in-spelled 2 0 rest (omega arith);
          room = wide;
          border = ap (λ (t : Tree). tree_bytes t ++ drop 28 borders) (sym (its_border wide)) ∙ e.1;
        }

    -- What is no entry is exact where a cut is.
    pub cut_exact : (slice_index nodes 0 ≡ 0 → ⊥) → IsCutExact nodes borders ↔ IsNodeExact nodes borders
    cut_exact other = subst (λ (t : Bool). IsCutExact nodes borders ↔ ExactIf t) (sym (ne_eqb (slice_index nodes 0) 0 other)) (cut_there, cut_back)

  past_if : (entry : Bool) (rest : List ℕ) → border_bytes (node_if entry) ++ rest ≡ borders → (if entry then borders else drop 28 borders) ≡ rest
  past_if true rest h = sym h
  past_if false rest h = ap (λ (b : List ℕ). drop 28 b) (sym h) ∙ drop_at (tree_bytes (border_at borders)) rest 28 (length-tree (border_at borders))

  open_if : (entry : Bool) (places : ℕ) (items : List CutNode) → open_places (suc places) (node_if entry ∷ items) ≡ open_places (if entry then suc places - 1 else suc places + 1) items
  open_if true places items =
      let less : places ≡ suc places - 1 = omega arith in
      ap (λ (n : ℕ). open_places n items) less
  open_if false places items =
      let more : suc (suc places) ≡ suc places + 1 = omega arith in
      ap (λ (n : ℕ). open_places n items) more

  opens : (places : ℕ) (items : List CutNode) → (places ≡ 0 → ⊥) → open_places places (node_at nodes borders ∷ items) ≡ open_places (places_after places nodes) items
  opens zero items some = absurd (some refl)
  opens (suc places) items some = open_if (slice_index nodes 0 == 0) places items

  -- what the first node is and what is left after it
  abbrev First : Type 0
  First = IsNodeExact nodes borders × IsTrue (node_fits (node_at nodes borders))

  joined : (places : ℕ) (items : List CutNode) → (places ≡ 0 → ⊥) → First → AreExact (places_after places nodes) items (drop 16 nodes) (past_border nodes borders)
      → AreExact places (node_at nodes borders ∷ items) nodes borders
  joined places items some first rest =
      let node : CutNode = node_at nodes borders in
      record {
        filled = opens places items some ∙ rest.filled;
        fit = All-cons (λ n. IsTrue (node_fits n)) node items first.1 rest.fit;
        behind = rest.behind;
        left = rest.left;
        firsts = append_assoc (node_bytes node) (flat_map node_bytes items) rest.behind ∙ ap (λ (r : List ℕ). node_bytes node ++ r) rest.firsts ∙ first.0.0;
        seconds = append_assoc (border_bytes node) (flat_map border_bytes items) (zeros rest.left) ∙ ap (λ (r : List ℕ). border_bytes node ++ r) rest.seconds ∙ first.0.1;
      }

  parted : (places : ℕ) (items : List CutNode) → (places ≡ 0 → ⊥) → AreExact places (node_at nodes borders ∷ items) nodes borders
      → First × AreExact (places_after places nodes) items (drop 16 nodes) (past_border nodes borders)
  parted places items some h =
      let node : CutNode = node_at nodes borders in
      let later : List ℕ = flat_map node_bytes items ++ h.behind in
      let last : List ℕ = flat_map border_bytes items ++ zeros h.left in
      let whole : node_bytes node ++ later ≡ nodes = sym (append_assoc (node_bytes node) (flat_map node_bytes items) h.behind) ∙ h.firsts in
      let all_borders : border_bytes node ++ last ≡ borders = sym (append_assoc (border_bytes node) (flat_map border_bytes items) (zeros h.left)) ∙ h.seconds in
      let after : drop 16 nodes ≡ later = ap (λ (b : List ℕ). drop 16 b) (sym whole) ∙ drop_at (node_bytes node) later 16 (length-node node) in
      let past : past_border nodes borders ≡ last = past_if (slice_index nodes 0 == 0) last all_borders in (
        ((ap (λ (r : List ℕ). node_bytes node ++ r) after ∙ whole, ap (λ (r : List ℕ). border_bytes node ++ r) past ∙ all_borders), h.fit 0 node (omega arith)),
        record {
          filled = sym (opens places items some) ∙ h.filled;
          fit = λ k d l. h.fit (suc k) d (omega arith);
          behind = h.behind;
          left = h.left;
          firsts = sym after;
          seconds = sym past;
        },
      )

  next_node : (count less : ℕ) → count ≡ suc less → nodes_from count nodes borders ≡ node_at nodes borders ∷ nodes_from less (drop 16 nodes) (past_border nodes borders)
  unfolding nodes_from
  next_node count less e = ap (λ (n : ℕ). nodes_from n nodes borders) e

  -- Nodes are exact where the first one is and keeps its rule, and the others are.
  pub exact_step : (places count : ℕ) → (count ≡ 0 → ⊥) → (places ≡ 0 → ⊥)
      → (First × AreExact (places_after places nodes) (nodes_from (count - 1) (drop 16 nodes) (past_border nodes borders)) (drop 16 nodes) (past_border nodes borders))
      ↔ AreExact places (nodes_from count nodes borders) nodes borders
  exact_step places count more some =
      let items : List CutNode = nodes_from (count - 1) (drop 16 nodes) (past_border nodes borders) in
      let same : count ≡ suc (count - 1) = omega (arith, more) in
      subst (λ (ns : List CutNode). (First × AreExact (places_after places nodes) items (drop 16 nodes) (past_border nodes borders)) ↔ AreExact places ns nodes borders)
      (sym (next_node count (count - 1) same)) (λ h. joined places items some h.0 h.1, λ h. parted places items some h)

  -- No nodes are left when there is a place to fill, and none when there is no place.
  pub no_place_left : (count places : ℕ) → (count ≡ 0 → ⊥) → places ≡ 0 → AreExact places (nodes_from count nodes borders) nodes borders → ⊥
  unfolding nodes_from
  no_place_left zero places more none h = absurd (more refl)
  no_place_left (suc count) zero more none h = absurd (let f = h.filled in cc)
  no_place_left (suc count) (suc places) more none h = absurd (omega arith)

  none_filled : (places : ℕ) → IsTrue (open_places places []) → places ≡ 0
  none_filled zero h = refl
  none_filled (suc places) h = absurd cc

  -- Where no node is left, no place is, and zeros are.
  pub exact_end : (count places : ℕ) → count ≡ 0 → ((places ≡ 0) × (borders ≡ zeros (length borders))) ↔ AreExact places (nodes_from count nodes borders) nodes borders
  unfolding nodes_from
  exact_end (suc count) places none = absurd (omega arith)
  exact_end zero places none = (
    λ h. record {
      filled = ap (λ (n : ℕ). open_places n []) h.0;
      fit = All-nil (λ node. IsTrue (node_fits node));
      behind = nodes;
      left = length borders;
      firsts = refl;
      seconds = sym h.1;
    },
    λ h. (none_filled places h.filled, sym h.seconds ∙ ap zeros (sym (length-zeros h.left) ∙ ap length h.seconds)),
  )

-- What is read of bytes has numbers of its types.
border-typed : (enough : Bool) (borders : List ℕ) → AreBytes borders → IsTreeTyped (if enough then tree_at borders else no_tree)
border-typed true borders h = tree-typed borders h
border-typed false borders h = (omega arith, omega arith, omega arith, omega arith)

node-typed : (entry : Bool) (nodes borders : List ℕ) → AreBytes nodes → IsTreeTyped (border_at borders) → IsNodeTyped (node_if nodes borders entry)
node-typed true nodes borders h border = number_in-lt 8 (drop 8 nodes) (bytes-drop 8 nodes h)
node-typed false nodes borders h border = (number_in-lt 8 (drop 8 nodes) (bytes-drop 8 nodes h), number_in-lt 4 (drop 4 nodes) (bytes-drop 4 nodes h), border)

past-bytes : (entry : Bool) (borders : List ℕ) → AreBytes borders → AreBytes (if entry then borders else drop 28 borders)
past-bytes true borders h = h
past-bytes false borders h = bytes-drop 28 borders h

nodes-typed : (count : ℕ) (nodes borders : List ℕ) → AreBytes nodes → AreBytes borders → All IsNodeTyped (nodes_from count nodes borders)
unfolding nodes_from
nodes-typed zero nodes borders h b = All-nil IsNodeTyped
nodes-typed (suc count) nodes borders h b =
    let border = border-typed (nat_le 28 (length borders)) borders b in
    All-cons IsNodeTyped (node_at nodes borders) (nodes_from count (drop 16 nodes) (past_border nodes borders))
    (node-typed (slice_index nodes 0 == 0) nodes borders h border)
    (nodes-typed count (drop 16 nodes) (past_border nodes borders) (bytes-drop 16 nodes h) (past-bytes (slice_index nodes 0 == 0) borders b))

pub cut_page_in-typed : (page : List ℕ) → AreBytes page → IsTyped (cut_page_in page)
cut_page_in-typed page h =
    let n : ℕ = 2 * count_in page - 1 in
    nodes-typed n (body_of page) (drop (n * 16) (body_of page)) (bytes-drop 16 page h) (bytes-drop (n * 16) (body_of page) (bytes-drop 16 page h))

-- The page is the spelling of what it may spell, which keeps the rules.
abbrev pub IsSpelled : List ℕ → Type 0
IsSpelled page = IsCutPage (cut_page_in page) × (page ≡ cut_page_page (cut_page_in page))

module _ (page : List ℕ) where
  -- such a page has the front of a page of cuts
  pub spelled_front : IsSpelled page → IsCutFront page
  spelled_front h =
      let items : List CutNode = (cut_page_in page).nodes.items in
      let n : ℕ = entry_count items in
      let part : List ℕ = flat_map node_bytes items ++ flat_map border_bytes items in
      let pad : List ℕ = zeros (4096 - length (front 11 0 n 0 0 ++ part)) in
      let count : count_of page ≡ n = ap count_of h.1 ∙ count-counted 11 0 n 0 0 part pad (omega (arith, h.0.few)) in
      record {
        some = omega (arith, count, h.0.some);
        few = omega (arith, count, h.0.few);
        kind = ap (λ (b : List ℕ). slice_index b 0) h.1;
        level = ap (λ (b : List ℕ). slice_index b 1) h.1;
        word = ap word_of h.1 ∙ word-counted 11 0 n 0 0 part pad (omega arith);
        double = ap double_of h.1 ∙ double-counted 11 0 n 0 0 part pad (omega arith);
      }

  module _ (bytes : AreBytes page) (whole : length page ≡ 4096) (is_front : IsCutFront page) where
    abbrev its_count : ℕ
    its_count = 2 * count_of page - 1

    abbrev its_borders : List ℕ
    its_borders = drop (its_count * 16) (body_of page)

    abbrev its_items : List CutNode
    its_items = nodes_from its_count (body_of page) its_borders

    abbrev its_page : CutPage
    its_page = record { nodes = record { items = its_items } }

    same_page : its_page ≡ cut_page_in page
    same_page =
        let least : count_of page ≡ min (count_of page) 64 = omega (arith, is_front.few) in
        λ i. record { nodes = record { items = nodes_in (2 * least i - 1) page } }

    length-items : length its_items ≡ its_count
    length-items = length-nodes_from its_count (body_of page) its_borders

    length-firsts : length (flat_map node_bytes its_items) ≡ its_count * 16
    length-firsts = length-nodes its_items ∙ ap (λ (n : ℕ). n * 16) length-items

    there : AreExact 1 its_items (body_of page) its_borders → IsCutPage its_page × (page ≡ cut_page_page its_page)
    there h =
        let firsts : List ℕ = flat_map node_bytes its_items in
        let borders : List ℕ = flat_map border_bytes its_items in
        let n : ℕ = entry_count its_items in
        let sized : length its_items + 1 ≡ 2 * n = entries-filled 1 its_items h.filled in
        let count : count_of page ≡ n = omega (arith, sized, length-items, is_front.some) in
        let behind : its_borders ≡ h.behind = ap (λ (b : List ℕ). drop (its_count * 16) b) (sym h.firsts) ∙ drop_at firsts h.behind (its_count * 16) length-firsts in
        let body : (firsts ++ borders) ++ zeros h.left ≡ body_of page =
        append_assoc firsts borders (zeros h.left) ∙ ap (λ (r : List ℕ). firsts ++ r) (h.seconds ∙ behind) ∙ h.firsts in
        let after8 : spelled 8 0 ++ drop 16 page ≡ drop 8 page =
        ap (λ (m : ℕ). spelled 8 m ++ drop 16 page) (sym is_front.double) ∙ respelled_at 8 8 page bytes (omega (arith, whole)) in
        let after4 : spelled 4 0 ++ drop 8 page ≡ drop 4 page =
        ap (λ (m : ℕ). spelled 4 m ++ drop 8 page) (sym is_front.word) ∙ respelled_at 4 4 page bytes (omega (arith, whole)) in
        let after2 : spelled 2 n ++ drop 4 page ≡ drop 2 page =
        ap (λ (m : ℕ). spelled 2 m ++ drop 4 page) (sym count) ∙ respelled_at 2 2 page bytes (omega (arith, whole)) in
        let part : List ℕ = front 11 0 n 0 0 ++ (firsts ++ borders) in
        let is_page : part ++ zeros h.left ≡ page =
        regroup 11 0 n 0 0 (firsts ++ borders) (zeros h.left)
        ∙ ap (λ (b : List ℕ). 11 ∷ 0 ∷ (spelled 2 n ++ (spelled 4 0 ++ (spelled 8 0 ++ b)))) body
        ∙ ap (λ (b : List ℕ). 11 ∷ 0 ∷ (spelled 2 n ++ (spelled 4 0 ++ b))) after8
        ∙ ap (λ (b : List ℕ). 11 ∷ 0 ∷ (spelled 2 n ++ b)) after4
        ∙ ap (λ (b : List ℕ). 11 ∷ 0 ∷ b) after2
        ∙ two_more 11 0 page is_front.kind is_front.level (omega (arith, whole)) in
        let left : h.left ≡ 4096 - length part = omega (arith, ap length is_page, length-append part (zeros h.left), length-zeros h.left, whole) in (
          record { some = omega (arith, count, is_front.some); few = omega (arith, count, is_front.few); filled = h.filled; nodes = h.fit },
          sym is_page ∙ ap (λ (k : ℕ). part ++ zeros k) left,
        )

    back : IsCutPage its_page × (page ≡ cut_page_page its_page) → AreExact 1 its_items (body_of page) its_borders
    back h =
        let firsts : List ℕ = flat_map node_bytes its_items in
        let borders : List ℕ = flat_map border_bytes its_items in
        let n : ℕ = entry_count its_items in
        let k : ℕ = 4096 - length (front 11 0 n 0 0 ++ (firsts ++ borders)) in
        let body : body_of page ≡ firsts ++ (borders ++ zeros k) = ap body_of h.1 ∙ body-counted 11 0 n 0 0 (firsts ++ borders) (zeros k) ∙ append_assoc firsts borders (zeros k) in
        record {
          filled = h.0.filled;
          fit = h.0.nodes;
          behind = borders ++ zeros k;
          left = k;
          firsts = sym body;
          seconds = sym (ap (λ (b : List ℕ). drop (its_count * 16) b) body ∙ drop_at firsts (borders ++ zeros k) (its_count * 16) length-firsts);
        }

    -- With that front the page spells what it may spell where its nodes are exact.
    pub page_exact : AreExact 1 its_items (body_of page) its_borders ↔ IsSpelled page
    page_exact = subst (λ (p : CutPage). AreExact 1 its_items (body_of page) its_borders ↔ (IsCutPage p × (page ≡ cut_page_page p))) same_page (there, back)
