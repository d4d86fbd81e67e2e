-- What an addition makes of a node, from what it makes of those below it.
use Rattle.std.proofs.Common.{◌≡◌, ◌⊎◌, ℕ, suc, ◌+◌, ◌<◌, ◌≤◌, inl, inr, length, Option, Some, None, IsSome, refl, sym, subst, arith}
use Rattle.std.specs.List.{All}
use Rattle.ports.specs.Pages.{PageMap}
use Rattle.page_layout.specs.MvNode.{IsMvEntryTyped}
use Rattle.page_layout.specs.declared.mv_node.MvNode.{MvNode}
use Rattle.mv_pages.specs.Alive.{alive_at, child_of}
use Rattle.mv_pages.specs.Edits.{Cut, TakesIn}
use Rattle.mvsb_tree.specs.declared.replaced.Replaced.{Replaced}
use Rattle.mvsb_tree.specs.AddDamage.{EndsAtTop, EndsOnWay, IsEndDamaged, IsMade, IsPlacedAs, IsRootClosed, IsRootSplit, IsWholeFromRoot, KeepsPlaces}
use Rattle.mvsb_tree.specs.Becoming.{AreCopies, Becomes, TakesBelow, TakesPart, new_pages}
use Rattle.mvsb_tree.specs.Changed.{cut_of}
use Rattle.mvsb_tree.specs.Steps.{node_on, root_level}
use Rattle.mvsb_tree.specs.Stored.{IsClosedBy, IsLastDamaged, IsStored}
use Rattle.mvsb_tree.specs.Tops.{IsTop}
use Rattle.mvsb_tree.proofs.Ending.{end_before, end_of_last, keeps_then, stored_keeps}

-- What is stored of a node takes its part.
pub stored_part : (m0 m1 : PageMap) (page : ℕ) (node : MvNode) (v last new_last : ℕ) (r : Option Replaced) → IsStored m0 m1 page node v last new_last r → TakesPart node v r
stored_part m0 m1 page node v last new_last None st = st.0
stored_part m0 m1 page node v last new_last (Some r) st = (st.0, by_second r.second st.1)
  where
    by_second : (o : Option Cut) → IsClosedBy m0 m1 page node v last new_last r.first o → AreCopies node v o
    by_second None c = c.1.few
    by_second (Some second) t = (t.first_node, t.second_node, t.copies)

none_below : (n : ℕ) → n ≡ 0 + n
none_below n = omega arith

-- A leaf takes the addition in.
pub becomes_leaf : (level : ℕ) (m : PageMap) (node new : MvNode) (key v value : ℕ) → level ≡ 1 → TakesIn node.entries.items new.entries.items key v value → Becomes level m node key v value new 0
becomes_leaf level m node new key v value leaf takes = subst (λ (l : ℕ). Becomes l m node key v value new 0) (sym leaf) (takes, refl)

pub made_leaf : (level : ℕ) (m0 m1 : PageMap) (page : ℕ) (node new : MvNode) (key v value last last1 : ℕ) (r : Option Replaced) → level ≡ 1
    → TakesIn node.entries.items new.entries.items key v value → IsPlacedAs m0 page new → All IsMvEntryTyped new.entries.items → IsStored m0 m1 page new v last last1 r
    → IsMade level m0 m1 node key v value last last1 r
made_leaf level m0 m1 page node new key v value last last1 r leaf takes placed typed st = record {
  changed = new;
  below = 0;
  becomes = becomes_leaf level m0 node new key v value leaf takes;
  part = stored_part m0 m1 page new v last last1 r st;
  places = subst (λ (n : ℕ). KeepsPlaces n m0 m1 last last1) (none_below (new_pages new v)) (stored_keeps m0 m1 page new v last last1 r placed typed st);
}

-- An index node is led on to what its child became.
pub becomes_above : (l : ℕ) (m0 m1 : PageMap) (child : ℕ) (node below new : MvNode) (key v value last last1 : ℕ) (r : Option Replaced) → child_of node key v ≡ Some child → node_on m0 child ≡ below
    → (made : IsMade (suc l) m0 m1 below key v value last last1 r) → TakesBelow node.entries.items new.entries.items key v value r
    → Becomes (suc (suc l)) m0 node key v value new (made.below + new_pages made.changed v)
becomes_above l m0 m1 child node below new key v value last last1 r leads is made takes = record {
  child = child;
  leads = leads;
  changed = made.changed;
  before = made.below;
  below = subst (λ (n : MvNode). Becomes (suc l) m0 n key v value made.changed made.below) (sym is) made.becomes;
  pages = refl;
  replaced = r;
  part = made.part;
  takes = takes;
}

pub made_above : (l : ℕ) (m0 m1 m2 : PageMap) (page child : ℕ) (node below new : MvNode) (key v value last last1 last2 : ℕ) (r s : Option Replaced) → child_of node key v ≡ Some child → node_on m0 child ≡ below
    → IsMade (suc l) m0 m1 below key v value last last1 r → TakesBelow node.entries.items new.entries.items key v value r
    → IsPlacedAs m1 page new → All IsMvEntryTyped new.entries.items → IsStored m1 m2 page new v last1 last2 s
    → IsMade (suc (suc l)) m0 m2 node key v value last last2 s
made_above l m0 m1 m2 page child node below new key v value last last1 last2 r s leads is made takes placed typed st = record {
  changed = new;
  below = made.below + new_pages made.changed v;
  becomes = becomes_above l m0 m1 child node below new key v value last last1 r leads is made takes;
  part = stored_part m1 m2 page new v last1 last2 s st;
  places = keeps_then (made.below + new_pages made.changed v) (new_pages new v) m0 m1 m2 last last1 last2 made.places (stored_keeps m1 m2 page new v last1 last2 s placed typed st);
}

-- The chain ends before the new pages of a leaf, of an index node, or of a node below it.
pub ends_leaf : (level : ℕ) (m : PageMap) (node new : MvNode) (key v value last p : ℕ) → level ≡ 1 → TakesIn node.entries.items new.entries.items key v value
    → IsEndDamaged (new_pages new v) m last p → EndsOnWay level m node key v value last p
ends_leaf level m node new key v value last p leaf takes end = subst (λ (l : ℕ). EndsOnWay l m node key v value last p) (sym leaf) (inl (new, 0, (takes, refl), end.0, subst (λ (n : ℕ). IsEndDamaged n m last p) (none_below (new_pages new v)) end))

pub ends_above : (l : ℕ) (m0 m1 : PageMap) (child : ℕ) (node below new : MvNode) (key v value last last1 p : ℕ) (r : Option Replaced) → child_of node key v ≡ Some child → node_on m0 child ≡ below
    → IsMade (suc l) m0 m1 below key v value last last1 r → TakesBelow node.entries.items new.entries.items key v value r
    → IsEndDamaged (new_pages new v) m1 last1 p → EndsOnWay (suc (suc l)) m0 node key v value last p
ends_above l m0 m1 child node below new key v value last last1 p r leads is made takes end =
    let taken : ℕ = made.below + new_pages made.changed v in
    inl (new, taken, becomes_above l m0 m1 child node below new key v value last last1 r leads is made takes, end.0, end_before taken (new_pages new v) m0 m1 last last1 p made.places end)

pub ends_below : (l : ℕ) (m : PageMap) (child : ℕ) (node below : MvNode) (key v value last p : ℕ) → child_of node key v ≡ Some child → node_on m child ≡ below
    → EndsOnWay l m below key v value last p → EndsOnWay (suc l) m node key v value last p
ends_below l m child node below key v value last p leads is ends = inr (child, leads, subst (λ (n : MvNode). EndsOnWay l m n key v value last p) (sym is) ends)

-- A root for which there is a second page is split.
split_in_two : (node : MvNode) (v : ℕ) (r : Option Replaced) → TakesPart node v r → IsSome (cut_of r) → (96 < length node.entries.items) × (48 < length (alive_at node.entries.items v))
split_in_two node v None part some = (let none : IsSome {T = Cut} None = some in cc)
split_in_two node v (Some r) part some = (part.0, by_second r.second part.1 some)
  where
    by_second : (o : Option Cut) → AreCopies node v o → IsSome o → 48 < length (alive_at node.entries.items v)
    by_second None copies some = (let none : IsSome {T = Cut} None = some in cc)
    by_second (Some second) copies some = copies.2.many

pub root_split : (m0 m1 : PageMap) (root : ℕ) (node : MvNode) (key v value last last1 : ℕ) (r : Option Replaced) → root_level m0 root ≡ node.level → node_on m0 root ≡ node
    → (made : IsMade node.level m0 m1 node key v value last last1 r) → IsSome (cut_of r) → IsRootSplit m0 root key v value (made.below + new_pages made.changed v)
root_split m0 m1 root node key v value last last1 r level is made some =
    let cut = split_in_two made.changed v r made.part some in
    record {
      changed = made.changed;
      below = made.below;
      becomes = subst (λ (l : ℕ). Becomes l m0 (node_on m0 root) key v value made.changed made.below) (sym level)
          (subst (λ (n : MvNode). Becomes node.level m0 n key v value made.changed made.below) (sym is) made.becomes);
      full = cut.0;
      many = cut.1;
      all = refl;
    }

-- The chain ends before the page for a new root.
pub ends_at_top : (m0 m1 : PageMap) (root : ℕ) (node : MvNode) (key v value last last1 p : ℕ) (r : Option Replaced) → root_level m0 root ≡ node.level → node_on m0 root ≡ node
    → IsMade node.level m0 m1 node key v value last last1 r → IsSome (cut_of r) → node.level ≤ 15 → IsLastDamaged m1 last1 p → EndsAtTop m0 root key v value last p
ends_at_top m0 m1 root node key v value last last1 p r level is made some low end =
    let taken : ℕ = made.below + new_pages made.changed v in (
      omega (arith, level, low),
      taken,
      root_split m0 m1 root node key v value last last1 r level is made some,
      end_before taken 1 m0 m1 last last1 p made.places (end_of_last 1 m1 last1 p (omega arith) end),
    )

-- A root that another page takes the part of was closed.
pub root_closed : (m0 m1 : PageMap) (root : ℕ) (node : MvNode) (key v value last last1 : ℕ) (r : Option Replaced) → root_level m0 root ≡ node.level → node_on m0 root ≡ node
    → (made : IsMade node.level m0 m1 node key v value last last1 r) → IsSome r → IsWholeFromRoot m0 root key v → IsRootClosed m0 root key v value
root_closed m0 m1 root node key v value last last1 r level is made some whole = record {
  whole = whole;
  changed = made.changed;
  below = made.below;
  becomes = subst (λ (l : ℕ). Becomes l m0 (node_on m0 root) key v value made.changed made.below) (sym level)
      (subst (λ (n : MvNode). Becomes node.level m0 n key v value made.changed made.below) (sym is) made.becomes);
  full = full r made.part some;
}
  where
    full : (o : Option Replaced) → TakesPart made.changed v o → IsSome o → 96 < length made.changed.entries.items
    full None part there = (let none : IsSome {T = Replaced} None = there in cc)
    full (Some replaced) part there = part.0

-- The root stays where nothing took its part.
pub root_stays : (m1 m2 : PageMap) (root level v : ℕ) (r : Option Replaced) (last1 last2 top : ℕ) → IsTop m1 m2 root level v r last1 last2 top → (top ≡ root) ⊎ IsSome r
root_stays m1 m2 root level v None last1 last2 top is = inl is.0
root_stays m1 m2 root level v (Some r) last1 last2 top is = inr refl
