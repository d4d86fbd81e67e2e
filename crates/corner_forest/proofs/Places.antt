-- Trees in a list, by their places.
use Rattle.std.proofs.Common.{◌≡◌, ℕ, zero, suc, ◌+◌, ◌*◌, ◌<◌, ◌≤◌, ◌%◌, ◌^◌, List, [], ◌∷◌, length, get_or, refl, sym, ap, ◌∙◌, subst, arith, ◌++◌, map, take}
use Rattle.std.specs.List.{All, range_with_len}
use Rattle.bw_types.specs.declared.point.Point.{Point}
use Rattle.bw_types.specs.declared.tree.Tree.{Tree}
use Rattle.ports.specs.Pages.{PageMap}
use Rattle.dom_index.specs.declared.index.DomIndex.{Ghosts}
use Rattle.std.proofs.Math.Nat.{mul-le-mul_right}
use Rattle.std.proofs.lemmas.List.Elements.{All-take}
use Rattle.corner_weights.specs.Sums.{residue_sum_below}
use Rattle.corner_forest.specs.Trees.{EachStands}

pub stands_at : (S : Tree → List Point → Type 0) (P : ℕ → List Point) (from : ℕ) (ts : List Tree) (k : ℕ) (d : Tree) → EachStands S P from ts → k < length ts
    → S (get_or ts k d) (P (from + k))
stands_at S P from [] k d s lt = absurd (omega (arith, lt))
stands_at S P from (t ∷ ts) zero d s lt =
    let same : from + 0 ≡ from = omega arith in
    subst (λ (n : ℕ). S t (P n)) (sym same) s.0
stands_at S P from (t ∷ ts) (suc k) d s lt =
    let same : from + suc k ≡ suc from + k = omega arith in
    subst (λ (n : ℕ). S (get_or ts k d) (P n)) (sym same) (stands_at S P (suc from) ts k d s.1 (omega (arith, lt)))

ring : (s cost : ℕ) → (s + 1) * cost ≡ s * cost + cost
ring s cost = let more : s + 1 ≡ suc s = omega arith in rw more (omega arith)

each_taken : (S : Tree → List Point → Type 0) (P : ℕ → List Point) (from n : ℕ) (ts : List Tree) → EachStands S P from ts → EachStands S P from (take n ts)
each_taken S P from zero ts s = tt
each_taken S P from (suc n) [] s = tt
each_taken S P from (suc n) (t ∷ ts) s = (s.0, each_taken S P (suc from) n ts s.1)

-- the first trees of a list
pub each_first : (S : Tree → List Point → Type 0) (P : ℕ → List Point) (n : ℕ) (ts shown : List Tree) → shown ≡ ts → EachStands S P 0 ts → EachStands S P 0 (take n shown)
each_first S P n ts shown is s = each_taken S P 0 n shown (subst (λ (l : List Tree). EachStands S P 0 l) (sym is) s)

pub all_first : (Q : Tree → Type 0) (n : ℕ) (ts shown : List Tree) → shown ≡ ts → All Q ts → All Q (take n shown)
all_first Q n ts shown is all = All-take Q n shown (subst (λ (l : List Tree). All Q l) (sym is) all)

-- one term more of a sum
pub next_sum : (F : ℕ → ℕ) (n total term next : ℕ) → total ≡ residue_sum_below n F → term ≡ F n → next ≡ (total + term) % 2 ^ 128 → next ≡ residue_sum_below (n + 1) F
next_sum F n total term next is_total is_term is_next =
    let more : n + 1 ≡ suc n = omega arith in
    is_next ∙ ap (λ (x : ℕ). (x + term) % 2 ^ 128) is_total ∙ ap (λ (x : ℕ). (residue_sum_below n F + x) % 2 ^ 128) is_term ∙ ap (λ (m : ℕ). residue_sum_below m F) (sym more)

module _ {X : Type 0} (g : Ghosts X) where
  -- the tree at a place stands, in the pages as they are
  pub stands_here : (m now : PageMap) (dims : ℕ) (P : ℕ → List Point) (ts shown : List Tree) (k j : ℕ) (d : Tree) → now ≡ m → shown ≡ ts → j ≡ k
      → EachStands (g.stands m dims) P 0 ts → k < length ts → g.stands now dims (get_or shown j d) (P k)
  stands_here m now dims P ts shown k j d same is_shown is_k each lt =
      let zero_from : 0 + k ≡ k = omega arith in
      let there = subst (λ (n : ℕ). g.stands m dims (get_or ts k d) (P n)) zero_from (stands_at (g.stands m dims) P 0 ts k d each lt) in
      subst (λ (l : List Tree). g.stands now dims (get_or l j d) (P k)) (sym is_shown)
      (subst (λ (i : ℕ). g.stands now dims (get_or ts i d) (P k)) (sym is_k)
      (subst (λ (n : PageMap). g.stands n dims (get_or ts k d) (P k)) (sym same) there))

  pub balanced_here : (m now : PageMap) (dims : ℕ) (ts shown : List Tree) (k j : ℕ) (d : Tree) → now ≡ m → shown ≡ ts → j ≡ k
      → All (g.balanced m dims) ts → k < length ts → g.balanced now dims (get_or shown j d)
  balanced_here m now dims ts shown k j d same is_shown is_k all lt =
      subst (λ (l : List Tree). g.balanced now dims (get_or l j d)) (sym is_shown)
      (subst (λ (i : ℕ). g.balanced now dims (get_or ts i d)) (sym is_k)
      (subst (λ (n : PageMap). g.balanced n dims (get_or ts k d)) (sym same) (all k d lt)))

  pub damaged_there : (m now : PageMap) (dims version page : ℕ) (keys : List ℕ) (ts shown : List Tree) (k j : ℕ) (d : Tree) → now ≡ m → shown ≡ ts → j ≡ k
      → g.damaged_for_sum now dims (get_or shown j d) keys version page → g.damaged_for_sum m dims (get_or ts k d) keys version page
  damaged_there m now dims version page keys ts shown k j d same is_shown is_k h =
      subst (λ (n : PageMap). g.damaged_for_sum n dims (get_or ts k d) keys version page) same
      (subst (λ (i : ℕ). g.damaged_for_sum now dims (get_or ts i d) keys version page) is_k
      (subst (λ (l : List Tree). g.damaged_for_sum now dims (get_or l j d) keys version page) is_shown h))

  -- what a sum in that tree costs
  pub cost_here : (dims count size n old now : ℕ) → count ≡ size → size ≡ n → now ≤ old + g.cost dims count → now ≤ old + g.cost dims n
  cost_here dims count size n old now is_size is_n h = subst (λ (m : ℕ). now ≤ old + g.cost dims m) (is_size ∙ is_n) h

-- a cost once more
pub more_cost : (s cost old mid now : ℕ) → mid ≤ old + s * cost → now ≤ mid + cost → now ≤ old + (s + 1) * cost
more_cost s cost old mid now first second =
    let whole : (s + 1) * cost ≡ s * cost + cost = ring s cost in
    omega (arith, first, second, whole)

pub most_cost : (s n cost old now : ℕ) → now ≤ old + (s + 1) * cost → s < n → now ≤ old + n * cost
most_cost s n cost old now h lt =
    let le : (s + 1) * cost ≤ n * cost = mul-le-mul_right cost (omega (arith, lt)) in
    omega (arith, h, le)

range_push : (from n : ℕ) → range_with_len from (suc n) ≡ range_with_len from n ++ (from + n) ∷ []
range_push from zero = let same : from ≡ from + 0 = omega arith in ap (λ (k : ℕ). k ∷ []) same
range_push from (suc n) =
    let same : from + 1 + n ≡ from + suc n = omega arith in
    ap (λ (l : List ℕ). from ∷ l) (range_push (from + 1) n ∙ ap (λ (k : ℕ). range_with_len (from + 1) n ++ k ∷ []) same)

map_push : (f : ℕ → ℕ) (xs : List ℕ) (x : ℕ) → map f (xs ++ x ∷ []) ≡ map f xs ++ f x ∷ []
map_push f [] x = refl
map_push f (y ∷ xs) x = ap (λ (l : List ℕ). f y ∷ l) (map_push f xs x)

-- one sum more of a list of them
pub push_sum : (f : ℕ → ℕ) (n : ℕ) (items more : List ℕ) (x : ℕ) → items ≡ map f (range_with_len 0 n) → x ≡ f n → more ≡ items ++ x ∷ [] → more ≡ map f (range_with_len 0 (n + 1))
push_sum f n items more x is_items is_x is_more =
    let next : n + 1 ≡ suc n = omega arith in
    let last : 0 + n ≡ n = omega arith in
    is_more ∙ ap (λ (l : List ℕ). l ++ x ∷ []) is_items ∙ ap (λ (y : ℕ). map f (range_with_len 0 n) ++ y ∷ []) is_x
    ∙ sym (ap (λ (k : ℕ). map f (range_with_len 0 k)) next ∙ ap (map f) (range_push 0 n ∙ ap (λ (k : ℕ). range_with_len 0 n ++ k ∷ []) last) ∙ map_push f (range_with_len 0 n) n)
