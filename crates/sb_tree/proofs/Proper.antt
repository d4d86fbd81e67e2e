-- Entries that keep the rules of a node, and what an edit keeps of that.
use Rattle.sb_tree.proofs.Common.{◌≡◌, ℕ, ◌+◌, ◌^◌, ◌<◌, ◌≤◌, IsTrue, List, [], ◌∷◌, ◌++◌, length, take, drop, refl, sym, ap, ◌∙◌, subst, arith, length-drop, lit<, rules, All, take-append-drop, length-take-le, All-append, All-take, All-drop, mod-lt, child_fits, AreInOrder, IsSbNode, IsSbEntryTyped, SbNode, SbEntry, raised_entry, raised_first, first_half, second_half, first_low, IsStorable}
use Rattle.sb_tree.proofs.Paths.{All-head, All-tail}
use Rattle.sb_tree.proofs.Order.{Ascends, ascends, adjacent, All-left, All-right}

-- the rules of entries of a level, apart from their number
pub record Proper (level : ℕ) (es : List SbEntry) : Type 0 where
  pub ascends : Ascends es
  pub children : All (λ e. IsTrue (child_fits level e.child)) es
  pub typed : All IsSbEntryTyped es

pub in_order : (level : ℕ) (es : List SbEntry) → Proper level es → AreInOrder (λ e. IsTrue (child_fits level e.child)) (λ e next. e.low < next.low) es
in_order level es p = record { each = p.children; order = adjacent es p.ascends }

pub proper : (level : ℕ) (es : List SbEntry) → AreInOrder (λ e. IsTrue (child_fits level e.child)) (λ e next. e.low < next.low) es → All IsSbEntryTyped es → Proper level es
proper level es o typed = grind (arith, ascends)

pub ascends_left : (xs ys : List SbEntry) → Ascends (xs ++ ys) → Ascends xs
ascends_left [] ys a = tt
ascends_left (x ∷ xs) ys a = search (rules, All-left, ascends_left xs ys a.1)

pub ascends_right : (xs ys : List SbEntry) → Ascends (xs ++ ys) → Ascends ys
ascends_right [] ys a = a
ascends_right (x ∷ xs) ys a = ascends_right xs ys a.1

-- Two runs in order, the first below a bound and the second from it on, are one.
pub ascends_join : (xs ys : List SbEntry) (bound : ℕ) → Ascends xs → Ascends ys → All (λ e. e.low < bound) xs → All (λ e. bound ≤ e.low) ys → Ascends (xs ++ ys)
ascends_join [] ys bound a b below from = b
ascends_join (x ∷ xs) ys bound a b below from =
    let here : x.low < bound = All-head (λ e. e.low < bound) x xs below in (
      All-append (λ f. x.low < f.low) xs ys a.0 (λ k d h. omega (arith, here, from k d h)),
      ascends_join xs ys bound a.1 b (All-tail (λ e. e.low < bound) x xs below) from,
    )

pub ascends_raised : (es : List SbEntry) (x : ℕ) → Ascends es → Ascends (raised_first es x)
ascends_raised [] x a = a
ascends_raised (e ∷ es) x a = a

pub length-raised : (es : List SbEntry) (x : ℕ) → length (raised_first es x) ≡ length es
length-raised [] x = refl
length-raised (e ∷ es) x = refl

pub first_low-raised : (es : List SbEntry) (x high : ℕ) → first_low (raised_first es x) high ≡ first_low es high
first_low-raised [] x high = refl
first_low-raised (e ∷ es) x high = refl

-- What counts an entry's low or child alone holds of the raised entries too.
pub All-raised : (P : SbEntry → Type 0) (es : List SbEntry) (x : ℕ) → ((e : SbEntry) → P e → P (raised_entry e x)) → All P es → All P (raised_first es x)
All-raised P [] x keep all = all
All-raised P (e ∷ es) x keep all = grind (arith, All-head)

pub typed_raised : (e : SbEntry) (x : ℕ) → IsSbEntryTyped e → IsSbEntryTyped (raised_entry e x)
typed_raised e x t = (t.0, mod-lt (e.value + x) {m = 2 ^ 128} (lit< tt), t.2)

pub proper_raised : (level : ℕ) (es : List SbEntry) (x : ℕ) → Proper level es → Proper level (raised_first es x)
proper_raised level es x p = search (rules, ascends_raised, All-raised, typed_raised)

pub proper_left : (level : ℕ) (xs ys : List SbEntry) → Proper level (xs ++ ys) → Proper level xs
proper_left level xs ys p = search (rules, ascends_left, All-left)

pub proper_right : (level : ℕ) (xs ys : List SbEntry) → Proper level (xs ++ ys) → Proper level ys
proper_right level xs ys p = search (rules, ascends_right, All-right)

pub proper_join : (level : ℕ) (xs ys : List SbEntry) (bound : ℕ) → Proper level xs → Proper level ys → All (λ e. e.low < bound) xs → All (λ e. bound ≤ e.low) ys → Proper level (xs ++ ys)
proper_join level xs ys bound p q below from = record {
  ascends = ascends_join xs ys bound p.ascends q.ascends below from;
  children = search (rules, All-append);
  typed = All-append IsSbEntryTyped xs ys p.typed q.typed;
}

-- the order of the halves, also where nothing is known of the types
order_halves : (level : ℕ) (es : List SbEntry) → AreInOrder (λ e. IsTrue (child_fits level e.child)) (λ e next. e.low < next.low) es
    → AreInOrder (λ e. IsTrue (child_fits level e.child)) (λ e next. e.low < next.low) (first_half es)
    × AreInOrder (λ e. IsTrue (child_fits level e.child)) (λ e next. e.low < next.low) (second_half es)
order_halves level es o =
    let P : SbEntry → Type 0 = λ e. IsTrue (child_fits level e.child) in
    let a = subst Ascends (sym (take-append-drop 32 es)) (ascends es o.order) in (
      record { each = All-take P 32 es o.each; order = adjacent (take 32 es) (ascends_left (take 32 es) (drop 32 es) a) },
      record {
        each = search (rules, All-raised, All-drop);
        order = search (rules, adjacent, ascends_right);
      },
    )

pub first_node : (node half : SbNode) → IsStorable node → length node.entries.items ≡ 65 → half.level ≡ node.level → half.entries.items ≡ first_half node.entries.items → IsSbNode half
first_node node half s long level same =
    let es = node.entries.items in
    let count : length half.entries.items ≡ 32 = ap length same ∙ length-take-le 32 es (omega (arith, long)) in
    let order = subst (λ (l : ℕ). AreInOrder (λ (e : SbEntry). IsTrue (child_fits l e.child)) (λ (e next : SbEntry). e.low < next.low) (first_half es)) (sym level) (order_halves node.level es s.entries).0 in
    record {
      low_level = omega (arith, level, s.low_level);
      high_level = omega (arith, level, s.high_level);
      some = omega (arith, count);
      few = omega (arith, count);
      entries = search rules;
    }

pub second_node : (node half : SbNode) → IsStorable node → length node.entries.items ≡ 65 → half.level ≡ node.level → half.entries.items ≡ second_half node.entries.items → IsSbNode half
second_node node half s long level same =
    let es = node.entries.items in
    let count : length half.entries.items ≡ 33 = ap length same ∙ length-raised (drop 32 es) _ ∙ (let e : length (drop 32 es) ≡ 33 = omega (arith, long, length-drop 32 es) in e) in
    let order = subst (λ (l : ℕ). AreInOrder (λ (e : SbEntry). IsTrue (child_fits l e.child)) (λ (e next : SbEntry). e.low < next.low) (second_half es)) (sym level) (order_halves node.level es s.entries).1 in
    record {
      low_level = omega (arith, level, s.low_level);
      high_level = omega (arith, level, s.high_level);
      some = omega (arith, count);
      few = omega (arith, count);
      entries = search rules;
    }
