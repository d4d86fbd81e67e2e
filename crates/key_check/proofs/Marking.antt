-- What the marks of points tell of a node's entries.
use Rattle.std.proofs.Common.{◌≡◌, ℕ, Bool, ◌-◌, ◌≤◌, ◌==◌, ◌||◌, ◌&&◌, nat_le, List, [], ◌∷◌, Some, slice_get, length, map, get_or, refl, sym, ◌∙◌, ap, subst, arith, inl, inr}
use Rattle.std.specs.List.{list_any}
use Rattle.std.specs.List.Sorted.{IsNonDecreasing, IsPermutation}
use Rattle.std.proofs.lemmas.Bool.{lt-leb}
use Rattle.std.proofs.lemmas.Bool.Decides.{leb_tells}
use Rattle.std.proofs.lemmas.List.Folds.{list_any_at, list_any_none}
use Rattle.std.proofs.lemmas.List.Sorted.{list_any-IsPermutation}
use Rattle.bw_types.specs.declared.point.Point.{Point}
use Rattle.page_layout.specs.declared.mv_node.MvEntry.{MvEntry}
use Rattle.mvsb_tree.specs.Stands.{has_come, is_marked, is_past, key_of}
use Rattle.key_check.specs.Marks.{AreMarksOf}
use Rattle.key_check.specs.declared.marks.Marks.{Marks}

-- Of numbers in order the last one tells whether one is as great.
pub by_last : (xs : List ℕ) (v last : ℕ) → IsNonDecreasing xs → 1 ≤ length xs → ((d : ℕ) → last ≡ get_or xs (length xs - 1) d) → nat_le v last ≡ list_any (λ x. nat_le v x) xs
by_last xs v last up some at = elim (leb_tells v last) [
  | inl p ↦ p.0 ∙ sym (list_any_at (λ x. nat_le v x) xs (length xs - 1) 0 (omega (arith, some)) (ap (λ (n : ℕ). nat_le v n) (sym (at 0)) ∙ p.0))
  | inr p ↦ p.0 ∙ sym (list_any_none (λ x. nat_le v x) xs (λ k d h. lt-leb v (get_or xs k d) (omega (arith, p.1, at d, up k (length xs - 1) d (omega (arith, h)) (omega (arith, some))))))
]

any_map : {X : Type 0} (test : ℕ → Bool) (f : X → ℕ) (xs : List X) → list_any test (map f xs) ≡ list_any (λ x. test (f x)) xs
any_map test f [] = refl
any_map test f (x ∷ xs) = ap (λ (b : Bool). test (f x) || b) (any_map test f xs)

any_of : {X : Type 0} (test : ℕ → Bool) (f : X → ℕ) (xs : List X) (ys : List ℕ) → IsPermutation (map f xs) ys → list_any test ys ≡ list_any (λ x. test (f x)) xs
any_of test f xs ys p = sym (list_any-IsPermutation test (map f xs) ys p) ∙ any_map test f xs

come_is : (points : List Point) (marks : Marks) (v : ℕ) → AreMarksOf points marks → list_any (λ x. nat_le v x) marks.versions.items ≡ has_come points v
come_is points marks v m = any_of (λ x. nat_le v x) (λ p. p.version) points marks.versions.items m.versions

pub past_is : (points : List Point) (marks : Marks) (e : MvEntry) → AreMarksOf points marks
    → (list_any (λ v. nat_le e.start v) marks.versions.items && (e.end == 4294967295 || list_any (λ v. nat_le e.end v) marks.versions.items)) ≡ is_past points e
past_is points marks e m =
    ap (λ (b : Bool). b && (e.end == 4294967295 || list_any (λ v. nat_le e.end v) marks.versions.items)) (come_is points marks e.start m)
    ∙ ap (λ (b : Bool). has_come points e.start && (e.end == 4294967295 || b)) (come_is points marks e.end m)

pub key_is : (points : List Point) (marks : Marks) (key : ℕ) → AreMarksOf points marks → (key == 0 || list_any (λ k. k == key) marks.keys.items) ≡ is_marked points key
key_is points marks key m = ap (λ (b : Bool). key == 0 || b) (any_of (λ k. k == key) key_of points marks.keys.items m.keys)

pub nonempty : (xs : List ℕ) (x : ℕ) → slice_get xs (length xs - 1) ≡ Some x → 1 ≤ length xs
nonempty [] x e = cc
nonempty (y ∷ xs) x e = omega arith

-- The same over lists that the marks lend.
pub past_in : (points : List Point) (marks : Marks) (e : MvEntry) (vs : List ℕ) → AreMarksOf points marks → vs ≡ marks.versions.items
    → (list_any (λ v. nat_le e.start v) vs && (e.end == 4294967295 || list_any (λ v. nat_le e.end v) vs)) ≡ is_past points e
past_in points marks e vs m same =
    subst (λ (xs : List ℕ). (list_any (λ v. nat_le e.start v) xs && (e.end == 4294967295 || list_any (λ v. nat_le e.end v) xs)) ≡ is_past points e) (sym same) (past_is points marks e m)

pub key_in : (points : List Point) (marks : Marks) (key : ℕ) (ks : List ℕ) → AreMarksOf points marks → ks ≡ marks.keys.items → (key == 0 || list_any (λ k. k == key) ks) ≡ is_marked points key
key_in points marks key ks m same = subst (λ (xs : List ℕ). (key == 0 || list_any (λ k. k == key) xs) ≡ is_marked points key) (sym same) (key_is points marks key m)
