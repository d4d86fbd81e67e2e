-- The directory with a change of the root more.
use Rattle.std.proofs.Common.{◌≡◌, ℕ, ◌+◌, ◌%◌, ◌^◌, ◌<◌, Bool, true, false, IsTrue, nat_le, List, [], ◌∷◌, cond, refl, sym, ap, ◌∙◌, arith}
use Rattle.std.proofs.Math.Nat.{mod-add-mod}
use Rattle.std.proofs.Math.Bool.{and-true}
use Rattle.std.proofs.lemmas.Bool.{le-leb, lt-leb}
use Rattle.std.proofs.lemmas.List.Elements.{All-cons}
use Rattle.std.proofs.lemmas.List.Sums.{sum_by-cons}
use Rattle.bw_types.specs.Dominance.{dominated_weight, is_dominated}
use Rattle.bw_types.specs.declared.point.Point.{Point}
use Rattle.bw_types.specs.declared.tree.Tree.{Tree}
use Rattle.ports.specs.Pages.{PageMap}
use Rattle.ports.specs.Frame.{Replaces}
use Rattle.ports.specs.FrameLaws.{Replaces-same}
use Rattle.sb_tree.specs.Stands.{SbStands}
use Rattle.sb_tree.specs.Steps.{tree_pages}
use Rattle.mvsb_tree.specs.Led.{Led}

-- a change of the root at a version
abbrev pub change_at : ℕ → ℕ → Point
change_at v more = record { keys = []; version = v; weight = more }

weight_with : (changes : List Point) (v more w : ℕ) → dominated_weight 0 (change_at v more ∷ changes) [] w ≡ cond (nat_le v w) more 0 + dominated_weight 0 changes [] w
weight_with changes v more w =
    sum_by-cons (λ (x : Point). cond (is_dominated 0 [] w x) x.weight 0) (change_at v more) changes
    ∙ ap (λ (b : Bool). cond b more 0 + dominated_weight 0 changes [] w) (and-true (nat_le v w))

pub led_same : (m : PageMap) (tree : Tree) (changes : List Point) (v root top : ℕ) → SbStands m tree changes → top ≡ root → Led m m tree tree changes v root top
led_same m tree changes v root top s same = record {
  changes_after = changes;
  stands = s;
  some = λ other none. other none same;
  versions = λ test mine all. all;
  early = λ w less. refl;
  late = λ w late fits is. is ∙ sym same;
  replaces = Replaces-same (tree_pages m tree) m;
}

pub led_more : (m0 m1 : PageMap) (old new : Tree) (changes : List Point) (v root top more : ℕ) → v < 2 ^ 32 → (root + more) % 2 ^ 128 ≡ top → SbStands m0 old changes
    → SbStands m1 new (change_at v more ∷ changes) → Replaces (tree_pages m0 old) (tree_pages m1 new) m0 m1 → Led m0 m1 old new changes v root top
led_more m0 m1 old new changes v root top more fits is before after change = record {
  changes_after = change_at v more ∷ changes;
  stands = after;
  some = λ other none. (let empty = after.some none in cc);
  versions = λ test mine all. All-cons (λ (c : Point). IsTrue (test c.version)) (change_at v more) changes mine all;
  early = λ w less.
      let w_fits : w < 2 ^ 32 = omega (arith, less, fits) in
      let over : nat_le v w ≡ false = lt-leb v w less in
      let same : dominated_weight 0 (change_at v more ∷ changes) [] w ≡ dominated_weight 0 changes [] w = omega (arith, weight_with changes v more w, ap (λ (b : Bool). cond b more 0) over) in
      after.values w w_fits ∙ ap (λ (n : ℕ). n % 2 ^ 128) same ∙ sym (before.values w w_fits);
  late = λ w late w_fits root_is.
      let come : nat_le v w ≡ true = le-leb v w late in
      let sum : ℕ = dominated_weight 0 changes [] w in
      let whole : dominated_weight 0 (change_at v more ∷ changes) [] w ≡ sum + more = omega (arith, weight_with changes v more w, ap (λ (b : Bool). cond b more 0) come) in
      after.values w w_fits ∙ ap (λ (n : ℕ). n % 2 ^ 128) whole ∙ sym (mod-add-mod sum (2 ^ 128) more)
      ∙ ap (λ (n : ℕ). (n + more) % 2 ^ 128) (sym (before.values w w_fits) ∙ root_is) ∙ is;
  replaces = change;
}
