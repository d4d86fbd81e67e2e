-- A whole table that was read.
use Rattle.std.proofs.Common.{◌≡◌, ℕ, ◌-◌, ◌<◌, ◌==◌, false, IsTrue, List, [], ◌∷◌, ◌++◌, length, refl, sym, ap, ◌∙◌, subst, arith}
use Rattle.std.specs.List.{AllByRecursion}
use Rattle.std.specs.List.Sorted.{IsStrictlySortedBy}
use Rattle.std.specs.Ordering.{nat_cmp}
use Rattle.std.specs.declared.cmp.Ordering.TheVariants.{Less}
use Rattle.std.proofs.lemmas.Bool.{ne_eqb}
use Rattle.std.proofs.lemmas.Cmp.{ranked}
use Rattle.std.proofs.lemmas.Map.Keys.{sorted_head, sorted_tail}
use Rattle.bw_types.specs.declared.tree.Tree.{Tree}
use Rattle.ports.specs.Calls.{WasRead}
use Rattle.ports.specs.Frame.{names_page}
use Rattle.ports.specs.declared.pages.Pages.{Ghosts}
use Rattle.page_layout.specs.Footprint.{NamesNoneTwice}
use Rattle.object_table.specs.declared.form.Form.{Form}
use Rattle.object_table.specs.Lives.{table_pages}
use Rattle.image_check.specs.Passing.{ReadsSeen, SeesOwn}
use Rattle.ports.specs.Pages.{PageMap}
use Rattle.image_check.specs.Reading.{AreItsPages, ReadsEachOnce}

less_below : (a b : ℕ) → nat_cmp a b ≡ Less → a < b
less_below a b e = ranked a b Less (sym e)

none_same : (k : ℕ) (ks : List ℕ) → AllByRecursion (λ y. nat_cmp k y ≡ Less) ks → names_page ks k ≡ false
none_same k [] all = refl
none_same k (x ∷ xs) all =
    let above = less_below k x all.0 in
    let other : (x == k) ≡ false = ne_eqb x k (λ e. absurd (omega (arith, e, above))) in
    rw other (none_same k xs all.1)

-- keys in strict order name no page twice
pub sorted_once : (ks : List ℕ) → IsStrictlySortedBy nat_cmp ks → NamesNoneTwice ks
sorted_once [] s = tt
sorted_once (k ∷ ks) s = (none_same k ks (sorted_head nat_cmp k ks s), sorted_once ks (sorted_tail nat_cmp k ks s))

module _ {P : Type 0} (g : Ghosts P) where
  pub reads_each : (form : Form) (table : Tree) (before seen : List ℕ) (old new : P) → before ≡ [] → IsStrictlySortedBy nat_cmp seen → ReadsSeen g (length before) (length seen) old new
      → (IsTrue (g.tells old) → SeesOwn (table_pages form (g.map old) table) before seen) → ReadsEachOnce g form table old new
  reads_each form table before seen old new none sorted reads sees = record {
    seen = seen;
    once = sorted_once seen sorted;
    read = subst (λ (n : ℕ). WasRead g n old new) (let all : length seen - length before ≡ length seen = omega (arith, ap (length {A = ℕ}) none) in all) reads.read;
    own = λ tells p named. ap (λ (ps : List ℕ). names_page (ps ++ table_pages form (g.map old) table) p) (sym none) ∙ sees tells p named;
  }

-- the pages that were seen, where none was before
pub its_pages : (form : Form) (map : PageMap) (table : Tree) (before seen : List ℕ) → before ≡ [] → IsStrictlySortedBy nat_cmp seen
    → ((p : ℕ) → names_page seen p ≡ names_page (before ++ table_pages form map table) p) → AreItsPages form map table seen
its_pages form map table before seen none sorted names = record {
  once = sorted_once seen sorted;
  same = λ p. names p ∙ ap (λ (ps : List ℕ). names_page (ps ++ table_pages form map table) p) none;
}
