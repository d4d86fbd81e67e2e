-- How few levels a table has.
use Rattle.std.proofs.Common.{ℕ, zero, suc, ◌*◌, ◌^◌, ◌<◌, ◌≤◌, List, [], ◌∷◌, length, sym, subst, arith, length-append}
use Rattle.std.specs.List.{flat_map}
use Rattle.std.proofs.Math.Nat.{zero-mul, suc-mul}
use Rattle.bw_types.specs.declared.dated.Dated.{Dated}
use Rattle.bw_types.specs.declared.tree.Tree.{Tree}
use Rattle.ports.specs.Pages.{PageMap}
use Rattle.page_layout.specs.declared.life_node.LifeEntry.{LifeEntry}
use Rattle.object_table.specs.declared.form.Form.{Form}
use Rattle.object_table.specs.declared.form.Form.TheVariants.{ByLives, ByIds}
use Rattle.object_table.specs.Keys.{low_key, key_end}
use Rattle.object_table.specs.Nodes.{entries_on}
use Rattle.object_table.specs.Lives.{lives_below}
use Rattle.object_table.specs.Stands.{first_low, EachStands, fewest, StandsBelow, RootStands, TableStands}
use Rattle.object_table.proofs.Within.{ChildStands, own_lives}

-- the fewest objects below a node that is not the root, of one level more than this
abbrev least_lives : ℕ → ℕ
least_lives zero = 7
least_lives (suc level) = 100 * least_lives level

each_many : (own : LifeEntry → List Dated) (stands : LifeEntry → ℕ → Type 0) (least : ℕ) → ((e : LifeEntry) (to : ℕ) → stands e to → least ≤ length (own e))
    → (es : List LifeEntry) (high n : ℕ) → EachStands stands es high → n ≤ length es → n * least ≤ length (flat_map own es)
each_many own stands least each es high zero s h = omega (arith, zero-mul least)
each_many own stands least each [] high (suc n) s h = absurd (omega (arith, h))
each_many own stands least each (e ∷ es) high (suc n) s h =
    omega (arith, suc-mul n least, length-append (own e) (flat_map own es), each e (first_low es high) s.0, each_many own stands least each es high n s.1 (omega (arith, h)))

fewest_one : (form : Form) → 7 ≤ fewest form 1
fewest_one ByLives = omega arith
fewest_one ByIds = omega arith

many_lives : (form : Form) (level : ℕ) (m : PageMap) (page low high : ℕ) → StandsBelow form (suc level) m page low high (fewest form (suc level)) → least_lives level ≤ length (lives_below form (suc level) m page)
many_lives form zero m page low high s = omega (arith, s.filled, fewest_one form)
many_lives form (suc level) m page low high s =
    each_many (own_lives form (suc level) m) (ChildStands form (suc level) m) (least_lives level) (λ e to stands. many_lives form level m e.child (low_key e) to stands.0)
    (entries_on form m page) high 100 s.1 s.0.filled

root_many : (form : Form) (level : ℕ) (m : PageMap) (root : ℕ) → StandsBelow form (suc (suc level)) m root 0 key_end 1 → least_lives level ≤ length (lives_below form (suc (suc level)) m root)
root_many form level m root s =
    let one = each_many (own_lives form (suc level) m) (ChildStands form (suc level) m) (least_lives level) (λ e to stands. many_lives form level m e.child (low_key e) to stands.0)
    (entries_on form m root) key_end 1 s.1 s.0.filled in
    omega (arith, one)

least_seven : (level : ℕ) → 7 ≤ least_lives level
least_seven zero = omega arith
least_seven (suc level) = omega (arith, least_seven level)

few_levels : (form : Form) (levels : ℕ) (m : PageMap) (root : ℕ) → RootStands form levels m root → length (lives_below form levels m root) < 2 ^ 28 → levels ≤ 5
few_levels form zero m root s few = omega arith
few_levels form (suc zero) m root s few = omega arith
few_levels form (suc (suc zero)) m root s few = omega arith
few_levels form (suc (suc (suc zero))) m root s few = omega arith
few_levels form (suc (suc (suc (suc zero)))) m root s few = omega arith
few_levels form (suc (suc (suc (suc (suc zero))))) m root s few = omega arith
few_levels form (suc (suc (suc (suc (suc (suc level)))))) m root s few =
    absurd (omega (arith, root_many form (suc (suc (suc (suc level)))) m root s, least_seven level, few))

pub table_low : (form : Form) (m : PageMap) (table : Tree) (lives : List Dated) → TableStands form m table lives → length lives < 2 ^ 28 → table.levels ≤ 5
table_low form m table lives s few = few_levels form table.levels m table.root s.nodes (subst (λ (ds : List Dated). length ds < 2 ^ 28) (sym s.has) few)
