-- The nodes in another order.
use Rattle.std.proofs.lemmas.List.{append-nil, drop_all, take_all}
use Rattle.std.proofs.Common.{arith, ap, length, take, drop, ◌≡◌, ℕ, zero, suc, ◌==◌, List, [], ◌∷◌, ◌++◌, Option, sym, ◌∙◌, inl, inr, IsPermutation}
use Rattle.std.proofs.lemmas.Bool.{or_parts}
use Rattle.std.proofs.lemmas.List.Folds.{list_any-append}
use Rattle.std.proofs.lemmas.List.Sorted.{list_any-IsPermutation}
use Rattle.ports.specs.Frame.{names_page}
use Rattle.ports.specs.Pages.{PageMap}
use Rattle.page_layout.specs.Footprint.{NamesNoneTwice}
use Rattle.mvsb_tree.specs.Stands.{NodeStands, RootStands, StandsOnWay}
use Rattle.mvsb_tree.specs.Steps.{root_level}
use Rattle.key_check.specs.KeyTrees.{RootsKeep}
use Rattle.key_check.specs.declared.step.Step.{Step}

-- What one list names the other does.
abbrev NamesToo : List ℕ → List ℕ → Type 0
NamesToo xs ys = (page : ℕ) → names_page ys page ≡ names_page xs page

node_moved : (m : PageMap) (xs ys : List ℕ) (level page version low : ℕ) (high : Option ℕ) (least : ℕ) → NamesToo xs ys → NodeStands m xs level page version low high least
    → NodeStands m ys level page version low high least
node_moved m xs ys level page version low high least same s = record {
  listed = same page ∙ s.listed;
  spelled = s.spelled;
  rules = s.rules;
  typed = s.typed;
  at_level = s.at_level;
  differ = s.differ;
  begins = s.begins;
  ends = s.ends;
  filled = s.filled;
}

way_moved : (level : ℕ) (m : PageMap) (xs ys : List ℕ) (page version key low : ℕ) (high : Option ℕ) (least : ℕ) → NamesToo xs ys → StandsOnWay level m xs page version key low high least
    → StandsOnWay level m ys page version key low high least
way_moved zero m xs ys page version key low high least same s = s
way_moved (suc zero) m xs ys page version key low high least same s = node_moved m xs ys 1 page version low high least same s
way_moved (suc (suc level)) m xs ys page version key low high least same s = (
  node_moved m xs ys (suc (suc level)) page version low high least same s.0,
  s.1,
  s.2,
  way_moved (suc level) m xs ys s.1 version key _ _ 24 same s.3,
)

root_moved : (m : PageMap) (xs ys : List ℕ) (root version key : ℕ) → NamesToo xs ys → RootStands m xs root version key → RootStands m ys root version key
root_moved m xs ys root version key same (inl none) = inl none
root_moved m xs ys root version key same (inr s) = inr (s.0, way_moved (root_level m root) m xs ys root version key 0 _ 1 same s.1)

pub keeps_moved : (m : PageMap) (xs ys : List ℕ) (count : ℕ) (steps : List Step) (to : ℕ) → IsPermutation xs ys → RootsKeep m xs count steps to → RootsKeep m ys count steps to
keeps_moved m xs ys count steps to p keeps = λ version key before fits.
    let k = keeps version key before fits in
    record {
      stands = root_moved m xs ys _ version key (λ page. sym (list_any-IsPermutation (λ n. n == page) xs ys p)) k.stands;
      balanced = k.balanced;
    }

-- The first of two lists that name none twice names none twice.
pub first_once : (xs ys : List ℕ) → NamesNoneTwice (xs ++ ys) → NamesNoneTwice xs
first_once [] ys once = tt
first_once (x ∷ xs) ys once = ((or_parts (names_page xs x) (names_page ys x) (sym (list_any-append (λ p. p == x) xs ys) ∙ once.0)).0, first_once xs ys once.1)

-- A list that is written back whole is what was written.
pub written : (n : ℕ) (xs ws : List ℕ) → n ≡ length xs → length ws ≡ length xs → take n (ws ++ drop (length ws) xs) ≡ ws
written n xs ws many same =
    ap (λ (l : List ℕ). take n (ws ++ l)) (drop_all (length ws) xs (omega (arith, same))) ∙ ap (take n) (append-nil ws) ∙ take_all n ws (omega (arith, same, many))
