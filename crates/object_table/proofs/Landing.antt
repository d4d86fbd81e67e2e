-- A node with the object, stored in one page or in two.
use Rattle.std.proofs.Common.{◌≡◌, ℕ, suc, List, ◌∷◌, ◌++◌, Some, None, IsSome, refl, sym, ap, ◌∙◌, subst}
use Rattle.bw_types.specs.declared.dated.Dated.{Dated}
use Rattle.ports.specs.Pages.{PageMap}
use Rattle.ports.specs.Frame.{AgreeOn, AreInMap, Replaces}
use Rattle.page_layout.specs.Footprint.{NamesNoneTwice}
use Rattle.page_layout.specs.LifeNode.{life_node_page}
use Rattle.page_layout.specs.declared.life_node.LifeNode.{LifeNode}
use Rattle.page_layout.specs.declared.life_node.LifeEntry.{LifeEntry}
use Rattle.object_table.specs.declared.form.Form.TheVariants.{ByLives}
use Rattle.object_table.specs.Keys.{low_key}
use Rattle.object_table.specs.Nodes.{FitsLevel, node_on, entries_in}
use Rattle.object_table.specs.Lives.{lives_below, pages_below}
use Rattle.object_table.specs.Edits.{IsPutIn}
use Rattle.object_table.specs.Entered.{IsEntered}
use Rattle.object_table.specs.Stands.{NodeStands, KeepsItsLow, fewest}
use Rattle.object_table.specs.Stored.{IsWhole, AreHalves}
use Rattle.object_table.proofs.Clearing.{all_in_map}
use Rattle.object_table.proofs.Footprints.{page_apart, page_kept, in_list_some, apart_from_missing, replaced_node, replaced_two, two_names, two_once}
use Rattle.object_table.proofs.Frames.{agree_left, agree_right}
use Rattle.object_table.proofs.Nodes.{node_on-fits}
use Rattle.object_table.proofs.Standing.{node_pages, node_lives, NodeHolds, join_stands, holds-frame, lives-frame, list_pages-frame, holds-there, pages_on, lives_on}

-- The node takes the place of the old one: over the pages after the change below it would stand for the
-- objects with the new one.
pub record ListEntered (level : ℕ) (m0 m1 : PageMap) (old new : LifeNode) (low high least : ℕ) (d : Dated) : Type 0 where
  pub holds : NodeHolds level m1 new low high least
  pub lives : IsPutIn (node_lives level m0 old) (node_lives level m1 new) d
  pub change : Replaces (node_pages level m0 old) (node_pages level m1 new) m0 m1
  pub once : NamesNoneTwice (node_pages level m1 new)

-- So do two nodes, of which the last begins at `middle`.
pub record HalvesEntered (level : ℕ) (m0 m1 : PageMap) (old first last : LifeNode) (low middle high : ℕ) (d : Dated) : Type 0 where
  pub holds_first : NodeHolds level m1 first low middle (fewest ByLives (suc level))
  pub holds_last : NodeHolds level m1 last middle high (fewest ByLives (suc level))
  pub lives : IsPutIn (node_lives level m0 old) (node_lives level m1 first ++ node_lives level m1 last) d
  pub change : Replaces (node_pages level m0 old) (node_pages level m1 first ++ node_pages level m1 last) m0 m1
  pub once : NamesNoneTwice (node_pages level m1 first ++ node_pages level m1 last)

some_there : (m : PageMap) (page : ℕ) (bytes : List ℕ) → m page ≡ Some bytes → IsSome (m page)
some_there m page bytes e = subst IsSome (sym e) refl

pub landed_whole : (level : ℕ) (m0 m1 m2 : PageMap) (page low high least : ℕ) (d : Dated) (new : LifeNode) → NodeStands ByLives m0 (suc level) page
    → NamesNoneTwice (pages_below ByLives (suc level) m0 page) → FitsLevel ByLives (suc level) new (life_node_page new)
    → ListEntered level m0 m1 (node_on ByLives m0 page) new low high least d → IsWhole new m1 m2 page → IsEntered (suc level) m0 m2 page low high least d None
landed_whole level m0 m1 m2 page low high least d new s once fits l stored =
    let old : LifeNode = node_on ByLives m0 page in
    let P0 : List ℕ = node_pages level m0 old in
    let P1 : List ℕ = node_pages level m1 new in
    let was = pages_on level m0 page old refl in
    let once0 = subst NamesNoneTwice was once in
    let kept = page_kept P0 P1 m0 m1 page l.change (some_there m0 page s.bytes s.there) once0.0 in
    let agree : AgreeOn P1 m1 m2 = λ p named. stored.1 p (page_apart page P1 kept.0 p named) in
    let on = node_on-fits ByLives m2 page (suc level) new (life_node_page new) stored.0 fits in
    let pages : pages_below ByLives (suc level) m2 page ≡ page ∷ P1 = pages_on level m2 page new on ∙ ap (λ (ps : List ℕ). page ∷ ps) (list_pages-frame level m1 m2 (entries_in new) agree) in
    let lives : lives_below ByLives (suc level) m2 page ≡ node_lives level m1 new = lives_on level m2 page new on ∙ lives-frame level m1 m2 new agree in
    let old_lives = lives_on level m0 page old refl in
    let change = replaced_node P0 P1 (page ∷ P1) m0 m1 m2 page l.change (λ p. refl) stored.1 in
    record {
      stands = join_stands level m2 page low high least new stored.0 fits (holds-frame level m1 m2 new low high least agree l.holds);
      once = subst NamesNoneTwice (sym pages) (kept.0, l.once);
      change = subst (λ (ps : List ℕ). Replaces ps (pages_below ByLives (suc level) m2 page) m0 m2) (sym was) (subst (λ (ps : List ℕ). Replaces (page ∷ P0) ps m0 m2) (sym pages) change);
      lives = subst (λ (ds : List Dated). IsPutIn ds (lives_below ByLives (suc level) m2 page) d) (sym old_lives) (subst (λ (ds : List Dated). IsPutIn (node_lives level m0 old) ds d) (sym lives) l.lives);
    }

pub landed_halves : (level : ℕ) (m0 m1 m2 : PageMap) (page low high least : ℕ) (d : Dated) (first last : LifeNode) (second : LifeEntry) → NodeStands ByLives m0 (suc level) page
    → NamesNoneTwice (pages_below ByLives (suc level) m0 page)
    → FitsLevel ByLives (suc level) first (life_node_page first) → FitsLevel ByLives (suc level) last (life_node_page last)
    → HalvesEntered level m0 m1 (node_on ByLives m0 page) first last low (low_key second) high d → KeepsItsLow second (node_lives level m1 last)
    → AreHalves first last m1 m2 page second.child → IsEntered (suc level) m0 m2 page low high least d (Some second)
landed_halves level m0 m1 m2 page low high least d first last second s once fits_first fits_last l keeps stored =
    let old : LifeNode = node_on ByLives m0 page in
    let P0 : List ℕ = node_pages level m0 old in
    let F : List ℕ = node_pages level m1 first in
    let B : List ℕ = node_pages level m1 last in
    let few : ℕ = fewest ByLives (suc level) in
    let was = pages_on level m0 page old refl in
    let once0 = subst NamesNoneTwice was once in
    let kept = page_kept P0 (F ++ B) m0 m1 page l.change (some_there m0 page s.bytes s.there) once0.0 in
    let here : IsSome (m1 page) = subst IsSome (sym kept.1) (some_there m0 page s.bytes s.there) in
    let differ = apart_from_missing m1 page second.child here stored.unused in
    let there : AreInMap m1 (F ++ B) = all_in_map ByLives F B m1 (holds-there level m1 first low (low_key second) few l.holds_first) (holds-there level m1 last (low_key second) high few l.holds_last) in
    let none = in_list_some m1 (F ++ B) second.child there stored.unused in
    let agree : AgreeOn (F ++ B) m1 m2 = λ p named. stored.others p (page_apart page (F ++ B) kept.0 p named) (page_apart second.child (F ++ B) none p named) in
    let agree_first = agree_left F B m1 m2 agree in
    let agree_last = agree_right F B m1 m2 agree in
    let on_first = node_on-fits ByLives m2 page (suc level) first (life_node_page first) stored.here fits_first in
    let on_last = node_on-fits ByLives m2 second.child (suc level) last (life_node_page last) stored.there fits_last in
    let pages_first : pages_below ByLives (suc level) m2 page ≡ page ∷ F = pages_on level m2 page first on_first ∙ ap (λ (ps : List ℕ). page ∷ ps) (list_pages-frame level m1 m2 (entries_in first) agree_first) in
    let pages_last : pages_below ByLives (suc level) m2 second.child ≡ second.child ∷ B = pages_on level m2 second.child last on_last ∙ ap (λ (ps : List ℕ). second.child ∷ ps) (list_pages-frame level m1 m2 (entries_in last) agree_last) in
    let lives_first : lives_below ByLives (suc level) m2 page ≡ node_lives level m1 first = lives_on level m2 page first on_first ∙ lives-frame level m1 m2 first agree_first in
    let lives_last : lives_below ByLives (suc level) m2 second.child ≡ node_lives level m1 last = lives_on level m2 second.child last on_last ∙ lives-frame level m1 m2 last agree_last in
    let both : pages_below ByLives (suc level) m2 page ++ pages_below ByLives (suc level) m2 second.child ≡ (page ∷ F) ++ (second.child ∷ B) =
    ap (λ (ps : List ℕ). ps ++ pages_below ByLives (suc level) m2 second.child) pages_first ∙ ap (λ (ps : List ℕ). (page ∷ F) ++ ps) pages_last in
    let all_lives : lives_below ByLives (suc level) m2 page ++ lives_below ByLives (suc level) m2 second.child ≡ node_lives level m1 first ++ node_lives level m1 last =
    ap (λ (ds : List Dated). ds ++ lives_below ByLives (suc level) m2 second.child) lives_first ∙ ap (λ (ds : List Dated). node_lives level m1 first ++ ds) lives_last in
    let change = replaced_two P0 (F ++ B) ((page ∷ F) ++ (second.child ∷ B)) m0 m1 m2 page second.child l.change stored.unused none (two_names page second.child F B) stored.others in
    record {
      stands = (
        join_stands level m2 page low (low_key second) few first stored.here fits_first (holds-frame level m1 m2 first low (low_key second) few agree_first l.holds_first),
        join_stands level m2 second.child (low_key second) high few last stored.there fits_last (holds-frame level m1 m2 last (low_key second) high few agree_last l.holds_last),
        subst (λ (ds : List Dated). KeepsItsLow second ds) (sym lives_last) keeps,
      );
      once = subst NamesNoneTwice (sym both) (two_once page second.child F B l.once kept.0 none differ);
      change = subst (λ (ps : List ℕ). Replaces ps (pages_below ByLives (suc level) m2 page ++ pages_below ByLives (suc level) m2 second.child) m0 m2) (sym was)
          (subst (λ (ps : List ℕ). Replaces (page ∷ P0) ps m0 m2) (sym both) change);
      lives = subst (λ (ds : List Dated). IsPutIn ds (lives_below ByLives (suc level) m2 page ++ lives_below ByLives (suc level) m2 second.child) d) (sym (lives_on level m0 page old refl))
          (subst (λ (ds : List Dated). IsPutIn (node_lives level m0 old) ds d) (sym all_lives) l.lives);
    }
