-- What a node that was read tells.
use Rattle.std.proofs.Common.{◌≡◌, ℕ, zero, suc, ◌≤◌, inl, inr, List, [], ◌∷◌, length, get_or, Some, refl, sym, ap, ◌∙◌, subst, arith}
use Rattle.bw_types.specs.declared.dated.Dated.{Dated}
use Rattle.ports.specs.Pages.{PageMap}
use Rattle.page_layout.specs.declared.life_node.LifeNode.{LifeNode}
use Rattle.page_layout.specs.declared.life_node.LifeNode.TheVariants.{Leaf, Index}
use Rattle.object_table.specs.declared.form.Form.{Form}
use Rattle.object_table.specs.declared.form.Form.TheVariants.{ByLives}
use Rattle.object_table.specs.declared.place.Place.{Place}
use Rattle.object_table.specs.Damage.{FitsPlace}
use Rattle.object_table.specs.Steps.{IsCut}
use Rattle.object_table.specs.Nodes.{FitsLevel, objects_in, entries_in}
use Rattle.object_table.specs.Lives.{lives_below}
use Rattle.object_table.specs.Stored.{index_of, leaf_of}
use Rattle.object_table.proofs.Order.{some_begun}
use Rattle.object_table.proofs.Nodes.{node_on-fits, some_entries, some_objects}

some_in : (form : Form) (level : ℕ) (node : LifeNode) (bytes : List ℕ) → 2 ≤ level → FitsLevel form level node bytes → 1 ≤ length (entries_in node)
some_in form zero node bytes high f = absurd (omega (arith, high))
some_in form (suc zero) node bytes high f = absurd (omega (arith, high))
some_in form (suc (suc level)) node bytes high f = some_entries form level node bytes f

-- An index node that keeps to its place has an entry on the way.
pub begun_at : (form : Form) (level : ℕ) (place : Place) (node : LifeNode) (bytes : List ℕ) (k : ℕ) → 2 ≤ level → FitsPlace form level place node bytes → IsCut (entries_in node) k place.sought → 1 ≤ k
begun_at form level place node bytes k high f cut =
    elim f.admitted.leads [
      | inl leaf ↦ absurd (omega (arith, high, leaf))
      | inr first ↦ some_begun (entries_in node) k place.sought place.high cut (some_in form level node bytes high f.fits) first
    ]

pub leaf_lives : (form : Form) (level : ℕ) (pages : PageMap) (page : ℕ) (node : LifeNode) (bytes : List ℕ)
    → level ≡ 1 → FitsLevel form level node bytes → pages page ≡ Some bytes → objects_in node ≡ lives_below form level pages page
leaf_lives form level pages page node bytes one f there =
    ap objects_in (sym (node_on-fits form pages page level node bytes there f)) ∙ ap (λ (n : ℕ). lives_below form n pages page) (sym one)

pub leaf_some : (form : Form) (level : ℕ) (node : LifeNode) (bytes : List ℕ) → level ≡ 1 → FitsLevel form level node bytes → 1 ≤ length (objects_in node)
leaf_some form level node bytes one f = some_objects form node bytes (subst (λ (n : ℕ). FitsLevel form n node bytes) one f)

-- A leaf by lives is that of its objects, and an index node that of its entries.
pub leaf_is : (level : ℕ) (node : LifeNode) (bytes : List ℕ) → level ≡ 1 → FitsLevel ByLives level node bytes → node ≡ leaf_of (objects_in node)
leaf_is level (Leaf objects) bytes one f = refl
leaf_is level (Index l entries) bytes one f = absurd (omega (arith, one, f.at_level, f.rules.low_level))

pub index_is : (level : ℕ) (node : LifeNode) (bytes : List ℕ) → 2 ≤ level → FitsLevel ByLives level node bytes → node ≡ index_of level (entries_in node)
index_is level (Leaf objects) bytes high f = absurd (omega (arith, high, f.at_level))
index_is level (Index l entries) bytes high f = ap (λ (n : ℕ). Index n entries) f.at_level

pub first_in : (objects lives : List Dated) (d : Dated) → 1 ≤ length objects → d ≡ get_or objects 0 d → objects ≡ lives → (rest : List Dated) × (lives ≡ d ∷ rest)
first_in [] lives d some is same = absurd (omega (arith, some))
first_in (o ∷ objects) lives d some is same = (objects, sym same ∙ ap (λ (x : Dated). x ∷ objects) (sym is))
