-- A node in memory, with what stands below it: the same whether or not it is stored.
use Rattle.std.proofs.Common.{◌≡◌, ℕ, zero, suc, ◌<◌, ◌≤◌, true, List, [], ◌∷◌, length, Some, refl, sym, ap, ◌∙◌, subst, arith, length-append}
use Rattle.std.specs.List.{All, flat_map}
use Rattle.bw_types.specs.declared.dated.Dated.{Dated}
use Rattle.ports.specs.Pages.{PageMap}
use Rattle.ports.specs.Frame.{names_page, AgreeOn, AreInMap}
use Rattle.page_layout.specs.LifeNode.{life_node_page}
use Rattle.page_layout.specs.declared.life_node.LifeNode.{LifeNode}
use Rattle.page_layout.specs.declared.life_node.LifeEntry.{LifeEntry}
use Rattle.object_table.specs.declared.form.Form.{Form}
use Rattle.object_table.specs.declared.form.Form.TheVariants.{ByLives}
use Rattle.object_table.specs.Keys.{key, low_key}
use Rattle.object_table.specs.Nodes.{FitsLevel, node_on, objects_in, entries_in, entries_on}
use Rattle.object_table.specs.Lives.{lives_below, pages_below}
use Rattle.object_table.specs.Stands.{NodeStands, first_low, KeepsItsLow, EachStands, fewest, StandsBelow}
use Rattle.object_table.proofs.Clearing.{own_pages, flat_nothing, pages-step}
use Rattle.object_table.proofs.Frames.{flat_same, each_same, there_each, same_pages, same_lives, same_stands, all_there}
use Rattle.object_table.proofs.Nodes.{node_on-fits, some_entries, some_objects}
use Rattle.object_table.proofs.Within.{ChildStands, own_lives}

abbrev pub Child : ℕ → PageMap → LifeEntry → ℕ → Type 0
Child level m e to = ChildStands ByLives level m e to

-- the pages below a list of entries
abbrev pub list_pages : ℕ → PageMap → List LifeEntry → List ℕ
list_pages level m es = flat_map (own_pages ByLives level m) es

-- the objects below a list of entries
abbrev pub list_lives : ℕ → PageMap → List LifeEntry → List Dated
list_lives level m es = flat_map (own_lives ByLives level m) es

pub list_pages-frame : (level : ℕ) (a b : PageMap) (es : List LifeEntry) → AgreeOn (list_pages level a es) a b → list_pages level b es ≡ list_pages level a es
list_pages-frame level a b es h = flat_same (own_pages ByLives level a) (own_pages ByLives level a) (own_pages ByLives level b) a b (λ e g. same_pages ByLives level a b e.child g) es h

pub list_lives-frame : (level : ℕ) (a b : PageMap) (es : List LifeEntry) → AgreeOn (list_pages level a es) a b → list_lives level b es ≡ list_lives level a es
list_lives-frame level a b es h = flat_same (own_pages ByLives level a) (own_lives ByLives level a) (own_lives ByLives level b) a b (λ e g. same_lives ByLives level a b e.child g) es h

pub each-frame : (level : ℕ) (a b : PageMap) (es : List LifeEntry) (high : ℕ) → AgreeOn (list_pages level a es) a b → EachStands (Child level a) es high → EachStands (Child level b) es high
each-frame level a b es high h each =
    each_same (own_pages ByLives level a) (Child level a) (Child level b) a b
    (λ e to g stands. (
      same_stands ByLives level a b e.child (low_key e) to (fewest ByLives level) stands.0 g,
      subst (λ (ds : List Dated). KeepsItsLow e ds) (sym (same_lives ByLives level a b e.child g)) stands.1,
    )) es high h each

pub each-there : (level : ℕ) (m : PageMap) (es : List LifeEntry) (high : ℕ) → EachStands (Child level m) es high → AreInMap m (list_pages level m es)
each-there level m es high each =
    there_each (own_pages ByLives level m) (Child level m) m (λ e to stands. all_there ByLives level m e.child (low_key e) to (fewest ByLives level) stands.0) es high each

-- the pages below a node of the level above
abbrev pub node_pages : ℕ → PageMap → LifeNode → List ℕ
node_pages level m node = list_pages level m (entries_in node)

-- the objects of a node of the level above
abbrev pub node_lives : ℕ → PageMap → LifeNode → List Dated
node_lives zero m node = objects_in node
node_lives (suc level) m node = list_lives (suc level) m (entries_in node)

-- The node, of the level above, would stand.
abbrev pub NodeHolds : ℕ → PageMap → LifeNode → ℕ → ℕ → ℕ → Type 0
NodeHolds zero m node low high least =
    All (λ d. low ≤ key d) (objects_in node) × All (λ d. key d < high) (objects_in node) × (least ≤ length (objects_in node))
NodeHolds (suc level) m node low high least =
    (first_low (entries_in node) high ≡ low) × All (λ e. low_key e < high) (entries_in node) × (least ≤ length (entries_in node))
    × EachStands (Child (suc level) m) (entries_in node) high

pub split_stands : (level : ℕ) (m : PageMap) (page low high least : ℕ) → StandsBelow ByLives (suc level) m page low high least
    → NodeStands ByLives m (suc level) page × NodeHolds level m (node_on ByLives m page) low high least
split_stands zero m page low high least s = (s.node, (s.from, s.ends, s.filled))
split_stands (suc level) m page low high least s = (s.0.node, (s.0.begins, s.0.ends, s.0.filled, s.1))

pub node_stands : (level : ℕ) (m : PageMap) (page : ℕ) (node : LifeNode) → m page ≡ Some (life_node_page node) → FitsLevel ByLives level node (life_node_page node)
    → NodeStands ByLives m level page
node_stands level m page node there fits = record {
  bytes = life_node_page node;
  there = there;
  fits = subst (λ (n : LifeNode). FitsLevel ByLives level n (life_node_page node)) (sym (node_on-fits ByLives m page level node (life_node_page node) there fits)) fits;
}

joined : (level : ℕ) (m : PageMap) (page low high least : ℕ) → NodeStands ByLives m (suc level) page → NodeHolds level m (node_on ByLives m page) low high least
    → StandsBelow ByLives (suc level) m page low high least
joined zero m page low high least n h = record { node = n; from = h.0; ends = h.1; filled = h.2 }
joined (suc level) m page low high least n h = (record { node = n; begins = h.0; ends = h.1; filled = h.2 }, h.3)

pub join_stands : (level : ℕ) (m : PageMap) (page low high least : ℕ) (node : LifeNode) → m page ≡ Some (life_node_page node) → FitsLevel ByLives (suc level) node (life_node_page node)
    → NodeHolds level m node low high least → StandsBelow ByLives (suc level) m page low high least
join_stands level m page low high least node there fits h =
    let same = node_on-fits ByLives m page (suc level) node (life_node_page node) there fits in
    joined level m page low high least (node_stands (suc level) m page node there fits) (subst (λ (n : LifeNode). NodeHolds level m n low high least) (sym same) h)

pub holds-frame : (level : ℕ) (a b : PageMap) (node : LifeNode) (low high least : ℕ) → AgreeOn (node_pages level a node) a b → NodeHolds level a node low high least → NodeHolds level b node low high least
holds-frame zero a b node low high least g h = h
holds-frame (suc level) a b node low high least g h = (h.0, h.1, h.2, each-frame (suc level) a b (entries_in node) high g h.3)

pub lives-frame : (level : ℕ) (a b : PageMap) (node : LifeNode) → AgreeOn (node_pages level a node) a b → node_lives level b node ≡ node_lives level a node
lives-frame zero a b node g = refl
lives-frame (suc level) a b node g = list_lives-frame (suc level) a b (entries_in node) g

none_there : (p : ℕ) → names_page [] p ≡ true → ⊥
none_there p h = cc

pub no_pages : (m : PageMap) (es : List LifeEntry) → list_pages 0 m es ≡ []
no_pages m es = flat_nothing ByLives es m

pub holds-there : (level : ℕ) (m : PageMap) (node : LifeNode) (low high least : ℕ) → NodeHolds level m node low high least → AreInMap m (node_pages level m node)
holds-there zero m node low high least h = λ p named. absurd (none_there p (sym (ap (λ (ps : List ℕ). names_page ps p) (no_pages m (entries_in node))) ∙ named))
holds-there (suc level) m node low high least h = each-there (suc level) m (entries_in node) high h.3

-- what a page says that spells the node
pub pages_on : (level : ℕ) (m : PageMap) (page : ℕ) (node : LifeNode) → node_on ByLives m page ≡ node → pages_below ByLives (suc level) m page ≡ page ∷ node_pages level m node
pages_on level m page node same = pages-step ByLives level m page ∙ ap (λ (n : LifeNode). page ∷ node_pages level m n) same

lives-step : (level : ℕ) (m : PageMap) (page : ℕ) → lives_below ByLives (suc level) m page ≡ node_lives level m (node_on ByLives m page)
lives-step zero m page = refl
lives-step (suc level) m page = refl

pub lives_on : (level : ℕ) (m : PageMap) (page : ℕ) (node : LifeNode) → node_on ByLives m page ≡ node → lives_below ByLives (suc level) m page ≡ node_lives level m node
lives_on level m page node same = lives-step level m page ∙ ap (node_lives level m) same

-- Where a page stands, there are objects.
some_in_first : (own : LifeEntry → List Dated) (stands : LifeEntry → ℕ → Type 0) → ((e : LifeEntry) (to : ℕ) → stands e to → 1 ≤ length (own e))
    → (es : List LifeEntry) (high : ℕ) → 1 ≤ length es → EachStands stands es high → 1 ≤ length (flat_map own es)
some_in_first own stands each [] high some s = absurd (omega (arith, some))
some_in_first own stands each (e ∷ es) high some s = omega (arith, length-append (own e) (flat_map own es), each e (first_low es high) s.0)

pub some_lives : (form : Form) (level : ℕ) (m : PageMap) (page low high least : ℕ) → StandsBelow form level m page low high least → 1 ≤ length (lives_below form level m page)
some_lives form zero m page low high least s = absurd s
some_lives form (suc zero) m page low high least s = some_objects form (node_on form m page) s.node.bytes s.node.fits
some_lives form (suc (suc level)) m page low high least s =
    some_in_first (own_lives form (suc level) m) (ChildStands form (suc level) m) (λ e to stands. some_lives form (suc level) m e.child (low_key e) to (fewest form (suc level)) stands.0)
    (entries_on form m page) high (some_entries form level (node_on form m page) s.0.node.bytes s.0.node.fits) s.1
