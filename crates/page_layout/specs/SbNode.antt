-- Nodes of the trees over versions.
use Rattle.std.specs.Prelude.{◌≡◌, ℕ, ◌+◌, ◌%◌, ◌<◌, ◌≤◌, ◌^◌, ◌++◌, List, length, drop, slice_index, IsTrue}
use Rattle.std.specs.List.{All}
use Rattle.std.proofs.Common.{ap, ◌∙◌, append_assoc, length-append}
use Rattle.page_layout.specs.Numbers.{spelled, number_in, length-spelled, number_in-spelled, past-spelled, past_more}
use Rattle.page_layout.specs.Children.{child_fits}
use Rattle.page_layout.specs.Entries.{AreInOrder}
use Rattle.page_layout.specs.Counted.{counted_page, entries_of}
use Rattle.page_layout.specs.declared.sb_node.SbNode.{SbNode}
use Rattle.page_layout.specs.declared.sb_node.SbEntry.{SbEntry}

-- the 28 bytes of an entry
abbrev pub sb_entry_bytes : SbEntry → List ℕ
sb_entry_bytes e = spelled 4 e.low ++ (spelled 16 e.value ++ (spelled 8 e.child))

-- an entry that the first 28 bytes may spell
abbrev pub sb_entry_at : List ℕ → SbEntry
sb_entry_at bytes = record { low = number_in 4 bytes; value = number_in 16 (drop 4 bytes); child = number_in 8 (drop 20 bytes) }

-- the entry with so much more, modulo 2^128
abbrev pub raised_entry : SbEntry → ℕ → SbEntry
raised_entry e more = record { low = e.low; value = (e.value + more) % 2 ^ 128; child = e.child }

-- The numbers are those of their types.
abbrev pub IsSbEntryTyped : SbEntry → Type 0
IsSbEntryTyped e = (e.low < 2 ^ 32) × (e.value < 2 ^ 128) × (e.child < 2 ^ 64)

pub length-sb_entry : (e : SbEntry) → length (sb_entry_bytes e) ≡ 28
length-sb_entry e = simp (length-append, length-spelled)

pub sb_entry-back : (e : SbEntry) (rest : List ℕ) → IsSbEntryTyped e → sb_entry_at (sb_entry_bytes e ++ rest) ≡ e
sb_entry-back e rest typed =
    let r3 : List ℕ = rest in
    let r2 : List ℕ = spelled 8 e.child ++ r3 in
    let r1 : List ℕ = spelled 16 e.value ++ r2 in
    let whole : sb_entry_bytes e ++ rest ≡ spelled 4 e.low ++ r1 = simp append_assoc in
    let fits0 : e.low < 256 ^ 4 = typed.0 in
    let fits1 : e.value < 256 ^ 16 = typed.1 in
    let fits2 : e.child < 256 ^ 8 = typed.2 in
    let f0 : number_in 4 (sb_entry_bytes e ++ rest) ≡ e.low = ap (λ (b : List ℕ). number_in 4 b) whole ∙ number_in-spelled 4 e.low r1 fits0 in
    let f1 : number_in 16 (drop 4 (sb_entry_bytes e ++ rest)) ≡ e.value = ap (λ (b : List ℕ). number_in 16 (drop 4 b)) whole ∙ ap (λ (b : List ℕ). number_in 16 b) (past-spelled 4 e.low r1) ∙ number_in-spelled 16 e.value r2 fits1 in
    let f2 : number_in 8 (drop 20 (sb_entry_bytes e ++ rest)) ≡ e.child = ap (λ (b : List ℕ). number_in 8 (drop 20 b)) whole ∙ ap (λ (b : List ℕ). number_in 8 b) (past_more 4 16 e.low r1 ∙ past-spelled 16 e.value r2) ∙ number_in-spelled 8 e.child r3 fits2 in
    λ i. record { low = f0 i; value = f1 i; child = f2 i }

-- What a node is: a level of 1 to 16 and 1 to 64 entries, whose lows ascend strictly, and whose children fit the level.
pub record IsSbNode (node : SbNode) : Type 0 where
  pub low_level : 1 ≤ node.level
  pub high_level : node.level ≤ 16
  pub some : 1 ≤ length node.entries.items
  pub few : length node.entries.items ≤ 64
  pub entries : AreInOrder (λ e. IsTrue (child_fits node.level e.child)) (λ e next. e.low < next.low) node.entries.items

-- The numbers are those of their types.
abbrev pub IsTyped : SbNode → Type 0
IsTyped node = All IsSbEntryTyped node.entries.items

-- the page that the node is spelled by
abbrev pub sb_node_page : SbNode → List ℕ
sb_node_page node = counted_page sb_entry_bytes 2 node.level 0 0 node.entries.items

-- the node that a page may spell
abbrev pub sb_node_in : List ℕ → SbNode
sb_node_in page = record { level = slice_index page 1; entries = record { items = entries_of sb_entry_at 28 64 page } }
