-- Nodes of the multiversion trees.
use Rattle.std.specs.Prelude.{◌≡◌, ℕ, ◌+◌, ◌%◌, ◌<◌, ◌≤◌, ◌^◌, ◌++◌, List, length, drop, slice_index, IsTrue, Bool, ◌&&◌, ◌||◌, ◌==◌, nat_lt, nat_le, if◌then◌else◌}
use Rattle.std.specs.List.{All}
use Rattle.std.proofs.Common.{ap, ◌∙◌, append_assoc, length-append}
use Rattle.page_layout.specs.Numbers.{spelled, number_in, length-spelled, number_in-spelled, past-spelled, past_more}
use Rattle.page_layout.specs.Children.{child_fits}
use Rattle.page_layout.specs.Entries.{AreInOrder}
use Rattle.page_layout.specs.Counted.{counted_page, entries_of, word_of, double_of}
use Rattle.page_layout.specs.declared.mv_node.MvNode.{MvNode}
use Rattle.page_layout.specs.declared.mv_node.MvEntry.{MvEntry}

-- the 40 bytes of an entry
abbrev pub mv_entry_bytes : MvEntry → List ℕ
mv_entry_bytes e = spelled 8 e.low ++ (spelled 4 e.start ++ (spelled 4 e.end ++ (spelled 16 e.value ++ (spelled 8 e.child))))

-- an entry that the first 40 bytes may spell
abbrev pub mv_entry_at : List ℕ → MvEntry
mv_entry_at bytes = record { low = number_in 8 bytes; start = number_in 4 (drop 8 bytes); end = number_in 4 (drop 12 bytes); value = number_in 16 (drop 16 bytes); child = number_in 8 (drop 32 bytes) }

-- the entry with so much more, modulo 2^128
abbrev pub raised_entry : MvEntry → ℕ → MvEntry
raised_entry e more = record { low = e.low; start = e.start; end = e.end; value = (e.value + more) % 2 ^ 128; child = e.child }

-- The numbers are those of their types.
abbrev pub IsMvEntryTyped : MvEntry → Type 0
IsMvEntryTyped e = (e.low < 2 ^ 64) × (e.start < 2 ^ 32) × (e.end < 2 ^ 32) × (e.value < 2 ^ 128) × (e.child < 2 ^ 64)

pub length-mv_entry : (e : MvEntry) → length (mv_entry_bytes e) ≡ 40
length-mv_entry e = simp (length-append, length-spelled)

pub mv_entry-back : (e : MvEntry) (rest : List ℕ) → IsMvEntryTyped e → mv_entry_at (mv_entry_bytes e ++ rest) ≡ e
mv_entry-back e rest typed =
    let r5 : List ℕ = rest in
    let r4 : List ℕ = spelled 8 e.child ++ r5 in
    let r3 : List ℕ = spelled 16 e.value ++ r4 in
    let r2 : List ℕ = spelled 4 e.end ++ r3 in
    let r1 : List ℕ = spelled 4 e.start ++ r2 in
    let whole : mv_entry_bytes e ++ rest ≡ spelled 8 e.low ++ r1 = simp append_assoc in
    let fits0 : e.low < 256 ^ 8 = typed.0 in
    let fits1 : e.start < 256 ^ 4 = typed.1 in
    let fits2 : e.end < 256 ^ 4 = typed.2 in
    let fits3 : e.value < 256 ^ 16 = typed.3 in
    let fits4 : e.child < 256 ^ 8 = typed.4 in
    let f0 : number_in 8 (mv_entry_bytes e ++ rest) ≡ e.low = ap (λ (b : List ℕ). number_in 8 b) whole ∙ number_in-spelled 8 e.low r1 fits0 in
    let f1 : number_in 4 (drop 8 (mv_entry_bytes e ++ rest)) ≡ e.start = ap (λ (b : List ℕ). number_in 4 (drop 8 b)) whole ∙ ap (λ (b : List ℕ). number_in 4 b) (past-spelled 8 e.low r1) ∙ number_in-spelled 4 e.start r2 fits1 in
    let f2 : number_in 4 (drop 12 (mv_entry_bytes e ++ rest)) ≡ e.end = ap (λ (b : List ℕ). number_in 4 (drop 12 b)) whole ∙ ap (λ (b : List ℕ). number_in 4 b) (past_more 8 4 e.low r1 ∙ past-spelled 4 e.start r2) ∙ number_in-spelled 4 e.end r3 fits2 in
    let f3 : number_in 16 (drop 16 (mv_entry_bytes e ++ rest)) ≡ e.value = ap (λ (b : List ℕ). number_in 16 (drop 16 b)) whole ∙ ap (λ (b : List ℕ). number_in 16 b) (past_more 8 8 e.low r1 ∙ past_more 4 4 e.start r2 ∙ past-spelled 4 e.end r3) ∙ number_in-spelled 16 e.value r4 fits3 in
    let f4 : number_in 8 (drop 32 (mv_entry_bytes e ++ rest)) ≡ e.child = ap (λ (b : List ℕ). number_in 8 (drop 32 b)) whole ∙ ap (λ (b : List ℕ). number_in 8 b) (past_more 8 24 e.low r1 ∙ past_more 4 20 e.start r2 ∙ past_more 4 16 e.end r3 ∙ past-spelled 16 e.value r4) ∙ number_in-spelled 8 e.child r5 fits4 in
    λ i. record { low = f0 i; start = f1 i; end = f2 i; value = f3 i; child = f4 i }

-- the order of entries: by low, then by start
abbrev pub mv_precedes : MvEntry → MvEntry → Bool
mv_precedes e next = nat_lt e.low next.low || (e.low == next.low && nat_lt e.start next.start)

-- the rule of one entry: it starts before it ends, and its child fits the level
abbrev pub mv_keeps : ℕ → MvEntry → Bool
mv_keeps level e = nat_lt e.start e.end && child_fits level e.child

-- the node before is 0 exactly at the first place
abbrev pub before_fits : ℕ → ℕ → Bool
before_fits place before = if place == 1 then before == 0 else nat_le 1 before

-- What a node is: a level of 1 to 16, a place of at least 1, a node before it exactly where that is not the first, and 1 to 96 entries, each of which keeps its rule, in strict order.
pub record IsMvNode (node : MvNode) : Type 0 where
  pub low_level : 1 ≤ node.level
  pub high_level : node.level ≤ 16
  pub place : 1 ≤ node.place
  pub before : IsTrue (before_fits node.place node.before)
  pub some : 1 ≤ length node.entries.items
  pub few : length node.entries.items ≤ 96
  pub entries : AreInOrder (λ e. IsTrue (mv_keeps node.level e)) (λ e next. IsTrue (mv_precedes e next)) node.entries.items

-- The numbers are those of their types.
pub record IsTyped (node : MvNode) : Type 0 where
  pub place : node.place < 2 ^ 32
  pub before : node.before < 2 ^ 64
  pub entries : All IsMvEntryTyped node.entries.items

-- the page that the node is spelled by
abbrev pub mv_node_page : MvNode → List ℕ
mv_node_page node = counted_page mv_entry_bytes 3 node.level node.place node.before node.entries.items

-- the node that a page may spell
abbrev pub mv_node_in : List ℕ → MvNode
mv_node_in page = record { level = slice_index page 1; place = word_of page; before = double_of page; entries = record { items = entries_of mv_entry_at 40 96 page } }
