-- Where a node leads, by the index of the last entry that reaches the key.
use Rattle.std.proofs.Common.{◌≡◌, ℕ, List, get_or, Option, Some, None, refl, sym, ap, ◌∙◌}
use Rattle.page_layout.specs.declared.mv_node.MvNode.{MvNode}
use Rattle.page_layout.specs.declared.mv_node.MvEntry.{MvEntry}
use Rattle.mv_pages.specs.Alive.{next_entry}
use Rattle.mv_pages.specs.Edits.{IsPathIndex}
use Rattle.mv_pages.specs.Lows.{IsReached, low_of}
use Rattle.mv_pages.proofs.Changes.{read_at}
use Rattle.mv_pages.proofs.Leading.{no_path}
use Rattle.mv_pages.proofs.LowOrder.{child_at_index, child_found, low_found, next_low}

module _ (node : MvNode) (key v : ℕ) (index : node.level ≡ 1 → ⊥) where
  abbrev es : List MvEntry
  es = node.entries.items

  pub reached_by : (last : ℕ) (e d : MvEntry) (next : Option ℕ) → IsPathIndex es key v (Some last) → e ≡ get_or es last d → next ≡ low_of (next_entry es key v)
      → IsReached node key v (Some (record { child = e.child; low = e.low; next = next }))
  reached_by last e d next r is_e is_next =
      let same : e ≡ r.1 = is_e ∙ read_at es es r.0 r.2 last r.1 d refl r.3 r.4 in
      record {
        child = sym (child_at_index node.level _ _ index (child_found es r.0 r.1 r.2 key v r.3 r.5 r.6 ∙ ap (λ (f : MvEntry). Some f.child) (sym same)));
        low = ap (λ (f : MvEntry). Some f.low) same ∙ sym (low_found es r.0 r.1 r.2 key v r.3 r.5 r.6);
        next = is_next ∙ next_low es key v;
      }

  pub reached_nowhere : IsPathIndex es key v None → IsReached node key v None
  reached_nowhere none = record { child = sym (child_at_index node.level _ _ index (no_path key v es none)); low = tt; next = tt }
