-- A meta page that tells of no version, and one of new spans with its numbers of pages.
use Rattle.std.proofs.Common.{◌≡◌, ◌∙◌, ℕ, List, length, replicate, refl, sym, ap, subst}
use Rattle.std.proofs.lemmas.List.{length-replicate}
use Rattle.std.specs.List.{All}
use Rattle.bw_types.specs.Empty.{empty_tree}
use Rattle.bw_types.specs.declared.params.Params.{Params}
use Rattle.bw_types.specs.declared.tree.Tree.{Tree}
use Rattle.page_layout.specs.declared.meta.Meta.{Meta}
use Rattle.span_planes.specs.Made.{new_meta}
use Rattle.span_planes.specs.Readied.{TellNoVersion}
use Rattle.span_planes.specs.SpanHolds.{without_degree}
use Rattle.span_planes.specs.SpanPoints.{span_roots}
use Rattle.span_planes.proofs.NewSpans.{all_same}
use Rattle.span_planes.proofs.NoVersionSpans.{all_empty}

-- the first meta page, with the numbers of pages of another
abbrev pub with_pages_of : Meta → Meta → Meta
with_pages_of meta first = record first { lives = meta.lives; allotted = meta.allotted; free = meta.free; mass = meta.mass }

module _ (params read : Params) (meta first : Meta) (is_first : first ≡ new_meta params) where
  pub told_none : read ≡ without_degree params → meta ≡ with_pages_of meta first → TellNoVersion params read meta
  told_none own is =
      let n = span_roots params in
      let roots : meta.roots.items ≡ replicate n empty_tree = ap (λ (m : Meta). m.roots.items) is ∙ ap (λ (m : Meta). m.roots.items) is_first in
      record {
        own = own;
        tells = record {
          version = ap (λ (m : Meta). m.version) is ∙ ap (λ (m : Meta). m.version) is_first;
          events = ap (λ (m : Meta). m.events) is ∙ ap (λ (m : Meta). m.events) is_first;
          rows = ap (λ (m : Meta). m.rows) is ∙ ap (λ (m : Meta). m.rows) is_first;
          table = ap (λ (m : Meta). m.table) is ∙ ap (λ (m : Meta). m.table) is_first;
          roots = ap (λ (ts : List Tree). length ts) roots ∙ length-replicate n empty_tree;
        };
        empty = subst (λ (ts : List Tree). All (λ t. t ≡ empty_tree) ts) (sym roots) (all_same (λ (t : Tree). t ≡ empty_tree) n empty_tree refl);
      }

  pub none_is_told : TellNoVersion params read meta → meta ≡ with_pages_of meta first
  none_is_told told =
      let version = told.tells.version ∙ sym (ap (λ (m : Meta). m.version) is_first) in
      let events = told.tells.events ∙ sym (ap (λ (m : Meta). m.events) is_first) in
      let rows = told.tells.rows ∙ sym (ap (λ (m : Meta). m.rows) is_first) in
      let table = told.tells.table ∙ sym (ap (λ (m : Meta). m.table) is_first) in
      let roots : meta.roots.items ≡ first.roots.items = all_empty meta.roots.items told.empty ∙ ap (λ (k : ℕ). replicate k empty_tree) told.tells.roots ∙ sym (ap (λ (m : Meta). m.roots.items) is_first) in
      λ i. record {
        lives = meta.lives;
        version = version i;
        events = events i;
        rows = rows i;
        allotted = meta.allotted;
        free = meta.free;
        mass = meta.mass;
        table = table i;
        roots = record { items = roots i };
      }
