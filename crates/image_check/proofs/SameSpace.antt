-- A disk holds one space, so what is found in it is what any description of it speaks of.
use Rattle.std.proofs.Common.{sym, subst}
use Rattle.bw_types.specs.declared.params.Params.{Params}
use Rattle.page_disk.specs.Image.{Image}
use Rattle.ports.specs.Pages.{PageMap}
use Rattle.page_layout.specs.declared.meta.Meta.{Meta}
use Rattle.page_space.specs.Laws.{HoldsOne}
use Rattle.page_space.specs.Space.{HoldsSpace}

-- a space whose free pages may be in order or not
pub unordered : (x : Image) (params : Params) (meta : Meta) (map : PageMap) (ordered : Type 0) → HoldsSpace x params meta map ordered → HoldsSpace x params meta map ⊥
unordered x params meta map ordered h = record {
  pages = h.pages;
  settled = h.settled;
  space = record {
    superblock = h.space.superblock;
    roots = h.space.roots;
    there = h.space.there;
    few = h.space.few;
    in_use = h.space.in_use;
    in_order = λ no. absurd no;
  };
}

-- What holds of the space by one description holds by another.
pub as_found : HoldsOne → (x : Image) (params params' : Params) (meta meta' : Meta) (map map' : PageMap) → HoldsSpace x params meta map ⊥ → HoldsSpace x params' meta' map' ⊥
    → (P : Params → Meta → PageMap → Type 0) → P params' meta' map' → P params meta map
as_found one x params params' meta meta' map map' h h' P p =
    let same = one x params params' meta meta' map map' h h' in
    subst (λ (q : Params). P q meta map) (sym same.0) (subst (λ (m : Meta). P params' m map) (sym same.1) (subst (λ (k : PageMap). P params' meta' k) (sym same.2) p))
