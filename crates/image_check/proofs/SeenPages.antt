-- What the check of a space knows, under the params and the meta page that it was handed.
use Rattle.std.proofs.Common.{◌≡◌, length, subst, List}
use Rattle.bw_types.specs.declared.params.Params.{Params}
use Rattle.page_disk.specs.declared.disk.Disk.{Ghosts}
use Rattle.page_layout.specs.declared.meta.Meta.{Meta}
use Rattle.ports.specs.Pages.{PageMap}
use Rattle.redo_journal.specs.Settled.{SettlesTo}
use Rattle.page_space.specs.Space.{HoldsSpace}
use Rattle.corner_weights.specs.PlaneSums.{Entered}
use Rattle.dom_index.specs.declared.index.DomIndex as index
use Rattle.corner_forest.specs.Entries.{root_count}
use Rattle.settled_pages.specs.Looked.{IsInOrder, disk_of, map_of, meta_of, pages_of, params_of}
use Rattle.settled_pages.specs.Shown.{pages_shown}
use Rattle.settled_pages.specs.declared.space.SettledSpace.{SettledSpace}
use Rattle.image_check.specs.Shown.{IsShown}
use Rattle.image_check.specs.Trees.{TreesAreSound}

module _ {D : Type 0} {g : Ghosts D} where
  pub record IsShownAs (it : SettledSpace D g) (params : Params) (meta : Meta) : Type 0 where
    pub settles : SettlesTo (g.image (disk_of it)) (pages_shown (g.image (disk_of it)) (pages_of it))
    pub space : HoldsSpace (g.image (disk_of it)) params meta (map_of it) (IsInOrder it)
    pub roots : length meta.roots.items ≡ root_count params

  pub as_told : (it : SettledSpace D g) (params : Params) (meta : Meta) → params_of it ≡ params → meta_of it ≡ meta → IsShown it → IsShownAs it params meta
  as_told it params meta same_params same_meta shown = record {
    settles = shown.settles;
    space = subst (λ (p : Params). HoldsSpace (g.image (disk_of it)) p meta (map_of it) (IsInOrder it)) same_params
        (subst (λ (m : Meta). HoldsSpace (g.image (disk_of it)) (params_of it) m (map_of it) (IsInOrder it)) same_meta shown.space);
    roots = subst (λ (p : Params). length meta.roots.items ≡ root_count p) same_params (subst (λ (m : Meta). length m.roots.items ≡ root_count (params_of it)) same_meta shown.roots);
  }

-- The trees are sound in another map that is the same, where the free pages are in order there if they are here.
pub sound_there : {X : Type 0} (i : index.Ghosts X) (params : Params) (meta : Meta) (map map' : PageMap) (order order' : Type 0) (entries : List Entered) → map ≡ map' → (order → order')
    → TreesAreSound i params meta map order entries → TreesAreSound i params meta map' order' entries
sound_there i params meta map map' order order' entries same ordered sound =
    subst (λ (m : PageMap). TreesAreSound i params meta m order' entries) same
    (record { dims = sound.dims; forest = sound.forest; balanced = sound.balanced; apart = sound.apart; free = ordered sound.free })
