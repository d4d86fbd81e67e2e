-- The space that a commit makes.
use Rattle.std.proofs.Common.{◌≡◌, ℕ, ◌<◌, ◌≤◌, ◌-◌, [], max, map, IsSome, arith, length}
use Rattle.std.specs.List.{range_with_len}
use Rattle.std.proofs.lemmas.List.FromFn.{length-map-range_with_len, get_or-map-range_with_len}
use Rattle.bw_types.specs.declared.params.Params.{Params}
use Rattle.bw_types.specs.Fits.{IsInRange}
use Rattle.ports.specs.Pages.{PageMap}
use Rattle.page_disk.specs.Image.{PageList, page_at}
use Rattle.page_layout.specs.declared.meta.Meta.{Meta}
use Rattle.redo_journal.specs.Placing.{ArePlaced, placed_at}
use Rattle.page_space.specs.Space.{IsSpace, params_page}
use Rattle.page_space.specs.MetaSet.{HasMeta}
use Rattle.page_space.specs.InUse.{pages_in_use}
use Rattle.page_space.specs.InUseLaws.{in_use-same}
use Rattle.page_space.specs.Chain.{FreeInOrder}
use Rattle.page_space.specs.ChainLaws.{order_kept}
use Rattle.page_space.proofs.Giving.{AreFresh, LieWithin}

module _ (images : PageMap) (old new : PageList) (params : Params) (base next : Meta) (placed : ArePlaced images old new)
    (there : base.allotted ≤ length old) (least : 3 ≤ base.allotted) (grown : base.allotted ≤ next.allotted)
    (fresh : AreFresh images base.allotted next.allotted) (within : LieWithin images next.allotted) where
  -- All pages that are given out are there.
  reach : next.allotted ≤ length new
  reach = grind (arith, placed.no_shorter, placed.reached (next.allotted - 1), fresh (next.allotted - 1))

  same_bytes : (p : ℕ) → p < next.allotted → page_at new p ≡ placed_at images old p
  same_bytes p low = placed.pages p (omega (arith, reach))

  pub committed : IsInRange params → page_at old 1 ≡ params_page params → next.allotted ≤ params.pages → HasMeta images next
      → IsSpace new params next (pages_in_use (placed_at images old) next.allotted) (FreeInOrder (placed_at images old) next.allotted next.free)
  committed range superblock few set = record {
    superblock = record { rules = range; spelled = grind (arith, same_bytes 1, superblock, within 1) };
    roots = record { rules = set.rules; typed = set.typed; spelled = grind (arith, same_bytes 2, set.image) };
    there = reach;
    few = few;
    in_use = in_use-same (placed_at images old) (page_at new) next.allotted same_bytes;
    in_order = λ h. order_kept (placed_at images old) (page_at new) next.allotted next.allotted next.free (omega arith) (λ p free leads. same_bytes p leads.high) h;
  }

-- An area in which the images are in their places, which so many pages give.
laid : (images : PageMap) (old : PageList) (n : ℕ) → length old ≤ n → ((p : ℕ) → IsSome (images p) → p < n)
    → ((p : ℕ) → length old ≤ p → p < n → IsSome (images p)) → (new : PageList) × ArePlaced images old new
laid images old n longer reached fresh =
    let long = length-map-range_with_len (placed_at images old) 0 n in (
      map (placed_at images old) (range_with_len 0 n),
      record {
        no_shorter = omega arith;
        reached = λ p some. omega (arith, reached p some);
        no_longer = λ p low high. fresh p low (omega arith);
        pages = λ p low. get_or-map-range_with_len (placed_at images old) 0 n p p [] (omega arith) (omega arith);
      },
    )

-- The images of a stage have such an area.
pub some_placing : (images : PageMap) (old : PageList) (base most : ℕ) → base ≤ length old → AreFresh images base most → LieWithin images most
    → (new : PageList) × ArePlaced images old new
some_placing images old base most there fresh within =
    laid images old (max (length old) most) (omega arith) (λ p some. omega (arith, within p some)) (λ p low high. fresh p (omega arith) (omega arith))

-- The area reaches no further than the pages that are given out.
pub no_further : (images : PageMap) (old new : PageList) (most : ℕ) → ArePlaced images old new → LieWithin images most → length new ≤ max (length old) most
no_further images old new most placed within = grind (arith, placed.no_longer (length new - 1), within (length new - 1))
