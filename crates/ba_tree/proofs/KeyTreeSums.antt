-- What a sum answers, and what it reads.
use Rattle.std.proofs.Common.{◌≡◌, ◌≢◌, ℕ, ◌≤◌, slice_index_or, IfOk, List, [], ◌∷◌, length, Result, Ok, Err, refl, arith}
use Rattle.bw_types.specs.Dominance.{dominance_sum}
use Rattle.bw_types.specs.declared.point.Point.{Point}
use Rattle.ports.specs.Calls.{OnlyReads}
use Rattle.ports.specs.declared.page.PageFault.{PageFault}
use Rattle.ports.specs.declared.page.PageFault.TheVariants.{Damaged, Disk}
use Rattle.ports.specs.declared.pages.Pages.{Ghosts}
use Rattle.cut_parts.specs.Borders.{IsSum}

-- The value is the total wherever there is one, and nothing is found damaged.
pub sum_of : (r : Result ℕ PageFault) (total : ℕ) → IfOk r (λ value. value ≡ total) → ((page : ℕ) → r ≢ Err (Damaged page)) → IsSum r total
sum_of (Ok value) total same sound = same
sum_of (Err Disk) total same sound = tt
sum_of (Err (Damaged page)) total same sound = absurd (sound page refl)

-- Over one dimension only the first key counts.
pub first_key_sum : (points : List Point) (keys : List ℕ) (version : ℕ) → 1 ≤ length keys
    → dominance_sum 1 points (slice_index_or keys 0 0 ∷ []) version ≡ dominance_sum 1 points keys version
first_key_sum points [] version long = absurd (omega (arith, long))
first_key_sum points (key ∷ keys) version long = refl

-- A call that reads at most so many pages reads as many as it reads.
pub reads_of_itself : {P T : Type 0} (g : Ghosts P) (most : ℕ) (old new : P) (r : Result T PageFault) → OnlyReads g most old new r → OnlyReads g (g.gets new) old new r
reads_of_itself g most old new r h = let w = h.read in record {
  read = record {
    tells = w.tells;
    map = w.map;
    base = w.base;
    limit = w.limit;
    allotted = w.allotted;
    chain = w.chain;
    free_in_order = w.free_in_order;
    gets = w.gets;
    at_most = omega arith;
    faults = w.faults;
  };
  disk = h.disk;
}
