-- One integral below a corner after the other, of a warehouse that stays as before.
use Rattle.std.proofs.Common.{◌≡◌, ℕ, ◌+◌, ◌*◌, ◌≤◌, Bool, List, sym, ◌∙◌, ap, arith}
use Rattle.std.proofs.Math.Nat.{mul-le-mul_right}
use Rattle.bw_types.specs.Below.{below_at}
use Rattle.bw_types.specs.History.{History}
use Rattle.bw_types.specs.Residues.{residue}
use Rattle.bw_types.specs.declared.params.Params.{Params}
use Rattle.page_disk.specs.declared.disk.Disk.{Ghosts}
use Rattle.dom_index.specs.declared.index.DomIndex.{Ghosts as IndexGhosts}
use Rattle.page_warehouse.specs.Costs.{below_cost}
use Rattle.page_warehouse.specs.Shown.{HoldsHistory, disk_in, params_in}
use Rattle.page_warehouse.specs.declared.state.Warehouse.{Warehouse}
use Rattle.grid_report.proofs.Kept.{StaysAsBefore, holds-now}

module _ {D X : Type 0} (d : Ghosts D) (i : IndexGhosts X) (old now : Warehouse D X d i) (stay : StaysAsBefore d i old now) (whole : Bool) (h : History) (held : HoldsHistory d i whole (disk_in old) (params_in old) h) where
  -- the integral below one more corner
  pub below-more : (params : Params) (value version : ℕ) (at : List ℕ) → params ≡ params_in old
      → ((whole : Bool) (h : History) → HoldsHistory d i whole (disk_in now) (params_in now) h → value ≡ residue (below_at (params_in now) h version at))
      → value ≡ residue (below_at params h version at)
  below-more params value version at is given =
      given whole h (holds-now d i old now whole h stay held) ∙ ap (λ (p : Params). residue (below_at p h version at)) (stay.params ∙ sym is)

  -- and its reads
  pub reads-more : (cost : ℕ → ℕ → ℕ) (first then_read last n : ℕ) → then_read ≤ first + n * below_cost cost (params_in old) h
      → ((whole : Bool) (h : History) → HoldsHistory d i whole (disk_in now) (params_in now) h → last ≤ then_read + below_cost cost (params_in now) h)
      → last ≤ first + (n + 1) * below_cost cost (params_in old) h
  reads-more cost first then_read last n before given =
      let same : below_cost cost (params_in now) h ≡ below_cost cost (params_in old) h = ap (λ (p : Params). below_cost cost p h) stay.params in
      let more = given whole h (holds-now d i old now whole h stay held) in
      omega (arith, same, more, before)

-- reads for some of the corners are no more than those for all
pub reads-within : (first last n all cost : ℕ) → n ≤ all → last ≤ first + n * cost → last ≤ first + all * cost
reads-within first last n all cost le h =
    let more = mul-le-mul_right cost le in
    omega (arith, more, h)
