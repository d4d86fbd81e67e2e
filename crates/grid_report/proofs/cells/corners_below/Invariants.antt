use Rattle.std.proofs.Common.{◌≡◌, ◌+◌, ◌*◌, ◌≤◌, Bool, length, map, slice_index}
use Rattle.std.specs.List.{range_with_len}
use Rattle.bw_types.specs.Below.{below_at}
use Rattle.bw_types.specs.History.{History}
use Rattle.bw_types.specs.Residues.{residue}
use Rattle.page_warehouse.specs.Costs.{below_cost}
use Rattle.page_warehouse.specs.Shown.{HoldsHistory, disk_in, meta_in, params_in}
use Rattle.grid_report.specs.Corners.{corner_at}
use Rattle.grid_report.specs.Indexes.{indexes_of}
use Rattle.grid_report.proofs.Kept.{StaysAsBefore}
use Rattle.grid_report.proofs.cells.corners_below.Given as goal

-- the integrals below the corners so far were read, and nothing else changed
abbrev pub invariant-loop-number : goal.invariant-loop-number
invariant-loop-number g l =
    let disk = g.D.Disk in
    record {
      stays : StaysAsBefore disk g.X.DomIndex l.fn.house l.house;
      meta : meta_in l.house ≡ meta_in l.fn.house;
      faults : disk.faults (disk_in l.fn.house) ≤ disk.faults (disk_in l.house);
      reads : (whole : Bool) (h : History) → HoldsHistory disk g.X.DomIndex whole (disk_in l.fn.house) (params_in l.fn.house) h
          → disk.reads (disk_in l.house) ≤ disk.reads (disk_in l.fn.house) + l.number * below_cost g.X.DomIndex.cost (params_in l.fn.house) h;
      size : length l.corners.items ≡ l.number;
      so_far : (whole : Bool) (h : History) → HoldsHistory disk g.X.DomIndex whole (disk_in l.fn.house) (params_in l.fn.house) h
          → l.corners.items ≡ map (λ q. residue (below_at l.params h l.version (corner_at l.params l.grid (indexes_of l.params.dims (λ i. slice_index l.lines i) q)))) (range_with_len 0 l.number);
    }
