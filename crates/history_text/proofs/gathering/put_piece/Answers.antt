-- A piece that is put by itself comes behind what was put before it.
use Rattle.std.proofs.Common.{◌≡◌, rules}
use Rattle.history_text.proofs.Gathered.{alone_gave, alone_stopped, failed_gives}
use Rattle.history_text.proofs.gathering.put_piece.Goals as goal

pub returns-in_err-put : goal.returns-in_err-put
returns-in_err-put g c =
    let first : c.try_extend_from_slice.new.self.items ≡ c.args.room.now.items = search rules in
    failed_gives c.from_residual-in_err-put.result c.from_residual-in_err-put.ensures.0
    (alone_stopped first (c.in_ok-put_gathered.ensures.empty) c.in_ok-put_gathered.ensures.gives c.in_err-put.ensures.prefix c.in_err-put.ensures.failed_only)

pub returns : goal.returns
returns g c =
    let first : c.try_extend_from_slice.new.self.items ≡ c.args.room.now.items = search rules in
    let last : c.try_extend_from_slice-2.new.self.items ≡ c.put_gathered.new.room.items = search rules in
    alone_gave first (c.in_ok-put_gathered.ensures.empty) last c.in_ok-put_gathered.ensures.gives c.in_ok-put.ensures.still_tells c.in_ok-put.ensures.appended c.in_ok-put.ensures.no_fault
