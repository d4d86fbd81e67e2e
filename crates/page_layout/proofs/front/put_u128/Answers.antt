use Rattle.std.proofs.Common.{◌≡◌, ◌+◌, refl, append_assoc, arith}
use Rattle.page_layout.proofs.Halves.{halves}
use Rattle.page_layout.proofs.front.put_u128.Goals as goal

pub returns : goal.returns
returns c =
    let at : c.args.place + 16 ≡ c.args.place + 8 + 8 = omega arith in
    rw (at, c.put_u64-2.ensures, c.put_u64.ensures, append_assoc, halves c.args.number) refl
