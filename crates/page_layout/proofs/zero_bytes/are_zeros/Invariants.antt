use Rattle.std.proofs.Common.{◌≡◌, ◌↔◌, ◌+◌, ◌*◌, length}
use Rattle.page_layout.proofs.Zeros.{AllZero}
use Rattle.page_layout.proofs.zero_bytes.are_zeros.Given as goal

abbrev pub invariant-loop : goal.invariant-loop
invariant-loop l = record {
  left : length l.rest + l.counter * 16 ≡ length l.bytes;
  same : AllZero l.bytes ↔ AllZero l.rest;
}
