-- A new warehouse is a space.
use Rattle.std.proofs.Common.{[], sym, arith}
use Rattle.std.proofs.Math.Path.{fun_ext}
use Rattle.std.proofs.lemmas.Bool.Decides.{nat_tests}
use Rattle.page_disk.specs.Image.{Image, page_at}
use Rattle.redo_journal.specs.Gates.{IsCreated}
use Rattle.redo_journal.specs.Settled.{SettlesTo}
use Rattle.page_space.specs.InUseLaws.{in_use-none}
use Rattle.page_space.specs.Laws.{CreatedHolds}

settled : (superblock meta : _) (x : Image) → IsCreated superblock meta x → SettlesTo x x.pages
settled superblock meta x h = grind (arith, nat_tests)

pub created_space : CreatedHolds
created_space x params meta range rules typed none unlinked h = record {
  pages = x.pages;
  settled = settled _ _ x h;
  space = record {
    superblock = record { rules = range; spelled = h.superblock_is };
    roots = record { rules = rules; typed = typed; spelled = h.meta_is };
    there = omega (arith, h.len);
    few = omega (arith, range.some_pages);
    in_use = fun_ext (λ p. sym (in_use-none (page_at x.pages) meta.allotted p (λ used. omega (arith, used.low, used.high))));
    in_order = λ _. record { chain = []; leads = unlinked; once = tt };
  };
}
