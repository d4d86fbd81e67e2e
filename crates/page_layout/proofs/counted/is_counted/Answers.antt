use Rattle.std.proofs.Common.{refl, ◌∙◌, arith, rules}
use Rattle.page_layout.specs.Respelled.{counted-respelled, counted-framed}
use Rattle.page_layout.proofs.Testing.{never}
use Rattle.page_layout.proofs.counted.is_counted.Goals as goal

pub returns-then-count-most : goal.returns-then-count-most
returns-then-count-most g c = never (λ e.
    let frame = counted-framed _ _ _ c.requires.respells _ _ _ _ _ _ c.bytes_of-bytes.ensures.bytes c.bytes_of-bytes.ensures.len c.requires.room c.requires.count c.ranges.word.fits c.ranges.double.fits e in
    omega (arith, frame.few, c.if-count-most.true, c.from-count.ensures, c.read_count.ensures))

pub returns-then-read_word-word : goal.returns-then-read_word-word
returns-then-read_word-word g c = never (λ e.
    let frame = counted-framed _ _ _ c.requires.respells _ _ _ _ _ _ c.bytes_of-bytes.ensures.bytes c.bytes_of-bytes.ensures.len c.requires.room c.requires.count c.ranges.word.fits c.ranges.double.fits e in
    c.if-read_word-word.true (c.read_word.ensures ∙ frame.is_word))

pub returns-then-read_double-double : goal.returns-then-read_double-double
returns-then-read_double-double g c = never (λ e.
    let frame = counted-framed _ _ _ c.requires.respells _ _ _ _ _ _ c.bytes_of-bytes.ensures.bytes c.bytes_of-bytes.ensures.len c.requires.room c.requires.count c.ranges.word.fits c.ranges.double.fits e in
    c.if-read_double-double.true (c.read_double.ensures ∙ frame.is_double))

pub returns : goal.returns
returns g c =
    let zeros = rw (c.after.ensures.value, c.SIZE.ensures, c.from-count.ensures, c.read_count.ensures) at c.are_zeros.ensures in (
      λ t. counted-respelled _ _ _ c.requires.respells _ _ _ _ c.args.most _ c.bytes_of-bytes.ensures.bytes c.bytes_of-bytes.ensures.len c.requires.room refl (search rules),
      λ e.
          let frame = counted-framed _ _ _ c.requires.respells _ _ _ _ _ _ c.bytes_of-bytes.ensures.bytes c.bytes_of-bytes.ensures.len c.requires.room c.requires.count c.ranges.word.fits c.ranges.double.fits e in
          zeros.1 frame.tail,
    )
