-- What an `Images` shows.
use Rattle.std.specs.Ordering.{nat_cmp}
use Rattle.std.specs.BTreeMap.{get}
use Rattle.ports.specs.Pages.{PageMap}
use Rattle.redo_journal.specs.Boxed.{in_box, unboxed}
use Rattle.redo_journal.specs.Placing.{ImageList}
use Rattle.redo_journal.specs.declared.images.Images.{Images}
use Rattle.redo_journal.specs.declared.in_order.InOrder.{InOrder}

-- the image of each page that has one
abbrev pub image_map : Images → PageMap
image_map images = λ page. in_box (get nat_cmp images.pages page)

-- the images in the order of their homes
abbrev pub image_list : Images → ImageList
image_list images = unboxed images.pages.entries

-- the images that are still to come, in the order of their homes
abbrev pub coming : InOrder → ImageList
coming order = unboxed order.rest
