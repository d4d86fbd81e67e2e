-- A cache whose pages are renewed.
use Rattle.std.specs.Prelude.{unwrap_or, option_map}
use Rattle.ports.specs.Pages.{PageMap}

-- the pages that are kept, each with the bytes of its image where it has one
abbrev pub renewed_by : PageMap → PageMap → PageMap
renewed_by kept images = λ page. option_map (λ bytes. unwrap_or (images page) bytes) (kept page)
