-- What marking a withdrawal below a page leaves.
use Rattle.std.specs.Prelude.{◌≡◌, ℕ}
use Rattle.ports.specs.Pages.{PageMap}
use Rattle.ports.specs.Frame.{Replaces}
use Rattle.object_table.specs.declared.form.Form.TheVariants.{ByLives}
use Rattle.object_table.specs.Edits.{IsMarked}
use Rattle.object_table.specs.Lives.{lives_below, pages_below}
use Rattle.object_table.specs.Stands.{StandsBelow}

-- What stood below the page stands there, in the same pages, and the last life of the id is withdrawn.
pub record IsMarkedBelow (level : ℕ) (before after : PageMap) (page low high least id version event : ℕ) : Type 0 where
  pub stands : StandsBelow ByLives level after page low high least
  pub pages : pages_below ByLives level after page ≡ pages_below ByLives level before page
  pub change : Replaces (pages_below ByLives level before page) (pages_below ByLives level before page) before after
  pub lives : IsMarked (lives_below ByLives level before page) (lives_below ByLives level after page) id version event
