-- The free pages of a space, in order or not.
use Rattle.std.proofs.Common.{◌≡◌, Bool, IsTrue, Option, Some, None, IfSome, IfNone, sym, ◌∙◌}
use Rattle.std.specs.Option.{is_some}
use Rattle.std.proofs.lemmas.Bool.{false≢true}
use Rattle.page_disk.specs.Image.{page_at}
use Rattle.page_space.specs.Chain.{FreeInOrder}
use Rattle.settled_pages.specs.Looked.{Looked}
use Rattle.settled_pages.specs.Shown.{pages_shown}

-- The free pages of what is looked at are in order.
abbrev pub AreOrdered : Looked → Type 0
AreOrdered l = FreeInOrder (page_at (pages_shown l.image l.found)) l.meta.allotted l.meta.free

-- Where the chain is found exactly where it is in order, whether it was found tells that.
pub found_is : {V : Type 0} (T O : Type 0) (E : V → Type 0) (r : Option V) (b : Bool) → b ≡ is_some r
    → IfSome r (λ v. T → O × E v) → IfNone r (T → O → ⊥) → T → (IsTrue b → O) × (O → IsTrue b)
found_is T O E (Some v) b is some none t = (λ yes. (some t).0, λ o. is)
found_is T O E None b is some none t = (λ yes. absurd (false≢true (sym is ∙ yes)), λ o. absurd (none t o))
