-- Sums modulo a number.
use Rattle.sb_tree.proofs.Common.{◌≡◌, ℕ, ◌+◌, ◌%◌, sym, ap, ◌∙◌, add-mod-mod, mod-add-mod}

pub mod_under : (c a b n : ℕ) → a % n ≡ b % n → (c + a) % n ≡ (c + b) % n
mod_under c a b n h = sym (add-mod-mod c a n) ∙ ap (λ t. (c + t) % n) h ∙ add-mod-mod c b n

-- one summand reduced, in the middle
pub mod_inner : (a b c n : ℕ) → (a + (b % n + c)) % n ≡ (a + (b + c)) % n
mod_inner a b c n = sym (add-mod-mod a (b % n + c) n) ∙ ap (λ t. (a + t) % n) (mod-add-mod b n c) ∙ add-mod-mod a (b + c) n
