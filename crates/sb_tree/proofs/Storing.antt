-- The map after a node is stored.
use Rattle.sb_tree.proofs.Common.{◌≡◌, ℕ, ◌≤◌, ◌==◌, false, List, [], ◌∷◌, length, get_or, drop, Some, None, IsSome, ap, arith, length-drop, PageMap, put_page, blank_bytes, sb_node_page, SbNode, SbEntry, Second, first_half, second_half, raised_first, first_low, IsStored}

pub apart_from_missing : (m : PageMap) (page other : ℕ) → IsSome (m page) → m other ≡ None → (page == other) ≡ false
apart_from_missing m page other there missing = grind arith

first_at : (es xs : List SbEntry) (d : SbEntry) (x : ℕ) → es ≡ raised_first xs x → 1 ≤ length xs → (get_or es 0 d).low ≡ first_low xs 0
first_at es [] d x same some = absurd (omega (arith, some))
first_at es (e ∷ xs) d x same some = ap (λ ys. (get_or ys 0 d).low) same

pub low_of_second : (es second : List SbEntry) (d : SbEntry) → length es ≡ 65 → second ≡ second_half es → (get_or second 0 d).low ≡ first_low (drop 32 es) 0
low_of_second es second d long same = first_at second (drop 32 es) d _ same (omega (arith, long, length-drop 32 es))

pub stored_halves : (m0 m1 m2 m3 : PageMap) (page : ℕ) (second : Second) (node first last : SbNode)
    → length node.entries.items ≡ 65 → second.low ≡ first_low (drop 32 node.entries.items) 0 → IsSome (m0 page) → m0 second.page ≡ None
    → m1 ≡ put_page m0 second.page blank_bytes → m2 ≡ put_page m1 second.page (sb_node_page last) → m3 ≡ put_page m2 page (sb_node_page first)
    → first.level ≡ node.level → first.entries.items ≡ first_half node.entries.items → last.level ≡ node.level → last.entries.items ≡ second_half node.entries.items
    → IsStored node.level node.entries.items m0 m3 page (Some second)
stored_halves m0 m1 m2 m3 page second node first last long low there missing e1 e2 e3 fl fe sl se = grind arith

pub low_shown : (es second shown : List SbEntry) (d : SbEntry) → length es ≡ 65 → second ≡ second_half es → shown ≡ second → (get_or shown 0 d).low ≡ first_low (drop 32 es) 0
low_shown es second shown d long same value = grind (arith, low_of_second)
