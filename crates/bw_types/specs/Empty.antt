-- The tree without points.
use Rattle.bw_types.specs.declared.tree.Tree.{Tree}

-- the empty tree
abbrev pub empty_tree : Tree
empty_tree = record { root = 0; levels = 0; count = 0; changes = 0; last = 0 }
