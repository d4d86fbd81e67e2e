use Rattle.std.proofs.Common.{◌≡◌, Ok, IsTrue, List, ℕ, sym, ap, subst, ◌++◌, true, false, arith, IsPermutation, Vec, Global}
use Rattle.bw_types.specs.declared.dated.Dated.{Dated}
use Rattle.bw_types.specs.declared.tree.Tree.{Tree}
use Rattle.page_layout.specs.Footprint.{NamesNoneTwice}
use Rattle.corner_forest.specs.Stands.{AreBalanced, ForestStands, forest_pages}
use Rattle.history_laws.specs.Entries.{entries_of}
use Rattle.settled_pages.specs.Looked.{IsInOrder, disk_of, chain_of, map_of}
use Rattle.image_check.proofs.Ordered.{AreOrdered, found_is}
use Rattle.image_check.proofs.Sound.{once_named, sound_by}
use Rattle.image_check.proofs.trees.trees_stand.Goals as goal

pub returns-then-not-name_none_twice-clause-stands : goal.returns-then-not-name_none_twice-clause-stands
returns-then-not-name_none_twice-clause-stands g c = λ tells.
    let p : IsPermutation (c.args.table.pages.items ++ forest_pages g.X.DomIndex (map_of c.args.space.now) c.args.params.now c.args.meta.now.roots.items) c.forest_stands.new.named.items =
    subst (λ (roots : List Tree). IsPermutation (c.args.table.pages.items ++ forest_pages g.X.DomIndex (map_of c.args.space.now) c.args.params.now roots) c.forest_stands.new.named.items) c.as_slice.ensures.value
    (c.in_ok-forest_stands.ensures.named (ap Ok c.if-not-branch.false) tells) in (
      λ yes. (let no : false ≡ true = yes in absurd cc),
      λ sound. c.if-not-name_none_twice.ensures.once.1 (subst NamesNoneTwice (sym c.as_mut_slice.ensures.value)
          (once_named g.X.DomIndex c.args.params.now c.args.meta.now (map_of c.args.space.now) c.args.table.pages.items c.forest_stands.new.named.items sound.dims
          (c.requires.once tells) (c.requires.pages tells) p sound.apart)),
    )

pub returns-in-Ok-clause-stands : goal.returns-in-Ok-clause-stands
returns-in-Ok-clause-stands g c = λ tells.
    let p : IsPermutation (c.args.table.pages.items ++ forest_pages g.X.DomIndex (map_of c.args.space.now) c.args.params.now c.args.meta.now.roots.items) c.forest_stands.new.named.items =
    subst (λ (roots : List Tree). IsPermutation (c.args.table.pages.items ++ forest_pages g.X.DomIndex (map_of c.args.space.now) c.args.params.now roots) c.forest_stands.new.named.items) c.as_slice.ensures.value
    (c.in_ok-forest_stands.ensures.named (ap Ok c.if-not-branch.false) tells) in
    let forest : ForestStands g.X.DomIndex (map_of c.args.space.now) c.args.params.now c.args.meta.now.roots.items (entries_of c.args.table.lives.items)
    × AreBalanced g.X.DomIndex (map_of c.args.space.now) c.args.params.now c.args.meta.now.roots.items =
    subst (λ (roots : List Tree). ForestStands g.X.DomIndex (map_of c.args.space.now) c.args.params.now roots (entries_of c.args.table.lives.items)
    × AreBalanced g.X.DomIndex (map_of c.args.space.now) c.args.params.now roots) c.as_slice.ensures.value
    (subst (λ (lives : List Dated). ForestStands g.X.DomIndex (map_of c.args.space.now) c.args.params.now c.as_slice.result.now (entries_of lives)
    × AreBalanced g.X.DomIndex (map_of c.args.space.now) c.args.params.now c.as_slice.result.now) c.as_slice-2.ensures.value
    ((c.in_ok-forest_stands.ensures.stands tells).0 c.if-not-branch.false)) in
    let named : NamesNoneTwice c.forest_stands.new.named.items = subst NamesNoneTwice c.as_mut_slice.ensures.value (c.name_none_twice.ensures.once.0 c.if-not-name_none_twice.false) in
    let order = found_is (IsTrue (g.D.Disk.tells (disk_of c.forest_stands.new.pages))) (IsInOrder c.forest_stands.new.pages) (λ (v : Vec ℕ Global). v.items ≡ chain_of c.forest_stands.new.pages)
    c.in-Ok.chain c.is_some.result c.is_some.ensures c.in-Ok.ensures.some c.in-Ok.ensures.none (subst IsTrue (sym c.in_ok-forest_stands.ensures.reads.read.tells) tells) in (
      λ yes. sound_by g.X.DomIndex c.args.params.now c.args.meta.now (map_of c.args.space.now) c.args.table.pages.items c.forest_stands.new.named.items (omega arith) (c.requires.once tells) (c.requires.pages tells) p
          (IsInOrder c.args.space.now) (entries_of c.args.table.lives.items) forest named (subst AreOrdered c.in_ok-forest_stands.ensures.reads.read.base (order.0 yes)),
      λ sound. order.1 (subst AreOrdered (sym c.in_ok-forest_stands.ensures.reads.read.base) sound.free),
    )
