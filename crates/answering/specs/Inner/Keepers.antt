-- What the methods of a keeper ask and promise.
use Rattle.std.specs.Prelude.{◌≡◌}
use Rattle.index.specs.Inner.Heads.{Indexed}
use Rattle.answering.specs.Inner.Steady.{Steady}
use Rattle.answering.specs.declared.Keeper.{Keeper}

-- a record can be answered: what holds from record to record, and the index is that of the tree's heads
pub record Ready (b : Keeper) : Type 0 where
  pub steady : Steady b.tree.now b.marks.now
  pub indexed : Indexed b.tree.now b.heads.now

-- the words that are lent are the same ones
pub record SameWords (before after : Keeper) : Type 0 where
  pub tree : after.tree.ghost_name ≡ before.tree.ghost_name
  pub marks : after.marks.ghost_name ≡ before.marks.ghost_name
  pub heads : after.heads.ghost_name ≡ before.heads.ghost_name
