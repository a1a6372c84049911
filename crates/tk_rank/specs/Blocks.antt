-- Leaves in blocks, with a tree over the greatest of each block. No public clause cites this file.
use Rattle.std.specs.Prelude.{◌≡◌, ℕ, ◌+◌, ◌*◌, ◌/◌, ◌≤◌, ℤ, List, length, Option, None, slice_index_or}
use Rattle.std.specs.List.{range_with_len}
use Rattle.tk_border.specs.Levels.{greatest_of}
use Rattle.tk_rank.specs.Tree.{leaves_of, standing, width_of, HasNodes, IsTree}

-- how many blocks so many leaves are
abbrev pub blocks_of : ℕ → ℕ
blocks_of leaves = (leaves + 63) / 64

-- the objects of a block
abbrev pub objects_in : ℕ → List ℕ
objects_in block = range_with_len (64 * block + 1) 64

-- the leaves of a tree over blocks are the greatest numbers of these
pub record AreBlocks (leaves nodes : List (Option ℤ)) : Type 0 where
  pub few : length leaves ≤ 65536
  pub tree : IsTree nodes
  pub covers : length leaves ≤ 64 * width_of nodes
  pub each : (block : ℕ) → slice_index_or (leaves_of nodes) block None ≡ greatest_of (standing leaves (objects_in block))

-- they are so, and there are nodes enough for all leaves that there is room for
pub record AreBlocksIn (leaves nodes : List (Option ℤ)) (room node_room : ℕ) : Type 0 where
  pub blocks : AreBlocks leaves nodes
  pub enough : HasNodes (blocks_of room) node_room
