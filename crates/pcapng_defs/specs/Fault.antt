-- The faults of a pcapng capture.
use Rattle.std.specs.Prelude.{ℕ}

-- a fault of a block, with the block's number counted from 1
pub data BlockFault : Type 0 where
  block_cut : ℕ → BlockFault
  block_length : ℕ → BlockFault
  order_magic : ℕ → BlockFault
  ng_version : ℕ → BlockFault
  no_interface : ℕ → BlockFault
  packet_length : ℕ → BlockFault
  interfaces : ℕ → BlockFault
  too_many_blocks : ℕ → BlockFault
  block_end : ℕ → BlockFault

-- the fault's code in a report
abbrev pub code : BlockFault → ℕ
code (block_cut n) = 11
code (block_length n) = 12
code (order_magic n) = 13
code (ng_version n) = 14
code (no_interface n) = 15
code (packet_length n) = 16
code (interfaces n) = 17
code (too_many_blocks n) = 18
code (block_end n) = 19

-- the number of the block at fault
abbrev pub place : BlockFault → ℕ
place (block_cut n) = n
place (block_length n) = n
place (order_magic n) = n
place (ng_version n) = n
place (no_interface n) = n
place (packet_length n) = n
place (interfaces n) = n
place (too_many_blocks n) = n
place (block_end n) = n
