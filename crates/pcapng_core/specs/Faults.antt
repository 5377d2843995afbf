-- The faults of the file that a reader's errors name.
use Rattle.std.specs.Prelude.{ℕ, Option, Some, None}
use Rattle.std.specs.Option.{option_map_or}
use Rattle.outside_core.specs.declared.shelves.ShelfError.{ShelfError}
use Rattle.outside_core.specs.declared.shelves.ShelfError.TheVariants as shelf
use Rattle.outside_core.specs.declared.read_error.ReadError.{ReadError}
use Rattle.outside_core.specs.declared.read_error.ReadError.TheVariants as read
use Rattle.pcapng_defs.specs.Fault.{BlockFault, block_cut, block_length, order_magic, ng_version, no_interface, packet_length, interfaces, too_many_blocks, block_end, code, place}
use Rattle.pcapng_core.specs.declared.fault.NgFault.{NgFault}
use Rattle.pcapng_core.specs.declared.fault.NgFault.TheVariants.{BlockCut, BlockLength, OrderMagic, NgVersion, NoInterface, PacketLength, Interfaces, TooManyBlocks, BlockEnd, ReadFault, NoMemory}

-- the fault of the file that an error names, if it names one
abbrev pub fault_in : NgFault → Option BlockFault
fault_in (BlockCut n) = Some (block_cut n)
fault_in (BlockLength n) = Some (block_length n)
fault_in (OrderMagic n) = Some (order_magic n)
fault_in (NgVersion n) = Some (ng_version n)
fault_in (NoInterface n) = Some (no_interface n)
fault_in (PacketLength n) = Some (packet_length n)
fault_in (Interfaces n) = Some (interfaces n)
fault_in (TooManyBlocks n) = Some (too_many_blocks n)
fault_in (BlockEnd n) = Some (block_end n)
fault_in ReadFault = None
fault_in NoMemory = None

-- the code of that fault, and the block at fault, or 0 if there is none
abbrev pub code_in : NgFault → ℕ
code_in refusal = option_map_or code (fault_in refusal) 0

abbrev pub place_in : NgFault → ℕ
place_in refusal = option_map_or place (fault_in refusal) 0

-- the reader's error for an error of the shelf
abbrev pub shelf_fault : ShelfError → NgFault
shelf_fault shelf.Failed = ReadFault
shelf_fault shelf.NoMemory = NoMemory

-- the error as a `ReadError`, which all capture formats share
abbrev pub read_error_as : NgFault → ReadError
read_error_as ReadFault = read.Source
read_error_as NoMemory = read.Memory
read_error_as refusal = read.Fault (code_in refusal) (place_in refusal)
