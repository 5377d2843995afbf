-- The faults of the file that a reader's errors name.
use Rattle.std.specs.Prelude.{ℕ, Option, Some, None}
use Rattle.std.specs.Option.{option_map_or}
use Rattle.outside_core.specs.declared.shelves.ShelfError.{ShelfError}
use Rattle.outside_core.specs.declared.shelves.ShelfError.TheVariants as shelf
use Rattle.outside_core.specs.declared.read_error.ReadError.{ReadError}
use Rattle.outside_core.specs.declared.read_error.ReadError.TheVariants as read
use Rattle.pcap_defs.specs.Fault.{Fault, header_cut, bad_magic, pcap_ng, version, record_cut, data_cut, record_long, too_many, code, place}
use Rattle.pcap_core.specs.declared.fault.CaptureFault.{CaptureFault}
use Rattle.pcap_core.specs.declared.fault.CaptureFault.TheVariants.{HeaderCut, BadMagic, PcapNg, Version, RecordCut, DataCut, RecordLong, TooMany, ReadFault, NoMemory}

-- the fault of the file that an error names, if it names one
abbrev pub fault_in : CaptureFault → Option Fault
fault_in HeaderCut = Some header_cut
fault_in BadMagic = Some bad_magic
fault_in PcapNg = Some pcap_ng
fault_in Version = Some version
fault_in (RecordCut n) = Some (record_cut n)
fault_in (DataCut n) = Some (data_cut n)
fault_in (RecordLong n) = Some (record_long n)
fault_in TooMany = Some too_many
fault_in ReadFault = None
fault_in NoMemory = None

-- the code of that fault, and the record at fault, or 0 if there is none
abbrev pub code_in : CaptureFault → ℕ
code_in refusal = option_map_or code (fault_in refusal) 0

abbrev pub place_in : CaptureFault → ℕ
place_in refusal = option_map_or place (fault_in refusal) 0

-- the reader's error for an error of the shelf
abbrev pub shelf_fault : ShelfError → CaptureFault
shelf_fault shelf.Failed = ReadFault
shelf_fault shelf.NoMemory = NoMemory

-- the error as a `ReadError`, which all capture formats share
abbrev pub read_error_as : CaptureFault → ReadError
read_error_as ReadFault = read.Source
read_error_as NoMemory = read.Memory
read_error_as refusal = read.Fault (code_in refusal) (place_in refusal)
