-- The contents that a reader has left, in the terms shared by all capture formats.
use Rattle.std.specs.Prelude.{ℕ, option_map, Option, List}
use Rattle.pcap_defs.specs.Contents.{Contents}
use Rattle.pcapng_defs.specs.Block.{Carried}
use Rattle.pcapng_defs.specs.NgCapture.{reading_of}
use Rattle.pcapng_defs.specs.NgContents.{contents_read}
use Rattle.pcapng_core.specs.Readers.{carry_of, rest_left}
use Rattle.pcapng_core.specs.declared.reader.NgReader.{NgReader}

-- the contents of these bytes after the blocks read
abbrev pub contents_in : Carried → List ℕ → Contents
contents_in c rest = contents_read (reading_of c rest)

-- the contents left, if the rest of the file is known to the contract
abbrev pub contents_left : NgReader → Option (List ℕ) → Option Contents
contents_left reader left = option_map (contents_in (carry_of reader)) (rest_left reader left)
