-- The contents that a reader has left, in the terms shared by all capture formats.
use Rattle.std.specs.Prelude.{ℕ, false, unwrap_or, option_map, Option, List}
use Rattle.pcap_defs.specs.declared.head.Head.{Head}
use Rattle.pcap_defs.specs.Reading.{records_left}
use Rattle.pcap_defs.specs.Contents.{Contents, contents_of}
use Rattle.pcap_core.specs.Readers.{head_of, records_given, rest_left}
use Rattle.pcap_core.specs.declared.reader.Reader.{Reader}

-- the header values that were read; before that, zeros
abbrev pub head_read : Option Head → Head
head_read head = unwrap_or head (record { link = 0; nano = false; big = false })

-- the contents of these bytes after n records
abbrev pub contents_in : Head → ℕ → List ℕ → Contents
contents_in head n rest = contents_of head (records_left head.big n rest)

-- the contents left, if the rest of the file is known to the contract
abbrev pub contents_left : Reader → Option (List ℕ) → Option Contents
contents_left reader left = option_map (contents_in (head_read (head_of reader)) (records_given reader)) (rest_left reader left)
