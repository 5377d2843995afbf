-- The fault after the packets of a capture: its code, and the number of the record or block at
-- fault, 0 if there is none.
pub use Rattle.pcap_defs.specs.Contents.{FaultAt}
