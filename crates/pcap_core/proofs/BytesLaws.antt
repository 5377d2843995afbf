-- The written bytes spell the header and the records that they were written for.
use Rattle.pcap_core.proofs.Prelude.{ap, arith, [], ◌<◌, ◌∙◌, List, None, sym, ℕ, ◌++◌, length, refl, append_assoc, false, append-nil, ◌∷◌, ◌%◌, ◌^◌, All, reads_captures, IsHeader, Record, IsSpelling, AreSpellings}
use Rattle.std.proofs.lemmas.List.Elements.{All-head, All-tail}
use Rattle.byteorder.specs.Numbers.{little_number-reads_back}
use Rattle.pcap_core.specs.Bytes.{long_bytes, header_bytes, record_bytes, records_bytes, file_bytes, head_with}
use Rattle.pcap_core.specs.Laws.{IsWritable, AreCaptures, AreReadBack, RecordsFollow}

-- the header's bytes are a header with this link type
pub header_bytes-says : (link : ℕ) → link < 2 ^ 16 → IsHeader (head_with link) (header_bytes link)
header_bytes-says link fits =
    let read = little_number-reads_back 4 link [] (omega arith) in
    record { whole = refl; magic = refl; major = refl; link = ap (λ n. n % 2 ^ 16) read ∙ omega arith }

-- a record's bytes spell the record
pub record_bytes-spell : (r : Record) → IsWritable r → IsSpelling false r (record_bytes r.seconds r.fraction r.original r.captured)
record_bytes-spell r fits =
    let captured = length r.captured in
    record {
      seconds = little_number-reads_back 4 r.seconds (long_bytes r.fraction ++ long_bytes (length r.captured) ++ long_bytes r.original ++ r.captured) (omega arith);
      fraction = little_number-reads_back 4 r.fraction (long_bytes (length r.captured) ++ long_bytes r.original ++ r.captured) (omega arith);
      counted = little_number-reads_back 4 (length r.captured) (long_bytes r.original ++ r.captured) (omega arith);
      original = little_number-reads_back 4 r.original r.captured (omega arith);
      captured = refl;
      whole = omega arith;
      short = fits.captured;
    }

-- the bytes of records spell the records, one after another
pub records_bytes-spell : (records : List Record) → All IsWritable records → AreSpellings false records (records_bytes records)
records_bytes-spell [] fit = refl
records_bytes-spell (r ∷ records) fit = (
  record_bytes r.seconds r.fraction r.original r.captured,
  records_bytes records,
  refl,
  record_bytes-spell r (All-head IsWritable r records fit),
  records_bytes-spell records (All-tail IsWritable r records fit),
)

-- the written bytes are a whole capture
pub are_captures : AreCaptures
are_captures link records fits fit few = record {
  header = header_bytes link;
  after = records_bytes records;
  file_is = refl;
  header_is = header_bytes-says link fits;
  records_are = record {
    body = records_bytes records;
    rest = [];
    bytes_are = sym (append-nil (records_bytes records));
    body_is = records_bytes-spell records fit;
    few = few;
    ends = refl;
  };
}

-- the written bytes are read back as that capture
pub are_read_back : AreReadBack
are_read_back link records fits fit few =
    (reads_captures (head_with link) records None (file_bytes link records)).0 (are_captures link records fits fit few)

-- the bytes of records in a row
pub records_follow : RecordsFollow
records_follow [] others = refl
records_follow (r ∷ first) others =
    let one = record_bytes r.seconds r.fraction r.original r.captured in
    ap (λ xs. record_bytes r.seconds r.fraction r.original r.captured ++ xs) (records_follow first others)
    ∙ sym (append_assoc one (records_bytes first) (records_bytes others))
