-- What a reader of CSV bytes has yet to read.
use Rattle.std.specs.Prelude.{◌≡◌, ℕ, ◌+◌, true, List, [], length, Option, Some, None, IsSome}
use Rattle.std.specs.Borrow.{Bor}
use Rattle.csv.specs.Reading.{Ready, default_config, is_flexible, reader_config, reader_state, reader_trim, records_from, source_of}
use Rattle.csv.specs.declared.parser.State.{State}
use Rattle.csv.specs.declared.reader.Reader.{Reader}
use Rattle.csv.specs.declared.reader.Trim.TheVariants as trim

-- a reader of bytes
abbrev pub ByteReader : Type 0
ByteReader = Reader (Bor (List ℕ))

-- the bytes that it has yet to read
abbrev pub bytes_left : ByteReader → Option (List ℕ)
bytes_left reader = source_of (λ source. Some source.now) reader

-- it reads records of any width, with commas, double quotes and no header of its own, from bytes that are known
pub record IsReading (reader : ByteReader) : Type 0 where
  pub config : reader_config reader ≡ default_config
  pub trim : reader_trim reader ≡ trim.None
  pub flexible : is_flexible reader ≡ true
  pub ready : Ready reader
  pub known : IsSome (bytes_left reader)

-- the records of the bytes, if there are any
abbrev pub records_of : State → Option (List ℕ) → List (List (List ℕ))
records_of state None = []
records_of state (Some bytes) = records_from default_config (length bytes + 1) state bytes

-- the records that it has yet to read
abbrev pub records_left : ByteReader → List (List (List ℕ))
records_left reader = records_of (reader_state reader) (bytes_left reader)
