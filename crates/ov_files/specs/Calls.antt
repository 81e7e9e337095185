-- The calls whose answers a contract names, as `WasAnswered` says it.
use Rattle.std.specs.Prelude.{ℕ, List}
use Rattle.sqlite_wal.specs.Recovery.{Image}

-- a call
pub data Call : Type 0 where
  -- for the path of the same file with no link in it
  RealPath : (path : List ℕ) → Call
  -- for the size and kind of what is at a path
  Stat : (path : List ℕ) → Call
  -- for the first page of the file at a path
  Page : (path : List ℕ) → Call
  -- for all bytes of the file at a path
  Bytes : (path : List ℕ) → Call
  -- for memory
  Room : Call
  -- for the file at a path and its log, to write in
  Opening : (path : List ℕ) → Call
  -- for a random number
  Random : Call
  -- for a connection to files that hold this
  Connecting : (image : Image) → Call
  -- for a connection to files in memory that hold this
  OpeningCopy : (image : Image) → Call
