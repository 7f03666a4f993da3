-- What contracts see of the devices.
use Rattle.std.specs.Prelude.{ℕ, ℤ, List}
use Rattle.io_edge.specs.Shelf.{Files}

-- a source in memory
pub record MemorySource : Type 0 where
  -- the bytes not given yet
  pub left : List ℕ
  -- the most bytes that a call gives
  pub piece : ℕ
  -- the numbers of the calls that fail
  pub fails : List ℕ
  -- the number of the next call
  pub calls : ℕ
  -- how often it failed
  pub faults : ℕ

-- a sink in memory
pub record MemorySink : Type 0 where
  -- the bytes that it took
  pub written : List ℕ
  -- the number of bytes at which it is full
  pub room : ℕ
  -- the most bytes that a call takes
  pub piece : ℕ
  -- the numbers of the calls that fail
  pub fails : List ℕ
  -- the number of the next call
  pub calls : ℕ
  -- how often it failed
  pub faults : ℕ

-- a source of noise in memory
pub record MemoryNoise : Type 0 where
  -- the numbers that it gave, each after its epsilon
  pub given : List (ℕ × ℤ)
  -- the numbers not given yet
  pub left : List ℤ
  -- the numbers of the calls that fail
  pub fails : List ℕ
  -- the number of the next call
  pub calls : ℕ
  -- how often it failed
  pub faults : ℕ

-- a shelf in memory
pub record MemoryShelf : Type 0 where
  pub files : Files
  -- the numbers of the calls that fail
  pub fails : List ℕ
  -- the number of the next call
  pub calls : ℕ
  -- how often it failed
  pub faults : ℕ

-- an adapter of a standard stream
pub record Adapter : Type 0 where
  -- how often it failed
  pub faults : ℕ
