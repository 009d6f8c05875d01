-- A writer with a block of bytes before it.
use Rattle.std.specs.Prelude.{ℕ, List, Option, Bool}
use Rattle.std.specs.Io.KnownBytes.{append_known}

-- the writer, the bytes that are not yet written to it, and whether a call of it has failed
pub record Buffered (W : Type 0) : Type 0 where
  pub writer : W
  pub block : List ℕ
  pub has_failed : Bool

-- the contents of the writer, and then the bytes in the block, where those of the writer are known
abbrev pub buffered_contents : {W : Type 0} → (W → Option (List ℕ)) → Buffered W → Option (List ℕ)
buffered_contents contents b = append_known (contents b.writer) b.block
