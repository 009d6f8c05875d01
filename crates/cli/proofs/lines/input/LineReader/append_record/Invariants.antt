use Rattle.std.proofs.Common.{◌≡◌, ◌-◌, ℕ, Bool, List, Option, None, vec_len}
use Rattle.std.specs.declared.io.ErrorKind.{ErrorKind}
use Rattle.cli.specs.{Fields.are_closed, Input.bytes_left}
use Rattle.cli.proofs.lemmas.lines.FirstRecord.{IsPart}
use Rattle.cli.proofs.lines.input.LineReader.append_record.Given as goal

-- lines of the record were read
pub record Reads
    (input : Option (List ℕ)) (row : List ℕ) (is_closed : Bool) (left : Option (List ℕ)) (failure : Option ErrorKind)
    : Type 0
  where
    pub part : IsPart input row left
    pub closed : is_closed ≡ are_closed row
    pub has_not_failed : failure ≡ None

abbrev pub invariant-loop-is_closed : goal.invariant-loop-is_closed
invariant-loop-is_closed g l =
    Reads (bytes_left g.R.Read.remaining l.fn.self) l.row.items l.is_closed (bytes_left g.R.Read.remaining l.self)
    l.self.1

abbrev pub decreases-loop-is_closed : goal.decreases-loop-is_closed
decreases-loop-is_closed g l = 1048577 - vec_len l.row
