-- What a reader of lines reads.
use Rattle.std.specs.{Prelude.{◌≡◌, ◌≢◌, ℕ, Bool, true, false, List, [], ◌∷◌, ◌++◌, Option, Some, IsSomeAnd}, Io.{Buffered.reader_remaining, BufRead.{first_piece, take_through, drop_through}}, declared.{alloc.Global.Global, io.{ErrorKind.ErrorKind, buffered.BufReader.BufReader}}}
use Rattle.cli.specs.Records.{records_of}

-- what is left of the input of a reader of lines, which is a buffer before a reader, and the kind of its first error
abbrev pub bytes_left : {R : Type 0} → (R → Option (List ℕ)) → BufReader R Global × Option ErrorKind → Option (List ℕ)
bytes_left remaining input = reader_remaining remaining input.0

-- the first line of the bytes was read and these bytes are left, or there is none
abbrev pub IsRead : Bool → List ℕ → List ℕ → Option (List ℕ) → Type 0
IsRead true bytes line rest = (bytes ≢ []) × (line ≡ first_piece 10 bytes) × (rest ≡ Some (drop_through 10 bytes))
IsRead false bytes line rest = (bytes ≡ []) × (rest ≡ Some [])

-- the bytes up to and with the first line feed were appended and the others are left, or there are none
abbrev pub IsAppended : Bool → List ℕ → List ℕ → List ℕ → Option (List ℕ) → Type 0
IsAppended true bytes old new rest =
    (bytes ≢ []) × (new ≡ old ++ take_through 10 bytes) × (rest ≡ Some (drop_through 10 bytes))
IsAppended false bytes old new rest = (bytes ≡ []) × (new ≡ old) × (rest ≡ Some [])

-- the first record of the bytes was read and the others are those of the bytes that are left, or there is none
abbrev pub IsRecordRead : Bool → List ℕ → List ℕ → Option (List ℕ) → Type 0
IsRecordRead true bytes row rest = IsSomeAnd rest (λ left. records_of bytes ≡ row ∷ records_of left)
IsRecordRead false bytes row rest = (bytes ≡ []) × (rest ≡ Some [])

-- the first row of the bytes, a line or a record, was read, or there is none
abbrev pub IsRowRead : Bool → Bool → List ℕ → List ℕ → Option (List ℕ) → Type 0
IsRowRead true some bytes row rest = IsRecordRead some bytes row rest
IsRowRead false some bytes row rest = IsRead some bytes row rest
