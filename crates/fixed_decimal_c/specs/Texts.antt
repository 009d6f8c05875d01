-- Texts in the buffer of a caller.
use Rattle.std.specs.Prelude.{◌≡◌, ℕ, ◌<◌, ◌≤◌, ◌⊎◌, List, ◌++◌, length, drop, Result, Ok, Err}
use Rattle.fixed_decimal_c.specs.declared.error.FdError.{FdError, TheVariants.BufferTooSmall}

-- the text is at the start of the buffer, which is otherwise as it was; it has `count` bytes
abbrev pub IsWritten : List ℕ → ℕ → List ℕ → List ℕ → Type 0
IsWritten text count old new =
    (count ≡ length text) × (length text ≤ length old) × (new ≡ text ++ drop (length text) old)

-- the text does not fit the buffer, which is as it was; it has `needed` bytes
abbrev pub IsTooLong : List ℕ → ℕ → List ℕ → List ℕ → Type 0
IsTooLong text needed old new = (needed ≡ length text) × (length old < length text) × (new ≡ old)

-- the text is written if it fits
abbrev pub Writes : Result ℕ FdError → List ℕ → List ℕ → List ℕ → Type 0
Writes (Ok count) text old new = IsWritten text count old new
Writes (Err (BufferTooSmall needed)) text old new = IsTooLong text needed old new
Writes (Err error) text old new = ⊥

-- there is an error of which Fails holds, and the buffer is as it was
abbrev pub WritesNothing : (FdError → Type 0) → Result ℕ FdError → List ℕ → List ℕ → Type 0
WritesNothing Fails answer old new = (error : FdError) × (answer ≡ Err error) × Fails error × (new ≡ old)

-- a text of which Is holds is written if it fits; or there is an error of which Fails holds
abbrev pub WritesTo : (List ℕ → Type 0) → (FdError → Type 0) → Result ℕ FdError → List ℕ → List ℕ → Type 0
WritesTo Is Fails answer old new =
    ((text : List ℕ) × Is text × Writes answer text old new) ⊎ WritesNothing Fails answer old new
