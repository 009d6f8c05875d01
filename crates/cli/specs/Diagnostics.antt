-- What a report of an error writes.
use Rattle.std.specs.{Prelude.{◌≡◌, ℕ, ◌&&◌, List, [], ◌∷◌, ◌++◌, Option, Some, None, Result, Ok, Err, is_some, Bool, true, false, IfSome, MatchBool, MatchOption}, Fmt.Cut.IsTextOrCut, Io.KnownBytes.{Keeps, Appends}, declared.io.ErrorKind.{ErrorKind, TheVariants.BrokenPipe}}
use Rattle.decimal_digits.specs.AppendsPrefix.{AppendsPrefix}
use Rattle.cli.specs.{declared.program.error.ProgramError.ProgramError, Error.{is_output, status_of}}

-- a line is a text and a line feed: the text that the error's `Display` states, cut after 120 bytes, if it states one
abbrev pub IsErrorLine : Option (List ℕ) → List ℕ → Type 0
IsErrorLine output line =
    (text : List ℕ) × (line ≡ text ++ (10 ∷ [])) × IfSome output (λ whole. IsTextOrCut 120 whole text)

-- one line is written: a prefix of it, all of it where the writer has not failed, nothing where it had failed before
abbrev pub Reports : Option (List ℕ) → Option (List ℕ) → Bool → Option (List ℕ) → Bool → Type 0
Reports output old had_failed new failed =
    (line : List ℕ) × IsErrorLine output line × AppendsPrefix old new line × (failed ≡ false → Appends old new line)
    × (had_failed ≡ true → Keeps old new × (failed ≡ true))

-- a line is written, or a prefix of it
abbrev pub ReportsLine : Option (List ℕ) → Option (List ℕ) → Type 0
ReportsLine old new = (text : List ℕ) × AppendsPrefix old new (text ++ (10 ∷ []))

-- whether an error of a writer, if there is one, is that of a closed pipe
abbrev pub is_closed_pipe : Option ErrorKind → Bool
is_closed_pipe (Some BrokenPipe) = true
is_closed_pipe _ = false

-- the writer that was returned, if one was, failed with an error of this kind, if one is there
abbrev pub IsFailure : {O : Type 0} → Option (O × Bool) → Option ErrorKind → Type 0
IsFailure back kind = MatchOption back (kind ≡ None) (λ closed. is_some kind ≡ closed.1)

-- a program concludes with this status: 0 where each of its texts has a result, and 1 where some have none; an error
-- has its own and is reported, but a failed output to a closed pipe is not
abbrev pub Concludes :
    {D : Type 0} → (D → ProgramError → D → Type 0) → Result Bool ProgramError → Option ErrorKind → ℕ → D → D → Type 0
Concludes reports (Ok true) failure status old new = (status ≡ 0) × (new ≡ old)
Concludes reports (Ok false) failure status old new = (status ≡ 1) × (new ≡ old)
Concludes reports (Err error) failure status old new =
    (status ≡ status_of error)
    × MatchBool (is_closed_pipe failure && is_output error) (new ≡ old) (reports old error new)

-- the same with the failure of the writer that is returned
abbrev pub ConcludesWith :
    {O D : Type 0} → (D → ProgramError → D → Type 0) → Result Bool ProgramError → Option (O × Bool) → ℕ → D → D
    → Type 0
ConcludesWith reports done back status old new =
    (failure : Option ErrorKind) × IsFailure back failure × Concludes reports done failure status old new
