-- The arguments of a process, the words that they have, and how a program ends on them.
use Rattle.std.specs.{Prelude.{◌≡◌, ◌≢◌, ◌⊎◌, ⊤, ℕ, Bool, true, false, List, [], ◌∷◌, drop, codes, String, string_bytes, Option, Result, Ok, Err, IsSomeAnd}, Io.KnownBytes.Appends, Vec.Iter.into_iter_items, IoError.error_kind, declared.{alloc.Global.Global, vec.IntoIter.IntoIter, io.{Error.Error, ErrorKind.TheVariants.OutOfMemory}}}
use Rattle.cli.specs.{declared.program.{error.{WordsError.{WordsError, TheVariants.{NotText, Memory, Output}}, ProgramError.{ProgramError, TheVariants.Setup}}, help.{Program.{Program, TheVariants.{Fixdec, FixdecLines}}, Request.{Request, TheVariants.{Help, Version, Locales}}}}, Help.answer_of}

-- the arguments, or the error of reading them
abbrev pub Arguments : Type 0
Arguments = Result (IntoIter (String Global) Global) Error

-- the words of the arguments
abbrev pub words_of : IntoIter (String Global) Global → List (String Global)
words_of arguments = drop 1 (into_iter_items arguments)

-- the arguments were read, and P holds of their words
abbrev pub HaveWords : Arguments → (List (String Global) → Type 0) → Type 0
HaveWords (Ok arguments) P = P (words_of arguments)
HaveWords (Err error) P = ⊥

-- an argument is not UTF-8
abbrev pub IsNotText : Arguments → Type 0
IsNotText (Ok arguments) = ⊥
IsNotText (Err error) = error_kind error ≢ OutOfMemory

-- the program is out of memory for the arguments, or for the list of their words
abbrev pub IsOutOfMemory : Arguments → Type 0
IsOutOfMemory (Ok arguments) = ⊤
IsOutOfMemory (Err error) = error_kind error ≡ OutOfMemory

-- the words cannot be read: an argument is not UTF-8, or the program is out of memory
abbrev pub AreUnreadable : Arguments → WordsError → Type 0
AreUnreadable arguments NotText = IsNotText arguments
AreUnreadable arguments Memory = IsOutOfMemory arguments
AreUnreadable arguments _ = ⊥

-- the only word asks for this: --help or -h for the help; --version for the version, but of fixdec; --locales of
-- fixdec_lines for the tags of locales
abbrev pub Asks : Program → List (String Global) → Request → Type 0
Asks program (word ∷ []) Help = (string_bytes word ≡ codes "--help") ⊎ (string_bytes word ≡ codes "-h")
Asks program (word ∷ []) Version = (program ≢ Fixdec) × (string_bytes word ≡ codes "--version")
Asks program (word ∷ []) Locales = (program ≡ FixdecLines) × (string_bytes word ≡ codes "--locales")
Asks program words request = ⊥

abbrev pub IsRequest : Program → List (String Global) → Type 0
IsRequest program words = (request : Request) × Asks program words request

-- the words ask for this, which is appended
abbrev pub Answers : Program → List (String Global) → Option (List ℕ) → Option (List ℕ) → Type 0
Answers program words old new =
    (request : Request) × Asks program words request × Appends old new (answer_of program request)

-- ---- How a program ends: whether each of its texts has a result, or with an error; and its writer.

-- the words cannot be read, and the writer is not called; or the output of what they ask for failed
abbrev pub SetupFails : {O : Type 0} → Program → Arguments → O → WordsError → O × Bool → Type 0
SetupFails program arguments out Output closed = HaveWords arguments (IsRequest program) × (closed.1 ≡ true)
SetupFails program arguments out why closed = AreUnreadable arguments why × (closed ≡ (out, false))

-- before its work: it has printed what its only word asks for, or with this error
abbrev pub EndsBeforeWork :
    {O : Type 0} → Program → (O → Option (List ℕ)) → Arguments → O → Result Bool ProgramError → Option (O × Bool)
    → Type 0
EndsBeforeWork program contents arguments out (Ok texts) back =
    IsSomeAnd back (λ closed. (texts ≡ true) × (closed.1 ≡ false)
    × HaveWords arguments (λ words. Answers program words (contents out) (contents closed.0)))
EndsBeforeWork program contents arguments out (Err (Setup error)) back =
    (error.program ≡ program) × IsSomeAnd back (SetupFails program arguments out error.why)
EndsBeforeWork program contents arguments out (Err error) back = ⊥

-- before its work, or as P says of its words
abbrev pub Ends :
    {O : Type 0} → Program → (O → Option (List ℕ)) → Arguments → O
    → (List (String Global) → Result Bool ProgramError → Option (O × Bool) → Type 0)
    → Result Bool ProgramError → Option (O × Bool) → Type 0
Ends program contents arguments out P done back =
    EndsBeforeWork program contents arguments out done back
    ⊎ HaveWords arguments (λ words. ¬ IsRequest program words × P words done back)
