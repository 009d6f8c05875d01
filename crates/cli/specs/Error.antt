-- The errors of the programs, and the exit status that goes with each.
use Rattle.std.specs.Prelude.{ℕ, Bool, true, false, Option, None}
use Rattle.plural_rules.specs.declared.parse.RulesError.TheVariants as rules
use Rattle.conversions.specs.{declared.{error.{FormError.FormError, OperationError.{OperationError, TheVariants.Output}, RangeError.RangeError, Reason.TheVariants.{Syntax, Limit}}, named_rules.NamedRulesError.{NamedRulesError, TheVariants.{UnknownLocale, UnknownType, Rules}}}, Error.{status_of_operation, status_of_range}}
use Rattle.conversions.specs.declared.error.FormError.TheVariants as form
use Rattle.conversions.specs.declared.error.RangeError.TheVariants as range
use Rattle.cli.specs.declared.program.{error.{FieldLabel.FieldLabel, HeaderError.HeaderError, LineError.LineError, ProgramError.ProgramError, WordsError.WordsError}, help.Program.{Program, TheVariants.Plural}}
use Rattle.cli.specs.declared.program.error.HeaderError.TheVariants as header
use Rattle.cli.specs.declared.program.error.ProgramError.TheVariants as program
use Rattle.cli.specs.declared.program.error.WordsError.TheVariants as words

-- an error of a line, of this field if it is that of one
abbrev pub line_error : Option FieldLabel → OperationError → LineError
line_error field error = record { field = field; error = error }

-- an error of a line that names no field
abbrev pub error_of_line : OperationError → LineError
error_of_line error = line_error None error

-- an error of a form as an error before the work
abbrev pub words_error : FormError → WordsError
words_error (form.NoSuchWord word) = words.NoSuchWord word
words_error (form.UnknownLocale tag) = words.UnknownLocale tag
words_error (form.SkeletonSyntax at) = words.SkeletonSyntax at
words_error (form.SkeletonUnsupported stem) = words.SkeletonUnsupported stem
words_error form.NoReader = words.NoReader
words_error form.Memory = words.Memory

-- the status of an error before the work: 3 of out of memory and of failed output, 2 of wrong words
abbrev pub status_of_words : WordsError → ℕ
status_of_words words.Memory = 3
status_of_words words.Output = 3
status_of_words _ = 2

-- whether the output of a help or a version failed
abbrev pub is_output_of_words : WordsError → Bool
is_output_of_words words.Output = true
is_output_of_words _ = false

-- the status of an error of a header: 1 of a rejected one, 3 of out of memory
abbrev pub status_of_header : HeaderError → ℕ
status_of_header header.Memory = 3
status_of_header _ = 1

-- the status of an error of a program
abbrev pub status_of : ProgramError → ℕ
status_of (program.Setup error) = status_of_words error.why
status_of (program.Operation error) = status_of_operation error
status_of (program.Range error) = status_of_range error
status_of (program.Line line error) = status_of_operation error.error
status_of (program.Header error) = status_of_header error
status_of (program.LongLine line) = 3
status_of program.Input = 3
status_of (program.Rules at reason) = 1
status_of (program.Text at reason) = 1
status_of program.Output = 3

-- whether the output failed
abbrev pub is_output : ProgramError → Bool
is_output program.Output = true
is_output (program.Setup error) = is_output_of_words error.why
is_output _ = false

-- an error before the work of a program
abbrev pub setup_error : Program → WordsError → ProgramError
setup_error by why = program.Setup (record { program = by; why = why })

-- an error of the one conversion of a program
abbrev pub conversion_error : OperationError → ProgramError
conversion_error Output = program.Output
conversion_error error = program.Operation error

-- an error of the one range of a program
abbrev pub range_error : RangeError → ProgramError
range_error (range.Operation Output) = program.Output
range_error error = program.Range error

-- the error of a word that names no rules
abbrev pub error_of_rules : NamedRulesError → ProgramError
error_of_rules (UnknownLocale tag) = setup_error Plural (words.UnknownLocale tag)
error_of_rules (UnknownType letters) = setup_error Plural (words.UnknownType letters)
error_of_rules (Rules (rules.Syntax at)) = program.Rules at Syntax
error_of_rules (Rules (rules.Limit at)) = program.Rules at Limit
error_of_rules (Rules rules.Memory) = setup_error Plural words.Memory
