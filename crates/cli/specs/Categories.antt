-- What `plural` prints, and what it prints before an error.
use Rattle.std.specs.{Prelude.{◌≡◌, ◌≢◌, ℕ, ◌+◌, List, [], ◌∷◌, ◌++◌, length, String, string_bytes, Option, Ok, Err, IsOk}, Io.KnownBytes.Appends, declared.alloc.Global.Global}
use Rattle.plural_rules.specs.{declared.rules.PluralCategory.PluralCategory, Rules.name_of}
use Rattle.decimal_digits.specs.AppendsPrefix.{AppendsPrefix}
use Rattle.cli.specs.{declared.program.{error.{ProgramError.{ProgramError, TheVariants.{Setup, Text, Output}}, WordsError.TheVariants.Memory}, help.Program.TheVariants.Plural}, TextCategory.{TextRulesValue, read_category, IsLongText}}
use Rattle.conversions.specs.Error.{read_error_of}

-- the line of a category: its name, and a line feed
abbrev pub category_line : PluralCategory → List ℕ
category_line category = name_of category ++ (10 ∷ [])

-- these are the lines of the texts: the category of each, in order
abbrev pub HaveLines : TextRulesValue → List (String Global) → List ℕ → Type 0
HaveLines rules [] lines = lines ≡ []
HaveLines rules (text ∷ texts) lines =
    (category : PluralCategory) × (rest : List ℕ) × (read_category rules (string_bytes text) ≡ Ok category)
    × (lines ≡ category_line category ++ rest) × HaveLines rules texts rest

-- the lines of all texts are appended
abbrev pub PrintsAll : TextRulesValue → List (String Global) → Option (List ℕ) → Option (List ℕ) → Type 0
PrintsAll rules texts old new = (lines : List ℕ) × HaveLines rules texts lines × Appends old new lines

-- the text with a number has no line: it is rejected, or the program is out of memory for its digits
abbrev pub TextFails : TextRulesValue → List ℕ → ℕ → ProgramError → Type 0
TextFails rules bytes number (Setup error) =
    (error ≡ record { program = Plural; why = Memory }) × IsLongText rules bytes
TextFails rules bytes number (Text at reason) =
    (at ≡ number) × (read_category rules bytes ≡ Err (read_error_of reason))
TextFails rules bytes number Output = IsOk (read_category rules bytes)
TextFails rules bytes number _ = ⊥

-- the first text, which has this number, fails with this error
abbrev pub FirstFails : TextRulesValue → List (String Global) → ℕ → ProgramError → Type 0
FirstFails rules [] number error = ⊥
FirstFails rules (text ∷ texts) number error = TextFails rules (string_bytes text) number error

-- what is printed before an error: the lines of the texts before the one that fails; at `Output` a prefix of lines
abbrev pub StopsAt :
    TextRulesValue → List (String Global) → Option (List ℕ) → Option (List ℕ) → ProgramError → Type 0
StopsAt rules texts old new error =
    (front : List (String Global)) × (back : List (String Global)) × (lines : List ℕ)
    × (texts ≡ front ++ back) × HaveLines rules front lines × AppendsPrefix old new lines
    × (error ≢ Output → Appends old new lines × FirstFails rules back (length front + 1) error)
