-- The texts of `--help` and `--version`.
use Rattle.std.specs.Prelude.{ℕ, List, [], ◌∷◌, ◌++◌, codes}
use Rattle.cli.specs.{declared.program.help.{Program.{Program, TheVariants.{Fixdec, FixdecLines, Plural}}, Request.{Request, TheVariants.{Help, Version, Locales}}, TheConstants.{VERSION, FIXDEC, FIXDEC_LINES, PLURAL, TEXT, OPTIONS, RULES, CALLS, SKELETONS, OPERANDS}}, LocaleList.locales_text}

unfoldable pub name_of : Program → List ℕ
name_of Fixdec = codes "fixdec"
name_of FixdecLines = codes "fixdec_lines"
name_of Plural = codes "plural"

unfoldable pub usage_of : Program → List ℕ
usage_of Fixdec = FIXDEC.now
usage_of FixdecLines = FIXDEC_LINES.now
usage_of Plural = PLURAL.now

-- a text on the words, which follows the usage line
unfoldable pub words_of : Program → List ℕ
words_of Fixdec = TEXT.now
words_of FixdecLines = OPTIONS.now
words_of Plural = RULES.now

-- the table of the words
unfoldable pub table_of : Program → List ℕ
table_of Fixdec = CALLS.now
table_of FixdecLines = CALLS.now
table_of Plural = OPERANDS.now

-- the stems of skeletons, if the program has them
unfoldable pub skeletons_of : Program → List ℕ
skeletons_of Fixdec = SKELETONS.now
skeletons_of FixdecLines = SKELETONS.now
skeletons_of Plural = []

-- the name, a space, the version and a line feed
abbrev pub version_of : Program → List ℕ
version_of program = name_of program ++ (32 ∷ VERSION.now) ++ (10 ∷ [])

abbrev pub help_of : Program → List ℕ
help_of program =
    (usage_of program ++ (words_of program ++ table_of program)) ++ (skeletons_of program ++ version_of program)

-- what a request asks for
abbrev pub answer_of : Program → Request → List ℕ
answer_of program Help = help_of program
answer_of program Version = version_of program
answer_of program Locales = locales_text
