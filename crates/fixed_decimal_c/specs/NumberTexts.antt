-- The formatter of a tag and a number skeleton, or of options.
use Rattle.std.specs.{Prelude.{◌≡◌, ℕ, ◌⊎◌, false, List, Result, Ok, Err}, Str.{IsUtf8, IsValidUpTo}}
use Rattle.decimal_digits.specs.declared.rounding.RoundError.{RoundError}
use Rattle.decimal_digits.specs.declared.rounding.RoundError.TheVariants as round
use Rattle.number_format.specs.{declared.{format.{ids.NumberFormatError.NumberFormatError, formatter.NumberFormatter.NumberFormatter}, options.NumberOptions.NumberOptions}, Formatters.{IsFormatter, IsFormatterError}}
use Rattle.number_format.specs.declared.format.ids.NumberFormatError.TheVariants as made
use Rattle.number_skeleton.specs.{declared.error.SkeletonError.SkeletonError, NoStem.has_no_stem, Meaning.{skeleton_options, options_value}}
use Rattle.number_skeleton.specs.declared.error.SkeletonError.TheVariants as read
use Rattle.fixed_decimal_c.specs.{declared.{error.FdError.{FdError, TheVariants.{Memory, Overflow, UnknownLocale, SkeletonSyntax, SkeletonUnsupported, UnknownNumberingSystem, NoSkeleton}}, number_options.FdNumberOptions.FdNumberOptions}, NumberOptions.{AreNumberOptions, NumberOptionsFail}, Texts.{Writes, WritesNothing}}

abbrev pub error_of_skeleton : SkeletonError → FdError
error_of_skeleton (read.Syntax at) = SkeletonSyntax at
error_of_skeleton (read.Unsupported start end) = SkeletonUnsupported start

abbrev pub error_of_formatter : NumberFormatError → FdError
error_of_formatter made.UnknownLocale = UnknownLocale
error_of_formatter made.UnknownNumberingSystem = UnknownNumberingSystem

-- a number beyond the limits, scaled or rounded, is the overflow of the call with this number
abbrev pub error_of_format : RoundError → ℕ → FdError
error_of_format round.Limit at = Overflow at
error_of_format round.Memory at = Memory

-- the options of a skeleton
abbrev pub AreOptionsOf : List ℕ → NumberOptions → Type 0
AreOptionsOf skeleton o = IsUtf8 skeleton × (skeleton_options skeleton ≡ Ok (options_value o))

-- why a text is no skeleton; one that is not UTF-8, from the end of its longest prefix that is
abbrev pub SkeletonFails : FdError → List ℕ → Type 0
SkeletonFails error text =
    ((at : ℕ) × (error ≡ SkeletonSyntax at) × ¬ IsUtf8 text × IsValidUpTo text at)
    ⊎ ((e : SkeletonError) × (error ≡ error_of_skeleton e) × IsUtf8 text × (skeleton_options text ≡ Err e))

-- the formatter of a tag and options
abbrev pub HasFormatter : List ℕ → NumberOptions → NumberFormatter → Type 0
HasFormatter tag o f = IsUtf8 tag × IsFormatter tag o f

-- why options have no formatter; a tag that is not UTF-8 is unknown
abbrev pub OptionsFail : FdError → List ℕ → NumberOptions → Type 0
OptionsFail error tag o =
    ((error ≡ UnknownLocale) × ¬ IsUtf8 tag)
    ⊎ ((e : NumberFormatError) × (error ≡ error_of_formatter e) × IsUtf8 tag
    × IsFormatterError tag o.numbering_system e)

-- the formatter of a tag and the options of a skeleton
abbrev pub IsFormatterFor : List ℕ → List ℕ → NumberFormatter → Type 0
IsFormatterFor tag skeleton f = (o : NumberOptions) × AreOptionsOf skeleton o × HasFormatter tag o f

-- there is no such skeleton, or else no such formatter
abbrev pub FormatterFails : FdError → List ℕ → List ℕ → Type 0
FormatterFails error tag skeleton =
    SkeletonFails error skeleton
    ⊎ ((o : NumberOptions) × AreOptionsOf skeleton o × OptionsFail error tag o)

-- the formatter of a tag and the options that C passes
abbrev pub IsFormatterBy : List ℕ → FdNumberOptions → NumberFormatter → Type 0
IsFormatterBy tag c f = (o : NumberOptions) × AreNumberOptions c o × HasFormatter tag o f

-- C passes no options, or else there is no such formatter
abbrev pub FormatterByFails : FdError → List ℕ → FdNumberOptions → Type 0
FormatterByFails error tag c =
    NumberOptionsFail error c ⊎ ((o : NumberOptions) × AreNumberOptions c o × OptionsFail error tag o)

-- the formatter by options, or why there is none
abbrev pub IsMade : Result NumberFormatter FdError → List ℕ → FdNumberOptions → Type 0
IsMade (Ok f) tag c = IsFormatterBy tag c f
IsMade (Err error) tag c = FormatterByFails error tag c

-- the same by a skeleton
abbrev pub IsMadeBySkeleton : Result NumberFormatter FdError → List ℕ → List ℕ → Type 0
IsMadeBySkeleton (Ok f) tag skeleton = IsFormatterFor tag skeleton f
IsMadeBySkeleton (Err error) tag skeleton = FormatterFails error tag skeleton

-- no option is one that no stem of a skeleton names
abbrev pub HasStems : NumberOptions → Type 0
HasStems o = has_no_stem (options_value o) ≡ false

-- C passes no options; or they have no skeleton; or out of memory, where each option has a stem
abbrev pub SkeletonTextFails : FdError → FdNumberOptions → Type 0
SkeletonTextFails error c =
    NumberOptionsFail error c
    ⊎ ((o : NumberOptions) × AreNumberOptions c o × ((error ≡ NoSkeleton) ⊎ ((error ≡ Memory) × HasStems o)))

-- a skeleton that reads as the options that C passes is written if it fits; or there is none
abbrev pub WritesSkeleton : Result ℕ FdError → FdNumberOptions → List ℕ → List ℕ → Type 0
WritesSkeleton answer c old new =
    ((o : NumberOptions) × AreNumberOptions c o × HasStems o × (text : List ℕ)
    × (skeleton_options text ≡ Ok (options_value o)) × Writes answer text old new)
    ⊎ WritesNothing (λ error. SkeletonTextFails error c) answer old new
