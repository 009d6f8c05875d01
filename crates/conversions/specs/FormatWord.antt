-- The formatter that `format:LOCALE[:GROUPING|:SKELETON]` names.
use Rattle.std.specs.{Prelude.{◌≡◌, ◌≢◌, ◌⊎◌, ℕ, ◌-◌, ⊤, if◌then◌else◌, List, [], ◌∷◌, take, drop, codes, Option, Some, None, IsSome, Ok, Err}, Str.is_utf8}
use Rattle.decimal_format.specs.declared.grouping.GroupingStrategy.{GroupingStrategy, TheVariants.{Auto, Never, Always, Min2}}
use Rattle.locale_data.specs.Locales.{IsLocale, IsUnknown}
use Rattle.number_format.specs.{declared.{format.{ids.NumberFormatError.NumberFormatError, formatter.NumberFormatter.NumberFormatter}, options.NumberOptions.NumberOptions}, Formatters.{IsFormatter, IsFormatterError}}
use Rattle.number_format.specs.declared.format.ids.NumberFormatError.TheVariants as formatter
use Rattle.number_skeleton.specs.{declared.error.SkeletonError.SkeletonError, Meaning.{skeleton_options, options_value}}
use Rattle.number_skeleton.specs.declared.error.SkeletonError.TheVariants as skeleton
use Rattle.conversions.specs.{declared.{error.FormError.{FormError, TheVariants.{NoSuchWord, UnknownLocale, SkeletonSyntax, SkeletonUnsupported}}, locale_formatter.LocaleFormatter.{LocaleFormatter, TheVariants.{AllDigits, Skeleton}}}, Parameters.{lookup, locale_tag, locale_option}, ShownWord.IsShown}

-- ---- Options.

-- the grouping strategies and their words
abbrev pub strategies : List (List ℕ × GroupingStrategy)
strategies =
    (codes "auto", Auto) ∷ (codes "never", Never) ∷ (codes "always", Always) ∷ (codes "min2", Min2) ∷ []

-- the strategy that an option names; no option is `Auto`
abbrev pub strategy_of : Option (List ℕ) → Option GroupingStrategy
strategy_of None = Some Auto
strategy_of (Some option) = lookup strategies option

-- the option is a skeleton: any other text, but the empty one
abbrev pub IsSkeletonOption : Option (List ℕ) → List ℕ → Type 0
IsSkeletonOption option text = (option ≡ Some text) × (text ≢ []) × (strategy_of option ≡ None)

-- ---- Formatters by a skeleton.

-- the formatter of a locale and of the options that a skeleton names
abbrev pub IsNumberFormatter : List ℕ → List ℕ → NumberFormatter → Type 0
IsNumberFormatter tag text f =
    (o : NumberOptions) × (skeleton_options text ≡ Ok (options_value o)) × IsFormatter tag o f

-- the bytes of a skeleton between these offsets, which are those of a stem; none if they are no text
abbrev pub stem_bytes : List ℕ → ℕ → ℕ → List ℕ
stem_bytes text start end =
    let bytes = take (end - start) (drop start text) in if is_utf8 bytes then bytes else []

-- the error of a skeleton: the offset, or the stem
abbrev pub IsErrorOfSkeleton : List ℕ → SkeletonError → FormError → Type 0
IsErrorOfSkeleton text (skeleton.Syntax at) error = error ≡ SkeletonSyntax at
IsErrorOfSkeleton text (skeleton.Unsupported start end) (SkeletonUnsupported stem) =
    IsShown (stem_bytes text start end) stem
IsErrorOfSkeleton text why error = ⊥

-- the error of options in a locale: the tag, or the stem of the numbering system
abbrev pub IsErrorOfFormatter : List ℕ → NumberFormatError → FormError → Type 0
IsErrorOfFormatter tag formatter.UnknownLocale (UnknownLocale shown) = IsShown tag shown
IsErrorOfFormatter tag formatter.UnknownNumberingSystem (SkeletonUnsupported stem) =
    IsShown (codes "numbering-system") stem
IsErrorOfFormatter tag why error = ⊥

-- the text is no skeleton of the library; or it is one, and its options have no formatter in the locale
abbrev pub NumberFormatterFails : List ℕ → List ℕ → FormError → Type 0
NumberFormatterFails tag text error =
    ((why : SkeletonError) × (skeleton_options text ≡ Err why) × IsErrorOfSkeleton text why error)
    ⊎ ((o : NumberOptions) × (skeleton_options text ≡ Ok (options_value o))
    × ((why : NumberFormatError) × IsFormatterError tag o.numbering_system why × IsErrorOfFormatter tag why error))

-- ---- The word.

-- `format:..` names this formatter; without it there is none
abbrev pub NamesFormatter : Option (List ℕ) → Option LocaleFormatter → Type 0
NamesFormatter None None = ⊤
NamesFormatter (Some format) (Some (AllDigits f)) =
    (strategy_of (locale_option format) ≡ Some f.strategy) × IsLocale (locale_tag format) f.symbols
NamesFormatter (Some format) (Some (Skeleton f)) =
    (text : List ℕ) × IsSkeletonOption (locale_option format) text × IsNumberFormatter (locale_tag format) text f
NamesFormatter _ _ = ⊥

-- the locale with this tag is unknown
abbrev pub IsUnknownLocale : List ℕ → FormError → Type 0
IsUnknownLocale tag (UnknownLocale shown) = IsUnknown tag × IsShown tag shown
IsUnknownLocale tag error = ⊥

-- the option of the word is empty
abbrev pub IsEmptyOption : List ℕ → FormError → Type 0
IsEmptyOption format (NoSuchWord word) = (locale_option format ≡ Some []) × IsShown format word
IsEmptyOption format error = ⊥

-- `format:..` names no formatter: the option is empty; or it is that of a strategy, and the locale is unknown; or there
-- is no formatter by the skeleton
abbrev pub FormatterFails : Option (List ℕ) → FormError → Type 0
FormatterFails None error = ⊥
FormatterFails (Some format) error =
    IsEmptyOption format error
    ⊎ ((IsSome (strategy_of (locale_option format)) × IsUnknownLocale (locale_tag format) error)
    ⊎ ((text : List ℕ) × IsSkeletonOption (locale_option format) text
    × NumberFormatterFails (locale_tag format) text error))
