-- The call that each word names, by its bytes.
use Rattle.std.specs.{Prelude.{◌≡◌, ℕ, if◌then◌else◌, List, [], ◌∷◌, codes, Option, Some, None}, Option.{option_map, option_and_then, option_zip}, Str.bytes_eq}
use Rattle.decimal_digits.specs.declared.rounding.UnsignedRoundingMode.TheVariants as unsigned
use Rattle.fixed_decimal.specs.declared.{rounding.SignedRoundingMode.SignedRoundingMode, variations.{Sign.Sign, SignDisplay.SignDisplay}, runs.Call.{Call, TheVariants.{MultiplyPow10, TrimStart, TrimEnd, TrimEndIfInteger, PadStart, PadEnd, SetMaxPosition, Round, SetSign, ApplySignDisplay, Concatenate}}}
use Rattle.fixed_decimal.specs.declared.rounding.SignedRoundingMode.TheVariants as mode
use Rattle.decimal_digits.specs.declared.rounding.RoundingIncrement.{RoundingIncrement, TheVariants.{MultiplesOf1, MultiplesOf2, MultiplesOf5, MultiplesOf25}}
use Rattle.fixed_decimal.specs.declared.variations.Sign.TheVariants as sign
use Rattle.fixed_decimal.specs.declared.variations.SignDisplay.TheVariants as display
use Rattle.conversions.specs.Parameters.{tag_of, option_of, lookup, number}

-- ---- Parameters.

-- the modes and their words
abbrev pub modes : List (List ℕ × SignedRoundingMode)
modes =
    (codes "ceil", mode.Ceil)
    ∷ (codes "floor", mode.Floor)
    ∷ (codes "expand", mode.Unsigned unsigned.Expand)
    ∷ (codes "trunc", mode.Unsigned unsigned.Trunc)
    ∷ (codes "half-ceil", mode.HalfCeil)
    ∷ (codes "half-floor", mode.HalfFloor)
    ∷ (codes "half-expand", mode.Unsigned unsigned.HalfExpand)
    ∷ (codes "half-trunc", mode.Unsigned unsigned.HalfTrunc)
    ∷ (codes "half-even", mode.Unsigned unsigned.HalfEven)
    ∷ []

-- the increments and their words
abbrev pub increments : List (List ℕ × RoundingIncrement)
increments =
    (codes "1", MultiplesOf1)
    ∷ (codes "2", MultiplesOf2)
    ∷ (codes "5", MultiplesOf5)
    ∷ (codes "25", MultiplesOf25)
    ∷ []

-- the signs and their words
abbrev pub signs : List (List ℕ × Sign)
signs = (codes "none", sign.None) ∷ (codes "minus", sign.Negative) ∷ (codes "plus", sign.Positive) ∷ []

-- the sign displays and their words
abbrev pub displays : List (List ℕ × SignDisplay)
displays =
    (codes "auto", display.Auto)
    ∷ (codes "never", display.Never)
    ∷ (codes "always", display.Always)
    ∷ (codes "except-zero", display.ExceptZero)
    ∷ (codes "negative", display.Negative)
    ∷ []

-- `MODE:INCREMENT`
abbrev pub mode_and_increment : List ℕ → Option (SignedRoundingMode × RoundingIncrement)
mode_and_increment text =
    option_zip (lookup modes (tag_of text)) (option_and_then (lookup increments) (option_of text))

-- `POSITION:MODE:INCREMENT`
abbrev pub rounding : List ℕ → Option Call
rounding text =
    option_map (λ x. Round x.0 x.1.0 x.1.1)
    (option_zip (number (tag_of text)) (option_and_then mode_and_increment (option_of text)))

-- a call that concatenates these bytes, wherever they are
abbrev pub concatenation : List ℕ → Call
concatenation bytes = Concatenate (record { ref_ptr = (0, 0); now = bytes })

-- ---- Words.

-- the calls without a parameter
abbrev pub plain_calls : List (List ℕ × Call)
plain_calls =
    (codes "trim-start", TrimStart)
    ∷ (codes "trim-end", TrimEnd)
    ∷ (codes "trim-end-if-integer", TrimEndIfInteger)
    ∷ []

-- the calls with a parameter, but the one that concatenates
abbrev pub calls_with : List (List ℕ × (List ℕ → Option Call))
calls_with =
    (codes "shift", λ text. option_map MultiplyPow10 (number text))
    ∷ (codes "pad-start", λ text. option_map PadStart (number text))
    ∷ (codes "pad-end", λ text. option_map PadEnd (number text))
    ∷ (codes "max", λ text. option_map SetMaxPosition (number text))
    ∷ (codes "round", rounding)
    ∷ (codes "sign", λ text. option_map SetSign (lookup signs text))
    ∷ (codes "display", λ text. option_map ApplySignDisplay (lookup displays text))
    ∷ []

-- the call with this name and this parameter
abbrev pub call_with : List ℕ → List ℕ → Option Call
call_with name parameter = option_and_then (λ call. call parameter) (lookup calls_with name)

-- the call with this name, which may have a parameter
abbrev pub named_call : List ℕ → Option (List ℕ) → Option Call
named_call name None = lookup plain_calls name
named_call name (Some parameter) =
    if bytes_eq name (codes "concat") then Some (concatenation parameter) else call_with name parameter

-- the call that a word names: the parameter is all that follows the first colon
abbrev pub call_of : List ℕ → Option Call
call_of word = named_call (tag_of word) (option_of word)

-- the call, wherever its text is
abbrev pub copied : Call → Call
copied (Concatenate text) = concatenation text.now
copied call = call

-- the word names this call
abbrev pub Names : List ℕ → Call → Type 0
Names word call = call_of word ≡ Some (copied call)
