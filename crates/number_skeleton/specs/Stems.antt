-- The stems of skeletons: words, and those that are numbers of digits.
use Rattle.std.specs.{Prelude.{ℕ, ◌==◌, nat_lt, Bool, ◌||◌, ◌&&◌, if◌then◌else◌, List, length, drop, slice_index, is_none, is_some, Option, Some, None, unwrap_or}, Option.option_map}
use Rattle.number_format.specs.declared.options.ExponentSign.{ExponentSign}
use Rattle.number_format.specs.declared.options.ExponentSign.TheVariants as sign
use Rattle.number_skeleton.specs.declared.choices.Choice.TheVariants as choice
use Rattle.number_skeleton.specs.declared.choices.ChosenNotation.TheVariants as notation
use Rattle.number_skeleton.specs.{declared.{choices.ChosenPrecision.{ChosenPrecision, TheVariants.{Unlimited, Fraction, Significant}}, counts.Counts.Counts, meaning.Meaning.Meaning}, Counts.{run, counts}, Words.named}
use Rattle.number_skeleton.specs.declared.meaning.Expected.TheVariants as expected

-- `.*` is any number of fraction digits, but none beside significant digits
abbrev pub is_any : Counts → Bool
is_any c = (c.min == 0) && is_none c.max

abbrev pub precision_of : Counts → ChosenPrecision
precision_of fraction = if is_any fraction then Unlimited else Fraction fraction

abbrev pub beside_significant : Counts → Counts
beside_significant fraction = if is_any fraction then record { min = 0; max = Some 0 } else fraction

-- `.00##`
abbrev pub fraction_stem : List ℕ → Option Meaning
fraction_stem text =
    option_map (λ c. record {
      choice = choice.Precision (precision_of c);
      expected = expected.Significant (beside_significant c);
    }) (counts 48 35 (drop 1 text))

-- `@@##`
abbrev pub significant_stem : List ℕ → Option Meaning
significant_stem text =
    option_map (λ c. record { choice = choice.Precision (Significant c); expected = expected.StripIfInteger })
    (counts 64 35 text)

-- `+!` or `+?`
abbrev pub exponent_sign : List ℕ → Option ExponentSign
exponent_sign text =
    if (slice_index text 0 == 43) && (slice_index text 1 == 33) then Some sign.Always
    else if (slice_index text 0 == 43) && (slice_index text 1 == 63) then Some sign.Auto
    else None

-- `E0`, `EE00`, `E+!0`
abbrev pub exponent_stem : List ℕ → Option Meaning
exponent_stem text =
    let is_engineering = slice_index text 1 == 69 in
    let signed = drop (if is_engineering then 2 else 1) text in
    let zeros = drop (if is_some (exponent_sign signed) then 2 else 0) signed in
    if (run 48 48 zeros == 0) || nat_lt (run 48 48 zeros) (length zeros) then None
    else Some (record {
      choice = choice.Notation (notation.Exponent (record {
        is_engineering = is_engineering;
        digits = run 48 48 zeros;
        sign = unwrap_or (exponent_sign signed) sign.Auto;
      }));
      expected = expected.Stem;
    })

-- `000`
abbrev pub integer_stem : List ℕ → Option Meaning
integer_stem text =
    if nat_lt (run 48 48 text) (length text) then None
    else Some (record {
      choice = choice.Integer (record { min = length text; max = None });
      expected = expected.Stem;
    })

abbrev pub stem : List ℕ → Option Meaning
stem text =
    if slice_index text 0 == 46 then fraction_stem text
    else if slice_index text 0 == 64 then significant_stem text
    else if slice_index text 0 == 69 then exponent_stem text
    else if slice_index text 0 == 48 then integer_stem text
    else named text
