-- Private: cited only by the contracts of private functions.
-- Parts of the text: digits without a separator between them.
use Rattle.std.specs.Prelude.{◌≡◌, ℕ, zero, suc, if◌then◌else◌, ◌+◌, ◌-◌, ◌<◌, ◌≤◌, Bool, false, List, [], ◌++◌, length, slice_index, EachIndex, flat_map, ℤ, pos, negsuc, ◌-ℤ◌}
use Rattle.decimal_digits.specs.Number.{digit}
use Rattle.decimal_format.specs.{declared.grouping.{GroupingSizes.GroupingSizes, GroupingStrategy.GroupingStrategy}, Grouping.{ends_group, separates}, Symbols.{Symbols, digit_text}, Formatted.{FormattedAbsolute, formatted_down, separator_before, separator_after}}

-- the magnitude that is the given number below the highest
abbrev pub magnitude_of : FormattedAbsolute → ℕ → ℤ
magnitude_of f below = f.value.hi -ℤ pos below

-- the bytes of `count` magnitudes, the first of which is `below` below the highest
abbrev pub part_text : FormattedAbsolute → ℕ → ℕ → List ℕ
part_text f below count =
    formatted_down f.symbols f.strategy f.value.hi f.value.number (magnitude_of f below) count

-- the bytes of ASCII digits are the digits of the value from this magnitude down
abbrev pub AreDigits : FormattedAbsolute → ℕ → List ℕ → Type 0
AreDigits f below bytes =
    EachIndex bytes (λ k. slice_index bytes k ≡ 48 + digit f.value.number (magnitude_of f (below + k)))

-- no separator is between these magnitudes
pub record IsRun (f : FormattedAbsolute) (below count : ℕ) : Type 0 where
  pub none_after : (k : ℕ) → k + 1 < count
      → separator_after f.symbols f.strategy f.value.hi (magnitude_of f (below + k)) ≡ []
  pub none_before : (k : ℕ) → k + 1 < count → separator_before f.symbols (magnitude_of f (below + (k + 1))) ≡ []

-- the bytes of ASCII digits, by the symbols
abbrev pub digits_text : Symbols → List ℕ → List ℕ
digits_text s = flat_map (λ byte. digit_text s (byte - 48))

-- the same between the separators of a run
abbrev pub run_text : Symbols → List ℕ → List ℕ → List ℕ → List ℕ
run_text s before after bytes = before ++ (digits_text s bytes ++ after)

-- each separator has at most four bytes
pub record HasShortSeparators (s : Symbols) : Type 0 where
  pub decimal : length s.decimal ≤ 4
  pub grouping : length s.grouping ≤ 4

-- a group ends after the digit at a magnitude, which is no fraction digit: a separator is there if the value is grouped
abbrev pub ends_group_at : GroupingSizes → ℤ → Bool
ends_group_at sizes (negsuc m) = false
ends_group_at sizes (pos m) = ends_group sizes m

-- the number of separators after the magnitudes from 0 to n - 1
unfoldable pub separators_below : GroupingStrategy → GroupingSizes → ℤ → ℕ → ℕ
separators_below strategy sizes hi zero = 0
separators_below strategy sizes hi (suc n) =
    separators_below strategy sizes hi n + (if separates strategy sizes hi (pos n) then 1 else 0)
