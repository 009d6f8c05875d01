-- The text of a magnitude, piece by piece, and its length.
use Rattle.std.proofs.Common.{◌≡◌, ℕ, zero, suc, ◌≤◌, List, [], ◌++◌, length, Bool, true, false, refl, arith, append_assoc, length-append}
use Rattle.std.specs.Prelude.{if◌then◌else◌, ◌&&◌, ℤ, pos, negsuc}
use Rattle.decimal_digits.specs.Number.{digit}
use Rattle.decimal_format.specs.{declared.grouping.{GroupingSizes.GroupingSizes, GroupingStrategy.GroupingStrategy}, Formatted.{FormattedAbsolute, separator_before, magnitude_text}, Grouping.{is_grouped, separates}, Parts.{HasShortSeparators, ends_group_at}, Symbols.digit_text}

-- a separator is after the digits that end a group, of a value that is grouped
pub separates_if : (strategy : GroupingStrategy) (sizes : GroupingSizes) (hi m : ℤ)
    → separates strategy sizes hi m ≡ (is_grouped strategy sizes hi && ends_group_at sizes m)
separates_if strategy sizes hi (pos m) = refl
separates_if strategy sizes hi (negsuc m) = grind arith

module _ (f : FormattedAbsolute) where
  -- the decimal separator, the digit and the grouping separator are the text
  pub pushed : (m : ℤ) (d : ℕ) (before after : Bool) → d ≡ digit f.value.number m
      → (if before then f.symbols.decimal else []) ≡ separator_before f.symbols m
      → after ≡ separates f.strategy f.symbols.sizes f.value.hi m → (xs : List ℕ)
      → ((xs ++ (if before then f.symbols.decimal else [])) ++ digit_text f.symbols d)
      ++ (if after then f.symbols.grouping else [])
      ≡ xs ++ magnitude_text f.symbols f.strategy f.value.hi f.value.number m
  pushed m d before after digit_is before_is after_is xs = grind (arith, append_assoc)

  length-if : (b : Bool) (xs : List ℕ) → length xs ≤ 4 → length (if b then xs else []) ≤ 4
  length-if true xs h = h
  length-if false xs h = omega arith

  -- only one of the separators is beside a digit
  pub length-magnitude : HasShortSeparators f.symbols → (m : ℤ)
      → length (digit_text f.symbols (digit f.value.number m)) ≤ 4
      → length (magnitude_text f.symbols f.strategy f.value.hi f.value.number m) ≤ 8
  length-magnitude short (pos k) h =
      let separated = separates f.strategy f.symbols.sizes f.value.hi (pos k) in
      let after = length-if separated f.symbols.grouping short.grouping in
      grind (arith, length-append, after)
  length-magnitude short (negsuc zero) h = grind (arith, length-append, short.decimal)
  length-magnitude short (negsuc (suc k)) h = grind (arith, length-append)
