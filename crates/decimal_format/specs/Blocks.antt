-- A block: its bytes, at most 192, and whether it has failed.
use Rattle.std.specs.Prelude.{◌≡◌, ℕ, ◌+◌, ◌-◌, ◌<◌, ◌⊎◌, Bool, true, List, ◌++◌, length, take, Some}
use Rattle.decimal_digits.specs.AppendsPrefix.{AppendsPrefix}
use Rattle.decimal_format.specs.Formatted.{FormattedAbsolute, shown_count, formatted_absolute_text}

-- bytes do not fit, or the block has failed before: it keeps those for which there is room, and has failed
pub record DoNotFit (old new : List ℕ × Bool) (bytes : List ℕ) : Type 0 where
  pub cause : (old.1 ≡ true) ⊎ (192 < length old.0 + length bytes)
  pub kept : new ≡ (old.0 ++ take (192 - length old.0) bytes, true)

-- a prefix of the text makes the block full, and it has failed
pub record Fills (old new : List ℕ × Bool) (text : List ℕ) : Type 0 where
  pub prefix : AppendsPrefix (Some old.0) (Some new.0) text
  pub full : length new.0 ≡ 192
  pub failed : new.1 ≡ true

-- there are more than 32 digits, and the block is unchanged; or the text fills the block
abbrev pub DoesNotFit : FormattedAbsolute → List ℕ × Bool → List ℕ × Bool → Type 0
DoesNotFit f old new = ((32 < shown_count f.value) × (new ≡ old)) ⊎ Fills old new (formatted_absolute_text f)
