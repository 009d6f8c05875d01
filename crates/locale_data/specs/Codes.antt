-- The codes of currencies, and the names of numbering systems.
use Rattle.std.specs.{Prelude.{◌≡◌, ◌≢◌, ℕ, ◌-◌, ◌<◌, ◌≤◌, ◌⊎◌, ◌==◌, ◌&&◌, ◌||◌, nat_le, Bool, true, false, if◌then◌else◌, List, ◌++◌, length, map, replicate, Option, Some, None}, Char.{is_ascii_alphabetic, is_ascii_alphanumeric, is_ascii_uppercase, is_ascii_lowercase, is_ascii_digit, to_ascii_uppercase, to_ascii_lowercase}, List.list_all}
use Rattle.locale_data.specs.{declared.{currency_code.CurrencyCodeError.CurrencyCodeError, numbering_system.NumberingSystemError.NumberingSystemError}, Rows.unpadded}

-- ---- Codes of currencies.

-- three capitals
pub record IsCode (code : List ℕ) : Type 0 where
  pub three : length code ≡ 3
  pub capitals : list_all is_ascii_uppercase code ≡ true

abbrev pub are_letters : List ℕ → Bool
are_letters text = list_all is_ascii_alphabetic text

-- the code that a text of three letters is, in capitals
abbrev pub code_of : List ℕ → Option (List ℕ)
code_of text = if length text == 3 && are_letters text then Some (map to_ascii_uppercase text) else None

-- a text that is no code has another length, or a byte that is no letter
abbrev pub IsCodeError : List ℕ → CurrencyCodeError → Type 0
IsCodeError text CurrencyCodeError.Length = length text ≢ 3
IsCodeError text CurrencyCodeError.Letters = (length text ≡ 3) × (are_letters text ≡ false)

-- ---- Names of numbering systems.

abbrev pub is_name_byte : ℕ → Bool
is_name_byte b = is_ascii_lowercase b || is_ascii_digit b

-- three to eight small letters and digits
pub record IsSystemName (name : List ℕ) : Type 0 where
  pub long : 3 ≤ length name
  pub short : length name ≤ 8
  pub bytes : list_all is_name_byte name ≡ true

abbrev pub are_alphanumeric : List ℕ → Bool
are_alphanumeric text = list_all is_ascii_alphanumeric text

-- the name that a text of three to eight letters and digits is, in lower case
abbrev pub system_name : List ℕ → Option (List ℕ)
system_name text =
    if (nat_le 3 (length text) && nat_le (length text) 8) && are_alphanumeric text
    then Some (map to_ascii_lowercase text) else None

-- a text that is no name has another length, or a byte that is neither a letter nor a digit
abbrev pub IsSystemError : List ℕ → NumberingSystemError → Type 0
IsSystemError text NumberingSystemError.Length = (length text < 3) ⊎ (8 < length text)
IsSystemError text NumberingSystemError.Letters =
    (3 ≤ length text) × (length text ≤ 8) × (are_alphanumeric text ≡ false)

-- a name of at most eight bytes, and spaces after it
abbrev pub padded : List ℕ → List ℕ
padded name = name ++ replicate (8 - length name) 32

-- a name and spaces after it, eight bytes together
pub record IsPaddedName (bytes : List ℕ) : Type 0 where
  pub padded_is : bytes ≡ padded (unpadded bytes)
  pub name : IsSystemName (unpadded bytes)
