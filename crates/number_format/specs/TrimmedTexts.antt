-- White space and marks at the ends of a text, which are parts of their own, as ICU has them.
use Rattle.std.specs.{Prelude.{ℕ, ◌-◌, ◌==◌, nat_le, Bool, ◌||◌, ◌&&◌, if◌then◌else◌, List, [], ◌∷◌, length, reverse}, Str.{chars, encode_utf8_all}}

-- white space (the general category Zs, and U+0009), and the characters of Unicode's properties Bidi_Control and
-- Variation_Selector
abbrev pub is_trimmed : ℕ → Bool
is_trimmed c =
    c == 0x9 || c == 0x20 || c == 0xA0 || c == 0x61C || c == 0x1680
    || (nat_le 0x180B c && nat_le c 0x180D)
    || c == 0x180F
    || (nat_le 0x2000 c && nat_le c 0x200A)
    || c == 0x200E
    || c == 0x200F
    || (nat_le 0x202A c && nat_le c 0x202F)
    || c == 0x205F
    || (nat_le 0x2066 c && nat_le c 0x2069)
    || c == 0x3000
    || (nat_le 0xFE00 c && nat_le c 0xFE0F)
    || (nat_le 0xE0100 c && nat_le c 0xE01EF)

-- the characters from the first that is not trimmed
abbrev pub from_kept : List ℕ → List ℕ
from_kept [] = []
from_kept (c ∷ cs) = if is_trimmed c then from_kept cs else c ∷ cs

-- the number of bytes before the first character that is not trimmed
unfoldable pub trimmed_length : List ℕ → ℕ
trimmed_length text = length text - length (encode_utf8_all (from_kept (chars text)))

-- the number of bytes up to the last character that is not trimmed
unfoldable pub kept_length : List ℕ → ℕ
kept_length text = length (encode_utf8_all (reverse (from_kept (reverse (chars text)))))
