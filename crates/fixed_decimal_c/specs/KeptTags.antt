-- The tags of formatters that C keeps, for the texts of ranges.
use Rattle.std.specs.Prelude.{ℕ, zero, suc, ◌-◌, ◌==◌, ◌||◌, nat_le, Bool, if◌then◌else◌, List, ◌++◌, length, take, replicate, slice_index}

-- a hyphen, or a byte that is compared as one
abbrev pub is_hyphen : ℕ → Bool
is_hyphen b = (b == 45) || ((b == 95) || ((b == 46) || (b == 64)))

-- the index of the last hyphen among the first bytes of a tag, or 0
abbrev pub last_hyphen : List ℕ → ℕ → ℕ
last_hyphen tag zero = 0
last_hyphen tag (suc n) = if is_hyphen (slice_index tag n) then n else last_hyphen tag n

-- a tag of at most 16 bytes, or else its subtags that end in the first 16 bytes
abbrev pub kept_end : List ℕ → ℕ
kept_end tag = if nat_le (length tag) 16 then length tag else last_hyphen tag 17

-- that part, padded with spaces to 16 bytes
abbrev pub kept_tag : List ℕ → List ℕ
kept_tag tag = take (kept_end tag) tag ++ replicate (16 - kept_end tag) 32
