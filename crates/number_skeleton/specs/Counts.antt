-- Runs of bytes in the stems of skeletons, and the numbers of digits that they are.
use Rattle.std.specs.{Prelude.{ℕ, ◌+◌, ◌==◌, nat_lt, Bool, ◌||◌, ◌&&◌, if◌then◌else◌, List, length, drop, slice_index, Option, Some, None}, List.position_or_len}
use Rattle.number_skeleton.specs.declared.counts.Counts.{Counts}

abbrev pub is_outside : ℕ → ℕ → ℕ → Bool
is_outside low high c = nat_lt c low || nat_lt high c

-- the number of bytes from `low` to `high` that a text begins with
abbrev pub run : ℕ → ℕ → List ℕ → ℕ
run low high text = position_or_len (is_outside low high) text

abbrev pub is_byte : ℕ → List ℕ → Bool
is_byte b text = (length text == 1) && (slice_index text 0 == b)

-- `*` or `+`
abbrev pub is_wild : List ℕ → Bool
is_wild text = is_byte 42 text || is_byte 43 text

-- `00`, `00*` or `00##`, by these two bytes: at least the first ones, and at most all, or any number
abbrev pub counts : ℕ → ℕ → List ℕ → Option Counts
counts least more text =
    let min = run least least text in
    let rest = drop min text in
    if is_wild rest then Some (record { min = min; max = None })
    else if nat_lt (run more more rest) (length rest) then None
    else Some (record { min = min; max = Some (min + run more more rest) })
