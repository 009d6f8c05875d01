-- Some of the digits of a number. Only private contracts cite this file.
use Rattle.std.specs.Prelude.{◌≡◌, ℕ, ◌-◌, ◌/◌, ◌%◌, ◌^◌, ◌<◌, Option, MatchOption}

-- of the digits below a place, the first k as an integer
abbrev pub digit_slice : ℕ → ℕ → ℕ → ℕ
digit_slice number top k = number / 10 ^ (top - k) % 10 ^ k

-- an integer if it is at most `most`, and None otherwise
abbrev pub IsUpTo : ℕ → Option ℕ → ℕ → Type 0
IsUpTo most found n = MatchOption found (most < n) (λ k. k ≡ n)
