-- Calls, as C passes them.
use Rattle.std.specs.{Prelude.{◌≡◌, ℕ, ℤ, pos, ◌+◌, ◌≤◌, ◌<◌, ⊤, List, [], ◌∷◌, length, take, drop, slice_get, codes, IsSomeAnd, Option, Some, None}, Global.Vec}
use Rattle.decimal_digits.specs.declared.rounding.UnsignedRoundingMode.TheVariants as unsigned
use Rattle.fixed_decimal.specs.declared.{rounding.SignedRoundingMode.SignedRoundingMode, variations.{Sign.Sign, SignDisplay.SignDisplay}, runs.Call.{Call, TheVariants.{MultiplyPow10, TrimStart, TrimEnd, TrimEndIfInteger, PadStart, PadEnd, SetMaxPosition, Round, SetSign, ApplySignDisplay, Concatenate}}}
use Rattle.fixed_decimal.specs.declared.rounding.SignedRoundingMode.TheVariants as mode
use Rattle.decimal_digits.specs.declared.rounding.RoundingIncrement.{RoundingIncrement, TheVariants.{MultiplesOf1, MultiplesOf2, MultiplesOf5, MultiplesOf25}}
use Rattle.fixed_decimal.specs.declared.variations.Sign.TheVariants as sign
use Rattle.fixed_decimal.specs.declared.variations.SignDisplay.TheVariants as display
use Rattle.fixed_decimal_c.specs.declared.{calls.FdCall.FdCall, error.FdError.{FdError, TheVariants.{Memory, UnknownCall}}}

abbrev pub mode_code : SignedRoundingMode → ℕ
mode_code mode.Ceil = 0
mode_code mode.Floor = 1
mode_code (mode.Unsigned unsigned.Expand) = 2
mode_code (mode.Unsigned unsigned.Trunc) = 3
mode_code mode.HalfCeil = 4
mode_code mode.HalfFloor = 5
mode_code (mode.Unsigned unsigned.HalfExpand) = 6
mode_code (mode.Unsigned unsigned.HalfTrunc) = 7
mode_code (mode.Unsigned unsigned.HalfEven) = 8

abbrev pub increment_code : RoundingIncrement → ℕ
increment_code MultiplesOf1 = 1
increment_code MultiplesOf2 = 2
increment_code MultiplesOf5 = 5
increment_code MultiplesOf25 = 25

abbrev pub sign_code : Sign → ℕ
sign_code sign.None = 0
sign_code sign.Negative = 1
sign_code sign.Positive = 2

abbrev pub display_code : SignDisplay → ℕ
display_code display.Auto = 0
display_code display.Never = 1
display_code display.Always = 2
display_code display.ExceptZero = 3
display_code display.Negative = 4

-- t is the part of the texts with this start and number of bytes
abbrev pub IsPart : List ℕ → ℕ → ℕ → List ℕ → Type 0
IsPart texts start count t = (start + count ≤ length texts) × (t ≡ take count (drop start texts))

-- C passes this call
abbrev pub IsCall : FdCall → List ℕ → Call → Type 0
IsCall c texts (MultiplyPow10 delta) = (c.kind ≡ 0) × (c.position ≡ delta)
IsCall c texts TrimStart = c.kind ≡ 1
IsCall c texts TrimEnd = c.kind ≡ 2
IsCall c texts TrimEndIfInteger = c.kind ≡ 3
IsCall c texts (PadStart position) = (c.kind ≡ 4) × (c.position ≡ position)
IsCall c texts (PadEnd position) = (c.kind ≡ 5) × (c.position ≡ position)
IsCall c texts (SetMaxPosition position) = (c.kind ≡ 6) × (c.position ≡ position)
IsCall c texts (Round position m i) =
    (c.kind ≡ 7) × (c.position ≡ position) × (c.option ≡ mode_code m) × (c.increment ≡ increment_code i)
IsCall c texts (SetSign s) = (c.kind ≡ 8) × (c.option ≡ sign_code s)
IsCall c texts (ApplySignDisplay d) = (c.kind ≡ 9) × (c.option ≡ display_code d)
IsCall c texts (Concatenate t) = (c.kind ≡ 10) × IsPart texts c.text_start c.text_count t.now

-- C passes these calls, one by one
abbrev pub AreCalls : List FdCall → List ℕ → List Call → Type 0
AreCalls [] texts [] = ⊤
AreCalls (c ∷ cs) texts (call ∷ calls) = IsCall c texts call × AreCalls cs texts calls
AreCalls _ texts _ = ⊥

-- the calls in memory, or else the others
abbrev pub calls_in : Option (Vec Call) → List Call → List Call
calls_in None short = short
calls_in (Some long) short = long.items

-- the error is that of the first call that C passes and that is none
abbrev pub IsUnknown : FdError → List FdCall → List ℕ → Type 0
IsUnknown (UnknownCall at) calls texts =
    ((known : List Call) × AreCalls (take at calls) texts known)
    × IsSomeAnd (slice_get calls at) (λ c. (call : Call) → IsCall c texts call → ⊥)
IsUnknown _ calls texts = ⊥

-- a call is unknown; or out of memory, for a list of more than eight calls
abbrev pub DecodeFails : FdError → List FdCall → List ℕ → Type 0
DecodeFails Memory calls texts = 8 < length calls
DecodeFails error calls texts = IsUnknown error calls texts

-- ---- The call that C receives for a word.

-- the call with all fields 0
abbrev pub no_call : FdCall
no_call = record { kind = 0; option = 0; increment = 0; position = pos 0; text_start = 0; text_count = 0 }

-- a call with a position, and with all other fields 0
abbrev pub positioned : ℕ → ℤ → FdCall
positioned kind position =
    record { kind = kind; option = 0; increment = 0; position = position; text_start = 0; text_count = 0 }

-- a call with an option, and with all other fields 0
abbrev pub optional : ℕ → ℕ → FdCall
optional kind option =
    record { kind = kind; option = option; increment = 0; position = pos 0; text_start = 0; text_count = 0 }

-- the call as C receives it, with the fields 0 that it does not use; an operand begins after `concat:`
abbrev pub fd_call_of : Call → FdCall
fd_call_of (MultiplyPow10 delta) = positioned 0 delta
fd_call_of TrimStart = optional 1 0
fd_call_of TrimEnd = optional 2 0
fd_call_of TrimEndIfInteger = optional 3 0
fd_call_of (PadStart position) = positioned 4 position
fd_call_of (PadEnd position) = positioned 5 position
fd_call_of (SetMaxPosition position) = positioned 6 position
fd_call_of (Round position m i) = record {
  kind = 7;
  option = mode_code m;
  increment = increment_code i;
  position = position;
  text_start = 0;
  text_count = 0;
}
fd_call_of (SetSign s) = optional 8 (sign_code s)
fd_call_of (ApplySignDisplay d) = optional 9 (display_code d)
fd_call_of (Concatenate t) = record {
  kind = 10;
  option = 0;
  increment = 0;
  position = pos 0;
  text_start = length (codes "concat:");
  text_count = length t.now;
}
