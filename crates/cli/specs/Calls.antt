-- The calls that words name, and the error of a word that names none.
use Rattle.std.specs.{Prelude.{◌≡◌, ◌≢◌, ◌⊎◌, ℕ, ◌+◌, ◌<◌, Bool, true, false, ◌||◌, List, [], ◌∷◌, codes, String, string_bytes, Result, Ok, MatchResult}, Option.ok_or, declared.alloc.Global.Global}
use Rattle.fixed_decimal.specs.{DecimalText.and_then, declared.runs.Call.Call}
use Rattle.conversions.specs.{Calls.call_of, ShownWord.IsShown}
use Rattle.cli.specs.{declared.program.error.WordsError.{WordsError, TheVariants.{NoSuchWord, AfterCall, Misplaced, Memory}}, Options.is_option, Parameters.has_name}

-- the calls that words name, of which the first has this index; or the first word that names none, with its index
abbrev pub calls_from : ℕ → List (String Global) → Result (List Call) (ℕ × List ℕ)
calls_from index [] = Ok []
calls_from index (word ∷ words) =
    and_then (ok_or (call_of (string_bytes word)) (index, string_bytes word))
    (λ call. and_then (calls_from (index + 1) words) (λ calls. Ok (call ∷ calls)))

abbrev pub calls_of : List (String Global) → Result (List Call) (ℕ × List ℕ)
calls_of words = calls_from 0 words

-- ---- Errors.

-- whether a word is one that comes before all calls: an option of a filter, or `read:..`
abbrev pub is_first : List ℕ → Bool
is_first word = is_option word || has_name (codes "read") word

-- a word that names no call, after this number of calls, has this error
abbrev pub IsErrorOfWord : ℕ → List ℕ → WordsError → Type 0
IsErrorOfWord calls word (NoSuchWord text) =
    (is_first word ≡ false) × (has_name (codes "format") word ≡ false) × IsShown word text
IsErrorOfWord calls word (AfterCall text) =
    (is_first word ≡ true) × (has_name (codes "format") word ≡ false) × (0 < calls) × IsShown word text
IsErrorOfWord calls word (Misplaced text) =
    ((has_name (codes "format") word ≡ true) ⊎ ((is_first word ≡ true) × (calls ≡ 0))) × IsShown word text
IsErrorOfWord calls word _ = ⊥

-- the first word that names no call has this error; or each names one, and the list is out of memory
abbrev pub CallsFail : List (String Global) → WordsError → Type 0
CallsFail words error =
    MatchResult (calls_of words) (λ calls. (words ≢ []) × (error ≡ Memory))
    (λ wrong. IsErrorOfWord wrong.0 wrong.1 error)
