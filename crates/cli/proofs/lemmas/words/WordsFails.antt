-- The first wrong word of a conversion.
use Rattle.std.proofs.Common.{◌≡◌, ◌≢◌, ℕ, List, [], Option, String, Result, Ok, Err, inl, inr, refl}
use Rattle.std.specs.{declared.alloc.Global.Global, Prelude.MatchResult}
use Rattle.fixed_decimal.specs.declared.runs.Call.{Call}
use Rattle.conversions.specs.{declared.{error.FormError.FormError, reader.LocaleReader.LocaleReader}, ReadWord.{NamesReader, ReaderFails}}
use Rattle.cli.specs.{declared.program.error.WordsError.{WordsError, TheVariants.Memory}, Calls.{calls_of, IsErrorOfWord, CallsFail}, Error.words_error, Words.{FormatFails, WordsFail}}

module _ (read : Option (List ℕ)) (calls : List (String Global)) (Fails : FormError → Type 0) (Named : Type 0) where
  -- that of `read:..`
  pub reader_fails : (why : FormError) → ReaderFails read why → WordsFail read calls Fails Named (words_error why)
  reader_fails why h = inl (why, refl, h)

  module _ (reader : Option LocaleReader) (is : NamesReader read reader) where
    -- that of `format:..`, after the calls
    pub format_fails :
        (named : List Call) → calls_of calls ≡ Ok named → (why : FormError) → Fails why
        → WordsFail read calls Fails Named (words_error why)
    format_fails named ok why h = inr ((reader, is), rw ok (inl (why, refl, h)))

    other_calls :
        (error : WordsError) → error ≢ Memory → (named : Result (List Call) (ℕ × List ℕ))
        → MatchResult named (λ _. (calls ≢ []) × (error ≡ Memory)) (λ wrong. IsErrorOfWord wrong.0 wrong.1 error)
        → MatchResult named (λ _. FormatFails Fails Named calls error) (λ wrong. IsErrorOfWord wrong.0 wrong.1 error)
    other_calls error other (Ok named) none = absurd (other none.1)
    other_calls error other (Err wrong) h = h

    -- that of a call
    pub calls_fail :
        (error : WordsError) → error ≢ Memory → CallsFail calls error → WordsFail read calls Fails Named error
    calls_fail error other h = inr ((reader, is), other_calls error other (calls_of calls) h)

    after_calls :
        (error : WordsError) (named : Result (List Call) (ℕ × List ℕ))
        → MatchResult named (λ _. (calls ≢ []) × (Memory ≡ Memory)) (λ wrong. IsErrorOfWord wrong.0 wrong.1 Memory)
        → (calls ≢ [] → FormatFails Fails Named calls error)
        → MatchResult named (λ _. FormatFails Fails Named calls error) (λ wrong. IsErrorOfWord wrong.0 wrong.1 error)
    after_calls error (Ok named) none after = after none.0
    after_calls error (Err wrong) none after = absurd none

    -- the same, where the list of the calls is out of memory
    pub format_fails_first :
        CallsFail calls Memory → (why : FormError) → Fails why → WordsFail read calls Fails Named (words_error why)
    format_fails_first none why h =
        inr ((reader, is), after_calls (words_error why) (calls_of calls) none (λ some. inl (why, refl, h)))

    -- no word is wrong, and the list of the calls is out of memory
    pub memory_fails : CallsFail calls Memory → Named → WordsFail read calls Fails Named Memory
    memory_fails none named =
        inr ((reader, is), after_calls Memory (calls_of calls) none (λ some. inr (named, some, refl)))
