-- The run that the words of a command line name, and its result.
use Rattle.std.proofs.{Common.{◌≡◌, ℕ, ◌<◌, List, [], ◌∷◌, ◌++◌, String, string_bytes, Option, Some, None, Bool, true, false, Result, Ok, Err, IfOk, IfErr, refl, arith}, lemmas.{Bool.false≢true, List.append-nil}, KnownBytes.{Appends-kept, Appends-trans}}
use Rattle.std.specs.{Prelude.{⊤, OnOk}, Result.result_and, declared.alloc.Global.Global, Io.KnownBytes.{Appends, Keeps}}
use Rattle.decimal_digits.specs.AppendsPrefix.{AppendsPrefix}
use Rattle.fixed_decimal.proofs.Calling.{prefix_more}
use Rattle.conversions.specs.declared.error.{OperationError.{OperationError, TheVariants.Output}, RangeError.RangeError}
use Rattle.conversions.specs.declared.error.RangeError.TheVariants as range
use Rattle.cli.specs.{declared.program.error.{ProgramError.ProgramError, WordsError.WordsError}, Diagnostics.Concludes, Error.{conversion_error, range_error, status_of}, Fixdec.{Run, of_text, of_range, HasRun, NamesRun, HasText, TextFails, TextsFail, HasTextRun, HasRangeRun, RunFails, HasErrorOf, HasErrorOfText, HasErrorOfRange, HasError, PrintsLine, PrintsLinePrefix, Prints, PrintsPrefix}, RangeWords.{RangeWordsValue, range_words, RangeConversionFails}, Words.ConversionFails}
use Rattle.cli.specs.declared.program.error.ProgramError.TheVariants as program

-- ---- Results.

-- a property that follows from one of an error holds of it
pub err_map :
    {X E : Type 0} {P Q : E → Type 0} (r : Result X E) → ((e : E) → r ≡ Err e → P e → Q e) → IfErr r P → IfErr r Q
err_map (Ok x) f h = tt
err_map (Err e) f h = f e refl h

-- a property that all errors have
pub err_all : {X E : Type 0} {P : E → Type 0} (r : Result X E) → ((e : E) → P e) → IfErr r P
err_all (Ok x) h = tt
err_all (Err e) h = h e

-- a property of an error, or of what follows Ok
pub result_and-cases :
    {X Y E : Type 0} (P : Result Y E → Type 0) (r : Result X E) (next : Result Y E) → OnOk r (P next)
    → IfErr r (λ e. P (Err e)) → P (result_and r next)
result_and-cases P (Ok x) next ok err = ok
result_and-cases P (Err e) next ok err = err

-- ---- The status.

-- a status that is not 0 is that of an error, which was reported
pub concludes_error :
    {D : Type 0} (P : Type 0) (reports : D → ProgramError → D → Type 0) (done : Result Bool ProgramError) (status : ℕ)
    (old new : D)
    → IfOk done (λ texts. (texts ≡ true) × P) → Concludes reports done None status old new → 0 < status
    → (error : ProgramError) × (done ≡ Err error) × (status ≡ status_of error) × reports old error new
concludes_error P reports (Ok true) status old new ok (zero, same) some = absurd (omega (arith, zero, some))
concludes_error P reports (Ok false) status old new ok concluded some = absurd (false≢true ok.0)
concludes_error P reports (Err error) status old new ok (is, reported) some = (error, refl, is, reported)

-- ---- What was printed.

-- a property of the text of a run that follows from another one of it
text_map :
    (run : Run) (P Q : List ℕ → Type 0) → ((written : List ℕ) → P written → Q written) → HasText run P → HasText run Q
text_map (of_text c text) P Q f (written, is, p) = (written, is, f written p)
text_map (of_range c start end) P Q f (v, w, first, last, (written, is, p)) =
    (v, w, first, last, (written, is, f written p))

-- the run has a text
pub has_text : (run : Run) (P : List ℕ → Type 0) → HasText run P → HasText run (λ _. ⊤)
has_text run P = text_map run P (λ _. ⊤) (λ written p. tt)

-- a prefix of a text was written
pub text_begun :
    (run : Run) (a b : Option (List ℕ)) → HasText run (AppendsPrefix a b) → PrintsLinePrefix a b run
text_begun run a b = text_map run _ _ (λ written h. prefix_more a b written (10 ∷ []) h)

-- a text was written, and no line feed
pub feed_begun :
    (run : Run) (a b d : Option (List ℕ)) → HasText run (Appends a b) → Keeps b d → PrintsLinePrefix a d run
feed_begun run a b d h k =
    text_map run _ _ (λ written p. (written, 10 ∷ [], refl, Appends-kept a b d written p k)) h

-- a text and a line feed were written
pub feed_written :
    (run : Run) (a b d : Option (List ℕ)) → HasText run (Appends a b) → Appends b d (10 ∷ []) → PrintsLine a d run
feed_written run a b d h feed = text_map run _ _ (λ written p. Appends-trans a b d written (10 ∷ []) p feed) h

-- a text and a line feed were written to a block, of which a part was written
pub line_begun :
    (run : Run) (a b d : Option (List ℕ)) → PrintsLine a b run → Keeps b d → PrintsLinePrefix a d run
line_begun run a b d p k =
    text_map run _ _
    (λ written h. (written ++ (10 ∷ []), [], append-nil _, Appends-kept a b d (written ++ (10 ∷ [])) h k)) p

-- and all of it
pub line_kept : (run : Run) (a b d : Option (List ℕ)) → PrintsLine a b run → Keeps b d → PrintsLine a d run
line_kept run a b d p k = text_map run _ _ (λ written h. Appends-kept a b d (written ++ (10 ∷ [])) h k) p

-- what is true of the run of the words, and what follows from it
pub run_of :
    {words : List (String Global)} {P : Run → Type 0} (run : Run) → NamesRun words run → P run → HasRun words P
run_of run names holds = record { run = run; names = names; holds = holds }

pub run_map :
    {words : List (String Global)} (P Q : Run → Type 0) → ((run : Run) → P run → Q run) → HasRun words P
    → HasRun words Q
run_map P Q f h = run_of h.run h.names (f h.run h.holds)

-- the text and the line feed of the run were written to a block, and all of it
pub prints_kept :
    (words : List (String Global)) (a b d : Option (List ℕ)) → Prints words a b → Keeps b d → Prints words a d
prints_kept words a b d h k = run_map _ _ (λ run p. line_kept run a b d p k) h

-- a run that prints to a block whose last bytes cannot be written
pub unwritten_fails :
    (words : List (String Global)) (a b d : Option (List ℕ)) → Prints words a b → Keeps b d
    → HasError words program.Output × PrintsPrefix words a d
unwritten_fails words a b d h k =
    (run_map _ _ (λ run p. has_text run _ p) h, run_map _ _ (λ run p. line_begun run a b d p k) h)

-- ---- Errors.

-- the conversion of a text fails
pub text_fails :
    (text : List ℕ) (words : List (String Global)) (error : OperationError)
    → HasTextRun text words (TextFails error) → HasErrorOfText text words (conversion_error error)
text_fails text words Output (c, names, (written, is)) = (c, names, (written, is, tt))
text_fails text words error h = h

-- with the error of a failed output, if it did
pub conversion_output : (error : OperationError) → conversion_error error ≡ program.Output → error ≡ Output
conversion_output error is = grind arith

-- the same of a range
pub range_fails :
    (start : List ℕ) (words : RangeWordsValue) (error : RangeError)
    → HasRangeRun start words (TextsFail error) → HasErrorOfRange start words (range_error error)
range_fails start words (range.Operation Output) (c, names, (v, w, first, last, (text, is))) =
    (c, names, (v, w, first, last, (text, is, tt)))
range_fails start words error h = h

pub range_output : (error : RangeError) → range_error error ≡ program.Output → error ≡ range.Operation Output
range_output error is = grind arith

-- ---- The words of a run.

module _
    (Fails Gives : WordsError → Type 0) (Has Holds : (Run → Type 0) → Type 0)
    (gives : (why : WordsError) → Fails why → Gives why) (holds : (P : Run → Type 0) → Has P → Holds P)
  where
    error_map : (error : ProgramError) → HasErrorOf Fails Has error → HasErrorOf Gives Holds error
    error_map (program.Setup error) (by, fails) = (by, gives error.why fails)
    error_map (program.Operation error) h = holds _ h
    error_map (program.Range error) h = holds _ h
    error_map program.Output h = holds _ h
    error_map error h = absurd h

module _ (words : List (String Global)) (first : String Global) (others : List (String Global))
    (is : words ≡ first ∷ others)
  where
    module _ (none : range_words others ≡ None) where
      pub text_run :
          (P : Run → Type 0) → HasTextRun (string_bytes first) others P → HasRun words P
      text_run P (c, names, p) = run_of (of_text c (string_bytes first)) (rw is (none, refl, names)) p

      pub text_error :
          (error : ProgramError) → HasErrorOfText (string_bytes first) others error → HasError words error
      text_error error h =
          error_map (ConversionFails others) (RunFails words) (HasTextRun (string_bytes first) others) (HasRun words)
          (λ why fails. rw (is, none) fails) text_run error h

    module _ (range : RangeWordsValue) (some : range_words others ≡ Some range) where
      pub range_run :
          (P : Run → Type 0) → HasRangeRun (string_bytes first) range P → HasRun words P
      range_run P (c, names, p) =
          run_of (of_range c (string_bytes first) range.end) (rw (is, some) (refl, refl, names)) p

      pub range_run_error :
          (error : ProgramError) → HasErrorOfRange (string_bytes first) range error → HasError words error
      range_run_error error h =
          error_map (RangeConversionFails range) (RunFails words) (HasRangeRun (string_bytes first) range)
          (HasRun words) (λ why fails. rw (is, some) fails) range_run error h
