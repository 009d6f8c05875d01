-- The words of the programs, as C receives them.
use Rattle.std.specs.{Prelude.{◌≡◌, ◌≢◌, ◌⊎◌, ℕ, ◌+◌, List, [], ◌++◌, codes, Option, Some, None, IsSome, IsSomeAnd, Result, Ok, Err}, Str.IsUtf8}
use Rattle.fixed_decimal.specs.declared.runs.Call.{Call}
use Rattle.number_format.specs.declared.read.number_reader.ParseMode.{ParseMode}
use Rattle.conversions.specs.{Calls.{call_of, Names}, FormatWord.{strategy_of, IsSkeletonOption}, Parameters.{locale_tag, locale_option}, ReadWord.read_option}
use Rattle.fixed_decimal_c.specs.{declared.{calls.FdCall.FdCall, error.FdError.{FdError, TheVariants.{UnknownCall, UnknownLocale}}, forms.FdForm.FdForm, words.FdWord.FdWord}, Calls.{IsPart, IsCall, no_call, fd_call_of}, Errors.status_of, Forms.reading_code, NumberOptions.grouping_code}

-- ---- Words.

-- the word is `read:` and a text
abbrev pub IsReadWord : List ℕ → Type 0
IsReadWord word = (text : List ℕ) × (word ≡ codes "read:" ++ text)

-- the word is `format:` and a text
abbrev pub IsFormatWord : List ℕ → Type 0
IsFormatWord word = (text : List ℕ) × (word ≡ codes "format:" ++ text)

-- ---- What C receives.

-- the form with all fields 0
abbrev pub no_form : FdForm
no_form = record { locale = 0; start = 0; count = 0; skeleton_start = 0; skeleton_count = 0; option = 0 }

-- no word, for this error
abbrev pub no_word : FdError → FdWord
no_word error = record { status = status_of error; kind = 0; call = no_call; form = no_form }

-- a call
abbrev pub call_word : FdCall → FdWord
call_word call = record { status = 0; kind = 1; call = call; form = no_form }

-- a form, of a word of this kind: 0 for `read:..`, 2 for `format:..`
abbrev pub form_word : ℕ → Result FdForm FdError → FdWord
form_word kind (Ok form) = record { status = 0; kind = kind; call = no_call; form = form }
form_word kind (Err error) = no_word error

-- ---- Forms.

-- the word ends in this
abbrev pub IsSuffix : List ℕ → List ℕ → Type 0
IsSuffix end word = (start : List ℕ) × (word ≡ start ++ end)

-- the form has the tag of the word as a part of it, and this option
abbrev pub HasTag : List ℕ → ℕ → FdForm → Type 0
HasTag word option form =
    (form.locale ≡ 0) × IsPart word form.start form.count (locale_tag word) × (form.option ≡ option)

-- the form of a tag that is not empty, without a skeleton
abbrev pub IsTagForm : List ℕ → ℕ → FdForm → Type 0
IsTagForm word option form =
    HasTag word option form × (form.count ≢ 0) × (form.skeleton_start ≡ 0) × (form.skeleton_count ≡ 0)

-- the form of a tag and of this skeleton, which is not empty
abbrev pub IsSkeletonForm : List ℕ → List ℕ → ℕ → FdForm → Type 0
IsSkeletonForm word skeleton option form =
    HasTag word option form × IsPart word form.skeleton_start form.skeleton_count skeleton × (form.skeleton_count ≢ 0)

-- the tag of the word is empty
abbrev pub HasNoTag : List ℕ → Type 0
HasNoTag word = locale_tag word ≡ []

-- with this mode and this skeleton a word has this form
abbrev pub IsFormIn : List ℕ → ParseMode → Option (List ℕ) → FdForm → Type 0
IsFormIn word mode None form = IsTagForm word (reading_code mode) form
IsFormIn word mode (Some skeleton) form = IsSkeletonForm word skeleton (reading_code mode) form

-- `read:..` has this form
abbrev pub IsReadForm : List ℕ → FdForm → Type 0
IsReadForm word form =
    IsFormIn word (read_option (locale_option word)).0 (read_option (locale_option word)).1 form

-- `read:..` has no form: the skeleton is empty; or there is none, and the tag is empty
abbrev pub ReadFormFails : FdError → List ℕ → Type 0
ReadFormFails (UnknownCall at) word = (at ≡ 0) × ((read_option (locale_option word)).1 ≡ Some [])
ReadFormFails UnknownLocale word = HasNoTag word × ((read_option (locale_option word)).1 ≡ None)
ReadFormFails error word = ⊥

-- `format:..` has this form, by a grouping strategy or by a skeleton
abbrev pub IsFormatForm : List ℕ → FdForm → Type 0
IsFormatForm word form =
    IsSomeAnd (strategy_of (locale_option word)) (λ strategy. IsTagForm word (grouping_code strategy) form)
    ⊎ ((skeleton : List ℕ) × IsSkeletonOption (locale_option word) skeleton × IsSkeletonForm word skeleton 0 form)

-- `format:..` has no form: the option is empty; or it is that of a strategy, and the tag is empty
abbrev pub FormatFormFails : FdError → List ℕ → Type 0
FormatFormFails (UnknownCall at) word = (at ≡ 0) × (locale_option word ≡ Some [])
FormatFormFails UnknownLocale word = HasNoTag word × IsSome (strategy_of (locale_option word))
FormatFormFails error word = ⊥

-- ---- Words.

-- a form of which IsForm holds, or an error of which Fails holds
abbrev pub IsFormOr : (FdForm → Type 0) → (FdError → Type 0) → Result FdForm FdError → Type 0
IsFormOr IsForm Fails (Ok form) = IsForm form
IsFormOr IsForm Fails (Err error) = Fails error

-- `read:..`, as C receives it
abbrev pub IsReadAnswer : List ℕ → FdWord → Type 0
IsReadAnswer word answer =
    IsReadWord word
    × ((form : Result FdForm FdError)
    × IsFormOr (IsReadForm word) (λ error. ReadFormFails error word) form × (answer ≡ form_word 0 form))

-- `format:..`, as C receives it
abbrev pub IsFormatAnswer : List ℕ → FdWord → Type 0
IsFormatAnswer word answer =
    IsFormatWord word
    × ((form : Result FdForm FdError)
    × IsFormOr (IsFormatForm word) (λ error. FormatFormFails error word) form × (answer ≡ form_word 2 form))

-- a call, as C receives it: over the word it decodes to the call that the word names
abbrev pub IsCallAnswer : List ℕ → FdWord → Type 0
IsCallAnswer word answer =
    (call : Call) × Names word call × IsCall (fd_call_of call) word call × (answer ≡ call_word (fd_call_of call))

-- the bytes are none of these words
abbrev pub IsNoWord : List ℕ → Type 0
IsNoWord word =
    (IsUtf8 word → ⊥)
    ⊎ ((IsReadWord word → ⊥) × (IsFormatWord word → ⊥) × (call_of word ≡ None))

-- what C receives for these bytes
abbrev pub IsWord : List ℕ → FdWord → Type 0
IsWord word answer =
    (IsUtf8 word × (IsReadAnswer word answer ⊎ (IsFormatAnswer word answer ⊎ IsCallAnswer word answer)))
    ⊎ (IsNoWord word × (answer ≡ no_word (UnknownCall 0)))

-- the call whose operand begins this number of bytes later
abbrev pub moved_call : ℕ → FdCall → FdCall
moved_call offset c = record {
  kind = c.kind;
  option = c.option;
  increment = c.increment;
  position = c.position;
  text_start = offset + c.text_start;
  text_count = c.text_count;
}
