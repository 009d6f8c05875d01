-- Words of compact notation as people type them.
use Rattle.std.specs.{Prelude.{◌≡◌, ◌≢◌, ℕ, zero, suc, ◌*◌, ◌<◌, ◌⊎◌, ◌==◌, Bool, true, not, ◌&&◌, ◌||◌, if◌then◌else◌, List, [], ◌∷◌, ◌++◌, map, filter, length, Option, None, Some, unwrap_or, slice_get, Result, Err, ℤ}, Str.{NonePass, chars, encode_utf8_all}, Char.Unicode.{Numeric.is_numeric, ToLowercase.to_lowercase}}
use Rattle.decimal_unsigned.specs.declared.error.ParseError.{ParseError, TheVariants.Syntax}
use Rattle.fixed_decimal.specs.Decimal.{Decimal}
use Rattle.decimal_format.specs.declared.reader.alternatives.Alternative.{Alternative}
use Rattle.locale_data.specs.{Compact.{pattern_for, compact_patterns, text_of}, declared.{compact.CompactStyle.CompactStyle, tables.rows.compact.{AffixText.AffixText, CompactPattern.CompactPattern}}}
use Rattle.number_format.specs.{declared.{format.{formatter.NumberFormatter.NumberFormatter, outer.OuterTexts.OuterTexts}, read.compact.{keys.CompactKey.CompactKey, typed.TypedText.TypedText}}, AffixedTexts.{Reader, IsShifted, IsOrElse, IsReadWith}, CompactReading.{key_at, is_single, IsReadOrAny}, NumberText.{has_number, is_empty}, Scaled.exponent_at, TrimmedTexts.is_trimmed}

-- ---- Words.

-- where words are compared, white space, marks and periods are left out
abbrev pub is_kept : ℕ → Bool
is_kept c = not (is_trimmed c || c == 46)

-- a letter in lower case; of two characters, as those of U+0130, the first
abbrev pub lowered : ℕ → ℕ
lowered c = unwrap_or (slice_get (to_lowercase c) 0) c

-- what is compared: of ` MIO.` it is `mio`
abbrev pub folded : List ℕ → List ℕ
folded cs = map lowered (filter is_kept cs)

-- nothing is left out at the start
abbrev pub IsTrimmed : List ℕ → Type 0
IsTrimmed cs = (c : ℕ) (rest : List ℕ) → cs ≡ c ∷ rest → is_kept c ≡ true

-- characters begin with this folded word, and with what is left out after it; the rest follows
pub record FollowsWord (word cs rest : List ℕ) : Type 0 where
  pub typed : List ℕ
  pub parts : cs ≡ typed ++ rest
  pub same : folded typed ≡ word
  pub whole : IsTrimmed rest

-- the characters of a text up to its last digit, and those after it
pub record IsCut (text front tail : List ℕ) : Type 0 where
  pub parts : text ≡ encode_utf8_all (front ++ tail)
  pub digit : (front ≡ []) ⊎ ((cs : List ℕ) × (c : ℕ) × (front ≡ cs ++ c ∷ []) × (is_numeric c ≡ true))
  pub last : NonePass is_numeric tail

-- without a word after the last digit, this is left of a text; `1.k` has no word, since a separator is not left out
pub record IsWithoutWord (word front tail left : List ℕ) : Type 0 where
  pub some : folded word ≢ []
  pub begins : (cs : List ℕ) → tail ≢ 46 ∷ cs
  pub rest : List ℕ
  pub follows : FollowsWord (folded word) tail rest
  pub is : left ≡ encode_utf8_all (front ++ rest)

-- the text begins with the word, and this is left after it
pub record IsAfterWord (word text left : List ℕ) : Type 0 where
  pub some : folded word ≢ []
  pub rest : List ℕ
  pub follows : FollowsWord (folded word) text rest
  pub is : left ≡ encode_utf8_all rest

-- the word does not follow the last digit, or more than 255 bytes are left
abbrev pub IsNoneLeft : List ℕ → List ℕ → List ℕ → Type 0
IsNoneLeft word front tail =
    ((left : List ℕ) → ¬ IsWithoutWord word front tail left)
    ⊎ ((left : List ℕ) × IsWithoutWord word front tail left × (255 < length left))

-- ---- Words of a formatter.

-- the keys of words, for numbers without a sign: the magnitudes 2 to 19, each category, and 1 itself
abbrev pub word_key : ℕ → CompactKey
word_key i = key_at (18 * i)

-- nothing of the text is compared
abbrev pub is_no_word : List ℕ → Bool
is_no_word text = is_empty (folded (chars text))

abbrev pub has_no_word : AffixText → Bool
has_no_word affix = is_no_word (text_of affix.before) && is_no_word (text_of affix.after)

-- the text after a currency, or all of it
abbrev pub last_text : AffixText → List ℕ
last_text affix = text_of (if affix.has_currency then affix.after else affix.before)

-- the text after a number, up to a currency, if it has no word before it
abbrev pub text_after : Option CompactPattern → List ℕ
text_after None = []
text_after (Some p) = if has_no_word p.prefix then text_of p.suffix.before else []

-- a number is in the pattern, which `mille` has not, and no word is after it
abbrev pub has_no_word_after : CompactPattern → Bool
has_no_word_after p = has_number p.form && has_no_word p.suffix

-- the text before such a number, as `elfu` in Swahili
abbrev pub text_before : Option CompactPattern → List ℕ
text_before None = []
text_before (Some p) = if has_no_word_after p then last_text p.prefix else []

-- beside a unit or a name no word is typed, since `5m` may be meters or millions
abbrev pub alone_by : OuterTexts → Option CompactPattern → Option CompactPattern
alone_by OuterTexts.None pattern = pattern
alone_by texts pattern = None

-- the pattern of these keys
abbrev pub typed_pattern : NumberFormatter → CompactStyle → ℕ → Option CompactPattern
typed_pattern f style i =
    alone_by f.outer (pattern_for (word_key i).category (is_single (word_key i))
    (compact_patterns f.formats style (word_key i).magnitude))

abbrev pub word_of : NumberFormatter → CompactStyle → ℕ → List ℕ
word_of f style i = text_after (typed_pattern f style i)

abbrev pub word_before_of : NumberFormatter → CompactStyle → ℕ → List ℕ
word_before_of f style i = text_before (typed_pattern f style i)

abbrev pub power_of : NumberFormatter → ℕ → ℤ
power_of f i = exponent_at f.notation (word_key i).magnitude

-- ---- Reading.

-- a typed text and what it is read with: the reader of numbers without words, and what may be around these
pub record Typing : Type 0 where
  pub inline : ℕ
  pub formatter : NumberFormatter
  pub style : CompactStyle
  pub plain : Reader
  pub alternatives : List Alternative
  pub text : List ℕ
  pub front : List ℕ
  pub tail : List ℕ

-- what is read of the text that is left without a word, times the power of ten of the word
abbrev pub IsReadLeft : Typing → ℕ → List ℕ → Result Decimal ParseError → Type 0
IsReadLeft t i left = IsShifted (power_of t.formatter i) (IsReadWith t.inline t.plain t.alternatives left)

-- what is read after the word before a number
abbrev pub IsReadAfter : Typing → ℕ → Result Decimal ParseError → Type 0
IsReadAfter t i result =
    ((left : List ℕ) × IsAfterWord (chars (word_before_of t.formatter t.style i)) (chars t.text) left
    × IsReadLeft t i left result)
    ⊎ (((left : List ℕ) → ¬ IsAfterWord (chars (word_before_of t.formatter t.style i)) (chars t.text) left)
    × (result ≡ Err Syntax))

-- what is read without a word
abbrev pub IsReadWithout : Typing → ℕ → Result Decimal ParseError → Type 0
IsReadWithout t i result =
    ((left : List ℕ) × IsWithoutWord (chars (word_of t.formatter t.style i)) t.front t.tail left
    × IsReadLeft t i left result)
    ⊎ (IsNoneLeft (chars (word_of t.formatter t.style i)) t.front t.tail × IsReadAfter t i result)

-- the meanings of a text: without a word, as the magnitude 2 has none, and by each word
abbrev pub IsMeaning : Typing → ℕ → Result Decimal ParseError → Type 0
IsMeaning t zero result = IsReadWith t.inline t.plain t.alternatives t.text result
IsMeaning t (suc i) result = IsReadWithout t (suc i) result

-- there is a number by this meaning
abbrev pub Fits : Typing → ℕ → Type 0
Fits t i = (found : Result Decimal ParseError) × IsMeaning t i found × (found ≢ Err Syntax)

-- there is one by a meaning with another power of ten
pub record HasOther (t : Typing) (power : ℤ) : Type 0 where
  pub index : ℕ
  pub listed : index < 216
  pub differs : power_of t.formatter index ≢ power
  pub fits : Fits t index

abbrev pub HasNoOther : Typing → ℤ → Type 0
HasNoOther t power = (i : ℕ) → i < 216 → power_of t.formatter i ≢ power → IsMeaning t i (Err Syntax)

-- what is read by one of the meanings; `Syntax` if none has a number, or two with different powers of ten have
abbrev pub IsOneMeaning : Typing → Result Decimal ParseError → Type 0
IsOneMeaning t result =
    (((i : ℕ) → i < 216 → IsMeaning t i (Err Syntax)) × (result ≡ Err Syntax))
    ⊎ ((i : ℕ) × (i < 216) × Fits t i
    × ((IsMeaning t i result × HasNoOther t (power_of t.formatter i))
    ⊎ (HasOther t (power_of t.formatter i) × (result ≡ Err Syntax))))

abbrev pub IsReadByWord : ℕ → NumberFormatter → CompactStyle → Reader → List Alternative → List ℕ
    → Result Decimal ParseError → Type 0
IsReadByWord inline f style plain all text result =
    (front : List ℕ) × (tail : List ℕ) × IsCut text front tail × IsOneMeaning (record {
      inline = inline;
      formatter = f;
      style = style;
      plain = plain;
      alternatives = all;
      text = text;
      front = front;
      tail = tail;
    }) result

-- the result of reading a text as people type it: with the words that a formatter writes, or else with a typed word or
-- none
abbrev pub IsTypedInWords : ℕ → NumberFormatter → CompactStyle → Reader → List Alternative → List ℕ
    → Result Decimal ParseError → Type 0
IsTypedInWords inline f style plain all text result =
    (words : Result Decimal ParseError) × IsReadOrAny inline f style text words
    × IsOrElse words (IsShifted plain.shift (IsReadByWord inline f style plain all text)) result

-- ---- Private: used only in the contracts of private functions.

abbrev pub typing : ℕ → TypedText → Typing
typing inline t = record {
  inline = inline;
  formatter = t.formatter.now;
  style = t.style;
  plain = t.plain.now;
  alternatives = t.alternatives.now;
  text = t.text.now;
  front = chars t.front.now;
  tail = chars t.tail.now;
}

-- these characters without those left out at the start
pub record IsSkipped (cs rest : List ℕ) : Type 0 where
  pub out : List ℕ
  pub parts : cs ≡ out ++ rest
  pub none : folded out ≡ []
  pub whole : IsTrimmed rest

-- the first character that is not left out, and those after it
pub record IsKeptFirst (cs : List ℕ) (c : ℕ) (rest : List ℕ) : Type 0 where
  pub out : List ℕ
  pub parts : cs ≡ out ++ c ∷ rest
  pub none : folded out ≡ []
  pub kept : is_kept c ≡ true
