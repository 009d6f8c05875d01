-- A column of amounts in normal form.
use Rattle.std.specs.{Prelude.{◌≡◌, ℕ, ◌<◌, ◌↔◌, List, [], ◌∷◌, ◌++◌, Option, Result, Ok, IsOkAnd}, Borrow.Bor, Io.KnownBytes.Appends}
use Rattle.decimal_digits.specs.{AppendsPrefix.AppendsPrefix, Number.size}
use Rattle.decimal_unsigned.specs.{Unsigned.{Unsigned, IsValue}, Text.text, ValueLaws.trimmed, Reading.{ReadError, read}, ParseResult.ParseFails, declared.decimal.TheConstants.INLINE_DIGITS}
use Rattle.fixed_decimal.specs.DecimalText.{and_then}
use Rattle.uses.specs.declared.column.ColumnError.{ColumnError, TheVariants.{Amount, Sink}}

-- the text of a value without leading zeros and trailing zeros of the fraction
abbrev pub normal_text : Unsigned → List ℕ
normal_text v = text (trimmed v)

-- the normal form of the amount of a text, or the error of the text
abbrev pub normal_form : List ℕ → Result (List ℕ) ReadError
normal_form amount = and_then (read amount) (λ v. Ok (normal_text v))

-- a value has the same number exactly if it has the same normal form
abbrev pub HasUniqueForm : Unsigned → Type 0
HasUniqueForm v = (w : Unsigned) → IsValue w → (v.number ≡ w.number) ↔ (normal_text v ≡ normal_text w)

-- the error of an amount that is not written: that of its text, out of memory only for more than `INLINE_DIGITS`
-- digits; an error of the sink depends on no amount
abbrev pub AmountFails : ColumnError → List ℕ → Type 0
AmountFails (Amount fault) amount =
    ParseFails (IsOkAnd (read amount) (λ v. INLINE_DIGITS < size v.number)) fault (read amount)
AmountFails Sink amount = Unit {0}

-- the normal forms of amounts, each followed by a line feed, 10; or the first error
abbrev pub column_text : List (Bor (List ℕ)) → Result (List ℕ) ReadError
column_text [] = Ok []
column_text (amount ∷ rest) =
    and_then (normal_form amount.now) (λ form. and_then (column_text rest) (λ lines. Ok ((form ++ 10 ∷ []) ++ lines)))

-- the error of a column that is not written whole: an amount is rejected, and the lines before it were appended; or
-- the sink failed, and a prefix of the lines of the first amounts was appended
abbrev pub Stops : List (Bor (List ℕ)) → Option (List ℕ) → Option (List ℕ) → ColumnError → Type 0
Stops amounts old new (Amount fault) =
    (front : List (Bor (List ℕ))) × (amount : Bor (List ℕ)) × (back : List (Bor (List ℕ)))
    × (amounts ≡ front ++ amount ∷ back) × AmountFails (Amount fault) amount.now
    × IsOkAnd (column_text front) (Appends old new)
Stops amounts old new Sink =
    (front : List (Bor (List ℕ))) × (back : List (Bor (List ℕ))) × (amounts ≡ front ++ back)
    × IsOkAnd (column_text front) (AppendsPrefix old new)
