use Rattle.std.proofs.Common.{List, ℕ, Result, Ok, Err, refl}
use Rattle.std.specs.{Prelude.{IfOk, IfErr, ◌↔◌}, Str.IsUtf8}
use Rattle.decimal_unsigned.specs.declared.{error.ParseError.{ParseError, TheVariants.{Syntax, Limit, Memory}}, decimal.TheConstants.INLINE_DIGITS}
use Rattle.fixed_decimal.specs.Decimal.{Decimal}
use Rattle.decimal_format.specs.{Symbols.Symbols, Reading.{Numeral, IsRead}}
use Rattle.number_format.specs.declared.read.number_reader.ParseMode.{ParseMode, TheVariants.{Strict, Lenient}}
use Rattle.conversions.specs.Reader.{IsTextIn, IsNumeralIn, IsReadIn, ReadingFailsIn}
use Rattle.conversions.proofs.reader.DecimalReader.read.Goals as goal

-- what is read of a text whose numerals and decimals are those of a mode
reads :
    (mode : ParseMode) (s : Symbols) (text : List ℕ) {is_numeral : Numeral → Type 0} {is_written : Decimal → Type 0}
    → ((w : Numeral) → is_numeral w ↔ IsNumeralIn mode s w text)
    → ((v : Decimal) → is_written v → IsTextIn mode s v text) → (r : Result Decimal ParseError)
    → IsRead INLINE_DIGITS is_numeral is_written r
    → IfOk r (λ v. IsReadIn mode s text (Ok v)) × IfErr r (ReadingFailsIn mode s text)
reads mode s text numerals decimals (Ok v) read = ((read.found.0, decimals v read.found.1), tt)
reads mode s text numerals decimals (Err Syntax) read =
    (tt, λ w numeral. read.syntax.0 refl w ((numerals w).1 numeral))
reads mode s text numerals decimals (Err Limit) read =
    let x = read.limit.0 refl in (tt, (x.0, (numerals x.0).0 x.1, x.2))
reads mode s text numerals decimals (Err Memory) read =
    let x = read.memory refl in (tt, (x.0, x.1, decimals x.0 x.2, x.3))

pub returns-in-Strict : goal.returns-in-Strict
returns-in-Strict c =
    let (found, fails) =
    reads Strict c.args.self.now.symbols c.args.text.now
    (λ w. (λ h. h, λ h. h)) (λ v h. h) c.read.result c.read.ensures in
    rw c.in-Strict.is (record { found = found; fails_with = fails })

pub returns-in-Ok : goal.returns-in-Ok
returns-in-Ok c =
    let utf8 : IsUtf8 c.in-Ok.text.now = rw c.in-Ok.ensures.cases.0 c.in-Ok.ensures.cases.1 in
    let (found, fails) =
    reads Lenient c.args.self.now.symbols c.in-Ok.text.now
    (λ w. (λ h. (utf8, h), λ h. h.1)) (λ v h. (utf8, h)) c.read_lenient.result c.read_lenient.ensures in
    rw (c.in-Lenient.is, ← c.in-Ok.ensures.cases.0) (record { found = found; fails_with = fails })
