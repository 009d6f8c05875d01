use Rattle.std.proofs.Common.{◌≡◌, List, ℕ, Some, None, Option, Result, IfErr, refl, rules}
use Rattle.decimal_digits.specs.AppendsPrefix.{AppendsPrefix}
use Rattle.fixed_decimal.specs.{Decimal.Decimal, DecimalText.decimal_text}
use Rattle.decimal_format.specs.Formatted.{formatted}
use Rattle.conversions.specs.{declared.{error.OperationError.{OperationError, TheVariants.Output}, locale_formatter.LocaleFormatter.{LocaleFormatter, TheVariants.{AllDigits, Skeleton}}}, Conversion.HasTextBy}
use Rattle.conversions.proofs.lemmas.conversion.Conversions.{text_fails, text_begun}
use Rattle.conversions.proofs.conversion.Conversion.write.Goals as goal

-- the same of an equal formatter
begun_by :
    {X : Type 0} (formatter other : Option LocaleFormatter) (v : Decimal) (r : Result X OperationError)
    (P : List ℕ → Type 0) → formatter ≡ other → IfErr r (λ error. error ≡ Output → HasTextBy other v P)
    → IfErr r (λ error. error ≡ Output → HasTextBy formatter v P)
begun_by formatter other v r P is begun = rw is begun

pub returns-in-Some-Skeleton-clause-prefix : goal.returns-in-Some-Skeleton-clause-prefix
returns-in-Some-Skeleton-clause-prefix g c =
    let is : c.args.self.now.formatter ≡ Some (Skeleton c.in-Some-Skeleton.formatter) = search rules in
    begun_by _ _ c.args.value c.write_number.result _ is c.write_number.ensures.prefix

pub returns-in-Some-AllDigits-clause-fails_with : goal.returns-in-Some-AllDigits-clause-fails_with
returns-in-Some-AllDigits-clause-fails_with g c =
    let is : c.args.self.now.formatter ≡ Some (AllDigits c.in-Some-AllDigits.formatter) = search rules in
    let f = c.in-Some-AllDigits.formatter in
    rw is (text_fails (Some (AllDigits f)) c.args.value (formatted f.symbols f.strategy c.args.value) refl
    c.write_text.result c.write_text.ensures.fails_with)

pub returns-in-None-clause-fails_with : goal.returns-in-None-clause-fails_with
returns-in-None-clause-fails_with g c =
    let is : c.args.self.now.formatter ≡ None = search rules in
    rw is (text_fails None c.args.value (decimal_text c.args.value) refl c.write_text-in-None.result
    c.write_text-in-None.ensures.fails_with)

pub returns-in-None-clause-prefix : goal.returns-in-None-clause-prefix
returns-in-None-clause-prefix g c =
    let is : c.args.self.now.formatter ≡ None = search rules in
    let contents = g.W.Sink.contents in
    begun_by _ _ c.args.value c.write_text-in-None.result _ is
    (text_begun None c.args.value (decimal_text c.args.value) refl c.write_text-in-None.result
    (AppendsPrefix (contents c.args.sink.now) (contents c.write_text-in-None.new.sink))
    c.write_text-in-None.ensures.prefix)

pub returns-in-Some-AllDigits-clause-prefix : goal.returns-in-Some-AllDigits-clause-prefix
returns-in-Some-AllDigits-clause-prefix g c =
    let f = c.in-Some-AllDigits.formatter in
    let is : c.args.self.now.formatter ≡ Some (AllDigits f) = search rules in
    let contents = g.W.Sink.contents in
    begun_by _ _ c.args.value c.write_text.result _ is
    (text_begun (Some (AllDigits f)) c.args.value (formatted f.symbols f.strategy c.args.value) refl c.write_text.result
    (AppendsPrefix (contents c.args.sink.now) (contents c.write_text.new.sink))
    (search (rules, c.write_text.ensures.prefix)))
