-- Formatters that C keeps: what is made, and what is none.
use Rattle.std.proofs.Common.{◌≡◌, ◌≢◌, ℕ, zero, suc, ◌-◌, List, Option, Some, None, Result, Ok, Err, inl, inr, refl, sym, ◌∙◌, ap, arith}
use Rattle.std.specs.{Prelude.{slice_get, IfOk, IfErr, IfSome, IfNone}, Option.option_map}
use Rattle.number_format.specs.{declared.{format.{ids.FormatterIds.FormatterIds, formatter.NumberFormatter.NumberFormatter}, options.NumberOptions.NumberOptions}, Formatters.{IsFormatterAt, LacksRows}}
use Rattle.fixed_decimal_c.specs.{declared.{error.FdError.FdError, formatter.FdFormatter.FdFormatter, number_options.FdNumberOptions.FdNumberOptions}, FormatOptions.AreFormatOptions, FormatRows.AreRows, KeptFormatters.{IsFormatterIn, IsKept, IsNoFormatter, Keeps, MakesByOptions}, NumberOptions.{AreNumberOptions, NumberOptionsFail}, NumberTexts.OptionsFail, StatusTexts.{errors_at, line_of, status_line}}
use Rattle.fixed_decimal_c.specs.declared.error.FdError.TheVariants as error

-- what is made of options
pub made_of : (r : Result FdFormatter FdError) (tag : List ℕ) (options : FdNumberOptions) (o : NumberOptions)
    → AreNumberOptions options o → IfOk r (Keeps tag o) → IfErr r (λ e. OptionsFail e tag o)
    → MakesByOptions r tag options
made_of (Ok c) tag options o are keeps fails = (o, are, keeps)
made_of (Err e) tag options o are keeps fails = inr (o, are, fails)

pub no_options_fail : (e : FdError) (tag : List ℕ) (options : FdNumberOptions) → NumberOptionsFail e options
    → MakesByOptions (Err e) tag options
no_options_fail e tag options fails = inl fails

-- rows that the tables lack are no formatter
pub lacks : (c : FdFormatter) (ids : FormatterIds) → AreRows c.rows ids → LacksRows ids → IsKept (Err error.Formatter) c
lacks c ids rows missing = (refl, inr (inr (ids, rows, missing)))

-- what the rows and the options that C has make
pub decoded : (r : Option NumberFormatter) (c : FdFormatter) (ids : FormatterIds) (o : NumberOptions)
    → AreRows c.rows ids → AreFormatOptions c.options o → IfSome r (IsFormatterAt ids o) → IfNone r (LacksRows ids)
    → IfSome r (IsFormatterIn c) × IfNone r (IsNoFormatter c)
decoded (Some f) c ids o rows options is missing = ((ids, o, rows, options, is), tt)
decoded None c ids o rows options is missing = (tt, inr (inr (ids, rows, missing)))

-- a status above the last has no line
pub no_line : (status at calls : ℕ) → status ≢ 0 → slice_get (errors_at at) (status - 1) ≡ None
    → None ≡ status_line status at calls
no_line zero at calls positive none = absurd (positive refl)
no_line (suc n) at calls positive none =
    let e : suc n - 1 ≡ n = omega arith in
    sym (ap (option_map (line_of calls)) (ap (slice_get (errors_at at)) (sym e) ∙ none))

-- the line of a status that has an error
pub some_line : (status at calls : ℕ) (e : FdError) (line : List ℕ) → status ≢ 0
    → slice_get (errors_at at) (status - 1) ≡ Some e → line ≡ line_of calls e → Some line ≡ status_line status at calls
some_line zero at calls e line positive found is = absurd (positive refl)
some_line (suc n) at calls e line positive found is =
    let index : suc n - 1 ≡ n = omega arith in
    ap Some is ∙ sym (ap (option_map (line_of calls)) (ap (slice_get (errors_at at)) (sym index) ∙ found))
