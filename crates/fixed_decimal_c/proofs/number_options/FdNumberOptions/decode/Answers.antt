use Rattle.std.proofs.Common.{inr}
use Rattle.fixed_decimal_c.proofs.number_options.FdNumberOptions.decode.Goals as goal

pub returns-in-Ok-clause-ok : goal.returns-in-Ok-clause-ok
returns-in-Ok-clause-ok c = (
  c.in-Some.options,
  c.in-Some-settings.settings,
  c.in-Some.ensures.some,
  c.in-Some-settings.ensures.some,
  c.in-Ok.ensures.ok,
)

pub returns-in-Err-clause-err : goal.returns-in-Err-clause-err
returns-in-Err-clause-err c =
    inr (
      c.in-Some.options,
      c.in-Some-settings.settings,
      c.in-Err.error,
      c.in-Some.ensures.some,
      c.in-Some-settings.ensures.some,
      c.in-Err.ensures.err,
      c.error_of_digits.ensures,
    )
