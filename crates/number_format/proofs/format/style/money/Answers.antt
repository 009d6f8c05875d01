use Rattle.std.proofs.Common.{subst}
use Rattle.locale_data.specs.Currencies.{IsCurrencyPattern}
use Rattle.number_format.proofs.format.style.money.Goals as goal

pub returns : goal.returns
returns c system named =
    let written = c.currency_pattern-written.result in
    record {
      written = written;
      own = c.of.result;
      written_is = subst (λ g. IsCurrencyPattern c.args.formats.now c.args.currency g written)
          c.currency_sign-sign.ensures c.currency_pattern-written.ensures;
      pattern = c.money_pattern.ensures;
      own_is = c.of.ensures;
      shown_is = c.in_system.ensures system named;
    }
