use Rattle.std.proofs.Common.{refl, sym, ap, ◌∙◌}
use Rattle.std.specs.Option.{option_or}
use Rattle.locale_data.specs.Currencies.{pattern_by}
use Rattle.locale_data.proofs.currency.currency_pattern.Goals as goal

pub returns-in-Some : goal.returns-in-Some
returns-in-Some c =
    let money = c.indexed_row-money.result.now in
    record {
      money = money;
      of_money = c.indexed_row-money.ensures;
      value =
          ap (pattern_by c.args.formats.now money c.args.sign)
          (ap (λ own. option_or own money.replaced) (sym c.own_pattern.ensures.value) ∙ sym c.or.ensures ∙ c.in-Some.is)
          ∙ c.overridden.ensures;
    }

pub returns-in-None : goal.returns-in-None
returns-in-None c =
    let money = c.indexed_row-money.result.now in
    record {
      money = money;
      of_money = c.indexed_row-money.ensures;
      value =
          ap (pattern_by c.args.formats.now money c.args.sign)
          (ap (λ own. option_or own money.replaced) (sym c.own_pattern.ensures.value) ∙ sym c.or.ensures ∙ c.in-None.is)
          ∙ (rw (sym c.pattern_index.ensures, c.pattern_at.ensures) refl);
    }
