use Rattle.std.proofs.Common.{sym, subst}
use Rattle.number_format.specs.{declared.options.NumberStyle.NumberStyle, Formatters.IsStyle}
use Rattle.number_format.proofs.format.style.style_of.Goals as goal

pub returns-in-Currency : goal.returns-in-Currency
returns-in-Currency c system named =
    let o = c.args.options.now in
    let r = c.money.result in
    subst (λ (s : NumberStyle). IsStyle s o.notation c.args.texts.now system c.args.sizes c.args.formats.now
    c.args.currency o.sign_display r.0 r.1) (sym c.in-Currency.is)
    (c.money.ensures system named)
