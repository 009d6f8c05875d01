use Rattle.std.proofs.Common.{◌≡◌, subst, sym}
use Rattle.std.specs.Prelude.{Some, MatchOption}
use Rattle.number_format.specs.{DefaultDigits.AreDefaultDigits, Formatters.digits_by}
use Rattle.number_format.proofs.format.style.shown_digits.Goals as goal

pub returns-in-None : goal.returns-in-None
returns-in-None c =
    let o = c.args.options.now in
    let shown = c.default_digits.result in
    subst (λ given. MatchOption given (AreDefaultDigits (digits_by c.args.currency) o shown) (λ d. shown ≡ Some d))
    (sym c.in-None.is) (subst (λ money. AreDefaultDigits money o shown) c.digits_by.ensures c.default_digits.ensures)
