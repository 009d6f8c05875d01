use Rattle.fixed_decimal_c.proofs.lemmas.formatter.Kept.{decoded}
use Rattle.fixed_decimal_c.proofs.formatter.FdFormatter.decode.Goals as goal

pub returns : goal.returns
returns c =
    let (rows, options) = c.in-Some.ensures.some in
    let made = decoded c.at.result c.args.self.now c.in-Some.ids c.in-Some.options rows options in
    let (some, none) = made c.at.ensures.some c.at.ensures.none in
    record { some = some; none = none }
