use Rattle.std.proofs.Common.{sym, ◌∙◌}
use Rattle.fixed_decimal.specs.declared.variations.Sign.TheVariants.{Negative, Positive}
use Rattle.decimal_format.proofs.lemmas.reader.Scans.{sign-unique}
use Rattle.decimal_format.proofs.symbols.DecimalSymbols.split_prefix.Goals as goal

pub returns-in-Some-clause-unique : goal.returns-in-Some-clause-unique
returns-in-Some-clause-unique g c = λ sign rest begins e.
    let minus = rw (c.as_bytes.ensures.value, c.affixes.ensures.prefix) at c.in-Some.ensures in
    sign-unique c.args.self.now c.requires Negative sign (g.T.Input.bytes c.in-Some.rest) rest
    (λ none. absurd (cc)) (λ _. begins) (sym minus ∙ e)

pub returns-in-Some-cut-clause-unique : goal.returns-in-Some-cut-clause-unique
returns-in-Some-cut-clause-unique g c = λ sign rest begins e.
    let plus = rw (c.as_bytes-2.ensures.value, c.affixes-2.ensures.prefix) at c.in-Some-cut.ensures in
    sign-unique c.args.self.now c.requires Positive sign (g.T.Input.bytes c.in-Some-cut.rest) rest
    (λ none. absurd (cc)) (λ _. begins) (sym plus ∙ e)
