use Rattle.std.proofs.Common.{sym, ◌∙◌}
use Rattle.fixed_decimal.specs.declared.variations.Sign.TheVariants.{Negative, Positive}
use Rattle.decimal_format.proofs.lemmas.reader.Scans.{sign-unique}
use Rattle.number_format.proofs.read.scientific.exponent.split_sign.Goals as goal

pub returns-in-Some-clause-unique : goal.returns-in-Some-clause-unique
returns-in-Some-clause-unique c = λ sign rest begins e.
    let minus = rw (c.as_bytes.ensures.value, c.affixes.ensures.prefix) at c.in-Some.ensures in
    sign-unique c.args.symbols.now c.requires Negative sign c.in-Some.rest.now rest
    (λ none. absurd (cc)) (λ _. begins) (sym minus ∙ e)

pub returns-in-Some-cut-clause-unique : goal.returns-in-Some-cut-clause-unique
returns-in-Some-cut-clause-unique c = λ sign rest begins e.
    let plus = rw (c.as_bytes-2.ensures.value, c.affixes-2.ensures.prefix) at c.in-Some-cut.ensures in
    sign-unique c.args.symbols.now c.requires Positive sign c.in-Some-cut.rest.now rest
    (λ none. absurd (cc)) (λ _. begins) (sym plus ∙ e)
