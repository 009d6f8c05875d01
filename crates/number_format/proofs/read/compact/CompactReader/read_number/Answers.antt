use Rattle.std.proofs.{Common.{true, sym, arith, subst}, lemmas.Int.ints}
use Rattle.locale_data.specs.declared.compact.CompactStyle.{CompactStyle}
use Rattle.number_format.specs.{declared.format.formatter.NumberFormatter.NumberFormatter, CompactReading.{IsOwnOr, IsPatternOf, IsReadByNumber}}
use Rattle.number_format.proofs.lemmas.read.CompactOwn.{pattern_exponent, read_value}
use Rattle.number_format.proofs.read.compact.CompactReader.read_number.Goals as goal

pub own-requires-clause-exponent : goal.own-requires-clause-exponent
own-requires-clause-exponent g c =
    let small = pattern_exponent c.self.inside.formatter c.self.inside.style c.self.inside.reader c.self.invariant.0
    c.in_ok-value.pattern.now c.in_ok-value.ensures.ok.0.listed in
    (small.0, omega (arith, ints, small.1))

pub own-requires-clause-sign : goal.own-requires-clause-sign
own-requires-clause-sign g c = c.in_ok-value.ensures.ok.0.sign

pub own-requires-clause-listed : goal.own-requires-clause-listed
own-requires-clause-listed g c =
    let p = c.in_ok-value.pattern.now in
    subst (λ (w : NumberFormatter × CompactStyle). IsPatternOf w.0 w.1 true p) c.self.view_is
    (c.self.invariant.0.patterns.only p c.in_ok-value.ensures.ok.0.listed)

pub returns : goal.returns
returns g c =
    let s = c.self.inside in
    let p = c.in_ok-value.pattern.now in
    let v = c.in_ok-value.value in
    subst (λ (w : NumberFormatter × CompactStyle). IsReadByNumber g.D.DigitStore.L w.0 w.1 c.args.text.now
    c.own.result) c.self.view_is
    (read_value s.formatter s.style s.reader c.self.invariant.0 g.D.DigitStore.L c.args.text.now v p
    c.in_ok-value.ensures.ok.0 c.in_ok-value.ensures.ok.1 c.own.result
    (subst (λ (w : NumberFormatter × CompactStyle). IsOwnOr w.0 w.1 p v c.own.result) (sym c.self.view_is)
    c.own.ensures))
