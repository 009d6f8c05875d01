use Rattle.std.proofs.{Common.{List, sym, ◌∙◌, ap, arith, subst}, lemmas.Int.ints}
use Rattle.std.specs.{Prelude.Ok, List.Contains}
use Rattle.fixed_decimal.specs.Decimal.{Decimal}
use Rattle.locale_data.specs.declared.compact.CompactStyle.{CompactStyle}
use Rattle.number_format.specs.{declared.{format.formatter.NumberFormatter.NumberFormatter, read.pattern.NumberPattern.NumberPattern}, AffixedTexts.shifted, CompactReading.{IsReadByNumber, IsReadShownInWords}}
use Rattle.number_format.proofs.lemmas.read.CompactOwn.{read_other, read_whole, whole_exponent}
use Rattle.number_format.proofs.read.compact.CompactReader.read_shown.Goals as goal

pub times-requires : goal.times-requires
times-requires g c =
    let s = c.self.inside in
    let small = whole_exponent s.formatter s.style s.wholes.items c.self.invariant.1 c.self.invariant.0.exponents
    c.in-Some.pattern.now
    (subst (λ (xs : List NumberPattern). Contains xs c.in-Some.pattern.now) c.as_slice.ensures.value
    c.in-Some.ensures.0) in
    (small.0, omega (arith, ints, small.1))

pub returns-in-Some : goal.returns-in-Some
returns-in-Some g c =
    let s = c.self.inside in
    let p = c.in-Some.pattern.now in
    subst (λ (w : NumberFormatter × CompactStyle). IsReadShownInWords g.D.DigitStore.L w.0 w.1 c.args.text.now
    c.times.result) c.self.view_is
    (read_whole s.formatter s.style s.wholes.items c.self.invariant.1 g.D.DigitStore.L c.args.text.now c.times.result p
    (subst (λ (xs : List NumberPattern). Contains xs p) c.as_slice.ensures.value c.in-Some.ensures.0)
    c.in-Some.ensures.1
    (c.times.ensures ∙ ap (λ (v : Decimal). shifted p.exponent (Ok v)) c.new-one.ensures
    ∙ (λ i. shifted p.exponent (Ok (record { sign = p.sign; absolute = c.one.ensures i })))))

pub returns-in-None : goal.returns-in-None
returns-in-None g c =
    let s = c.self.inside in
    subst (λ (w : NumberFormatter × CompactStyle). IsReadShownInWords g.D.DigitStore.L w.0 w.1 c.args.text.now
    c.read_number.result) c.self.view_is
    (read_other s.formatter s.style s.wholes.items c.self.invariant.1 g.D.DigitStore.L c.args.text.now
    c.read_number.result
    (λ p listed. c.in-None.ensures p
    (subst (λ (xs : List NumberPattern). Contains xs p) (sym c.as_slice.ensures.value) listed))
    (subst (λ (w : NumberFormatter × CompactStyle). IsReadByNumber g.D.DigitStore.L w.0 w.1 c.args.text.now
    c.read_number.result) (sym c.self.view_is) c.read_number.ensures))
