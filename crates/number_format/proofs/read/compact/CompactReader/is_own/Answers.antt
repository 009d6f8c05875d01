use Rattle.std.proofs.Common.{refl, subst}
use Rattle.locale_data.specs.declared.compact.CompactStyle.{CompactStyle}
use Rattle.number_format.specs.{declared.format.formatter.NumberFormatter.NumberFormatter, CompactReading.AreByPower}
use Rattle.number_format.proofs.lemmas.read.CompactOwn.{not_own, own_power_is, own_texts}
use Rattle.number_format.proofs.read.compact.CompactReader.is_own.Goals as goal

pub returns-then-not-has_power : goal.returns-then-not-has_power
returns-then-not-has_power g c =
    let w = c.args.self.now in
    not_own w.0 w.1 c.args.value.now c.args.pattern.now c.requires.sign
    (λ has. let t = c.has_power.ensures.1 has in absurd (cc (t, c.if-not-has_power.true)))

pub returns-then-self : goal.returns-then-self
returns-then-self g c =
    let w = c.args.self.now in
    let by = subst (λ (x : NumberFormatter × CompactStyle). AreByPower x.0 x.1) c.self.view_is
    (c.self.invariant.2 c.if-self.true) in (
      λ t. own_power_is w.0 w.1 c.args.value.now c.args.pattern.now c.requires.sign by c.requires.listed
          (c.has_power.ensures.0 c.if-not-has_power.false),
      λ own. refl,
    )

pub returns : goal.returns
returns g c =
    let w = c.args.self.now in
    own_texts w.0 w.1 c.args.value.now c.args.pattern.now c.requires.sign c.key.result c.key.ensures
    c.has_own_texts.result c.has_own_texts.ensures
