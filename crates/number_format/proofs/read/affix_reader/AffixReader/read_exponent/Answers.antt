use Rattle.std.proofs.{Common.{◌≡◌, Err, refl, sym, subst, arith, rules, to_z, of_z, FitsSigned, w32}, lemmas.Int.ints}
use Rattle.number_format.specs.{AffixedTexts.Reader, ScientificReading.{HasParts, IsSeparatorApart, IsReadScientific}}
use Rattle.number_format.proofs.lemmas.read.{AffixedNumbers.IsReader, OwnExponents.{beyond_limits, of_any_category}, ScientificAffixes.shown_between}
use Rattle.number_format.proofs.read.affix_reader.AffixReader.read_exponent.Goals as goal

pub read_parts-requires-clause-separator : goal.read_parts-requires-clause-separator
read_parts-requires-clause-separator g c =
    subst (λ (x : Reader). IsSeparatorApart x.symbols c.args.form.now.separator.now) (sym c.self.view_is)
    c.requires.separator

pub returns-in-Err : goal.returns-in-Err
returns-in-Err g c =
    let r = c.args.self.now in
    let is : IsReader r = subst IsReader c.self.view_is c.self.invariant in
    let middle = c.args.middle.now in
    shown_between r c.args.form.now c.args.text.now g.D.DigitStore.L is.0 is.1 c.args.pattern.now middle
    c.requires.split (Err c.in-Err.fault) (Err c.in-Err.fault)
    (subst (λ (x : Reader). IsReadScientific g.D.DigitStore.L x.symbols c.args.form.now middle (Err c.in-Err.fault))
    c.self.view_is c.in-Err.ensures.err) refl

pub returns-in-Ok-times_power : goal.returns-in-Ok-times_power
returns-in-Ok-times_power g c =
    let r = c.args.self.now in
    let is : IsReader r = subst IsReader c.self.view_is c.self.invariant in
    let parts = c.in-Ok.parts in
    let fits : FitsSigned w32 parts.1 = search rules in
    let same : to_z w32 (of_z w32 parts.1) ≡ parts.1 = omega (arith, ints, fits) in
    let has_parts = subst (λ (x : Reader). HasParts x.symbols c.args.form.now c.args.middle.now parts.0 parts.1)
    c.self.view_is c.in-Ok.ensures.ok in
    rw c.with_sign.ensures
    (of_any_category r c.args.form.now c.args.text.now g.D.DigitStore.L is.0 is.1 c.args.pattern.now
    c.args.middle.now c.requires.split c.requires.separator parts.0 parts.1 has_parts c.in-None.is
    c.in-Ok-times_power.shown (λ e h. c.in-Ok-times_power.ensures e (cc (same, h))))

pub returns-in-Err-times_power : goal.returns-in-Err-times_power
returns-in-Err-times_power g c =
    let r = c.args.self.now in
    let is : IsReader r = subst IsReader c.self.view_is c.self.invariant in
    let parts = c.in-Ok.parts in
    let fits : FitsSigned w32 parts.1 = search rules in
    let same : to_z w32 (of_z w32 parts.1) ≡ parts.1 = omega (arith, ints, fits) in
    let has_parts = subst (λ (x : Reader). HasParts x.symbols c.args.form.now c.args.middle.now parts.0 parts.1)
    c.self.view_is c.in-Ok.ensures.ok in
    beyond_limits r c.args.form.now c.args.text.now g.D.DigitStore.L is.0 is.1 c.args.pattern.now c.args.middle.now
    c.requires.split c.requires.separator parts.0 parts.1 has_parts c.in-Err-times_power.error
    (λ e h. c.in-Err-times_power.ensures e (cc (same, h)))
