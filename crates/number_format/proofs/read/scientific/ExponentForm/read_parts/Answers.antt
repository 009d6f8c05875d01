use Rattle.std.proofs.{Common.{◌≡◌, refl, sym, subst, arith, rules, to_z, of_z, FitsSigned, w32}, lemmas.Int.ints}
use Rattle.number_format.specs.ScientificReading.{HasParts}
use Rattle.number_format.proofs.lemmas.read.ScientificValues.{split_parts, split_error}
use Rattle.number_format.proofs.read.scientific.ExponentForm.read_parts.Goals as goal

pub returns-in_default-clause-err : goal.returns-in_default-clause-err
returns-in_default-clause-err g c = record {
  found = λ other. absurd (other refl);
  value = λ w n. absurd (c.in_default.ensures.unique w n);
}

pub returns-in-Ok-clause-ok : goal.returns-in-Ok-clause-ok
returns-in-Ok-clause-ok g c =
    let fits : FitsSigned w32 c.in-Some.exponent = search rules in
    let same : to_z w32 (of_z w32 c.in-Some.exponent) ≡ c.in-Some.exponent = omega (arith, ints, fits) in
    subst (HasParts c.args.symbols.now c.args.self.now c.args.body.now c.in-Ok.value) (sym same)
    (split_parts g.D.DigitStore.L c.args.symbols.now c.requires.readable c.in-Some.significand.now c.args.self.now
    c.args.body.now c.in-Some.exponent c.in-Some.ensures.found c.in-Ok.value c.in-Ok.ensures)

pub returns-in-Err-clause-err : goal.returns-in-Err-clause-err
returns-in-Err-clause-err g c =
    split_error g.D.DigitStore.L c.args.symbols.now c.requires.readable c.in-Some.significand.now c.args.self.now
    c.args.body.now c.in-Some.exponent c.in-Some.ensures.found c.in-Err.error
    (λ w n. (c.in-Some.ensures.unique w n).0) c.in-Err.ensures
