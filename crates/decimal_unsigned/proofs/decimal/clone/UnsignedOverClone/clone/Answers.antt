use Rattle.std.proofs.{Common.{sym, ◌∙◌, ap}, lemmas.Result.err_from_is_err_and}
use Rattle.decimal_digits.specs.Number.{size}
use Rattle.decimal_unsigned.proofs.lemmas.decimal.Values.{size-number_of}
use Rattle.decimal_unsigned.specs.Unsigned.{Unsigned}
use Rattle.decimal_unsigned.proofs.decimal.clone.UnsignedOverClone.clone.Goals as goal

pub returns-in_err-digits : goal.returns-in_err-digits
returns-in_err-digits g c =
    let e = err_from_is_err_and c.from_residual.result c.from_residual.ensures.1 in
    let s = sym (size-number_of c.self.invariant) ∙ ap (λ (v : Unsigned). size v.number) c.self.view_is in
    rw e.1 (record { cases = λ h. let k = c.in_err-digits.ensures.succeeds (rw s h) in cc })
