use Rattle.std.proofs.{Common.{◌≡◌, ◌∙◌, ap, ◌<◌, ◌^◌, arith, rules, w16, w32, to_z, FitsSigned}, lemmas.Int.{ints, to_z-of_z}}
use Rattle.std.specs.Prelude.{pos, min}
use Rattle.decimal_unsigned.specs.{Edits.padded_start, Unsigned.integer_value}
use Rattle.number_format.proofs.lemmas.format.ExponentDigits.{integer_is_short}
use Rattle.number_format.proofs.format.exponent.shown_exponent.Goals as goal

pub unwrap-absolute-requires : goal.unwrap-absolute-requires
unwrap-absolute-requires c =
    let small : c.unsigned_abs.result < 2 ^ 32 = omega (arith, c.unsigned_abs.ensures.bound) in
    c.try_from_u32.ensures.succeeds (integer_is_short c.unsigned_abs.result small)

pub returns : goal.returns
returns c =
    let fits : FitsSigned w32 c.args.exponent = search rules in
    let sign = simp to_z-of_z at c.exponent_sign.ensures in
    let size = simp to_z-of_z at c.unsigned_abs.ensures.value in
    let least : to_z w16 c.min.result ≡ pos (min c.args.options.digits 32767) = omega (arith, ints, c.min.ensures) in
    let whole = rw c.unwrap-absolute.ensures at c.try_from_u32.ensures.value in
    let digits =
    c.pad_start.ensures ∙ (λ i. padded_start ((whole ∙ ap integer_value size) i) (least i)) in
    c.new.ensures ∙ (λ i. record { sign = sign i; absolute = digits i })
