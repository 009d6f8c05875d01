use Rattle.std.proofs.{Common.{◌≡◌, ◌∙◌, sym, ap, arith, rules, w32, to_z, of_z, FitsSigned}, lemmas.{Bool.Decides.nat_tests, Int.to_z-of_z}}
use Rattle.number_format.proofs.read.apart.are_same_powers.Goals as goal

pub returns : goal.returns
returns c =
    let a = c.args.first in
    let b = c.args.second in
    let a_fits : FitsSigned w32 a = search rules in
    let b_fits : FitsSigned w32 b = search rules in (
      λ t.
          let same : of_z w32 a ≡ of_z w32 b = grind (arith, nat_tests, t) in
          sym (to_z-of_z w32 a a_fits) ∙ ap (to_z w32) same ∙ to_z-of_z w32 b b_fits,
      λ e.
          let same : of_z w32 a ≡ of_z w32 b = ap (of_z w32) e in
          grind (arith, nat_tests, same),
    )
