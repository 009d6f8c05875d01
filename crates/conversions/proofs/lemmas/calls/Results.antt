-- The results of functions that return the error of another one.
use Rattle.std.proofs.Common.{◌≡◌, Result, Ok, Err, IfErr, sym, subst}
use Rattle.std.specs.Prelude.{IsErrAnd}

-- what is true of an error is true of a result with that error
pub err_with : {A E : Type 0} (Q : E → Type 0) (r : Result A E) (f : E) → IsErrAnd r (λ x. x ≡ f) → Q f → IfErr r Q
err_with Q (Ok x) f h q = absurd h
err_with Q (Err e) f h q = subst Q (sym h) q
