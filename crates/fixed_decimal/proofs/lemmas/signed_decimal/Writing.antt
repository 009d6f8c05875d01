-- Writing a text of two parts to a sink.
use Rattle.std.proofs.{Common.{List, ℕ, ◌++◌, Result, Option, OnOk, OnErr}, KnownBytes.Appends-trans, lemmas.Result.{on_ok_weaker, on_err_weaker}}
use Rattle.std.specs.Io.KnownBytes.{Appends}
use Rattle.decimal_digits.proofs.lemmas.{rounding.Results.on_err, sink.Sinks.{prefix_more, then_prefix}}
use Rattle.decimal_digits.specs.AppendsPrefix.{AppendsPrefix}

-- the first part was not written whole
pub first_fails : {A E : Type 0} (r : Result A E) (a b : Option (List ℕ)) (xs ys : List ℕ)
    → AppendsPrefix a b xs
    → OnErr r (AppendsPrefix a b (xs ++ ys))
first_fails r a b xs ys p = on_err r _ (prefix_more a b xs ys p)

-- the second part was not written to its end
pub second_fails : {A E : Type 0} (r : Result A E) (a b c : Option (List ℕ)) (xs ys : List ℕ) → Appends a b xs
    → OnErr r (AppendsPrefix b c ys)
    → OnErr r (AppendsPrefix a c (xs ++ ys))
second_fails r a b c xs ys p = on_err_weaker r (then_prefix a b c xs ys p)

-- both parts were written
pub both_written : {A E : Type 0} (r : Result A E) (a b c : Option (List ℕ)) (xs ys : List ℕ) → Appends a b xs
    → OnOk r (Appends b c ys)
    → OnOk r (Appends a c (xs ++ ys))
both_written r a b c xs ys p = on_ok_weaker r (Appends-trans a b c xs ys p)
