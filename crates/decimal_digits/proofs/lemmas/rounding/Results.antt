-- Outcomes.
use Rattle.std.proofs.Common.{Result, Ok, Err, IsErr, IfErr, OnErr, Option, None, Some, IfNone, ok_or}

-- what holds anyway holds on an error
pub on_err : {A E : Type 0} (r : Result A E) (P : Type 0) → P → OnErr r P
on_err (Ok x) P p = tt
on_err (Err e) P p = p

-- a true proposition holds in the case of `None`
pub if_none : {A : Type 0} (r : Option A) (P : Type 0) → P → IfNone r P
if_none None P p = p
if_none (Some x) P p = tt

-- what follows from two facts of `None` holds for the error, where there is an error instead
pub none_is_error : {A E : Type 0} (r : Option A) (e : E) {P Q : Type 0} (R : E → Type 0) → IfNone r P → IfNone r Q
    → (P → Q → R e)
    → IfErr (ok_or r e) R
none_is_error None e R p q f = f p q
none_is_error (Some x) e R p q f = tt

-- what follows from two facts of the error of a call holds on each error that comes from that call
pub on_err_of :
    {A B E F : Type 0} (r : Result A E) (called : Result B F) (P Q : F → Type 0) {R : Type 0} → OnErr r (IsErr called)
    → IfErr called P → IfErr called Q → ((e : F) → P e → Q e → R) → OnErr r R
on_err_of (Ok x) called P Q from p q f = tt
on_err_of (Err e) (Ok x) P Q from p q f = cc
on_err_of (Err e) (Err x) P Q from p q f = f x p q
