use Rattle.std.proofs.{Common.{◌≡◌, true, Ok, inl, inr, refl, rules}, lemmas.Bool.false_from_ne_true}
use Rattle.number_skeleton.specs.{NoStem.has_no_stem, Meaning.{skeleton_options, options_value}}
use Rattle.fixed_decimal_c.specs.declared.error.FdError.TheVariants.{NoSkeleton, Memory}
use Rattle.fixed_decimal_c.proofs.format.write_skeleton.Goals as goal

pub returns-in-Err : goal.returns-in-Err
returns-in-Err c = inr (c.in-Err.error, refl, inl c.in-Err.ensures.err, refl)

pub returns-in-Ok-Some : goal.returns-in-Ok-Some
returns-in-Ok-Some c =
    let o = c.in-Ok.options in
    let never : has_no_stem (options_value o) ≡ true → ⊥ = λ e.
    let none = c.in-Ok-Some.ensures.none e in
    let some = c.in-Ok-Some.field-0-is in
    absurd (cc) in
    let read : skeleton_options c.as_bytes.result.now ≡ Ok (options_value o) = search rules in
    inl (o, c.in-Ok.ensures.ok, false_from_ne_true _ never, c.as_bytes.result.now, read, c.deliver.ensures)

pub returns-in-Ok-None : goal.returns-in-Ok-None
returns-in-Ok-None c =
    inr (NoSkeleton, refl, inr (c.in-Ok.options, c.in-Ok.ensures.ok, inl refl), refl)

pub returns-in-Err-to_skeleton : goal.returns-in-Err-to_skeleton
returns-in-Err-to_skeleton c =
    let o = c.in-Ok.options in
    let never : has_no_stem (options_value o) ≡ true → ⊥ = λ e.
    let none = c.in-Err-to_skeleton.ensures.none e in
    absurd (cc) in
    inr (Memory, refl, inr (o, c.in-Ok.ensures.ok, inr (refl, false_from_ne_true _ never)), refl)
