use Rattle.std.proofs.{Common.{arith, sym, ◌∙◌, ap}, lemmas.{Grind.common_steps, Int.to_z-of_z}}
use Rattle.std.specs.Prelude.{Err}
use Rattle.decimal_unsigned.specs.declared.error.ConcatenateError.TheVariants.{Overlap, Memory}
use Rattle.fixed_decimal.proofs.Calling.{on_err}
use Rattle.decimal_format.proofs.lemmas.reader.Values.{next_at, bcd_only, memory_for_integer, stays_in_limits, is_apart, joined_is, memory_for_sum}
use Rattle.decimal_format.proofs.reader.value.append.Goals as goal

pub returns-in_err-next-clause-memory : goal.returns-in_err-next-clause-memory
returns-in_err-next-clause-memory g c = on_err c.from_residual.result _ (λ ds es holds bcd.
    let next = next_at c.requires c.last_magnitude-position.ensures c.last_magnitude-position.type_inv in
    memory_for_integer holds bcd next g.D.DigitStore.L
    (λ few. let t = c.in_err-next.ensures.succeeds es (bcd_only bcd) few in let no : ⊥ = cc in no))

pub returns-in-Err-clause-ok : goal.returns-in-Err-clause-ok
returns-in-Err-clause-ok g c = grind (arith, next_at, to_z-of_z, bcd_only, stays_in_limits, common_steps)

pub returns-in-Ok-clause-ok : goal.returns-in-Ok-clause-ok
returns-in-Ok-clause-ok g c = grind (arith, next_at, joined_is, bcd_only, common_steps)

pub returns-in-Err-Overlap-clause-ok : goal.returns-in-Err-Overlap-clause-ok
returns-in-Err-Overlap-clause-ok g c = λ ds es holds bcd.
    let next = next_at c.requires c.last_magnitude-position.ensures c.last_magnitude-position.type_inv in
    let apart = is_apart holds bcd next _ _ (c.in_ok-next.ensures.value es (bcd_only bcd)) c.in_default.ensures.moved in
    let returned = rw c.in-Err-Overlap.field-0-is at c.in-Err-Overlap.ensures.returned in
    let overlap = c.in-Err-Overlap.ensures.overlap.0 (ap Err (c.in-Err-Overlap.field-0-is ∙ ap Overlap returned)) in
    let t = sym apart ∙ overlap in
    absurd (cc)

pub returns-in-Err-Memory-clause-memory : goal.returns-in-Err-Memory-clause-memory
returns-in-Err-Memory-clause-memory g c = λ ds es holds bcd.
    let next = next_at c.requires c.last_magnitude-position.ensures c.last_magnitude-position.type_inv in
    let returned = rw c.in-Err-Memory.field-0-is at c.in-Err-Memory.ensures.returned in
    let needs = c.in-Err-Memory.ensures.memory (ap Err (c.in-Err-Memory.field-0-is ∙ ap Memory returned)) in
    memory_for_sum holds bcd next _ _ (c.in_ok-next.ensures.value es (bcd_only bcd)) c.in_default.ensures.moved
    g.D.DigitStore.L needs.first_is_nonzero needs.second_is_nonzero needs.more
