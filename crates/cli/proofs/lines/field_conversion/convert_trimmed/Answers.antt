use Rattle.std.proofs.Common.{◌≡◌, ◌≢◌, List, ℕ, true, inl, inr, refl, rules}
use Rattle.conversions.specs.{declared.{conversion.Conversion.Conversion, error.OperationError.{OperationError, TheVariants.{Memory, Output}}}, Conversion.OperationsFail}
use Rattle.cli.specs.{FieldConversion.LineFails, Fields.within, Trim.text_of}
use Rattle.cli.proofs.lines.field_conversion.convert_trimmed.Goals as goal

-- a conversion to a sink in memory failed
trimmed_fails :
    (conversion : Conversion) (line text : List ℕ) (error result : OperationError) → text ≡ text_of true line
    → OperationsFail error conversion text → (error ≡ Output → result ≡ Memory) → (error ≢ Output → result ≡ error)
    → LineFails true conversion line result
trimmed_fails conversion line text Memory result same fails output other =
    rw (other (λ is. cc)) (inl (rw same at fails))
trimmed_fails conversion line text Output result same fails output other = rw (output refl) (inr (rw same at fails))
trimmed_fails conversion line text error result same fails output other =
    rw (other (λ is. cc)) (rw same at fails)

pub returns-in-Err-clause-fails_with : goal.returns-in-Err-clause-fails_with
returns-in-Err-clause-fails_with g c = λ _.
    let same : c.text_of-bytes.result.now ≡ text_of true (within c.args.line.now c.args.body) = search rules in
    trimmed_fails c.args.conversion.now (within c.args.line.now c.args.body) c.text_of-bytes.result.now
    c.in-Err.error c.error_in_memory.result same c.in-Err.ensures.fails_with c.error_in_memory.ensures.output
    c.error_in_memory.ensures.other
