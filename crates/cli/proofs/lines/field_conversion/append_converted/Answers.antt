use Rattle.std.proofs.Common.{rules}
use Rattle.cli.proofs.{lemmas.lines.FieldLines.{plain_field, plain_fails, text_error}, lines.field_conversion.append_converted.Goals.{in-Ok, in-Err}}
use Rattle.cli.proofs.lines.field_conversion.append_converted.Goals as goal

pub returns-then-not-field-clause-ok : goal.returns-then-not-field-clause-ok
returns-then-not-field-clause-ok c =
    elim c.match-convert.branch [
      | in-Ok w ↦
          rw w.result-is
          (plain_field c.args.trims c.args.field.now c.args.conversion.now c.args.bytes.now c.args.line.now.0
          c.convert.new.sink.0 (search rules) (search rules) w.in-Ok.ensures.written)
      | in-Err w ↦ rw w.result-is tt
    ]

pub returns-then-not-field-clause-err : goal.returns-then-not-field-clause-err
returns-then-not-field-clause-err c =
    elim c.match-convert.branch [
      | in-Ok w ↦ rw w.result-is tt
      | in-Err w ↦
          rw w.result-is
          (λ other. plain_fails c.args.trims c.args.field.now c.args.conversion.now c.args.bytes.now _ (search rules)
          (search rules)
          (text_error c.args.conversion.now c.args.bytes.now w.in-Err.error _ w.in-Err.ensures.fails_with
          w.error_in_memory.ensures.output w.error_in_memory.ensures.other other))
    ]
