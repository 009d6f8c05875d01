use Rattle.std.proofs.Common.{◌≡◌, ◌++◌, [], true, false, Err, drop, refl, inl, inr}
use Rattle.fixed_decimal_c.specs.Errors.{is_of_line}
use Rattle.fixed_decimal_c.proofs.lemmas.lines.Columns.{stops, result_of_line, nothing_written, ended, not_ended, text_ended, text_not_ended}
use Rattle.fixed_decimal_c.proofs.convert.Forms.convert_line.Goals as goal

pub returns-in-Ok-clause-ok : goal.returns-in-Ok-clause-ok
returns-in-Ok-clause-ok c =
    text_ended c.args.self.now c.args.calls.now c.args.skip c.args.line.now c.args.buffer.now c.convert.new.buffer
    c.end_line.new.buffer c.saturating_sub-room.result c.in-Ok.count c.in-Ok.ensures c.end_line.result
    c.end_line.ensures.ok c.end_line.ensures.output

pub returns-in-Ok-clause-err : goal.returns-in-Ok-clause-err
returns-in-Ok-clause-err c =
    text_not_ended c.args.self.now c.args.calls.now c.args.skip c.args.line.now c.args.buffer.now c.convert.new.buffer
    c.end_line.new.buffer c.saturating_sub-room.result c.in-Ok.count c.in-Ok.ensures c.end_line.result
    c.end_line.ensures.err c.end_line.ensures.full

pub returns-then-not-skip-clause-err : goal.returns-then-not-skip-clause-err
returns-then-not-skip-clause-err c =
    stops c.args.self.now c.args.calls.now c.args.line.now c.args.buffer.now c.convert.new.buffer
    c.saturating_sub-room.result c.in-Err.error c.in-Err.ensures c.args.skip c.saturating_sub-room.ensures
    (inl c.if-not-skip.true)

pub returns-then-not-is_of_line-clause-err : goal.returns-then-not-is_of_line-clause-err
returns-then-not-is_of_line-clause-err c =
    let other : is_of_line c.in-Err.error ≡ false = cc in
    stops c.args.self.now c.args.calls.now c.args.line.now c.args.buffer.now c.convert.new.buffer
    c.saturating_sub-room.result c.in-Err.error c.in-Err.ensures c.args.skip c.saturating_sub-room.ensures (inr other)

pub returns-clause-ok : goal.returns-clause-ok
returns-clause-ok c =
    let of_line : is_of_line c.in-Err.error ≡ true = cc in
    let room = c.convert.new.buffer in
    let r = c.saturating_sub-room.result in
    let f = c.args.self.now in
    let calls = c.args.calls.now in
    let line = c.args.line.now in
    let old = c.args.buffer.now in
    let fails = c.in-Err.ensures in
    let result = result_of_line f calls line old room r c.in-Err.error fails c.args.skip c.if-not-skip.false of_line in
    ended f calls c.args.skip line [] old (room ++ drop r old) c.end_line-2.new.buffer 0 1 (Err c.in-Err.error) result
    refl (nothing_written f calls line old room r c.in-Err.error fails) c.end_line-2.result refl
    c.end_line-2.ensures.ok c.end_line-2.ensures.output

pub returns-clause-err : goal.returns-clause-err
returns-clause-err c =
    let of_line : is_of_line c.in-Err.error ≡ true = cc in
    let room = c.convert.new.buffer in
    let r = c.saturating_sub-room.result in
    let f = c.args.self.now in
    let calls = c.args.calls.now in
    let line = c.args.line.now in
    let old = c.args.buffer.now in
    let fails = c.in-Err.ensures in
    let result = result_of_line f calls line old room r c.in-Err.error fails c.args.skip c.if-not-skip.false of_line in
    not_ended f calls c.args.skip line [] old (room ++ drop r old) c.end_line-2.new.buffer 0 1 (Err c.in-Err.error)
    result refl (nothing_written f calls line old room r c.in-Err.error fails) c.end_line-2.result
    c.end_line-2.ensures.err c.end_line-2.ensures.full
