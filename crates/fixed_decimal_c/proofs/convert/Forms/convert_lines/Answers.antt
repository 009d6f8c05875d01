use Rattle.std.proofs.{Common.{◌≡◌, ◌-◌, ◌∷◌, ◌≤◌, length, take, drop, refl, subst, arith}, lemmas.List.{take_all, length-drop}}
use Rattle.conversions.specs.Lines.{lines_of}
use Rattle.fixed_decimal_c.specs.Lines.{IsLineWritten, LineStops}
use Rattle.fixed_decimal_c.proofs.lemmas.lines.Columns.{converted_none, converted_more, stopped}
use Rattle.fixed_decimal_c.proofs.convert.Forms.convert_lines.Goals as goal

pub loop-done-init : goal.loop-done-init
loop-done-init c = record {
  converted = converted_none _ _ _ _ _;
  lines_few = omega arith;
  failed_few = omega arith;
}

pub loop-done-preserved : goal.loop-done-preserved
loop-done-preserved c =
    let done = c.loop-done.done in
    let first = c.first_line-first in
    let output = c.in-Ok.output in
    let input = c.args.input.now in
    let rest = drop done.read input in
    let whole : take (length input - done.read) rest ≡ rest =
    take_all (length input - done.read) rest (omega (arith, length-drop done.read input)) in
    let next = subst (λ l. lines_of l ≡ take first.result.len l ∷ lines_of (drop first.result.consumed l)) whole
    first.ensures.line in
    let inside = subst (λ l. first.result.consumed ≤ length l) whole first.ensures.inside in
    let room = take (length c.loop-done.buffer - done.written) (drop done.written c.loop-done.buffer) in
    let written =
    subst (λ l. IsLineWritten c.args.self.now c.args.calls.now c.args.skip (take first.result.len l) output.failed
    output.count room c.convert_line.new.buffer) whole c.in-Ok.ensures.ok in
    record {
      converted = converted_more c.args.self.now c.args.calls.now c.args.skip input done _ c.loop-done.buffer
          c.loop-done.invariant.converted (take first.result.len rest) first.result.consumed output.failed output.count
          _ c.convert_line.new.buffer refl next inside written;
      lines_few = omega (arith, c.loop-done.invariant.lines_few, first.ensures.some);
      failed_few = omega (arith, c.loop-done.invariant.failed_few, c.in-Ok.ensures.at_most);
    }

pub returns-in-Err : goal.returns-in-Err
returns-in-Err c =
    let done = c.loop-done.done in
    let first = c.first_line-first in
    let input = c.args.input.now in
    let rest = drop done.read input in
    let whole : take (length input - done.read) rest ≡ rest =
    take_all (length input - done.read) rest (omega (arith, length-drop done.read input)) in
    let next = subst (λ l. lines_of l ≡ take first.result.len l ∷ lines_of (drop first.result.consumed l)) whole
    first.ensures.line in
    let room = take (length c.loop-done.buffer - done.written) (drop done.written c.loop-done.buffer) in
    let stops =
    subst (λ l. LineStops c.args.self.now c.args.calls.now c.args.skip (take first.result.len l) room c.in-Err.error)
    whole c.in-Err.ensures.err in
    stopped c.args.self.now c.args.calls.now c.args.skip input done _ c.loop-done.buffer c.loop-done.invariant.converted
    (take first.result.len rest) _ _ c.convert_line.new.buffer c.in-Err.error refl c.in-Err.ensures.unchanged next stops
