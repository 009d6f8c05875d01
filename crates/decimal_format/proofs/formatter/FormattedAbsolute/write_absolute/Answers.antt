use Rattle.std.proofs.Common.{◌≡◌, ◌+◌, ◌≤◌, ap, subst, arith}
use Rattle.decimal_digits.specs.AppendsPrefix.{AppendsPrefix}
use Rattle.fixed_decimal.proofs.Calling.{on_err}
use Rattle.decimal_format.specs.{Formatted.shown_count, Parts.part_text}
use Rattle.decimal_format.proofs.lemmas.formatter.Parts.{part_none, part_more, part_failed, whole_part}
use Rattle.decimal_format.proofs.formatter.FormattedAbsolute.write_absolute.Goals as goal

pub loop-written-init : goal.loop-written-init
loop-written-init g c = record { within = omega arith; appended = part_none c.args.self.now 0 _ }

pub returns-in_err-put_part-clause-err : goal.returns-in_err-put_part-clause-err
returns-in_err-put_part-clause-err g c =
    let f = c.args.self.now in
    let i = c.loop-written.written in
    let n = c.min-part.result in
    let all = shown_count f.value in
    let inside : i + n ≤ all = omega (arith, c.min-part.ensures, c.shown_count-count.ensures.value) in
    let here : part_text f i n ≡ part_text f (0 + i) n =
    ap (λ b. part_text f b n) (let e : i ≡ 0 + i = omega arith in e) in
    on_err c.from_residual.result _
    (subst (AppendsPrefix (g.W.Sink.contents c.args.sink.now) (g.W.Sink.contents c.put_part.new.sink)) (whole_part f)
    (part_failed f 0 i n all inside _ _ _ _ here c.loop-written.invariant.appended c.in_err-put_part.ensures.err))

pub loop-written-preserved : goal.loop-written-preserved
loop-written-preserved g c =
    let f = c.args.self.now in
    let i = c.loop-written.written in
    let n = c.min-part.result in
    let here : part_text f i n ≡ part_text f (0 + i) n =
    ap (λ b. part_text f b n) (let e : i ≡ 0 + i = omega arith in e) in
    record {
      within = omega (arith, c.min-part.ensures);
      appended =
          part_more f 0 i n _ _ _ _ here c.loop-written.invariant.appended c.in_ok-put_part.ensures.ok;
    }
