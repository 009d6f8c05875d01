use Rattle.std.proofs.Common.{◌++◌, ◌∙◌, ap, append_assoc, sym, arith}
use Rattle.std.specs.Char.{encode_utf8}
use Rattle.number_format.proofs.format.trimmed.without_start.Goals as goal

pub loop-c-preserved : goal.loop-c-preserved
loop-c-preserved c =
    let (utf8, (before, is), kept) = c.loop-c.invariant in (
      search arith,
      (
        before ++ encode_utf8 c.in-Some.c,
        is ∙ ap (λ l. before ++ l) c.in-Some.ensures.1
            ∙ sym (append_assoc before (encode_utf8 c.in-Some.c) c.in-Some.after.now),
      ),
      grind arith,
    )
