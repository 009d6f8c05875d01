use Rattle.std.proofs.Common.{◌∙◌, sym, arith}
use Rattle.std.specs.Str.{chars}
use Rattle.number_format.proofs.lemmas.read.TypedTexts.{out_more}
use Rattle.number_format.proofs.read.compact.typed.skip_left_out.Goals as goal

pub loop-c-preserved : goal.loop-c-preserved
loop-c-preserved c =
    let (utf8, (out, is, none)) = c.loop-c.invariant in (
      search arith,
      out_more out (chars c.loop-c.rest.now) c.in-Some.c (chars c.args.text.now) (chars c.in-Some.after.now) is none
          c.in-Some.ensures.0 (sym c.is_kept.ensures ∙ c.if-is_kept.false),
    )
