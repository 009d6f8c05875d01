use Rattle.std.proofs.{lemmas.Str.encodes-chars, Common.{◌++◌, ◌∷◌, [], ◌∙◌, ap, append_assoc, sym, arith, inl, inr}}
use Rattle.std.specs.{Char.encode_utf8, Str.{chars, encode_utf8_all}}
use Rattle.number_format.proofs.read.compact.typed.before_tail.Goals as goal

pub loop-before-preserved : goal.loop-before-preserved
loop-before-preserved c =
    let (utf8, (after, is), (tail, parts, none)) = c.loop-before.invariant in (
      search arith,
      (
        encode_utf8 c.in-Some.c ++ after,
        is ∙ ap (λ l. l ++ after) c.in-Some.ensures.1
            ∙ append_assoc c.in-Some.before.now (encode_utf8 c.in-Some.c) after,
      ),
      (
        c.in-Some.c ∷ tail,
        parts ∙ ap (λ l. l ++ tail) c.in-Some.ensures.0 ∙ append_assoc _ (c.in-Some.c ∷ []) tail,
        (sym c.is_numeric.ensures.value ∙ c.if-is_numeric.false, none),
      ),
    )

pub returns-then-is_numeric-clause-cut : goal.returns-then-is_numeric-clause-cut
returns-then-is_numeric-clause-cut c =
    let (utf8, bytes, (tail, parts, none)) = c.loop-before.invariant in (
      tail,
      record {
        parts = sym (encodes-chars c.args.text.now c.utf8.text) ∙ ap encode_utf8_all parts;
        digit = inr (
          chars c.in-Some.before.now,
          c.in-Some.c,
          c.in-Some.ensures.0,
          sym c.is_numeric.ensures.value ∙ c.if-is_numeric.true,
        );
        last = none;
      },
    )

pub returns-clause-cut : goal.returns-clause-cut
returns-clause-cut c =
    let (utf8, bytes, (tail, parts, none)) = c.loop-before.invariant in (
      tail,
      record {
        parts = sym (encodes-chars c.args.text.now c.utf8.text) ∙ ap encode_utf8_all parts;
        digit = inl c.in_default.ensures;
        last = none;
      },
    )
