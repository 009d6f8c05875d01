use Rattle.std.proofs.{Common.{refl, arith}, lemmas.{Grind.common_steps, Grind.same_number_lists, List.take_all}}
use Rattle.decimal_digits.proofs.lemmas.digits.{Nibbles.nibble_rules, Words.{pack_more, packed, zero_word}}
use Rattle.decimal_digits.proofs.digits.packed.words.pack_word.Goals as goal

pub returns-then-is_empty : goal.returns-then-is_empty
returns-then-is_empty c = grind (arith, zero_word, same_number_lists, nibble_rules, common_steps)

pub overflow_mul-number : goal.overflow_mul-number
overflow_mul-number c =
    omega (
      arith,
      (pack_more c.args.digits.now c.loop-digit.digit-index c.loop-digit.number _ c.loop-digit-test.true c.requires
          c.loop-digit.invariant refl).0,
    )

pub overflow_add-number : goal.overflow_add-number
overflow_add-number c =
    omega (
      arith,
      c.from.ensures,
      (pack_more c.args.digits.now c.loop-digit.digit-index c.loop-digit.number _ c.loop-digit-test.true c.requires
          c.loop-digit.invariant refl).0,
    )

pub loop-digit-preserved : goal.loop-digit-preserved
loop-digit-preserved c = grind (arith, pack_more, common_steps)

pub returns : goal.returns
returns c = grind (arith, take_all, packed, common_steps)
