use Rattle.std.proofs.{Common.{◌≡◌, ◌+◌, ◌-◌, ◌≤◌, length, refl, arith, rules}, lemmas.{Grind.common_steps, List.Elements.recursion_from_All}}
use Rattle.decimal_digits.proofs.lemmas.{digits.Nibbles.nibble_rules, rounding.{Leading.{leading_none, leading_hundred, leading_same, one_more}, NumberAt.powers, Results.none_is_error}}
use Rattle.decimal_digits.specs.{Remainders.leading, declared.rounding.RoundError.TheVariants.Limit, declared.rounding.RoundingIncrement.TheVariants.MultiplesOf1}
use Rattle.decimal_digits.proofs.rounding.round_digits.round_leading.Goals as goal

pub returns-then-matches-clause-fails_with : goal.returns-then-matches-clause-fails_with
returns-then-matches-clause-fails_with g c =
    let one : c.args.increment ≡ MultiplesOf1 = search rules in
    rw (c.ok_or.ensures.value, one)
    (none_is_error c.round_by_one.result Limit _ c.round_by_one.ensures.full c.round_by_one.ensures.up
    (λ full up. (_, full, up)))

pub returns-then-keep-le2 : goal.returns-then-keep-le2
returns-then-keep-le2 g c =
    let ds = g.D.DigitStore.digits c.args.counted.now.list.now in
    let rounds = c.round_last_two-rounded.ensures.rounds (leading (c.args.keep - 2) ds) (leading c.args.keep ds)
    (leading c.in-Some.places (g.D.DigitStore.digits c.write_number.new.counted.list.now))
    c.last_two_of-last_two.ensures.value
    (omega (arith, c.in-Some.ensures.value, leading_none (c.args.keep - 2) ds (omega arith))) in
    grind arith

pub returns-in_default-write_number-clause-fails_with : goal.returns-in_default-write_number-clause-fails_with
returns-in_default-write_number-clause-fails_with g c =
    let ds = g.D.DigitStore.digits c.args.counted.now.list.now in (
      c.round_last_two-rounded.result,
      c.in_default-write_number.ensures.full,
      c.round_last_two-rounded.ensures.rounds _ _ _ c.last_two_of-last_two.ensures.value
          (omega (arith, leading_none (c.args.keep - 2) ds (omega arith))),
    )

-- the leading digits are all nines, so that adding one exceeds the number of places
pub returns-in_default-add_one-clause-fails_with : goal.returns-in_default-add_one-clause-fails_with
returns-in_default-add_one-clause-fails_with g c =
    let ds = g.D.DigitStore.digits c.args.counted.now.list.now in
    let full = rw c.last_two_of-last_two.ensures.reads.0 at c.in_default-add_one.ensures.full in
    let up = powers (c.args.max_places - 2) 2 c.args.max_places (omega arith) in (
      _,
      omega (arith, full, up, c.if-rounded-eq100.true),
      c.round_last_two-rounded.ensures.rounds (leading (c.args.keep - 2) ds) _ _ c.last_two_of-last_two.ensures.value
          refl,
    )

pub returns-then-rounded-eq100 : goal.returns-then-rounded-eq100
returns-then-rounded-eq100 g c =
    let ds = g.D.DigitStore.digits c.args.counted.now.list.now in
    let value = rw c.last_two_of-last_two.ensures.reads.0 at c.in-Some-add_one.ensures.value in
    let more = leading_hundred c.in-Some-add_one.places _ c.in-Some-add_one.ensures.length in
    let rounds = c.round_last_two-rounded.ensures.rounds (leading (c.args.keep - 2) ds) (leading c.args.keep ds)
    (leading (c.in-Some-add_one.places + 2) (g.D.DigitStore.digits c.add_one.new.counted.list.now))
    c.last_two_of-last_two.ensures.value (omega (arith, value, more, c.if-rounded-eq100.true)) in
    grind arith

pub returns-in-Err-clause-fails_with : goal.returns-in-Err-clause-fails_with
returns-in-Err-clause-fails_with g c =
    let list = c.args.counted.now.list.now in
    let ds = g.D.DigitStore.digits list in
    let last_two = c.round_last_two-rounded in
    let at_end : c.args.keep ≡ length ds + 1 = grind (arith, common_steps) in
    let full : g.D.DigitStore.L ≤ length ds = grind (arith, common_steps) in (
      search rules,
      full,
      at_end,
      (
        _,
        one_more c.args.keep last_two.result ds (recursion_from_All _ _ (g.met.D.DigitStore.are_digits list))
            (omega arith)
            at_end (c.requires.stripped.front (omega arith)) (omega arith) c.in-Err.ensures.ones,
        last_two.ensures.rounds _ _ _ c.last_two_of-last_two.ensures.value refl,
      ),
    )

pub returns-then-rounded-eq0-clause-value : goal.returns-then-rounded-eq0-clause-value
returns-then-rounded-eq0-clause-value g c =
    let ds = g.D.DigitStore.digits c.args.counted.now.list.now in
    let xs = g.D.DigitStore.digits c.truncate.new.self.list.now in
    let k = c.args.keep - 2 in
    let len : length xs ≡ k = grind (arith, common_steps) in
    let e : k + 2 ≡ c.args.keep = omega arith in
    let more = rw e at
    (leading_hundred k (g.D.DigitStore.digits c.strip_trailing_zeros.new.counted.list.now)
    (omega (arith, c.strip_trailing_zeros.ensures.length))) in
    let round_digits = leading_same k xs ds (λ i h. grind (arith, nibble_rules)) in
    c.round_last_two-rounded.ensures.rounds _ _ _ c.last_two_of-last_two.ensures.value
    (omega (arith, more, rw len at c.strip_trailing_zeros.ensures.value, round_digits, c.if-rounded-eq0.true))

pub returns-then-not-matches : goal.returns-then-not-matches
returns-then-not-matches g c =
    let ds = g.D.DigitStore.digits c.args.counted.now.list.now in
    let value = rw c.last_two_of-last_two.ensures.reads.0 at c.keep_leading.ensures.value in
    let rounds = c.round_last_two-rounded.ensures.rounds (leading (c.args.keep - 2) ds) (leading c.args.keep ds)
    (leading c.args.keep (g.D.DigitStore.digits c.keep_leading.new.counted.list.now))
    c.last_two_of-last_two.ensures.value
    (omega (arith, value, c.last_two_of-last_two.ensures.value, c.if-rounded-last_two.true)) in
    grind arith

pub returns-else-not-matches : goal.returns-else-not-matches
returns-else-not-matches g c =
    let rounds = c.round_last_two-rounded.ensures.rounds _ _
    (leading c.args.keep (g.D.DigitStore.digits c.args.counted.now.list.now)) c.last_two_of-last_two.ensures.value
    (omega (arith, c.last_two_of-last_two.ensures.value, c.if-rounded-last_two.true)) in
    grind arith

pub returns-in-Ok : goal.returns-in-Ok
returns-in-Ok g c =
    let rounds = c.round_last_two-rounded.ensures.rounds _ _
    (leading c.args.keep (g.D.DigitStore.digits c.write_last_two.new.counted.list.now))
    c.last_two_of-last_two.ensures.value (rw c.last_two_of-last_two.ensures.reads.0 at c.in-Ok.ensures.value) in
    grind arith

pub strip_trailing_zeros-requires : goal.strip_trailing_zeros-requires
strip_trailing_zeros-requires g c = grind (arith, nibble_rules)
