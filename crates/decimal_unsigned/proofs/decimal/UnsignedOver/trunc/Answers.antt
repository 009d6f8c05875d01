use Rattle.std.proofs.{Common.{ap, subst}, lemmas.Int.to_z-of_z}
use Rattle.std.specs.Option.{unwrap_or}
use Rattle.decimal_digits.specs.{declared.rounding.RoundingIncrement.TheVariants.MultiplesOf1, declared.rounding.UnsignedRoundingMode.TheVariants.Trunc}
use Rattle.decimal_unsigned.proofs.lemmas.{laws.ValueLaws.{splits, trunc_succeeds}, shift.Roundings.ok_unless_none}
use Rattle.decimal_unsigned.specs.{Edits.with_max_position, Rounded.{IsRounded, rounding_by_1}, ValueLaws.SplitsAt}
use Rattle.decimal_unsigned.proofs.decimal.UnsignedOver.trunc.Goals as goal

pub unwrap-requires : goal.unwrap-requires
unwrap-requires g c =
    let p = c.ranges.position in
    ok_unless_none (IsRounded c.args.self.now (rounding_by_1 c.args.position Trunc)) c.args.self.now
    c.round_with_mode.new.self c.round_with_mode.result (simp to_z-of_z at c.round_with_mode.ensures.rounds)
    (λ r. trunc_succeeds c.args.self.now c.args.position r.valid MultiplesOf1 r.value)

pub returns : goal.returns
returns g c =
    let p = c.ranges.position in
    let v = c.args.self.now in
    let ok = rw c.unwrap.ensures at c.round_with_mode.ensures.rounds in
    let rounds = simp to_z-of_z at ok in
    let value = ap (λ o. unwrap_or o v) rounds.value in
    record {
      rounds = rounds;
      splits =
          subst (λ t. SplitsAt v c.args.position t (with_max_position v c.args.position)) value
          (splits v c.args.position rounds.valid);
    }
