use Rattle.std.proofs.Common.{inl}
use Rattle.fixed_decimal_c.proofs.units.write_name.Goals as goal

pub returns-in-Some : goal.returns-in-Some
returns-in-Some c =
    inl (
      c.as_bytes.result.now,
      record {
        unit = c.in-Some.unit;
        number_is = c.in-Some.ensures.some;
        name = rw c.as_bytes.ensures.value c.name.ensures;
      },
      c.deliver.ensures,
    )
