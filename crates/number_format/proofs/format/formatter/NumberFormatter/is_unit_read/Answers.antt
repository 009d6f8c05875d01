use Rattle.number_format.proofs.format.formatter.NumberFormatter.is_unit_read.Goals as goal

pub returns-then-not-is_unsigned : goal.returns-then-not-is_unsigned
returns-then-not-is_unsigned c = (
  λ t. absurd (cc),
  λ read. let t = c.is_unsigned.ensures.1 (read.standard, read.unsigned) in absurd (cc (t, c.if-not-is_unsigned.true)),
)

pub returns-then-not-holds_lone_number : goal.returns-then-not-holds_lone_number
returns-then-not-holds_lone_number c = (
  λ t. absurd (cc),
  λ read. let t = c.holds_lone_number.ensures.1 read.alone in absurd (cc (t, c.if-not-holds_lone_number.true)),
)

pub returns-then-not-is_unit_without_digit : goal.returns-then-not-is_unit_without_digit
returns-then-not-is_unit_without_digit c = (
  λ t. absurd (cc),
  λ read.
      let t = c.is_unit_without_digit.ensures.1 read.no_digit in absurd (cc (t, c.if-not-is_unit_without_digit.true)),
)

pub returns : goal.returns
returns c =
    let unsigned = c.is_unsigned.ensures.0 c.if-not-is_unsigned.false in (
      λ t. record {
        standard = unsigned.0;
        unsigned = unsigned.1;
        alone = c.holds_lone_number.ensures.0 c.if-not-holds_lone_number.false;
        no_digit = c.is_unit_without_digit.ensures.0 c.if-not-is_unit_without_digit.false;
        apart = c.are_units_apart.ensures.0 t;
      },
      λ read. c.are_units_apart.ensures.1 read.apart,
    )
