use Rattle.number_format.proofs.read.number_reader.can_read_words_of.Goals as goal

pub returns-then-not-keeps_notation : goal.returns-then-not-keeps_notation
returns-then-not-keeps_notation c = (
  λ t. absurd (cc),
  λ h. let t = c.keeps_notation.ensures.1 h.0 in absurd (cc (t, c.if-not-keeps_notation.true)),
)

pub returns-then-not-has_compact_exponents : goal.returns-then-not-has_compact_exponents
returns-then-not-has_compact_exponents c = (
  λ t. absurd (cc),
  λ h. let t = c.has_compact_exponents.ensures.1 h.1.0 in absurd (cc (t, c.if-not-has_compact_exponents.true)),
)

pub returns : goal.returns
returns c = (
  λ t. (
    c.keeps_notation.ensures.0 c.if-not-keeps_notation.false,
    (c.has_compact_exponents.ensures.0 c.if-not-has_compact_exponents.false, c.has_word_numbers.ensures.0 t),
  ),
  λ h. c.has_word_numbers.ensures.1 h.1.1,
)

pub has_word_numbers-requires : goal.has_word_numbers-requires
has_word_numbers-requires c =
    c.has_compact_exponents.ensures.0 c.if-not-has_compact_exponents.false
