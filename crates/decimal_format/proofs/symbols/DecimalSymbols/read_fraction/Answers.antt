use Rattle.std.proofs.Common.{refl, arith, append-nil}
use Rattle.decimal_format.proofs.{lemmas.reader.{Bcd.last_none, DigitTexts.digits_text-nil, Scans.{spelled_plain, fraction_is, fraction_read}}, symbols.DecimalSymbols.read_fraction.Goals.{then-count-eq0-via-then-count-eq0, then-count-eq0-via-else-count-eq0+then-not-is_empty}}
use Rattle.decimal_format.proofs.symbols.DecimalSymbols.read_fraction.Goals as goal

pub returns-then-is_empty-clause-found : goal.returns-then-is_empty-clause-found
returns-then-is_empty-clause-found g c = grind (arith, spelled_plain, digits_text-nil, last_none)

pub returns-then-count-eq0-clause-none : goal.returns-then-count-eq0-clause-none
returns-then-count-eq0-clause-none g c = λ ds all e.
    let begins = rw (c.as_bytes.ensures.value, c.decimal_separator.ensures.value) at c.in_ok-digits.ensures in
    let read = fraction_read c.requires (c.if-is_empty.ensures.no refl) c.if-is_empty.ensures.at_most begins
    c.read_run-number.ensures ds all e in
    elim c.then-count-eq0.branch [
      | then-count-eq0-via-then-count-eq0 w ↦ absurd (omega (arith, read.0, w.if-count-eq0.true))
      | then-count-eq0-via-else-count-eq0+then-not-is_empty w ↦
          w.is_empty-else-count-eq0.ensures.no w.if-not-is_empty.true read.1
    ]

pub returns-clause-found : goal.returns-clause-found
returns-clause-found g c = grind (arith, append-nil, fraction_is, spelled_plain)
