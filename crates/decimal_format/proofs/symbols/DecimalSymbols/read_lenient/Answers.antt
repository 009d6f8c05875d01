use Rattle.std.proofs.{Common.{◌≡◌, ◌≤◌, ◌-◌, ◌^◌, length, sym, ◌∙◌, ap, arith}, lemmas.List.take_all}
use Rattle.decimal_format.specs.Lenient.{replaced, normalized}
use Rattle.decimal_format.proofs.lemmas.reader.NumeralLaws.{read_first, read_next}
use Rattle.decimal_format.proofs.symbols.DecimalSymbols.read_lenient.Goals as goal

pub returns-in-Ok : goal.returns-in-Ok
returns-in-Ok g c = read_first (rw c.as_bytes.ensures.value at c.in-Ok.ensures) (λ h. cc)

pub returns-in-None : goal.returns-in-None
returns-in-None g c =
    let strict = rw (c.as_bytes.ensures.value, c.in-Err-Syntax.field-0-is) at c.in-Err-Syntax.ensures in
    read_next strict (rw c.new.ensures at c.read_groups-in-None.ensures)

pub returns-in-Some : goal.returns-in-Some
returns-in-Some g c =
    let strict = rw (c.as_bytes.ensures.value, c.in-Err-Syntax.field-0-is) at c.in-Err-Syntax.ensures in
    let s = c.args.self.now in
    let text = c.args.text.now in
    let short : length (replaced s text) ≤ 2 ^ 64 - 1 =
    omega (arith, ap length c.in-Some.ensures.0, c.in-Some.ensures.1) in
    let whole : c.as_bytes-in-Some.result.now ≡ normalized s text =
    c.as_bytes-in-Some.ensures.value ∙ c.in-Some.ensures.0 ∙ sym (take_all (2 ^ 64 - 1) (replaced s text) short) in
    read_next strict (rw whole at c.read_groups.ensures)

pub returns-in-Err-Limit : goal.returns-in-Err-Limit
returns-in-Err-Limit g c =
    read_first (rw (c.as_bytes.ensures.value, c.in-Err-Limit.field-0-is) at c.in-Err-Limit.ensures) (λ h. cc)

pub returns-in-Err-Memory : goal.returns-in-Err-Memory
returns-in-Err-Memory g c =
    read_first (rw (c.as_bytes.ensures.value, c.in-Err-Memory.field-0-is) at c.in-Err-Memory.ensures) (λ h. cc)
