use Rattle.std.proofs.{Common.{◌≡◌, ◌≤◌, ◌-◌, ◌^◌, List, ℕ, length, sym, ◌∙◌, ap, subst, arith}, lemmas.List.take_all}
use Rattle.decimal_format.specs.{Alternatives.{IsNumeralOfFirst, IsWrittenOfFirst}, Lenient.{replaced, normalized}, Reading.IsRead}
use Rattle.decimal_format.proofs.reader.alternatives.read_alternatives.Goals as goal

pub returns-in-Some : goal.returns-in-Some
returns-in-Some g c =
    let s = c.args.symbols.now in
    let text = c.args.text.now in
    let short : length (replaced s text) ≤ 2 ^ 64 - 1 =
    omega (arith, ap length c.in-Some.ensures.0, c.in-Some.ensures.1) in
    let whole : c.as_bytes.result.now ≡ normalized s text =
    c.as_bytes.ensures.value ∙ c.in-Some.ensures.0 ∙ sym (take_all (2 ^ 64 - 1) (replaced s text) short) in
    subst (λ (b : List ℕ). IsRead g.D.DigitStore.L (IsNumeralOfFirst s b c.args.alternatives.now)
    (IsWrittenOfFirst s b c.args.alternatives.now) c.read_first.result) whole c.read_first.ensures

pub returns-in-None : goal.returns-in-None
returns-in-None g c =
    let s = c.args.symbols.now in
    subst (λ (b : List ℕ). IsRead g.D.DigitStore.L (IsNumeralOfFirst s b c.args.alternatives.now)
    (IsWrittenOfFirst s b c.args.alternatives.now) c.read_first-in-None.result) c.new.ensures
    c.read_first-in-None.ensures
