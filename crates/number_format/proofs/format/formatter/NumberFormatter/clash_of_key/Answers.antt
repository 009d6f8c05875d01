use Rattle.std.proofs.Common.{arith, get_or, map, refl, ◌∙◌}
use Rattle.std.specs.{Prelude.{Option, None}, List.Contains}
use Rattle.fixed_decimal.specs.declared.variations.Sign.{Sign}
use Rattle.plural_rules.specs.declared.rules.PluralCategory.{PluralCategory}
use Rattle.decimal_format.specs.Symbols.{affixes}
use Rattle.number_format.specs.{AffixedTexts.AreToldApart, NumberReading.number_pattern}
use Rattle.number_format.proofs.lemmas.read.PatternLists.{all_done, all_more, clash_by, in_map, listed_at, told_by}
use Rattle.number_format.proofs.format.formatter.NumberFormatter.clash_of_key.Goals as goal

abbrev plain_key : Option PluralCategory × Sign
plain_key = (None, Sign.None)

pub returns-then-not-are_told_apart : goal.returns-then-not-are_told_apart
returns-then-not-are_told_apart c =
    let f = c.args.self.now in
    let s = f.style.symbols in
    let keys = c.args.keys.now in
    let other = get_or keys c.loop-other.other-index plain_key in
    let p = number_pattern f c.args.key in
    let q = number_pattern f other in
    let first = (λ i. affixes (c.texts.ensures.prefix i) (c.texts.ensures.suffix i)) ∙ c.pattern_texts-texts.ensures in
    let texts = c.texts-in-loop-other.ensures in
    let second = (λ i. affixes (texts.prefix i) (texts.suffix i)) ∙ c.pattern_texts-others.ensures in
    let name = c.pattern_name.ensures in
    let name' = c.pattern_name-in-loop-other.ensures in
    clash_by s (Contains (map (number_pattern f) keys)) c.are_told_apart.result _ _ p q
    (in_map (number_pattern f) keys other (listed_at keys c.loop-other.other-index other plain_key (omega arith) refl))
    name name' (told_by s c.are_told_apart.result _ _ _ _ p q first second name name' c.are_told_apart.ensures)
    c.if-not-are_told_apart.true

pub loop-other-preserved : goal.loop-other-preserved
loop-other-preserved c =
    let f = c.args.self.now in
    let s = f.style.symbols in
    let keys = c.args.keys.now in
    let other = get_or keys c.loop-other.other-index plain_key in
    let p = number_pattern f c.args.key in
    let first = (λ i. affixes (c.texts.ensures.prefix i) (c.texts.ensures.suffix i)) ∙ c.pattern_texts-texts.ensures in
    let texts = c.texts-in-loop-other.ensures in
    let second = (λ i. affixes (texts.prefix i) (texts.suffix i)) ∙ c.pattern_texts-others.ensures in
    let test = told_by s c.are_told_apart.result _ _ _ _ p (number_pattern f other) first second
    c.pattern_name.ensures c.pattern_name-in-loop-other.ensures c.are_told_apart.ensures in
    all_more (λ k. AreToldApart s p (number_pattern f k)) keys c.loop-other.other-index other plain_key (omega arith)
    refl (test.0 c.if-not-are_told_apart.false) c.loop-other.invariant

pub returns : goal.returns
returns c =
    let f = c.args.self.now in
    all_done (λ k. AreToldApart f.style.symbols (number_pattern f c.args.key) (number_pattern f k)) c.args.keys.now
    c.loop-other.other-index (omega arith) c.loop-other.invariant
