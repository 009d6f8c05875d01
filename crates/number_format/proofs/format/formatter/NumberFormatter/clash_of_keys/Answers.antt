use Rattle.std.proofs.Common.{arith, get_or, refl}
use Rattle.std.specs.Prelude.{All, Option, None}
use Rattle.fixed_decimal.specs.declared.variations.Sign.{Sign}
use Rattle.plural_rules.specs.declared.rules.PluralCategory.{PluralCategory}
use Rattle.number_format.specs.{AffixedTexts.AreToldApart, NumberReading.number_pattern}
use Rattle.number_format.proofs.lemmas.read.PatternLists.{all_done, all_more, in_map, listed_at, named_by_keys}
use Rattle.number_format.proofs.format.formatter.NumberFormatter.clash_of_keys.Goals as goal

abbrev plain_key : Option PluralCategory × Sign
plain_key = (None, Sign.None)

pub returns-in-Some : goal.returns-in-Some
returns-in-Some c =
    let f = c.args.self.now in
    let keys = c.args.keys.now in
    let key = get_or keys c.loop-key.key-index plain_key in (
      number_pattern f key,
      in_map (number_pattern f) keys key (listed_at keys c.loop-key.key-index key plain_key (omega arith) refl),
      c.in-Some.ensures,
    )

pub loop-key-preserved : goal.loop-key-preserved
loop-key-preserved c =
    let f = c.args.self.now in
    let s = f.style.symbols in
    let keys = c.args.keys.now in
    let key = get_or keys c.loop-key.key-index plain_key in
    all_more (λ k. All (λ m. AreToldApart s (number_pattern f k) (number_pattern f m)) keys) keys c.loop-key.key-index
    key plain_key (omega arith) refl c.in_default.ensures c.loop-key.invariant

pub returns : goal.returns
returns c =
    let f = c.args.self.now in
    let s = f.style.symbols in
    let keys = c.args.keys.now in
    named_by_keys s (number_pattern f) keys
    (all_done (λ k. All (λ m. AreToldApart s (number_pattern f k) (number_pattern f m)) keys) keys
    c.loop-key.key-index (omega arith) c.loop-key.invariant)
