use Rattle.std.proofs.Common.{◌≡◌, ◌∙◌, Bool, true, false, refl, sym, ap, arith}
use Rattle.std.specs.Prelude.{not}
use Rattle.locale_data.specs.Compact.{compact_patterns, pattern_for}
use Rattle.number_format.specs.{declared.read.compact.keys.CompactKey.CompactKey, CompactReading.{is_of_one, is_of_other, is_single}}
use Rattle.number_format.proofs.lemmas.read.CompactKeys.{repeats_one, repeats_other, repeats_whole}
use Rattle.number_format.proofs.format.formatter.NumberFormatter.repeats_in_row.Goals as goal

is_not : (b : Bool) → not b ≡ true → b ≡ false
is_not true e = absurd (cc)
is_not false e = refl

pub returns-then-not-has_categories : goal.returns-then-not-has_categories
returns-then-not-has_categories c = λ t.
    repeats_whole c.args.self.now c.args.style c.args.index (omega arith)
    (sym c.has_categories.ensures ∙ c.if-not-has_categories.true)

pub returns-then-is_of_other : goal.returns-then-is_of_other
returns-then-is_of_other c = λ t.
    let f = c.args.self.now in
    let style = c.args.style in
    let pattern = c.word-pattern.ensures.value
    ∙ ap (λ (k : CompactKey). pattern_for k.category (is_single k) (compact_patterns f.formats style k.magnitude))
    c.key_at-key.ensures in
    repeats_other f style c.args.index (omega arith)
    (ap is_of_other (sym pattern) ∙ sym c.is_of_other.ensures ∙ c.if-is_of_other.true)

pub returns-then-index-ge18-2 : goal.returns-then-index-ge18-2
returns-then-index-ge18-2 c = λ t.
    let f = c.args.self.now in
    let style = c.args.style in
    let pattern = c.word-pattern.ensures.value
    ∙ ap (λ (k : CompactKey). pattern_for k.category (is_single k) (compact_patterns f.formats style k.magnitude))
    c.key_at-key.ensures in
    repeats_one f style c.args.index (omega arith)
    (ap is_of_one (sym pattern) ∙ sym c.is_of_one.ensures ∙ is_not c.is_of_one.result t)
