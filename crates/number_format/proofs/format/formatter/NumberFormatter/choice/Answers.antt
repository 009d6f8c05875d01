use Rattle.std.proofs.{Common.{◌∙◌, refl, sym, ap, false, rules, w32, FitsSigned}, lemmas.Int.to_z-of_z}
use Rattle.fixed_decimal.proofs.Calling.{narrow_kept}
use Rattle.plural_rules.specs.Operands as operands
use Rattle.plural_rules.specs.declared.rules.PluralCategory.TheVariants.{Other}
use Rattle.locale_data.specs.Compact.{pattern_for, patterns_in, compact_patterns}
use Rattle.locale_data.proofs.lemmas.tables.{CompactRows.same_pattern, RulesTexts.category_exists}
use Rattle.number_format.specs.NumberText.{is_one}
use Rattle.number_format.proofs.lemmas.format.CompactChoices.{chooses}
use Rattle.number_format.proofs.format.formatter.NumberFormatter.choice.Goals as goal

-- each category chooses the pattern of the number's
pub returns-then-not-needs_category : goal.returns-then-not-needs_category
returns-then-not-needs_category c =
    let fits : FitsSigned w32 c.args.exponent = search rules in
    let f = c.args.self.now in
    let significand = c.args.significand.now in
    let own = category_exists f.rules (operands.plain significand.absolute) f.rules_listed in
    let magnitude = narrow_kept {z = c.compact_magnitude-magnitude.result} c.compact_magnitude-magnitude.type_inv
    ∙ simp to_z-of_z at c.compact_magnitude-magnitude.ensures in
    let patterns = c.compact_patterns-patterns.ensures ∙ ap (compact_patterns f.formats c.in-Some.style) magnitude in
    chooses f significand c.args.exponent _ _ (sym c.compact_style.ensures ∙ c.in-Some.is) own.0 own.1
    (same_pattern (patterns_in c.compact_patterns-patterns.result) Other own.0 false (is_one significand)
    (sym c.needs_category.ensures ∙ c.if-not-needs_category.true)
    ∙ ap (pattern_for own.0 (is_one significand)) patterns)

pub returns : goal.returns
returns c =
    let fits : FitsSigned w32 c.args.exponent = search rules in
    let f = c.args.self.now in
    let magnitude = narrow_kept {z = c.compact_magnitude-magnitude.result} c.compact_magnitude-magnitude.type_inv
    ∙ simp to_z-of_z at c.compact_magnitude-magnitude.ensures in
    let patterns = c.compact_patterns-patterns.ensures ∙ ap (compact_patterns f.formats c.in-Some.style) magnitude in
    chooses f c.args.significand.now c.args.exponent _ _ (sym c.compact_style.ensures ∙ c.in-Some.is)
    c.category-category.result (rw c.of_decimal.ensures at c.category-category.ensures)
    (λ i. pattern_for c.category-category.result (c.is_one.ensures i) (patterns i))

pub returns-in_default : goal.returns-in_default
returns-in_default c =
    let f = c.args.self.now in
    let significand = c.args.significand.now in
    let own = category_exists f.rules (operands.plain significand.absolute) f.rules_listed in
    chooses f significand c.args.exponent _ _ (sym c.compact_style.ensures ∙ c.in_default.is) own.0 own.1 refl
