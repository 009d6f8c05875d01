-- The plural rules that rows of tables make. Only private contracts cite this file.
use Rattle.std.specs.Prelude.{List, map}
use Rattle.plural_rules.specs.Rules.{RelationValue, relation, modulus_of, RuleValue, rule}
use Rattle.locale_data.specs.{declared.tables.{rows.{plurals.{RelationRow.RelationRow, RuleRow.RuleRow}, TableRange.TableRange}, plurals.TheConstants.{PLURAL_ALTERNATIVES, PLURAL_RANGES, PLURAL_RELATIONS, PLURAL_RULE_ROWS}}, Rows.part}

abbrev pub relation_of : RelationRow → RelationValue
relation_of row = relation row.operand (modulus_of row.modulus) row.is_equal (part PLURAL_RANGES row.ranges)

-- the relations of an alternative
abbrev pub relations_in : TableRange → List RelationValue
relations_in range = map relation_of (part PLURAL_RELATIONS range)

abbrev pub rule_of : RuleRow → RuleValue
rule_of row = rule row.category (map relations_in (part PLURAL_ALTERNATIVES row.alternatives))

abbrev pub rules_in : TableRange → List RuleValue
rules_in range = map rule_of (part PLURAL_RULE_ROWS range)
