use Rattle.std.proofs.{Common.{◌∙◌, ap, arith}, lemmas.Result.on_ok_weaker}
use Rattle.plural_rules.specs.RulesReader.{end_relation, end_alternative, end_rule}
use Rattle.plural_rules.proofs.parse.builder.Builder.take.Goals as goal

pub overflow_mul-self : goal.overflow_mul-self
overflow_mul-self c = grind arith

pub overflow_add-self : goal.overflow_add-self
overflow_add-self c = grind arith

pub returns-in-Operand : goal.returns-in-Operand
returns-in-Operand c = rw c.in-Operand.is c.begin_relation.ensures

pub returns-in-Equal : goal.returns-in-Equal
returns-in-Equal c = rw c.in-Equal.is c.begin_ranges.ensures

pub returns-in-Comma : goal.returns-in-Comma
returns-in-Comma c = rw c.in-Comma.is c.end_range.ensures

pub returns-in_ok-end_range-in-And : goal.returns-in_ok-end_range-in-And
returns-in_ok-end_range-in-And c =
    rw c.in-And.is (on_ok_weaker c.end_relation.result
    (λ ends seen. ends seen ∙ ap end_relation (c.in_ok-end_range-in-And.ensures seen)) c.end_relation.ensures)

pub returns-in_ok-end_relation-in-Or : goal.returns-in_ok-end_relation-in-Or
returns-in_ok-end_relation-in-Or c =
    rw c.in-Or.is (on_ok_weaker c.end_alternative.result
    (λ ends seen. ends seen ∙ ap end_alternative (c.in_ok-end_relation-in-Or.ensures seen
    ∙ ap end_relation (c.in_ok-end_range-in-Or.ensures seen))) c.end_alternative.ensures)

pub returns-in_ok-end_alternative-in-End : goal.returns-in_ok-end_alternative-in-End
returns-in_ok-end_alternative-in-End c =
    rw c.in-End.is (on_ok_weaker c.end_rule.result
    (λ ends seen. ends seen ∙ ap end_rule (c.in_ok-end_alternative-in-End.ensures seen
    ∙ ap end_alternative (c.in_ok-end_relation-in-End.ensures seen
    ∙ ap end_relation (c.in_ok-end_range-in-End.ensures seen)))) c.end_rule.ensures)

pub returns-in-EndOther : goal.returns-in-EndOther
returns-in-EndOther c = rw c.in-EndOther.is c.end_rule-in-EndOther.ensures
