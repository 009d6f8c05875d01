use Rattle.std.proofs.{Common.{◌≡◌, ◌∙◌, Bool, sym, rules, tests}, lemmas.{Iterator.{YieldsList-from_slice, Search.all_from_yields_List}, List.Folds.list_all-map}}
use Rattle.std.specs.List.{list_all}
use Rattle.locale_data.specs.{declared.tables.{plurals.TheConstants.PLURAL_RULE_ROWS, rows.plurals.RuleRow.RuleRow}, PluralRows.rule_of, Plurals.asks_for, Rows.part}
use Rattle.locale_data.proofs.plural_rows.all_rules_ask_for.Goals as goal

pub returns : goal.returns
returns c =
    let rows = c.part.result.now in
    let test : RuleRow → Bool = λ row. asks_for c.args.category c.args.number (rule_of row) in
    let all : c.all.result ≡ list_all test rows =
    all_from_yields_List test _ _ c.all.result c.all.ensures.ran (YieldsList-from_slice rows cc)
    (λ x b q k. search (rules, tests)) in
    (rw c.part.ensures at all)
    ∙ sym (list_all-map (asks_for c.args.category c.args.number) rule_of (part PLURAL_RULE_ROWS c.args.rules))
