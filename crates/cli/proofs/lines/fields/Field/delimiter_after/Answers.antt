use Rattle.std.proofs.Common.{◌≡◌, ◌+◌, false, nat_eq, drop, ap, sym, ◌∙◌, rules, arith}
use Rattle.std.specs.List.{starts_with}
use Rattle.cli.specs.Fields.{within}
use Rattle.cli.proofs.{lemmas.lines.Separators.{all_after, searched_later, not_here, no_delimiter}, lines.fields.Field.delimiter_after.Goals.{else-outside-via-then-outside+then-line-index+else-starts_with, else-outside-via-then-outside+else-line-index, else-outside-via-else-outside}}
use Rattle.cli.proofs.lines.fields.Field.delimiter_after.Goals as goal

pub returns-in_err-first : goal.returns-in_err-first
returns-in_err-first c = search (rules, arith, no_delimiter c.args.self.now c.args.line.now c.args.start)

pub loop-index-preserved : goal.loop-index-preserved
loop-index-preserved c =
    searched_later c.args.self.now c.args.line.now c.loop-index.invariant c.loop-index-test.true
    (c.is_outside_after-outside.ensures (within c.args.line.now (c.args.start, c.loop-index.index)))
    (not_here c.args.self.now c.args.line.now c.loop-index.invariant c.loop-index-test.true c.in_ok-first.first.now
    c.in_ok-first.rest.now c.in_ok-first.ensures.cases.0
    (elim c.else-outside.branch [
      | else-outside-via-then-outside+then-line-index+else-starts_with w ↦
          let rest = c.in_ok-first.rest.now in
          let all = ap (λ left. starts_with nat_eq left rest) (all_after (c.loop-index.index + 1) c.args.line.now) in
          let none : starts_with nat_eq (drop (c.loop-index.index + 1) c.args.line.now) c.in_ok-first.rest.now ≡ false =
          sym all ∙ sym w.starts_with.ensures.value ∙ w.if-starts_with.false in
          search (rules, none)
      | else-outside-via-then-outside+else-line-index w ↦ search rules
      | else-outside-via-else-outside w ↦ search rules
    ]))
