use Rattle.std.proofs.Common.{◌≡◌, None, rules, arith, sym, ◌∙◌}
use Rattle.cli.specs.Fields.{delimiter_after}
use Rattle.cli.proofs.lemmas.lines.Separators.{delimiter_inside, listed_more, listed_all}
use Rattle.cli.proofs.lines.fields.Field.all_bounds.Goals as goal

pub overflow_add-start : goal.overflow_add-start
overflow_add-start c =
    let inside =
    delimiter_inside c.args.self.now c.args.line.now c.loop-end.start c.in-Some.end
    (sym c.delimiter_after.ensures ∙ c.in-Some.is) in
    search (rules, arith, inside.2)

pub loop-end-smaller : goal.loop-end-smaller
loop-end-smaller c =
    let inside =
    delimiter_inside c.args.self.now c.args.line.now c.loop-end.start c.in-Some.end
    (sym c.delimiter_after.ensures ∙ c.in-Some.is) in
    omega (arith, inside.0, inside.1, inside.2)

pub loop-end-preserved : goal.loop-end-preserved
loop-end-preserved c =
    let is = sym c.delimiter_after.ensures ∙ c.in-Some.is in
    record {
      listed =
          rw c.in_ok-push.ensures.items
          (listed_more c.args.self.now c.args.line.now c.loop-end.start c.loop-end.all.items
          c.loop-end.invariant.listed c.in-Some.end is);
      inside = (delimiter_inside c.args.self.now c.args.line.now c.loop-end.start c.in-Some.end is).2;
    }

pub returns : goal.returns
returns c =
    let none : delimiter_after c.args.self.now c.args.line.now c.loop-end.start ≡ None = search rules in
    rw c.in_ok-push-2.ensures.items
    (listed_all c.args.self.now c.args.line.now c.loop-end.start c.loop-end.all.items c.loop-end.invariant.listed none)
