use Rattle.std.proofs.{Common.{◌≡◌, ◌<◌, length, get_or, Some, ◌∙◌, ap, arith}, lemmas.{Grind.common_steps, Int.{ints, clamps}, Bool.Decides.nat_tests}}
use Rattle.plural_rules.specs.RulesReader.{seen_after, next}
use Rattle.plural_rules.proofs.lemmas.parse.{ViablePrefixes.{stopped_text, unended_text}, ParserInvariants.{checked_first, checked_more, checked_whole, built_whole, small}}
use Rattle.plural_rules.proofs.parse.read.Goals as goal

pub loop-at-init : goal.loop-at-init
loop-at-init c = rw c.none-seen.ensures (checked_first c.args.text.now c.new-builder.result c.new-builder.ensures)

pub returns-in_default : goal.returns-in_default
returns-in_default c = grind (arith, stopped_text)

pub take_if-is_built-requires : goal.take_if-is_built-requires
take_if-is_built-requires c = rw c.after-numbers.ensures (small c.in-Some.event c.loop-at.invariant)

pub loop-at-preserved : goal.loop-at-preserved
loop-at-preserved c =
    let less : c.loop-at.at < length c.args.text.now = grind arith in
    let to : next c.loop-at.seen c.loop-at.state (get_or c.args.text.now c.loop-at.at 0)
    ≡ Some (c.in-Some.next, c.in-Some.event) = grind arith in
    rw c.after-seen.ensures (rw c.after-numbers.ensures
    (checked_more c.in-Some.next c.in-Some.event less c.loop-at.invariant to c.take_if-is_built.ensures))

pub returns-in_default-at_end : goal.returns-in_default-at_end
returns-in_default-at_end c = grind (arith, ints, clamps, nat_tests, common_steps, unended_text)

pub returns-in-TooLarge : goal.returns-in-TooLarge
returns-in-TooLarge c =
    rw c.in-TooLarge.is at
    (checked_whole c.in-Some-at_end.event c.loop-at-test.false c.loop-at.invariant.parsed (cc))

pub take_if-requires : goal.take_if-requires
take_if-requires c = grind arith

pub returns-then-not-take_if : goal.returns-then-not-take_if
returns-then-not-take_if c =
    rw c.in_default-numbers.is at
    (checked_whole c.in-Some-at_end.event c.loop-at-test.false c.loop-at.invariant.parsed (cc))

pub returns : goal.returns
returns c =
    let took = c.take_if.ensures c.if-not-take_if.false in
    built_whole c.in-Some-at_end.event c.loop-at-test.false c.loop-at.invariant (cc) took.0
    (c.into_rules.ensures (seen_after c.in-Some-at_end.event c.loop-at.seen)
    ∙ ap (λ q. q.rules) (took.1 c.loop-at.seen))
