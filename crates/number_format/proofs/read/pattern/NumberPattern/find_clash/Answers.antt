use Rattle.std.proofs.Common.{arith}
use Rattle.std.specs.{Prelude.{◌↔◌, IsTrue}, List.Contains}
use Rattle.number_format.specs.AffixedTexts.{AreToldApart}
use Rattle.number_format.proofs.lemmas.read.PatternLists.{all_done, all_more, clash_by, listed_at}
use Rattle.number_format.proofs.read.pattern.NumberPattern.find_clash.Goals as goal

pub returns-then-not-are_told_apart : goal.returns-then-not-are_told_apart
returns-then-not-are_told_apart c =
    let p = c.args.self.now in
    let s = c.args.symbols.now in
    let all = c.args.others.now in
    let item = c.other-item.result in
    let name = c.name.ensures in
    let other = c.name-in-loop-other.ensures in
    let texts = c.texts-texts.ensures in
    let others = c.texts.ensures in
    let test : IsTrue c.are_told_apart.result ↔ AreToldApart s p item =
    rw (texts.prefix, texts.suffix, others.prefix, others.suffix, name, other) at c.are_told_apart.ensures in
    clash_by s (Contains all) c.are_told_apart.result _ _ p item
    (listed_at all c.loop-other.other-index item item (omega arith) c.other-item.is) name other test
    c.if-not-are_told_apart.true

pub loop-other-preserved : goal.loop-other-preserved
loop-other-preserved c =
    let p = c.args.self.now in
    let s = c.args.symbols.now in
    let item = c.other-item.result in
    let texts = c.texts-texts.ensures in
    let others = c.texts.ensures in
    let test : IsTrue c.are_told_apart.result ↔ AreToldApart s p item =
    rw (texts.prefix, texts.suffix, others.prefix, others.suffix, c.name.ensures, c.name-in-loop-other.ensures)
    at c.are_told_apart.ensures in
    all_more (AreToldApart s p) c.args.others.now c.loop-other.other-index item item (omega arith) c.other-item.is
    (test.0 c.if-not-are_told_apart.false) c.loop-other.invariant

pub returns : goal.returns
returns c =
    all_done (AreToldApart c.args.symbols.now c.args.self.now) c.args.others.now c.loop-other.other-index (omega arith)
    c.loop-other.invariant
