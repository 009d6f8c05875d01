use Rattle.std.proofs.Common.{sym, subst}
use Rattle.number_format.proofs.lemmas.read.ScientificScans.{HasScanned, shorter, scanned-more, is_scan}
use Rattle.number_format.proofs.read.scientific.scan.scan_number.Goals as goal

pub loop-next-smaller : goal.loop-next-smaller
loop-next-smaller c =
    shorter c.args.symbols.now c.requires c.in-Some.next.0 c.loop-next.rest.now c.in-Some.next.1.now
    c.in-Some.ensures.0 c.in-Some.ensures.1

pub loop-next-preserved : goal.loop-next-preserved
loop-next-preserved c =
    subst (HasScanned c.args.symbols.now c.args.text.now c.in-Some.next.1.now) (sym c.with_code-scan.ensures)
    (scanned-more c.args.symbols.now c.args.text.now c.loop-next.rest.now c.in-Some.next.1.now c.loop-next.scan
    c.in-Some.next.0 c.in-Some.ensures.0 c.in-Some.ensures.1 c.loop-next.invariant)

pub returns : goal.returns
returns c =
    is_scan c.args.symbols.now c.requires c.args.text.now c.loop-next.rest.now c.loop-next.scan c.loop-next.invariant
    c.in_default.ensures
