use Rattle.std.proofs.Common.{◌≡◌}
use Rattle.uses.specs.Bill.{parts_of}
use Rattle.uses.proofs.bill.split_bill.Given as goal

abbrev pub invariant-loop-part : goal.invariant-loop-part
invariant-loop-part l = l.parts.items ≡ parts_of l.total l.count l.part
