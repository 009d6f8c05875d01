use Rattle.std.proofs.{Common.{arith, ◌≤◌, slice_index}, lemmas.Bool.Decides.nat_tests}
use Rattle.number_format.proofs.lemmas.read.{CompactOrder.{ordered_by, row_least, row_next, IsRowOrdered}, CompactPatterns.all_of}
use Rattle.number_format.proofs.read.compact.are_ordered.Goals as goal

pub returns-then-rows-index : goal.returns-then-rows-index
returns-then-rows-index c =
    let t = c.args.exponents.now in
    let i = c.loop-index.index in (
      λ x. absurd (cc),
      λ ordered. absurd (let least = row_least t ordered i (omega arith) in omega (arith, least)),
    )

pub returns-then-rows-index-2 : goal.returns-then-rows-index-2
returns-then-rows-index-2 c =
    let t = c.args.exponents.now in
    let i = c.loop-index.index in (
      λ x. absurd (cc),
      λ ordered. absurd (let next = row_next t ordered i (omega arith) in omega (arith, next)),
    )

pub returns : goal.returns
returns c =
    let t = c.args.exponents.now in
    let all = all_of (IsRowOrdered t) c.loop-index.index 16 (omega arith) c.loop-index.invariant in (
      λ x. let last : slice_index t.rows 16 ≤ 19 = grind (arith, nat_tests, x) in ordered_by t all last,
      λ ordered.
          let last : slice_index t.rows 16 ≤ 19 = row_least t ordered 16 (omega arith) in
          grind (arith, nat_tests, last),
    )
