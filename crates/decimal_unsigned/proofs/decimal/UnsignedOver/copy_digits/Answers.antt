use Rattle.std.proofs.{Common.{◌≡◌, ◌+◌, ◌-◌, length, take, drop, w16, of_z, to_z, ◌∙◌, ap, arith, min, ◌-ℤ◌, pos}, lemmas.{Int.{ints, to_z-of_z}, List.{length-take-le, length-drop}}}
use Rattle.std.specs.Int.{int_gap}
use Rattle.decimal_digits.specs.Number.{offset, digit}
use Rattle.decimal_unsigned.proofs.lemmas.{decimal.Values.{magnitude_kept, value_of_view}, text.Pieces.{index_gap, block_digit}}
use Rattle.decimal_unsigned.specs.Unsigned.{Unsigned}
use Rattle.decimal_unsigned.proofs.decimal.UnsignedOver.copy_digits.Goals as goal

pub returns-clause-value : goal.returns-clause-value
returns-clause-value g c i h =
    let t = c.self.invariant in
    let q = c.args.magnitude in
    let m = c.self.inside.magnitude in
    let q_kept : to_z w16 (of_z w16 q) ≡ q = to_z-of_z w16 q c.ranges.magnitude in
    let m_kept : to_z w16 (of_z w16 m) ≡ m = magnitude_kept t in
    let below : c.unwrap_or.result ≡ int_gap q m =
    c.unwrap_or.ensures
    ∙ index_gap c.index_of.result (to_z w16 (of_z w16 m)) (to_z w16 (of_z w16 q)) c.index_of.ensures.some
    c.index_of.ensures.none
    ∙ (λ k. int_gap (q_kept k) (m_kept k)) in
    let above : c.unwrap_or-2.result ≡ int_gap m q =
    c.unwrap_or-2.ensures
    ∙ index_gap c.index_of-2.result (to_z w16 (of_z w16 q)) (to_z w16 (of_z w16 m)) c.index_of-2.ensures.some
    c.index_of-2.ensures.none
    ∙ (λ k. int_gap (m_kept k) (q_kept k)) in
    let zeros = c.args.buffer.now in
    let n = length c.args.buffer.now in
    let from = c.min-from.result in
    let start = c.min-start.result in
    let count = c.min-count.result in
    let from_is : from ≡ min (int_gap q m) (length (g.D.DigitStore.digits c.self.inside.digits)) =
    omega (arith, c.min-from.ensures, c.len-digits.ensures, below) in
    let start_is : start ≡ min (int_gap m q) n = omega (arith, c.min-start.ensures, above) in
    let count_is : count ≡ min (length (g.D.DigitStore.digits c.self.inside.digits) - from) (n - start) =
    omega (arith, c.min-count.ensures, c.len-digits.ensures) in
    let part : length (take (start + count - start) (drop start zeros)) ≡ count =
    omega (
      arith,
      length-take-le (start + count - start) (drop start zeros) (omega (arith, length-drop start zeros)),
      start_is,
      count_is,
    ) in
    block_digit t q (omega (arith, ints)) n from start count (omega (arith, c.requires.in_limits, ap offset q_kept))
    from_is start_is count_is zeros c.copy_text.new.buffer (start + count - start) _ c.requires.zeros (omega arith)
    part c.copy_text.ensures i h
    ∙ ap (λ (v : Unsigned). 48 + digit v.number (q -ℤ pos i)) c.self.view_is

pub returns-clause-valid : goal.returns-clause-valid
returns-clause-valid g c = value_of_view c.self.invariant c.self.view_is
