use Rattle.std.proofs.{Common.{◌≡◌, ◌+◌, ◌*◌, ◌%◌, ℕ, refl, arith}, lemmas.List.{append_assoc, replicate-append-replicate, take-replicate}}
use Rattle.decimal_digits.proofs.digits.packed.nibbles.push_zeros.Goals as goal

pub loop-preserved : goal.loop-preserved
loop-preserved c =
    let e = rw c.unwrap.ensures at c.extend_from_slice.ensures.ok in
    let z : 64 * c.loop.counter + 64 ≡ 64 * (c.loop.counter + 1) = omega arith in
    record {
      items = rw (e, c.loop.invariant.items, append_assoc, replicate-append-replicate (64 * c.loop.counter) 64, z) refl;
      capacity = omega (arith, c.extend_from_slice.ensures.capacity, c.loop.invariant.capacity);
    }

pub returns-clause-items : goal.returns-clause-items
returns-clause-items c =
    let n = c.args.count % 64 in
    let e = rw c.unwrap-2.ensures at c.extend_from_slice-2.ensures.ok in
    let z : 64 * c.loop.counter + n ≡ c.args.count = omega arith in
    let cut = take-replicate {X = ℕ} n 64 0 (omega arith) in
    rw (e, c.loop.invariant.items, cut, append_assoc, replicate-append-replicate, z) refl
