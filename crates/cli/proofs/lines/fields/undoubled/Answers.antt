use Rattle.std.proofs.{Common.{◌≡◌, ◌+◌, ◌<◌, ℕ, Bool, List, [], ◌∷◌, length, drop, get_or, add-one, arith}, lemmas.List.drop_all, Math.Seq.drop-cons}
use Rattle.cli.proofs.lemmas.lines.Quotes.{Undoubled, undoubled_open, undoubled_alone, undoubled_first, undoubled_more}
use Rattle.cli.proofs.lines.fields.undoubled.Goals as goal

-- the next byte, and those after it
next :
    (bytes text : List ℕ) (is_open : Bool) (i : ℕ) → i < length bytes → Undoubled bytes text is_open (drop i bytes)
    → Undoubled bytes text is_open (get_or bytes i 0 ∷ drop (i + 1) bytes)
next bytes text is_open i l h = rw add-one (rw (drop-cons bytes i 0 l) at h)

pub returns-then-is_open-clause-none : goal.returns-then-is_open-clause-none
returns-then-is_open-clause-none c = λ _.
    let h = next _ _ _ _ c.loop-byte-test.true c.loop-byte.invariant.undoubled in
    undoubled_alone _ (rw c.if-is_open.true at h) (rw c.if-is_open.true at c.if-is_quote-is_open.false)

pub returns-then-is_open-2-clause-none : goal.returns-then-is_open-2-clause-none
returns-then-is_open-2-clause-none c = λ _.
    let none : drop c.loop-byte.byte-index c.args.bytes.now ≡ [] = drop_all _ _ c.loop-byte-test.false in
    undoubled_open (rw (none, c.if-is_open-2.true) at c.loop-byte.invariant.undoubled)

pub loop-byte-preserved-then-is_quote-is_open : goal.loop-byte-preserved-then-is_quote-is_open
loop-byte-preserved-then-is_quote-is_open c =
    let h = next _ _ _ _ c.loop-byte-test.true c.loop-byte.invariant.undoubled in
    record {
      undoubled = rw c.push_reserved.ensures.items (undoubled_more _ _ h c.if-is_quote-is_open.true);
      count = omega (arith, c.push_reserved.ensures.len, c.loop-byte.invariant.count);
      room = omega (arith, c.push_reserved.ensures.capacity, c.loop-byte.invariant.room);
    }

pub loop-byte-preserved : goal.loop-byte-preserved
loop-byte-preserved c =
    let h = next _ _ _ _ c.loop-byte-test.true c.loop-byte.invariant.undoubled in
    record {
      undoubled = undoubled_first _ (rw c.if-is_open.false at h) (rw c.if-is_open.false at c.if-is_quote-is_open.false);
      count = omega arith;
      room = omega arith;
    }
