use Rattle.std.proofs.Common.{◌≡◌, ℕ, ◌+◌, ◌-◌, ◌<◌, List, ◌∷◌, take, drop, ◌∙◌, arith}
use Rattle.decimal_format.specs.Lenient.{replaced}
use Rattle.decimal_format.proofs.lemmas.reader.NormalForms.{byte_read, character_read}
use Rattle.decimal_format.proofs.reader.lenient.NormalizedInput.split_first.Goals as goal

-- the first of a number of elements, and then one fewer
take_first : (n x : ℕ) (all after : List ℕ) → 0 < n → all ≡ x ∷ after → take n all ≡ x ∷ take (n - 1) after
take_first n x all after some e = grind arith

pub returns-then-read-bytes : goal.returns-then-read-bytes
returns-then-read-bytes c =
    let s = c.args.self.symbols.now in
    let text = c.loop-c.text.now in
    let bytes = c.replacement-bytes.ensures in
    let inside = rw bytes at c.if-read-bytes.true in
    rw bytes
    (take_first c.args.self.left _ _ (drop (c.loop-c.read + 1) (replaced s text))
    (omega (arith, c.if-self-eq0.false))
    (c.loop-c.invariant.1 ∙ byte_read s text c.in-Some.rest.now c.in-Some.c c.in-Some.ensures.0 c.loop-c.read inside))

pub loop-c-preserved : goal.loop-c-preserved
loop-c-preserved c = grind (arith, character_read)
