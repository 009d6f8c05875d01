use Rattle.std.proofs.{Common.{◌≡◌, ◌+◌, ◌≤◌, ◌++◌, ◌∙◌, length, refl, arith, length-append}, lemmas.{Iterator.{YieldsList-from_chars, Consumers.{YieldsList-turn, YieldsList-end}}, List.length_push, Bool.false≢true}}
use Rattle.std.specs.Str.{chars}
use Rattle.conversions.specs.ShownWord.{shown_bytes}
use Rattle.conversions.proofs.lemmas.calls.ShownWords.{shown_whole, shown_cut, shown_more}
use Rattle.conversions.proofs.shown_word.ShownWord.of.Goals as goal

pub returns-in-Err : goal.returns-in-Err
returns-in-Err c =
    let text = c.loop-character.text in
    let t = YieldsList-turn (YieldsList-from_chars c.args.word.now c.utf8.word cc) c.loop-character.yielded _
    c.loop-character.yielded_by _ _ c.in-Some.character c.in-Some.is c.next.ensures.steps in
    let same : c.try_push.new.self ≡ text = rw c.in-Err.is at c.try_push.ensures.err in
    let over : length text.bytes + length (shown_bytes c.in-Some.character) ≤ 40 → ⊥ =
    λ fits. false≢true (rw (c.in-Err.is, c.shown_character.ensures) at c.try_push.ensures.variant.1 fits) in
    rw same (shown_cut (chars c.args.word.now) text.bytes (length c.loop-character.yielded) c.in-Some.character t _
    c.loop-character.invariant.room over c.loop-character.invariant.all)

pub loop-character-preserved : goal.loop-character-preserved
loop-character-preserved c =
    let text = c.loop-character.text in
    let t = YieldsList-turn (YieldsList-from_chars c.args.word.now c.utf8.word cc) c.loop-character.yielded _
    c.loop-character.yielded_by _ _ c.in-Some.character c.in-Some.is c.next.ensures.steps in
    let bytes = shown_bytes c.in-Some.character in
    let fits : length text.bytes + length bytes ≤ 40 =
    rw (c.in_default.is, c.shown_character.ensures) at c.try_push.ensures.variant.0 refl in
    let appended : c.try_push.new.self.bytes ≡ text.bytes ++ bytes =
    rw (c.in_default.is, c.shown_character.ensures) at c.try_push.ensures.ok in
    let count = length_push c.loop-character.yielded c.in-Some.character in
    record {
      room = rw (appended, length-append) fits;
      all = rw (appended, count)
          (shown_more (chars c.args.word.now) text.bytes (length c.loop-character.yielded) c.in-Some.character t fits
          ∙ c.loop-character.invariant.all);
    }

pub returns : goal.returns
returns c =
    let t = YieldsList-end (YieldsList-from_chars c.args.word.now c.utf8.word cc) c.loop-character.yielded _
    c.loop-character.yielded_by _ _ c.in-None.is c.next.ensures.steps in
    shown_whole (chars c.args.word.now) c.loop-character.text.bytes (length c.loop-character.yielded) _
    (omega (arith, t.1)) c.loop-character.invariant.all
