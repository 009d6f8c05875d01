use Rattle.std.proofs.{Common.{◌≡◌, ◌∙◌, ℕ, ◌-◌, List, [], length, take, drop, min, Bool, true, false, if◌then◌else◌, refl, sym, ap, subst}, Math.Seq.take-length, lemmas.{List.{length-drop, take_min, drop_min}, Str.{IsUtf8-from_is_utf8, is_utf8-from_IsUtf8}}}
use Rattle.std.specs.Str.{IsUtf8, is_utf8}
use Rattle.conversions.specs.{FormatWord.stem_bytes, ShownWord.shown}
use Rattle.conversions.proofs.format_word.shown_stem.Goals as goal

-- a part of a text between bounds that are within it
part_is :
    (text bytes : List ℕ) (start end first count second : ℕ) → bytes ≡ text → first ≡ min start (length bytes)
    → count ≡ end - start → second ≡ min count (length (take (length bytes - first) (drop first bytes)))
    → take second (take (length bytes - first) (drop first bytes)) ≡ take (end - start) (drop start text)
part_is text bytes start end first count second same f n s =
    let rest : take (length bytes - first) (drop first bytes) ≡ drop start text =
    rw (← length-drop first bytes) (take-length (drop first bytes))
    ∙ ap (λ (k : ℕ). drop k bytes) f ∙ drop_min start bytes ∙ ap (drop start) same in
    let least : second ≡ min (end - start) (length (drop start text)) =
    s ∙ ap (λ (xs : List ℕ). min count (length xs)) rest ∙ ap (λ (k : ℕ). min k (length (drop start text))) n in
    ap (take second) rest ∙ ap (λ (k : ℕ). take k (drop start text)) least
    ∙ take_min (end - start) (drop start text)

-- bytes that are a text, and bytes that are none
text_is : (bytes : List ℕ) → IsUtf8 bytes → (if is_utf8 bytes then bytes else []) ≡ bytes
text_is bytes utf8 = rw (is_utf8-from_IsUtf8 bytes utf8) refl

nothing_is :
    (bytes : List ℕ) (b : Bool) → is_utf8 bytes ≡ b → ¬ IsUtf8 bytes → (if b then bytes else []) ≡ []
nothing_is bytes true is other = absurd (other (IsUtf8-from_is_utf8 bytes is))
nothing_is bytes false is other = refl

pub returns-in-Ok : goal.returns-in-Ok
returns-in-Ok c =
    let skeleton = c.args.skeleton.now in
    let is =
    part_is skeleton c.as_bytes-bytes.result.now c.args.start c.args.end c.min.result c.saturating_sub.result
    c.min-2.result c.as_bytes-bytes.ensures.value c.min.ensures c.saturating_sub.ensures c.min-2.ensures in
    let utf8 = subst IsUtf8 is c.in-Ok.ensures.cases.1 in
    let stem : c.in-Ok.stem.now ≡ stem_bytes skeleton c.args.start c.args.end =
    c.in-Ok.ensures.cases.0 ∙ is ∙ sym (text_is (take (c.args.end - c.args.start) (drop c.args.start skeleton)) utf8) in
    c.of.ensures ∙ ap shown stem

pub returns-in-Err : goal.returns-in-Err
returns-in-Err c =
    let skeleton = c.args.skeleton.now in
    let bytes = take (c.args.end - c.args.start) (drop c.args.start skeleton) in
    let is =
    part_is skeleton c.as_bytes-bytes.result.now c.args.start c.args.end c.min.result c.saturating_sub.result
    c.min-2.result c.as_bytes-bytes.ensures.value c.min.ensures c.saturating_sub.ensures c.min-2.ensures in
    let other : ¬ IsUtf8 bytes = λ utf8. c.in-Err.ensures.cases.0 (subst IsUtf8 (sym is) utf8) in
    let none : [] ≡ stem_bytes skeleton c.args.start c.args.end = sym (nothing_is bytes (is_utf8 bytes) refl other) in
    c.of-in-Err.ensures ∙ ap shown none
