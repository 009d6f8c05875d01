use Rattle.std.proofs.{Common.{◌≡◌, ℕ, ◌+◌, ◌-◌, List, [], ◌++◌, length, drop, take, sym, ◌∙◌, ap, subst, arith, append-nil, length-append, length-drop, take-append-drop}, lemmas.List.{nil_from_length, take_all}, Math.Seq.drop-append_seam}
use Rattle.decimal_format.specs.{Symbols.{Symbols, HaveWidth, digit_text}, Readable.{BeginsWithDigit, EndsWithDigit}}
use Rattle.decimal_format.proofs.reader.codes.ends_with_digit.Goals as goal

module _ (s : Symbols) (width front : ℕ) (text : List ℕ) (one_width : HaveWidth s.digits width)
    (count : length text ≡ front + width) where
  ends_if : BeginsWithDigit s (drop front text) → EndsWithDigit s text
  ends_if begins =
      let size : length (digit_text s begins.digit) ≡ width = one_width begins.digit begins.is_digit in
      let none : begins.following ≡ [] =
      nil_from_length _
      (omega (
        arith,
        size,
        count,
        length-drop front text,
        ap length begins.is,
        length-append (digit_text s begins.digit) begins.following,
      )) in record {
        digit = begins.digit;
        before = take front text;
        is_digit = begins.is_digit;
        is =
            sym (take-append-drop front text)
            ∙ ap (λ t. take front text ++ t)
            (begins.is ∙ ap (λ t. digit_text s begins.digit ++ t) none ∙ append-nil (digit_text s begins.digit));
      }

  begins_if : EndsWithDigit s text → BeginsWithDigit s (drop front text)
  begins_if ends =
      let size : length (digit_text s ends.digit) ≡ width = one_width ends.digit ends.is_digit in
      let before : length ends.before ≡ front =
      omega (arith, size, count, ap length ends.is, length-append ends.before (digit_text s ends.digit)) in record {
        digit = ends.digit;
        following = [];
        is_digit = ends.is_digit;
        is =
            ap (drop front) ends.is ∙ ap (λ n. drop n (ends.before ++ digit_text s ends.digit)) (sym before)
            ∙ drop-append_seam ends.before (digit_text s ends.digit) ∙ sym (append-nil (digit_text s ends.digit));
      }

pub returns-in-Some : goal.returns-in-Some
returns-in-Some c =
    let s = c.args.symbols.now in
    let text = c.args.text.now in
    let front = c.in-Some.front in
    let count : length text ≡ front + c.digit_width.result = omega (arith, c.in-Some.ensures) in
    let rest : take (length text - front) (drop front text) ≡ drop front text =
    take_all (length text - front) (drop front text) (omega (arith, length-drop front text)) in (
      λ t. ends_if s c.digit_width.result front text c.digit_width.ensures.value count
          (subst (BeginsWithDigit s) rest (c.begins_with_digit.ensures.0 t)),
      λ ends. c.begins_with_digit.ensures.1
          (subst (BeginsWithDigit s) (sym rest)
          (begins_if s c.digit_width.result front text c.digit_width.ensures.value count ends)),
    )
