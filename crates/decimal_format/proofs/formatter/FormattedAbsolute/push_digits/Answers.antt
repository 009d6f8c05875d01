use Rattle.std.proofs.Common.{◌≡◌, ◌<◌, ◌++◌, length, sym, ◌∙◌, ap, subst, arith, append_assoc, append-nil, length-append}
use Rattle.fixed_decimal.proofs.Calling.{narrow_kept}
use Rattle.decimal_format.specs.Formatted.{formatted_down, shown_count}
use Rattle.decimal_format.proofs.lemmas.formatter.{Magnitudes.{digit_below, first_magnitudes, one_more}, ShortTexts.{separates_if, pushed, length-magnitude}}
use Rattle.decimal_format.proofs.formatter.FormattedAbsolute.push_digits.Goals as goal

pub loop-below-init : goal.loop-below-init
unfolding formatted_down
loop-below-init g c =
    record { text = ap (λ l. (l, c.args.block.now.1)) (sym (append-nil c.args.block.now.0)); room = omega arith }

pub loop-below-preserved : goal.loop-below-preserved
loop-below-preserved g c =
    record {
      text = grind (arith, narrow_kept, separates_if, first_magnitudes, pushed, append_assoc, one_more);
      room =
          grind (arith, narrow_kept, separates_if, first_magnitudes, length-append, length-magnitude, pushed, one_more);
    }

pub push_if-requires : goal.push_if-requires
push_if-requires g c =
    let is = c.as_bytes-decimal.ensures.value ∙ c.decimal_separator.ensures.value
    ∙ ap (λ f. f.symbols.decimal) c.self.view_is in
    omega (arith, ap length is, c.requires.short.decimal, c.shown_count-below-end.ensures.value)

pub push_digit-requires-clause-digit : goal.push_digit-requires-clause-digit
push_digit-requires-clause-digit g c =
    let is = c.leading_bcd-digits.ensures c.loop-below.below (omega (arith, c.shown_count-below-end.ensures.value)) in
    subst (λ d. d < 10) (sym is) (digit_below _ _)

pub returns : goal.returns
returns g c =
    let f = c.args.self.now in
    let all : c.loop-below.below ≡ shown_count f.value = omega (arith, c.shown_count-below-end.ensures.value) in
    c.loop-below.invariant.text
    ∙ ap (λ n. (c.args.block.now.0 ++ first_magnitudes f.symbols f.strategy f.value n, c.args.block.now.1)) all
