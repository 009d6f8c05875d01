use Rattle.std.proofs.{Common.{◌≡◌, ◌∙◌, [], false, true, ap, sym, subst, rules, w16, FitsSigned, pos, ◌-ℤ◌}, lemmas.{Int.to_z-of_z, Result.{on_ok_weaker, on_err_weaker}}}
use Rattle.std.specs.Prelude.{if◌then◌else◌}
use Rattle.decimal_digits.specs.Number.{digit}
use Rattle.decimal_format.specs.Symbols.{digit_text}
use Rattle.number_format.specs.TextParts.{Puts, PutsPrefix, digit_kind, is_shown, pieces_of}
use Rattle.number_format.proofs.lemmas.format.PieceTexts.{puts_nil}
use Rattle.number_format.proofs.format.parts.put_digit.Goals as goal

pub returns-then-not-is_shown-clause-ok : goal.returns-then-not-is_shown-clause-ok
returns-then-not-is_shown-clause-ok g c =
    let f = c.args.digits.now in
    let m = f.value.hi -ℤ pos c.args.below in
    let fits : FitsSigned w16 c.magnitude-magnitude.result = search rules in
    let shown =
    simp to_z-of_z at c.is_shown.ensures ∙ ap (is_shown c.args.is_hidden) c.magnitude-magnitude.ensures.value in
    let none : is_shown c.args.is_hidden m ≡ false = sym shown ∙ c.if-not-is_shown.true in
    subst (λ b. Puts (g.P.PartSink.pieces c.args.sink.now) (g.P.PartSink.pieces c.args.sink.now)
    (pieces_of (digit_kind c.args.whole m) (if b then digit_text f.symbols (digit f.value.number m) else [])))
    (sym none) (puts_nil (g.P.PartSink.pieces c.args.sink.now))

pub returns-clause-ok : goal.returns-clause-ok
returns-clause-ok g c =
    let f = c.args.digits.now in
    let m = f.value.hi -ℤ pos c.args.below in
    let fits : FitsSigned w16 c.magnitude-magnitude.result = search rules in
    let shown =
    simp to_z-of_z at c.is_shown.ensures ∙ ap (is_shown c.args.is_hidden) c.magnitude-magnitude.ensures.value in
    let kind =
    simp to_z-of_z at c.digit_kind.ensures ∙ ap (digit_kind c.args.whole) c.magnitude-magnitude.ensures.value in
    let some : is_shown c.args.is_hidden m ≡ true = sym shown ∙ c.if-not-is_shown.false in
    let text = c.encode_utf8-digit.ensures.value ∙ c.digit.ensures
    ∙ ap (λ b. if b then digit_text f.symbols (digit f.value.number m) else []) (sym some) in
    on_ok_weaker c.put.result
    (subst (Puts (g.P.PartSink.pieces c.args.sink.now) (g.P.PartSink.pieces c.put.new.sink))
    (λ i. pieces_of (kind i) (text i))) c.put.ensures.ok

pub returns-clause-err : goal.returns-clause-err
returns-clause-err g c =
    let f = c.args.digits.now in
    let m = f.value.hi -ℤ pos c.args.below in
    let fits : FitsSigned w16 c.magnitude-magnitude.result = search rules in
    let shown =
    simp to_z-of_z at c.is_shown.ensures ∙ ap (is_shown c.args.is_hidden) c.magnitude-magnitude.ensures.value in
    let kind =
    simp to_z-of_z at c.digit_kind.ensures ∙ ap (digit_kind c.args.whole) c.magnitude-magnitude.ensures.value in
    let some : is_shown c.args.is_hidden m ≡ true = sym shown ∙ c.if-not-is_shown.false in
    let text = c.encode_utf8-digit.ensures.value ∙ c.digit.ensures
    ∙ ap (λ b. if b then digit_text f.symbols (digit f.value.number m) else []) (sym some) in
    on_err_weaker c.put.result
    (subst (PutsPrefix (g.P.PartSink.pieces c.args.sink.now) (g.P.PartSink.pieces c.put.new.sink))
    (λ i. pieces_of (kind i) (text i))) c.put.ensures.err
