use Rattle.std.proofs.{Common.{◌≡◌, ℕ, suc, ◌<◌, List, take, drop, length, get_or, [], ◌∷◌, ◌++◌, Ok, Err, refl, sym, ◌∙◌, ap, subst, arith, append_assoc, append-nil}, KnownBytes.{Appends-trans, Appends-kept, Appends-nil}, Math.Seq.split_at, lemmas.List.take_more}
use Rattle.std.specs.{Prelude.{Option, Result, IsOkAnd, IsErrAnd, IfErr}, Borrow.Bor, Io.KnownBytes.{Keeps, Appends}}
use Rattle.decimal_digits.specs.AppendsPrefix.{AppendsPrefix}
use Rattle.decimal_unsigned.specs.Reading.{ReadError}
use Rattle.fixed_decimal.proofs.Calling.{prefix_more, then_prefix}
use Rattle.uses.specs.{Column.{normal_form, column_text, AmountFails, Stops}, declared.column.ColumnError.{ColumnError, TheVariants.{Amount, Sink}}}
use Rattle.uses.proofs.column.write_column.Goals as goal

-- the text of the amounts and one more
one_more : (amounts : List (Bor (List ℕ))) (amount : Bor (List ℕ)) (form lines : List ℕ)
    → normal_form amount.now ≡ Ok form → column_text amounts ≡ Ok lines
    → column_text (amounts ++ amount ∷ []) ≡ Ok (lines ++ (form ++ 10 ∷ []))
one_more [] amount form lines e h =
    let none : [] ≡ lines = cc in
    rw e (ap Ok (append-nil (form ++ 10 ∷ []) ∙ ap (λ l. l ++ (form ++ 10 ∷ [])) none))
one_more (first ∷ rest) amount form lines e h = grind (arith, one_more rest amount form, append_assoc)

-- the text of a result that is Ok
text_of : (r : Result (List ℕ) ReadError) (P : List ℕ → Type 0) → IsOkAnd r P → (t : List ℕ) × (r ≡ Ok t) × P t
text_of (Ok t) P p = (t, refl, p)
text_of (Err e) P p = absurd p

-- the lines that were written, and one more amount and a line feed
wrote_one_more : (amounts : List (Bor (List ℕ))) (amount : Bor (List ℕ)) (a b c d : Option (List ℕ))
    → IsOkAnd (column_text amounts) (Appends a b) → IsOkAnd (normal_form amount.now) (Appends b c)
    → Appends c d (10 ∷ [])
    → IsOkAnd (column_text (amounts ++ amount ∷ [])) (Appends a d)
wrote_one_more amounts amount a b c d p q r =
    let lines = text_of (column_text amounts) (Appends a b) p in
    let form = text_of (normal_form amount.now) (Appends b c) q in
    rw (one_more amounts amount form.0 lines.0 form.1 lines.1)
    (Appends-trans a b d lines.0 (form.0 ++ 10 ∷ []) lines.2 (Appends-trans b c d form.0 (10 ∷ []) form.2 r))

-- a prefix of the line of one more amount was written
begun : (amounts : List (Bor (List ℕ))) (amount : Bor (List ℕ)) (a b c : Option (List ℕ))
    → IsOkAnd (column_text amounts) (Appends a b)
    → IsOkAnd (normal_form amount.now) (λ form. AppendsPrefix b c (form ++ 10 ∷ []))
    → IsOkAnd (column_text (amounts ++ amount ∷ [])) (AppendsPrefix a c)
begun amounts amount a b c p q =
    let lines = text_of (column_text amounts) (Appends a b) p in
    let form = text_of (normal_form amount.now) (λ form. AppendsPrefix b c (form ++ 10 ∷ [])) q in
    rw (one_more amounts amount form.0 lines.0 form.1 lines.1)
    (then_prefix a b c lines.0 (form.0 ++ 10 ∷ []) lines.2 form.2)

-- a prefix of the form of an amount is one of its line
form_begun : (r : Result (List ℕ) ReadError) (b c : Option (List ℕ)) → IsOkAnd r (AppendsPrefix b c)
    → IsOkAnd r (λ form. AppendsPrefix b c (form ++ 10 ∷ []))
form_begun (Ok form) b c p = prefix_more b c form (10 ∷ []) p
form_begun (Err fault) b c p = absurd p

-- the form of an amount was written, and a prefix of the line feed
feed_begun : (r : Result (List ℕ) ReadError) (b c d : Option (List ℕ)) → IsOkAnd r (Appends b c)
    → AppendsPrefix c d (10 ∷ []) → IsOkAnd r (λ form. AppendsPrefix b d (form ++ 10 ∷ []))
feed_begun (Ok form) b c d p q = then_prefix b c d form (10 ∷ []) p q
feed_begun (Err fault) b c d p q = absurd p

-- nothing is a prefix of a line feed
no_feed : (b c : Option (List ℕ)) → Keeps b c → AppendsPrefix b c (10 ∷ [])
no_feed b c k = ([], 10 ∷ [], refl, Appends-kept b b c [] (Appends-nil b) k)

-- what is true of an error is true of a result with that error
err_with : {A E : Type 0} (Q : E → Type 0) (r : Result A E) (e : E) → IsErrAnd r (λ x. x ≡ e) → Q e → IfErr r Q
err_with Q (Ok x) e h q = absurd h
err_with Q (Err x) e h q = subst Q (sym h) q

module _
    (amounts : List (Bor (List ℕ))) (i : ℕ) (none : Bor (List ℕ)) (less : i < length amounts)
    (a b c : Option (List ℕ)) (written : IsOkAnd (column_text (take i amounts)) (Appends a b))
  where
    -- the sink failed in the line of this amount
    within : IsOkAnd (normal_form (get_or amounts i none).now) (λ form. AppendsPrefix b c (form ++ 10 ∷ []))
        → Stops amounts a c Sink
    within part =
        let amount = get_or amounts i none in (
          take i amounts ++ amount ∷ [],
          drop (suc i) amounts,
          split_at amounts i none less ∙ sym (append_assoc (take i amounts) (amount ∷ []) (drop (suc i) amounts)),
          begun (take i amounts) amount a b c written part,
        )

    -- this amount was not written
    stops_here : (e : ColumnError) → AmountFails e (get_or amounts i none).now → ((e ≡ Sink → ⊥) → c ≡ b)
        → (e ≡ Sink → IsOkAnd (normal_form (get_or amounts i none).now) (AppendsPrefix b c)) → Stops amounts a c e
    stops_here (Amount fault) fails_with same part = (
      take i amounts,
      get_or amounts i none,
      drop (suc i) amounts,
      split_at amounts i none less,
      fails_with,
      subst (λ c. IsOkAnd (column_text (take i amounts)) (Appends a c)) (sym (same (λ is. cc))) written,
    )
    stops_here Sink fails_with same part =
        within (form_begun (normal_form (get_or amounts i none).now) b c (part refl))

pub loop-amount-preserved : goal.loop-amount-preserved
loop-amount-preserved g c =
    let amounts = c.args.amounts.now in
    let none : Bor (List ℕ) = record { ref_ptr = (0, 0); now = [] } in
    rw (take_more amounts c.loop-amount.amount-index none c.loop-amount-test.true)
    (wrote_one_more (take c.loop-amount.amount-index amounts) (get_or amounts c.loop-amount.amount-index none) _ _ _ _
    c.loop-amount.invariant c.in_ok-write_normal_form.ensures.written c.in-Ok.ensures.appends)

pub returns-in_err-write_normal_form-clause-stops : goal.returns-in_err-write_normal_form-clause-stops
returns-in_err-write_normal_form-clause-stops g c =
    let none : Bor (List ℕ) = record { ref_ptr = (0, 0); now = [] } in
    let e = c.in_err-write_normal_form.field-0.0 in
    let h = c.in_err-write_normal_form.ensures in
    err_with _ c.from_residual.result e c.from_residual.ensures.1
    (stops_here c.args.amounts.now c.loop-amount.amount-index none c.loop-amount-test.true _ _ _ c.loop-amount.invariant
    e h.fails_with (λ other. ap g.W.Sink.contents (h.unchanged_on_error other)) (λ is. h.prefix (ap Err is)))

pub returns-in_default-clause-stops : goal.returns-in_default-clause-stops
returns-in_default-clause-stops g c =
    let none : Bor (List ℕ) = record { ref_ptr = (0, 0); now = [] } in
    let before = g.W.Sink.contents c.write_normal_form.new.sink in
    let after = g.W.Sink.contents c.put_byte.new.self in
    within c.args.amounts.now c.loop-amount.amount-index none c.loop-amount-test.true _ _ after c.loop-amount.invariant
    (feed_begun _ _ before after c.in_ok-write_normal_form.ensures.written
    (no_feed before after c.in_default.ensures.keeps))
