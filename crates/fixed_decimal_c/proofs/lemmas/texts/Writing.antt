-- What is in a buffer after a text was written to it.
use Rattle.std.proofs.{Common.{◌≡◌, ℕ, ◌+◌, ◌<◌, ◌≤◌, ◌⊎◌, true, List, [], ◌∷◌, ◌++◌, length, take, drop, set, get_or, Some, Result, Ok, Err, inl, inr, sym, ap, subst, ◌∙◌, arith, append_assoc, length-append}, Math.Seq.set-append_seam, lemmas.{Bool.ltb-true, List.{length-take, drop-append-le, drop_more, take_all, take-append-drop, append-nil, nil_from_length}}}
use Rattle.std.specs.{Prelude.{nat_lt, OnOk, OnErr}, Io.KnownBytes.Appends}
use Rattle.decimal_digits.specs.{AppendsPrefix.AppendsPrefix, declared.sink.SinkFault.SinkFault}
use Rattle.fixed_decimal_c.specs.{declared.error.FdError.FdError, Texts.{IsWritten, Writes, WritesTo}}

-- ---- What a function returns.

module _ (Is : List ℕ → Type 0) (Fails : FdError → Type 0) (old new : List ℕ) where
  pub writes_ok : (count : ℕ) → WritesTo Is Fails (Ok count) old new
      → (text : List ℕ) × Is text × IsWritten text count old new
  writes_ok count (inl h) = h
  writes_ok count (inr (error, is, fails, same)) = absurd (cc)

  pub writes_err : (error : FdError) → WritesTo Is Fails (Err error) old new
      → ((text : List ℕ) × Is text × Writes (Err error) text old new) ⊎ (Fails error × (new ≡ old))
  writes_err error (inl h) = inl h
  writes_err error (inr (e, is, fails, same)) =
      let this : e ≡ error = cc in
      inr (subst Fails this fails, same)

pub writes_weaker :
    (Is Other : List ℕ → Type 0) (Fails OtherFails : FdError → Type 0) (answer : Result ℕ FdError) (old new : List ℕ)
    → ((text : List ℕ) → Is text → Other text) → ((error : FdError) → Fails error → OtherFails error)
    → WritesTo Is Fails answer old new → WritesTo Other OtherFails answer old new
writes_weaker Is Other Fails OtherFails answer old new f g (inl (text, is, h)) = inl (text, f text is, h)
writes_weaker Is Other Fails OtherFails answer old new f g (inr (error, is, fails, same)) =
    inr (error, is, g error fails, same)

-- ---- A sink over a slice, whose contents are which slice it is, its length, and the bytes that were put.

-- the text fills the slice, also where the sink fails
pub filled :
    (r : Result Unit SinkFault) (name later count len : ℕ) (bytes text put : List ℕ) → put ≡ [] → count ≡ length text
    → OnOk r (Appends (Some (name ∷ count ∷ put)) (Some (later ∷ length bytes ∷ take len bytes)) text)
    → OnErr r (AppendsPrefix (Some (name ∷ count ∷ put)) (Some (later ∷ length bytes ∷ take len bytes)) text)
    → OnErr r (nat_lt (length bytes) len ≡ true)
    → (later ≡ name) × (bytes ≡ text)
filled (Ok _) name later count len bytes text put empty fits is _ _ =
    let taken : take len bytes ≡ text = ap (drop 2) is ∙ ap (λ l. l ++ text) empty in
    let counted : length bytes ≡ count = ap (λ l. get_or l 1 0) is in
    let long : length bytes ≤ len = omega (arith, length-take len bytes, ap length taken, counted, fits) in
    (ap (λ l. get_or l 0 0) is, sym (take_all len bytes long) ∙ taken)
filled (Err _) name later count len bytes text put empty fits _ (part, rest, all, is) full =
    let taken : take len bytes ≡ part = ap (drop 2) is ∙ ap (λ l. l ++ part) empty in
    let counted : length bytes ≡ count = ap (λ l. get_or l 1 0) is in
    let over : length bytes < len = ltb-true (length bytes) len full in
    let whole : bytes ≡ part = sym (take_all len bytes (omega (arith, over))) ∙ taken in
    let none : rest ≡ [] =
    nil_from_length rest (omega (arith, ap length all, length-append part rest, ap length whole, counted, fits)) in
    (ap (λ l. get_or l 0 0) is, whole ∙ sym (append-nil part) ∙ ap (λ l. part ++ l) (sym none) ∙ all)

-- ---- A text and what follows it.

-- what is written in the first r bytes of a buffer is written in the buffer
pub written_in_part : (text old new : List ℕ) (count r : ℕ) → IsWritten text count (take r old) new
    → IsWritten text count old (new ++ drop r old)
written_in_part text old new count r (is, fits, after) =
    let rest : drop (length text) (take r old) ++ drop r old ≡ drop (length text) old =
    sym (drop-append-le (length text) (take r old) (drop r old) fits)
    ∙ ap (drop (length text)) (take-append-drop r old) in (
      is,
      omega (arith, fits, length-take r old),
      ap (λ l. l ++ drop r old) after ∙ append_assoc text (drop (length text) (take r old)) (drop r old)
          ∙ ap (λ l. text ++ l) rest,
    )

-- a line feed after a text
pub line_ended : (text old new : List ℕ) (count : ℕ) → IsWritten text count old new → count < length old
    → IsWritten (text ++ (10 ∷ [])) (count + 1) old (set new count 10)
line_ended text old new count (is, fits, after) inside =
    let rest = drop (length text + 1) old in
    let first : drop (length text) old ≡ get_or old (length text) 0 ∷ rest =
    drop_more old (length text) 0 (omega (arith, inside, is)) in
    let ended : set new count 10 ≡ text ++ 10 ∷ rest =
    ap (λ l. set l count 10) (after ∙ ap (λ l. text ++ l) first)
    ∙ ap (λ n. set (text ++ get_or old (length text) 0 ∷ rest) n 10) is
    ∙ set-append_seam text (get_or old (length text) 0) rest 10 in
    let long = length-append text (10 ∷ []) in (
      omega (arith, is, long),
      omega (arith, is, inside, long),
      ended ∙ sym (append_assoc text (10 ∷ []) rest)
          ∙ ap (λ n. (text ++ (10 ∷ [])) ++ drop n old) (sym long),
    )
