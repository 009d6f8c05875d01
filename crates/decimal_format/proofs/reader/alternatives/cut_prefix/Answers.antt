use Rattle.std.proofs.{Common.{◌≡◌, ◌≢◌, ℕ, List, [], ◌∷◌, ◌++◌, sym, ◌∙◌, ap, append_assoc}, lemmas.List.append_cancel_left}
use Rattle.decimal_format.proofs.reader.alternatives.cut_prefix.Goals as goal

module _ (text prefix done left rest after : List ℕ) (byte : ℕ) (spelled : prefix ≡ done ++ left)
    (read : text ≡ done ++ rest) (next : left ≡ byte ∷ after) where
  one_more : (rest' : List ℕ) → rest ≡ byte ∷ rest' → (done' : List ℕ) × (prefix ≡ done' ++ after)
      × (text ≡ done' ++ rest')
  one_more rest' e = (
    done ++ (byte ∷ []),
    spelled ∙ ap (λ l. done ++ l) next ∙ sym (append_assoc done (byte ∷ []) after),
    read ∙ ap (λ l. done ++ l) e ∙ sym (append_assoc done (byte ∷ []) rest'),
  )

  other_byte : ((r : List ℕ) → rest ≢ byte ∷ r) → (r : List ℕ) → text ≢ prefix ++ r
  other_byte fails r e =
      fails (after ++ r)
      (append_cancel_left done rest (byte ∷ (after ++ r))
      (sym read ∙ e ∙ ap (λ l. l ++ r) (spelled ∙ ap (λ l. done ++ l) next) ∙ append_assoc done (byte ∷ after) r))

pub returns-in_err-rest : goal.returns-in_err-rest
returns-in_err-rest g c =
    let i = c.loop-next.invariant in
    rw c.from_residual.ensures
    (other_byte _ _ i.0 _ _ (g.U.Input.bytes c.in-Some.next.1) c.in-Some.next.0 i.1 i.2 c.in-Some.ensures
    c.in_err-rest.ensures)

pub loop-next-preserved : goal.loop-next-preserved
loop-next-preserved g c =
    let i = c.loop-next.invariant in
    one_more _ _ i.0 _ _ (g.U.Input.bytes c.in-Some.next.1) c.in-Some.next.0 i.1 i.2 c.in-Some.ensures
    (g.T.Input.bytes c.in_ok-rest.rest) c.in_ok-rest.ensures
