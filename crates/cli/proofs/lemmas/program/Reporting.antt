-- Reports to a writer that has failed.
use Rattle.std.proofs.{Common.{◌≡◌, ℕ, List, [], Option, Some, None, Bool, true, false, Result, Ok, Err, refl, sym, ◌∙◌, take, drop, take-append-drop}, lemmas.{Bool.false≢true, List.append-nil}, KnownBytes.Appends-nil}
use Rattle.std.specs.{Prelude.{is_err, OnOk, IfErr}, Io.KnownBytes.{Keeps, Appends}}
use Rattle.cli.specs.Diagnostics.{IsErrorLine, Reports}

keeps_itself : (known : Option (List ℕ)) → Keeps known known
keeps_itself None = tt
keeps_itself (Some bytes) = refl

-- the writer is not called
pub reports_none :
    (output known : Option (List ℕ)) (line : List ℕ) (failed : Bool) → failed ≡ true → IsErrorLine output line
    → Reports output known failed known failed
reports_none output known line failed is line_is = (
  line,
  line_is,
  ([], line, refl, Appends-nil known),
  (λ has_not_failed. absurd (false≢true (sym has_not_failed ∙ is))),
  λ _. (keeps_itself known, is),
)

-- a line was written whole, or, where a call of the writer failed, a prefix of it
pub reports_written :
    {U : Type 0} (output old new : Option (List ℕ)) (line : List ℕ) (r : Result U ℕ) (had_failed failed : Bool)
    → had_failed ≡ false → failed ≡ is_err r → IsErrorLine output line → OnOk r (Appends old new line)
    → IfErr r (λ written. Appends old new (take written line)) → Reports output old had_failed new failed
reports_written output old new line (Ok x) had_failed failed had_not is line_is ok err = (
  line,
  line_is,
  (line, [], append-nil line, ok),
  (λ _. ok),
  λ had. absurd (false≢true (sym had_not ∙ had)),
)
reports_written output old new line (Err n) had_failed failed had_not is line_is ok err = (
  line,
  line_is,
  (take n line, drop n line, take-append-drop n line, err),
  (λ has_not. absurd (false≢true (sym has_not ∙ is))),
  λ had. absurd (false≢true (sym had_not ∙ had)),
)
