-- Words and the calls that they name, one by one.
use Rattle.std.proofs.{Common.{◌≡◌, ℕ, ◌+◌, ◌<◌, ◌≤◌, List, [], ◌∷◌, ◌++◌, length, take, drop, get_or, String, string_bytes, Some, None, Result, Ok, Err, refl, sym, ap, ◌∙◌, append_assoc, add-one}, Math.Seq.take-suc, lemmas.List.{append-nil, drop_more, drop_all}}
use Rattle.std.specs.declared.alloc.Global.{Global}
use Rattle.fixed_decimal.specs.{DecimalText.and_then, declared.runs.Call.Call}
use Rattle.conversions.specs.Calls.{call_of}
use Rattle.cli.specs.Calls.{calls_from, calls_of}

-- calls, and those that the words after them name
abbrev pub onto : List Call → Result (List Call) (ℕ × List ℕ) → Result (List Call) (ℕ × List ℕ)
onto calls others = and_then others (λ more. Ok (calls ++ more))

onto_next :
    (calls : List Call) (call : Call) (others : Result (List Call) (ℕ × List ℕ))
    → onto calls (and_then others (λ more. Ok (call ∷ more))) ≡ onto (calls ++ (call ∷ [])) others
onto_next calls call (Ok more) = ap Ok (sym (append_assoc calls (call ∷ []) more))
onto_next calls call (Err wrong) = refl

-- words, of which the first ones name these calls
module _ (words : List (String Global)) (index : ℕ) (calls : List Call) where
  -- the calls of the first words, and those of the others
  abbrev pub Begin : Type 0
  Begin = calls_of words ≡ onto calls (calls_from index (drop index words))

  pub calls_all : Begin → length words ≤ index → calls_of words ≡ Ok calls
  calls_all begin all = begin ∙ rw (drop_all index words all) (ap Ok (append-nil calls))

  module _
      (word : String Global) (inside : index < length words) (is : word ≡ get_or words index word) (begin : Begin)
    where
      left : drop index words ≡ word ∷ drop (index + 1) words
      left = drop_more words index word inside ∙ ap (λ first. first ∷ drop (index + 1) words) (sym is)

      -- the next one names this call
      pub calls_next :
          (call : Call) → Some call ≡ call_of (string_bytes word)
          → calls_of words ≡ onto (calls ++ (call ∷ [])) (calls_from (index + 1) (drop (index + 1) words))
      calls_next call named =
          begin ∙ rw (left, ← named) (onto_next calls call (calls_from (index + 1) (drop (index + 1) words)))

      -- it names none
      pub calls_end : None ≡ call_of (string_bytes word) → calls_of words ≡ Err (index, string_bytes word)
      calls_end unknown = begin ∙ rw (left, ← unknown) refl

-- the first words, and the next one appended
pub taken :
    {X : Type 0} (ws : List X) (i : ℕ) (w : X) → i < length ws → w ≡ get_or ws i w
    → take (i + 1) ws ≡ take i ws ++ (w ∷ [])
taken ws i w l e = rw add-one (take-suc ws i w l ∙ ap (λ x. take i ws ++ (x ∷ [])) (sym e))
