-- One call more.
use Rattle.std.proofs.{Common.{◌≡◌, ℕ, suc, ◌+◌, ◌<◌, List, [], ◌∷◌, ◌++◌, length, get_or, take, drop, refl, sym, ◌∙◌, ap, arith, Result, Ok, Err}, Math.Seq.drop-cons, lemmas.{List.{take_more, length-take-le}, Option.slice_get-get_or}}
use Rattle.fixed_decimal.specs.{Calls.{CallsFail, CallFails, call_number}, Decimal.Decimal, DecimalText.{read_decimal, and_then}, Errors.{IsReached, run_error, RunFails}, Outcome.{OutcomeError, step, after_calls}, declared.runs.Call.Call, declared.runs.CallError.CallError, declared.runs.CallError.TheVariants.{Operand, Overlap, Limit, Memory}}
use Rattle.decimal_unsigned.specs.declared.error.ParseError.TheVariants as parse

and_then-Ok : (r : Result Decimal OutcomeError) → and_then r (λ w. Ok w) ≡ r
and_then-Ok r = grind arith

-- the result of calls followed by one more
after_calls-snoc : (at : ℕ) (v : Decimal) (xs : List Call) (x : Call)
    → after_calls at v (xs ++ x ∷ []) ≡ and_then (after_calls at v xs) (λ w. step (at + length xs) w x)
after_calls-snoc at v [] x = and_then-Ok (step at v x) ∙ ap (λ k. step k v x) (let e : at ≡ at + 0 = omega arith in e)
after_calls-snoc at v (y ∷ ys) x = elim (step at v y) as
    (λ r. and_then r (λ w. after_calls (at + 1) w (ys ++ x ∷ []))
    ≡ and_then (and_then r (λ w. after_calls (at + 1) w ys)) (λ w. step (at + suc (length ys)) w x)) [
      | Ok w ↦
          after_calls-snoc (at + 1) w ys x
          ∙ ap (λ k. and_then (after_calls (at + 1) w ys) (λ u. step k u x))
          (let e : at + 1 + length ys ≡ at + suc (length ys) = omega arith in e)
      | Err e ↦ refl
    ]

-- the first `at` calls result in v, and the remaining calls on v have the result of all calls on the first value
pub record IsAt (first : Decimal) (calls : List Call) (at : ℕ) (v : Decimal) : Type 0 where
  pub before : after_calls 0 first (take at calls) ≡ Ok v
  pub rest : after_calls at v (drop at calls) ≡ after_calls 0 first calls

module _ {first v : Decimal} {calls : List Call} {at : ℕ} (i : IsAt first calls at v) (d : Call)
    (h : at < length calls) where
  next : after_calls at v (drop at calls)
      ≡ and_then (step at v (get_or calls at d)) (λ w. after_calls (at + 1) w (drop (at + 1) calls))
  next =
      let e : suc at ≡ at + 1 = omega arith in
      ap (after_calls at v) (drop-cons calls at d h ∙ ap (λ k. get_or calls at d ∷ drop k calls) e)

  before_next : (w : Decimal) → step at v (get_or calls at d) ≡ Ok w → after_calls 0 first (take (at + 1) calls) ≡ Ok w
  before_next w s =
      let l : 0 + length (take at calls) ≡ at = omega (arith, length-take-le at calls (omega arith)) in
      ap (after_calls 0 first) (take_more calls at d h)
      ∙ after_calls-snoc 0 first (take at calls) (get_or calls at d)
      ∙ (rw (i.before, l) s)

  rest_next : (w : Decimal) → step at v (get_or calls at d) ≡ Ok w
      → after_calls (at + 1) w (drop (at + 1) calls) ≡ after_calls 0 first calls
  rest_next w s = ap (λ r. and_then r (λ u. after_calls (at + 1) u (drop (at + 1) calls))) (sym s) ∙ sym next ∙ i.rest

  -- if this call results in w, one call more results in w
  pub continues : (w : Decimal) → step at v (get_or calls at d) ≡ Ok w → IsAt first calls (at + 1) w
  continues w s = record { before = before_next w s; rest = rest_next w s }

  stops : (k : ℕ) (e : OutcomeError) → k ≡ at → step k v (get_or calls at d) ≡ Err e → after_calls 0 first calls ≡ Err e
  stops k e same s = grind (arith, next)

  next_call : (k : ℕ) → k ≡ at → IsReached first calls k v (get_or calls at d)
  next_call k same = rw same (record { before = i.before; next_call = slice_get-get_or calls at d h })

  -- an error of this call is one of the calls
  pub fails_with : (held : ℕ) (e : CallError) → CallFails held e at v (get_or calls at d) → CallsFail held e first calls
  fails_with held (Operand k parse.Limit) r = stops k _ r.0 r.1
  fails_with held (Operand k parse.Syntax) r = stops k _ r.0 r.1
  fails_with held (Operand k parse.Memory) r = (v, get_or calls at d, next_call k r.0, r.1)
  fails_with held (Overlap k) r = stops k _ r.0 r.1
  fails_with held (Limit k) r = stops k _ r.0 r.1
  fails_with held (Memory k) r = (v, get_or calls at d, next_call k r.0, r.1)

  -- after an error of this call, the calls before the one that it reports result in v
  pub stops_at : (held : ℕ) (e : CallError) (new : Decimal) → CallFails held e at v (get_or calls at d) → new ≡ v
      → after_calls 0 first (take (call_number e) calls) ≡ Ok new
  stops_at held e new r same = ap (λ k. after_calls 0 first (take k calls)) r.0 ∙ i.before ∙ ap Ok (sym same)

-- the first error of the calls of a run is that of the run
pub run_fails : (held : ℕ) (e : CallError) (bytes : List ℕ) (first : Decimal) (calls : List Call)
    → read_decimal bytes ≡ Ok first → CallsFail held e first calls → RunFails held (run_error e) bytes calls
run_fails held e bytes first calls is r = grind arith
