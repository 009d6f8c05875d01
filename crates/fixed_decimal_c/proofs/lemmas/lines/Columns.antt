-- The first line of some bytes, and one line more of a column.
use Rattle.std.proofs.{Common.{◌≡◌, ◌≢◌, ℕ, zero, suc, ◌+◌, ◌-◌, ◌<◌, ◌≤◌, Bool, true, false, List, [], ◌∷◌, ◌++◌, length, take, drop, slice_index, Some, None, ◌⊎◌, inl, inr, set, Result, Ok, Err, refl, sym, ap, ◌∙◌, arith, add-one, eq-eqb, ne_eqb, le_of_suc-le-suc, suc-le-suc, zero-lt-suc, eqb-true, append_assoc, length-append, subst}, Math.{Seq.{take-append_seam, drop-append_seam}, ListN.drop_of_length-le}, lemmas.{List.{flat_map_more, length-take, length-drop, drop-drop, take_all, append-nil, take-append-drop}, Bool.cond-false, Grind.common_steps}}
use Rattle.std.specs.{Prelude.{flat_map, count_by, is_err, IfOk, IfErr, OnOk, OnErr}, List.onto_first}
use Rattle.memchr.specs.Find.{IsFirstByte, is_byte}
use Rattle.fixed_decimal.specs.declared.runs.{Call.Call, RunError.RunError}
use Rattle.conversions.specs.Lines.{lines_of}
use Rattle.fixed_decimal_c.proofs.lemmas.texts.Writing.{writes_ok, writes_err, written_in_part, line_ended}
use Rattle.fixed_decimal_c.specs.{declared.{convert.Forms.Forms, error.FdError.{FdError, TheVariants.{BufferTooSmall, Memory}}, lines.LineOutput.LineOutput, answer.Progress.Progress}, Conversions.{IsConverted, Converts, ConversionFails}, Errors.{error_of_run, is_of_line}, Texts.{IsWritten, Writes}, Lines.{IsLineResult, AreLineResults, LineStops, output_of_line, IsLineWritten, AreConverted, ConvertsLines, none}}

-- ---- The first line.

line_at :
    (xs : List ℕ) (i : ℕ) → i < length xs → ((k : ℕ) → k < i → slice_index xs k ≢ 10) → slice_index xs i ≡ 10
    → lines_of xs ≡ take i xs ∷ lines_of (drop (suc i) xs)
line_at [] i inside before here = absurd (omega arith)
line_at (x ∷ xs) zero inside before here = grind (arith, common_steps, here)
line_at (x ∷ xs) (suc i) inside before here =
    let other = ne_eqb x 10 (before 0 (zero-lt-suc i)) in
    let rest = line_at xs i (le_of_suc-le-suc inside) (λ k l. before (suc k) (suc-le-suc l)) here in
    cond-false _ _ _ other ∙ ap (onto_first x) rest

last_line :
    (xs : List ℕ) → xs ≢ [] → ((k : ℕ) → k < length xs → slice_index xs k ≢ 10) → lines_of xs ≡ xs ∷ []
last_line [] some before = absurd (some refl)
last_line (x ∷ []) some before = cond-false _ _ _ (ne_eqb x 10 (before 0 (zero-lt-suc 0)))
last_line (x ∷ y ∷ ys) some before =
    let rest = last_line (y ∷ ys) (λ e. cc) (λ k l. before (suc k) (suc-le-suc l)) in
    cond-false _ _ _ (ne_eqb x 10 (before 0 (zero-lt-suc _))) ∙ ap (onto_first x) rest

pub line_found :
    (xs : List ℕ) (i : ℕ) → IsFirstByte (is_byte 10) xs (Some i)
    → lines_of xs ≡ take i xs ∷ lines_of (drop (i + 1) xs)
line_found xs i (first, here) =
    line_at xs i first.high (λ k l e. first.before k (omega arith) l (eq-eqb _ _ e)) (eqb-true _ _ here)
    ∙ ap (λ n. take i xs ∷ lines_of (drop n xs)) (sym (add-one i))

pub line_not_found :
    (xs : List ℕ) → 0 < length xs → IsFirstByte (is_byte 10) xs None
    → lines_of xs ≡ take (length xs) xs ∷ lines_of (drop (length xs) xs)
line_not_found xs some nowhere =
    let is = last_line xs (λ e. absurd (omega (arith, some, ap length e)))
    (λ k l e. nowhere k (omega arith) l (eq-eqb _ _ e)) in
    grind (arith, common_steps, is)

-- ---- A line that fails.

run_never_too_small : (e : RunError) (needed : ℕ) → BufferTooSmall needed ≡ error_of_run e → ⊥
run_never_too_small e needed is = grind arith

-- a conversion does not fail with the error of a text that is too long
never_too_small : (f : Forms) (calls : List Call) (text : List ℕ) (needed : ℕ)
    → ConversionFails f calls text (BufferTooSmall needed) → ⊥
never_too_small f calls text needed (inl (e, is, _)) = run_never_too_small e needed is
never_too_small f calls text needed (inr (_, _, fails)) = fails

-- the text of a line goes to the first r bytes of the buffer, which leaves one byte for the line feed
module _
    (f : Forms) (calls : List Call) (line old new : List ℕ) (r : ℕ) (error : FdError)
    (h : Converts f calls line (Err error) (take r old) new)
  where
    abbrev TooLong : FdError → Type 0
    TooLong e = (text : List ℕ) × IsConverted f calls line text × Writes (Err e) text (take r old) new

    abbrev Fails : FdError → Type 0
    Fails e = ConversionFails f calls line e × (new ≡ take r old)

    why : TooLong error ⊎ Fails error
    why = writes_err (IsConverted f calls line) (ConversionFails f calls line) (take r old) new error h

    stops_by : (skip : Bool) (e : FdError) → r ≡ length old - 1 → (skip ≡ false) ⊎ (is_of_line e ≡ false)
        → TooLong e ⊎ Fails e → LineStops f calls skip line old e
    stops_by skip (BufferTooSmall needed) all ends (inl (text, is, long)) =
        (Ok text, is, omega (arith, long.1, all, length-take r old, length-append text (10 ∷ [])))
    stops_by skip (BufferTooSmall needed) all ends (inr (fails, same)) =
        absurd (never_too_small f calls line needed fails)
    stops_by skip Memory all ends (inl (text, is, never)) = absurd never
    stops_by skip Memory all ends (inr (fails, same)) = fails
    stops_by skip e all ends (inl (text, is, never)) = absurd never
    stops_by skip e all (inl no_skip) (inr (fails, same)) = (no_skip, fails)
    stops_by skip e all (inr other) (inr (fails, same)) = absurd (cc)

    pub stops : (skip : Bool) → r ≡ length old - 1 → (skip ≡ false) ⊎ (is_of_line error ≡ false)
        → LineStops f calls skip line old error
    stops skip all ends = stops_by skip error all ends why

    fails_by : (e : FdError) → is_of_line e ≡ true → TooLong e ⊎ Fails e
        → ConversionFails f calls line e × (e ≢ Memory)
    fails_by (BufferTooSmall needed) is h = absurd (cc)
    fails_by Memory is h = absurd (cc)
    fails_by e is (inl (text, _, never)) = absurd never
    fails_by e is (inr (fails, same)) = (fails, (λ m. cc))

    -- a line that is skipped
    pub result_of_line : (skip : Bool) → skip ≡ true → is_of_line error ≡ true
        → IsLineResult f calls skip line (Err error)
    result_of_line skip skips is = let (fails, other) = fails_by error is why in (skips, other, fails)

    same_by : (e : FdError) → TooLong e ⊎ Fails e → new ≡ take r old
    same_by (BufferTooSmall needed) (inl (text, is, long)) = long.2
    same_by e (inl (text, is, never)) = absurd never
    same_by e (inr (fails, same)) = same

    -- nothing is written
    pub nothing_written : IsWritten [] 0 old (new ++ drop r old)
    nothing_written =
        (refl, omega arith, ap (λ l. l ++ drop r old) (same_by error why) ∙ take-append-drop r old)

-- ---- The end of a line.

-- the text of a line, or nothing, is at the start of the buffer, and the output of the line is that and a line feed
module _
    (f : Forms) (calls : List Call) (skip : Bool) (line part old buffer new : List ℕ) (count failed : ℕ)
    (result : Result (List ℕ) FdError) (is_result : IsLineResult f calls skip line result)
    (output : output_of_line result ≡ part ++ (10 ∷ [])) (written : IsWritten part count old buffer)
  where
    same_length : length buffer ≡ length old
    same_length =
        omega (
          arith,
          ap length written.2,
          length-append part (drop (length part) old),
          length-drop (length part) old,
          written.1,
        )

    pub ended :
        (r : Result LineOutput FdError) → failed ≡ count_by is_err (result ∷ [])
        → OnOk r ((count < length buffer) × (new ≡ set buffer count 10))
        → IfOk r (λ out. (out.count ≡ count + 1) × (out.failed ≡ failed))
        → IfOk r (λ out. IsLineWritten f calls skip line out.failed out.count old new)
    ended (Err e) fails inside counts = tt
    ended (Ok out) fails (inside, is) (counted, failing) = record {
      result = result;
      is_result = is_result;
      fails = failing ∙ fails;
      written = subst (λ l. IsWritten l out.count old new) (sym output)
          (subst (λ n. IsWritten (part ++ (10 ∷ [])) n old new) (sym counted)
          (subst (IsWritten (part ++ (10 ∷ [])) (count + 1) old) (sym is)
          (line_ended part old buffer count written (subst (λ n. count < n) same_length inside))));
    }

    -- the line feed does not fit
    pub not_ended : (r : Result LineOutput FdError) → IfErr r (λ e. e ≡ BufferTooSmall (count + 1))
        → OnErr r (length buffer ≤ count) → IfErr r (LineStops f calls skip line old)
    not_ended (Ok out) is full = tt
    not_ended (Err e) is full =
        subst (LineStops f calls skip line old) (sym is) (
          result,
          is_result,
          omega (arith, full, same_length, written.0, ap length output, length-append part (10 ∷ [])),
        )

-- the text of a line and a line feed
module _
    (f : Forms) (calls : List Call) (skip : Bool) (line old room new : List ℕ) (r count : ℕ)
    (h : Converts f calls line (Ok count) (take r old) room) (result : Result LineOutput FdError)
  where
    text_of : (text : List ℕ) × IsConverted f calls line text × IsWritten text count (take r old) room
    text_of = writes_ok (IsConverted f calls line) (ConversionFails f calls line) (take r old) room count h

    written : IsWritten text_of.0 count old (room ++ drop r old)
    written = written_in_part text_of.0 old room count r text_of.2

    pub text_ended :
        OnOk result ((count < length (room ++ drop r old)) × (new ≡ set (room ++ drop r old) count 10))
        → IfOk result (λ out. (out.count ≡ count + 1) × (out.failed ≡ 0))
        → IfOk result (λ out. IsLineWritten f calls skip line out.failed out.count old new)
    text_ended inside counts =
        ended f calls skip line text_of.0 old (room ++ drop r old) new count 0 (Ok text_of.0) text_of.1 refl written
        result refl inside counts

    pub text_not_ended :
        IfErr result (λ e. e ≡ BufferTooSmall (count + 1)) → OnErr result (length (room ++ drop r old) ≤ count)
        → IfErr result (LineStops f calls skip line old)
    text_not_ended is full =
        not_ended f calls skip line text_of.0 old (room ++ drop r old) new count 0 (Ok text_of.0) text_of.1 refl written
        result is full

-- ---- One line more.

pub results_more :
    (f : Forms) (calls : List Call) (skip : Bool) (lines : List (List ℕ)) (results : List (Result (List ℕ) FdError))
    (line : List ℕ) (result : Result (List ℕ) FdError) → AreLineResults f calls skip lines results
    → IsLineResult f calls skip line result
    → AreLineResults f calls skip (lines ++ (line ∷ [])) (results ++ (result ∷ []))
results_more f calls skip [] [] line result h is = (is, tt)
results_more f calls skip (x ∷ xs) (y ∷ ys) line result (first, rest) is =
    (first, results_more f calls skip xs ys line result rest is)
results_more f calls skip lines results line result never is = absurd never

-- the buffer after the output of one line more
written_more :
    (out more old buffer room : List ℕ) (n k : ℕ) → IsWritten out n old buffer → IsWritten more k (drop n buffer) room
    → IsWritten (out ++ more) (n + k) old (take n buffer ++ room)
written_more out more old buffer room n k (count, fits, is) (counted, fitted, given) =
    let rest = drop (length out) old in
    let front : take n buffer ≡ out =
    ap (λ m. take m buffer) count ∙ ap (take (length out)) is ∙ take-append_seam out rest in
    let back : drop n buffer ≡ rest =
    ap (λ m. drop m buffer) count ∙ ap (drop (length out)) is ∙ drop-append_seam out rest in
    let room_fits : length more ≤ length rest = subst (λ l. length more ≤ length l) back fitted in
    let both : drop (length more) rest ≡ drop (length (out ++ more)) old =
    drop-drop (length more) (length out) old ∙ ap (λ m. drop m old) (sym (length-append out more)) in (
      omega (arith, count, counted, length-append out more),
      omega (arith, fits, length-append out more, length-drop (length out) old, room_fits),
      ap (λ l. l ++ room) front
          ∙ ap (λ l. out ++ l) (given ∙ ap (λ l. more ++ drop (length more) l) back ∙ ap (λ l. more ++ l) both)
          ∙ sym (append_assoc out more (drop (length (out ++ more)) old)),
    )

count_more : (results : List (Result (List ℕ) FdError)) (result : Result (List ℕ) FdError)
    → count_by is_err results + count_by is_err (result ∷ []) ≡ count_by is_err (results ++ (result ∷ []))
count_more [] result = grind (arith, common_steps)
count_more (x ∷ xs) result = grind (arith, common_steps, count_more xs result)

-- the column after one line more, whose output is in the rest of the buffer
pub converted_more :
    (f : Forms) (calls : List Call) (skip : Bool) (input : List ℕ) (done : Progress) (old buffer : List ℕ)
    → AreConverted f calls skip input done old buffer
    → (line : List ℕ) (consumed failed count rest : ℕ) (room : List ℕ) → rest ≡ length buffer - done.written
    → lines_of (drop done.read input) ≡ line ∷ lines_of (drop consumed (drop done.read input))
    → consumed ≤ length (drop done.read input)
    → IsLineWritten f calls skip line failed count (take rest (drop done.written buffer)) room
    → AreConverted f calls skip input (record {
      lines = done.lines + 1;
      read = done.read + consumed;
      written = done.written + count;
      failed = done.failed + failed;
    }) old (take done.written buffer ++ (room ++ drop rest (drop done.written buffer)))
converted_more f calls skip input done old buffer h line consumed failed count rest room all next inside w =
    let after = drop done.written buffer in
    let short : length after ≤ rest = omega (arith, length-drop done.written buffer, all) in
    let one = subst (λ l. IsWritten (output_of_line w.result) count l room) (take_all rest after short) w.written in
    let out = flat_map output_of_line h.results in
    let end = output_of_line w.result in
    let more = written_more out end old buffer room done.written count h.written one in
    let no_more : room ≡ room ++ drop rest after =
    sym (ap (λ l. room ++ l) (drop_of_length-le after short) ∙ append-nil room) in
    record {
      lines = h.lines ++ (line ∷ []);
      results = h.results ++ (w.result ∷ []);
      are_results = results_more f calls skip h.lines h.results line w.result h.are_results w.is_result;
      read = h.read
          ∙ ap (λ l. h.lines ++ l) (next ∙ ap (λ l. line ∷ lines_of l) (drop-drop consumed done.read input))
          ∙ sym (append_assoc h.lines (line ∷ []) (lines_of (drop (done.read + consumed) input)));
      inside = omega (arith, h.inside, inside, length-drop done.read input);
      count = ap (λ n. n + 1) h.count ∙ sym (length-append h.lines (line ∷ []));
      failed = ap (λ n. n + failed) h.failed ∙ ap (λ n. count_by is_err h.results + n) w.fails
          ∙ count_more h.results w.result;
      written = subst
          (λ l. IsWritten l (done.written + count) old (take done.written buffer ++ (room ++ drop rest after)))
          (flat_map_more output_of_line [] h.results w.result)
          (subst (λ l. IsWritten (out ++ end) (done.written + count) old (take done.written buffer ++ l)) no_more more);
    }

-- the column before a line that ends it, and leaves the rest of the buffer as it was
pub stopped :
    (f : Forms) (calls : List Call) (skip : Bool) (input : List ℕ) (done : Progress) (old buffer : List ℕ)
    → AreConverted f calls skip input done old buffer
    → (line : List ℕ) (lines : List (List ℕ)) (rest : ℕ) (room : List ℕ) (error : FdError)
    → rest ≡ length buffer - done.written → room ≡ take rest (drop done.written buffer)
    → lines_of (drop done.read input) ≡ line ∷ lines
    → LineStops f calls skip line (take rest (drop done.written buffer)) error
    → ConvertsLines f calls skip input done (Err error) old
    (take done.written buffer ++ (room ++ drop rest (drop done.written buffer)))
stopped f calls skip input done old buffer h line lines rest room error all same next stops =
    let after = drop done.written buffer in
    let short : length after ≤ rest = omega (arith, length-drop done.written buffer, all) in
    let out = flat_map output_of_line h.results in
    let left : after ≡ drop done.written old =
    ap (λ n. drop n buffer) h.written.0
    ∙ ap (drop (length out)) h.written.2
    ∙ drop-append_seam out (drop (length out) old)
    ∙ ap (λ n. drop n old) (sym h.written.0) in
    let unchanged : take done.written buffer ++ (room ++ drop rest after) ≡ buffer =
    ap (λ l. take done.written buffer ++ (l ++ drop rest after)) same
    ∙ ap (λ l. take done.written buffer ++ l) (take-append-drop rest after)
    ∙ take-append-drop done.written buffer in (
      subst (AreConverted f calls skip input done old) (sym unchanged) h,
      (
        line,
        lines,
        next,
        subst (λ l. LineStops f calls skip line l error) (take_all rest after short ∙ left) stops,
      ),
    )

-- before the first line
pub converted_none : (f : Forms) (calls : List Call) (skip : Bool) (input old : List ℕ)
    → AreConverted f calls skip input none old old
converted_none f calls skip input old = record {
  lines = [];
  results = [];
  are_results = tt;
  read = refl;
  inside = omega arith;
  count = refl;
  failed = refl;
  written = (refl, omega arith, refl);
}
