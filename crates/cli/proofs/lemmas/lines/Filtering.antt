-- The state of a filter after some lines, and its result.
use Rattle.std.proofs.{Common.{◌≡◌, ◌≢◌, ℕ, ◌+◌, ◌≤◌, ◌^◌, List, [], ◌∷◌, ◌++◌, append_assoc, Option, Some, None, Ok, Err, Result, Bool, true, false, ◌&&◌, inl, inr, refl, sym, ap, subst, ◌∙◌, arith}, lemmas.{Bool.and_from, List.{append-nil, flat_map_more, Folds.list_all-append}, Grind.common_steps}, KnownBytes.{Appends-nil, Appends-trans}}
use Rattle.std.specs.{Prelude.{is_ok, IfSome, IsSomeAnd}, List.FoldsTo, Io.{KnownBytes.Appends, BufRead.drop_through}, declared.io.ErrorKind.ErrorKind}
use Rattle.decimal_digits.specs.AppendsPrefix.{AppendsPrefix}
use Rattle.fixed_decimal.proofs.Calling.{then_prefix}
use Rattle.cli.specs.{declared.{program.error.ProgramError.{ProgramError, TheVariants.{Line, LongLine, Input, Output}}, lines.{filter.Filter.Filter, rows.FilteredRow.FilteredRow}, words.options.OnError.TheVariants.Stop}, Filter.{Effects, FilteredLine, IsErrorOfReading, IsResultOfRow, lines_of_row, FiltersLine, FiltersNext, output_of_line, errors_of_line}, Input.IsRowRead, Lines.{rows_of, AreRead, number_after, AreResults, output_of, errors_of, have_texts, EndsWith, Returns, Filters, IsConsumed}}
use Rattle.conversions.specs.Lines.{lines_of}
use Rattle.cli.proofs.lemmas.lines.FirstLine.{lines_first}

-- ---- What was read.

-- the first row is the one that was read
pub row_first :
    (has_records : Bool) (rest row : List ℕ) (c : Option (List ℕ)) → IsRowRead has_records true rest row c
    → IsSomeAnd c (λ left. rows_of has_records rest ≡ row ∷ rows_of has_records left)
row_first true rest row c read = read
row_first false rest row c (some, is, left) =
    rw left (lines_first rest some ∙ ap (λ l. l ∷ lines_of (drop_through 10 rest)) (sym is))

-- no byte is left
no_row : (has_records : Bool) (rest : List ℕ) (c : Option (List ℕ)) → IsRowRead has_records false rest [] c → rest ≡ []
no_row true rest c none = none.0
no_row false rest c none = none.0

module _ (filter : Filter) where
  read_none : (a : Option (List ℕ)) → AreRead filter a [] a
  read_none None = tt
  read_none (Some bytes) = refl

  -- one more row was read
  read_more :
      (a b c : Option (List ℕ)) (rows : List (List ℕ)) (row : List ℕ) → AreRead filter a rows b
      → IfSome b (λ rest. IsRowRead filter.has_records true rest row c) → AreRead filter a (rows ++ (row ∷ [])) c
  read_more None b c rows row h is = tt
  read_more (Some bytes) None c rows row h is = absurd h
  read_more (Some bytes) (Some rest) None rows row h is = absurd (row_first filter.has_records rest row None is)
  read_more (Some bytes) (Some rest) (Some left) rows row h is =
      h
      ∙ ap (λ l. rows ++ l) (row_first filter.has_records rest row (Some left) is)
      ∙ sym (append_assoc rows (row ∷ []) (rows_of filter.has_records left))

  -- no row is left
  read_all :
      (a b c : Option (List ℕ)) (rows : List (List ℕ)) → AreRead filter a rows b
      → IfSome b (λ rest. IsRowRead filter.has_records false rest [] c) → AreRead filter a rows (Some [])
  read_all None b c rows h is = tt
  read_all (Some bytes) None c rows h is = absurd h
  read_all (Some bytes) (Some rest) c rows h is = rw (no_row filter.has_records rest c is) at h

  -- ---- The results of one row more.

  results_more :
      (number : ℕ) (rows : List (List ℕ)) (results : List FilteredLine) (row : List ℕ) (r : FilteredLine)
      → AreResults filter number rows results → IsResultOfRow filter (number_after filter number rows) row r
      → AreResults filter number (rows ++ (row ∷ [])) (results ++ (r ∷ []))
  results_more number [] [] row r h is = (is, tt)
  results_more number (x ∷ xs) (y ∷ ys) row r (first, rest) is =
      (first, results_more (number + lines_of_row filter x) xs ys row r rest is)
  results_more number rows results row r never is = absurd never

  number_more :
      (number : ℕ) (rows : List (List ℕ)) (row : List ℕ)
      → number_after filter number (rows ++ (row ∷ [])) ≡ number_after filter number rows + lines_of_row filter row
  number_more number [] row = refl
  number_more number (x ∷ xs) row = number_more (number + lines_of_row filter x) xs row

-- rows that have texts have no errors
no_errors : (results : List FilteredLine) → have_texts results ≡ true → errors_of results ≡ []
no_errors [] h = refl
no_errors (r ∷ results) h = grind (arith, h, no_errors results)

-- a fold over two lists, one after the other
folds_both :
    {P A : Type 0} (R : P → A → P → Type 0) (p : P) (xs : List A) (q : P) (ys : List A) (r : P)
    → FoldsTo R p xs q → FoldsTo R q ys r → FoldsTo R p (xs ++ ys) r
folds_both R p [] q ys r same more = subst (λ p. FoldsTo R p ys r) (sym same) more
folds_both R p (x ∷ xs) q ys r (j, step, rest) more = (j, step, folds_both R j xs q ys r rest more)

-- all that was appended is a prefix
pub whole : (a b : Option (List ℕ)) (text : List ℕ) → Appends a b text → AppendsPrefix a b text
whole a b text p = (text, [], append-nil text, p)

-- ---- The state of the filter.

-- from the end of some effects to this input, output and diagnostics
abbrev pub from_end :
    {D : Type 0} → Effects D → Option (List ℕ) → Option ErrorKind → Option (List ℕ) → D → Effects D
from_end e input failure output diagnostics = record {
  input = record { before = e.input.after; after = input };
  failure = failure;
  output = record { before = e.output.after; after = output };
  diagnostics = record { before = e.diagnostics.after; after = diagnostics };
}

-- from their start
abbrev pub from_start :
    {D : Type 0} → Effects D → Option (List ℕ) → Option ErrorKind → Option (List ℕ) → D → Effects D
from_start e input failure output diagnostics = record {
  input = record { before = e.input.before; after = input };
  failure = failure;
  output = record { before = e.output.before; after = output };
  diagnostics = record { before = e.diagnostics.before; after = diagnostics };
}

-- the rows from the first line up to the one with this number were read, the output of their results was appended, and
-- their errors were reported
pub record Filtered
    {D : Type 0} (reports : D → ProgramError → D → Type 0) (filter : Filter) (first number : ℕ) (texts : Bool)
    (e : Effects D)
    : Type 0
  where
    pub rows : List (List ℕ)
    pub results : List FilteredLine
    pub are_results : AreResults filter first rows results
    pub read : AreRead filter e.input.before rows e.input.after
    pub counted : number_after filter first rows ≡ number
    pub output : Appends e.output.before e.output.after (output_of results)
    pub reported : FoldsTo reports e.diagnostics.before (errors_of results) e.diagnostics.after
    pub texts_of : texts ≡ have_texts results
    pub stop : filter.on_error ≡ Stop → have_texts results ≡ true

-- before the first row
pub filtered_start :
    {D : Type 0} (reports : D → ProgramError → D → Type 0) (filter : Filter) (first : ℕ) (a : Option (List ℕ))
    (f : Option ErrorKind) (o : Option (List ℕ)) (d : D)
    → Filtered reports filter first first true (record {
      input = record { before = a; after = a };
      failure = f;
      output = record { before = o; after = o };
      diagnostics = record { before = d; after = d };
    })
filtered_start reports filter first a f o d = record {
  rows = [];
  results = [];
  are_results = tt;
  read = read_none filter a;
  counted = refl;
  output = Appends-nil o;
  reported = refl;
  texts_of = refl;
  stop = λ _. refl;
}

module _
    {D : Type 0} {reports : D → ProgramError → D → Type 0} {filter : Filter} {first number : ℕ} {t : Bool}
    {e : Effects D} (h : Filtered reports filter first number t e)
  where
    -- ---- One more row.

    results_next :
        (row : List ℕ) (r : FilteredLine) → IsResultOfRow filter number row r
        → AreResults filter first (h.rows ++ (row ∷ [])) (h.results ++ (r ∷ []))
    results_next row r is = results_more filter first h.rows h.results row r h.are_results (rw (← h.counted) at is)

    module _ (r : FilteredLine) where
      output_next :
          (q : Option (List ℕ)) → Appends e.output.after q (output_of_line r)
          → Appends e.output.before q (output_of (h.results ++ (r ∷ [])))
      output_next q put =
          subst (Appends e.output.before q) (flat_map_more output_of_line [] h.results r)
          (Appends-trans e.output.before e.output.after q (output_of h.results) _ h.output put)

      prefix_next :
          (q : Option (List ℕ)) → AppendsPrefix e.output.after q (output_of_line r)
          → AppendsPrefix e.output.before q (output_of (h.results ++ (r ∷ [])))
      prefix_next q put =
          subst (AppendsPrefix e.output.before q) (flat_map_more output_of_line [] h.results r)
          (then_prefix e.output.before e.output.after q (output_of h.results) _ h.output put)

      reported_next :
          (g : D) → FoldsTo reports e.diagnostics.after (errors_of_line r) g
          → FoldsTo reports e.diagnostics.before (errors_of (h.results ++ (r ∷ []))) g
      reported_next g more =
          subst (λ errors. FoldsTo reports e.diagnostics.before errors g)
          (flat_map_more errors_of_line [] h.results r)
          (folds_both reports e.diagnostics.before (errors_of h.results) e.diagnostics.after _ g h.reported more)

      texts_next : have_texts (h.results ++ (r ∷ [])) ≡ (have_texts h.results && is_ok r)
      texts_next = grind (arith, common_steps, list_all-append)

      stop_next :
          (filter.on_error ≡ Stop → is_ok r ≡ true) → filter.on_error ≡ Stop
          → have_texts (h.results ++ (r ∷ [])) ≡ true
      stop_next text stop = texts_next ∙ and_from _ _ (h.stop stop) (text stop)

    -- ---- The input, the failure of the reader, the output and the diagnostics after the next row.

    module _ (c : Option (List ℕ)) (f : Option ErrorKind) (q : Option (List ℕ)) (g : D) where
      -- it was filtered
      pub filtered_more :
          (next : FilteredRow) → FiltersNext reports filter number (from_end e c f q g) (Ok (Some next))
          → Filtered reports filter first (number + next.lines) (t && next.has_text) (from_start e c f q g)
      filtered_more next (row, is, lines, (r, of_row, put, more, text, stop)) = record {
        rows = h.rows ++ (row ∷ []);
        results = h.results ++ (r ∷ []);
        are_results = results_next row r of_row;
        read = read_more filter e.input.before e.input.after c h.rows row h.read is;
        counted = rw (h.counted, ← lines) at (number_more filter first h.rows row);
        output = output_next r q put;
        reported = reported_next r g more;
        texts_of = rw (h.texts_of, text) (sym (texts_next r));
        stop = stop_next r (λ is. sym text ∙ stop is);
      }

      -- nothing was written, and the filter returned this
      filters :
          (result : Result Bool ProgramError) → Returns filter number e.input.before f h.rows h.results result
          → q ≡ e.output.after → g ≡ e.diagnostics.after
          → Filters AppendsPrefix reports filter first (from_start e c f q g) result
      filters result how out err = record {
        rows = h.rows;
        results = h.results;
        are_results = h.are_results;
        returns = rw h.counted how;
        stop = h.stop;
        whole = λ _. rw out h.output;
        part = rw out (whole e.output.before e.output.after _ h.output);
        reported = rw err h.reported;
      }

      -- there is none
      pub filters_all :
          FiltersNext reports filter number (from_end e c f q g) (Ok None)
          → Filters AppendsPrefix reports filter first (from_start e c f q g) (Ok t)
      filters_all (none, (out, err)) =
          filters (Ok t) (read_all filter e.input.before e.input.after c h.rows h.read none, h.texts_of) out err

      -- and where each row has a text, nothing was reported
      pub silent_all :
          FiltersNext reports filter number (from_end e c f q g) (Ok None) → t ≡ true
          → g ≡ e.diagnostics.before
      silent_all (none, (out, err)) texts =
          err ∙ sym (subst (λ errors. FoldsTo reports e.diagnostics.before errors e.diagnostics.after)
          (no_errors h.results (sym h.texts_of ∙ texts)) h.reported)

      -- it could not be read
      filters_reading :
          (error : ProgramError) → IsErrorOfReading number f error → q ≡ e.output.after
          → g ≡ e.diagnostics.after → Filters AppendsPrefix reports filter first (from_start e c f q g) (Err error)
      filters_reading (LongLine at) (same, memory) out err =
          filters (Err (LongLine at)) ((e.input.after, h.read), (same, memory)) out err
      filters_reading Input failed out err = filters (Err Input) ((e.input.after, h.read), inl failed) out err
      filters_reading error never out err = absurd never

      -- it was read, and it has this error
      filters_line :
          (row : List ℕ) (error : ProgramError)
          → IfSome e.input.after (λ rest. IsRowRead filter.has_records true rest row c)
          → FiltersLine reports filter number row (from_end e c f q g).output
          (from_end e c f q g).diagnostics (Err error)
          → Filters AppendsPrefix reports filter first (from_start e c f q g) (Err error)
      filters_line row (Line at error) is (why, out, err) =
          filters (Err (Line at error)) (
            (e.input.after, h.read),
            (row, (c, read_more filter e.input.before e.input.after c h.rows row h.read is), why),
          ) out err
      filters_line row Output is (r, of_row, put, more, text) = record {
        rows = h.rows ++ (row ∷ []);
        results = h.results ++ (r ∷ []);
        are_results = results_next row r of_row;
        returns = ((c, read_more filter e.input.before e.input.after c h.rows row h.read is), tt);
        stop = stop_next r text;
        whole = λ other. absurd (other refl);
        part = prefix_next r q put;
        reported = reported_next r g more;
      }
      filters_line row error is h = absurd h.0

      -- it has this error, or could not be read
      pub filters_error :
          (error : ProgramError) → FiltersNext reports filter number (from_end e c f q g) (Err error)
          → Filters AppendsPrefix reports filter first (from_start e c f q g) (Err error)
      filters_error error (inl (row, is, fails)) = filters_line row error is fails
      filters_error error (inr (reading, (out, err))) = filters_reading error reading out err

      -- what is left after it
      pub consumed_next :
          (error : ProgramError) → FiltersNext reports filter number (from_end e c f q g) (Err error)
          → IsConsumed filter first (record { before = e.input.before; after = c }) error
      consumed_next (Line at error) (inl (row, is, ((same, other, real, fails), out, err))) =
          (h.rows, row, same ∙ sym h.counted, read_more filter e.input.before e.input.after c h.rows row h.read is)
      consumed_next (Line at error) (inr (never, silent)) = absurd never
      consumed_next error fails = tt

    -- after all lines that a `u64` counts
    pub filters_many : 2 ^ 64 ≤ number → Filters AppendsPrefix reports filter first e (Err Input)
    filters_many all =
        filters e.input.after e.failure e.output.after e.diagnostics.after (Err Input)
        ((e.input.after, h.read), inr all) refl refl

-- ---- A row, and the others.

-- whether it has a text, and each other row
abbrev pub and_all : Bool → Result Bool ProgramError → Result Bool ProgramError
and_all has_text (Ok texts) = Ok (has_text && texts)
and_all has_text (Err error) = Err error

module _ (filter : Filter) where
  -- one row before others was read
  read_before :
      (a b left : Option (List ℕ)) (row : List ℕ) (rows : List (List ℕ))
      → IfSome a (λ bytes. IsRowRead filter.has_records true bytes row b) → AreRead filter b rows left
      → AreRead filter a (row ∷ rows) left
  read_before None b left row rows is h = tt
  read_before (Some bytes) None left row rows is h = absurd (row_first filter.has_records bytes row None is)
  read_before (Some bytes) (Some rest) None row rows is h = absurd h
  read_before (Some bytes) (Some rest) (Some l) row rows is h =
      row_first filter.has_records bytes row (Some rest) is ∙ ap (λ x. row ∷ x) h

  ends_before :
      (next : ℕ) (a b : Option (List ℕ)) (f : Option ErrorKind) (row : List ℕ) (rows : List (List ℕ))
      (error : ProgramError) → IfSome a (λ bytes. IsRowRead filter.has_records true bytes row b)
      → EndsWith filter next b f rows error → EndsWith filter next a f (row ∷ rows) error
  ends_before next a b f row rows (Line number error) is (last, (left, read), why) =
      (last, (left, read_before a b left row (rows ++ (last ∷ [])) is read), why)
  ends_before next a b f row rows (LongLine number) is h = h
  ends_before next a b f row rows Input is h = h
  ends_before next a b f row rows Output is h = tt
  ends_before next a b f row rows error is h = absurd h

  returns_before :
      (next : ℕ) (a b : Option (List ℕ)) (f : Option ErrorKind) (row : List ℕ) (rows : List (List ℕ))
      (r : FilteredLine) (results : List FilteredLine) (has_text : Bool) (returned : Result Bool ProgramError)
      → IfSome a (λ bytes. IsRowRead filter.has_records true bytes row b) → has_text ≡ is_ok r
      → Returns filter next b f rows results returned
      → Returns filter next a f (row ∷ rows) (r ∷ results) (and_all has_text returned)
  returns_before next a b f row rows r results has_text (Ok texts) is text (all, same) =
      (read_before a b (Some []) row rows is all, rw (text, same) refl)
  returns_before next a b f row rows r results has_text (Err error) is text ((left, read), ends) =
      ((left, read_before a b left row rows is read), ends_before next a b f row rows error is ends)

-- an error that is not that of the output
other_error : (has_text : Bool) (returned : Result Bool ProgramError) → and_all has_text returned ≢ Err Output
    → returned ≢ Err Output
other_error has_text (Ok texts) other = λ is. cc
other_error has_text (Err error) other = other

module _
    {D : Type 0} (reports : D → ProgramError → D → Type 0) (filter : Filter) (first : ℕ) (row : List ℕ)
    (a o : Option (List ℕ)) (d : D) (e : Effects D)
  where
    -- the row was filtered, and then the others
    pub filters_before :
        (has_text : Bool) (returned : Result Bool ProgramError)
        → IfSome a (λ bytes. IsRowRead filter.has_records true bytes row e.input.before)
        → FiltersLine reports filter first row (record { before = o; after = e.output.before })
        (record { before = d; after = e.diagnostics.before }) (Ok has_text)
        → Filters AppendsPrefix reports filter (first + lines_of_row filter row) e returned
        → Filters AppendsPrefix reports filter first (record {
          input = record { before = a; after = e.input.after };
          failure = e.failure;
          output = record { before = o; after = e.output.after };
          diagnostics = record { before = d; after = e.diagnostics.after };
        }) (and_all has_text returned)
    filters_before has_text returned is (r, of_row, put, reported, text, stop) h = record {
      rows = row ∷ h.rows;
      results = r ∷ h.results;
      are_results = (of_row, h.are_results);
      returns =
          returns_before filter (number_after filter (first + lines_of_row filter row) h.rows) a e.input.before
          e.failure row h.rows r h.results has_text returned is text h.returns;
      stop = λ stopped. and_from _ _ (sym text ∙ stop stopped) (h.stop stopped);
      whole = λ other.
          Appends-trans o e.output.before e.output.after (output_of_line r) (output_of h.results) put
          (h.whole (other_error has_text returned other));
      part = then_prefix o e.output.before e.output.after (output_of_line r) (output_of h.results) put h.part;
      reported =
          folds_both reports d (errors_of_line r) e.diagnostics.before (errors_of h.results) e.diagnostics.after
          reported h.reported;
    }

    -- or it has an error
    pub filters_first :
        (error : ProgramError) → IfSome a (λ bytes. IsRowRead filter.has_records true bytes row e.input.after)
        → FiltersLine reports filter first row (record { before = o; after = e.output.after })
        (record { before = d; after = e.diagnostics.after }) (Err error)
        → Filters AppendsPrefix reports filter first (record {
          input = record { before = a; after = e.input.after };
          failure = e.failure;
          output = record { before = o; after = e.output.after };
          diagnostics = record { before = d; after = e.diagnostics.after };
        }) (Err error)
    filters_first error is fails =
        filters_error (filtered_start reports filter first a e.failure o d) e.input.after e.failure e.output.after
        e.diagnostics.after error (inl (row, is, fails))
